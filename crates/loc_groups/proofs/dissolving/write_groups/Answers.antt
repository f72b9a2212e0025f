use Rattle.std.proofs.Common.{ap}
use Rattle.loc_spec_groups.specs.GroupTexts.{dissolved_text}
use Rattle.loc_course.proofs.Taken.{cut, done, takes_same}
use Rattle.loc_groups.proofs.dissolving.write_groups.Goals as goal

pub returns-in-Ok : goal.returns-in-Ok
returns-in-Ok g c = λ shelf k. done (dissolved_text c.args.scale c.args.groups.now) shelf k _ _ c.write_dissolved.result _ c.in-Ok.is
    (takes_same _ _ _ _ c.write_dissolved.result (ap (λ s. dissolved_text s c.args.groups.now) c.decimals.ensures.value) c.write_dissolved.ensures)

pub returns-in-Err : goal.returns-in-Err
returns-in-Err g c = λ shelf k. cut (dissolved_text c.args.scale c.args.groups.now) shelf k _ _ c.write_dissolved.result _ c.in-Err.is
    (takes_same _ _ _ _ c.write_dissolved.result (ap (λ s. dissolved_text s c.args.groups.now) c.decimals.ensures.value) c.write_dissolved.ensures)
