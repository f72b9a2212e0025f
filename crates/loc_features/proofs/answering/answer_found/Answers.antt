use Rattle.loc_spec_plane.specs.Rings.{covers, touches}
use Rattle.loc_features.proofs.Answered.{passing_within, told_same}
use Rattle.loc_features.proofs.answering.answer_found.Goals as goal

pub put_told-requires-clause-touching : goal.put_told-requires-clause-touching
put_told-requires-clause-touching g c = passing_within (λ rings. touches rings c.args.found.now.point) c.args.layer.now _ (c.name_at.ensures.touching c.args.layer.now c.requires.parted)

pub put_told-requires-clause-covering : goal.put_told-requires-clause-covering
put_told-requires-clause-covering g c = passing_within (λ rings. covers rings c.args.found.now.point) c.args.layer.now _ (c.name_at.ensures.covering c.args.layer.now c.requires.parted)

pub returns-clause-puts : goal.returns-clause-puts
returns-clause-puts g c =
    let layer = c.args.layer.now in
    rw (told_same layer c.args.found.now.point _ (c.name_at.ensures.touching layer c.requires.parted) (c.name_at.ensures.covering layer c.requires.parted)) at c.put_told.ensures

pub returns-clause-within : goal.returns-clause-within
returns-clause-within g c = c.name_at.ensures.within c.args.layer.now c.requires.parted
