use Rattle.std.proofs.Common.{◌∙◌}
use Rattle.loc_spec_plane.specs.Rings.{touches, covers}
use Rattle.loc_features.proofs.Together.{sorted_pass}
use Rattle.loc_features.proofs.whole.name_at.Goals as goal

pub returns-clause-touching : goal.returns-clause-touching
returns-clause-touching g c layer is =
    let names = c.name_rest.ensures.names layer is (c.name_parts.ensures layer is) in
    c.sort.ensures.touching ∙ sorted_pass layer c.args.parted.now is (λ rings. touches rings c.args.found.now.point) c.name_rest.new.lists.touching names.touching

pub returns-clause-covering : goal.returns-clause-covering
returns-clause-covering g c layer is =
    let names = c.name_rest.ensures.names layer is (c.name_parts.ensures layer is) in
    c.sort.ensures.covering ∙ sorted_pass layer c.args.parted.now is (λ rings. covers rings c.args.found.now.point) c.name_rest.new.lists.covering names.covering
