use Rattle.std.proofs.Common.{◌∙◌, ap}
use Rattle.loc_parts.proofs.copying.copy_feature.Goals as goal

pub returns : goal.returns
returns c =
    ap (λ id. record c.new.result { id = id }) (c.new.ensures.id ∙ (c.in_ok-id.ensures.items ∙ c.id.ensures.value))
    ∙ ap (λ polygons. record c.args.feature.now { polygons = polygons }) (c.new.ensures.polygons ∙ (c.in_ok-rings.ensures ∙ c.rings.ensures))
