use Rattle.std.proofs.Common.{◌∷◌, [], ◌++◌, map, ap, ◌∙◌}
use Rattle.std.specs.Prelude.{unwrap_or}
use Rattle.std.proofs.lemmas.List.{map-append}
use Rattle.loc_persist.specs.Roots.{root_by}
use Rattle.loc_persist.proofs.Places.{root-of}
use Rattle.loc_persist.proofs.roots.Roots.push.Goals as goal

pub returns-clause-pushed : goal.returns-clause-pushed
returns-clause-pushed c =
    ap (map root_by) c.in_ok-push.ensures.items ∙ map-append root_by c.self.inside.links.items (c.unwrap_or.result ∷ [])
    ∙ ap (λ to. map root_by c.self.inside.links.items ++ to ∷ []) (root-of c.args.root c.unwrap_or.result c.requires (c.unwrap_or.ensures ∙ ap (unwrap_or c.args.root) c.default.ensures)) ∙ ap (λ xs. xs ++ c.args.root ∷ []) c.self.view_is
