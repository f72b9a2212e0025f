use Rattle.std.proofs.Common.{List, [], ◌∷◌, ◌++◌, true, Bool, ap, ◌∙◌}
use Rattle.loc_spec_plane.specs.declared.Trap.{Trap}
use Rattle.loc_traps.specs.Meaning.{no_bounds}
use Rattle.loc_traps.proofs.Started.{start_is_map}
use Rattle.loc_traps.proofs.map.Traps.start.Goals as goal

pub returns-clause-is_map : goal.returns-clause-is_map
returns-clause-is_map c =
    start_is_map c.push.new.self.items c.push-2.new.self.items c.new.result.items c.new-2.result.items c.new-3.result.items
    (c.in_ok-push.ensures.items ∙ ap (λ (xs : List Trap). xs ++ no_bounds ∷ []) c.new-rows.ensures.items) (c.in_ok-push-2.ensures.items ∙ ap (λ (xs : List Bool). xs ++ true ∷ []) c.new-is_live.ensures.items)
    c.new.ensures.items c.new-2.ensures.items c.new-3.ensures.items
