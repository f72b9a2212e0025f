use Rattle.std.proofs.Common.{[], ◌∷◌, ◌++◌, List, ap, ◌∙◌}
use Rattle.std.specs.Prelude.{Option, None}
use Rattle.loc_trapdag.specs.declared.index.Step.{Step}
use Rattle.loc_trapdag.proofs.Starting.{start_graph}
use Rattle.loc_trapdag.proofs.index.TrapIndex.start.Goals as goal

pub returns-clause-graph : goal.returns-clause-graph
returns-clause-graph c = λ t ok.
    start_graph c.in_ok-start.field-0 c.push.new.self.items c.in_ok-start.ensures.rows c.in_ok-start.ensures.live (c.in_ok-push.ensures.items ∙ ap (λ (xs : List (Option Step)). xs ++ None ∷ []) c.new-cuts.ensures.items) t (c.in_ok-start.ensures.is_map t ok)
