-- There is nothing.
use Rattle.std.proofs.Common.{List, Option, None, sym, subst}
use Rattle.loc_pool.specs.{declared.Link.Link, Maps.Map, Rows.Row}
use Rattle.loc_persist.specs.Stored.{IsStored}
use Rattle.loc_persist.proofs.Stores.{stored-none}
use Rattle.loc_persist.proofs.store.Store.new.Goals as goal

pub invariant_of-result : goal.invariant_of-result
invariant_of-result c =
    subst (λ (q : Map Row × List (Option Link) × List Link). IsStored (record { rows = q.0; roots = q.1; root = None; sealed_nodes = 0; copied = q.2; made = 0; changed = 0; room = 0 }) c.new.result.spare)
    (λ i. ((sym c.new.ensures i).rows, sym c.new-3.ensures i, sym c.new-2.ensures i)) (stored-none c.new.result.spare)
