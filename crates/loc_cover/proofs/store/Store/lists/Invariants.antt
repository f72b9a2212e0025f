use Rattle.std.proofs.Common.{◌≡◌, ◌++◌, map}
use Rattle.loc_cover.proofs.store.Store.lists.Given as goal

-- with the lists that are left they are all
abbrev pub invariant-loop-list : goal.invariant-loop-list
invariant-loop-list l = l.lists ++ map (λ list. list.now) l.list-iterator ≡ l.self.lists
