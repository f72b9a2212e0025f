use Rattle.std.specs.{BTreeMap.get_by, Cmp.Lexicographic.slice_cmp, Ordering.nat_cmp}
use Rattle.loc_dissolve.specs.Grouping.{ids_of}
use Rattle.loc_dissolve.proofs.Names.{AreNumbered}
use Rattle.loc_dissolve.proofs.ids.group_ids.Given as goal

-- the features before are numbered
abbrev pub invariant-loop-n : goal.invariant-loop-n
invariant-loop-n l = AreNumbered (ids_of l.features) l.firsts.items l.groups.items (λ q. get_by (λ k. slice_cmp nat_cmp q k.now) l.known) l.n
