use Rattle.std.proofs.Common.{◌≡◌, ◌+◌, ◌<◌, true, [], List, length, get_or, sym, subst}
use Rattle.std.specs.Prelude.{All, ◌==◌, nat_lt}
use Rattle.std.proofs.lemmas.Option.{get_or_from_slice_get}
use Rattle.loc_spec_plane.specs.Lists.{is_rising, odd_many}
use Rattle.loc_valid.specs.{declared.least.Least.Least, Hits.AreLeast, Hits.AreOddLists}
use Rattle.loc_valid.proofs.OddLists.{list_more, members_climb}
use Rattle.loc_valid.proofs.passes.odd_lists.Goals as goal

pub least_odd-requires-clause-in_range : goal.least_odd-requires-clause-in_range
least_odd-requires-clause-in_range c =
    let rows = c.args.legend.now in
    let n = c.loop-n.n in
    subst (All (λ r. r < length c.args.homes.now)) (get_or_from_slice_get rows.lists n c.cover.result.now [] c.cover.ensures)
    (subst (λ many. All (λ r. r < many) (get_or rows.lists n [])) c.requires.named (c.law.ensures.lists_named n))

pub least_odd-requires-clause-climbs : goal.least_odd-requires-clause-climbs
least_odd-requires-clause-climbs c =
    let rows = c.args.legend.now in
    let n = c.loop-n.n in
    let is = get_or_from_slice_get rows.lists n c.cover.result.now [] c.cover.ensures in
    members_climb c.args.homes.now c.cover.result.now c.requires.climbing
    (subst (λ xs. is_rising nat_lt xs ≡ true) is (c.law.ensures.lists.each_rises n))
    (subst (All (λ r. r < length c.args.homes.now)) is (subst (λ many. All (λ r. r < many) (get_or rows.lists n [])) c.requires.named (c.law.ensures.lists_named n)))

pub loop-n-preserved : goal.loop-n-preserved
loop-n-preserved c =
    let rows = c.args.legend.now in
    let n = c.loop-n.n in
    subst (AreOddLists c.args.homes.now rows.lists (n + 1)) (sym {A = List Least} c.in_ok-push.ensures.items)
    (list_more c.args.homes.now rows.lists n c.loop-n.odd.items c.least_odd.result c.loop-n.invariant
    (subst (λ xs. AreLeast (λ m. odd_many (λ q. get_or c.args.homes.now q 0 == m) xs) c.least_odd.result) (sym (get_or_from_slice_get rows.lists n c.cover.result.now [] c.cover.ensures)) c.least_odd.ensures))
