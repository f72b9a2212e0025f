use Rattle.std.proofs.Common.{◌≡◌, rules}
use Rattle.std.specs.Ordering.{is_lt}
use Rattle.std.proofs.lemmas.Fn.{always_returns_same}
use Rattle.loc_half.specs.Turns.{stands_before}
use Rattle.loc_half.proofs.Turning.{sorts, turns_sorted}
use Rattle.loc_half.proofs.turns.put_turns.Goals as goal

pub returns : goal.returns
returns c =
    let t = c.args.table.now in
    let corner = c.args.corner in
    turns_sorted t c.law.ensures.in_order c.requires.no_conflict corner _ _ c.in_ok-put_edges.ensures c.sort_unstable_by.ensures.permutation
    (c.sort_unstable_by.ensures.sorted (stands_before t corner) (sorts t c.law.ensures.in_order c.requires.no_conflict corner) (always_returns_same _ (λ a r. is_lt r ≡ stands_before t corner a.0.now a.1.0.now) _ (λ a r q k. search rules)))
