use Rattle.std.proofs.Common.{◌≡◌, ℕ, ◌+◌, ◌-◌, ◌<◌, List, length, take, ap, ◌∙◌, subst, arith}
use Rattle.std.proofs.lemmas.List.{take_more, take_all}
use Rattle.std.specs.Bool.{then_some}
use Rattle.loc_laws_traps.specs.Sets.{behind_left}
use Rattle.loc_traps.specs.{Walks.cut_of, Walks.IsNumberedAt, Walks.IsNumbered, declared.walk.Cut.Cut}
use Rattle.loc_traps.specs.declared.map.Split.{Split}
use Rattle.loc_traps.proofs.Numbering.{numbered_none, numbered_at, numbered_more}
use Rattle.loc_traps.proofs.pieces.splits.Goals as goal

pub loop-cut-init : goal.loop-cut-init
loop-cut-init c = numbered_none c.args.rows.now c.args.ends.0 c.args.ends.1 (length c.args.walk.now.overs.items - 1) (length c.args.walk.now.unders.items - 1) (behind_left c.args.first.left c.args.ends.0) c.new-splits.result.items c.new-splits.ensures.items

pub loop-cut-preserved : goal.loop-cut-preserved
loop-cut-preserved c =
    let rows = c.args.rows.now in
    let cuts = c.args.walk.now.cuts.items in
    let i = c.loop-cut.cut-index in
    let overs = length c.args.walk.now.overs.items - 1 in
    let unders = length c.args.walk.now.unders.items - 1 in
    let has_before = behind_left c.args.first.left c.args.ends.0 in
    let same : cut_of c.deref-cut-items.result.now i ≡ cut_of cuts i = ap (λ (cs : List Cut). cut_of cs i) c.deref-cut-items.ensures.value in
    let real : i < length cuts = (let l = ap length c.deref-cut-items.ensures.value in omega arith) in
    let many_overs : c.len.result ≡ length c.args.walk.now.overs.items = omega arith in
    let many_unders : c.len-2.result ≡ length c.args.walk.now.unders.items = omega arith in
    let overs_is : c.len.result - 1 ≡ overs = ap (λ n. n - 1) many_overs in
    let unders_is : c.len-2.result - 1 ≡ unders = ap (λ n. n - 1) many_unders in
    let here = cut_of c.deref-cut-items.result.now i in
    let split : Split = record { cut = here.row; before = c.then_some.result; above = length rows + here.over; below = length rows + (c.len.result - 1) + here.under; behind = c.then_some-in-loop-cut.result } in
    numbered_more rows c.args.ends.0 c.args.ends.1 overs unders has_before (take i cuts) (take (i + 1) cuts) c.loop-cut.splits.items c.push.new.self.items (cut_of cuts i) split
    (take_more cuts i (record { row = 0; over = 0; under = 0 }) real) c.in_ok-push.ensures.items
    (subst (λ (x : Cut). IsNumberedAt rows c.args.ends.0 c.args.ends.1 overs unders has_before x split) same
    (numbered_at rows c.args.ends.0 c.args.ends.1 overs unders has_before here (c.len.result - 1) (c.len-2.result - 1) c.behind_left-in-loop-cut.result c.before_right.result c.behind_left.result overs_is unders_is c.behind_left-in-loop-cut.ensures c.before_right.ensures c.behind_left.ensures
    c.then_some.result c.then_some-in-loop-cut.result c.then_some.ensures (c.then_some-in-loop-cut.ensures ∙ ap (λ (n : ℕ). then_some c.before_right.result (length rows + (c.len.result - 1) + (c.len-2.result - 1) + n)) c.count.ensures))) c.loop-cut.invariant

pub returns : goal.returns
returns c =
    let cuts = c.args.walk.now.cuts.items in
    let all : take c.loop-cut.cut-index cuts ≡ cuts = (let l = ap length c.deref-cut-items.ensures.value in take_all c.loop-cut.cut-index cuts (omega arith)) in
    subst (λ (cs : List Cut). IsNumbered c.args.rows.now c.args.ends.0 c.args.ends.1 (length c.args.walk.now.overs.items - 1) (length c.args.walk.now.unders.items - 1) (behind_left c.args.first.left c.args.ends.0) cs c.loop-cut.splits.items) all c.loop-cut.invariant
