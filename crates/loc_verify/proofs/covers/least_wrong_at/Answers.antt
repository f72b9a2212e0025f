use Rattle.std.proofs.Common.{◌≡◌, ◌+◌, ◌<◌, ◌∙◌, sym, ap, subst, take, get_or, arith}
use Rattle.std.proofs.{lemmas.Bool.both_ways, lemmas.List.take_all, lemmas.List.take_more}
use Rattle.loc_spec_plane.specs.{Tables.lo_of, Covers.cover_above}
use Rattle.loc_cover.specs.Legends.{list_above}
use Rattle.loc_verify.specs.Least.{AreCoversBefore, IsLeastWith}
use Rattle.loc_verify.proofs.Wrong.{IsLeastAmong, among_all, among_more, among_other, before_more, below_is, member_at, there_at}
use Rattle.loc_verify.proofs.covers.least_wrong_at.Goals as goal
use Rattle.loc_verify.proofs.covers.least_wrong_at.Goals.{then-is_between+in_ok-put_above, else-is_between}

pub returns-then-first-past : goal.returns-then-first-past
returns-then-first-past c = λ e fits begins. (let range = (c.beginning-first.ensures.exact e fits).0 begins in let low = range.0 in let high = range.1 in absurd (omega (arith, low, high, c.if-first-past.true)))

pub put_above-requires-clause-in_range : goal.put_above-requires-clause-in_range
put_above-requires-clause-in_range c = (member_at c.args.table.now c.law.ensures.in_order c.args.corner c.requires.in_range c.args.list.now c.requires.list c.loop-edge.edge-index c.loop-edge-test.true).0

pub put_above-requires-clause-just_below : goal.put_above-requires-clause-just_below
put_above-requires-clause-just_below c =
    let fits = (member_at c.args.table.now c.law.ensures.in_order c.args.corner c.requires.in_range c.args.list.now c.requires.list c.loop-edge.edge-index c.loop-edge-test.true).0 in
    below_is c.args.table.now c.law.ensures.in_order c.args.corner c.requires.in_range c.args.list.now c.requires.list c.loop-edge.edge-index c.loop-edge.below c.loop-edge-test.true c.loop-edge.invariant.below ((c.beginning-first.ensures.exact _ fits).1 (c.is_between.ensures.0 c.if-is_between.true))

pub put_above-requires-clause-earlier : goal.put_above-requires-clause-earlier
put_above-requires-clause-earlier c =
    let fits = (member_at c.args.table.now c.law.ensures.in_order c.args.corner c.requires.in_range c.args.list.now c.requires.list c.loop-edge.edge-index c.loop-edge-test.true).0 in
    subst (AreCoversBefore c.args.table.now c.args.legend.now) (sym ((c.beginning-first.ensures.exact _ fits).1 (c.is_between.ensures.0 c.if-is_between.true))) c.requires.earlier

pub put_above-requires-clause-there : goal.put_above-requires-clause-there
put_above-requires-clause-there c =
    let fits = (member_at c.args.table.now c.law.ensures.in_order c.args.corner c.requires.in_range c.args.list.now c.requires.list c.loop-edge.edge-index c.loop-edge-test.true).0 in
    there_at c.args.table.now c.args.corner (get_or c.args.list.now c.loop-edge.edge-index 0) c.loop-edge.covers.items c.loop-edge.below ((c.beginning-first.ensures.exact _ fits).1 (c.is_between.ensures.0 c.if-is_between.true)) c.loop-edge.invariant.covers

pub above-requires : goal.above-requires
above-requires c = subst (λ n. get_or c.args.list.now c.loop-edge.edge-index 0 < n) (sym c.requires.as_many) (member_at c.args.table.now c.law.ensures.in_order c.args.corner c.requires.in_range c.args.list.now c.requires.list c.loop-edge.edge-index c.loop-edge-test.true).0

pub loop-edge-preserved : goal.loop-edge-preserved
loop-edge-preserved c =
    let t = c.args.table.now in
    let list = c.args.list.now in
    let k = c.loop-edge.edge-index in
    let e = get_or list k 0 in
    let inv = c.loop-edge.invariant in
    let fits = (member_at t c.law.ensures.in_order c.args.corner c.requires.in_range list c.requires.list k c.loop-edge-test.true).0 in
    let range = c.beginning-first.ensures.exact e fits in
    elim c.if-is_between.branch [
      | then-is_between+in_ok-put_above w ↦ record {
        below = before_more list k c.if-is_between.below w.below-is;
        covers = λ d some begins. ap (λ (v : _). v.items) w.covers-is ∙ (w.in_ok-put_above.ensures ∙ (let same : e ≡ d = cc (w.below-is, some) in ap (cover_above t) same));
        least = subst (IsLeastAmong t c.args.corner (λ e. list_above c.args.legend.now e ≡ cover_above t e) (take (k + 1) list)) (sym w.least-is)
            (subst (λ seen. IsLeastAmong t c.args.corner (λ e. list_above c.args.legend.now e ≡ cover_above t e) seen w.with_edge-least.result) (sym (take_more list k 0 c.loop-edge-test.true))
            (among_more t c.args.corner (λ e. list_above c.args.legend.now e ≡ cover_above t e) (take k list) e c.loop-edge.least w.with_edge-least.result (range.1 (c.is_between.ensures.0 w.if-is_between.true))
            (subst (λ holds. IsLeastWith holds c.loop-edge.least e w.with_edge-least.result) (let named = w.above.ensures in let covers = w.as_slice.ensures.value ∙ w.in_ok-put_above.ensures in ap (λ xs. xs ≡ w.as_slice.result.now) named ∙ ap (λ ys. list_above c.args.legend.now e ≡ ys) covers) w.with_edge-least.ensures) inv.least));
      }
      | else-is_between w ↦ (let other = λ (begins : lo_of t e ≡ c.args.corner). both_ways c.is_between.result w.if-is_between.false (c.is_between.ensures.1 (range.0 begins)) in record {
        below = before_more list k c.if-is_between.below w.below-is;
        covers = λ d some begins. absurd (other ((let same : e ≡ d = cc (w.below-is, some) in ap (lo_of t) same) ∙ begins));
        least = subst (IsLeastAmong t c.args.corner (λ e. list_above c.args.legend.now e ≡ cover_above t e) (take (k + 1) list)) (sym w.least-is)
            (subst (λ seen. IsLeastAmong t c.args.corner (λ e. list_above c.args.legend.now e ≡ cover_above t e) seen c.loop-edge.least) (sym (take_more list k 0 c.loop-edge-test.true))
            (among_other t c.args.corner (λ e. list_above c.args.legend.now e ≡ cover_above t e) (take k list) e c.loop-edge.least other inv.least));
      })
    ]

pub returns : goal.returns
returns c = among_all c.args.table.now c.args.corner (λ e. list_above c.args.legend.now e ≡ cover_above c.args.table.now e) c.law.ensures.in_order c.requires.even.apart c.requires.in_range c.args.list.now c.requires.list c.loop-edge.least
    (subst (λ seen. IsLeastAmong c.args.table.now c.args.corner (λ e. list_above c.args.legend.now e ≡ cover_above c.args.table.now e) seen c.loop-edge.least) (take_all c.loop-edge.edge-index c.args.list.now c.loop-edge-test.false) c.loop-edge.invariant.least)
