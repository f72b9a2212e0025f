use Rattle.std.proofs.Common.{◌≡◌, ◌<◌, ◌+◌, length, false, Bool, sym, ◌∙◌, subst, arith}
use Rattle.loc_spec_plane.specs.Points.{Edge, lies_on}
use Rattle.loc_laws_any.specs.Moments.{is_under}
use Rattle.loc_laws_rays.proofs.Parity.{exactly_one_comm}
use Rattle.loc_spans.proofs.Seen.{IsSeen, seen_more, seen_up_to, seen_all}
use Rattle.loc_spans.proofs.parities.row_parity.Goals as goal

pub loop-at-preserved : goal.loop-at-preserved
loop-at-preserved g c =
    let next = c.in-Some.ensures in
    let here : c.in-Some.at < length c.args.rows.now = next.1 in
    let row : Edge = c.index-rows-at.result in
    let under : Bool = c.in_ok-is_under.field-0 in
    record {
      within = omega (arith, here);
      up = omega (arith, c.loop-at.invariant.up, c.is_under.ensures.counted);
      few = omega (arith, c.loop-at.invariant.few, c.is_under.ensures.counted, next.0);
      seen = subst (IsSeen c.args.rows.now c.args.p (c.in-Some.at + 1)) (exactly_one_comm under c.loop-at.odd ∙ sym c.flipped-odd.ensures)
          (seen_more c.args.rows.now c.args.p c.in-Some.at c.loop-at.odd under row
          (seen_up_to c.args.rows.now c.args.p c.loop-at.from c.in-Some.at c.loop-at.odd row c.loop-at.invariant.seen next.0 (omega (arith, here)) next.3)
          here
          (subst (λ s. lies_on s c.args.p ≡ false) c.index-rows-at.is c.in_ok-is_under.ensures.met.0)
          (subst (λ s. is_under s c.args.p ≡ under) c.index-rows-at.is c.in_ok-is_under.ensures.met.1));
    }

pub returns-clause-parity : goal.returns-clause-parity
returns-clause-parity g c = seen_all c.args.rows.now c.args.p c.loop-at.odd
    (seen_up_to c.args.rows.now c.args.p c.loop-at.from (length c.args.rows.now) c.loop-at.odd (record { lo = c.args.p; hi = c.args.p }) c.loop-at.invariant.seen c.loop-at.invariant.within (omega arith) c.in_default.ensures)
