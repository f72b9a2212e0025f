use Rattle.std.proofs.Common.{◌≡◌, ◌∙◌, sym, arith}
use Rattle.loc_spec_plane.specs.Covers.{cover_above}
use Rattle.loc_cover.specs.Legends.{list_above}
use Rattle.loc_verify.proofs.WrongCovers.{first_wrong, more_right}
use Rattle.loc_verify.proofs.covers.least_by_sweep.Goals as goal

pub returns-then-is_some : goal.returns-then-is_some
returns-then-is_some c = first_wrong c.args.table.now c.law.ensures.in_order c.loop-corner.corner (λ e. list_above c.args.legend.now e ≡ cover_above c.args.table.now e) c.loop-corner.invariant.right c.in_ok-least.least (sym c.is_some.ensures ∙ c.if-is_some.true) c.in_ok-least.ensures

pub loop-corner-preserved : goal.loop-corner-preserved
loop-corner-preserved c = record {
  before = c.in_ok-go_to.ensures.next;
  right = more_right c.args.table.now c.law.ensures.in_order c.loop-corner.corner (λ e. list_above c.args.legend.now e ≡ cover_above c.args.table.now e) c.loop-corner.invariant.right c.in_ok-least.least (sym c.is_some.ensures ∙ c.if-is_some.false) c.in_ok-least.ensures;
}

pub returns : goal.returns
returns c = λ e fits. (let up = c.law.ensures.in_order.goes_up e fits in let low = up.0 in let high = up.1 in c.loop-corner.invariant.right e fits (omega (arith, low, high, c.loop-corner-test.false, c.corner_count-corner-end.ensures.value)))
