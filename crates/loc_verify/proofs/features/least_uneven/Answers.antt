use Rattle.std.proofs.Common.{◌<◌, sym, subst, arith}
use Rattle.std.specs.{Prelude.Some, Prelude.None, List.Sorted.IsNonDecreasingBy}
use Rattle.std.proofs.lemmas.Result.{IfOk-from_err}
use Rattle.loc_verify.specs.Least.{IsLeastOdd}
use Rattle.loc_verify.proofs.Odd.{even_there, uneven_there}
use Rattle.loc_verify.proofs.features.least_uneven.Goals as goal

pub loop-corner-init : goal.loop-corner-init
loop-corner-init c = λ m less. absurd (omega (arith, less))

pub put_corner-requires : goal.put_corner-requires
put_corner-requires c = subst (λ n. c.loop-corner.corner < n) c.corner_count-corner-end.ensures.value c.loop-corner-test.true

pub returns-in_err-put_corner : goal.returns-in_err-put_corner
returns-in_err-put_corner c = IfOk-from_err _ _ c.from_residual.ensures.0

pub least_odd-requires : goal.least_odd-requires
least_odd-requires c = subst (IsNonDecreasingBy (λ f. f)) (sym c.deref.ensures.value) c.in_ok-put_corner.ensures.in_order

pub returns-in-Some : goal.returns-in-Some
returns-in-Some c = uneven_there c.args.table.now c.loop-corner.corner c.put_corner.new.row.items c.in_ok-put_corner.ensures.odd c.loop-corner.invariant c.in-Some.feature (subst (λ n. c.loop-corner.corner < n) c.corner_count-corner-end.ensures.value c.loop-corner-test.true) (subst (λ row. IsLeastOdd row (Some c.in-Some.feature)) c.deref.ensures.value c.in-Some.ensures)

pub loop-corner-preserved : goal.loop-corner-preserved
loop-corner-preserved c = even_there c.args.table.now c.loop-corner.corner c.put_corner.new.row.items c.in_ok-put_corner.ensures.odd c.loop-corner.invariant (subst (λ row. IsLeastOdd row None) c.deref.ensures.value c.in_default.ensures)

pub returns : goal.returns
returns c = λ m fits. c.loop-corner.invariant m (omega (arith, fits, c.loop-corner-test.false, c.corner_count-corner-end.ensures.value))
