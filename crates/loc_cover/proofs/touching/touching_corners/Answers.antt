use Rattle.std.proofs.Common.{sym, subst}
use Rattle.std.specs.Prelude.{nat_lt}
use Rattle.loc_spec_plane.specs.{Lists.IsRisingListOf, Covers.has_at}
use Rattle.loc_cover.proofs.Gathered.{row_more}
use Rattle.loc_cover.proofs.touching.touching_corners.Goals as goal

pub loop-corner-preserved : goal.loop-corner-preserved
loop-corner-preserved c =
    let t = c.args.table.now in
    let rows = c.loop-corner.rows in
    let more = row_more (λ k. IsRisingListOf nat_lt (has_at t k)) rows c.push.new.self c.deref.result.now c.loop-corner.corner c.loop-corner.invariant.as_many c.loop-corner.invariant.each (subst (IsRisingListOf nat_lt (has_at t c.loop-corner.corner)) (sym c.deref.ensures.value) c.in_ok-put_corner.ensures) c.in_ok-push.ensures in
    record { as_many = more.0; each = more.1 }
