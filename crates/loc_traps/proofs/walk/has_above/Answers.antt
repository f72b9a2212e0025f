-- A corner below an edge or on its line is not above it.
use Rattle.std.proofs.Common.{◌≡◌, ◌⊎◌, false, inl, inr, sym, subst}
use Rattle.std.proofs.lemmas.Bool.{both_ways, false_from_ne_true}
use Rattle.loc_geom.specs.{Answers.IsSide, declared.kinds.Side.Side}
use Rattle.loc_geom.specs.declared.kinds.Side.TheVariants.{Below, On}
use Rattle.loc_laws_order.proofs.Sides.{above-not_below, on-not_above}
use Rattle.loc_spec_plane.specs.Points.{Edge, Point, is_above, is_below}
use Rattle.loc_spec_plane.specs.Tables.{edge, corner}
use Rattle.loc_traps.proofs.walk.has_above.Goals as goal

not_above : (e : Edge) (p : Point) (s : Side) → IsSide e p s → (s ≡ Below) ⊎ (s ≡ On) → is_above e p ≡ false
not_above e p s h (inl below) = false_from_ne_true (is_above e p) (λ up. both_ways (is_below e p) (above-not_below e p up) (subst (IsSide e p) below h))
not_above e p s h (inr on) = on-not_above e p (subst (IsSide e p) on h)

pub returns-in-Below : goal.returns-in-Below
returns-in-Below c = let t = c.args.ranks.now in sym (not_above (edge t c.args.edge) (corner t c.args.corner) c.side.result c.side.ensures c.in-Below.is)
