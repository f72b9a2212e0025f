use Rattle.std.proofs.Common.{◌≡◌, true, sym, subst, Ordering}
use Rattle.std.specs.Ordering.{MatchOrdering}
use Rattle.loc_spec_plane.specs.Points.{edge_before}
use Rattle.loc_laws_order.proofs.Ranks.{edge_rank}
use Rattle.loc_geom.proofs.laws.edge_order.Goals as goal

pub returns : goal.returns
returns c = subst (λ (r : Ordering). MatchOrdering r (edge_before c.args.a c.args.b ≡ true) (c.args.a ≡ c.args.b) (edge_before c.args.b c.args.a ≡ true)) (sym c.cmp.ensures) (edge_rank c.args.a c.args.b)
