use Rattle.std.proofs.Common.{◌≡◌, ◌&&◌, true, length, subst, sym, ap₂, arith}
use Rattle.std.proofs.lemmas.Bool.{lt-ltb}
use Rattle.loc_spec_plane.specs.{Points.before, Tables.corner}
use Rattle.loc_laws_traps.proofs.Points.{border_law}
use Rattle.loc_trapdag.proofs.Descent.{edge_real, edge_is, lower_comes, upper_comes, before_some, behind_some, goes_before, goes_behind, goes_above, goes_below}
use Rattle.loc_trapdag.proofs.turn.turn_at.Goals as goal

pub ends-lo-requires : goal.ends-lo-requires
ends-lo-requires bounds c =
    record { in_range = edge_real c.args.views.now c.args.index.now c.requires.stands.graph c.args.n c.args.step c.requires.in_range c.requires.step }

pub against_lower-requires-clause-none : goal.against_lower-requires-clause-none
against_lower-requires-clause-none bounds c =
    λ none. subst (λ k. before (corner c.args.views.now k) c.args.p ≡ true) (sym c.ends-lo.ensures.lower) (lower_comes c.args.views.now c.args.index.now c.requires.stands.graph c.args.n c.args.step c.requires.in_range c.requires.step c.requires.stands.planar.in_order c.args.p c.requires.inside none)

pub against_upper-requires-clause-none : goal.against_upper-requires-clause-none
against_upper-requires-clause-none bounds c =
    λ none. subst (λ k. before c.args.p (corner c.args.views.now k) ≡ true) (sym c.ends-lo.ensures.upper) (upper_comes c.args.views.now c.args.index.now c.requires.stands.graph c.args.n c.args.step c.requires.in_range c.requires.step c.requires.stands.planar.in_order c.args.p c.requires.inside none)

pub unwrap-requires : goal.unwrap-requires
unwrap-requires bounds c =
    before_some c.args.views.now c.args.index.now c.requires.stands.graph c.args.n c.args.step c.requires.in_range c.requires.step c.requires.stands.planar.in_order c.args.p c.requires.inside (subst (λ k. before c.args.p (corner c.args.views.now k) ≡ true) c.ends-lo.ensures.lower c.in-Greater.ensures.value)

pub unwrap-requires-in-Less-against_upper : goal.unwrap-requires-in-Less-against_upper
unwrap-requires-in-Less-against_upper bounds c =
    behind_some c.args.views.now c.args.index.now c.requires.stands.graph c.args.n c.args.step c.requires.in_range c.requires.step c.requires.stands.planar.in_order c.args.p c.requires.inside (subst (λ k. before (corner c.args.views.now k) c.args.p ≡ true) c.ends-lo.ensures.upper c.in-Less-against_upper.ensures.value)

pub returns-in-Greater-clause-turn : goal.returns-in-Greater-clause-turn
returns-in-Greater-clause-turn bounds c =
    goes_before c.args.views.now c.args.index.now c.requires.stands.graph c.args.n c.args.step c.requires.in_range c.requires.step c.requires.stands.planar.in_order c.args.p c.requires.inside (subst (λ k. before c.args.p (corner c.args.views.now k) ≡ true) c.ends-lo.ensures.lower c.in-Greater.ensures.value) c.unwrap.result c.unwrap.ensures

pub returns-in-Less-against_upper-clause-turn : goal.returns-in-Less-against_upper-clause-turn
returns-in-Less-against_upper-clause-turn bounds c =
    goes_behind c.args.views.now c.args.index.now c.requires.stands.graph c.args.n c.args.step c.requires.in_range c.requires.step c.requires.stands.planar.in_order c.args.p c.requires.inside (subst (λ k. before (corner c.args.views.now k) c.args.p ≡ true) c.ends-lo.ensures.upper c.in-Less-against_upper.ensures.value) c.unwrap-in-Less-against_upper.result c.unwrap-in-Less-against_upper.ensures

pub returns-in-Above-clause-turn : goal.returns-in-Above-clause-turn
returns-in-Above-clause-turn bounds c =
    goes_above c.args.views.now c.args.index.now c.requires.stands.graph c.args.n c.args.step c.requires.in_range c.requires.step c.requires.stands.planar.in_order c.args.p c.requires.inside (subst (λ k. before (corner c.args.views.now k) c.args.p ≡ true) c.ends-lo.ensures.lower c.in-Less.ensures.value) (subst (λ k. before c.args.p (corner c.args.views.now k) ≡ true) c.ends-lo.ensures.upper c.in-Greater-against_upper.ensures.value) c.in-Above.ensures.value

pub returns-in-Below-clause-turn : goal.returns-in-Below-clause-turn
returns-in-Below-clause-turn bounds c =
    goes_below c.args.views.now c.args.index.now c.requires.stands.graph c.args.n c.args.step c.requires.in_range c.requires.step c.requires.stands.planar.in_order c.args.p c.requires.inside (subst (λ k. before (corner c.args.views.now k) c.args.p ≡ true) c.ends-lo.ensures.lower c.in-Less.ensures.value) (subst (λ k. before c.args.p (corner c.args.views.now k) ≡ true) c.ends-lo.ensures.upper c.in-Greater-against_upper.ensures.value) c.in-Below.ensures.value

pub returns-in-On-clause-turn : goal.returns-in-On-clause-turn
returns-in-On-clause-turn bounds c =
    border_law c.args.views.now c.requires.stands.planar.in_order c.requires.stands.ends c.requires.stands.planar.apart c.args.step.edge (edge_is c.args.views.now c.args.index.now c.requires.stands.graph c.args.n c.args.step c.requires.in_range c.requires.step) c.args.p (subst (λ k. before (corner c.args.views.now k) c.args.p ≡ true) c.ends-lo.ensures.lower c.in-Less.ensures.value) (subst (λ k. before c.args.p (corner c.args.views.now k) ≡ true) c.ends-lo.ensures.upper c.in-Greater-against_upper.ensures.value) c.in-On.ensures.value

pub returns-in-Equal-clause-turn : goal.returns-in-Equal-clause-turn
returns-in-Equal-clause-turn bounds c =
    ap₂ (λ a b. a && b) (lt-ltb c.ends-lo.result.0 (length c.args.views.now.corners) (omega (arith, c.ends-lo.ensures.goes_up, c.ends-lo.ensures.within))) c.in-Equal.ensures.value
