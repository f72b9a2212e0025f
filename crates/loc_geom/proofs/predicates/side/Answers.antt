use Rattle.std.proofs.Common.{◌≡◌, ◌∙◌, true, false, ℤ, pos, to_z, of_z, to_z-of_z, arith}
use Rattle.std.specs.{Int.w128, Prelude.int_lt, Ordering.int_eq}
use Rattle.std.proofs.lemmas.Int.{ints}
use Rattle.loc_spec_plane.specs.Points.{turn}
use borrow.Author.Differences.{fits_in}
use Rattle.loc_geom.proofs.predicates.side.Goals as goal

is_zero : (n t : ℤ) → n ≡ t → int_lt n (pos 0) ≡ false → int_lt (pos 0) n ≡ false → int_eq t (pos 0) ≡ true
is_zero n t same least most = grind (arith, ints)

pub returns-else-number-gt0 : goal.returns-else-number-gt0
returns-else-number-gt0 c =
    let number = c.side_number-number.result in
    is_zero (to_z w128 (of_z w128 number)) (turn c.args.edge.lo c.args.edge.hi c.args.p)
    (to_z-of_z {w = w128} (fits_in w128 number (omega (arith, ints))) ∙ c.side_number-number.ensures) c.if-number-lt0.false c.if-number-gt0.false
