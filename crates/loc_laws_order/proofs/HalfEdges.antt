-- The two half-edges of an edge by number: which goes up, and their edge.
use Rattle.std.proofs.Common.{◌≡◌, ℕ, ◌+◌, ◌*◌, ◌%◌, true, false, arith}
use Rattle.std.proofs.lemmas.Bool.{eq-eqb, ne_eqb}
use Rattle.loc_spec_plane.specs.HalfEdges.{edge_of, goes_up}

pub edge-up : (e : ℕ) → edge_of (2 * e) ≡ e
edge-up e = omega arith

pub edge-down : (e : ℕ) → edge_of (2 * e + 1) ≡ e
edge-down e = omega arith

pub up-goes_up : (e : ℕ) → goes_up (2 * e) ≡ true
up-goes_up e = eq-eqb ((2 * e) % 2) 0 (omega arith)

pub down-goes_up : (e : ℕ) → goes_up (2 * e + 1) ≡ false
down-goes_up e = ne_eqb ((2 * e + 1) % 2) 0 (λ is. (let odd : (2 * e + 1) % 2 ≡ 0 = is in omega (arith, odd)))
