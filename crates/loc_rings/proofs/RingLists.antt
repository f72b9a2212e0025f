-- What a list of rings keeps.
use Rattle.std.proofs.Common.{◌≡◌, ℕ, ◌<◌, List, length, map, get_or, slice_get, Some, All, sym, ◌∙◌, ap, subst, arith}
use Rattle.std.proofs.{lemmas.List.get_or-map, lemmas.List.length-map, lemmas.Option.slice_get-get_or}
use Rattle.loc_spec_plane.specs.Rings.{Ring, Rings}
use Rattle.loc_rings.specs.Values.{IsRing}

-- Rings that are stored in another form, and what is read at place n.
module _ {V : Type 0} (points : V → Ring) (vs : List V) (rings : Rings) (n : ℕ) (v : V) (ring : Ring) (seen : map points vs ≡ rings) (below : n < length rings) (at : v ≡ get_or vs n v) (same : ring ≡ points v) where
  within : n < length (map points vs)
  within = omega (arith, ap length seen)

  read : ring ≡ get_or (map points vs) n (points v)
  read = same ∙ (ap points at ∙ sym (get_or-map points vs n v (points v) (omega (arith, within, length-map vs points))))

  -- it is the ring at place n
  pub ring_read : slice_get rings n ≡ Some ring
  ring_read = ap (λ rs. slice_get rs n) (sym seen) ∙ (slice_get-get_or (map points vs) n (points v) within ∙ ap Some (sym read))

  -- it is a ring
  pub ring_at : All IsRing (map points vs) → IsRing ring
  ring_at each = subst IsRing (sym read) (each n (points v) within)
