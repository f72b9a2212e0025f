-- A feature exchanged in place.
use Rattle.std.proofs.Common.{◌≡◌, ℕ, ◌<◌, ◌≤◌, true, List, [], ◌∷◌, ◌++◌, length, get_or, take, drop, refl, subst, append_assoc, add-one}
use Rattle.std.specs.{Prelude.nat_lt, List.insert, List.remove}
use Rattle.loc_spec_plane.specs.Lists.{is_rising}
use Rattle.loc_cover.specs.Exchanges.{IsExchange}
use Rattle.loc_cover.proofs.Exchanging.{gains, leaves}

module _ (list : List ℕ) (f place : ℕ) (up : is_rising nat_lt list ≡ true) (first : (k : ℕ) → k < place → get_or list k 0 < f) (from : (k : ℕ) → place ≤ k → k < length list → f ≤ get_or list k 0) where
  pub removed : place < length list → get_or list place 0 ≡ f → IsExchange f list (remove list place)
  removed fits same = subst (λ k. IsExchange f list (take place list ++ drop k list)) (add-one place) (leaves [] list f place up refl first from fits same)

  pub inserted : (place < length list → get_or list place 0 ≡ f → ⊥) → IsExchange f list (insert list place f)
  inserted other = subst (λ xs. IsExchange f list xs) (append_assoc (take place list) (f ∷ []) (drop place list)) (gains [] list f place up refl first from other)
