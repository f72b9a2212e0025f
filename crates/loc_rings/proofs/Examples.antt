-- Examples, computed: members by flags.
use Rattle.std.proofs.Common.{◌≡◌, ℕ, true, false, [], ◌∷◌, refl}
use Rattle.loc_rings.specs.Flags.{flagged, unflagged}

kept : flagged {X = ℕ} (true ∷ false ∷ true ∷ []) (5 ∷ 6 ∷ 7 ∷ []) ≡ 5 ∷ 7 ∷ []
kept = refl

others : unflagged {X = ℕ} (true ∷ false ∷ true ∷ []) (5 ∷ 6 ∷ 7 ∷ []) ≡ 6 ∷ []
others = refl
