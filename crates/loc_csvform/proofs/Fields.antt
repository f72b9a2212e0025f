-- The fields of a record, as the code reads them.
use Rattle.std.proofs.Common.{◌≡◌, ℕ, zero, suc, ◌<◌, ◌≤◌, List, [], ◌∷◌, Bool, true, false, cond, length, get_or, Option, Some, None, Result, Ok, Err, Bor, refl, sym, ◌∙◌, ap, arith, position}
use Rattle.std.specs.Prelude.{unwrap_or, option_map, slice_index_or, nat_lt, MatchResult, IsUtf8}
use Rattle.std.specs.{Result.is_ok, Str.is_utf8}
use Rattle.std.proofs.{lemmas.Bool.ltb-false, lemmas.Bool.ltb-true, lemmas.List.Sums.position_or_len_is}
use Rattle.std.proofs.lemmas.Str.{IsUtf8-from_is_utf8, is_utf8-from_IsUtf8}
use Rattle.csv.specs.Records.{field_at}

-- the field at a place is the one there in the list
at : (fields : List (List ℕ)) (n : ℕ) → unwrap_or (field_at fields n) [] ≡ slice_index_or fields n []
unfolding field_at
at [] n = refl
at (f ∷ fields) zero = refl
at (f ∷ fields) (suc n) = at fields n

looked : (found : Option (Bor (List ℕ))) (other r : Bor (List ℕ)) → other.now ≡ [] → r ≡ unwrap_or found other → r.now ≡ unwrap_or (option_map (λ s. s.now) found) []
looked None other r none is = ap (λ (s : Bor (List ℕ)). s.now) is ∙ none
looked (Some s) other r none is = ap (λ (s : Bor (List ℕ)). s.now) is

pub field_read : (fields : List (List ℕ)) (n : ℕ) (found : Option (Bor (List ℕ))) (other r : Bor (List ℕ)) → option_map (λ s. s.now) found ≡ field_at fields n → other.now ≡ [] → r ≡ unwrap_or found other → r.now ≡ slice_index_or fields n []
field_read fields n found other r lookup none is = looked found other r none is ∙ ap (λ o. unwrap_or o []) lookup ∙ at fields n

-- the first place that passes, where none before it does
module _ (p : List ℕ → Bool) (fields : List (List ℕ)) (n : ℕ) (before : (k : ℕ) → k < n → p (get_or fields k []) ≡ false) where
  pub first_place : n < length fields → p (get_or fields n []) ≡ true → position p fields ≡ Some n
  first_place below passes =
      let is = position_or_len_is p fields n [] (omega arith) before (λ _. passes) in
      rw is (test (nat_lt n (length fields)) refl)
    where
      test : (b : Bool) → nat_lt n (length fields) ≡ b → cond b (Some n) None ≡ Some n
      test true e = refl
      test false e = absurd (omega (arith, ltb-false n (length fields) e))

  -- none passes
  pub no_place : length fields ≤ n → n ≤ length fields → position p fields ≡ None
  no_place past within =
      let is = position_or_len_is p fields n [] (omega arith) before (λ h. absurd (omega arith)) in
      rw is (test (nat_lt n (length fields)) refl)
    where
      test : (b : Bool) → nat_lt n (length fields) ≡ b → cond b (Some n) None ≡ None
      test true e = absurd (omega (arith, ltb-true n (length fields) e))
      test false e = refl

-- bytes that are found to be UTF-8, or not
pub is_valid : {S E : Type 0} (P : S → Type 0) (Q : E → Type 0) (bytes : List ℕ) (r : Result S E) (b : Bool) → MatchResult r (λ s. P s × IsUtf8 bytes) (λ e. ¬ (IsUtf8 bytes) × Q e) → b ≡ is_ok r → b ≡ is_utf8 bytes
is_valid P Q bytes (Ok s) b cases is = is ∙ sym (is_utf8-from_IsUtf8 bytes cases.1)
is_valid P Q bytes (Err e) b cases is = is ∙ no (is_utf8 bytes) refl
  where
    no : (t : Bool) → is_utf8 bytes ≡ t → false ≡ is_utf8 bytes
    no true valid = absurd (cases.0 (IsUtf8-from_is_utf8 bytes valid))
    no false valid = sym valid
