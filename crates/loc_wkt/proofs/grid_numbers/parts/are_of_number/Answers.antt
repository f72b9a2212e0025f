use Rattle.std.proofs.Common.{◌≡◌, ℕ, List, [], ◌∷◌, ◌++◌, length, Bool, true, false, not, ◌&&◌, ◌||◌, refl, sym, ◌∙◌, ap, arith}
use Rattle.std.specs.Prelude.{◌==◌}
use Rattle.std.specs.{Char.is_ascii_digit, List.list_all}
use Rattle.std.proofs.lemmas.Bool.{and_from, and_left, and_right, eqb-true, ne_eqb, not_from_false}
use Rattle.std.proofs.lemmas.List.Folds.{list_all-append}
use Rattle.loc_spec_text.specs.Number.{are_digits, exponent, fraction_digits, has_exponent, unsigned, whole_digits}
use Rattle.loc_wkt.proofs.grid_numbers.parts.are_of_number.Goals as goal
use Rattle.loc_wkt.proofs.grid_numbers.parts.are_of_number.Goals.{then-not-all_digits-via-then-not-all_digits, then-not-all_digits-via-else-not-all_digits+then-not-all_digits-2, else-is_empty-via-then-is_empty+else-is_empty-2, else-is_empty-via-else-is_empty}

-- no digits at all
none : (ws fs : List ℕ) (rest : Bool) → (length ws == 0) ≡ true → (length fs == 0) ≡ true → false ≡ (are_digits (ws ++ fs) && rest)
none [] [] rest a b = refl
none [] (f ∷ fs) rest a b = let z = eqb-true (length (f ∷ fs)) 0 b in absurd (omega (arith, z))
none (w ∷ ws) fs rest a b = let z = eqb-true (length (w ∷ ws)) 0 a in absurd (omega (arith, z))

-- a byte that is no digit
other : (ws fs : List ℕ) (rest : Bool) → (list_all is_ascii_digit ws && list_all is_ascii_digit fs) ≡ false → false ≡ (are_digits (ws ++ fs) && rest)
other ws fs rest h = sym (and_left (are_digits (ws ++ fs)) rest (and_right (not (length (ws ++ fs) == 0)) (list_all is_ascii_digit (ws ++ fs)) (list_all-append is_ascii_digit ws fs ∙ h)))

some_whole : (ws fs : List ℕ) → (length ws == 0) ≡ false → (length (ws ++ fs) == 0) ≡ false
some_whole [] fs h = absurd (cc h)
some_whole (w ∷ ws) fs h = ne_eqb (length ((w ∷ ws) ++ fs)) 0 (λ z. omega (arith, z))

some_fraction : (ws fs : List ℕ) → (length fs == 0) ≡ false → (length (ws ++ fs) == 0) ≡ false
some_fraction [] fs h = h
some_fraction (w ∷ ws) fs h = ne_eqb (length ((w ∷ ws) ++ fs)) 0 (λ z. omega (arith, z))

-- digits, one or more
digits : (ws fs : List ℕ) → (length (ws ++ fs) == 0) ≡ false → list_all is_ascii_digit ws ≡ true → list_all is_ascii_digit fs ≡ true → are_digits (ws ++ fs) ≡ true
digits ws fs some a b = and_from (not (length (ws ++ fs) == 0)) (list_all is_ascii_digit (ws ++ fs)) (not_from_false (length (ws ++ fs) == 0) some)
    (list_all-append is_ascii_digit ws fs ∙ and_from (list_all is_ascii_digit ws) (list_all is_ascii_digit fs) a b)

plain : (d b x : Bool) → d ≡ true → b ≡ false → not b ≡ (d && (not b || x))
plain true false x h k = refl
plain true true x h k = absurd (cc k)
plain false b x h k = absurd (cc h)

raised : (d b x r : Bool) → d ≡ true → b ≡ true → r ≡ x → r ≡ (d && (not b || x))
raised true true x r h k e = e
raised true false x r h k e = absurd (cc k)
raised false b x r h k e = absurd (cc h)

pub returns-then-is_empty-2 : goal.returns-then-is_empty-2
returns-then-is_empty-2 c = λ text w f e h. none (whole_digits text) (fraction_digits text) _
    (ap (λ l. length l == 0) (sym w) ∙ (sym c.is_empty.ensures ∙ c.if-is_empty.true))
    (ap (λ l. length l == 0) (sym f) ∙ (sym c.is_empty-then-is_empty.ensures ∙ c.if-is_empty-2.true))

pub returns-then-not-all_digits : goal.returns-then-not-all_digits
returns-then-not-all_digits c = λ text w f e h. other (whole_digits text) (fraction_digits text) _ (elim c.then-not-all_digits.branch [
  | then-not-all_digits-via-then-not-all_digits v ↦ and_left (list_all is_ascii_digit (whole_digits text)) (list_all is_ascii_digit (fraction_digits text)) (ap (list_all is_ascii_digit) (sym w) ∙ (sym c.all_digits.ensures ∙ v.if-not-all_digits.true))
  | then-not-all_digits-via-else-not-all_digits+then-not-all_digits-2 v ↦ and_right (list_all is_ascii_digit (whole_digits text)) (list_all is_ascii_digit (fraction_digits text)) (ap (list_all is_ascii_digit) (sym f) ∙ (sym v.all_digits-else-not-all_digits.ensures ∙ v.if-not-all_digits-2.true))
])

pub returns-then-not-parts : goal.returns-then-not-parts
returns-then-not-parts c = λ text w f e h.
    let some : (length (whole_digits text ++ fraction_digits text) == 0) ≡ false = elim c.else-is_empty.branch [
      | else-is_empty-via-then-is_empty+else-is_empty-2 v ↦ some_fraction (whole_digits text) (fraction_digits text) (ap (λ l. length l == 0) (sym f) ∙ (sym v.is_empty-then-is_empty.ensures ∙ v.if-is_empty-2.false))
      | else-is_empty-via-else-is_empty v ↦ some_whole (whole_digits text) (fraction_digits text) (ap (λ l. length l == 0) (sym w) ∙ (sym c.is_empty.ensures ∙ v.if-is_empty.false))
    ] in
    let all = digits (whole_digits text) (fraction_digits text) some (ap (list_all is_ascii_digit) (sym w) ∙ (sym c.all_digits.ensures ∙ c.if-not-all_digits.false)) (ap (list_all is_ascii_digit) (sym f) ∙ (sym c.all_digits-else-not-all_digits.ensures ∙ c.if-not-all_digits-2.false)) in
    ap not h ∙ plain (are_digits (whole_digits text ++ fraction_digits text)) (has_exponent text) (are_digits (unsigned (exponent text))) all (sym h ∙ c.if-not-parts.true)

pub returns-else-not-parts : goal.returns-else-not-parts
returns-else-not-parts c = λ text w f e h.
    let some : (length (whole_digits text ++ fraction_digits text) == 0) ≡ false = elim c.else-is_empty.branch [
      | else-is_empty-via-then-is_empty+else-is_empty-2 v ↦ some_fraction (whole_digits text) (fraction_digits text) (ap (λ l. length l == 0) (sym f) ∙ (sym v.is_empty-then-is_empty.ensures ∙ v.if-is_empty-2.false))
      | else-is_empty-via-else-is_empty v ↦ some_whole (whole_digits text) (fraction_digits text) (ap (λ l. length l == 0) (sym w) ∙ (sym c.is_empty.ensures ∙ v.if-is_empty.false))
    ] in
    let all = digits (whole_digits text) (fraction_digits text) some (ap (list_all is_ascii_digit) (sym w) ∙ (sym c.all_digits.ensures ∙ c.if-not-all_digits.false)) (ap (list_all is_ascii_digit) (sym f) ∙ (sym c.all_digits-else-not-all_digits.ensures ∙ c.if-not-all_digits-2.false)) in
    raised (are_digits (whole_digits text ++ fraction_digits text)) (has_exponent text) (are_digits (unsigned (exponent text))) c.is_digits.result all (sym h ∙ c.if-not-parts.false)
    (c.is_digits.ensures ∙ ap are_digits (c.unsigned.ensures ∙ ap unsigned e))
