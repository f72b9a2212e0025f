-- Words that give something are tested.
use Rattle.std.proofs.Common.{◌≡◌, ◌≤◌, ◌&&◌, ℕ, Bool, true, false, suc, List, [], ◌∷◌, map, length, nat_le, take, drop, Option, Some, None, option_map, arith, refl, sym, ◌∙◌, ap, subst, inl, inr}
use Rattle.std.specs.List.{before_first, after_first, list_any, list_all}
use Rattle.std.specs.Str.{bytes_eq}
use Rattle.std.proofs.lemmas.Bool.{and_parts, cases_Bool, le-leb, leb-true, or_parts}
use Rattle.std.proofs.lemmas.Slice.Eq.{bytes_eq-Decides}
use Rattle.loc_spec_text.specs.Bytes.{Text}
use Rattle.loc_words.specs.Rows.{OptionRow, Entry, entries_of, is_equals, is_of, is_value, settings, takes}
use Rattle.loc_words.specs.{Tested.are_tested, Tested.is_tested, declared.row.OptionKind.OptionKind}
use Rattle.loc_words.specs.declared.row.OptionKind.TheVariants.{Required, Optional, Flag}
use Rattle.loc_words.proofs.{Cuts.before-dashes, Cuts.dashed, Places.tested_from}
use Rattle.loc_words.proofs.Options.{alone_first, apart_first, flag_first, joined_first}

-- an option by its full name, and a value where one stands with it
pub record IsNamed (word : Text) (value : Option Text) : Type 0 where
  pub first : ℕ
  pub others : Text
  pub is : word ≡ 45 ∷ 45 ∷ first ∷ others
  pub valued : (v : Text) → value ≡ Some v → is_value v ≡ true

takes_value : (kind : OptionKind) (v : Text) → takes kind (Some v) ≡ true → is_value v ≡ true
takes_value Required v h = h
takes_value Optional v h = h
takes_value Flag v h = absurd (cc h)

named_word : (options : List OptionRow) (word : Text) (value : Option Text) → list_any (bytes_eq []) (map (λ o. o.name) options) ≡ false → is_of options (word, value) ≡ true → IsNamed word value
named_word [] word value some h = absurd (cc h)
named_word (o ∷ options) word value some h =
    let parts = or_parts (bytes_eq [] o.name) (list_any (bytes_eq []) (map (λ x. x.name) options)) some in
    elim (cases_Bool (bytes_eq (45 ∷ 45 ∷ o.name) word)) [
      | inr other ↦ named_word options word value parts.1 (simp other at h)
      | inl is ↦ of_name o.name parts.0 ((bytes_eq-Decides (45 ∷ 45 ∷ o.name) word).0 is) (simp is at h)
    ]
  where
    of_name : (name : Text) → bytes_eq [] name ≡ false → 45 ∷ 45 ∷ name ≡ word → takes o.kind value ≡ true → IsNamed word value
    of_name [] none is taken = absurd (cc none)
    of_name (y ∷ ys) none is taken = record { first = y; others = ys; is = sym is; valued = λ v e. takes_value o.kind v (subst (λ z. takes o.kind z ≡ true) e taken) }

tested_alone : (word : Text) (value : Option Text) → list_any is_equals word ≡ false → IsNamed word value → is_tested word ≡ true
tested_alone word value lacks n =
    let none : list_any is_equals (45 ∷ 45 ∷ n.first ∷ n.others) ≡ false = subst (λ w. list_any is_equals w ≡ false) n.is lacks in
    subst (λ w. is_tested w ≡ true) (sym n.is) (simp none)

tested_joined : (word : Text) → list_any is_equals word ≡ true → IsNamed (before_first is_equals word) (Some (after_first is_equals word)) → is_tested word ≡ true
tested_joined word has n = let d = dashed word (n.first ∷ n.others) n.is in go d.rest d.is
  where
    value : is_value (after_first is_equals word) ≡ true
    value = n.valued (after_first is_equals word) refl

    go : (rest : Text) → word ≡ 45 ∷ 45 ∷ rest → is_tested word ≡ true
    go [] e = let short : [] ≡ n.first ∷ n.others = ap (drop 2) (sym (before-dashes []) ∙ ap (before_first is_equals) (sym e) ∙ n.is) in absurd (cc short)
    go (z ∷ zs) e =
        let some : list_any is_equals (45 ∷ 45 ∷ z ∷ zs) ≡ true = subst (λ w. list_any is_equals w ≡ true) e has in
        let behind : is_value (after_first is_equals (45 ∷ 45 ∷ z ∷ zs)) ≡ true = subst (λ w. is_value (after_first is_equals w) ≡ true) e value in
        subst (λ w. is_tested w ≡ true) (sym e) (simp (some, behind))

module _ (options : List OptionRow) (some : list_any (bytes_eq []) (map (λ o. o.name) options) ≡ false) where
  joined_tested : (word : Text) (words : List Text) → list_any is_equals word ≡ true → (list_all (is_of options) (settings words) ≡ true → list_all is_tested words ≡ true)
      → list_all (is_of options) (settings (word ∷ words)) ≡ true → list_all is_tested (word ∷ words) ≡ true
  joined_tested word words has more h =
      let first : Entry = (before_first is_equals word, Some (after_first is_equals word)) in
      let parts = and_parts (is_of options first) (list_all (is_of options) (settings words)) (ap (list_all (is_of options)) (sym (joined_first word words has)) ∙ h) in
      let here = tested_joined word has (named_word options first.0 first.1 some parts.0) in
      simp here (more parts.1)

  settings_tested : (words : List Text) → list_all (is_of options) (settings words) ≡ true → list_all is_tested words ≡ true
  settings_tested [] h = refl
  settings_tested (word ∷ []) h = elim (cases_Bool (list_any is_equals word)) [
    | inl has ↦ joined_tested word [] has (λ _. refl) h
    | inr lacks ↦
        let parts = and_parts (is_of options (word, None)) true (ap (list_all (is_of options)) (sym (alone_first word lacks)) ∙ h) in
        let here = tested_alone word None lacks (named_word options word None some parts.0) in
        simp here
  ]
  settings_tested (word ∷ next ∷ words) h = elim (cases_Bool (list_any is_equals word)) [
    | inl has ↦ joined_tested word (next ∷ words) has (settings_tested (next ∷ words)) h
    | inr lacks ↦ elim (cases_Bool (is_value next)) [
      | inl value ↦
          let parts = and_parts (is_of options (word, Some next)) (list_all (is_of options) (settings words)) (ap (list_all (is_of options)) (sym (apart_first word next words lacks value)) ∙ h) in
          let here = tested_alone word (Some next) lacks (named_word options word (Some next) some parts.0) in
          simp (here, value) (settings_tested words parts.1)
      | inr none ↦
          let parts = and_parts (is_of options (word, None)) (list_all (is_of options) (settings (next ∷ words))) (ap (list_all (is_of options)) (sym (flag_first word next words lacks none)) ∙ h) in
          let here = tested_alone word None lacks (named_word options word None some parts.0) in
          both is_tested word next words here (settings_tested (next ∷ words) parts.1)
    ]
  ]
    where
      both : (p : Text → Bool) (word next : Text) (words : List Text) → p word ≡ true → list_all p (next ∷ words) ≡ true → list_all p (word ∷ next ∷ words) ≡ true
      both p word next words here more = simp here more

  -- words that give something are tested
  pub given_tested : (places words : List Text) (given : List Entry) → entries_of options places words ≡ Some given → tested_from places words ≡ true
  given_tested [] words given e = elim (cases_Bool (list_all (is_of options) (settings words))) [
    | inl all ↦ settings_tested words all
    | inr other ↦ absurd (cc (simp other at e))
  ]
  given_tested (place ∷ places) [] given e = absurd (cc e)
  given_tested (place ∷ places) (word ∷ words) given e = elim (cases_Bool (is_value word)) [
    | inr other ↦ absurd (cc (simp other at e))
    | inl value ↦ simp value (go (entries_of options places words) (simp value at e) (given_tested places words))
  ]
    where
      go : (o : Option (List Entry)) → option_map (λ entries. (place, Some word) ∷ entries) o ≡ Some given → ((more : List Entry) → o ≡ Some more → tested_from places words ≡ true) → tested_from places words ≡ true
      go None f more_of = absurd (cc f)
      go (Some more) f more_of = more_of more refl

-- the test by numbers
pub tested_is : (places words : List Text) → are_tested (length places) words ≡ tested_from places words
tested_is [] words = let all = le-leb 0 (length words) (omega arith) in simp all
tested_is (place ∷ places) [] = let short = too_few (length places) in simp short
  where
    too_few : (n : ℕ) → nat_le (suc n) 0 ≡ false
    too_few n = elim (cases_Bool (nat_le (suc n) 0)) [ inl is ↦ absurd (omega (arith, leb-true (suc n) 0 is)) | inr other ↦ other ]
tested_is (place ∷ places) (word ∷ words) =
    ap (λ b. b && ((is_value word && list_all is_value (take (length places) words)) && list_all is_tested (drop (length places) words))) (both_more (length places) (length words))
    ∙ regroup (nat_le (length places) (length words)) (is_value word) (list_all is_value (take (length places) words)) (list_all is_tested (drop (length places) words))
    ∙ ap (λ b. is_value word && b) (tested_is places words)
  where
    both_more : (n m : ℕ) → nat_le (suc n) (suc m) ≡ nat_le n m
    both_more n m = elim (cases_Bool (nat_le n m)) [
      | inl is ↦ le-leb (suc n) (suc m) (omega (arith, leb-true n m is)) ∙ sym is
      | inr above ↦ elim (cases_Bool (nat_le (suc n) (suc m))) [
        | inl is ↦ let less : n ≤ m = omega (arith, leb-true (suc n) (suc m) is) in absurd (cc (le-leb n m less, above))
        | inr other ↦ other ∙ sym above
      ]
    ]

    regroup : (a b d e : Bool) → (a && ((b && d) && e)) ≡ (b && (a && (d && e)))
    regroup true b d e = and_assoc b d e
      where
        and_assoc : (b d e : Bool) → ((b && d) && e) ≡ (b && (d && e))
        and_assoc true d e = refl
        and_assoc false d e = refl
    regroup false true d e = refl
    regroup false false d e = refl
