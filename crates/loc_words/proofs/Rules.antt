-- The rules that a row makes, and what is found among them by name and by number.
use Rattle.std.proofs.Common.{◌≡◌, ◌==◌, ◌+◌, ◌<◌, ◌||◌, ℕ, Bool, true, false, not, List, [], ◌∷◌, ◌++◌, map, length, Option, Some, None, option_map, refl, sym, ◌∙◌, ap, arith, inl, inr}
use Rattle.std.specs.{Prelude.find, List.list_any, Option.option_map_or, Str.bytes_eq}
use Rattle.std.proofs.lemmas.Bool.{and_parts, cases_Bool, ne_eqb, not-true, or_parts}
use Rattle.std.proofs.{lemmas.Bool.Decides.Decides-eqb, lemmas.List.Folds.list_any-append}
use Rattle.std.proofs.lemmas.Slice.Eq.{bytes_eq-Decides}
use Rattle.clap.specs.{Lexer.usize_max, Simple.filled, Simple.filled_from, Simple.with_index}
use Rattle.clap.specs.Walk.{Rule, arg_by_id, arg_by_index, arg_by_long}
use Rattle.loc_spec_text.specs.Bytes.{Text}
use Rattle.loc_words.specs.{Apps.option_rule, Apps.place_rule, declared.row.OptionKind.OptionKind}
use Rattle.loc_words.specs.Rows.{OptionRow, are_different, is_of, takes}
use Rattle.loc_words.specs.declared.row.OptionKind.TheVariants.{Required, Optional, Flag}
use Rattle.loc_words.proofs.Options.{Stands, nothing, option, flag}
use Rattle.loc_words.proofs.Places.{HasPlaces, next, place_after}

-- the rules of the places from the number n on, and of the options
abbrev pub placed_rules : ℕ → List Text → List Rule
placed_rules n [] = []
placed_rules n (place ∷ places) = with_index n (filled (place_rule place)) ∷ placed_rules (next n) places

abbrev pub filled_option : OptionRow → Rule
filled_option o = filled (option_rule o)

options_filled : (n : ℕ) (options : List OptionRow) → filled_from n (map option_rule options) ≡ map filled_option options
options_filled n [] = refl
options_filled n (o ∷ options) = ap (λ (l : List Rule). filled_option o ∷ l) (options_filled n options)

pub rules_filled : (n : ℕ) (places : List Text) (options : List OptionRow) → filled_from n (map place_rule places ++ map option_rule options) ≡ placed_rules n places ++ map filled_option options
rules_filled n [] options = options_filled n options
rules_filled n (place ∷ places) options = ap (λ (l : List Rule). with_index n (filled (place_rule place)) ∷ l) (rules_filled (next n) places options)

-- the option of this name, and its rule
abbrev by_name : List OptionRow → Text → Option OptionRow
by_name options name = find (λ option. bytes_eq option.name name) options

long_options : (options : List OptionRow) (name : Text) → arg_by_long (map filled_option options) name ≡ option_map filled_option (by_name options name)
long_options [] name = refl
long_options (o ∷ options) name = elim (cases_Bool (bytes_eq o.name name)) [ inl is ↦ simp is | inr other ↦ simp other (long_options options name) ]

id_options : (options : List OptionRow) (name : Text) → arg_by_id (map filled_option options) name ≡ option_map filled_option (by_name options name)
id_options [] name = refl
id_options (o ∷ options) name = elim (cases_Bool (bytes_eq o.name name)) [ inl is ↦ simp is | inr other ↦ simp other (id_options options name) ]

number_options : (options : List OptionRow) (n : ℕ) → arg_by_index (map filled_option options) n ≡ None
number_options [] n = refl
number_options (o ∷ options) n = number_options options n

long_places : (n : ℕ) (places : List Text) (rest : List Rule) (name : Text) → arg_by_long (placed_rules n places ++ rest) name ≡ arg_by_long rest name
long_places n [] rest name = refl
long_places n (place ∷ places) rest name = long_places (next n) places rest name

id_places : (n : ℕ) (places : List Text) (rest : List Rule) (name : Text) → list_any (λ place. bytes_eq place name) places ≡ false → arg_by_id (placed_rules n places ++ rest) name ≡ arg_by_id rest name
id_places n [] rest name none = refl
id_places n (place ∷ places) rest name none =
    let parts = or_parts (bytes_eq place name) (list_any (λ p. bytes_eq p name) places) none in
    let other = parts.0 in
    simp other (id_places (next n) places rest name parts.1)

-- the option that is found has the name, and it is among the names
found_name : (options : List OptionRow) (name : Text) (o : OptionRow) → by_name options name ≡ Some o → (o.name ≡ name) × (list_any (bytes_eq name) (map (λ x. x.name) options) ≡ true)
found_name [] name o e = absurd (cc e)
found_name (x ∷ options) name o e = elim (cases_Bool (bytes_eq x.name name)) [
  | inl is ↦ let same : x ≡ o = cc (simp is at e) in
      let here : x.name ≡ name = (bytes_eq-Decides x.name name).0 is in
      let back : bytes_eq name x.name ≡ true = (bytes_eq-Decides name x.name).1 (sym here) in
      (ap (λ (z : OptionRow). z.name) (sym same) ∙ here, simp back)
  | inr other ↦ let later = found_name options name o (simp other at e) in (later.0, simp (later.1) (or_true (bytes_eq name x.name)))
]
  where
    or_true : (b : Bool) → (b || true) ≡ true
    or_true true = refl
    or_true false = refl

-- a name among the others is none of these
no_place_name : (places names : List Text) (name : Text) → are_different (places ++ names) ≡ true → list_any (bytes_eq name) names ≡ true → list_any (λ place. bytes_eq place name) places ≡ false
no_place_name [] names name d h = refl
no_place_name (place ∷ places) names name d h =
    let parts = and_parts (not (list_any (bytes_eq place) (places ++ names))) (are_different (places ++ names)) d in
    let none = or_parts (list_any (bytes_eq place) places) (list_any (bytes_eq place) names) (sym (list_any-append (bytes_eq place) places names) ∙ not-true _ parts.0) in
    elim (cases_Bool (bytes_eq place name)) [
      | inl is ↦ let same : place ≡ name = (bytes_eq-Decides place name).0 is in
          let both : list_any (bytes_eq place) names ≡ list_any (bytes_eq name) names = ap (λ n. list_any (bytes_eq n) names) same in absurd (cc (both, none.1, h))
      | inr other ↦ simp other (no_place_name places names name parts.1 h)
    ]

-- what stands under a name among the options of a row is what its rules have
pub options_known : (n : ℕ) (places : List Text) (options : List OptionRow) → are_different (places ++ map (λ o. o.name) options) ≡ true
    → (name : Text) → Stands (placed_rules n places ++ map filled_option options) options name
options_known n places options d name = go (by_name options name) refl
  where
    rules : List Rule
    rules = placed_rules n places ++ map filled_option options

    long : (o : Option OptionRow) → by_name options name ≡ o → arg_by_long rules name ≡ option_map filled_option o
    long o is = long_places n places (map filled_option options) name ∙ long_options options name ∙ ap (option_map filled_option) is

    by_kind : (kind : OptionKind) → ((value : Option Text) → is_of options (45 ∷ 45 ∷ name, value) ≡ takes kind value) → arg_by_long rules name ≡ Some (filled_option (record { name = name; kind = kind }))
        → arg_by_id rules name ≡ Some (filled_option (record { name = name; kind = kind })) → Stands rules options name
    by_kind Required taken long id = option (λ v. taken (Some v)) (taken None) (record { required = true; by_long = long; by_id = id })
    by_kind Optional taken long id = option (λ v. taken (Some v)) (taken None) (record { required = false; by_long = long; by_id = id })
    by_kind Flag taken long id = flag (λ v. taken (Some v)) (taken None) (record { by_long = long })

    go : (o : Option OptionRow) → by_name options name ≡ o → Stands rules options name
    go None is = nothing (λ value. ap (λ z. option_map_or (λ o. takes o.kind value) z false) is) (long None is)
    go (Some o) is =
        let found = found_name options name o is in
        let same : Some (filled_option o) ≡ Some (filled_option (record { name = name; kind = o.kind })) = ap (λ t. Some (filled_option (record { name = t; kind = o.kind }))) found.0 in
        by_kind o.kind (λ value. ap (λ z. option_map_or (λ x. takes x.kind value) z false) is) (long (Some o) is ∙ same)
        (id_places n places (map filled_option options) name (no_place_name places (map (λ x. x.name) options) name d found.1) ∙ id_options options name ∙ ap (option_map filled_option) is ∙ same)

-- numbers that follow
next_above : (n m : ℕ) → n < m → n < usize_max → n < next m
next_above n m h k = omega (arith, h, k)

after_above : (n m : ℕ) (places : List Text) → n < m → n < usize_max → n < place_after m places
after_above n m [] h k = h
after_above n m (place ∷ places) h k = after_above n (next m) places (next_above n m h k) k

-- no place has the number behind them
pub none_behind : (n : ℕ) (places : List Text) (options : List OptionRow) → n + length places < usize_max → arg_by_index (placed_rules n places ++ map filled_option options) (place_after n places) ≡ None
none_behind n [] options k = number_options options n
none_behind n (place ∷ places) options k =
    let above = after_above n (next n) places (omega (arith, k)) (omega (arith, k)) in
    let other : (n == place_after (next n) places) ≡ false = ne_eqb n (place_after (next n) places) (λ e. omega (arith, above, e)) in
    simp other (none_behind (next n) places options (omega (arith, k)))

-- a rule of another name and a lower number in front
in_front : (n : ℕ) (place : Text) (rules : List Rule) (m : ℕ) (places : List Text) → n < m → n < usize_max → list_any (bytes_eq place) places ≡ false → HasPlaces rules m places → HasPlaces (with_index n (filled (place_rule place)) ∷ rules) m places
in_front n place rules m [] h k none has = tt
in_front n place rules m (p ∷ places) h k none has =
    let parts = or_parts (bytes_eq place p) (list_any (bytes_eq place) places) none in
    let name = parts.0 in
    let number : (n == m) ≡ false = ne_eqb n m (λ e. omega (arith, h, e)) in
    (record { by_index = simp number (has.0.by_index); by_id = simp name (has.0.by_id) }, in_front n place rules (next m) places (next_above n m h k) k parts.1 has.1)

-- the places of a row are those that its rules have
pub places_known : (n : ℕ) (places : List Text) (names : List Text) (rest : List Rule) → are_different (places ++ names) ≡ true → n + length places < usize_max → HasPlaces (placed_rules n places ++ rest) n places
places_known n [] names rest d k = tt
places_known n (place ∷ places) names rest d k =
    let parts = and_parts (not (list_any (bytes_eq place) (places ++ names))) (are_different (places ++ names)) d in
    let none = or_parts (list_any (bytes_eq place) places) (list_any (bytes_eq place) names) (sym (list_any-append (bytes_eq place) places names) ∙ not-true _ parts.0) in
    let same = (bytes_eq-Decides place place).1 refl in (
      record { by_index = first_number n; by_id = simp same },
      in_front n place (placed_rules (next n) places ++ rest) (next n) places (omega (arith, k)) (omega (arith, k)) none.0 (places_known (next n) places names rest parts.1 (omega (arith, k))),
    )
  where
    first_number : (n : ℕ) → arg_by_index (with_index n (filled (place_rule place)) ∷ (placed_rules (next n) places ++ rest)) n ≡ Some (with_index n (filled (place_rule place)))
    first_number n = let same : (n == n) ≡ true = (Decides-eqb n n).1 refl in simp same
