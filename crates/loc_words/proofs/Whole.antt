-- The whole parse of the words of a row.
use Rattle.std.proofs.Common.{◌≡◌, ◌+◌, ◌<◌, ◌&&◌, ◌||◌, ℕ, Bool, true, false, not, cond, List, [], ◌∷◌, ◌++◌, map, length, fold, nat_lt, Option, Some, None, is_some, option_map, option_and_then, Result, Ok, Err, IfOk, refl, sym, ◌∙◌, ap, ap₂, subst, arith, inl, inr}
use Rattle.std.specs.{Prelude.count_by, List.find, List.list_any, List.list_all, Str.bytes_eq}
use Rattle.std.proofs.{Math.Bool.or_assoc, lemmas.List.Folds.list_any-append, lemmas.Slice.Eq.bytes_eq-Decides}
use Rattle.std.proofs.lemmas.Bool.{and_parts, cases_Bool, ltb-true, not-true, or_parts}
use Rattle.clap.specs.Facts.{Entry as Found}
use Rattle.clap.specs.{Lexer.usize_max, Takes.is_given, Kinds.Kinds, Kinds.or_else}
use Rattle.clap.specs.Walk.{Row, Rule, arg_by_index, first_of, has_row, is_early_multiple, nothing_held, row_of, walk, with_default}
use Rattle.clap.specs.Faults.{check_fault, default_fault, defaults_fault, entered_fault, fault_of, is_simple_and_free, level_fault, settle_fault, walk_fault}
use Rattle.clap.specs.Simple.{Shape, built, entered, filled, matches_of, with_index}
use Rattle.clap.proofs.OnLiterals.{clap_on_literals}
use Rattle.loc_spec_text.specs.Bytes.{Text}
use Rattle.loc_words.specs.Apps.{Parses, app_of_row, entry_of, given_by, option_rule, place_rule}
use Rattle.loc_words.specs.Rows.{CommandRow, OptionRow, Entry, are_different, entries_of, given_of, is_required, is_row, is_value, is_whole, names_of, stands, value_in}
use Rattle.loc_words.specs.{Tested.are_tested, declared.parser.Given.Given}
use Rattle.std.specs.declared.alloc.AllocError.{AllocError}
use Rattle.loc_words.proofs.Agrees.{Agrees, names, or_else-assoc, both_quiet, walk_end, walk_total, words_after}
use Rattle.loc_words.proofs.{Options.HasOptions, Options.Stands, TestedWords.given_tested, TestedWords.tested_is}
use Rattle.loc_words.proofs.Places.{HasPlaces, on_entries, place_after, tested_from, next}
use Rattle.loc_words.proofs.Rules.{filled_option, none_behind, options_known, placed_rules, places_known, rules_filled}
use Rattle.loc_words.proofs.Walking.{row, state, no_fault}

-- what holds of each rule of places and options
all_rules : (p : Rule → Bool) → ((n : ℕ) (name : Text) → p (with_index n (filled (place_rule name))) ≡ true) → ((o : OptionRow) → p (filled_option o) ≡ true)
    → (n : ℕ) (places : List Text) (options : List OptionRow) → list_all p (placed_rules n places ++ map filled_option options) ≡ true
all_rules p place option n [] [] = refl
all_rules p place option n [] (o ∷ options) = let here = option o in simp here (all_rules p place option n [] options)
all_rules p place option n (name ∷ places) options = let here = place n name in simp here (all_rules p place option (next n) places options)

simple_rules : (places : List Text) (options : List OptionRow) → list_all (λ (a : Rule). a.is_simple) (map place_rule places ++ map option_rule options) ≡ true
simple_rules [] [] = refl
simple_rules [] (o ∷ options) = simple_rules [] options
simple_rules (name ∷ places) options = simple_rules places options

none_of : {X : Type 0} (p : X → Bool) (xs : List X) → list_all (λ x. not (p x)) xs ≡ true → list_any p xs ≡ false
none_of p [] h = refl
none_of p (x ∷ xs) h = let parts = and_parts (not (p x)) (list_all (λ y. not (p y)) xs) h in let here = not-true _ parts.0 in simp here (none_of p xs parts.1)

-- rules that have no defaults
abbrev no_text : List Text → Bool
no_text [] = true
no_text (text ∷ texts) = false

abbrev no_defaults : Rule → Bool
no_defaults a = no_text a.defaults

default_none : (rows : List Row) (a : Rule) → a.defaults ≡ [] → (with_default rows a ≡ rows) × (default_fault rows a ≡ [])
default_none rows a e = elim (cases_Bool (has_row a.id rows)) [ inl h ↦ (simp (e, h), simp (e, h)) | inr h ↦ (simp (e, h), simp (e, h)) ]

defaults_none : (rules : List Rule) (rows : List Row) → list_all no_defaults rules ≡ true → (fold with_default rows rules ≡ rows) × (defaults_fault rows rules ≡ [])
unfolding clap_on_literals
defaults_none [] rows none = (refl, refl)
defaults_none (a ∷ rules) rows none =
    let parts = and_parts (no_defaults a) (list_all no_defaults rules) none in
    let here = default_none rows a (no_elements a.defaults parts.0) in
    let more = defaults_none rules rows parts.1 in (
      ap (λ (r : List Row). fold with_default r rules) here.0 ∙ more.0,
      ap (λ (k : Kinds). or_else k (defaults_fault (with_default rows a) rules)) here.1 ∙ ap (λ (r : List Row). defaults_fault r rules) here.0 ∙ more.1,
    )
  where
    no_elements : (xs : List Text) → no_text xs ≡ true → xs ≡ []
    no_elements [] h = refl
    no_elements (x ∷ xs) h = absurd (cc h)

-- what stands is given
given_is : (given : List Entry) (name : Text) → is_given name (map row given) ≡ stands given name
given_is [] name = refl
given_is (e ∷ given) name = elim (cases_Bool (bytes_eq e.0 name)) [ inl is ↦ simp is | inr other ↦ simp other (given_is given name) ]

-- the rules lack what is required and does not stand
abbrev lacks_place : List Entry → Text → Bool
lacks_place given place = not (stands given place)

abbrev lacks_option : List Entry → OptionRow → Bool
lacks_option given option = is_required option.kind && not (stands given option.name)

abbrev wants : List Entry → Rule → Bool
wants given a = a.required && not (is_given a.id (map row given))

wants_options : (given : List Entry) (options : List OptionRow) → list_any (wants given) (map filled_option options) ≡ list_any (lacks_option given) options
wants_options given [] = refl
wants_options given (o ∷ options) = ap₂ (λ (a b : Bool). a || b) (ap (λ b. is_required o.kind && not b) (given_is given o.name)) (wants_options given options)

wants_places : (given : List Entry) (n : ℕ) (places : List Text) (options : List OptionRow) → list_any (wants given) (placed_rules n places ++ map filled_option options) ≡ (list_any (lacks_place given) places || list_any (lacks_option given) options)
wants_places given n [] options = wants_options given options
wants_places given n (place ∷ places) options =
    ap₂ (λ (a b : Bool). a || b) (ap not (given_is given place)) (wants_places given (next n) places options)
    ∙ sym (or_assoc (lacks_place given place) (list_any (lacks_place given) places) (list_any (lacks_option given) options))

complete_is : (given : List Entry) (options : List OptionRow) → list_all (λ option. not (is_required option.kind) || stands given option.name) options ≡ not (list_any (lacks_option given) options)
complete_is given [] = refl
complete_is given (o ∷ options) = step (is_required o.kind) (stands given o.name) (list_all (λ option. not (is_required option.kind) || stands given option.name) options) (list_any (lacks_option given) options) (complete_is given options)
  where
    step : (r s a b : Bool) → a ≡ not b → ((not r || s) && a) ≡ not ((r && not s) || b)
    step true true a b e = e
    step true false a b e = refl
    step false s a b e = e

-- each place stands in what the words give
places_stand : (options : List OptionRow) (places words : List Text) (given : List Entry) → entries_of options places words ≡ Some given → list_any (lacks_place given) places ≡ false
places_stand options [] words given e = refl
places_stand options (place ∷ places) [] given e = absurd (cc e)
places_stand options (place ∷ places) (word ∷ words) given e = elim (cases_Bool (is_value word)) [
  | inr other ↦ absurd (cc (simp other at e))
  | inl value ↦ go (entries_of options places words) (simp value at e) (places_stand options places words)
]
  where
    weaker : (first : Entry) (more : List Entry) (places : List Text) → list_any (lacks_place more) places ≡ false → list_any (lacks_place (first ∷ more)) places ≡ false
    weaker first more [] h = refl
    weaker first more (p ∷ places) h = let parts = or_parts (lacks_place more p) (list_any (lacks_place more) places) h in step (bytes_eq first.0 p) (stands more p) parts.0 (weaker first more places parts.1)
      where
        step : (a b : Bool) → not b ≡ false → list_any (lacks_place (first ∷ more)) places ≡ false → (not (a || b) || list_any (lacks_place (first ∷ more)) places) ≡ false
        step true b h k = k
        step false true h k = k
        step false false h k = absurd (cc h)

    go : (o : Option (List Entry)) → option_map (λ entries. (place, Some word) ∷ entries) o ≡ Some given → ((more : List Entry) → o ≡ Some more → list_any (lacks_place more) places ≡ false) → list_any (lacks_place given) (place ∷ places) ≡ false
    go None f more_of = absurd (cc f)
    go (Some more) f more_of =
        let same = (bytes_eq-Decides place place).1 refl in
        let first : (place, Some word) ∷ more ≡ given = cc f in
        subst (λ g. list_any (lacks_place g) (place ∷ places) ≡ false) first (simp same (weaker (place, Some word) more places (more_of more refl)))

entries_back : (given : List Entry) → map entry_of (map row given) ≡ given
entries_back [] = refl
entries_back ((name, None) ∷ given) = ap (λ (l : List Entry). (name, None) ∷ l) (entries_back given)
entries_back ((name, Some v) ∷ given) = ap (λ (l : List Entry). (name, Some v) ∷ l) (entries_back given)

-- the value under a name is the first one that `clap` has for it
pub value_by_rows : (rows : List Row) (name : Text) → value_in (map entry_of rows) name ≡ first_of name rows
value_by_rows [] name = refl
value_by_rows (x ∷ rows) name = elim (cases_Bool (bytes_eq x.id name)) [ inl is ↦ simp is | inr other ↦ simp other (value_by_rows rows name) ]

-- an entry is there exactly where something stands under its name
pub stands_by_rows : (found : List Found) (name : Text) → is_some (option_map (λ (e : Found). e.1) (find (λ (e : Found). bytes_eq e.0.now name) found)) ≡ stands (map entry_of (map row_of found)) name
stands_by_rows [] name = refl
stands_by_rows (x ∷ found) name = elim (cases_Bool (bytes_eq x.0.now name)) [ inl is ↦ simp is | inr other ↦ simp other (stands_by_rows found name) ]

module _ (r : CommandRow) (is : is_row r ≡ true) where
  abbrev top : Shape
  top = (built (app_of_row r)).top

  rules_are : top.rules ≡ placed_rules 1 r.places ++ map filled_option r.options
  rules_are = rules_filled 1 r.places r.options

  parts : ((are_different (names_of r) && not (list_any (bytes_eq []) (names_of r))) ≡ true) × (nat_lt (length r.places) 100 ≡ true)
  parts = and_parts (are_different (names_of r) && not (list_any (bytes_eq []) (names_of r))) (nat_lt (length r.places) 100) is

  different : are_different (names_of r) ≡ true
  different = (and_parts (are_different (names_of r)) (not (list_any (bytes_eq []) (names_of r))) parts.0).0

  no_empty : list_any (bytes_eq []) (map (λ o. o.name) r.options) ≡ false
  no_empty = (or_parts (list_any (bytes_eq []) r.places) _ (sym (list_any-append (bytes_eq []) r.places (map (λ o. o.name) r.options)) ∙ not-true _ (and_parts (are_different (names_of r)) (not (list_any (bytes_eq []) (names_of r))) parts.0).1)).1

  few : 1 + length r.places < usize_max
  few = let h = ltb-true (length r.places) 100 parts.1 in omega (arith, h)

  options_there : HasOptions top (place_after 1 r.places) r.options
  options_there = record {
    past = record { no_place = subst (λ l. arg_by_index l (place_after 1 r.places) ≡ None) (sym rules_are) (none_behind 1 r.places r.options few); once = refl; leaf = refl };
    known = λ name. subst (λ l. Stands l r.options name) (sym rules_are) (options_known 1 r.places r.options different name);
  }

  places_there : HasPlaces top.rules 1 r.places
  places_there = subst (λ l. HasPlaces l 1 r.places) (sym rules_are) (places_known 1 r.places (map (λ o. o.name) r.options) (map filled_option r.options) different few)

  abbrev total : List Text → Kinds
  total words = walk_total top (state 1 [] None) words

  abbrev end : List Text → List Row
  end words = walk_end top (state 1 [] None) words

  agrees : (words : List Text) → tested_from r.places words ≡ true → Agrees [] [] (entries_of r.options r.places words) (total words) (end words)
  agrees words tested = on_entries top r.options refl 1 r.places places_there options_there words tested [] None

  without_defaults : list_all no_defaults top.rules ≡ true
  without_defaults = subst (λ l. list_all no_defaults l ≡ true) (sym rules_are) (all_rules no_defaults (λ n name. refl) (λ o. refl) 1 r.places r.options)

  pub matches_are : (words : List Text) → matches_of (app_of_row r) words ≡ end words
  matches_are words = (defaults_none top.rules (end words) without_defaults).0

  pub fault_is : (words : List Text) → fault_of (app_of_row r) words ≡ or_else (total words) (check_fault top (end words) false)
  fault_is words =
      let stop = (walk top.rules [] nothing_held words).stopped in
      let walked : Kinds = walk_fault top [] (state 1 [] None) words in
      let settled : Kinds = settle_fault top.rules false (words_after top (state 1 [] None) words).held in
      ap₂ (λ (b : Bool) (k : Kinds). level_fault top [] nothing_held words b k) (ap is_some (none_entered stop)) (none_below stop)
      ∙ ap (λ (k : Kinds). or_else walked (or_else settled (or_else k (check_fault top (matches_of (app_of_row r) words) false)))) (defaults_none top.rules (end words) without_defaults).1
      ∙ ap (λ (l : List Row). or_else walked (or_else settled (check_fault top l false))) (matches_are words)
      ∙ sym (or_else-assoc walked settled (check_fault top (end words) false))
    where
      none_entered : (stop : Option (Text × List Text)) → entered (built (app_of_row r)) stop ≡ None
      none_entered None = refl
      none_entered (Some p) = refl

      none_below : (stop : Option (Text × List Text)) → entered_fault (built (app_of_row r)) stop ≡ []
      none_below None = refl
      none_below (Some p) = refl

  wants_is : (given : List Entry) → list_any (wants given) top.rules ≡ (list_any (lacks_place given) r.places || list_any (lacks_option given) r.options)
  wants_is given = ap (list_any (wants given)) rules_are ∙ wants_places given 1 r.places r.options

  -- the command is whole where the last check has no fault
  checked : (given : List Entry) → check_fault top (map row given) false ≡ [] → list_any (lacks_option given) r.options ≡ false
  checked given quiet = elim (cases_Bool (list_any (wants given) top.rules)) [
    | inl lacks ↦ absurd (cc (simp lacks at quiet))
    | inr none ↦ (or_parts (list_any (lacks_place given) r.places) (list_any (lacks_option given) r.options) (sym (wants_is given) ∙ none)).1
  ]

  checks : (given : List Entry) → list_any (lacks_place given) r.places ≡ false → list_any (lacks_option given) r.options ≡ false → check_fault top (map row given) false ≡ []
  checks given places options = let none : list_any (wants given) top.rules ≡ false = wants_is given ∙ simp (places, options) in simp none

  -- what `clap` finds in tested words that have no fault is what they give
  pub read : (words : List Text) → are_tested (length r.places) words ≡ true → fault_of (app_of_row r) words ≡ [] → given_of r words ≡ Some (map entry_of (matches_of (app_of_row r) words))
  read words tested quiet = go (entries_of r.options r.places words) refl (agrees words (sym (tested_is r.places words) ∙ tested))
    where
      two : (total words ≡ []) × (check_fault top (end words) false ≡ [])
      two = no_fault (total words) (check_fault top (end words) false) (sym (fault_is words) ∙ quiet)

      go : (o : Option (List Entry)) → entries_of r.options r.places words ≡ o → Agrees [] [] o (total words) (end words) → given_of r words ≡ Some (map entry_of (matches_of (app_of_row r) words))
      go None e a = absurd (a two.0)
      go (Some given) e a =
          let found = a.reads refl two.0 in
          let complete = complete_is given r.options ∙ ap not (checked given (subst (λ l. check_fault top l false ≡ []) found.1 two.1)) in
          let diff = found.0 in
          ap (option_and_then (λ g. cond (is_whole r.options g) (Some g) None)) e ∙ simp (diff, complete) (ap Some (sym (ap (map entry_of) (matches_are words ∙ found.1) ∙ entries_back given)))

  -- words that give something are taken, and `clap` finds what they give
  pub taken : (words : List Text) (given : List Entry) → given_of r words ≡ Some given → (fault_of (app_of_row r) words ≡ []) × (map entry_of (matches_of (app_of_row r) words) ≡ given)
  taken words given e = go (entries_of r.options r.places words) refl e
    where
      whole : (found : List Entry) → entries_of r.options r.places words ≡ Some found → is_whole r.options found ≡ true → found ≡ given → Agrees [] [] (Some found) (total words) (end words) → (fault_of (app_of_row r) words ≡ []) × (map entry_of (matches_of (app_of_row r) words) ≡ given)
      whole found is all same a =
          let both = and_parts (are_different (names found)) _ all in
          let quiet = a.goes refl both.0 in
          let ends = (a.reads refl quiet).1 in
          let complete = not-true _ (sym (complete_is found r.options) ∙ both.1) in
          let check = subst (λ l. check_fault top l false ≡ []) (sym ends) (checks found (places_stand r.options r.places words found is) complete) in
          (fault_is words ∙ both_quiet (total words) (check_fault top (end words) false) quiet check, ap (map entry_of) (matches_are words ∙ ends) ∙ entries_back found ∙ same)

      go : (o : Option (List Entry)) → entries_of r.options r.places words ≡ o → option_and_then (λ g. cond (is_whole r.options g) (Some g) None) o ≡ Some given → (fault_of (app_of_row r) words ≡ []) × (map entry_of (matches_of (app_of_row r) words) ≡ given)
      go None is f = absurd (cc f)
      go (Some found) is f = elim (cases_Bool (is_whole r.options found)) [
        | inr other ↦ absurd (cc (simp other at f))
        | inl all ↦ let same : found ≡ given = cc (simp all at f) in
            whole found is all same (subst (λ o. Agrees [] [] o (total words) (end words)) is (agrees words (given_tested r.options no_empty r.places words found is)))
      ]

  -- words that are not tested give nothing
  none_if : (o : Option (List Entry)) → ((given : List Entry) → o ≡ Some given → ⊥) → o ≡ None
  none_if None h = refl
  none_if (Some given) h = absurd (h given refl)

  pub untested : (words : List Text) → are_tested (length r.places) words ≡ false → given_of r words ≡ None
  untested words other = go (entries_of r.options r.places words) refl
    where
      go : (o : Option (List Entry)) → entries_of r.options r.places words ≡ o → given_of r words ≡ None
      go None is = ap (option_and_then (λ g. cond (is_whole r.options g) (Some g) None)) is
      go (Some given) is = absurd (cc (given_tested r.options no_empty r.places words given is, sym (tested_is r.places words) ∙ other))

  -- what is made of tested words is what they give
  pub parsed : (words : List Text) (answer : Result (Option Given) AllocError) → are_tested (length r.places) words ≡ true → Parses (app_of_row r) words answer → IfOk answer (λ given. option_map given_by given ≡ given_of r words)
  parsed words (Ok (Some given)) tested p = sym (read words tested p.0 ∙ ap Some (sym p.1))
  parsed words (Ok None) tested fault = sym (none_if (given_of r words) (λ given e. fault (taken words given e).0))
  parsed words (Err e) tested p = tt

  -- the command of a row is one of which `clap` tells all
  pub simple : is_simple_and_free (app_of_row r) ≡ true
  simple =
      let plain = simple_rules r.places r.options in
      let still = subst (λ l. list_all (λ (a : Rule). a.is_simple) l ≡ true) (sym rules_are) (all_rules (λ a. a.is_simple) (λ n name. refl) (λ o. refl) 1 r.places r.options) in
      let free = subst (λ l. list_all (λ (a : Rule). a.is_free) l ≡ true) (sym rules_are) (all_rules (λ a. a.is_free) (λ n name. refl) (λ o. refl) 1 r.places r.options) in
      let order = in_order (count_by (λ (a : Rule). is_some a.index) top.rules) in
      simp (plain, still, free, order)
    where
      in_order : (n : ℕ) → list_any (is_early_multiple n) top.rules ≡ false
      in_order n = ap (list_any (is_early_multiple n)) rules_are ∙ none_of (is_early_multiple n) (placed_rules 1 r.places ++ map filled_option r.options) (all_rules (λ a. not (is_early_multiple n a)) (λ i name. refl) (λ o. refl) 1 r.places r.options)
