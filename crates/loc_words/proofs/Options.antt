-- The walk over the words behind the places agrees with the settings that they are.
use Rattle.std.proofs.Common.{◌≡◌, ◌==◌, ◌&&◌, ℕ, true, false, List, [], ◌∷◌, Option, Some, None, option_map, refl, sym, ◌∙◌, ap, ap₂, append-nil, subst, inl, inr}
use Rattle.std.specs.Prelude.{◌⊎◌}
use Rattle.std.specs.List.{before_first, after_first, list_any, list_all}
use Rattle.std.proofs.lemmas.Bool.{and_parts, cases_Bool, ne_eqb, or_cases}
use Rattle.std.proofs.lemmas.Bool.Decides.{Decides-eqb}
use Rattle.clap.specs.Walk.{Row, Rule, arg_by_long, settled_rows, walked}
use Rattle.clap.specs.{Faults.settle_fault, Faults.turn_fault, Kinds.Kinds, Kinds.or_else, Simple.Shape}
use Rattle.clap.proofs.OnLiterals.{clap_on_literals}
use Rattle.loc_spec_text.specs.Bytes.{Text}
use Rattle.loc_words.specs.Rows.{OptionRow, Entry, are_different, is_equals, is_of, is_value, named, option_in, settings, settings_of, takes}
use Rattle.loc_words.specs.Tested.{is_long, has_value, is_tested}
use Rattle.loc_words.proofs.Agrees.{Agrees, agrees_as, behind, faulty, one_use, or_else-nil, refused, repeated, walk_end, walk_on, walk_total}
use Rattle.loc_words.proofs.Cuts.{after-dashes, before-cons, before-dashes, before-whole}
use Rattle.loc_words.proofs.Distinct.{ids}
use Rattle.loc_words.proofs.Walking.{IsFlag, IsOption, IsPastPlaces, held, state, wanting, name_of, value_of, used_once, stray, unknown, joined, joined_fault, apart, apart_fault, valued, valued_fault, empty_fault, once_fault, settles, long_fault, unknown_fault, flagged, flagged_fault, flag_valued, flag_fault, no_fault}

-- what stands under a name of two hyphens, among the options and the rules: nothing, an option that takes a value, or a flag
pub data Stands (rules : List Rule) (options : List OptionRow) (name : Text) : Type 0 where
  nothing : ((value : Option Text) → is_of options (45 ∷ 45 ∷ name, value) ≡ false) → arg_by_long rules name ≡ None → Stands rules options name
  option : ((value : Text) → is_of options (45 ∷ 45 ∷ name, Some value) ≡ is_value value) → is_of options (45 ∷ 45 ∷ name, None) ≡ false → IsOption rules name → Stands rules options name
  flag : ((value : Text) → is_of options (45 ∷ 45 ∷ name, Some value) ≡ false) → is_of options (45 ∷ 45 ∷ name, None) ≡ true → IsFlag rules name → Stands rules options name

-- a command that takes no more places, with these options
pub record HasOptions (s : Shape) (place : ℕ) (options : List OptionRow) : Type 0 where
  pub past : IsPastPlaces s place
  pub known : (name : Text) → Stands s.rules options name

-- a word that may stand behind the places is a value or an option
pub record IsPlain (word : Text) : Type 0 where
  pub first : ℕ
  pub others : Text
  pub is : word ≡ first ∷ others
  pub plain : (first == 45) ≡ false

pub record IsLong (word : Text) : Type 0 where
  pub first : ℕ
  pub others : Text
  pub is : word ≡ 45 ∷ 45 ∷ first ∷ others
  pub valued : has_value word ≡ true

pub plain_word : (word : Text) → is_value word ≡ true → IsPlain word
plain_word [] h = absurd (cc h)
plain_word (x ∷ xs) h = record { first = x; others = xs; is = refl; plain = elim (cases_Bool (x == 45)) [ inl is ↦ absurd (cc (simp is at h)) | inr other ↦ other ] }

long_word : (word : Text) → is_long word ≡ true → has_value word ≡ true → IsLong word
long_word [] h v = absurd (cc h)
long_word (a ∷ []) h v = absurd (cc h)
long_word (a ∷ b ∷ []) h v = absurd (cc h)
long_word (a ∷ b ∷ x ∷ xs) h v =
    let both = and_parts (a == 45) (b == 45) h in
    let first_is = (Decides-eqb a 45).0 both.0 in
    let second_is = (Decides-eqb b 45).0 both.1 in
    record { first = x; others = xs; is = ap (λ (n : ℕ). n ∷ b ∷ x ∷ xs) first_is ∙ ap (λ (n : ℕ). 45 ∷ n ∷ x ∷ xs) second_is; valued = v }

kinds_of_word : (word : Text) → is_tested word ≡ true → IsPlain word ⊎ IsLong word
kinds_of_word word h = elim (or_cases (is_value word) (is_long word && has_value word) h) [
  | inl is ↦ inl (plain_word word is)
  | inr is ↦ let both = and_parts (is_long word) (has_value word) is in inr (long_word word both.0 both.1)
]

-- the first setting of words
pub joined_first : (word : Text) (words : List Text) → list_any is_equals word ≡ true → settings (word ∷ words) ≡ (before_first is_equals word, Some (after_first is_equals word)) ∷ settings words
joined_first word [] has = simp has
joined_first word (next ∷ words) has = simp has

pub alone_first : (word : Text) → list_any is_equals word ≡ false → settings (word ∷ []) ≡ (word, None) ∷ []
alone_first word lacks = simp lacks

pub apart_first : (word next : Text) (words : List Text) → list_any is_equals word ≡ false → is_value next ≡ true → settings (word ∷ next ∷ words) ≡ (word, Some next) ∷ settings words
apart_first word next words lacks value = simp (lacks, value)

pub flag_first : (word next : Text) (words : List Text) → list_any is_equals word ≡ false → is_value next ≡ false → settings (word ∷ next ∷ words) ≡ (word, None) ∷ settings (next ∷ words)
flag_first word next words lacks none = simp (lacks, none)

-- settings with one in front
one_setting : (options : List OptionRow) (x : Entry) (found : List Entry) → is_of options x ≡ true → settings_of options (x ∷ found) ≡ option_map (λ given. named x ∷ given) (settings_of options found)
one_setting options x found is = elim (cases_Bool (list_all (is_of options) found)) [ inl all ↦ simp (is, all) | inr some ↦ simp (is, some) ]

no_setting : (options : List OptionRow) (x : Entry) (found : List Entry) → is_of options x ≡ false → settings_of options (x ∷ found) ≡ None
no_setting options x found other = simp other

-- what does not begin with two hyphens is no option
none_plain : (options : List OptionRow) (x : ℕ) (xs : Text) → (x == 45) ≡ false → option_in options (x ∷ xs) ≡ None
none_plain [] x xs h = refl
none_plain (o ∷ options) x xs h =
    let other : (45 == x) ≡ false = ne_eqb 45 x (λ e. cc (subst (λ z. (z == 45) ≡ false) (sym e) h)) in
    simp other (none_plain options x xs h)

none_empty : (options : List OptionRow) → option_in options [] ≡ None
none_empty [] = refl
none_empty (o ∷ options) = none_empty options

none_before : (options : List OptionRow) (x : ℕ) (xs : Text) → (x == 45) ≡ false → option_in options (before_first is_equals (x ∷ xs)) ≡ None
none_before options x xs h = elim (cases_Bool (is_equals x)) [
  | inl is ↦ simp is (none_empty options)
  | inr other ↦ ap (option_in options) (before-cons x xs other) ∙ none_plain options x (before_first is_equals xs) h
]

no_first : (options : List OptionRow) (x : ℕ) (xs : Text) (words : List Text) → (x == 45) ≡ false → settings_of options (settings ((x ∷ xs) ∷ words)) ≡ None
no_first options x xs words h = elim (cases_Bool (list_any is_equals (x ∷ xs))) [
  | inl has ↦ ap (settings_of options) (joined_first (x ∷ xs) words has) ∙ no_setting options (before_first is_equals (x ∷ xs), Some (after_first is_equals (x ∷ xs))) (settings words) (none (before_first is_equals (x ∷ xs)) (Some (after_first is_equals (x ∷ xs))) (none_before options x xs h))
  | inr lacks ↦ whole words lacks
]
  where
    none : (word : Text) (value : Option Text) → option_in options word ≡ None → is_of options (word, value) ≡ false
    none word value e = simp e

    whole : (words : List Text) → list_any is_equals (x ∷ xs) ≡ false → settings_of options (settings ((x ∷ xs) ∷ words)) ≡ None
    whole [] lacks = ap (settings_of options) (alone_first (x ∷ xs) lacks) ∙ no_setting options (x ∷ xs, None) [] (none (x ∷ xs) None (none_plain options x xs h))
    whole (next ∷ words) lacks = elim (cases_Bool (is_value next)) [
      | inl value ↦ ap (settings_of options) (apart_first (x ∷ xs) next words lacks value) ∙ no_setting options (x ∷ xs, Some next) (settings words) (none (x ∷ xs) (Some next) (none_plain options x xs h))
      | inr no_value ↦ ap (settings_of options) (flag_first (x ∷ xs) next words lacks no_value) ∙ no_setting options (x ∷ xs, None) (settings (next ∷ words)) (none (x ∷ xs) None (none_plain options x xs h))
    ]

module _ (s : Shape) (place : ℕ) (options : List OptionRow) (c : HasOptions s place options) where
  -- the walk over these words agrees with the settings that they are
  abbrev pub AgreesAt : List Row → Option (Text × List Text) → List Text → Type 0
  AgreesAt so_far pending words = Agrees (settle_fault s.rules false (held so_far pending)) (settled_rows s.rules pending so_far) (settings_of options (settings words))
      (walk_total s (state place so_far pending) words) (walk_end s (state place so_far pending) words)

  abbrev pub AgreesOn : List Text → Type 0
  AgreesOn words = (so_far : List Row) (pending : Option (Text × List Text)) → list_all is_tested words ≡ true → AgreesAt so_far pending words

  -- a use that one word makes, and then the others
  used_at_once : (so_far : List Row) (pending : Option (Text × List Text)) (word : Text) (words : List Text) (e : Entry) → AgreesOn words → list_all is_tested words ≡ true
      → walked s.rules [] (state place so_far pending) word ≡ state place (used_once e (settled_rows s.rules pending so_far)) None
      → turn_fault s [] (state place so_far pending) word ≡ or_else (or_else (settle_fault s.rules false (held so_far pending)) (repeated e (settled_rows s.rules pending so_far))) []
      → settings_of options (settings (word ∷ words)) ≡ option_map (λ given. e ∷ given) (settings_of options (settings words))
      → AgreesAt so_far pending (word ∷ words)
  used_at_once so_far pending word words e more tested is fault given =
      let q = settle_fault s.rules false (held so_far pending) in
      let rows = settled_rows s.rules pending so_far in
      let next = state place (used_once e rows) None in
      let on = walk_on s (state place so_far pending) next word words (or_else q (repeated e rows)) (fault ∙ or_else-nil (or_else q (repeated e rows))) is in
      agrees_as q rows _ _ _ _ _ _ given (on.0 ∙ regroup q (repeated e rows) (walk_total s next words)) on.1
      (one_use q rows e (used_once e rows) (settings_of options (settings words)) (or_else (repeated e rows) (walk_total s next words)) (walk_end s next words) refl
      (behind (repeated e rows) (used_once e rows) (settings_of options (settings words)) (walk_total s next words) (walk_end s next words) (more (used_once e rows) None tested)))
    where
      regroup : (a b d : Kinds) → or_else (or_else a b) d ≡ or_else a (or_else b d)
      regroup [] b d = refl
      regroup (k ∷ a) b d = refl

  refused_at : (so_far : List Row) (pending : Option (Text × List Text)) (word : Text) (words : List Text) → settings_of options (settings (word ∷ words)) ≡ None
      → (turn_fault s [] (state place so_far pending) word ≡ [] → ⊥) → AgreesAt so_far pending (word ∷ words)
  refused_at so_far pending word words none fault = refused _ _ _ _ _ none (faulty s (state place so_far pending) word words fault)

  -- an option with its value in the same word
  with_joined : (y : ℕ) (ys : Text) (words : List Text) → AgreesOn words → list_all is_tested words ≡ true → list_any is_equals (y ∷ ys) ≡ true → is_value (value_of (y ∷ ys)) ≡ true
      → (so_far : List Row) (pending : Option (Text × List Text)) → AgreesAt so_far pending ((45 ∷ 45 ∷ y ∷ ys) ∷ words)
  with_joined y ys words more tested has value so_far pending = elim (c.known (name_of (y ∷ ys))) [
    | nothing none rule ↦ refused_at so_far pending (45 ∷ 45 ∷ y ∷ ys) words (first ∙ no_setting options x (settings words) (none x.1)) (λ quiet. cc (unknown s place so_far pending y ys rule, quiet))
    | option takes alone rule ↦ used_at_once so_far pending (45 ∷ 45 ∷ y ∷ ys) words (named x) more tested (joined s place so_far pending y ys has rule) (joined_fault s place c.past so_far pending y ys has rule)
        (first ∙ one_setting options x (settings words) (takes (value_of (y ∷ ys)) ∙ value))
    | flag none alone rule ↦ refused_at so_far pending (45 ∷ 45 ∷ y ∷ ys) words (first ∙ no_setting options x (settings words) (none (value_of (y ∷ ys)))) (λ quiet. cc (flag_valued s place so_far pending y ys has rule, quiet))
  ]
    where
      x : Entry
      x = (45 ∷ 45 ∷ name_of (y ∷ ys), Some (value_of (y ∷ ys)))

      first : settings_of options (settings ((45 ∷ 45 ∷ y ∷ ys) ∷ words)) ≡ settings_of options (x ∷ settings words)
      first = ap (settings_of options) (joined_first (45 ∷ 45 ∷ y ∷ ys) words has ∙ ap₂ (λ (a b : Text). (a, Some b) ∷ settings words) (before-dashes (y ∷ ys)) (after-dashes (y ∷ ys)))

  -- a flag alone, and what is no flag
  alone : (y : ℕ) (ys : Text) (words : List Text) → AgreesOn words → list_all is_tested words ≡ true → list_any is_equals (y ∷ ys) ≡ false
      → settings ((45 ∷ 45 ∷ y ∷ ys) ∷ words) ≡ (45 ∷ 45 ∷ y ∷ ys, None) ∷ settings words
      → ((so_far : List Row) (pending : Option (Text × List Text)) → IsOption s.rules (name_of (y ∷ ys)) → walk_total s (state place so_far pending) ((45 ∷ 45 ∷ y ∷ ys) ∷ words) ≡ [] → ⊥)
      → (so_far : List Row) (pending : Option (Text × List Text)) → AgreesAt so_far pending ((45 ∷ 45 ∷ y ∷ ys) ∷ words)
  alone y ys words more tested lacks first_is wants so_far pending = elim (c.known (name_of (y ∷ ys))) [
    | nothing none rule ↦ refused_at so_far pending (45 ∷ 45 ∷ y ∷ ys) words (first ∙ no_setting options x (settings words) (none None)) (λ quiet. cc (unknown s place so_far pending y ys rule, quiet))
    | option takes none rule ↦ refused _ _ _ _ _ (first ∙ no_setting options x (settings words) none) (wants so_far pending rule)
    | flag none takes rule ↦ used_at_once so_far pending (45 ∷ 45 ∷ y ∷ ys) words (named x) more tested (flagged s place so_far pending y ys lacks rule) (flagged_fault s place c.past so_far pending y ys lacks rule)
        (first ∙ one_setting options x (settings words) takes)
  ]
    where
      x : Entry
      x = (45 ∷ 45 ∷ name_of (y ∷ ys), None)

      first : settings_of options (settings ((45 ∷ 45 ∷ y ∷ ys) ∷ words)) ≡ settings_of options (x ∷ settings words)
      first = ap (settings_of options) (first_is ∙ ap (λ (t : Text). (45 ∷ 45 ∷ t, None) ∷ settings words) (sym (before-whole (y ∷ ys) lacks)))

  -- an option behind which nothing stands
  nothing_behind : (y : ℕ) (ys : Text) → list_any is_equals (y ∷ ys) ≡ false → (so_far : List Row) (pending : Option (Text × List Text)) → IsOption s.rules (name_of (y ∷ ys))
      → walk_total s (state place so_far pending) ((45 ∷ 45 ∷ y ∷ ys) ∷ []) ≡ [] → ⊥
  nothing_behind y ys lacks so_far pending rule quiet =
      let rows = settled_rows s.rules pending so_far in
      let on = walk_on s (state place so_far pending) (wanting place rows (name_of (y ∷ ys))) (45 ∷ 45 ∷ y ∷ ys) [] _ (apart_fault s place c.past so_far pending y ys lacks rule) (apart s place so_far pending y ys lacks rule) in
      let end = (no_fault _ _ (sym on.0 ∙ quiet)).1 in
      let fault : settle_fault s.rules false (held rows (Some (name_of (y ∷ ys), []))) ≡ [] = (no_fault _ _ end).1 in
      cc (empty_fault s rows (name_of (y ∷ ys)) rule, fault)

  -- an option behind which another one stands
  option_behind : (y : ℕ) (ys : Text) (z : ℕ) (zs : Text) (words : List Text) → list_any is_equals (y ∷ ys) ≡ false → (so_far : List Row) (pending : Option (Text × List Text)) → IsOption s.rules (name_of (y ∷ ys))
      → walk_total s (state place so_far pending) ((45 ∷ 45 ∷ y ∷ ys) ∷ (45 ∷ 45 ∷ z ∷ zs) ∷ words) ≡ [] → ⊥
  option_behind y ys z zs words lacks so_far pending rule quiet =
      let rows = settled_rows s.rules pending so_far in
      let next = wanting place rows (name_of (y ∷ ys)) in
      let on = walk_on s (state place so_far pending) next (45 ∷ 45 ∷ y ∷ ys) ((45 ∷ 45 ∷ z ∷ zs) ∷ words) _ (apart_fault s place c.past so_far pending y ys lacks rule) (apart s place so_far pending y ys lacks rule) in
      faulty s next (45 ∷ 45 ∷ z ∷ zs) words (λ turn. elim (c.known (name_of (z ∷ zs))) [
        | nothing none other ↦ cc (unknown_fault s place rows (name_of (y ∷ ys)) z zs other, turn)
        | option takes alone other ↦ cc (long_fault s place c.past rows (name_of (y ∷ ys)) z zs rule other, turn)
        | flag none takes other ↦ flag_fault s place c.past rows (name_of (y ∷ ys)) z zs rule other turn
      ]) (no_fault _ _ (sym on.0 ∙ quiet)).1

  -- an option with its value in the next word, or a flag behind which a word stands
  with_apart : (y : ℕ) (ys : Text) (x : ℕ) (xs : Text) (words : List Text) → AgreesOn words → list_all is_tested words ≡ true → list_any is_equals (y ∷ ys) ≡ false → (x == 45) ≡ false
      → (so_far : List Row) (pending : Option (Text × List Text)) → AgreesAt so_far pending ((45 ∷ 45 ∷ y ∷ ys) ∷ (x ∷ xs) ∷ words)
  with_apart y ys x xs words more tested lacks plain so_far pending = elim (c.known (name_of (y ∷ ys))) [
    | nothing none rule ↦ refused_at so_far pending word ((x ∷ xs) ∷ words) (first ∙ no_setting options given (settings words) (none given.1)) (λ quiet. cc (unknown s place so_far pending y ys rule, quiet))
    | option takes alone rule ↦ taken (takes (x ∷ xs) ∙ value) rule
    | flag none takes rule ↦ refused _ _ _ _ _ (first ∙ no_setting options given (settings words) (none (x ∷ xs))) (λ quiet.
        let next = state place (used_once (name_of (y ∷ ys), None) rows) None in
        let on = walk_on s (state place so_far pending) next word ((x ∷ xs) ∷ words) _ refl (flagged s place so_far pending y ys lacks rule) in
        faulty s next (x ∷ xs) words (λ turn. cc (stray s place c.past (used_once (name_of (y ∷ ys), None) rows) None x xs plain, turn)) (no_fault _ _ (sym on.0 ∙ quiet)).1)
  ]
    where
      word : Text
      word = 45 ∷ 45 ∷ y ∷ ys

      given : Entry
      given = (45 ∷ 45 ∷ name_of (y ∷ ys), Some (x ∷ xs))

      rows : List Row
      rows = settled_rows s.rules pending so_far

      value : is_value (x ∷ xs) ≡ true
      value = simp plain

      first : settings_of options (settings (word ∷ (x ∷ xs) ∷ words)) ≡ settings_of options (given ∷ settings words)
      first = ap (settings_of options) (apart_first word (x ∷ xs) words lacks value ∙ ap (λ (t : Text). (45 ∷ 45 ∷ t, Some (x ∷ xs)) ∷ settings words) (sym (before-whole (y ∷ ys) lacks)))

      taken : is_of options given ≡ true → IsOption s.rules (name_of (y ∷ ys)) → AgreesAt so_far pending (word ∷ (x ∷ xs) ∷ words)
      taken takes_it rule =
          let next = wanting place rows (name_of (y ∷ ys)) in
          let used : Option (Text × List Text) = Some (name_of (y ∷ ys), (x ∷ xs) ∷ []) in
          let end = state place rows used in
          let one = walk_on s (state place so_far pending) next word ((x ∷ xs) ∷ words) _ (apart_fault s place c.past so_far pending y ys lacks rule ∙ or_else-nil _) (apart s place so_far pending y ys lacks rule) in
          let two = walk_on s next end (x ∷ xs) words _ (valued_fault s place rows (name_of (y ∷ ys)) x xs plain) (valued s place rows (name_of (y ∷ ys)) x xs plain rule) in
          let q = settle_fault s.rules false (held so_far pending) in
          agrees_as q rows _ _ _ _ _ _ (first ∙ one_setting options given (settings words) takes_it) (one.0 ∙ ap (or_else q) two.0) (one.1 ∙ two.1)
          (one_use q rows (named given) (settled_rows s.rules used rows) (settings_of options (settings words)) (walk_total s end words) (walk_end s end words) (settles s rows (name_of (y ∷ ys)) (x ∷ xs) rule)
          (subst (λ k. Agrees k (settled_rows s.rules used rows) (settings_of options (settings words)) (walk_total s end words) (walk_end s end words)) (once_fault s rows (name_of (y ∷ ys)) (x ∷ xs) rule) (more rows used tested)))

  stray_first : (x : ℕ) (xs : Text) (words : List Text) → (x == 45) ≡ false → (so_far : List Row) (pending : Option (Text × List Text)) → AgreesAt so_far pending ((x ∷ xs) ∷ words)
  stray_first x xs words plain so_far pending = refused_at so_far pending (x ∷ xs) words (no_first options x xs words plain) (λ quiet. cc (stray s place c.past so_far pending x xs plain, quiet))

  behind_equals : (y : ℕ) (ys : Text) → list_any is_equals (y ∷ ys) ≡ true → has_value (45 ∷ 45 ∷ y ∷ ys) ≡ true → is_value (value_of (y ∷ ys)) ≡ true
  behind_equals y ys has v = ap is_value (sym (after-dashes (y ∷ ys))) ∙ simp has at v

  -- a word of two hyphens, and then the others
  long_first : (word : Text) (words : List Text) → IsLong word → AgreesOn words → list_all is_tested words ≡ true
      → (list_any is_equals word ≡ false → (so_far : List Row) (pending : Option (Text × List Text)) → AgreesAt so_far pending (word ∷ words))
      → (so_far : List Row) (pending : Option (Text × List Text)) → AgreesAt so_far pending (word ∷ words)
  long_first word words l more tested lacking so_far pending = elim (cases_Bool (list_any is_equals word)) [
    | inr lacks ↦ lacking lacks so_far pending
    | inl has ↦ subst (λ z. AgreesAt so_far pending (z ∷ words)) (sym l.is)
        (with_joined l.first l.others words more tested (subst (λ z. list_any is_equals z ≡ true) l.is has) (behind_equals l.first l.others (subst (λ z. list_any is_equals z ≡ true) l.is has) (subst (λ z. has_value z ≡ true) l.is l.valued)) so_far pending)
  ]

  long_last : (word : Text) → IsLong word → AgreesOn [] → list_any is_equals word ≡ false → (so_far : List Row) (pending : Option (Text × List Text)) → AgreesAt so_far pending (word ∷ [])
  long_last word l more lacks so_far pending =
      let no_equals : list_any is_equals (l.first ∷ l.others) ≡ false = subst (λ z. list_any is_equals z ≡ false) l.is lacks in
      subst (λ z. AgreesAt so_far pending (z ∷ [])) (sym l.is)
      (alone l.first l.others [] more refl no_equals (alone_first (45 ∷ 45 ∷ l.first ∷ l.others) no_equals) (nothing_behind l.first l.others no_equals) so_far pending)

  long_next : (word next : Text) (words : List Text) → IsLong word → IsPlain next ⊎ IsLong next → AgreesOn (next ∷ words) → AgreesOn words → is_tested next ≡ true → list_all is_tested words ≡ true → list_any is_equals word ≡ false
      → (so_far : List Row) (pending : Option (Text × List Text)) → AgreesAt so_far pending (word ∷ next ∷ words)
  long_next word next words l kind more rest next_tested tested lacks so_far pending =
      let no_equals : list_any is_equals (l.first ∷ l.others) ≡ false = subst (λ z. list_any is_equals z ≡ false) l.is lacks in
      subst (λ z. AgreesAt so_far pending (z ∷ next ∷ words)) (sym l.is) (elim kind [
        | inl p ↦ subst (λ z. AgreesAt so_far pending ((45 ∷ 45 ∷ l.first ∷ l.others) ∷ z ∷ words)) (sym p.is) (with_apart l.first l.others p.first p.others words rest tested no_equals p.plain so_far pending)
        | inr other ↦ alone l.first l.others (next ∷ words) more (simp (next_tested, tested)) no_equals
            (flag_first (45 ∷ 45 ∷ l.first ∷ l.others) next words no_equals (ap is_value other.is))
            (subst (λ z. (so_far : List Row) (pending : Option (Text × List Text)) → IsOption s.rules (name_of (l.first ∷ l.others)) → walk_total s (state place so_far pending) ((45 ∷ 45 ∷ l.first ∷ l.others) ∷ z ∷ words) ≡ [] → ⊥)
            (sym other.is) (option_behind l.first l.others other.first other.others words no_equals)) so_far pending
      ])

  -- the walk over tested words agrees with the settings that they are
  pub on_settings : (words : List Text) → AgreesOn words
  unfolding clap_on_literals
  on_settings [] so_far pending tested = record {
    settles = λ quiet. quiet;
    reads = λ d quiet. (subst (λ l. are_different l ≡ true) (sym (append-nil (ids (settled_rows s.rules pending so_far)))) d, sym (append-nil (settled_rows s.rules pending so_far)));
    goes = λ quiet d. quiet;
  }
  on_settings (word ∷ []) so_far pending tested = elim (kinds_of_word word (and_parts (is_tested word) true tested).0) [
    | inl p ↦ subst (λ z. AgreesAt so_far pending (z ∷ [])) (sym p.is) (stray_first p.first p.others [] p.plain so_far pending)
    | inr l ↦ long_first word [] l (on_settings []) refl (long_last word l (on_settings [])) so_far pending
  ]
  on_settings (word ∷ next ∷ words) so_far pending tested =
      let parts = and_parts (is_tested word) (list_all is_tested (next ∷ words)) tested in
      let later = and_parts (is_tested next) (list_all is_tested words) parts.1 in
      elim (kinds_of_word word parts.0) [
        | inl p ↦ subst (λ z. AgreesAt so_far pending (z ∷ next ∷ words)) (sym p.is) (stray_first p.first p.others (next ∷ words) p.plain so_far pending)
        | inr l ↦ long_first word (next ∷ words) l (on_settings (next ∷ words)) parts.1
            (long_next word next words l (kinds_of_word next later.0) (on_settings (next ∷ words)) (on_settings words) later.0 later.1) so_far pending
      ]
