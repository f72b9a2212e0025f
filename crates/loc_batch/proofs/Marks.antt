-- The answers by a true legend are those by the marks.
use Rattle.std.proofs.Common.{◌≡◌, ℕ, ◌<◌, ◌≤◌, Bool, true, false, not, ◌&&◌, List, [], ◌∷◌, ◌++◌, map, get_or, Option, Some, None, Result, Ok, Err, refl, sym, ◌∙◌, ap, ap₂, arith, inl, inr}
use Rattle.std.specs.Prelude.{IsOkAnd, nat_lt, option_map, unwrap_or}
use Rattle.std.specs.List.{flat_map, list_any}
use Rattle.std.proofs.lemmas.Bool.{and_left, and_right, cases_lt, false_from_ne_true, ltb-true, true≢false}
use Rattle.loc_spec_plane.specs.declared.Place.{Place}
use Rattle.loc_spec_plane.specs.declared.Place.TheVariants.{Corner, Border, Area}
use Rattle.loc_spec_plane.specs.{Covers.feature_count, Places.IsPlace, Points.Point, Points.lies_on, Rays.crosses_right}
use Rattle.loc_spec_plane.specs.Lists.{IsRisingListOf, is_in, is_rising, numbers, odd_many}
use Rattle.loc_spec_plane.specs.Tables.{AllEnds, AllEven, IsTable, NoConflict, Table, covers_by_marks, edge, edge_numbers, has, has_odd, touches_by_marks}
use Rattle.loc_spec_plane.proofs.Checks.{is_in-past}
use Rattle.loc_spec_text.specs.{Answered.Answered, Answered.answered, Answered.with_answer, Bytes.lines}
use Rattle.loc_spec_text.specs.Points.{Answer, answer_text, answer_to, ended, no_point, point_of}
use Rattle.loc_laws_order.proofs.{Kept.numbers_rise, Kept.rising_kept, TableOrder.numbers_within, Unique.rising-unique}
use Rattle.loc_laws_rays.proofs.Members.{feature_below, has-from_odd, in_numbers, is_in-filter}
use Rattle.loc_laws_rays.proofs.Parity.{never, odd_many-same}
use Rattle.loc_place.specs.declared.locator.Deep.{Deep}
use Rattle.loc_place.proofs.FoundPlace.{place_is_found}
use Rattle.loc_cover.specs.Legends.{FitsTable, IsSound, IsTrueLegend, LegendRows, covering, list_above, list_over, touching}
use Rattle.loc_cover.proofs.Covered.{covering_covers, touching_touches}
use Rattle.loc_batch.specs.Answering.{answer_at, answer_by, face_at, found_answer, names}
use Rattle.loc_batch.specs.Marked.{AnswersByMarks, WritesByMarks, answer_marked, answer_with, features_where, ids_marked}
use Rattle.loc_batch.specs.Streams.{line_of, text_of}

-- ---- features that are not marked

any_none : (g : ℕ → Bool) (ns : List ℕ) → ((n : ℕ) → g n ≡ false) → list_any g ns ≡ false
any_none g [] none = refl
any_none g (n ∷ ns) none = rw (none n) (any_none g ns none)

module _ (t : Table) (f : ℕ) (p : Point) (past : feature_count t ≤ f) where
  unmarked : (e : ℕ) → has t f e ≡ false
  unmarked e = false_from_ne_true (has t f e) (λ h. (let less = feature_below t f e h in omega (arith, less, past)))

  -- touch and cover nothing
  touches_not : touches_by_marks t f p ≡ false
  touches_not = any_none (λ e. has t f e && lies_on (edge t e) p) (edge_numbers t) (λ e. and_left (has t f e) (lies_on (edge t e) p) (unmarked e))

  covers_not : covers_by_marks t f p ≡ false
  covers_not = and_right (not (touches_by_marks t f p)) (odd_many (λ e. has_odd t f e && crosses_right (edge t e) p) (edge_numbers t))
      (odd_many-same (λ e. has_odd t f e && crosses_right (edge t e) p) (λ e. false) (edge_numbers t)
      (λ e. and_left (has_odd t f e) (crosses_right (edge t e) p) (false_from_ne_true (has_odd t f e) (λ h. true≢false (sym (has-from_odd t f e h) ∙ unmarked e)))) ∙ never (edge_numbers t))

below : (t : Table) (test : ℕ → Bool) → ((f : ℕ) → feature_count t ≤ f → test f ≡ false) → (f : ℕ) → test f ≡ true → f < feature_count t
below t test none f passes = elim (cases_lt f (feature_count t)) [ inl less ↦ less | inr past ↦ absurd (true≢false (sym passes ∙ none f past)) ]

pub touching_below : (t : Table) (p : Point) (f : ℕ) → touches_by_marks t f p ≡ true → f < feature_count t
touching_below t p = below t (λ f. touches_by_marks t f p) (λ f past. touches_not t f p past)

pub covering_below : (t : Table) (p : Point) (f : ℕ) → covers_by_marks t f p ≡ true → f < feature_count t
covering_below t p = below t (λ f. covers_by_marks t f p) (λ f past. covers_not t f p past)

-- ---- lists of features

module _ (t : Table) (test : ℕ → Bool) (under : (f : ℕ) → test f ≡ true → f < feature_count t) where
  -- features that are marked where they pass a test are listed
  pub listed : IsRisingListOf nat_lt test (features_where t test)
  listed = record {
    rising = rising_kept test nat_lt (numbers (feature_count t)) (numbers_rise (feature_count t));
    exact = λ f. is_in-filter test f (numbers (feature_count t)) ∙ elim (cases_lt f (feature_count t)) [
      | inl less ↦ ap (λ b. b && test f) (in_numbers f (feature_count t) less)
      | inr past ↦ and_left (is_in f (numbers (feature_count t))) (test f) (is_in-past (numbers (feature_count t)) (feature_count t) f (numbers_within (feature_count t)) past)
          ∙ sym (false_from_ne_true (test f) (λ passes. (let less = under f passes in omega (arith, less, past))))
    ];
  }

  -- and there is no other list of them
  pub listed_only : (fs : List ℕ) → IsRisingListOf nat_lt test fs → fs ≡ features_where t test
  listed_only fs are = rising-unique nat_lt (λ a b h k. (let lt : a < b = ltb-true a b h in let gt : b < a = ltb-true b a k in omega arith)) fs (features_where t test) are.rising listed.rising (λ f. are.exact f ∙ sym (listed.exact f))

-- the lists of sound rows rise
module _ (rows : LegendRows) (sound : IsSound rows) where
  list_rises : (e : ℕ) → is_rising nat_lt (list_above rows e) ≡ true
  list_rises e = sound.lists.each_rises (get_or rows.above e 0)

  over_rises : (floor : Option ℕ) → is_rising nat_lt (list_over rows floor) ≡ true
  over_rises None = refl
  over_rises (Some e) = list_rises e

  pub covering_rises : (place : Place) → is_rising nat_lt (covering rows place) ≡ true
  covering_rises (Corner c) = rising_kept _ nat_lt (list_over rows (get_or rows.floors c None)) (over_rises (get_or rows.floors c None))
  covering_rises (Border e) = rising_kept _ nat_lt (list_above rows e) (list_rises e)
  covering_rises (Area floor) = over_rises floor

  pub touching_rises : (place : Place) → is_rising nat_lt (touching rows place) ≡ true
  touching_rises (Corner c) = sound.corners_rise c
  touching_rises (Border e) = sound.edges_rise e
  touching_rises (Area floor) = refl

-- what is answered at a place names its lists
pub at_place : (rows : LegendRows) (shown : Option ℕ → Option ℕ) (place : Place) → answer_at rows (face_at shown place) place ≡ answer_with shown place (names rows (touching rows place)) (names rows (covering rows place))
at_place rows shown (Corner c) = refl
at_place rows shown (Border e) = refl
at_place rows shown (Area floor) = refl

-- ---- a true legend

module _ (t : Table) (rows : LegendRows) (sound : IsSound rows) (fits : FitsTable t rows) (legend : IsTrueLegend t rows) (ok : IsTable t) (ended : AllEnds t) (even : AllEven t) (apart : NoConflict t) where
  module _ (p : Point) (place : Place) (is : IsPlace t p place) where
    touching_named : names rows (touching rows place) ≡ ids_marked rows.ids t (λ f. touches_by_marks t f p)
    touching_named = ap (λ (fs : List ℕ). names rows fs) (listed_only t (λ f. touches_by_marks t f p) (touching_below t p) (touching rows place)
        (record { rising = touching_rises rows sound place; exact = touching_touches t rows fits ok ended even apart p place is }))

    covering_named : names rows (covering rows place) ≡ ids_marked rows.ids t (λ f. covers_by_marks t f p)
    covering_named = ap (λ (fs : List ℕ). names rows fs) (listed_only t (λ f. covers_by_marks t f p) (covering_below t p) (covering rows place)
        (record { rising = covering_rises rows sound place; exact = covering_covers t rows fits legend ok ended even apart p place is }))

    answer_is : (shown : Option ℕ → Option ℕ) → answer_at rows (face_at shown place) place ≡ answer_marked shown rows.ids t p
    answer_is shown = at_place rows shown place
        ∙ (ap₂ (answer_with shown place) touching_named covering_named
        ∙ ap (λ (q : Place). answer_with shown q (ids_marked rows.ids t (λ f. touches_by_marks t f p)) (ids_marked rows.ids t (λ f. covers_by_marks t f p))) (place_is_found t (record { in_order = ok; apart = apart }) p place is))

  module _ (finds : Point → Result Place Deep) (found : (p : Point) → (place : Place) × (finds p ≡ Ok place) × IsPlace t p place) where
    -- each line is answered by the marks
    pub by_marks : AnswersByMarks finds t rows
    unfolding answer_by
    by_marks scale shown line = by (point_of scale line)
      where
        by : (o : Option Point) → found_answer rows shown (option_map finds o) ≡ Ok (unwrap_or (option_map (answer_marked shown rows.ids t) o) no_point)
        by None = refl
        by (Some p) = let at = found p in ap (λ (r : Result Place Deep). found_answer rows shown (Some r)) at.1 ∙ ap Ok (answer_is p at.0 at.2 shown)

-- lines that are each answered so are written so
pub all_written : (answer : List ℕ → Result Answer Deep) (read : List ℕ → Option Point) (by : Point → Answer) → ((line : List ℕ) → answer line ≡ Ok (answer_to read by line)) → (ls : List (List ℕ))
    → answered answer ls ≡ record { answers = map (answer_to read by) ls; refusal = None }
all_written answer read by same [] = refl
all_written answer read by same (l ∷ ls) = ap₂ with_answer (same l) (all_written answer read by same ls)

text_is : (f : List ℕ → Answer) (ls : List (List ℕ)) → text_of (map f ls) ≡ flat_map (λ line. ended (answer_text (f line))) ls
text_is f [] = refl
text_is f (l ∷ ls) = ap (λ (t : List ℕ). line_of (f l) ++ t) (text_is f ls)

-- so a whole text is written by the marks, where each line is answered so
pub writes_marks : (finds : Point → Result Place Deep) (t : Table) (rows : LegendRows) → AnswersByMarks finds t rows → WritesByMarks finds t rows
writes_marks finds t rows answers scale shown text =
    let all = all_written (answer_by scale finds shown rows) (point_of scale) (answer_marked shown rows.ids t) (answers scale shown) (lines text) in
    (ap (λ (a : Answered Answer Deep). a.refusal) all, ap (λ (a : Answered Answer Deep). text_of a.answers) all ∙ text_is (answer_to (point_of scale) (answer_marked shown rows.ids t)) (lines text))

-- a place that is found
pub place_of : (P : Place → Type 0) (r : Result Place Deep) → IsOkAnd r P → (place : Place) × (r ≡ Ok place) × P place
place_of P (Ok place) h = (place, refl, h)
place_of P (Err deep) h = absurd h
