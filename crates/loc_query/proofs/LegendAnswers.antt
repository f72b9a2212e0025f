-- The answers by the legend of a layer are those of direct containment.
use Rattle.std.proofs.Common.{◌≡◌, ℕ, suc, ◌+◌, ◌<◌, Bool, true, false, ◌&&◌, List, [], ◌∷◌, length, get_or, map, filter, Option, Some, None, Ok, refl, sym, ◌∙◌, ap, ap₂, subst, inl, inr, arith}
use Rattle.std.specs.Prelude.{nat_lt, codes, option_map, unwrap_or}
use Rattle.std.specs.List.{range_with_len}
use Rattle.std.proofs.{Math.Path.fun_ext, lemmas.List.get_or_past, lemmas.List.length-map}
use Rattle.std.proofs.lemmas.Bool.{and_left, and_parts, cases_Bool, cases_lt, cond-true, cond-false, ltb-true}
use Rattle.loc_spec_text.specs.{Bytes.Text, Limits.most_text}
use Rattle.loc_spec_asked.specs.declared.Index.{Index}
use Rattle.loc_spec_plane.specs.declared.Place.{Place}
use Rattle.loc_spec_plane.specs.declared.Place.TheVariants.{Corner, Border, Area}
use Rattle.loc_spec_plane.specs.Lists.{is_in, is_rising, numbers}
use Rattle.loc_spec_plane.specs.{Points.Point, Points.lies_on, Points.same_point, Places.IsPlace, Places.is_edge}
use Rattle.loc_spec_plane.specs.Rings.{Rings, touches, covers}
use Rattle.loc_spec_plane.specs.Tables.{Table, IsTable, corner, edge, covers_by_marks, touches_by_marks}
use Rattle.loc_spec_plane.proofs.Checks.{is_in-past}
use Rattle.loc_spec_text.specs.Points.{answer_to, ended, no_point, on_corner, on_border, in_face, point_of}
use Rattle.loc_laws_order.proofs.{Kept.numbers_rise, Kept.rising_kept, TableOrder.numbers_within, Unique.rising-unique}
use Rattle.loc_laws_rays.proofs.Members.{in_numbers, is_in-filter}
use Rattle.loc_rings.specs.Values.{Feature, rings_of}
use Rattle.loc_edges.specs.Layers.{layer_rings}
use Rattle.loc_place.specs.{Found.place_at, Planar.IsPlanar}
use Rattle.loc_place.proofs.FoundPlace.{place_at_is}
use Rattle.loc_cover.specs.Legends.{LegendRows, IsSound, covering, touching}
use Rattle.loc_cover.proofs.Covered.{covering_covers, touching_touches}
use Rattle.loc_batch.specs.Answering.{answer_by, answer_at as answer_by_rows, face_at, found_answer, names}
use Rattle.loc_batch.specs.PointLines.{is_point_line}
use Rattle.loc_batch.proofs.Marks.{covering_rises}
use Rattle.loc_faces.specs.Subdivision.{shown_at}
use Rattle.loc_answering.specs.ByLine.{as_bytes, by_line}
use Rattle.loc_course.specs.{Courses.Stopped, Courses.answers, Following.Follows, Moments.Moment, Stops.source}
use Rattle.loc_course.specs.Streams.{Answering}
use Rattle.loc_maps.proofs.TableLaws.{covers_is, is_table, touches_is}
use Rattle.loc_maps.specs.{Located.table_in, Maps.IsMapOf}
use Rattle.loc_query.specs.Answered.{answer_at, answer_line, ids_where, located}
use Rattle.loc_query.specs.QueryCourses.{points_course, steps_by}

abbrev ids_of : List Feature → List (List ℕ)
ids_of layer = map (λ (f : Feature). f.id) layer

module _ (test : Rings → Bool) where
  -- the ids of the features from a number on that pass, by number
  pub by_number : (id_at : ℕ → List ℕ) (passes : ℕ → Bool) (a : ℕ) (layer : List Feature)
      → ((i : ℕ) → i < length layer → (id_at (a + i) ≡ get_or (ids_of layer) i []) × (passes (a + i) ≡ test (get_or (layer_rings layer) i [])))
      → map id_at (filter passes (range_with_len a (length layer))) ≡ ids_where test layer
  by_number id_at passes a [] same = refl
  by_number id_at passes a (f ∷ layer) same =
      let first : a ≡ a + 0 = omega arith in
      let later = by_number id_at passes (a + 1) layer
      (λ i less. (let next : a + 1 + i ≡ a + suc i = omega arith in (ap id_at next ∙ (same (suc i) (omega (arith, less))).0, ap passes next ∙ (same (suc i) (omega (arith, less))).1))) in
      let here = same 0 (omega arith) in
      let range = filter passes (range_with_len (a + 1) (length layer)) in
      let rest = filter (λ (f : Feature). test (rings_of f)) layer in
      elim (cases_Bool (test (rings_of f))) [
        | inl passed ↦ ap (map id_at) (cond-true (passes a) (a ∷ range) range (ap passes first ∙ (here.1 ∙ passed)))
            ∙ (ap₂ (λ x xs. x ∷ xs) (ap id_at first ∙ here.0) later ∙ sym (ap ids_of (cond-true (test (rings_of f)) (f ∷ rest) rest passed)))
        | inr failed ↦ ap (map id_at) (cond-false (passes a) (a ∷ range) range (ap passes first ∙ (here.1 ∙ failed)))
            ∙ (later ∙ sym (ap ids_of (cond-false (test (rings_of f)) (f ∷ rest) rest failed)))
      ]

  module _ (none : test [] ≡ false) (layer : List Feature) where
    abbrev passes_at : ℕ → Bool
    passes_at f = test (get_or (layer_rings layer) f [])

    -- the features that pass, by number
    members : (f : ℕ) → is_in f (filter passes_at (numbers (length layer))) ≡ passes_at f
    members f = is_in-filter passes_at f (numbers (length layer)) ∙ elim (cases_lt f (length layer)) [
      | inl less ↦ ap (λ b. b && passes_at f) (in_numbers f (length layer) less)
      | inr past ↦ and_left (is_in f (numbers (length layer))) (passes_at f) (is_in-past (numbers (length layer)) (length layer) f (numbers_within (length layer)) past)
          ∙ sym (ap test (get_or_past (layer_rings layer) f [] (omega (arith, length-map layer rings_of, past))) ∙ none)
    ]

    -- a rising list of the features that pass names them
    pub named_are : (rows : LegendRows) (fs : List ℕ) → rows.ids ≡ ids_of layer → is_rising nat_lt fs ≡ true → ((f : ℕ) → is_in f fs ≡ passes_at f) → names rows fs ≡ ids_where test layer
    named_are rows fs ids rises exact =
        let same = rising-unique nat_lt (λ a b h k. (let lt : a < b = ltb-true a b h in let gt : b < a = ltb-true b a k in omega arith)) fs (filter passes_at (numbers (length layer))) rises
        (rising_kept passes_at nat_lt (numbers (length layer)) (numbers_rise (length layer))) (λ f. exact f ∙ sym (members f)) in
        ap (λ is. map (λ f. get_or is f []) fs) ids
        ∙ (ap (map (λ f. get_or (ids_of layer) f [])) same
        ∙ by_number (λ f. get_or (ids_of layer) f []) passes_at 0 layer (λ i less. (let at : 0 + i ≡ i = omega arith in (ap (λ j. get_or (ids_of layer) j []) at, ap passes_at at))))

module _ (layer : List Feature) (t : Table) (rows : LegendRows) (sound : IsSound rows) (m : IsMapOf layer t rows) where
  in_order : IsTable t
  in_order = subst IsTable (sym m.table) (is_table layer)

  -- the table is one in which every point has one place
  pub planar : IsPlanar t
  planar = record { in_order = in_order; apart = m.apart }

  module _ (p : Point) (place : Place) (is : IsPlace t p place) where
    touching_named : is_rising nat_lt (touching rows place) ≡ true → names rows (touching rows place) ≡ ids_where (λ rings. touches rings p) layer
    touching_named rises = named_are (λ rings. touches rings p) refl layer rows (touching rows place) m.ids rises
        (λ f. touching_touches t rows m.fits in_order m.ended m.even m.apart p place is f ∙ (ap (λ s. touches_by_marks s f p) m.table ∙ touches_is layer f p))

    covering_named : names rows (covering rows place) ≡ ids_where (λ rings. covers rings p) layer
    covering_named = named_are (λ rings. covers rings p) refl layer rows (covering rows place) m.ids (covering_rises rows sound place)
        (λ f. covering_covers t rows m.fits m.is_true in_order m.ended m.even m.apart p place is f ∙ (ap (λ s. covers_by_marks s f p) m.table ∙ covers_is layer f p))

  answer_is : (shown : Option ℕ → Option ℕ) (p : Point) (place : Place) → IsPlace t p place
      → answer_by_rows rows (face_at shown place) place ≡ answer_at shown place (ids_where (λ rings. touches rings p) layer) (ids_where (λ rings. covers rings p) layer)
  answer_is shown p (Corner c) is =
      let less : c < length t.corners = ltb-true c (length t.corners) (and_parts (nat_lt c (length t.corners)) (same_point (corner t c) p) is).0 in
      ap₂ (on_corner c) (touching_named p (Corner c) is (m.fits.on_corner c less).rising) (covering_named p (Corner c) is)
  answer_is shown p (Border e) is =
      let less : e < length t.ends = ltb-true e (length t.ends) (and_parts (is_edge t e) (lies_on (edge t e) p) is.1).0 in
      ap₂ (on_border e) (touching_named p (Border e) is (m.fits.on_edge e less).rising) (covering_named p (Border e) is)
  answer_is shown p (Area floor) is = ap (in_face (shown floor)) (covering_named p (Area floor) is)

  module _ (faces : Bool) (shown : Option ℕ → Option ℕ) (numbers_are : shown ≡ shown_at faces t) where
    -- what is answered to a line by the legend is what is answered by direct containment
    pub answer_to_line : (scale : ℕ) (line : List ℕ) → answer_by scale (λ p. Ok (place_at t p)) shown rows line ≡ Ok (answer_to (point_of scale) (located faces layer) line)
    unfolding answer_by located
    answer_to_line scale line = by (point_of scale line)
      where
        by : (o : Option Point) → found_answer rows shown (option_map (λ p. Ok (place_at t p)) o) ≡ Ok (unwrap_or (option_map (located faces layer) o) no_point)
        by None = refl
        by (Some p) = ap Ok (answer_is shown p (place_at t p) (place_at_is t planar p)
            ∙ (ap (λ (s : Option ℕ → Option ℕ). answer_at s (place_at t p) (ids_where (λ rings. touches rings p) layer) (ids_where (λ rings. covers rings p) layer)) numbers_are
            ∙ ap (λ s. answer_at (shown_at faces s) (place_at s p) (ids_where (λ rings. touches rings p) layer) (ids_where (λ rings. covers rings p) layer)) m.table))

    -- so for all lines
    answers_are : (scale : ℕ) → by_line (answer_by scale (λ p. Ok (place_at t p)) shown rows) ≡ (λ line. Ok (answer_line faces scale layer line))
    answers_are scale = fun_ext (λ line. ap as_bytes (answer_to_line scale line))

    -- what follows the answers by the legend follows the course of the points
    pub follows_points : (index : Index) (scale : ℕ) (points : Text) (old new : Moment) (end : Option Stopped)
        → Follows (answers (source points most_text (ended (codes "points: too long"))) (is_point_line scale) (steps_by index t) (by_line (answer_by scale (λ p. Ok (place_at t p)) shown rows))) old new end
        → Follows (points_course index faces scale points layer) old new end
    follows_points index scale points old new end follows =
        let of_points = source points most_text (ended (codes "points: too long")) in
        subst (λ (answer : Answering). Follows (answers of_points (is_point_line scale) (steps_by index (table_in layer)) answer) old new end) (answers_are scale)
        (subst (λ (s : Table). Follows (answers of_points (is_point_line scale) (steps_by index s) (by_line (answer_by scale (λ p. Ok (place_at t p)) shown rows))) old new end) m.table follows)
