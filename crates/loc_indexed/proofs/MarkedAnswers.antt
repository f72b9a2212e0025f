-- The answers of a true index are those by its marks, and those of the index of a layer are those of the layer.
use Rattle.std.proofs.Common.{◌≡◌, ℕ, ◌<◌, ◌≤◌, Bool, true, false, not, List, [], length, map, filter, get_or, Option, Some, None, Ok, refl, sym, ◌∙◌, ap, ap₂, subst, arith}
use Rattle.std.specs.Prelude.{◌^◌, if◌then◌else◌, nat_lt, option_map, unwrap_or, Result, codes}
use Rattle.std.proofs.{Math.Path.fun_ext, lemmas.Bool.and_parts, lemmas.Bool.ltb-true}
use Rattle.std.proofs.lemmas.List.Elements.{filter_agree}
use Rattle.std.proofs.lemmas.List.FromFn.{get_or-map-range_with_len, length-map-range_with_len}
use Rattle.loc_spec_text.specs.{Bytes.Text, Limits.most_text}
use Rattle.loc_spec_asked.specs.declared.Index.TheVariants.{Tree}
use Rattle.loc_spec_plane.specs.declared.Place.{Place}
use Rattle.loc_spec_plane.specs.declared.Place.TheVariants.{Corner, Border, Area}
use Rattle.loc_spec_plane.specs.Covers.{IsCoverOf, cover_above, cover_of_floor, feature_count, has_at}
use Rattle.loc_spec_plane.specs.Lists.{IsRisingListOf, is_in, is_rising}
use Rattle.loc_spec_plane.specs.Places.{IsFloor, IsPlace, alive, alive_at, is_edge}
use Rattle.loc_spec_plane.specs.Points.{Point, is_above, lies_on, same_point}
use Rattle.loc_spec_plane.specs.Rings.{Rings, covers, touches}
use Rattle.loc_spec_plane.specs.Tables.{IsTable, Table, corner, covers_by_marks, edge, has, noded_table_of, own_sources, touches_by_marks}
use Rattle.loc_spec_text.specs.Points.{answer_text, answer_to, ended, no_point, point_of}
use Rattle.loc_spec_index.specs.{Content.Content, Content.search_in, Content.table_in, IndexFile.names_sources}
use Rattle.loc_indexed.specs.IndexBytes.{IsIndexFile}
use Rattle.loc_spec_index.specs.TrueIndex.{IsIndexOf, IsTrueIndex}
use Rattle.loc_laws_index.proofs.{FlawKinds.as_many, FlawKinds.as_many_corners, HeldTable.file_holds_table}
use Rattle.loc_laws_order.proofs.Kept.{rising_kept}
use Rattle.loc_laws_rays.proofs.Covering.{cover_law}
use Rattle.loc_laws_search.proofs.FindsPlace.{search_finds_place}
use Rattle.loc_rings.specs.Values.{Feature}
use Rattle.loc_edges.specs.Layers.{layer_rings}
use Rattle.loc_place.specs.{Steps.most_steps, Found.place_at, Planar.IsPlanar}
use Rattle.loc_place.proofs.FoundPlace.{place_is_found}
use Rattle.loc_cover.specs.Legends.{FitsTable, covering, list_above, list_over, touching}
use Rattle.loc_cover.proofs.{Covered.touching_touches, Numbering.above_rises, Numbering.under_rises}
use Rattle.loc_file.specs.{Searches.answer_of, Depths.most_of}
use Rattle.loc_laws_index.proofs.{FileFacts.facts, AgreeTable.most-small}
use Rattle.loc_file.proofs.TrueSteps.{true-most}
use Rattle.loc_batch.specs.Answering.{answer_at as answer_by_rows, answer_by, face_at, found_answer, names}
use Rattle.loc_batch.specs.{Faces.unnumbered, Marked.features_where, Marked.ids_marked, PointLines.is_point_line}
use Rattle.loc_batch.proofs.Marks.{at_place, covering_below, listed, listed_only, touching_below}
use Rattle.loc_answering.specs.ByLine.{as_bytes}
use Rattle.loc_course.specs.{Courses.answers, Stops.source}
use Rattle.loc_maps.specs.Located as maps
use Rattle.loc_maps.proofs.TableLaws.{covers_is, touches_is}
use Rattle.loc_query.specs.Answered.{answer_at, answer_line, ids_where, located}
use Rattle.loc_query.specs.QueryCourses.{points_course}
use Rattle.loc_query.proofs.LegendAnswers.{named_are}
use Rattle.loc_indexed.specs.IndexedCourses.{answer_in, asked_course, rows_in}
use Rattle.loc_indexed.specs.Marked.{marked, marked_course, marked_line}
use Rattle.loc_indexed.proofs.OwnRows.{corner_listed, edge_listed}

ids_are : (c : Content) → (rows_in c).ids ≡ c.ids
unfolding rows_in
ids_are c = refl

-- ---- a true index

module _ (c : Content) (bytes : Text) (file : IsIndexFile c bytes) (is_true : IsTrueIndex c) where
  ok : IsTable (table_in c)
  ok = file_holds_table bytes file.0 c file.1

  planar : IsPlanar (table_in c)
  planar = record { in_order = ok; apart = is_true.apart }

  few : length c.edges ≤ 2 ^ 21
  few = let k = (facts c bytes file.1).few_edges in let most = most-small file.0 in omega (arith, k, most)

  -- its rows are of its table, and its lists and floors are true
  fits : FitsTable (table_in c) (rows_in c)
  unfolding rows_in
  fits = let t = table_in c in record {
    as_many_corners = length-map-range_with_len (λ n. features_where t (has_at t n)) 0 (length t.corners);
    on_corner = λ n less. subst (IsRisingListOf nat_lt (has_at t n)) (sym (get_or-map-range_with_len (λ n. features_where t (has_at t n)) 0 (length t.corners) n n [] less (omega arith))) (corner_listed t n);
    as_many_edges = length-map-range_with_len (λ e. features_where t (λ f. has t f e)) 0 (length t.ends);
    on_edge = λ e less. subst (IsRisingListOf nat_lt (λ f. has t f e)) (sym (get_or-map-range_with_len (λ e. features_where t (λ f. has t f e)) 0 (length t.ends) e e [] less (omega arith))) (edge_listed t e);
  }

  above_is : (e : ℕ) → e < length (table_in c).ends → list_above (rows_in c) e ≡ cover_above (table_in c) e
  unfolding rows_in
  above_is e less = is_true.covers e (omega (arith, less, as_many c))

  floor_is : (n : ℕ) → n < length (table_in c).corners → IsFloor (table_in c) (corner (table_in c) n) (get_or (rows_in c).floors n None)
  unfolding rows_in
  floor_is n less = is_true.floors n (omega (arith, less, as_many_corners c))

  over_is : (p : Point) (floor : Option ℕ) → IsFloor (table_in c) p floor → list_over (rows_in c) floor ≡ cover_of_floor (table_in c) floor
  over_is p None is = refl
  over_is p (Some e) is =
      let t = table_in c in
      let parts = and_parts (alive_at t p e) (is_above (edge t e) p) is.0 in
      above_is e (ltb-true e (length t.ends) (and_parts (is_edge t e) (alive (edge t e) p) parts.0).0)

  -- what its rows say of a place is the cover list of the place
  covering_is : (p : Point) (place : Place) → IsPlace (table_in c) p place → IsCoverOf (table_in c) place (covering (rows_in c) place)
  covering_is p (Corner n) is =
      let t = table_in c in
      let less : n < length t.corners = ltb-true n (length t.corners) (and_parts (nat_lt n (length t.corners)) (same_point (corner t n) p) is).0 in
      let floor = floor_is n less in (
        get_or (rows_in c).floors n None,
        floor,
        ap (filter (λ f. not (is_in f (get_or (rows_in c).on_corner n [])))) (over_is (corner t n) (get_or (rows_in c).floors n None) floor)
            ∙ filter_agree (λ f. not (is_in f (get_or (rows_in c).on_corner n []))) (λ f. not (has_at t n f)) (λ f. ap not ((fits.on_corner n less).exact f)) (cover_of_floor t (get_or (rows_in c).floors n None)),
      )
  covering_is p (Border e) is =
      let t = table_in c in
      let less : e < length t.ends = ltb-true e (length t.ends) (and_parts (is_edge t e) (lies_on (edge t e) p) is.1).0 in
      ap (filter (λ f. not (is_in f (get_or (rows_in c).on_edge e [])))) (above_is e less)
      ∙ filter_agree (λ f. not (is_in f (get_or (rows_in c).on_edge e []))) (λ f. not (has t f e)) (λ f. ap not ((fits.on_edge e less).exact f)) (cover_above t e)
  covering_is p (Area floor) is = over_is p floor is.2

  covering_rises : (place : Place) (fs : List ℕ) → IsCoverOf (table_in c) place fs → is_rising nat_lt fs ≡ true
  covering_rises (Corner n) fs is = subst (λ (l : List ℕ). is_rising nat_lt l ≡ true) (sym is.2) (rising_kept (λ f. not (has_at (table_in c) n f)) nat_lt (cover_of_floor (table_in c) is.0) (under_rises (table_in c) is.0))
  covering_rises (Border e) fs is = subst (λ (l : List ℕ). is_rising nat_lt l ≡ true) (sym is) (rising_kept (λ f. not (has (table_in c) f e)) nat_lt (cover_above (table_in c) e) (above_rises (table_in c) e))
  covering_rises (Area floor) fs is = subst (λ (l : List ℕ). is_rising nat_lt l ≡ true) (sym is) (under_rises (table_in c) floor)

  touching_rises : (p : Point) (place : Place) → IsPlace (table_in c) p place → is_rising nat_lt (touching (rows_in c) place) ≡ true
  touching_rises p (Corner n) is = let t = table_in c in (fits.on_corner n (ltb-true n (length t.corners) (and_parts (nat_lt n (length t.corners)) (same_point (corner t n) p) is).0)).rising
  touching_rises p (Border e) is = let t = table_in c in (fits.on_edge e (ltb-true e (length t.ends) (and_parts (is_edge t e) (lies_on (edge t e) p) is.1).0)).rising
  touching_rises p (Area floor) is = refl

  module _ (p : Point) (place : Place) (is : IsPlace (table_in c) p place) where
    touching_named : names (rows_in c) (touching (rows_in c) place) ≡ ids_marked c.ids (table_in c) (λ f. touches_by_marks (table_in c) f p)
    touching_named =
        ap₂ (λ (ids : List (List ℕ)) (fs : List ℕ). map (λ f. get_or ids f []) fs) (ids_are c)
        (listed_only (table_in c) (λ f. touches_by_marks (table_in c) f p) (touching_below (table_in c) p) (touching (rows_in c) place)
        (record { rising = touching_rises p place is; exact = touching_touches (table_in c) (rows_in c) fits ok is_true.ended is_true.even is_true.apart p place is }))

    covering_named : names (rows_in c) (covering (rows_in c) place) ≡ ids_marked c.ids (table_in c) (λ f. covers_by_marks (table_in c) f p)
    covering_named =
        let list = covering_is p place is in
        ap₂ (λ (ids : List (List ℕ)) (fs : List ℕ). map (λ f. get_or ids f []) fs) (ids_are c)
        (listed_only (table_in c) (λ f. covers_by_marks (table_in c) f p) (covering_below (table_in c) p) (covering (rows_in c) place)
        (record { rising = covering_rises place (covering (rows_in c) place) list; exact = cover_law (table_in c) ok is_true.ended is_true.even is_true.apart p place (covering (rows_in c) place) is list }))

  answer_is : (p : Point) (place : Place) → IsPlace (table_in c) p place
      → answer_by_rows (rows_in c) (face_at unnumbered place) place ≡ answer_at unnumbered place (ids_marked c.ids (table_in c) (λ f. touches_by_marks (table_in c) f p)) (ids_marked c.ids (table_in c) (λ f. covers_by_marks (table_in c) f p))
  answer_is p place is = at_place (rows_in c) unnumbered place ∙ ap₂ (answer_at unnumbered place) (touching_named p place is) (covering_named p place is)

  -- what is answered to a line is what is answered by the marks
  line_is : (line : List ℕ) → answer_by c.scale (λ p. answer_of (search_in c p)) unnumbered (rows_in c) line ≡ Ok (answer_to (point_of c.scale) (marked c) line)
  unfolding answer_by marked
  line_is line = by (point_of c.scale line)
    where
      by : (o : Option Point) → found_answer (rows_in c) unnumbered (option_map (λ p. answer_of (search_in c p)) o) ≡ Ok (unwrap_or (option_map (marked c) o) no_point)
      by None = refl
      by (Some p) =
          let found = search_finds_place c ok is_true few p in
          ap (λ (r : Result Place ℕ). found_answer (rows_in c) unnumbered (Some (answer_of r))) found.1
          ∙ ap Ok (answer_is p found.0 found.2 ∙ ap (λ (q : Place). answer_at unnumbered q (ids_marked c.ids (table_in c) (λ f. touches_by_marks (table_in c) f p)) (ids_marked c.ids (table_in c) (λ f. covers_by_marks (table_in c) f p))) (place_is_found (table_in c) planar p found.0 found.2))

  pub true_answers : answer_in c ≡ (λ line. Ok (marked_line c line))
  true_answers = fun_ext (λ line. ap as_bytes (line_is line))

  -- a search takes as many steps at most as in the tree
  pub true_bound : most_of c (table_in c) ≡ most_steps (table_in c)
  true_bound = true-most c (table_in c) (record { table_is = refl; in_order = ok; few_edges = few; is_true = is_true })

  -- so the course is that by the marks
  pub true_course : (points : Text) → asked_course points c ≡ marked_course points c
  true_course points = ap₂ (answers (source points most_text (ended (codes "points: too long"))) (is_point_line c.scale)) true_bound true_answers

-- ---- the index of a layer

module _ (v scale : ℕ) (layer : List Feature) (c : Content) (of : IsIndexOf v scale (map (λ (f : Feature). f.id) layer) (layer_rings layer) c) where
  -- what does not look at sources says of its table what it says of the layer's
  said_of_table : {A : Type 0} (say : Table → A) → say (own_sources (noded_table_of (layer_rings layer))) ≡ say (noded_table_of (layer_rings layer)) → say (table_in c) ≡ say (maps.table_in layer)
  unfolding maps.table_in
  said_of_table say same = ap say of.2 ∙ by (names_sources v)
    where
      by : (b : Bool) → say (if b then noded_table_of (layer_rings layer) else own_sources (noded_table_of (layer_rings layer))) ≡ say (noded_table_of (layer_rings layer))
      by true = refl
      by false = same

  ids_same : (p : Point) (by_marks : Table → ℕ → Point → Bool) (test : Rings → Point → Bool) → test [] p ≡ false → ((f : ℕ) → by_marks (own_sources (noded_table_of (layer_rings layer))) f p ≡ by_marks (noded_table_of (layer_rings layer)) f p)
      → ((f : ℕ) → by_marks (maps.table_in layer) f p ≡ test (get_or (layer_rings layer) f []) p) → ((f : ℕ) → by_marks (table_in c) f p ≡ true → f < feature_count (table_in c))
      → ids_marked c.ids (table_in c) (λ f. by_marks (table_in c) f p) ≡ ids_where (λ rings. test rings p) layer
  ids_same p by_marks test none unsourced same few =
      let list = listed (table_in c) (λ f. by_marks (table_in c) f p) few in
      ap (λ (ids : List (List ℕ)). map (λ f. get_or ids f []) (features_where (table_in c) (λ f. by_marks (table_in c) f p))) (sym (ids_are c))
      ∙ named_are (λ rings. test rings p) none layer (rows_in c) (features_where (table_in c) (λ f. by_marks (table_in c) f p)) (ids_are c ∙ of.1) list.rising
      (λ f. list.exact f ∙ (said_of_table (λ (t : Table). by_marks t f p) (unsourced f) ∙ same f))

  marked_is : (p : Point) → marked c p ≡ located false layer p
  unfolding marked located place_at
  marked_is p =
      let on = ids_same p (λ t f p. touches_by_marks t f p) touches refl (λ f. refl) (λ f. touches_is layer f p) (touching_below (table_in c) p) in
      let over = ids_same p (λ t f p. covers_by_marks t f p) covers refl (λ f. refl) (λ f. covers_is layer f p) (covering_below (table_in c) p) in
      ap₂ (λ (place : Place) (ids : List (List ℕ)). answer_at unnumbered place ids (ids_marked c.ids (table_in c) (λ f. covers_by_marks (table_in c) f p))) (said_of_table (λ t. place_at t p) refl) on
      ∙ ap (answer_at unnumbered (place_at (maps.table_in layer) p) (ids_where (λ rings. touches rings p) layer)) over

  line_same : (line : List ℕ) → marked_line c line ≡ answer_line false scale layer line
  line_same line = ap₂ (λ (k : ℕ) (answer : _). ended (answer_text (answer_to (point_of k) answer line))) of.0 (fun_ext marked_is)

  pub layer_lines : marked_line c ≡ answer_line false scale layer
  layer_lines = fun_ext line_same

  -- is asked as the layer is queried with the tree
  pub layer_course : (points : Text) → marked_course points c ≡ points_course Tree false scale points layer
  layer_course points =
      let of_points = source points most_text (ended (codes "points: too long")) in
      ap (λ (k : ℕ). answers of_points (is_point_line k) (most_steps (table_in c)) (λ line. Ok (marked_line c line))) of.0
      ∙ ap₂ (answers of_points (is_point_line scale)) (said_of_table most_steps refl) (fun_ext (λ line. ap Ok (line_same line)))
