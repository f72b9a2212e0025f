-- The points of a generated layer, asked of a locator that finds their places.
use Rattle.std.proofs.Common.{◌≡◌, ℕ, zero, suc, ◌+◌, ◌*◌, ◌<◌, ◌≤◌, Bool, true, false, cond, List, [], ◌∷◌, ◌++◌, length, map, filter, Option, None, Some, Ok, refl, sym, ◌∙◌, ap, ap₂, subst, arith}
use Rattle.std.specs.{Prelude.IsTrue, List.range_with_len}
use Rattle.std.proofs.{Math.Path.fun_ext, lemmas.Nat.mul-le, lemmas.List.FromFn.length-map-range_with_len}
use Rattle.loc_spec_text.specs.{Bytes.Text, Answered.answered}
use Rattle.loc_spec_asked.specs.declared.Index.{Index}
use Rattle.loc_spec_plane.specs.declared.Place.{Place}
use Rattle.loc_spec_plane.specs.declared.Place.TheVariants.{Corner, Border, Area}
use Rattle.loc_spec_plane.specs.{Lists.numbers, Points.Point, Rings.Rings, Rings.covers, Rings.touches, Tables.Table}
use Rattle.loc_spec_text.specs.Points.{Answer, answer_to, ended, point_of}
use Rattle.loc_rings.specs.Values.{Feature, rings_of}
use Rattle.loc_place.specs.{Found.place_at, declared.locator.Deep.Deep}
use Rattle.loc_cover.specs.Legends.{IsSound, LegendRows}
use Rattle.loc_batch.specs.{Answering.answer_by, Batches.no_tally, Faces.unnumbered, Streams.tally_of}
use Rattle.loc_gen.specs.{declared.kinds.Kind.Kind, Layers.point_number}
use Rattle.loc_course.specs.{Courses.Stopped, Courses.searches, Courses.writes, Outcomes.exactly}
use Rattle.loc_course.specs.Following.{Follows, Moment, lacks, searches_by, writes_by}
use Rattle.loc_course.proofs.Told.{exactly_it, it_exactly}
use Rattle.loc_cover.proofs.Gathered.{any_range}
use Rattle.loc_maps.specs.{Located.table_in, Maps.IsMapOf}
use Rattle.loc_faces.specs.Subdivision.{shown_at}
use Rattle.loc_query.specs.{Chosen.HasFewNodes, Chosen.index_of, Chosen.nodes_of, declared.chosen.Chosen.Chosen}
use Rattle.loc_query.specs.declared.chosen.Chosen.TheVariants.{Scan, Tree, Trap}
use Rattle.loc_query.specs.{Answered.answer_at, Answered.ids_where, Answered.located, QueryCourses.steps_by}
use Rattle.loc_query.proofs.LegendAnswers.{answer_to_line}
use Rattle.loc_trial.specs.{Asked.AnswersAll, Generated.point_line, TrialCourses.tried_course}
use Rattle.loc_trial.specs.Trials.{answers_of, covering_ids, is_trial_line, nodes_text, sizes_text, tally_text, touching_ids, trial_text}
use Rattle.loc_trial.proofs.{Corners.point_read, Tallies.AreFew, Tallies.range_few, Tallies.tally_is}

-- what is written passes a test that passes all that an earlier one does
pub passes_more : (k : ℕ) (first more : Text → Bool) (old new : Moment) (end : Option Stopped) → ((text : Text) → IsTrue (first text) → IsTrue (more text))
    → Follows (searches k (writes first)) old new end → Follows (searches k (writes more)) old new end
passes_more k first more old new end wider lacks = lacks
passes_more k first more old new end wider (searches_by steps up within lacks) = searches_by steps up within lacks
passes_more k first more old new end wider (searches_by steps up within (writes_by text out passes wrote)) = searches_by steps up within (writes_by text out (wider text passes) wrote)

-- lines that are all answered
all_answered : (answer : List ℕ → Answer) (lines : List (List ℕ)) → (answered {R = Deep} (λ line. Ok (answer line)) lines).answers ≡ map answer lines
all_answered answer [] = refl
all_answered answer (line ∷ lines) = ap (λ more. answer line ∷ more) (all_answered answer lines)

same_range : {X Y : Type 0} (f : X → Y) (g : ℕ → X) (h : ℕ → Y) (a m : ℕ) → ((t : ℕ) → t < a + m → f (g t) ≡ h t) → map f (map g (range_with_len a m)) ≡ map h (range_with_len a m)
same_range f g h a zero each = refl
same_range f g h a (suc m) each = ap₂ (λ x xs. x ∷ xs) (each a (omega arith)) (same_range f g h (a + 1) m (λ t less. each t (omega (arith, less))))

-- the features that pass are no more than all
ids_few : (test : Rings → Bool) (layer : List Feature) → length (ids_where test layer) ≤ length layer
ids_few test [] = omega arith
ids_few test (f ∷ layer) = by (test (rings_of f)) (ids_few test layer)
  where
    by : (b : Bool) → length (ids_where test layer) ≤ length layer → length (map (λ (g : Feature). g.id) (cond b (f ∷ filter (λ (g : Feature). test (rings_of g)) layer) (filter (λ (g : Feature). test (rings_of g)) layer))) ≤ length (f ∷ layer)
    by true few = omega (arith, few)
    by false few = omega (arith, few)

-- the lists of an answer to a point are no longer than the layer
lists_few : (layer : List Feature) (p : Point) → (length (touching_ids (located false layer p)) ≤ length layer) × (length (covering_ids (located false layer p)) ≤ length layer)
unfolding located
lists_few layer p = by (place_at (table_in layer) p)
  where
    here : Place → Answer
    here place = answer_at (shown_at false (table_in layer)) place (ids_where (λ rings. touches rings p) layer) (ids_where (λ rings. covers rings p) layer)

    by : (place : Place) → (length (touching_ids (here place)) ≤ length layer) × (length (covering_ids (here place)) ≤ length layer)
    by (Corner c) = (ids_few (λ rings. touches rings p) layer, ids_few (λ rings. covers rings p) layer)
    by (Border e) = (ids_few (λ rings. touches rings p) layer, ids_few (λ rings. covers rings p) layer)
    by (Area floor) = (omega arith, ids_few (λ rings. covers rings p) layer)

few_answers : (layer : List Feature) (n shift : ℕ) → n ≤ 131072 → length layer ≤ 131072 → AreFew (answers_of layer n shift)
few_answers layer n shift few features =
    let most : n * length layer ≤ 131072 * 131072 = mul-le n (length layer) 131072 131072 few features in
    record {
      few = omega (arith, few, length-map-range_with_len (λ t. located false layer (point_number n shift t)) 0 n);
      touching = omega (arith, most, range_few (λ a. length (touching_ids a)) (λ t. located false layer (point_number n shift t)) (length layer) 0 n (λ t. (lists_few layer (point_number n shift t)).0));
      covering = omega (arith, most, range_few (λ a. length (covering_ids a)) (λ t. located false layer (point_number n shift t)) (length layer) 0 n (λ t. (lists_few layer (point_number n shift t)).1));
    }

module _ (layer : List Feature) (t : Table) (rows : LegendRows) (sound : IsSound rows) (m : IsMapOf layer t rows) where
  -- every line is answered
  pub always : AnswersAll (answer_by 0 (λ p. Ok (place_at t p)) unnumbered rows)
  always line = (answer_to (point_of 0) (located false layer) line, answer_to_line layer t rows sound m false unnumbered refl 0 line)

  module _ (n shift : ℕ) (few : n ≤ 131072) where
    -- the answers to the lines of the points are those to the points
    answers_are : (answered (answer_by 0 (λ p. Ok (place_at t p)) unnumbered rows) (map (point_line n shift) (numbers n))).answers ≡ answers_of layer n shift
    answers_are = ap (λ answer. (answered answer (map (point_line n shift) (numbers n))).answers) (fun_ext (answer_to_line layer t rows sound m false unnumbered refl 0))
        ∙ all_answered (answer_to (point_of 0) (located false layer)) (map (point_line n shift) (numbers n))
        ∙ same_range (answer_to (point_of 0) (located false layer)) (point_line n shift) (λ i. located false layer (point_number n shift i)) 0 n (λ i less. (let read = point_read n shift i (omega (arith, less)) few in rw read refl))

    -- so what is written of them
    text_is : (kind : Kind) (nodes : Option ℕ) → length layer ≤ 131072 → sizes_text kind n shift (length t.corners) (length t.ends) ++ tally_text (tally_of no_tally (answered (answer_by 0 (λ p. Ok (place_at t p)) unnumbered rows) (map (point_line n shift) (numbers n))).answers) ++ nodes_text nodes
        ≡ trial_text kind n shift layer nodes
    text_is kind nodes features = ap₂ (λ (s : Table) counts. sizes_text kind n shift (length s.corners) (length s.ends) ++ counts ++ nodes_text nodes) m.table
        (ap (λ answers. tally_text (tally_of no_tally answers)) answers_are ∙ tally_is (answers_of layer n shift) (few_answers layer n shift few features))

    -- what follows the trial by the legend follows that by direct containment
    pub follows_trial : (index : Index) (kind : Kind) (nodes : Option ℕ) (old new : Moment) (end : Option Stopped) → length layer ≤ 131072 → IsTrue (is_trial_line index kind n shift layer (ended (trial_text kind n shift layer nodes)))
        → Follows (searches (n * steps_by index t) (writes (exactly (ended (sizes_text kind n shift (length t.corners) (length t.ends) ++ tally_text (tally_of no_tally (answered (answer_by 0 (λ p. Ok (place_at t p)) unnumbered rows) (map (point_line n shift) (numbers n))).answers) ++ nodes_text nodes))))) old new end
        → Follows (tried_course index kind n shift layer) old new end
    follows_trial index kind nodes old new end features passes follows =
        let line = ended (trial_text kind n shift layer nodes) in
        passes_more (n * steps_by index (table_in layer)) (exactly line) (is_trial_line index kind n shift layer) old new end
        (λ text is. subst (λ (l : Text). IsTrue (is_trial_line index kind n shift layer l)) (sym (it_exactly line text is)) passes)
        (subst (λ (s : Table). Follows (searches (n * steps_by index s) (writes (exactly line))) old new end) m.table
        (subst (λ (l : Text). Follows (searches (n * steps_by index t) (writes (exactly (ended l)))) old new end) (text_is kind nodes features) follows))

-- the line of a trial passes the test by the index that was chosen, with the number of its nodes
pub line_passes : (layer : List Feature) (kind : Kind) (n shift : ℕ) (t : Table) (chosen : Chosen) → t ≡ table_in layer → HasFewNodes t chosen
    → IsTrue (is_trial_line (index_of chosen) kind n shift layer (ended (trial_text kind n shift layer (nodes_of chosen))))
line_passes layer kind n shift t Scan same few = let line = ended (trial_text kind n shift layer None) in exactly_it line line refl
line_passes layer kind n shift t (Tree versions) same few =
    let line = λ (nodes : ℕ). ended (trial_text kind n shift layer (Some nodes)) in
    let x = length versions.rows in
    let e = length (table_in layer).ends in
    let edges = ap (λ (s : Table). length s.ends) same in
    any_range (λ nodes. exactly (line nodes) (line x)) e (23 * e + 1) x (omega (arith, edges, few.0)) (omega (arith, edges, few.1)) (exactly_it (line x) (line x) refl)
line_passes layer kind n shift t (Trap graph) same few = let line = ended (trial_text kind n shift layer None) in exactly_it line line refl
