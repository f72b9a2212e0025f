-- The graph after an edge is added.
use Rattle.std.proofs.Common.{◌≡◌, ℕ, zero, suc, ◌+◌, ◌-◌, ◌<◌, ◌≤◌, Bool, true, false, not, List, [], ◌∷◌, ◌++◌, length, set, take, replicate, get_or-set_other, get_or-set_same, refl, sym, ◌∙◌, ap, subst, ◌⊎◌, inl, inr, arith}
use Rattle.std.specs.Prelude.{Option, Some, None, nat_lt, if◌then◌else◌, ◌==◌, ◌≢◌}
use Rattle.std.proofs.lemmas.Bool.{and_from, cases_Bool, cases_lt, cases_eq, lt-ltb, le-ltb, or_left, or_right, eq-eqb}
use Rattle.std.proofs.lemmas.List.{length_push, length-set, get_or_past}
use Rattle.std.proofs.lemmas.List.Folds.{list_any-append}
use Rattle.loc_spec_plane.specs.{declared.Trap.Trap, Tables.Table, Tables.lo_of, Tables.hi_of}
use Rattle.loc_laws_traps.specs.Sets.{behind_left, before_right, part_before, part_behind, is_over_piece, is_under_piece, is_cut, has_real_bounds}
use Rattle.loc_laws_traps.proofs.Sends.{real_law}
use Rattle.loc_traps.specs.declared.map.Split.{Split}
use Rattle.loc_traps.specs.Meaning.{MapMeaning, IsMapOf, row_of, live_of, among}
use Rattle.loc_traps.specs.Splits.{split_of, IsPart, IsSplitOf, AreSplits, IsAdded}
use Rattle.loc_traps.proofs.Burying.{grown}
use Rattle.loc_trapdag.specs.declared.index.Step.{Step}
use Rattle.loc_trapdag.specs.Graphs.{Graph, step_of, IsPiece, IsStepOf, IsGraphOf, Marks}
use Rattle.loc_trapdag.proofs.Descent.{part_row, piece_later}

-- ---- noting splits
module _ (e : ℕ) (splits : List Split) (old : List (Option Step)) where
  pub marks_none : Marks e splits 0 old old
  marks_none = record { noted = λ j less. absurd (omega arith); stay = λ n off. refl; same_length = refl }

  pub marks_more : (i : ℕ) (now : List (Option Step)) → Marks e splits i old now → i < length splits → ((j : ℕ) → j < length splits → (split_of splits j).cut < length old) → ((j k : ℕ) → j < length splits → k < length splits → (split_of splits j).cut ≡ (split_of splits k).cut → j ≡ k)
      → Marks e splits (i + 1) old (set now (split_of splits i).cut (Some (record { edge = e; split = split_of splits i })))
  marks_more i now m less real single =
      let length_is = m.same_length in
      let here : (split_of splits i).cut < length now = (let r = real i less in omega arith) in
      record {
        noted = λ j upto. elim (cases_lt j i) [
          | inl early ↦ (let other : (split_of splits j).cut ≢ (split_of splits i).cut = (λ same. (let at = single j i (omega arith) less same in absurd (omega arith))) in rw get_or-set_other (m.noted j early))
          | inr late ↦ (let at : i ≡ j = omega arith in subst (λ k. step_of (set now (split_of splits i).cut (Some (record { edge = e; split = split_of splits i }))) (split_of splits k).cut ≡ Some (record { edge = e; split = split_of splits k })) at (get_or-set_same now (split_of splits i).cut (Some (record { edge = e; split = split_of splits i })) None here))
        ];
        stay = λ n off. (let other : n ≢ (split_of splits i).cut = (λ same. off i (omega arith) (sym same)) in rw get_or-set_other (m.stay n (λ j early. off j (omega arith))));
        same_length = length-set now (split_of splits i).cut (Some (record { edge = e; split = split_of splits i })) ∙ m.same_length;
      }

-- ---- a step stays when the map grows
module _ (t : Table) (e : ℕ) (old new : MapMeaning) (added : IsAdded t e old new) where
  row_stays : (i : ℕ) → i < length old.rows → row_of new.rows i ≡ row_of old.rows i
  row_stays = added.kept

  part_stays : (b : Bool) (part : Trap) (n : ℕ) (o : Option ℕ) → IsPart b part n old.rows o → IsPart b part n new.rows o
  part_stays b part n None h = h
  part_stays b part n (Some i) h = let l = added.longer in (h.0, h.1, (let s = h.2 in omega arith), row_stays i h.2 ∙ h.3)

  still_among : (d : ℕ) → among old.added d ≡ true → among new.added d ≡ true
  still_among d h = subst (λ (xs : List ℕ). among xs d ≡ true) (sym added.edge) (list_any-append (λ m. m == d) old.added (e ∷ []) ∙ or_left (among old.added d) (among (e ∷ []) d) h)

  now_among : among new.added e ≡ true
  now_among = subst (λ (xs : List ℕ). among xs e ≡ true) (sym added.edge) (list_any-append (λ m. m == e) old.added (e ∷ []) ∙ or_right (among old.added e) (among (e ∷ []) e) (or_left (e == e) false (eq-eqb e e refl)))

  split_stays : (d n : ℕ) (split : Split) → split.cut < length old.rows → IsSplitOf t d n old.rows split → IsSplitOf t d n new.rows split
  split_stays d n split real s =
      let l = added.longer in
      let same : row_of old.rows split.cut ≡ row_of new.rows split.cut = sym (row_stays split.cut real) in
      record {
        before = subst (λ (x : Trap). IsPart (behind_left x.left (lo_of t d)) (part_before x (lo_of t d)) n new.rows split.before) same (part_stays (behind_left (row_of old.rows split.cut).left (lo_of t d)) (part_before (row_of old.rows split.cut) (lo_of t d)) n split.before s.before);
        behind = subst (λ (x : Trap). IsPart (before_right x.right (hi_of t d)) (part_behind x (hi_of t d)) n new.rows split.behind) same (part_stays (before_right (row_of old.rows split.cut).right (hi_of t d)) (part_behind (row_of old.rows split.cut) (hi_of t d)) n split.behind s.behind);
        above = subst (λ (x : Trap). is_over_piece t d x (row_of new.rows split.above) ≡ true) same (subst (λ (x : Trap). is_over_piece t d (row_of old.rows split.cut) x ≡ true) (sym (row_stays split.above s.above_new.1)) s.above);
        above_new = (s.above_new.0, (let a = s.above_new.1 in omega arith));
        below = subst (λ (x : Trap). is_under_piece t d x (row_of new.rows split.below) ≡ true) same (subst (λ (x : Trap). is_under_piece t d (row_of old.rows split.cut) x ≡ true) (sym (row_stays split.below s.below_new.1)) s.below);
        below_new = (s.below_new.0, (let a = s.below_new.1 in omega arith));
      }

part_from : (b : Bool) (part : Trap) (n m : ℕ) (rows : List Trap) (o : Option ℕ) → n ≤ m → IsPart b part m rows o → IsPart b part n rows o
part_from b part n m rows None le h = h
part_from b part n m rows (Some i) le h = (h.0, (let l = h.1 in omega arith), h.2, h.3)

split_from : (t : Table) (d n m : ℕ) (rows : List Trap) (split : Split) → n ≤ m → IsSplitOf t d m rows split → IsSplitOf t d n rows split
split_from t d n m rows split le s = record {
  before = part_from (behind_left (row_of rows split.cut).left (lo_of t d)) (part_before (row_of rows split.cut) (lo_of t d)) n m rows split.before le s.before;
  behind = part_from (before_right (row_of rows split.cut).right (hi_of t d)) (part_behind (row_of rows split.cut) (hi_of t d)) n m rows split.behind le s.behind;
  above = s.above;
  above_new = ((let a = s.above_new.0 in omega arith), s.above_new.1);
  below = s.below;
  below_new = ((let b = s.below_new.0 in omega arith), s.below_new.1);
}

-- a piece of a split is a new row
piece_new : (t : Table) (d m : ℕ) (rows : List Trap) (split : Split) → IsSplitOf t d m rows split → (k : ℕ) → IsPiece split k → m ≤ k
piece_new t d m rows split s k (inl before) = (part_row (behind_left (row_of rows split.cut).left (lo_of t d)) (part_before (row_of rows split.cut) (lo_of t d)) m rows split.before k s.before before).0
piece_new t d m rows split s k (inr (inl above)) = subst (λ i. m ≤ i) above s.above_new.0
piece_new t d m rows split s k (inr (inr (inl below))) = subst (λ i. m ≤ i) below s.below_new.0
piece_new t d m rows split s k (inr (inr (inr behind))) = (part_row (before_right (row_of rows split.cut).right (hi_of t d)) (part_behind (row_of rows split.cut) (hi_of t d)) m rows split.behind k s.behind behind).0

module _ (t : Table) (e : ℕ) (old : Graph) (graph : IsGraphOf t old) (map : MapMeaning) (is_map : IsMapOf t map) (added : IsAdded t e old.map map) (splits : List Split) (are : AreSplits t e (length old.map.rows) map.rows old.map.is_live splits)
    (grown cuts : List (Option Step)) (marks : Marks e splits (length splits) grown cuts) (many : length grown ≡ length map.rows) (same : (n : ℕ) → step_of grown n ≡ step_of old.cuts n) where
  abbrev n0 : ℕ
  n0 = length old.map.rows

  -- the split that cuts a row, if there is one
  cut_cases : (n : ℕ) → ((j : ℕ) × (j < length splits) × ((split_of splits j).cut ≡ n)) ⊎ ((j : ℕ) → j < length splits → (split_of splits j).cut ≡ n → ⊥)
  cut_cases n = search_to (length splits)
    where
      search_to : (k : ℕ) → ((j : ℕ) × (j < k) × ((split_of splits j).cut ≡ n)) ⊎ ((j : ℕ) → j < k → (split_of splits j).cut ≡ n → ⊥)
      search_to zero = inr (λ j less. absurd (omega arith))
      search_to (suc k) = elim (cases_eq (split_of splits k).cut n) [
        | inl here ↦ inl (k, omega arith, here)
        | inr off ↦ elim (search_to k) [
          | inl found ↦ inl (found.0, (let l = found.1 in omega arith), found.2)
          | inr none ↦ inr (λ j less at. elim (cases_lt j k) [ inl early ↦ none j early at | inr late ↦ (let is : j ≡ k = omega arith in off (subst (λ i. (split_of splits i).cut ≡ n) is at)) ])
        ]
      ]

  -- past its end a list has no step
  past_end : (n : ℕ) → n0 ≤ n → step_of old.cuts n ≡ None
  past_end n le = let m = graph.many in get_or_past old.cuts n None (omega arith)

  abbrev birth : ℕ → ℕ
  birth n = if nat_lt n n0 then graph.birth n else length map.added

  birth_old : (n : ℕ) → n < n0 → birth n ≡ graph.birth n
  birth_old n less = ap (λ b. if b then graph.birth n else length map.added) (lt-ltb n n0 less)

  birth_new : (n : ℕ) → n0 ≤ n → birth n ≡ length map.added
  birth_new n le = ap (λ b. if b then graph.birth n else length map.added) (le-ltb n n0 le)

  more_added : length map.added ≡ length old.map.added + 1
  more_added = ap length added.edge ∙ length_push old.map.added e

  -- a row with a step is an old one, and the step is new or old
  step_cases : (n : ℕ) (step : Step) → step_of cuts n ≡ Some step → ((j : ℕ) × (j < length splits) × ((split_of splits j).cut ≡ n) × (step ≡ record { edge = e; split = split_of splits j })) ⊎ (step_of old.cuts n ≡ Some step)
  step_cases n step at = elim (cut_cases n) [
    | inl found ↦ inl (found.0, found.1, found.2, some_same (sym at ∙ subst (λ k. step_of cuts k ≡ Some (record { edge = e; split = split_of splits found.0 })) found.2 (marks.noted found.0 found.1)))
    | inr none ↦ inr (sym (marks.stay n none ∙ same n) ∙ at)
  ]
    where
      some_same : {a b : Step} → Some a ≡ Some b → a ≡ b
      some_same h = cc

  old_step : (n : ℕ) (step : Step) → step_of old.cuts n ≡ Some step → n < n0
  old_step n step at = elim (cases_lt n n0) [ inl less ↦ less | inr le ↦ absurd (none_some (sym (past_end n le) ∙ at)) ]
    where
      none_some : None ≡ Some step → ⊥
      none_some h = cc

  node : (n : ℕ) (step : Step) → step_of cuts n ≡ Some step → IsStepOf t map n step
  node n step at = elim (step_cases n step at) [
    | inl new ↦ subst (λ (x : Step). IsStepOf t map n x) (sym new.3) (record {
      added = now_among t e old.map map added;
      cut = new.2;
      split = (let c = are.cuts new.0 new.1 in split_from t e (suc n) n0 map.rows (split_of splits new.0) (let s = c.0 in let q = new.2 in omega arith) (are.tells new.0 new.1));
    })
    | inr was ↦ (let real = old_step n step was in
        let s = graph.node n step real was in
        record { added = still_among t e old.map map added step.edge s.added; cut = s.cut; split = split_stays t e old.map map added step.edge (suc n) step.split (let c = s.cut in omega arith) s.split })
  ]

  later : (n k : ℕ) (step : Step) → step_of cuts n ≡ Some step → IsPiece step.split k → birth n < birth k
  later n k step at piece = elim (step_cases n step at) [
    | inl new ↦ (let p : IsPiece (split_of splits new.0) k = subst (λ (x : Step). IsPiece x.split k) new.3 piece in
        let le = piece_new t e n0 map.rows (split_of splits new.0) (are.tells new.0 new.1) k p in
        let c = are.cuts new.0 new.1 in
        let real : n < n0 = (let s = c.0 in let q = new.2 in omega arith) in
        let was = graph.born n real in
        let a = birth_old n real in
        let b = birth_new k le in
        let m = more_added in
        omega arith)
    | inr was ↦ (let real = old_step n step was in
        let there = piece_later t old graph n step real was k piece in
        let up = graph.later n k step real was piece in
        let a = birth_old n real in
        let b = birth_old k there.1 in
        omega arith)
  ]

  pub graph_more : IsGraphOf t (record { map = map; cuts = cuts })
  graph_more = let l = added.longer in let some = graph.some in record {
    map = is_map;
    many = marks.same_length ∙ many;
    some = omega arith;
    first = added.kept 0 some ∙ graph.first;
    real = λ n less. elim (cases_lt n n0) [
      | inl was ↦ subst (λ (x : Trap). has_real_bounds t x ≡ true) (sym (added.kept n was)) (graph.real n was)
      | inr new ↦ real_law t (among map.added) is_map.calm (row_of map.rows n) (is_map.map.sound n less (added.fresh n new less))
    ];
    leaf = λ n less none. elim (cases_lt n n0) [
      | inr new ↦ added.fresh n new less
      | inl was ↦ elim (cut_cases n) [
        | inl found ↦ absurd (none_some (sym none ∙ subst (λ k. step_of cuts k ≡ Some (record { edge = e; split = split_of splits found.0 })) found.2 (marks.noted found.0 found.1)))
        | inr off ↦ (let live = graph.leaf n was (sym (marks.stay n off ∙ same n) ∙ none) in
            added.stays n was ∙ and_from (live_of old.map.is_live n) (not (is_cut t e (row_of old.map.rows n))) live (uncut n was live off))
      ]
    ];
    node = λ n step less at. node n step at;
    birth = birth;
    born = λ n less. elim (cases_lt n n0) [
      | inl was ↦ (let b = birth_old n was in let w = graph.born n was in let m = more_added in omega arith)
      | inr new ↦ (let b = birth_new n new in omega arith)
    ];
    later = λ n k step less at piece. later n k step at piece;
  }
    where
      none_some : {a : Step} → None ≡ Some a → ⊥
      none_some h = cc

      uncut : (n : ℕ) → n < n0 → live_of old.map.is_live n ≡ true → ((j : ℕ) → j < length splits → (split_of splits j).cut ≡ n → ⊥) → not (is_cut t e (row_of old.map.rows n)) ≡ true
      uncut n was live off = elim (cases_Bool (is_cut t e (row_of old.map.rows n))) [
        | inl cut ↦ absurd (let found = are.complete n was live (subst (λ (x : Trap). is_cut t e x ≡ true) (sym (added.kept n was)) cut) in off found.0 found.1 found.2)
        | inr uncut_one ↦ ap not uncut_one
      ]

-- ---- a list of steps that has grown has the same steps
pub steps_grown : (old cuts grown_cuts : List (Option Step)) (n many : ℕ) → cuts ≡ old → many ≡ length cuts → many ≤ n → grown_cuts ≡ take n cuts ++ replicate (n - many) None → (k : ℕ) → step_of grown_cuts k ≡ step_of old k
steps_grown old cuts grown_cuts n many same is_many le is_grown k = ap (λ (cs : List (Option Step)). step_of cs k) is_grown ∙ (grown true cuts n many is_many le k ∙ ap (λ (cs : List (Option Step)). step_of cs k) same)
