-- The marks of an edge, from the features of its segments in order.
use Rattle.std.proofs.Common.{◌≡◌, ℕ, ◌+◌, ◌<◌, true, false, not, ◌||◌, Some, None, List, [], ◌∷◌, ◌++◌, length, get_or, set, take, map, refl, sym, ◌∙◌, ap, ap₂, inl, inr, arith}
use Rattle.std.specs.Prelude.{◌==◌, nat_lt, filter, if◌then◌else◌}
use Rattle.std.specs.List.{list_any, list_all, filter_map, flat_map, enumerate_from, cons_option}
use Rattle.std.proofs.lemmas.Bool.{cases_Bool, cases_eq, cond-true, cond-false, eq-eqb, ne_eqb, ltb-true, and_parts}
use Rattle.std.proofs.lemmas.List.{append_assoc, length-take-le, map-append, nil_from_length, set_at, take_all, take_more}
use Rattle.std.proofs.{lemmas.List.Elements.filter-append, lemmas.List.Folds.list_all-append}
use Rattle.loc_spec_plane.specs.{declared.Mark.Mark, Points.Point, Points.Edge, Points.same_edge}
use Rattle.loc_spec_plane.specs.{Lists.exactly_one, Lists.odd_many, Rings.Rings, Rings.segments}
use Rattle.loc_spec_plane.specs.Tables.{edge_marks, layer_corners, layer_segments, mark_of, mark_before, whole}
use Rattle.loc_laws_order.proofs.Booleans.{or_none}
use Rattle.loc_laws_rays.proofs.Parity.{odd_many-same}
use Rattle.loc_laws_noding.specs.Laws.{IsCutting, is_good}
use Rattle.loc_laws_noding.proofs.Counting.{odd_is_any, odd_none}
use Rattle.loc_laws_noding.proofs.Layers.{any_pieces, layer_good, odd_pieces}
use Rattle.loc_laws_noding.proofs.Marks.{is_hit, marks_above}
use Rattle.loc_edges.specs.Tagged.{tagged_by, tagged_pieces, features_of, with_mark, marks_of}

-- ---- one more feature behind
-- the first mark of a feature, and a mark that turns
abbrev pub one : ℕ → Mark
one f = record { feature = f; odd = true }

abbrev pub turned : Mark → Mark
turned m = record { feature = m.feature; odd = not m.odd }

-- the marks with one more segment of the feature behind
abbrev pub put_mark : List Mark → ℕ → List Mark
put_mark [] f = one f ∷ []
put_mark (m ∷ []) f = if m.feature == f then turned m ∷ [] else m ∷ one f ∷ []
put_mark (m ∷ n ∷ ms) f = m ∷ put_mark (n ∷ ms) f

-- in front and behind, in either order
with_put : (g : ℕ) (ms : List Mark) (f : ℕ) → with_mark g (put_mark ms f) ≡ put_mark (with_mark g ms) f
with_put g [] f = elim (cases_eq g f) [
  | inl same ↦ cond-true _ _ _ (eq-eqb f g (sym same)) ∙ (ap (λ n. record { feature = n; odd = false } ∷ []) (sym same) ∙ sym (cond-true _ _ _ (eq-eqb g f same)))
  | inr other ↦ cond-false _ _ _ (ne_eqb f g (λ e. other (sym e))) ∙ sym (cond-false _ _ _ (ne_eqb g f other))
]
with_put g (m ∷ []) f = elim (cases_Bool (m.feature == g)) [
  | inl here ↦ elim (cases_Bool (m.feature == f)) [
    | inl again ↦ ap (with_mark g) (cond-true _ _ _ again) ∙ (cond-true _ _ _ here ∙ (sym (cond-true _ _ _ again) ∙ sym (ap (λ ms. put_mark ms f) (cond-true _ _ _ here))))
    | inr other ↦ ap (with_mark g) (cond-false _ _ _ other) ∙ (cond-true _ _ _ here ∙ (sym (cond-false _ _ _ other) ∙ sym (ap (λ ms. put_mark ms f) (cond-true _ _ _ here))))
  ]
  | inr there ↦ elim (cases_Bool (m.feature == f)) [
    | inl again ↦ ap (with_mark g) (cond-true _ _ _ again) ∙ (cond-false _ _ _ there ∙ (ap (λ ms. one g ∷ ms) (sym (cond-true _ _ _ again)) ∙ sym (ap (λ ms. put_mark ms f) (cond-false _ _ _ there))))
    | inr other ↦ ap (with_mark g) (cond-false _ _ _ other) ∙ (cond-false _ _ _ there ∙ (ap (λ ms. one g ∷ ms) (sym (cond-false _ _ _ other)) ∙ sym (ap (λ ms. put_mark ms f) (cond-false _ _ _ there))))
  ]
]
with_put g (m ∷ n ∷ ms) f = elim (cases_Bool (m.feature == g)) [
  | inl here ↦ cond-true _ _ _ here ∙ sym (ap (λ ns. put_mark ns f) (cond-true _ _ _ here))
  | inr there ↦ cond-false _ _ _ there ∙ sym (ap (λ ns. put_mark ns f) (cond-false _ _ _ there))
]

pub marks_push : (fs : List ℕ) (f : ℕ) → marks_of (fs ++ f ∷ []) ≡ put_mark (marks_of fs) f
marks_push [] f = refl
marks_push (g ∷ fs) f = ap (with_mark g) (marks_push fs f) ∙ with_put g (marks_of fs) f

-- only the last mark is looked at
pub put_at : (front : List Mark) (m : Mark) (f : ℕ) → put_mark (front ++ m ∷ []) f ≡ front ++ put_mark (m ∷ []) f
put_at [] m f = refl
put_at (n ∷ []) m f = refl
put_at (n ∷ k ∷ front) m f = ap (λ ms. n ∷ ms) (put_at (k ∷ front) m f)

-- ---- the features of a layer
-- a mark in front of those of later features
with_new : (f : ℕ) (ms : List Mark) → list_all (mark_before (one f)) ms ≡ true → with_mark f ms ≡ one f ∷ ms
with_new f [] all = refl
with_new f (m ∷ ms) all = let less : f < m.feature = ltb-true f m.feature (and_parts (nat_lt f m.feature) (list_all (mark_before (one f)) ms) all).0 in cond-false _ _ _ (ne_eqb m.feature f (λ e. omega arith))

-- the segments of one feature in front of those of later ones
one_feature : (e : Edge) (a : ℕ) (ss : List Edge) (fs : List ℕ) (ms : List Mark) → marks_of fs ≡ ms → list_all (mark_before (one a)) ms ≡ true → marks_of (features_of (tagged_by a ss) e ++ fs) ≡ cons_option (mark_of whole e a ss) ms
one_feature e a [] fs ms are later = are
one_feature e a (s ∷ ss) fs ms are later = elim (cases_Bool (same_edge e s)) [
  | inl hit ↦ (let now : mark_of whole e a (s ∷ ss) ≡ Some (record { feature = a; odd = not (odd_many (is_hit whole e) ss) }) = ap (λ b. if ((b || false) || list_any (is_hit whole e) ss) then Some (record { feature = a; odd = exactly_one (b || false) (odd_many (is_hit whole e) ss) }) else None) hit in
      ap (λ (ts : List (Edge × ℕ)). marks_of (map (λ (t : Edge × ℕ). t.1) ts ++ fs)) (cond-true _ _ _ hit)
      ∙ (ap (with_mark a) (one_feature e a ss fs ms are later)
      ∙ (elim (cases_Bool (list_any (is_hit whole e) ss)) [
        | inl some ↦ ap (λ o. with_mark a (cons_option o ms)) (cond-true _ _ _ some) ∙ cond-true _ _ _ (eq-eqb a a refl)
        | inr none ↦ ap (λ o. with_mark a (cons_option o ms)) (cond-false _ _ _ none) ∙ (with_new a ms later ∙ ap (λ b. record { feature = a; odd = not b } ∷ ms) (sym (odd_none (is_hit whole e) ss none)))
      ] ∙ ap (λ o. cons_option o ms) (sym now))))
  | inr miss ↦ ap (λ (ts : List (Edge × ℕ)). marks_of (map (λ (t : Edge × ℕ). t.1) ts ++ fs)) (cond-false _ _ _ miss)
      ∙ (one_feature e a ss fs ms are later
      ∙ ap (λ b. cons_option (if ((b || false) || list_any (is_hit whole e) ss) then Some (record { feature = a; odd = exactly_one (b || false) (odd_many (is_hit whole e) ss) }) else None) ms) (sym miss))
]

pub features_of-append : (e : Edge) (ts us : List (Edge × ℕ)) → features_of (ts ++ us) e ≡ features_of ts e ++ features_of us e
features_of-append e ts us = ap (map (λ (t : Edge × ℕ). t.1)) (filter-append (λ (t : Edge × ℕ). same_edge e t.0) ts us) ∙ map-append (λ (t : Edge × ℕ). t.1) (filter (λ (t : Edge × ℕ). same_edge e t.0) ts) (filter (λ (t : Edge × ℕ). same_edge e t.0) us)

module _ (cut : Edge → List Edge) (corners : List Point) (cuts : IsCutting corners cut) where
  -- the mark of a feature by its pieces is that by its segments, since a segment has an edge at most once as a piece
  mark_by_pieces : (e : Edge) (a : ℕ) (ss : List Edge) → list_all (is_good corners) ss ≡ true → mark_of whole e a (flat_map cut ss) ≡ mark_of cut e a ss
  mark_by_pieces e a ss good = ap₂ (λ some odd. if some then Some (record { feature = a; odd = odd }) else None)
      (any_pieces (is_good corners) cut (is_hit whole e) (is_hit cut e) (λ s _. hit_whole (cut s)) ss good)
      (odd_pieces (is_good corners) cut (is_hit whole e) (is_hit cut e) (λ s here. odd_many-same (is_hit whole e) (same_edge e) (cut s) (λ d. or_none (same_edge e d)) ∙ odd_is_any e (cut s) (cuts s here).rise) ss good)
    where
      hit_whole : (ds : List Edge) → list_any (is_hit whole e) ds ≡ list_any (same_edge e) ds
      hit_whole [] = refl
      hit_whole (d ∷ ds) = ap₂ (λ b c. b || c) (or_none (same_edge e d)) (hit_whole ds)

  -- the marks of the features are those of the edge
  marks_from : (e : Edge) (a : ℕ) (layer : List Rings) → list_all (is_good corners) (layer_segments layer) ≡ true → marks_of (features_of (tagged_pieces cut a layer) e) ≡ filter_map (λ (numbered : ℕ × Rings). mark_of cut e numbered.0 (segments numbered.1)) (enumerate_from a layer)
  marks_from e a [] good = refl
  marks_from e a (r ∷ rs) good =
      let parts = and_parts (list_all (is_good corners) (segments r)) (list_all (is_good corners) (layer_segments rs)) (sym (list_all-append (is_good corners) (segments r) (layer_segments rs)) ∙ good) in
      let rest = filter_map (λ (numbered : ℕ × Rings). mark_of cut e numbered.0 (segments numbered.1)) (enumerate_from (a + 1) rs) in
      ap marks_of (features_of-append e (tagged_by a (flat_map cut (segments r))) (tagged_pieces cut (a + 1) rs))
      ∙ (one_feature e a (flat_map cut (segments r)) (features_of (tagged_pieces cut (a + 1) rs) e) rest (marks_from e (a + 1) rs parts.1) (marks_above cut e a (a + 1) true rs (omega arith))
      ∙ ap (λ o. cons_option o rest) (mark_by_pieces e a (segments r) parts.0))

-- and so for each of some edges, by pieces with the same features
pub marks_are : (cut : Edge → List Edge) (layer : List Rings) → IsCutting (layer_corners layer) cut → (ts : List (Edge × ℕ)) → ((e : Edge) → features_of ts e ≡ features_of (tagged_pieces cut 0 layer) e) → (es : List Edge) → map marks_of (map (features_of ts) es) ≡ map (edge_marks cut layer) es
marks_are cut layer cuts ts same [] = refl
marks_are cut layer cuts ts same (e ∷ es) = ap (λ ms. ms ∷ map marks_of (map (features_of ts) es)) (ap marks_of (same e) ∙ marks_from cut (layer_corners layer) cuts e 0 layer (layer_good layer)) ∙ ap (λ rows. edge_marks cut layer e ∷ rows) (marks_are cut layer cuts ts same es)

-- ---- what a count does
last_split : (ms : List Mark) (last : ℕ) (r : Mark) → last + 1 ≡ length ms → r ≡ get_or ms last r → ms ≡ take last ms ++ r ∷ []
last_split ms last r is at = sym (take_all (last + 1) ms (omega arith)) ∙ (take_more ms last r (omega arith) ∙ ap (λ m. take last ms ++ m ∷ []) (sym at))

-- the last mark is the feature's, and turns
pub count_again : (ms : List Mark) (fs : List ℕ) (f last : ℕ) (r : Mark) → ms ≡ marks_of fs → last + 1 ≡ length ms → r ≡ get_or ms last r → r.feature ≡ f → set ms last (record { feature = f; odd = not r.odd }) ≡ marks_of (fs ++ f ∷ [])
count_again ms fs f last r are is at same =
    let split : ms ≡ take last ms ++ r ∷ [] = last_split ms last r is at in
    let turn : Mark = record { feature = f; odd = not r.odd } in
    ap (λ ns. set ns last turn) split
    ∙ (set_at (take last ms) r [] turn last (length-take-le last ms (omega arith))
    ∙ (ap (λ n. take last ms ++ record { feature = n; odd = not r.odd } ∷ []) (sym same)
    ∙ (ap (λ ns. take last ms ++ ns) (sym (cond-true _ _ _ (eq-eqb r.feature f same)))
    ∙ (sym (put_at (take last ms) r f)
    ∙ (ap (λ ns. put_mark ns f) (sym split ∙ are) ∙ sym (marks_push fs f))))))

-- there is no mark
pub count_first : (ms : List Mark) (fs : List ℕ) (f : ℕ) → ms ≡ marks_of fs → length ms ≡ 0 → ms ++ one f ∷ [] ≡ marks_of (fs ++ f ∷ [])
count_first ms fs f are short =
    let none : ms ≡ [] = nil_from_length ms short in
    ap (λ ns. ns ++ one f ∷ []) none ∙ (ap (λ ns. put_mark ns f) (sym none ∙ are) ∙ sym (marks_push fs f))

-- the last mark is another feature's
pub count_other : (ms : List Mark) (fs : List ℕ) (f last : ℕ) (r : Mark) → ms ≡ marks_of fs → last + 1 ≡ length ms → r ≡ get_or ms last r → (r.feature ≡ f → ⊥) → ms ++ one f ∷ [] ≡ marks_of (fs ++ f ∷ [])
count_other ms fs f last r are is at other =
    let split : ms ≡ take last ms ++ r ∷ [] = last_split ms last r is at in
    ap (λ ns. ns ++ one f ∷ []) split
    ∙ (append_assoc (take last ms) (r ∷ []) (one f ∷ [])
    ∙ (ap (λ ns. take last ms ++ ns) (sym (cond-false _ _ _ (ne_eqb r.feature f other)))
    ∙ (sym (put_at (take last ms) r f)
    ∙ (ap (λ ns. put_mark ns f) (sym split ∙ are) ∙ sym (marks_push fs f)))))
