-- The edges of a layer are its sorted segments, and the ends of its edges are the ends of its segments.
use Rattle.std.proofs.Common.{◌≡◌, ℕ, ◌+◌, ◌-◌, ◌<◌, Bool, ◌||◌, true, false, List, [], ◌∷◌, ◌++◌, length, get_or, take, refl, sym, ◌∙◌, ap, inl, inr, arith}
use Rattle.std.specs.List.{list_any}
use Rattle.std.proofs.lemmas.Bool.{cases_Bool, or_left, true≢false}
use Rattle.std.proofs.lemmas.List.{append_assoc, get_or-take, length-take-le, map-id, take_more}
use Rattle.std.proofs.lemmas.List.Concat.{flat_map-append, flat_map_single}
use Rattle.std.proofs.lemmas.List.Folds.{list_any-append, list_any_at}
use Rattle.loc_spec_plane.specs.Points.{Point, Edge, before, edge_before}
use Rattle.loc_spec_plane.specs.{Lists.sorted_set, Rings.Rings}
use Rattle.loc_spec_plane.specs.Tables.{layer_segments, layer_corners, pieces_of, whole}
use Rattle.loc_laws_noding.specs.Laws.{ends_of}
use Rattle.loc_laws_noding.proofs.{Layers.any-ends_of, Orders.points_by_before, Orders.edges_by_before}
use Rattle.loc_laws_noding.proofs.SortedSet.{any-sorted_set, same-sorted_set}

-- where nothing is cut the pieces are the segments
pub pieces_of-whole : (layer : List Rings) → sorted_set edge_before (layer_segments layer) ≡ pieces_of whole layer
pieces_of-whole layer = ap (sorted_set edge_before) (sym (flat_map_single (λ (s : Edge). s) (layer_segments layer) ∙ map-id (layer_segments layer)))

-- the distinct ends of the distinct segments are the distinct ends of the segments
pub corners_from_edges : (layer : List Rings) → sorted_set before (ends_of (pieces_of whole layer)) ≡ layer_corners layer
corners_from_edges layer =
    ap (λ es. sorted_set before (ends_of es)) (sym (pieces_of-whole layer))
    ∙ same-sorted_set points_by_before (ends_of (sorted_set edge_before (layer_segments layer))) (ends_of (layer_segments layer)) (λ p.
    any-ends_of p (sorted_set edge_before (layer_segments layer))
    ∙ (any-sorted_set edges_by_before (λ (e : Edge). p e.lo || p e.hi) (layer_segments layer)
    ∙ sym (any-ends_of p (layer_segments layer))))

-- ---- ends, as they are gathered
-- the ends of one edge more, whose lower end may stand there already
pub ends_more : (edges : List Edge) (n : ℕ) (e : Edge) (again : Bool) (points lower grown : List Point) → n < length edges → e ≡ get_or edges n e → (again ≡ true → (0 < n) × ((d : Edge) → (get_or edges n d).lo ≡ (get_or edges (n - 1) d).lo)) → (again ≡ false → lower ≡ points ++ e.lo ∷ []) → (again ≡ true → lower ≡ points)
    → grown ≡ lower ++ e.hi ∷ [] → ((test : Point → Bool) → list_any test points ≡ list_any test (ends_of (take n edges))) → (test : Point → Bool) → list_any test grown ≡ list_any test (ends_of (take (n + 1) edges))
ends_more edges n e again points lower grown fits is begun new old grown_is so_far test = elim (cases_Bool again) [
  | inl here ↦ (let known : test e.lo ≡ true → before_them ≡ true = λ low. any-ends_of test (take n edges) ∙ list_any_at (λ (d : Edge). test d.lo || test d.hi) (take n edges) (n - 1) e (omega (arith, (begun here).0, length-take-le n edges (omega (arith, fits))))
      (or_left _ _ (ap (λ (d : Edge). test d.lo) (get_or-take n edges (n - 1) e (omega (arith, (begun here).0))) ∙ (ap test (sym ((begun here).1 e)) ∙ (ap (λ (d : Edge). test d.lo) (sym is) ∙ low)))) in
      ap (list_any test) (grown_is ∙ ap (λ ps. ps ++ e.hi ∷ []) (old here)) ∙ (list_any-append test points (e.hi ∷ []) ∙ (ap (λ b. b || (test e.hi || false)) (so_far test) ∙ (absorb before_them (test e.lo) (test e.hi || false) known ∙ sym all))))
  | inr fresh ↦ ap (list_any test) (grown_is ∙ (ap (λ ps. ps ++ e.hi ∷ []) (new fresh) ∙ append_assoc points (e.lo ∷ []) (e.hi ∷ []))) ∙ (list_any-append test points (e.lo ∷ e.hi ∷ []) ∙ (ap (λ b. b || (test e.lo || (test e.hi || false))) (so_far test) ∙ sym all))
]
  where
    before_them : Bool
    before_them = list_any test (ends_of (take n edges))

    all : list_any test (ends_of (take (n + 1) edges)) ≡ (before_them || (test e.lo || (test e.hi || false)))
    all = ap (λ es. list_any test (ends_of es)) (take_more edges n e fits ∙ ap (λ d. take n edges ++ d ∷ []) (sym is)) ∙ (ap (list_any test) (flat_map-append (λ (d : Edge). d.lo ∷ d.hi ∷ []) (take n edges) (e ∷ [])) ∙ list_any-append test (ends_of (take n edges)) (e.lo ∷ e.hi ∷ []))

    absorb : (a low high : Bool) → (low ≡ true → a ≡ true) → (a || high) ≡ (a || (low || high))
    absorb true low high h = refl
    absorb false true high h = absurd (true≢false (sym (h refl)))
    absorb false false high h = refl
