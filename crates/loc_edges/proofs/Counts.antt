-- How many corners and edges a layer has: no more of either than points.
use Rattle.std.proofs.Common.{◌≡◌, suc, ◌≤◌, Bool, true, false, ◌||◌, List, [], ◌∷◌, ◌++◌, length, refl, sym, ◌∙◌, ap, inl, inr, arith, length-append}
use Rattle.std.specs.List.{list_any, flat_map}
use Rattle.std.proofs.lemmas.Bool.{cases_Bool, cond-true, cond-false, both_ways, or_cases, or_left, or_right}
use Rattle.std.proofs.{lemmas.List.map-id, lemmas.List.Concat.flat_map-append, lemmas.List.Concat.flat_map_single}
use Rattle.std.proofs.lemmas.List.Folds.{list_any-append}
use Rattle.loc_spec_plane.specs.Points.{Point, Edge, before, same_point, edge_before}
use Rattle.loc_spec_plane.specs.Lists.{sorted_set}
use Rattle.loc_spec_plane.specs.Rings.{Ring, Rings, ring_segments, segments, segment_between}
use Rattle.loc_spec_plane.specs.Tables.{layer_segments, layer_corners, pieces_of, whole}
use Rattle.loc_laws_order.proofs.Booleans.{or_true}
use Rattle.loc_laws_noding.specs.Laws.{ends_of}
use Rattle.loc_laws_noding.proofs.{Orders.points_by_before, SortedSet.length-sorted_set_part, SortedSet.same-sorted_set}
pub use Rattle.loc_laws_noding.proofs.SortedSet.{length-sorted_set}
use Rattle.loc_edges.specs.Kept.{written_points}

-- a test that an end of a segment of a ring passes is passed by a point of the ring
ring_points : (p : Point → Bool) (ring : Ring) → list_any p (ends_of (ring_segments ring)) ≡ true → list_any p ring ≡ true
ring_points p [] h = h
ring_points p (a ∷ []) h = absurd (both_ways _ refl h)
ring_points p (a ∷ b ∷ ps) h = elim (cases_Bool (same_point a b)) [
  | inl same ↦ later (ring_points p (b ∷ ps) (sym (ap (λ ss. list_any p (ends_of ss)) (cond-true _ _ _ same)) ∙ h))
  | inr other ↦ split (sym (ap (λ ss. list_any p (ends_of ss)) (cond-false _ _ _ other)) ∙ h) (ring_points p (b ∷ ps))
]
  where
    later : list_any p (b ∷ ps) ≡ true → list_any p (a ∷ b ∷ ps) ≡ true
    later h = ap (λ t. p a || t) h ∙ or_true (p a)

    split : list_any p (ends_of (segment_between a b ∷ ring_segments (b ∷ ps))) ≡ true → (list_any p (ends_of (ring_segments (b ∷ ps))) ≡ true → list_any p (b ∷ ps) ≡ true) → list_any p (a ∷ b ∷ ps) ≡ true
    split h rest = elim (cases_Bool (p a)) [
      | inl here ↦ ap (λ t. t || (p b || list_any p ps)) here
      | inr not_here ↦ elim (cases_Bool (p b)) [
        | inl next ↦ later (ap (λ t. t || list_any p ps) next)
        | inr not_next ↦ later (rest (sym (drop_ends not_here not_next) ∙ h))
      ]
    ]
      where
        drop_ends : p a ≡ false → p b ≡ false → list_any p (ends_of (segment_between a b ∷ ring_segments (b ∷ ps))) ≡ list_any p (ends_of (ring_segments (b ∷ ps)))
        drop_ends na nb = elim (cases_Bool (before a b)) [
          | inl up ↦ ap (λ s. list_any p (ends_of (s ∷ ring_segments (b ∷ ps)))) (cond-true _ _ _ up) ∙ (ap (λ t. t || (p b || list_any p (ends_of (ring_segments (b ∷ ps))))) na ∙ ap (λ t. t || list_any p (ends_of (ring_segments (b ∷ ps)))) nb)
          | inr down ↦ ap (λ s. list_any p (ends_of (s ∷ ring_segments (b ∷ ps)))) (cond-false _ _ _ down) ∙ (ap (λ t. t || (p a || list_any p (ends_of (ring_segments (b ∷ ps))))) nb ∙ ap (λ t. t || list_any p (ends_of (ring_segments (b ∷ ps)))) na)
        ]

-- the same of lists of such
parts_points : {X : Type 0} (f : X → List Edge) (g : X → List Point) → ((p : Point → Bool) (x : X) → list_any p (ends_of (f x)) ≡ true → list_any p (g x) ≡ true) → (p : Point → Bool) (xs : List X) → list_any p (ends_of (flat_map f xs)) ≡ true → list_any p (flat_map g xs) ≡ true
parts_points f g each p [] h = h
parts_points f g each p (x ∷ xs) h = list_any-append p (g x) (flat_map g xs) ∙ elim (or_cases _ _ (sym (ap (list_any p) (flat_map-append (λ (e : Edge). e.lo ∷ e.hi ∷ []) (f x) (flat_map f xs)) ∙ list_any-append p (ends_of (f x)) (ends_of (flat_map f xs))) ∙ h)) [
  | inl here ↦ or_left (list_any p (g x)) _ (each p x here)
  | inr there ↦ or_right (list_any p (g x)) _ (parts_points f g each p xs there)
]

-- so of the rings of a feature, and of a layer
layer_points : (p : Point → Bool) (layer : List Rings) → list_any p (ends_of (layer_segments layer)) ≡ true → list_any p (written_points layer) ≡ true
layer_points = parts_points segments (λ rings. flat_map (λ ring. ring) rings) (parts_points ring_segments (λ ring. ring) ring_points)

-- so there are no more corners than points: with the ends of the segments the points have no further member
pub few_corners : (layer : List Rings) → length (layer_corners layer) ≤ length (written_points layer)
few_corners layer =
    let ends : List Point = ends_of (layer_segments layer) in
    let same : sorted_set before (written_points layer ++ ends) ≡ sorted_set before (written_points layer) = same-sorted_set points_by_before (written_points layer ++ ends) (written_points layer) (λ p. list_any-append p (written_points layer) ends ∙ absorb (list_any p (written_points layer)) (list_any p ends) (layer_points p layer)) in
    omega (arith, length-sorted_set_part before (written_points layer) ends, ap length same, length-sorted_set before (written_points layer))
  where
    absorb : (a b : Bool) → (b ≡ true → a ≡ true) → (a || b) ≡ a
    absorb true b h = refl
    absorb false true h = sym (h refl)
    absorb false false h = refl

-- a ring has no more segments than points
few_ring_segments : (ring : Ring) → length (ring_segments ring) ≤ length ring
few_ring_segments [] = omega arith
few_ring_segments (a ∷ []) = omega arith
few_ring_segments (a ∷ b ∷ ps) = elim (cases_Bool (same_point a b)) [
  | inl same ↦ (let e : length (ring_segments (a ∷ b ∷ ps)) ≡ length (ring_segments (b ∷ ps)) = ap length (cond-true _ _ _ same) in omega (arith, e, few_ring_segments (b ∷ ps)))
  | inr other ↦ (let e : length (ring_segments (a ∷ b ∷ ps)) ≡ suc (length (ring_segments (b ∷ ps))) = ap length (cond-false _ _ _ other) in omega (arith, e, few_ring_segments (b ∷ ps)))
]

few_parts : {X : Type 0} (f : X → List Edge) (g : X → List Point) → ((x : X) → length (f x) ≤ length (g x)) → (xs : List X) → length (flat_map f xs) ≤ length (flat_map g xs)
few_parts f g each [] = omega arith
few_parts f g each (x ∷ xs) = omega (arith, length-append (f x) (flat_map f xs), length-append (g x) (flat_map g xs), each x, few_parts f g each xs)

few_layer_segments : (layer : List Rings) → length (layer_segments layer) ≤ length (written_points layer)
few_layer_segments = few_parts segments (λ rings. flat_map (λ ring. ring) rings) (few_parts ring_segments (λ ring. ring) few_ring_segments)

-- nor more pieces where nothing is cut
pub few_pieces : (layer : List Rings) → length (flat_map whole (layer_segments layer)) ≤ length (written_points layer)
few_pieces layer = omega (arith, ap length (flat_map_single (λ (s : Edge). s) (layer_segments layer) ∙ map-id (layer_segments layer)), few_layer_segments layer)

-- so not more edges
pub few_edges : (layer : List Rings) → length (pieces_of whole layer) ≤ length (written_points layer)
few_edges layer = omega (arith, length-sorted_set edge_before (flat_map whole (layer_segments layer)), few_pieces layer)
