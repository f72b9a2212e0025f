-- A polygon alone has no more pieces than the rings of its feature: each of its segments is cut at some of the corners at which it is cut there.
use Rattle.std.proofs.Common.{◌≡◌, ℕ, zero, suc, ◌-◌, ◌<◌, ◌≤◌, Bool, true, ◌||◌, ◌&&◌, List, [], ◌∷◌, length, filter, get_or, map, refl, sym, ◌∙◌, ap, ap₂, subst, inl, inr, arith}
use Rattle.std.specs.List.{list_any, list_all, flat_map}
use Rattle.std.proofs.lemmas.Bool.{and_parts, cases_Bool, both_ways, or_cases, or_left, or_right, true≢false}
use Rattle.std.proofs.{lemmas.List.append-nil, lemmas.List.length-append, lemmas.List.Concat.flat_map-append}
use Rattle.std.proofs.lemmas.List.Folds.{list_any-append}
use Rattle.loc_spec_plane.specs.{Lists.is_rising, Rings.Rings, Rings.ring_segments, Rings.segments}
use Rattle.loc_spec_plane.specs.Points.{Point, Edge, before, lies_on, same_point}
use Rattle.loc_spec_plane.specs.Tables.{cut_at, layer_corners, neighbour_edges}
use Rattle.loc_spec_valid.specs.Breaches.{feature_rings}
use Rattle.loc_laws_order.proofs.Kept.{rising_kept}
use Rattle.loc_laws_order.proofs.Sides.{before-asym_test, before-differ, same_point-true, same_point_refl}
use Rattle.loc_laws_noding.proofs.{Layers.any-corners, Layers.corners_rise, Pieces.member_kept}
use Rattle.loc_laws_valid.specs.Laws.{FewerPieces}
use Rattle.loc_laws_valid.proofs.OneRing.{all_segments, single}

-- a member of points
abbrev among : Point → List Point → Bool
among c ps = list_any (same_point c) ps

-- what comes before all points is none of them
not_behind : (c : Point) (ps : List Point) → list_all (before c) ps ≡ true → among c ps ≡ true → ⊥
not_behind c [] all here = true≢false (sym here)
not_behind c (p ∷ ps) all here =
    let parts = and_parts (before c p) (list_all (before c) ps) all in
    elim (or_cases (same_point c p) (among c ps) here) [
      | inl at ↦ both_ways (same_point c p) (before-differ c p parts.0) at
      | inr later ↦ not_behind c ps parts.1 later
    ]

-- a member behind a point comes after it
comes_after : (p c : Point) (ps : List Point) → list_all (before p) ps ≡ true → among c ps ≡ true → before p c ≡ true
comes_after p c [] all here = absurd (true≢false (sym here))
comes_after p c (q ∷ ps) all here =
    let parts = and_parts (before p q) (list_all (before p) ps) all in
    elim (or_cases (same_point c q) (among c ps) here) [
      | inl at ↦ subst (λ r. before p r ≡ true) (sym (same_point-true c q at)) parts.0
      | inr later ↦ comes_after p c ps parts.1 later
    ]

-- rising points that are among other rising points are no more than these
fewer : (xs ys : List Point) → is_rising before xs ≡ true → is_rising before ys ≡ true → ((c : Point) → among c xs ≡ true → among c ys ≡ true) → length xs ≤ length ys
fewer [] ys rx ry part = omega arith
fewer (x ∷ xs) [] rx ry part = absurd (true≢false (sym (part x (or_left (same_point x x) (among x xs) (same_point_refl x)))))
fewer (x ∷ xs) (y ∷ ys) rx ry part =
    let rise_x = and_parts (list_all (before x) xs) (is_rising before xs) rx in
    let rise_y = and_parts (list_all (before y) ys) (is_rising before ys) ry in
    elim (cases_Bool (same_point x y)) [
      | inl same ↦ (let is : x ≡ y = same_point-true x y same in
          let rest = fewer xs ys rise_x.1 rise_y.1 (λ c here. elim (or_cases (same_point c y) (among c ys) (part c (or_right (same_point c x) (among c xs) here))) [
            | inl at ↦ absurd (not_behind x xs rise_x.0 (subst (λ p. among p xs ≡ true) (same_point-true c y at ∙ sym is) here))
            | inr later ↦ later
          ]) in omega (arith, rest))
      | inr other ↦ (let behind : among x ys ≡ true = elim (or_cases (same_point x y) (among x ys) (part x (or_left (same_point x x) (among x xs) (same_point_refl x)))) [ inl at ↦ absurd (both_ways (same_point x y) other at) | inr later ↦ later ] in
          let first : before y x ≡ true = comes_after y x ys rise_y.0 behind in
          let rest = fewer (x ∷ xs) ys rx rise_y.1 (λ c here. elim (or_cases (same_point c y) (among c ys) (part c here)) [
            | inr later ↦ later
            | inl at ↦ absurd (elim (or_cases (same_point c x) (among c xs) here) [
              | inl at_x ↦ both_ways (same_point x y) other (subst (λ p. same_point p y ≡ true) (same_point-true c x at_x) at)
              | inr later ↦ both_ways (before y x) (before-asym_test x y (subst (λ p. before x p ≡ true) (same_point-true c y at) (comes_after x c xs rise_x.0 later))) first
            ])
          ]) in omega (arith, rest))
    ]

-- points have one neighbourhood less
neighbours : (ps : List Point) → length (neighbour_edges ps) ≡ length ps - 1
neighbours [] = refl
neighbours (p ∷ []) = omega arith
neighbours (p ∷ q ∷ ps) = let rest = neighbours (q ∷ ps) in omega (arith, rest)

module _ (cs ds : List Point) (rise_cs : is_rising before cs ≡ true) (rise_ds : is_rising before ds ≡ true) (part : (c : Point) → among c cs ≡ true → among c ds ≡ true) where
  -- a segment that is cut at fewer corners has fewer pieces
  fewer_pieces : (s : Edge) → length (cut_at cs s) ≤ length (cut_at ds s)
  fewer_pieces s =
      let less = fewer (filter (lies_on s) cs) (filter (lies_on s) ds) (rising_kept (lies_on s) before cs rise_cs) (rising_kept (lies_on s) before ds rise_ds)
      (λ c here. (let parts = and_parts (among c cs) (lies_on s c) (sym (member_kept (lies_on s) c cs) ∙ here) in member_kept (lies_on s) c ds ∙ ap₂ (λ a b. a && b) (part c parts.0) parts.1)) in
      omega (arith, less, neighbours (filter (lies_on s) cs), neighbours (filter (lies_on s) ds))

  fewer_of : (ss : List Edge) → length (flat_map (cut_at cs) ss) ≤ length (flat_map (cut_at ds) ss)
  fewer_of [] = omega arith
  fewer_of (s ∷ ss) = omega (arith, length-append (cut_at cs s) (flat_map (cut_at cs) ss), length-append (cut_at ds s) (flat_map (cut_at ds) ss), fewer_pieces s, fewer_of ss)

-- the segments of a polygon are some of those of the feature
own_part : (f : Edge → List Edge) (polygons : List Rings) (n : ℕ) → n < length polygons → length (flat_map f (segments (get_or polygons n []))) ≤ length (flat_map f (segments (feature_rings polygons)))
own_part f [] n lt = absurd (omega arith)
own_part f (rings ∷ polygons) zero lt =
    let all = ap (λ ss. length (flat_map f ss)) (flat_map-append ring_segments rings (feature_rings polygons)) in
    let split = ap length (flat_map-append f (segments rings) (segments (feature_rings polygons))) in
    omega (arith, all, split, length-append (flat_map f (segments rings)) (flat_map f (segments (feature_rings polygons))))
own_part f (rings ∷ polygons) (suc n) lt =
    let all = ap (λ ss. length (flat_map f ss)) (flat_map-append ring_segments rings (feature_rings polygons)) in
    let split = ap length (flat_map-append f (segments rings) (segments (feature_rings polygons))) in
    omega (arith, all, split, length-append (flat_map f (segments rings)) (flat_map f (segments (feature_rings polygons))), own_part f polygons n (omega arith))

any_part : (p : Edge → Bool) (polygons : List Rings) (n : ℕ) → list_any p (segments (get_or polygons n [])) ≡ true → list_any p (segments (feature_rings polygons)) ≡ true
any_part p [] n h = h
any_part p (rings ∷ polygons) zero h = ap (list_any p) (flat_map-append ring_segments rings (feature_rings polygons)) ∙ (list_any-append p (segments rings) (segments (feature_rings polygons)) ∙ or_left _ _ h)
any_part p (rings ∷ polygons) (suc n) h = ap (list_any p) (flat_map-append ring_segments rings (feature_rings polygons)) ∙ (list_any-append p (segments rings) (segments (feature_rings polygons)) ∙ or_right (list_any p (segments rings)) _ (any_part p polygons n h))

pub polygon_pieces : FewerPieces
polygon_pieces polygons n lt =
    let rings = get_or polygons n [] in
    let layer = map single (feature_rings polygons) in
    let own = ap (λ ss. length (flat_map (cut_at (layer_corners (rings ∷ []))) ss)) (append-nil (segments rings)) in
    let all = ap (λ ss. length (flat_map (cut_at (layer_corners layer)) ss)) (all_segments (feature_rings polygons)) in
    omega (arith, own, all, fewer_of (layer_corners (rings ∷ [])) (layer_corners layer) (corners_rise (rings ∷ [])) (corners_rise layer) corners (segments rings), own_part (cut_at (layer_corners layer)) polygons n lt)
  where
    corners : (c : Point) → among c (layer_corners (get_or polygons n [] ∷ [])) ≡ true → among c (layer_corners (map single (feature_rings polygons))) ≡ true
    corners c here =
        let test : Edge → Bool = λ (s : Edge). same_point c s.lo || same_point c s.hi in
        any-corners (same_point c) (map single (feature_rings polygons)) ∙ (ap (list_any test) (all_segments (feature_rings polygons))
        ∙ any_part test polygons n (sym (any-corners (same_point c) (get_or polygons n [] ∷ []) ∙ ap (list_any test) (append-nil (segments (get_or polygons n [])))) ∙ here))
