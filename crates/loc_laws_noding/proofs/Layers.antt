-- The segments of a layer go up between its corners, and what the pieces of a feature's segments have, the segments have.
use Rattle.std.proofs.Common.{◌≡◌, ℕ, zero, suc, Bool, true, false, ◌||◌, List, [], ◌∷◌, get_or, refl, sym, ◌∙◌, ap, inl, inr}
use Rattle.std.specs.List.{list_any, list_all, flat_map}
use Rattle.std.proofs.lemmas.Bool.{and_parts, and_from, or_left, or_right, cases_Bool, cond-true, cond-false}
use Rattle.std.proofs.lemmas.List.Folds.{list_any-append, list_all-append}
use Rattle.loc_spec_plane.specs.Points.{Point, Edge, before, same_point, lies_on}
use Rattle.loc_spec_plane.specs.{Lists.exactly_one, Lists.odd_many, Lists.is_rising, Rays.crosses_right}
use Rattle.loc_spec_plane.specs.Rings.{Ring, Rings, ring_segments, segments, segment_between, touches}
use Rattle.loc_spec_plane.specs.Tables.{layer_segments, layer_corners, cut_at}
use Rattle.loc_laws_order.proofs.{Booleans.or_assoc, Sides.before_either, Sides.same_point_refl}
use Rattle.loc_laws_rays.proofs.Parity.{odd_many-append}
use Rattle.loc_laws_order.specs.Numbered.{has_ends}
use Rattle.loc_laws_noding.specs.Laws.{IsCutting, ends_of, goes_up, is_good}
use Rattle.loc_laws_noding.proofs.{Pieces.pieces_cut, Orders.points_by_before}
use Rattle.loc_laws_noding.proofs.SortedSet.{any-sorted_set, rising-sorted_set}

-- ---- segments go up
pub between_up : (a b : Point) → same_point a b ≡ false → goes_up (segment_between a b) ≡ true
between_up a b other = elim (cases_Bool (before a b)) [
  | inl up ↦ ap goes_up (cond-true (before a b) _ _ up) ∙ up
  | inr down ↦ ap goes_up (cond-false (before a b) _ _ down) ∙ before_either a b other down
]

ring_up : (ring : Ring) → list_all goes_up (ring_segments ring) ≡ true
ring_up [] = refl
ring_up (a ∷ []) = refl
ring_up (a ∷ b ∷ ps) = elim (cases_Bool (same_point a b)) [
  | inl same ↦ ap (list_all goes_up) (cond-true (same_point a b) _ _ same) ∙ ring_up (b ∷ ps)
  | inr other ↦ ap (list_all goes_up) (cond-false (same_point a b) _ _ other) ∙ and_from _ _ (between_up a b other) (ring_up (b ∷ ps))
]

parts_up : {X : Type 0} (f : X → List Edge) → ((x : X) → list_all goes_up (f x) ≡ true) → (xs : List X) → list_all goes_up (flat_map f xs) ≡ true
parts_up f each [] = refl
parts_up f each (x ∷ xs) = list_all-append goes_up (f x) (flat_map f xs) ∙ and_from _ _ (each x) (parts_up f each xs)

layer_up : (layer : List Rings) → list_all goes_up (layer_segments layer) ≡ true
layer_up = parts_up segments (parts_up ring_segments ring_up)

-- ---- between corners
-- some end passes where some edge has an end that passes
pub any-ends_of : (test : Point → Bool) (es : List Edge) → list_any test (ends_of es) ≡ list_any (λ (e : Edge). test e.lo || test e.hi) es
any-ends_of test [] = refl
any-ends_of test (e ∷ es) = ap (λ b. test e.lo || (test e.hi || b)) (any-ends_of test es) ∙ or_assoc (test e.lo) (test e.hi) (list_any (λ (e : Edge). test e.lo || test e.hi) es)

-- the corners are the ends of the segments
pub any-corners : (test : Point → Bool) (layer : List Rings) → list_any test (layer_corners layer) ≡ list_any (λ (s : Edge). test s.lo || test s.hi) (layer_segments layer)
any-corners test layer = any-sorted_set points_by_before test (ends_of (layer_segments layer)) ∙ any-ends_of test (layer_segments layer)

-- corners rise
pub corners_rise : (layer : List Rings) → is_rising before (layer_corners layer) ≡ true
corners_rise layer = rising-sorted_set points_by_before (ends_of (layer_segments layer))

-- ends of edges of the list are ends of edges of the whole list
ends_found : (corners : List Point) (es : List Edge) → ((test : Point → Bool) → list_any (λ (e : Edge). test e.lo || test e.hi) es ≡ true → list_any test corners ≡ true) → list_all goes_up es ≡ true → list_all (is_good corners) es ≡ true
ends_found corners [] found up = refl
ends_found corners (e ∷ es) found up =
    let parts = and_parts (goes_up e) (list_all goes_up es) up in
    let low = found (same_point e.lo) (or_left (same_point e.lo e.lo || same_point e.lo e.hi) _ (or_left (same_point e.lo e.lo) _ (same_point_refl e.lo))) in
    let high = found (same_point e.hi) (or_left (same_point e.hi e.lo || same_point e.hi e.hi) _ (or_right (same_point e.hi e.lo) _ (same_point_refl e.hi))) in
    and_from _ _ (and_from _ _ parts.0 (and_from _ _ low high)) (ends_found corners es (λ test h. found test (or_right (test e.lo || test e.hi) _ h)) parts.1)

-- all segments of a layer are between its corners
pub layer_good : (layer : List Rings) → list_all (is_good (layer_corners layer)) (layer_segments layer) ≡ true
layer_good layer = ends_found (layer_corners layer) (layer_segments layer) (λ test h. any-corners test layer ∙ h) (layer_up layer)

-- so are those of a feature
pub feature_part : (p : Edge → Bool) (layer : List Rings) (f : ℕ) → list_all p (layer_segments layer) ≡ true → list_all p (segments (get_or layer f [])) ≡ true
feature_part p [] f h = refl
feature_part p (r ∷ rs) zero h = (and_parts (list_all p (segments r)) (list_all p (layer_segments rs)) (sym (list_all-append p (segments r) (layer_segments rs)) ∙ h)).0
feature_part p (r ∷ rs) (suc f) h = feature_part p rs f (and_parts (list_all p (segments r)) (list_all p (layer_segments rs)) (sym (list_all-append p (segments r) (layer_segments rs)) ∙ h)).1

-- ---- cuts of segments
-- cutting at the corners is one
pub cutting_at : (corners : List Point) → is_rising before corners ≡ true → IsCutting corners (cut_at corners)
cutting_at corners rise s good =
    let parts = and_parts (goes_up s) (has_ends corners s) good in
    let ends = and_parts (list_any (same_point s.lo) corners) (list_any (same_point s.hi) corners) parts.1 in
    pieces_cut corners rise s parts.0 ends.0 ends.1

-- what the pieces have, the segments have
module _ (good : Edge → Bool) (cut : Edge → List Edge) where
  pub any_pieces : (f g : Edge → Bool) → ((s : Edge) → good s ≡ true → list_any f (cut s) ≡ g s) → (ss : List Edge) → list_all good ss ≡ true → list_any f (flat_map cut ss) ≡ list_any g ss
  any_pieces f g same [] all = refl
  any_pieces f g same (s ∷ ss) all =
      let parts = and_parts (good s) (list_all good ss) all in
      list_any-append f (cut s) (flat_map cut ss) ∙ (ap (λ t. t || list_any f (flat_map cut ss)) (same s parts.0) ∙ ap (λ t. g s || t) (any_pieces f g same ss parts.1))

  pub odd_pieces : (f g : Edge → Bool) → ((s : Edge) → good s ≡ true → odd_many f (cut s) ≡ g s) → (ss : List Edge) → list_all good ss ≡ true → odd_many f (flat_map cut ss) ≡ odd_many g ss
  odd_pieces f g same [] all = refl
  odd_pieces f g same (s ∷ ss) all =
      let parts = and_parts (good s) (list_all good ss) all in
      odd_many-append f (cut s) (flat_map cut ss) ∙ (ap (λ t. exactly_one t (odd_many f (flat_map cut ss))) (same s parts.0) ∙ ap (exactly_one (g s)) (odd_pieces f g same ss parts.1))

  pub all_pieces : (f : Edge → Bool) → ((s : Edge) → good s ≡ true → list_all f (cut s) ≡ true) → (ss : List Edge) → list_all good ss ≡ true → list_all f (flat_map cut ss) ≡ true
  all_pieces f each [] all = refl
  all_pieces f each (s ∷ ss) all =
      let parts = and_parts (good s) (list_all good ss) all in
      list_all-append f (cut s) (flat_map cut ss) ∙ and_from _ _ (each s parts.0) (all_pieces f each ss parts.1)

-- rings touch what their pieces touch, and cover what these cover
module _ (corners : List Point) (cut : Edge → List Edge) (cuts : IsCutting corners cut) (rings : Rings) (all : list_all (is_good corners) (segments rings) ≡ true) (p : Point) where
  pub touches_pieces : touches rings p ≡ list_any (λ e. lies_on e p) (flat_map cut (segments rings))
  touches_pieces = sym (any_pieces (is_good corners) cut (λ e. lies_on e p) (λ s. lies_on s p) (λ s good. (cuts s good).touched p) (segments rings) all)

  pub crosses_pieces : odd_many (λ s. crosses_right s p) (segments rings) ≡ odd_many (λ e. crosses_right e p) (flat_map cut (segments rings))
  crosses_pieces = sym (odd_pieces (is_good corners) cut (λ e. crosses_right e p) (λ s. crosses_right s p) (λ s good. (cuts s good).crossed p) (segments rings) all)
