-- The line that refuses a feature comes exactly where its pieces or its cover lists are past a limit.
use Rattle.std.proofs.Common.{◌≡◌, ℕ, ◌+◌, ◌<◌, Bool, true, false, ◌&&◌, List, [], ◌∷◌, ◌++◌, length, get_or, map, take, Option, Some, None, refl, sym, ◌∙◌, ap, inl, inr, arith}
use Rattle.std.specs.Prelude.{find, nat_lt, if◌then◌else◌}
use Rattle.std.specs.Option.{is_none}
use Rattle.std.proofs.lemmas.Bool.{and_from, and_parts, cond-true, cases_lt, cond-false, false_from_ne_true}
use Rattle.std.proofs.{lemmas.Bool.Decides.Decides-ltb, lemmas.List.take_more}
use Rattle.loc_spec_plane.specs.{Covers.cover_sum, Rings.Rings}
use Rattle.loc_spec_plane.specs.Tables.{corner_numbers, edge_numbers, piece_count}
use Rattle.loc_spec_text.specs.{Bytes.Text, Bytes.or_else, Limits.most_members, Limits.most_pieces}
use Rattle.loc_spec_valid.specs.Breaches.{feature_rings, first_pair, first_point_ring, is_pinch, is_twice, ring_numbers, ring_table}
use Rattle.loc_laws_valid.specs.Laws.{NonePinched, NoneTwice}
use Rattle.loc_rings.specs.Values.{Feature}
use Rattle.loc_valid.specs.Judged.{HasFewPieces, HasManyCovers, HasManyPieces, IsUnpinched}
use Rattle.loc_maps.specs.LineTexts.{covers_text, pieces_text}
use Rattle.loc_breaches.specs.BreachCourses.{crossings, first_refusal, has_many_covers_of, has_many_pieces_of, is_empty, is_unpinched, refusal_of}
use Rattle.loc_breaches.proofs.Members.{among_range, no_pair, none_found, none_passes, pair_none, range_among}
use Rattle.loc_breaches.proofs.Said.{no_crossings, none_crosses}

-- a test of none, and of an empty list
none_is : {A : Type 0} (o : Option A) → is_none o ≡ true → o ≡ None
none_is None is = refl
none_is (Some x) is = absurd (cc is)

empty_is : {A : Type 0} (xs : List A) → is_empty xs ≡ true → xs ≡ []
empty_is [] is = refl
empty_is (x ∷ xs) is = absurd (cc is)

module _ (polygons : List Rings) where
  abbrev count : ℕ
  count = piece_count (map (λ ring. ring ∷ []) (feature_rings polygons))

  abbrev first_twice : Option ℕ
  first_twice = find (is_twice polygons (ring_table polygons)) (edge_numbers (ring_table polygons))

  abbrev first_pinch : Option (ℕ × ℕ)
  first_pinch = first_pair (is_pinch polygons (ring_table polygons)) (ring_numbers polygons) (corner_numbers (ring_table polygons))

  -- ---- pieces
  pieces_test : HasManyPieces polygons → has_many_pieces_of polygons ≡ true
  pieces_test many = and_from (is_none (first_point_ring polygons)) (nat_lt most_pieces count) (ap is_none many.segments) ((Decides-ltb most_pieces count).1 many.many)

  test_pieces : has_many_pieces_of polygons ≡ true → HasManyPieces polygons
  test_pieces passes =
      let two = and_parts (is_none (first_point_ring polygons)) (nat_lt most_pieces count) passes in
      record { segments = none_is (first_point_ring polygons) two.0; many = (Decides-ltb most_pieces count).0 two.1 }

  few_test : HasFewPieces polygons → has_many_pieces_of polygons ≡ false
  few_test few = false_from_ne_true (has_many_pieces_of polygons) (λ passes. (let many = (test_pieces passes).many in omega (arith, many, few)))

  -- ---- the first four breaches
  once : NoneTwice polygons → first_twice ≡ None
  once none = none_found (is_twice polygons (ring_table polygons)) (edge_numbers (ring_table polygons)) (λ e at. none e (omega (arith, (range_among 0 (length (ring_table polygons).ends) e at).1)))

  once_back : first_twice ≡ None → NoneTwice polygons
  once_back none e fits = none_passes (is_twice polygons (ring_table polygons)) (edge_numbers (ring_table polygons)) none e (among_range 0 (length (ring_table polygons).ends) e (omega arith) (omega (arith, fits)))

  apart : NonePinched polygons → first_pinch ≡ None
  apart none = no_pair (is_pinch polygons (ring_table polygons)) (ring_numbers polygons) (corner_numbers (ring_table polygons))
      (λ r c at own. none r c (omega (arith, (range_among 0 (length (feature_rings polygons)) r at).1)) (omega (arith, (range_among 0 (length (ring_table polygons).corners) c own).1)))

  apart_back : first_pinch ≡ None → NonePinched polygons
  apart_back none r c r_fits c_fits = pair_none (is_pinch polygons (ring_table polygons)) (ring_numbers polygons) (corner_numbers (ring_table polygons)) none r c
      (among_range 0 (length (feature_rings polygons)) r (omega arith) (omega (arith, r_fits))) (among_range 0 (length (ring_table polygons).corners) c (omega arith) (omega (arith, c_fits)))

  abbrev calm : Bool
  calm = is_none (first_point_ring polygons) && is_empty (crossings polygons)

  abbrev single : Bool
  single = is_none first_twice && is_none first_pinch

  unpinched_test : IsUnpinched polygons → is_unpinched polygons ≡ true
  unpinched_test u = and_from calm single (and_from (is_none (first_point_ring polygons)) (is_empty (crossings polygons)) (ap is_none u.segments) (ap is_empty (no_crossings polygons u.uncrossed)))
      (and_from (is_none first_twice) (is_none first_pinch) (ap is_none (once u.once)) (ap is_none (apart u.unpinched)))

  test_unpinched : is_unpinched polygons ≡ true → IsUnpinched polygons
  test_unpinched passes =
      let halves = and_parts calm single passes in
      let front = and_parts (is_none (first_point_ring polygons)) (is_empty (crossings polygons)) halves.0 in
      let back = and_parts (is_none first_twice) (is_none first_pinch) halves.1 in
      record {
        segments = none_is (first_point_ring polygons) front.0;
        uncrossed = none_crosses polygons (empty_is (crossings polygons) front.1);
        once = once_back (none_is first_twice back.0);
        unpinched = apart_back (none_is first_pinch back.1);
      }

  -- ---- cover lists
  covers_test : HasManyCovers polygons → has_many_covers_of polygons ≡ true
  covers_test many = and_from (is_unpinched polygons) (nat_lt most_members (cover_sum (ring_table polygons))) (unpinched_test many.unpinched) ((Decides-ltb most_members (cover_sum (ring_table polygons))).1 many.many)

  test_covers : has_many_pieces_of polygons ≡ false → has_many_covers_of polygons ≡ true → HasManyCovers polygons
  test_covers few passes =
      let two = and_parts (is_unpinched polygons) (nat_lt most_members (cover_sum (ring_table polygons))) passes in
      let own = test_unpinched two.0 in
      record {
        unpinched = own;
        few_pieces = elim (cases_lt most_pieces count) [
          | inl many ↦ absurd (let is = pieces_test (record { segments = own.segments; many = many }) in cc (is, few))
          | inr less ↦ less
        ];
        many = (Decides-ltb most_members (cover_sum (ring_table polygons))).0 two.1;
      }

  -- ---- the line
  pub pieces_refused : HasManyPieces polygons → refusal_of polygons ≡ Some pieces_text
  unfolding refusal_of
  pieces_refused many = cond-true (has_many_pieces_of polygons) (Some pieces_text) (if has_many_covers_of polygons then Some covers_text else None) (pieces_test many)

  pub covers_refused : HasManyCovers polygons → refusal_of polygons ≡ Some covers_text
  unfolding refusal_of
  covers_refused many =
      cond-false (has_many_pieces_of polygons) (Some pieces_text) (if has_many_covers_of polygons then Some covers_text else None) (few_test many.few_pieces)
      ∙ cond-true (has_many_covers_of polygons) (Some covers_text) None (covers_test many)

  pub not_refused : (HasManyPieces polygons → ⊥) → (HasManyCovers polygons → ⊥) → refusal_of polygons ≡ None
  unfolding refusal_of
  not_refused few short =
      let less = false_from_ne_true (has_many_pieces_of polygons) (λ passes. few (test_pieces passes)) in
      cond-false (has_many_pieces_of polygons) (Some pieces_text) (if has_many_covers_of polygons then Some covers_text else None) less
      ∙ cond-false (has_many_covers_of polygons) (Some covers_text) None (false_from_ne_true (has_many_covers_of polygons) (λ passes. short (test_covers less passes)))

  pub few_pieces : refusal_of polygons ≡ None → HasManyPieces polygons → ⊥
  few_pieces none many = let is = pieces_refused many in cc (is, none)

  pub few_covers : refusal_of polygons ≡ None → HasManyCovers polygons → ⊥
  few_covers none many = let is = covers_refused many in cc (is, none)

-- ---- the first refusal of a layer
pub refused_first : (before behind : List Feature) (feature : Feature) (line : Text) → first_refusal before ≡ None → refusal_of feature.polygons ≡ Some line → first_refusal (before ++ feature ∷ behind) ≡ Some line
refused_first [] behind feature line none is = ap (λ (o : Option Text). or_else o (first_refusal behind)) is
refused_first (f ∷ fs) behind feature line none is = by (refusal_of f.polygons) none (refused_first fs behind feature line)
  where
    by : (own : Option Text) → or_else own (first_refusal fs) ≡ None → (first_refusal fs ≡ None → refusal_of feature.polygons ≡ Some line → first_refusal (fs ++ feature ∷ behind) ≡ Some line) → or_else own (first_refusal (fs ++ feature ∷ behind)) ≡ Some line
    by None rest more = more rest is
    by (Some other) rest more = absurd (cc rest)

pub refused_more : (fs : List Feature) (feature : Feature) → first_refusal fs ≡ None → refusal_of feature.polygons ≡ None → first_refusal (fs ++ feature ∷ []) ≡ None
refused_more [] feature none is = ap (λ (o : Option Text). or_else o None) is
refused_more (f ∷ fs) feature none is = by (refusal_of f.polygons) none (refused_more fs feature)
  where
    by : (own : Option Text) → or_else own (first_refusal fs) ≡ None → (first_refusal fs ≡ None → refusal_of feature.polygons ≡ None → first_refusal (fs ++ feature ∷ []) ≡ None) → or_else own (first_refusal (fs ++ feature ∷ [])) ≡ None
    by None rest more = more rest is
    by (Some other) rest more = absurd (cc rest)

pub refused_none : (items : List Feature) (i : ℕ) (feature : Feature) → i < length items → feature ≡ get_or items i feature → refusal_of feature.polygons ≡ None → first_refusal (take i items) ≡ None → first_refusal (take (i + 1) items) ≡ None
refused_none items i feature fits at is none =
    ap first_refusal (take_more items i feature fits ∙ ap (λ (f : Feature). take i items ++ f ∷ []) (sym at)) ∙ refused_more (take i items) feature none is
