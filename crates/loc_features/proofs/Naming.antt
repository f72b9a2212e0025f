-- Members of a list that are named while it is gone through: boxes about features with some numbers of a layer.
use Rattle.std.proofs.Common.{◌≡◌, ℕ, zero, suc, ◌+◌, ◌-◌, ◌<◌, ◌≤◌, Bool, true, false, not, ◌&&◌, List, [], ◌∷◌, ◌++◌, length, map, filter, take, get_or, refl, sym, ◌∙◌, ap, subst, arith, append-nil, append_assoc, cond, length-append, length-take, inl, inr}
use Rattle.std.specs.Prelude.{◌==◌, Option, Some, None, sum_by}
use Rattle.std.specs.List.{list_any, range_with_len}
use Rattle.std.proofs.lemmas.Bool.{cases_Bool, cond-true, cond-false, eqb-true, true≢false}
use Rattle.std.proofs.lemmas.List.{length-map, map-append, take-take, take_all, take_more}
use Rattle.std.proofs.{lemmas.List.Elements.filter-append, lemmas.List.FromFn.length-range_with_len}
use Rattle.std.proofs.lemmas.List.Filters.{sum_by-filter_both}
use Rattle.std.proofs.lemmas.List.Sorted.{length_permutation, list_any-IsPermutation, sum_by-IsPermutation}
use Rattle.std.proofs.lemmas.Simd.{map-map}
use Rattle.std.proofs.lemmas.List.Sums.{sum_by-cons, sum_by-take-le, sum_by_more}
use Rattle.loc_spec_plane.specs.{Lists.is_in, Lists.numbers, Lists.odd_many, Rays.crosses_right}
use Rattle.loc_spec_plane.specs.{Points.Edge, Points.Point, Points.lies_on, Tables.layer_segments}
use Rattle.loc_spec_plane.specs.Rings.{Rings, segments, touches, covers}
use Rattle.loc_laws_order.proofs.{Kept.is_in-filter, Sets.any_weaker}
use Rattle.loc_laws_rays.proofs.Picked.{member_any}
use Rattle.loc_laws_any.specs.Unions.{part_of, passing}
use Rattle.loc_laws_any.proofs.Joining.{part_answers}
use Rattle.loc_cover.proofs.Lexicographic.{any_map}
use Rattle.loc_batch.specs.Lists.{ListsState}
use Rattle.loc_spans.specs.{Around.is_some, Parity.IsAnswer}
use Rattle.loc_spans.specs.Boxes.{BoxedState, IsBoxed, IsIdle, Kept, feature_of, has_segments, rings_at}
use Rattle.loc_features.specs.Gathered.{NamesAll, noted, number_of, segment_count, segments_at}

pub few_kept : {X : Type 0} (test : X → Bool) (xs : List X) → length (filter test xs) ≤ length xs
few_kept test [] = omega arith
few_kept test (x ∷ xs) = by (test x) (few_kept test xs)
  where
    by : (b : Bool) → length (filter test xs) ≤ length xs → length (cond b (x ∷ filter test xs) (filter test xs)) ≤ length (x ∷ xs)
    by true less = omega (arith, less)
    by false less = omega (arith, less)

-- a box at a point, for places past the end
abbrev pub none_at : Point → Kept
none_at p = (record { lo = p; hi = p }, record { low = p; high = p; feature = 0 })

module _ {X : Type 0} (test : X → Bool) (name : X → ℕ) (xs : List X) where
  abbrev named : ℕ → List ℕ
  named n = map name (filter test (take n xs))

  one_on : (n : ℕ) (d : X) → n < length xs → named (n + 1) ≡ named n ++ map name (filter test (get_or xs n d ∷ []))
  one_on n d lt = ap (λ ys. map name (filter test ys)) (take_more xs n d lt) ∙ (ap (map name) (filter-append test (take n xs) (get_or xs n d ∷ [])) ∙ map-append name (filter test (take n xs)) (filter test (get_or xs n d ∷ [])))

  -- one that passes, and one that does not
  pub passes : (n : ℕ) (d : X) → n < length xs → test (get_or xs n d) ≡ true → named (n + 1) ≡ named n ++ name (get_or xs n d) ∷ []
  passes n d lt yes_x = one_on n d lt ∙ ap (λ ys. named n ++ map name ys) (cond-true _ _ _ yes_x)

  pub fails : (n : ℕ) (d : X) → n < length xs → test (get_or xs n d) ≡ false → named (n + 1) ≡ named n
  fails n d lt no_x = one_on n d lt ∙ (ap (λ ys. named n ++ map name ys) (cond-false _ _ _ no_x) ∙ append-nil (named n))

  -- so many that do not
  pub skips : (n k : ℕ) (d : X) → n + k ≤ length xs → ((i : ℕ) → n ≤ i → i < n + k → test (get_or xs i d) ≡ false) → named (n + k) ≡ named n
  skips n zero d fits none = ap named (let same : n + 0 ≡ n = omega arith in same)
  skips n (suc k) d fits none =
      let next : n + suc k ≡ (n + k) + 1 = omega arith in
      ap named next ∙ (fails (n + k) d (omega (arith, fits)) (none (n + k) (omega arith) (omega arith)) ∙ skips n k d (omega (arith, fits)) (λ i le lt. none i le (omega (arith, lt))))

  pub few_named : (n : ℕ) → n ≤ length xs → length (named n) ≤ n
  few_named n le = let less = few_kept test (take n xs) in omega (arith, less, length-map (filter test (take n xs)) name, length-take n xs)

sum_map : {X : Type 0} (w : ℕ → ℕ) (f : X → ℕ) (xs : List X) → sum_by (λ x. w (f x)) xs ≡ sum_by w (map f xs)
sum_map w f [] = refl
sum_map w f (x ∷ xs) = sum_by-cons (λ y. w (f y)) x xs ∙ (ap (λ n. w (f x) + n) (sum_map w f xs) ∙ sym (sum_by-cons w (f x) (map f xs)))

-- there are no more boxes than features
pub few_boxes : (layer : List Rings) (b : BoxedState) → IsBoxed layer b → length b.boxes ≤ length layer
few_boxes layer b is =
    let less = few_kept (has_segments layer) (numbers (length layer)) in
    omega (arith, less, length-range_with_len 0 (length layer), length_permutation _ _ is.named, length-map b.boxes feature_of)

-- what touches a point does not cover it
not_covered : (rings : Rings) (p : Point) → touches rings p ≡ true → covers rings p ≡ false
not_covered rings p on = ap (λ t. not t && odd_many (λ s. crosses_right s p) (segments rings)) on

module _ (part : List Rings) (b : BoxedState) (ns : List ℕ) (p : Point) (before : ListsState) where
  -- at first
  pub names_none : NamesAll part b ns p 0 before before
  names_none = record { touching = sym (append-nil before.touching); covering = sym (append-nil before.covering) }

  -- up to the next box
  pub names_up_to : (from to : ℕ) (d : Kept) (l : ListsState) → NamesAll part b ns p from before l → from ≤ to → to ≤ length b.boxes → IsIdle part b.boxes p from to → NamesAll part b ns p to before l
  names_up_to from to d l names le fits idle =
      let same : from + (to - from) ≡ to = omega arith in
      subst (λ n. NamesAll part b ns p n before l) same (record {
        touching = names.touching ∙ ap (λ ms. before.touching ++ ms) (sym (skips (λ box. touches (rings_at part box) p) (number_of ns) b.boxes from (to - from) d (omega (arith, le, fits)) (λ i low lt. (idle i d low (omega (arith, lt, le)) (omega (arith, lt, le, fits))).0)));
        covering = names.covering ∙ ap (λ ms. before.covering ++ ms) (sym (skips (λ box. covers (rings_at part box) p) (number_of ns) b.boxes from (to - from) d (omega (arith, le, fits)) (λ i low lt. (idle i d low (omega (arith, lt, le)) (omega (arith, lt, le, fits))).1)));
      })

  -- a member behind others, where a list before them stands in front
  behind : (xs named more : List ℕ) (f g : ℕ) → f ≡ g → more ≡ named ++ g ∷ [] → (xs ++ named) ++ f ∷ [] ≡ xs ++ more
  behind xs named more f g same is = append_assoc xs named (f ∷ []) ∙ ap (λ ms. xs ++ ms) (ap (λ n. named ++ n ∷ []) same ∙ sym is)

  -- and that box, by its answer
  pub names_more : (k f : ℕ) (d : Kept) (l : ListsState) (parity : Option Bool) → NamesAll part b ns p k before l → k < length b.boxes → f ≡ number_of ns (get_or b.boxes k d) → IsAnswer (rings_at part (get_or b.boxes k d)) p parity
      → NamesAll part b ns p (k + 1) before (noted l f parity)
  names_more k f d l None names lt is on = record {
    touching = ap (λ ms. ms ++ f ∷ []) names.touching ∙ behind before.touching _ _ f (number_of ns (get_or b.boxes k d)) is (passes (λ box. touches (rings_at part box) p) (number_of ns) b.boxes k d lt on);
    covering = names.covering ∙ ap (λ ms. before.covering ++ ms) (sym (fails (λ box. covers (rings_at part box) p) (number_of ns) b.boxes k d lt (not_covered (rings_at part (get_or b.boxes k d)) p on)));
  }
  names_more k f d l (Some true) names lt is inside = record {
    touching = names.touching ∙ ap (λ ms. before.touching ++ ms) (sym (fails (λ box. touches (rings_at part box) p) (number_of ns) b.boxes k d lt inside.0));
    covering = ap (λ ms. ms ++ f ∷ []) names.covering ∙ behind before.covering _ _ f (number_of ns (get_or b.boxes k d)) is (passes (λ box. covers (rings_at part box) p) (number_of ns) b.boxes k d lt inside.1);
  }
  names_more k f d l (Some false) names lt is outside = record {
    touching = names.touching ∙ ap (λ ms. before.touching ++ ms) (sym (fails (λ box. touches (rings_at part box) p) (number_of ns) b.boxes k d lt outside.0));
    covering = names.covering ∙ ap (λ ms. before.covering ++ ms) (sym (fails (λ box. covers (rings_at part box) p) (number_of ns) b.boxes k d lt outside.1));
  }

-- the segments of the boxes up to a further one
pub counted_more : (b : BoxedState) (from k f : ℕ) (d : Kept) → from ≤ k → k < length b.boxes → f ≡ feature_of (get_or b.boxes k d)
    → sum_by (segment_count b) (take from b.boxes) + length (get_or b.segments f []) ≤ sum_by (segment_count b) (take (k + 1) b.boxes)
counted_more b from k f d le lt is =
    let own = ap (λ n. length (get_or b.segments n [])) is in
    let front = ap (sum_by (segment_count b)) (take-take from k b.boxes le) in
    omega (arith, own, front, sum_by_more (segment_count b) b.boxes k d lt, sum_by-take-le (segment_count b) (take k b.boxes) from)

-- ---- the features that are named are those of the layer that pass
no_segments : (ss : List Edge) → is_some ss ≡ false → ss ≡ []
no_segments [] none = refl
no_segments (s ∷ ss) none = absurd (cc none)

-- what has no segments neither touches nor covers a point
pub none_touch : (p : Point) (rings : Rings) → is_some (segments rings) ≡ false → touches rings p ≡ false
none_touch p rings none = ap (λ ss. list_any (λ s. lies_on s p) ss) (no_segments (segments rings) none)

pub none_cover : (p : Point) (rings : Rings) → is_some (segments rings) ≡ false → covers rings p ≡ false
none_cover p rings none = ap (λ ss. not (list_any (λ s. lies_on s p) ss) && odd_many (λ s. crosses_right s p) ss) (no_segments (segments rings) none)

filter_map : {X Y : Type 0} (test : Y → Bool) (f : X → Y) (xs : List X) → map f (filter (λ x. test (f x)) xs) ≡ filter test (map f xs)
filter_map test f [] = refl
filter_map test f (x ∷ xs) = by (test (f x)) (filter_map test f xs)
  where
    by : (b : Bool) → map f (filter (λ x. test (f x)) xs) ≡ filter test (map f xs) → map f (cond b (x ∷ filter (λ x. test (f x)) xs) (filter (λ x. test (f x)) xs)) ≡ cond b (f x ∷ filter test (map f xs)) (filter test (map f xs))
    by true same = ap (λ ys. f x ∷ ys) same
    by false same = same

-- what is kept of the members that pass anyway
and_kept : (a has passes : Bool) → (has ≡ false → passes ≡ false) → ((a && has) && passes) ≡ (a && passes)
and_kept false has passes left = refl
and_kept true true passes left = refl
and_kept true false passes left = sym (left refl)

module _ (test : Rings → Bool) (none : (rings : Rings) → is_some (segments rings) ≡ false → test rings ≡ false) (layer : List Rings) (b : BoxedState) (is : IsBoxed layer b) where
  abbrev passes_at : ℕ → Bool
  passes_at f = test (get_or layer f [])

  alike : (n : ℕ) → is_in n (map feature_of (filter (λ box. test (rings_at layer box)) (take (length b.boxes) b.boxes))) ≡ is_in n (passing test layer)
  alike n =
      ap (λ boxes. is_in n (map feature_of (filter (λ box. test (rings_at layer box)) boxes))) (take_all (length b.boxes) b.boxes (omega arith))
      ∙ (ap (is_in n) (filter_map passes_at feature_of b.boxes)
      ∙ (is_in-filter passes_at n (map feature_of b.boxes)
      ∙ (ap (λ c. c && passes_at n) (sym (list_any-IsPermutation (λ m. m == n) (filter (has_segments layer) (numbers (length layer))) (map feature_of b.boxes) is.named) ∙ is_in-filter (has_segments layer) n (numbers (length layer)))
      ∙ (and_kept (is_in n (numbers (length layer))) (has_segments layer n) (passes_at n) (none (get_or layer n [])) ∙ sym (is_in-filter passes_at n (numbers (length layer)))))))

-- what some member of a list passes, some member of one with the same members passes
members_pass : (p : ℕ → Bool) (xs ys : List ℕ) → ((k : ℕ) → is_in k xs ≡ is_in k ys) → list_any p xs ≡ true → list_any p ys ≡ true
members_pass p xs ys alike some =
    let found = member_any p xs some in
    any_weaker (λ m. m == found.0) p (λ m same. ap p (eqb-true m found.0 same) ∙ found.2) ys (sym (alike found.0) ∙ found.1)

any_alike : (p : ℕ → Bool) (xs ys : List ℕ) → ((k : ℕ) → is_in k xs ≡ is_in k ys) → list_any p xs ≡ list_any p ys
any_alike p xs ys alike = elim (cases_Bool (list_any p xs)) [
  | inl some ↦ some ∙ sym (members_pass p xs ys alike some)
  | inr none ↦ none ∙ sym (elim (cases_Bool (list_any p ys)) [
    | inl some ↦ absurd (true≢false (sym (members_pass p ys xs (λ k. sym (alike k)) some) ∙ none))
    | inr none_too ↦ none_too
  ])
]

-- lists with the same members have the same images
alike_map : (g : ℕ → ℕ) (n : ℕ) (xs ys : List ℕ) → ((k : ℕ) → is_in k xs ≡ is_in k ys) → is_in n (map g xs) ≡ is_in n (map g ys)
alike_map g n xs ys alike = any_map (λ m. m == n) g xs ∙ (any_alike (λ k. g k == n) xs ys alike ∙ sym (any_map (λ m. m == n) g ys))

-- by their numbers in the layer these are the features of the part that pass
pub numbered : (test : Rings → Bool) (none : (rings : Rings) → is_some (segments rings) ≡ false → test rings ≡ false) (layer : List Rings) (ns : List ℕ) (b : BoxedState) → IsBoxed (part_of ns layer) b → (n : ℕ)
    → is_in n (map (number_of ns) (filter (λ box. test (rings_at (part_of ns layer) box)) (take (length b.boxes) b.boxes))) ≡ (is_in n ns && test (get_or layer n []))
numbered test none layer ns b is n =
    let named : List Kept = filter (λ box. test (rings_at (part_of ns layer) box)) (take (length b.boxes) b.boxes) in
    ap (is_in n) (sym (map-map (λ k. get_or ns k 0) feature_of named))
    ∙ (alike_map (λ k. get_or ns k 0) n (map feature_of named) (passing test (part_of ns layer)) (alike test none (part_of ns layer) b is)
    ∙ (ap (is_in n) (part_answers test layer ns) ∙ is_in-filter (λ m. test (get_or layer m [])) n ns))

-- and no more than there are numbers
pub few_numbered : (test : Kept → Bool) (layer : List Rings) (ns : List ℕ) (b : BoxedState) → IsBoxed (part_of ns layer) b → length (map (number_of ns) (filter test (take (length b.boxes) b.boxes))) ≤ length ns
few_numbered test layer ns b is = omega (arith, few_named test (number_of ns) b.boxes (length b.boxes) (omega arith), few_boxes (part_of ns layer) b is, length-map ns (λ n. get_or layer n []))

-- ---- the segments of all boxes
all_counted : (w : ℕ → ℕ) (a : ℕ) (layer : List Rings) → ((i : ℕ) → i < length layer → w (a + i) ≡ length (segments (get_or layer i []))) → sum_by w (range_with_len a (length layer)) ≡ length (layer_segments layer)
all_counted w a [] each = refl
all_counted w a (rings ∷ layer) each =
    let here : a ≡ a + 0 = omega arith in
    let first : w a ≡ length (segments rings) = ap w here ∙ each 0 (omega arith) in
    let rest = all_counted w (a + 1) layer (λ i lt. (let next : a + 1 + i ≡ a + suc i = omega arith in ap w next ∙ each (suc i) (omega (arith, lt)))) in
    omega (arith, sum_by-cons w a (range_with_len (a + 1) (length layer)), first, rest, length-append (segments rings) (layer_segments layer))

-- they are no more than those of the layer
few_segments : (layer : List Rings) (b : BoxedState) → IsBoxed layer b → sum_by (segment_count b) b.boxes ≤ length (layer_segments layer)
few_segments layer b is =
    let w : ℕ → ℕ = λ f. length (get_or b.segments f []) in
    let all : List ℕ = numbers (length layer) in
    let by_feature = sum_map w feature_of b.boxes in
    let moved = sum_by-IsPermutation w (filter (has_segments layer) all) (map feature_of b.boxes) is.named in
    let split = sum_by-filter_both (has_segments layer) (λ f. not (has_segments layer f)) (λ f. refl) w all in
    let whole = all_counted w 0 layer (λ i lt. (let same : 0 + i ≡ i = omega arith in ap w same ∙ length_permutation _ _ (is.kept.moved i lt))) in
    omega (arith, by_feature, moved, split, whole)

-- the segments of a part are those of its features
part_segments : (layer : List Rings) (ns : List ℕ) → length (layer_segments (part_of ns layer)) ≡ sum_by (segments_at layer) ns
part_segments layer [] = refl
part_segments layer (n ∷ ns) = omega (arith, sum_by-cons (segments_at layer) n ns, part_segments layer ns, length-append (segments (get_or layer n [])) (layer_segments (part_of ns layer)))

-- so the boxes of a part have no more
pub few_counted : (layer : List Rings) (ns : List ℕ) (b : BoxedState) → IsBoxed (part_of ns layer) b → sum_by (segment_count b) b.boxes ≤ sum_by (segments_at layer) ns
few_counted layer ns b is = omega (arith, few_segments (part_of ns layer) b is, part_segments layer ns)

-- all features of a layer have its segments
pub all_segments : (layer : List Rings) → sum_by (segments_at layer) (numbers (length layer)) ≡ length (layer_segments layer)
all_segments layer = all_counted (segments_at layer) 0 layer (λ i lt. (let same : 0 + i ≡ i = omega arith in ap (segments_at layer) same))
