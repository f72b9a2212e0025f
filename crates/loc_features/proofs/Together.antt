-- The features of a layer that are named part by part.
use Rattle.std.proofs.Common.{◌≡◌, ℕ, ◌+◌, ◌<◌, ◌≤◌, Bool, true, false, ◌&&◌, ◌||◌, List, [], ◌∷◌, ◌++◌, length, take, get_or, refl, sym, ◌∙◌, ap, ap₂, arith, append_assoc, length-append}
use Rattle.std.specs.Prelude.{◌==◌, nat_lt, sum_by}
use Rattle.std.specs.List.{list_any}
use Rattle.std.proofs.{Math.Bool.or-false, lemmas.List.get_or-map, lemmas.List.length-map, lemmas.List.take_more}
use Rattle.std.proofs.{lemmas.List.Folds.list_any-append, lemmas.List.FromFn.length-range_with_len}
use Rattle.std.proofs.lemmas.List.Sums.{sum_by-append, sum_by-cons, sum_by-take-le, sum_by_more_le}
use Rattle.loc_spec_plane.specs.{Lists.is_in, Lists.numbers, Lists.sorted_set, Points.Point}
use Rattle.loc_spec_plane.specs.{Rings.Rings, Rings.touches, Rings.covers, Tables.layer_segments}
use Rattle.loc_laws_order.proofs.Kept.{is_in-filter}
use Rattle.loc_laws_any.specs.Unions.{passing}
use Rattle.loc_laws_any.proofs.Joining.{joined}
use Rattle.loc_rings.specs.Values.{Feature, rings_of}
use Rattle.loc_edges.specs.Layers.{layer_rings}
use Rattle.loc_batch.specs.Lists.{ListsState}
use Rattle.loc_parts.specs.Parts.{IsParted, numbers_in, left_numbers, part_numbers}
use Rattle.loc_parts.specs.{declared.parts.Left.Left, declared.parts.Part.Part, declared.parts.Parted.Parted}
use Rattle.loc_parts.proofs.Numbered.{in_all}
use Rattle.loc_features.specs.Gathered.{Names, segments_at}
use Rattle.loc_features.proofs.Naming.{all_segments}

module _ (layer : List Rings) (p : Point) (lists : List (List ℕ)) (ns : List ℕ) (before l : ListsState) (names : Names layer p lists before) where
  -- what is named before and then has a number of one list more
  shared : (a b t : Bool) → ((a && t) || (b && t)) ≡ ((a || (b || false)) && t)
  shared true true true = refl
  shared true true false = refl
  shared true false true = refl
  shared true false false = refl
  shared false true true = refl
  shared false true false = refl
  shared false false true = refl
  shared false false false = refl

  one_more : (test : ℕ → Bool) (old new added : List ℕ) → new ≡ old ++ added → ((n : ℕ) → is_in n old ≡ (list_any (is_in n) lists && test n)) → ((n : ℕ) → is_in n added ≡ (is_in n ns && test n))
      → (n : ℕ) → is_in n new ≡ (list_any (is_in n) (lists ++ ns ∷ []) && test n)
  one_more test old new added is was more n =
      ap (is_in n) is
      ∙ (list_any-append (λ m. m == n) old added
      ∙ (ap₂ (λ a b. a || b) (was n) (more n)
      ∙ (shared (list_any (is_in n) lists) (is_in n ns) (test n) ∙ ap (λ b. b && test n) (sym (list_any-append (is_in n) lists (ns ∷ []))))))

  few_more : (old new added : List ℕ) → new ≡ old ++ added → length old ≤ sum_by length lists → length added ≤ length ns → length new ≤ sum_by length (lists ++ ns ∷ [])
  few_more old new added is was more = omega (arith, ap length is, length-append old added, was, more, sum_by-append length lists (ns ∷ []), sum_by-cons length ns [])

  -- one list of numbers more
  pub more_named : (on inside : List ℕ) → l.touching ≡ before.touching ++ on → l.covering ≡ before.covering ++ inside → ((n : ℕ) → is_in n on ≡ (is_in n ns && touches (get_or layer n []) p))
      → ((n : ℕ) → is_in n inside ≡ (is_in n ns && covers (get_or layer n []) p)) → length on ≤ length ns → length inside ≤ length ns → Names layer p (lists ++ ns ∷ []) l
  more_named on inside is_on is_inside on_alike inside_alike few_on few_inside = record {
    touching = one_more (λ n. touches (get_or layer n []) p) before.touching l.touching on is_on names.touching on_alike;
    covering = one_more (λ n. covers (get_or layer n []) p) before.covering l.covering inside is_inside names.covering inside_alike;
    few_touching = few_more before.touching l.touching on is_on names.few_touching few_on;
    few_covering = few_more before.covering l.covering inside is_inside names.few_covering few_inside;
  }

-- ---- the lists of all numbers
sums_alike : {X : Type 0} (f g : X → ℕ) → ((x : X) → f x ≡ g x) → (xs : List X) → sum_by f xs ≡ sum_by g xs
sums_alike f g same [] = refl
sums_alike f g same (x ∷ xs) = omega (arith, sum_by-cons f x xs, sum_by-cons g x xs, same x, sums_alike f g same xs)

ones : (ns : List ℕ) → sum_by (λ _. 1) ns ≡ length ns
ones [] = refl
ones (n ∷ ns) = omega (arith, sum_by-cons (λ _. 1) n ns, ones ns)

-- the numbers of one part more
pub part_more : (parts : List Part) (k : ℕ) (part : Part) → k < length parts → part ≡ get_or parts k part → take k (part_numbers parts) ++ part.numbers.items ∷ [] ≡ take (k + 1) (part_numbers parts)
part_more parts k part lt is =
    let at = ap (λ (one : Part). one.numbers.items) is ∙ sym (get_or-map (λ (one : Part). one.numbers.items) parts k part [] lt) in
    ap (λ ns. take k (part_numbers parts) ++ ns ∷ []) at ∙ sym (take_more (part_numbers parts) k [] (omega (arith, lt, length-map parts (λ (one : Part). one.numbers.items))))

-- and of more that is left
pub left_at : (rest : List Left) (k : ℕ) (left : Left) → k < length rest → left ≡ get_or rest k left → left.numbers.items ≡ get_or (left_numbers rest) k []
left_at rest k left lt is = ap (λ (one : Left). one.numbers.items) is ∙ sym (get_or-map (λ (one : Left). one.numbers.items) rest k left [] lt)

pub left_more : (lists : List (List ℕ)) (rest : List Left) (k : ℕ) (left : Left) → k < length rest → left ≡ get_or rest k left → (lists ++ take k (left_numbers rest)) ++ left.numbers.items ∷ [] ≡ lists ++ take (k + 1) (left_numbers rest)
left_more lists rest k left lt is =
    append_assoc lists (take k (left_numbers rest)) (left.numbers.items ∷ [])
    ∙ ap (λ more. lists ++ more) (ap (λ ns. take k (left_numbers rest) ++ ns ∷ []) (left_at rest k left lt is)
    ∙ sym (take_more (left_numbers rest) k [] (omega (arith, lt, length-map rest (λ (one : Left). one.numbers.items)))))

module _ (layer : List Feature) (parted : Parted) (is : IsParted layer parted) where
  -- there are no more numbers than a list has room for
  few_numbers : sum_by length (numbers_in parted.parts.items parted.left.items) ≤ 262144
  few_numbers =
      let lists : List (List ℕ) = numbers_in parted.parts.items parted.left.items in
      omega (arith, sums_alike length (sum_by (λ _. 1)) (λ ns. sym (ones ns)) lists, is.once (λ _. 1), ones (numbers (length layer)), length-range_with_len 0 (length layer), is.few_features)

  -- so one part more has room behind those before it
  pub part_room : (k many : ℕ) (d : Part) → k < length parted.parts.items → many ≤ sum_by length (take k (part_numbers parted.parts.items)) → many + length (get_or parted.parts.items k d).numbers.items ≤ 262144
  part_room k many d lt few =
      let lists = part_numbers parted.parts.items in
      let at : get_or lists k [] ≡ (get_or parted.parts.items k d).numbers.items = get_or-map (λ (part : Part). part.numbers.items) parted.parts.items k d [] lt in
      omega (arith, few, ap length at, sum_by_more_le length lists k [] (omega (arith, lt, length-map parted.parts.items (λ (part : Part). part.numbers.items))), sum_by-append length lists (left_numbers parted.left.items), few_numbers)

  -- and so has more that is left
  pub left_room : (k many : ℕ) (d : Left) → k < length parted.left.items → many ≤ sum_by length (part_numbers parted.parts.items ++ take k (left_numbers parted.left.items)) → many + length (get_or parted.left.items k d).numbers.items ≤ 262144
  left_room k many d lt few =
      let parts = part_numbers parted.parts.items in
      let lists = left_numbers parted.left.items in
      let at : get_or lists k [] ≡ (get_or parted.left.items k d).numbers.items = get_or-map (λ (left : Left). left.numbers.items) parted.left.items k d [] lt in
      omega (arith, few, ap length at, sum_by_more_le length lists k [] (omega (arith, lt, length-map parted.left.items (λ (left : Left). left.numbers.items))), sum_by-append length parts lists, sum_by-append length parts (take k lists), few_numbers)

  -- what is left has no more segments than the layer
  pub few_left : (k : ℕ) → sum_by (sum_by (segments_at (layer_rings layer))) (take k (left_numbers parted.left.items)) ≤ length (layer_segments (layer_rings layer))
  few_left k =
      let w = segments_at (layer_rings layer) in
      let lists = left_numbers parted.left.items in
      omega (arith, sum_by-take-le (sum_by w) lists k, sum_by-append (sum_by w) (part_numbers parted.parts.items) lists, is.once w, ap (λ n. sum_by w (numbers n)) (length-map layer rings_of), all_segments (layer_rings layer))

  -- a list that names the features of all numbers that pass sorts to these in the order of the layer
  pub sorted_pass : (test : Rings → Bool) (named : List ℕ) → ((n : ℕ) → is_in n named ≡ (list_any (is_in n) (numbers_in parted.parts.items parted.left.items) && test (get_or (layer_rings layer) n []))) → sorted_set nat_lt named ≡ passing test (layer_rings layer)
  sorted_pass test named alike = joined test (layer_rings layer) named (λ n.
      alike n
      ∙ (ap (λ b. b && test (get_or (layer_rings layer) n [])) (is.all n ∙ (sym (in_all n (length layer)) ∙ (or-false (is_in n (numbers (length layer))) ∙ ap (λ k. is_in n (numbers k)) (sym (length-map layer rings_of)))))
      ∙ sym (is_in-filter (λ m. test (get_or (layer_rings layer) m [])) n (numbers (length (layer_rings layer))))))
