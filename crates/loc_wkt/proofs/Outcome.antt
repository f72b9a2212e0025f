-- What is kept of a whole tree is what the text reads as.
use Rattle.std.proofs.Common.{◌≡◌, ◌≢◌, ℕ, ◌+◌, List, [], ◌∷◌, ◌++◌, map, Bool, true, false, ◌&&◌, not, Option, Some, None, option_map, option_and_then, Ok, Err, refl, sym, ◌∙◌, ap, ap₂, append_assoc, append-nil}
use Rattle.std.specs.Prelude.{if◌then◌else◌, is_none, ℤ, pos}
use Rattle.std.specs.List.{flat_map, fold, list_all}
use Rattle.std.proofs.{lemmas.Bool.and_parts, lemmas.Grind.flat_map-append, lemmas.List.Folds.list_all-append}
use Rattle.std.proofs.lemmas.List.Sums.{fold-append}
use Rattle.loc_spec_plane.specs.Points.{Point, point_at}
use Rattle.loc_spec_text.specs.{declared.TextFault.TextFault, Number.grid_value, Number.is_in_range, Number.is_on_grid}
use Rattle.loc_spec_text.specs.declared.TextFault.TheVariants.{Dimension, NoMemory, OffGrid, Range, Syntax}
use Rattle.loc_spec_text.specs.Bytes.{err_or, first_fault, ok_unless, or_else}
use Rattle.loc_spec_text.specs.Geometry.{Polygon, Ring, WidePoint, numbers}
use Rattle.loc_spec_text.specs.Reader.{geometry_of, wide_geometry_of}
use Rattle.loc_spec_text.specs.Reading.{Polygons, all_numbers, all_rings, number_fault, position, positions, reading, reading_of, ring_fault, value_of, word_fault}
use Rattle.loc_spec_text.proofs.FaultLaws.{or_else-assoc}
use Rattle.loc_rings.specs.Values.{with_ring}
use Rattle.loc_rings.proofs.Cuts.{with_ring-last}
use Rattle.loc_wkt.specs.{declared.values.Counter.Counter, declared.values.Values.Values, Lists.IsUnread}
use Rattle.loc_wkt.specs.Passes.{IsTreeRead, after_point, after_polygon, after_ring, counted, first_two, has_two, nothing_read, outcome, point_or_zero, value_or_zero}
use Rattle.loc_wkt.proofs.Narrowing.{geometry-narrow, is_narrow, narrow_tree, narrowed}

-- all of a list are counted
abbrev counted_all : {A : Type 0} → (A → Option (ℕ → TextFault)) → Counter → List A → Counter
counted_all fault c xs = fold (λ d x. counted d (fault x)) c xs

-- the first fault among them
counted-fault : {A : Type 0} (fault : A → Option (ℕ → TextFault)) (c : Counter) (xs : List A) → (counted_all fault c xs).fault ≡ or_else c.fault (first_fault fault (c.count + 1) xs)
unfolding counted
counted-fault fault c [] = or_nothing c.fault
  where
    or_nothing : (o : Option TextFault) → o ≡ or_else o None
    or_nothing None = refl
    or_nothing (Some f) = refl
counted-fault fault c (x ∷ xs) = counted-fault fault (counted c (fault x)) xs
    ∙ or_else-assoc c.fault (option_map (λ f. f (c.count + 1)) (fault x)) (first_fault fault (c.count + 1 + 1) xs)

-- A step leaves the scale.
abbrev KeepsScale : {X : Type 0} → (Values → X → Values) → Type 0
KeepsScale {X} step = (v : Values) (x : X) → (step v x).scale ≡ v.scale

-- It counts these members, whose faults are these at a scale.
abbrev Counts : {X A : Type 0} → (Values → Counter) → (ℕ → A → Option (ℕ → TextFault)) → (ℕ → X → List A) → (Values → X → Values) → Type 0
Counts {X} part fault members step = (v : Values) (x : X) → part (step v x) ≡ counted_all (fault v.scale) (part v) (members v.scale x)

-- It keeps whether a member does not pass.
abbrev Widens : {X : Type 0} → (X → Bool) → (Values → X → Values) → Type 0
Widens {X} test step = (v : Values) (x : X) → (step v x).is_wide ≡ (if test x then v.is_wide else true)

-- the same of all steps of a list
module _ {X : Type 0} (step : Values → X → Values) where
  scale_fold : KeepsScale step → KeepsScale (λ v xs. fold step v xs)
  scale_fold h v [] = refl
  scale_fold h v (x ∷ xs) = scale_fold h (step v x) xs ∙ h v x

  count_fold : {A : Type 0} (part : Values → Counter) (fault : ℕ → A → Option (ℕ → TextFault)) (members : ℕ → X → List A) → KeepsScale step → Counts part fault members step
      → Counts part fault (λ scale xs. flat_map (members scale) xs) (λ v xs. fold step v xs)
  count_fold part fault members s h v [] = refl
  count_fold part fault members s h v (x ∷ xs) = count_fold part fault members s h (step v x) xs
      ∙ ap₂ (λ scale c. counted_all (fault scale) c (flat_map (members scale) xs)) (s v x) (h v x)
      ∙ sym (fold-append (λ d y. counted d (fault v.scale y)) (part v) (members v.scale x) (flat_map (members v.scale) xs))

  wide_fold : (test : X → Bool) → Widens test step → Widens (list_all test) (λ v xs. fold step v xs)
  wide_fold test h v [] = refl
  wide_fold test h v (x ∷ xs) = wide_fold test h (step v x) xs ∙ ap (λ b. if list_all test xs then b else true) (h v x) ∙ both (list_all test xs) (test x) v.is_wide
    where
      both : (a b c : Bool) → (if a then (if b then c else true) else true) ≡ (if b && a then c else true)
      both true true c = refl
      both true false c = refl
      both false true c = refl
      both false false c = refl

-- points
point_scale : KeepsScale after_point
unfolding after_point
point_scale v p = refl

point_counts : Counts (λ v. v.numbers) number_fault (λ scale p. numbers (first_two p)) after_point
unfolding after_point
point_counts v p = refl

point_widens : Widens has_two after_point
unfolding after_point
point_widens v p = refl

-- rings
ring_scale : KeepsScale after_ring
unfolding after_ring
ring_scale v r = scale_fold after_point point_scale v r

abbrev ring_texts : ℕ → Ring WidePoint → List (List ℕ)
ring_texts scale r = flat_map (λ p. numbers (first_two p)) r

ring_counts : Counts (λ v. v.numbers) number_fault ring_texts after_ring
unfolding after_ring
ring_counts v r = count_fold after_point (λ v. v.numbers) number_fault (λ scale p. numbers (first_two p)) point_scale point_counts v r

ring_widens : Widens (list_all has_two) after_ring
unfolding after_ring
ring_widens v r = wide_fold after_point has_two point_widens v r

no_rings : (v : Values) (r : Ring WidePoint) → (fold after_point v r).rings ≡ v.rings
unfolding after_point
no_rings v [] = refl
no_rings v (p ∷ r) = no_rings (after_point v p) r

no_polygons : (v : Values) (r : Ring WidePoint) → (fold after_point v r).built ≡ v.built
unfolding after_point
no_polygons v [] = refl
no_polygons v (p ∷ r) = no_polygons (after_point v p) r

-- the points of a ring, of a polygon and of a tree
abbrev shown_ring : ℕ → Ring WidePoint → Ring Point
shown_ring scale r = map (point_or_zero scale) r

abbrev shown_rings : ℕ → Polygon WidePoint → Polygon Point
shown_rings scale rings = map (shown_ring scale) rings

abbrev shown : ℕ → List (Polygon WidePoint) → Polygons
shown scale tree = map (shown_rings scale) tree

ring_counts_ring : Counts (λ v. v.rings) (λ scale. ring_fault) (λ scale r. shown_ring scale r ∷ []) after_ring
unfolding after_ring
ring_counts_ring v r = ap (λ c. counted c (ring_fault (shown_ring v.scale r))) (no_rings v r)

-- polygons
polygon_scale : KeepsScale after_polygon
unfolding after_polygon
polygon_scale v rings = scale_fold after_ring ring_scale (record v { built = v.built ++ [] ∷ [] }) rings

abbrev polygon_texts : ℕ → Polygon WidePoint → List (List ℕ)
polygon_texts scale rings = flat_map (ring_texts scale) rings

polygon_counts : Counts (λ v. v.numbers) number_fault polygon_texts after_polygon
unfolding after_polygon
polygon_counts v rings = count_fold after_ring (λ v. v.numbers) number_fault ring_texts ring_scale ring_counts (record v { built = v.built ++ [] ∷ [] }) rings

polygon_widens : Widens (list_all (list_all has_two)) after_polygon
unfolding after_polygon
polygon_widens v rings = wide_fold after_ring (list_all has_two) ring_widens (record v { built = v.built ++ [] ∷ [] }) rings

polygon_counts_rings : Counts (λ v. v.rings) (λ scale. ring_fault) (λ scale rings. flat_map (λ r. shown_ring scale r ∷ []) rings) after_polygon
unfolding after_polygon
polygon_counts_rings v rings = count_fold after_ring (λ v. v.rings) (λ scale. ring_fault) (λ scale r. shown_ring scale r ∷ []) ring_scale ring_counts_ring (record v { built = v.built ++ [] ∷ [] }) rings

-- the number texts and the rings of a tree, as they are counted
text_ring : (r : Ring WidePoint) → flat_map (λ p. numbers (first_two p)) r ≡ flat_map numbers (map first_two r)
text_ring [] = refl
text_ring (p ∷ r) = ap (λ xs. numbers (first_two p) ++ xs) (text_ring r)

text_polygon : (rings : Polygon WidePoint) → polygon_texts 0 rings ≡ flat_map (λ r. flat_map numbers r) (map (map first_two) rings)
text_polygon [] = refl
text_polygon (r ∷ rings) = ap₂ (λ a b. a ++ b) (text_ring r) (text_polygon rings)

text_tree : (tree : List (Polygon WidePoint)) → flat_map (polygon_texts 0) tree ≡ all_numbers (narrow_tree tree)
text_tree [] = refl
text_tree (rings ∷ tree) = ap₂ (λ a b. a ++ b) (text_polygon rings) (text_tree tree) ∙ sym (flat_map-append (λ r. flat_map numbers r) (map (map first_two) rings) (all_rings (narrow_tree tree)))

ring_polygon : (scale : ℕ) (rings : Polygon WidePoint) → flat_map (λ r. shown_ring scale r ∷ []) rings ≡ shown_rings scale rings
ring_polygon scale [] = refl
ring_polygon scale (r ∷ rings) = ap (λ rs. shown_ring scale r ∷ rs) (ring_polygon scale rings)

ring_tree : (scale : ℕ) (tree : List (Polygon WidePoint)) → flat_map (λ rings. flat_map (λ r. shown_ring scale r ∷ []) rings) tree ≡ all_rings (shown scale tree)
ring_tree scale [] = refl
ring_tree scale (rings ∷ tree) = ap₂ (λ a b. a ++ b) (ring_polygon scale rings) (ring_tree scale tree)

-- what passes has no fault
none_faulty : {A : Type 0} (fault : A → Option (ℕ → TextFault)) (n : ℕ) (xs : List A) → first_fault fault n xs ≡ None → list_all (λ x. is_none (fault x)) xs ≡ true
none_faulty fault n [] h = refl
none_faulty fault n (x ∷ xs) h = by_fault (fault x) (first_fault fault (n + 1) xs) h (none_faulty fault (n + 1) xs)
  where
    by_fault : (f : Option (ℕ → TextFault)) (rest : Option TextFault) → or_else (option_map (λ g. g n) f) rest ≡ None → (rest ≡ None → list_all (λ x. is_none (fault x)) xs ≡ true)
        → (is_none f && list_all (λ x. is_none (fault x)) xs) ≡ true
    by_fault None rest h more = more h
    by_fault (Some f) rest h more = absurd (cc)

-- rings without fault are put behind those of the last polygon
abbrev sound : Ring Point → Bool
sound ring = is_none (ring_fault ring)

ring_built : (v : Values) (before : Polygons) (rings : Polygon Point) (r : Ring WidePoint) → v.built ≡ before ++ rings ∷ [] → sound (shown_ring v.scale r) ≡ true → (after_ring v r).built ≡ before ++ (rings ++ shown_ring v.scale r ∷ []) ∷ []
unfolding after_ring
ring_built v before rings r e h = ap (λ b. if b then with_ring (fold after_point v r).built (shown_ring v.scale r) else (fold after_point v r).built) h
    ∙ ap (λ ps. with_ring ps (shown_ring v.scale r)) (no_polygons v r ∙ e) ∙ with_ring-last before rings (shown_ring v.scale r)

rings_built : (v : Values) (before : Polygons) (done : Polygon Point) (rings : Polygon WidePoint) → v.built ≡ before ++ done ∷ [] → list_all sound (shown_rings v.scale rings) ≡ true
    → (fold after_ring v rings).built ≡ before ++ (done ++ shown_rings v.scale rings) ∷ []
rings_built v before done [] e h = e ∙ ap (λ rs. before ++ rs ∷ []) (sym (append-nil done))
rings_built v before done (r ∷ rings) e h =
    let p = and_parts (sound (shown_ring v.scale r)) (list_all sound (shown_rings v.scale rings)) h in
    let s = ring_scale v r in
    rings_built (after_ring v r) before (done ++ shown_ring v.scale r ∷ []) rings (ring_built v before done r e p.0) (ap (λ scale. list_all sound (shown_rings scale rings)) s ∙ p.1)
    ∙ ap (λ rs. before ++ rs ∷ []) (ap (λ scale. (done ++ shown_ring v.scale r ∷ []) ++ shown_rings scale rings) s ∙ append_assoc done (shown_ring v.scale r ∷ []) (shown_rings v.scale rings))

polygon_built : (v : Values) (rings : Polygon WidePoint) → list_all sound (shown_rings v.scale rings) ≡ true → (after_polygon v rings).built ≡ v.built ++ shown_rings v.scale rings ∷ []
unfolding after_polygon
polygon_built v rings h = rings_built (record v { built = v.built ++ [] ∷ [] }) v.built [] rings refl h

tree_built : (v : Values) (tree : List (Polygon WidePoint)) → list_all sound (all_rings (shown v.scale tree)) ≡ true → (fold after_polygon v tree).built ≡ v.built ++ shown v.scale tree
tree_built v [] h = sym (append-nil v.built)
tree_built v (rings ∷ tree) h =
    let p = and_parts (list_all sound (shown_rings v.scale rings)) (list_all sound (all_rings (shown v.scale tree))) (sym (list_all-append sound (shown_rings v.scale rings) (all_rings (shown v.scale tree))) ∙ h) in
    let s = polygon_scale v rings in
    tree_built (after_polygon v rings) tree (ap (λ scale. list_all sound (all_rings (shown scale tree))) s ∙ p.1)
    ∙ ap₂ (λ ps scale. ps ++ shown scale tree) (polygon_built v rings p.0) s
    ∙ append_assoc v.built (shown_rings v.scale rings ∷ []) (shown v.scale tree)

-- What all members agree on, whose parts are good, the whole does.
same_all : {X A B : Type 0} (f g : X → B) (members : X → List A) (good : A → Bool) → ((x : X) → list_all good (members x) ≡ true → f x ≡ g x)
    → (xs : List X) → list_all good (flat_map members xs) ≡ true → map f xs ≡ map g xs
same_all f g members good same [] h = refl
same_all f g members good same (x ∷ xs) h =
    let p = and_parts (list_all good (members x)) (list_all good (flat_map members xs)) (sym (list_all-append good (members x) (flat_map members xs)) ∙ h) in
    ap₂ (λ a b. a ∷ b) (same x p.0) (same_all f g members good same xs p.1)

map-twice : {X Y Z : Type 0} (g : Y → Z) (f : X → Y) (xs : List X) → map (λ x. g (f x)) xs ≡ map g (map f xs)
map-twice g f [] = refl
map-twice g f (x ∷ xs) = ap (λ ys. g (f x) ∷ ys) (map-twice g f xs)

-- a number without fault has its grid value
abbrev right : ℕ → List ℕ → Bool
right scale text = is_none (number_fault scale text)

right_value : (a b : Bool) (value : ℤ) → is_none (if not a then Some OffGrid else if not b then Some Range else None) ≡ true → (if a && b then value else pos 0) ≡ value
right_value true true value h = refl
right_value true false value h = absurd (cc)
right_value false b value h = absurd (cc)

-- The value of a tree, by its first faults and its rings, and by those that are kept.
by_faults : (number ring kept : Option TextFault) (values shown built : Polygons) → (number ≡ None → shown ≡ values) → (number ≡ None → ring ≡ kept) → (ring ≡ None → built ≡ shown)
    → ok_unless (or_else number kept) values ≡ ok_unless (or_else number ring) built
by_faults (Some n) ring kept values shown built same faults whole = refl
by_faults None (Some r) kept values shown built same faults whole = ap (λ o. ok_unless o values) (sym (faults refl))
by_faults None None kept values shown built same faults whole = ap (λ o. ok_unless o values) (sym (faults refl)) ∙ ap Ok (sym (same refl) ∙ sym (whole refl))

module _ (scale : ℕ) where
  right_number : (text : List ℕ) → right scale text ≡ true → value_or_zero scale text ≡ grid_value scale text
  right_number text h = right_value (is_on_grid scale text) (is_in_range scale text) (grid_value scale text) h

  right_point : (p : WidePoint) → list_all (right scale) (numbers (first_two p)) ≡ true → point_or_zero scale p ≡ position scale (first_two p)
  right_point p h =
      let a = and_parts (right scale (first_two p).0) (right scale (first_two p).1 && true) h in
      let b = and_parts (right scale (first_two p).1) true a.1 in
      ap₂ point_at (right_number (first_two p).0 a.0) (right_number (first_two p).1 b.0)

  right_ring : (r : Ring WidePoint) → list_all (right scale) (ring_texts 0 r) ≡ true → shown_ring scale r ≡ map (position scale) (map first_two r)
  right_ring r h = same_all (point_or_zero scale) (λ p. position scale (first_two p)) (λ p. numbers (first_two p)) (right scale) right_point r h ∙ map-twice (position scale) first_two r

  right_polygon : (rings : Polygon WidePoint) → list_all (right scale) (polygon_texts 0 rings) ≡ true → shown_rings scale rings ≡ map (map (position scale)) (map (map first_two) rings)
  right_polygon rings h = same_all (shown_ring scale) (λ r. map (position scale) (map first_two r)) (ring_texts 0) (right scale) right_ring rings h ∙ map-twice (map (position scale)) (map first_two) rings

  right_tree : (tree : List (Polygon WidePoint)) → list_all (right scale) (flat_map (polygon_texts 0) tree) ≡ true → shown scale tree ≡ positions scale (narrow_tree tree)
  right_tree tree h = same_all (shown_rings scale) (λ rings. map (map (position scale)) (map (map first_two) rings)) (polygon_texts 0) (right scale) right_polygon tree h
      ∙ map-twice (map (map (position scale))) (map (map first_two)) tree

  -- What is kept of a whole tree.
  module _ (tree : List (Polygon WidePoint)) where
    abbrev end : Values
    end = fold after_polygon (nothing_read scale) tree

    end_wide : end.is_wide ≡ (if is_narrow tree then false else true)
    end_wide = wide_fold after_polygon (list_all (list_all has_two)) polygon_widens (nothing_read scale) tree

    end_numbers : end.numbers.fault ≡ first_fault (number_fault scale) 1 (all_numbers (narrow_tree tree))
    end_numbers = ap (λ c. c.fault) (count_fold after_polygon (λ v. v.numbers) number_fault polygon_texts polygon_scale polygon_counts (nothing_read scale) tree)
        ∙ counted-fault (number_fault scale) (record { count = 0; fault = None }) (flat_map (polygon_texts scale) tree)
        ∙ ap (first_fault (number_fault scale) 1) (text_tree tree)

    end_rings : end.rings.fault ≡ first_fault ring_fault 1 (all_rings (shown scale tree))
    end_rings = ap (λ c. c.fault) (count_fold after_polygon (λ v. v.rings) (λ s. ring_fault) (λ s rings. flat_map (λ r. shown_ring s r ∷ []) rings) polygon_scale polygon_counts_rings (nothing_read scale) tree)
        ∙ counted-fault ring_fault (record { count = 0; fault = None }) (flat_map (λ rings. flat_map (λ r. shown_ring scale r ∷ []) rings) tree)
        ∙ ap (first_fault ring_fault 1) (ring_tree scale tree)

    end_built : first_fault ring_fault 1 (all_rings (shown scale tree)) ≡ None → end.built ≡ shown scale tree
    end_built h = tree_built (nothing_read scale) tree (none_faulty ring_fault 1 (all_rings (shown scale tree)) h)

    shown_right : first_fault (number_fault scale) 1 (all_numbers (narrow_tree tree)) ≡ None → shown scale tree ≡ positions scale (narrow_tree tree)
    shown_right h = right_tree tree (ap (list_all (right scale)) (text_tree tree) ∙ none_faulty (number_fault scale) 1 (all_numbers (narrow_tree tree)) h)

    value_kept : value_of scale (narrow_tree tree) ≡ ok_unless (or_else end.numbers.fault end.rings.fault) end.built
    value_kept = by_faults (first_fault (number_fault scale) 1 (all_numbers (narrow_tree tree))) (first_fault ring_fault 1 (all_rings (shown scale tree))) (first_fault ring_fault 1 (all_rings (positions scale (narrow_tree tree))))
        (positions scale (narrow_tree tree)) (shown scale tree) end.built shown_right (λ h. ap (λ ps. first_fault ring_fault 1 (all_rings ps)) (shown_right h)) end_built
        ∙ ap₂ (λ a b. ok_unless (or_else a b) end.built) (sym end_numbers) (sym end_rings)

    outcome_by : (b : Bool) → is_narrow tree ≡ b → reading_of scale (if b then Some (narrow_tree tree) else None) (Some tree) ≡ outcome end
    outcome_by true h = value_kept ∙ ap (λ w. if w then Err Dimension else ok_unless (or_else end.numbers.fault end.rings.fault) end.built) (sym (end_wide ∙ ap (λ c. if c then false else true) h))
    outcome_by false h = ap (λ w. if w then Err Dimension else ok_unless (or_else end.numbers.fault end.rings.fault) end.built) (sym (end_wide ∙ ap (λ c. if c then false else true) h))

    tree_outcome : (text : List ℕ) → wide_geometry_of text ≡ Some tree → reading_of scale (geometry_of text) (wide_geometry_of text) ≡ outcome end
    tree_outcome text e = ap₂ (reading_of scale) (geometry-narrow text ∙ ap (option_and_then (narrowed is_narrow narrow_tree)) e) e ∙ outcome_by (is_narrow tree) refl

  no_tree : (text : List ℕ) → wide_geometry_of text ≡ None → reading_of scale (geometry_of text) (wide_geometry_of text) ≡ Err Syntax
  no_tree text e = ap₂ (reading_of scale) (geometry-narrow text ∙ ap (option_and_then (narrowed is_narrow narrow_tree)) e) e

  -- the words are at fault
  pub words_read : (text : List ℕ) (fault : TextFault) → word_fault text ≡ Some fault → reading scale text ≡ Err fault
  unfolding reading
  words_read text fault e = ap (λ o. err_or o (reading_of scale (geometry_of text) (wide_geometry_of text))) e

  -- they are not, and what has been read decides
  pub tree_read : (text : List ℕ) (values : Values) → word_fault text ≡ None → IsTreeRead (wide_geometry_of text) (nothing_read scale) values → reading scale text ≡ outcome values
  unfolding reading
  tree_read text values e t = ap (λ o. err_or o (reading_of scale (geometry_of text) (wide_geometry_of text))) e ∙ tree_outcome t.tree text t.gives ∙ sym (ap outcome t.values)

  -- they are not, and there is no tree
  pub no_tree_read : (text : List ℕ) (fault : TextFault) → word_fault text ≡ None → IsUnread fault (wide_geometry_of text) → fault ≢ NoMemory → reading scale text ≡ Err fault
  unfolding reading
  no_tree_read text fault e u h = let v = u h in ap (λ o. err_or o (reading_of scale (geometry_of text) (wide_geometry_of text))) e ∙ no_tree text v.1 ∙ ap Err (sym v.0)
