-- The distinct ids of a layer, numbered as one feature after another is looked at.
use Rattle.std.proofs.Common.{◌≡◌, ℕ, ◌+◌, ◌<◌, ◌≤◌, Bool, true, false, not, ◌&&◌, ◌||◌, List, [], ◌∷◌, ◌++◌, length, get_or, map, take, filter, Option, Some, None, refl, sym, ◌∙◌, ap, ap₂, subst, inl, inr, arith, length-append}
use Rattle.std.specs.Prelude.{◌==◌, if◌then◌else◌}
use Rattle.std.specs.{List.list_any, Str.bytes_eq}
use Rattle.std.proofs.{Math.Path.fun_ext, Math.Seq.get_or-append_seam, lemmas.List.Elements.filter-append}
use Rattle.std.proofs.lemmas.Bool.{cases_Bool, cases_eq, cases_lt, cases_order, cond-true, cond-false, both_ways, eq-eqb, eqb-true, le-ltb, lt-ltb, or_left, false_from_ne_true}
use Rattle.std.proofs.lemmas.List.{append-nil, get_or-map, get_or_append_left, get_or_default, length-map, map-append, take_all, take_more}
use Rattle.std.proofs.{lemmas.List.Folds.list_any_at, lemmas.List.Folds.list_any_none, lemmas.Slice.Eq.bytes_eq-Decides}
use Rattle.loc_spec_text.specs.Bytes.{Text}
use Rattle.loc_laws_order.proofs.Booleans.{same-from_both}
use Rattle.loc_spec_groups.specs.Groups.{group_names}
use Rattle.loc_dissolve.specs.Grouping.{AreGroups}

-- ---- equal ids
same_text : (a b : Text) → bytes_eq a b ≡ true → a ≡ b
same_text a b = (bytes_eq-Decides a b).0

itself : (a : Text) → bytes_eq a a ≡ true
itself a = (bytes_eq-Decides a a).1 refl

apart_back : (a b : Text) → bytes_eq a b ≡ false → bytes_eq b a ≡ false
apart_back a b differ = false_from_ne_true (bytes_eq b a) (λ same. both_ways (bytes_eq a b) differ ((bytes_eq-Decides a b).1 (sym (same_text b a same))))

-- ---- one id more
-- the ids that are not x have as many that are y, where x is not
any_kept : (x y : Text) → bytes_eq y x ≡ false → (names : List Text) → list_any (λ z. bytes_eq z y) (filter (λ z. not (bytes_eq z x)) names) ≡ list_any (λ z. bytes_eq z y) names
any_kept x y differ [] = refl
any_kept x y differ (z ∷ names) = elim (cases_Bool (bytes_eq z x)) [
  | inl same ↦ ap (list_any (λ z. bytes_eq z y)) (cond-false (not (bytes_eq z x)) _ _ (ap not same)) ∙ (any_kept x y differ names
      ∙ ap (λ b. b || list_any (λ z. bytes_eq z y) names) (sym (subst (λ w. bytes_eq w y ≡ false) (sym (same_text z x same)) (apart_back y x differ))))
  | inr other ↦ ap (list_any (λ z. bytes_eq z y)) (cond-true (not (bytes_eq z x)) _ _ (ap not other)) ∙ ap (λ b. bytes_eq z y || b) (any_kept x y differ names)
]

-- an id behind others is a new one where it is none of them
abbrev new_name : Bool → Text → List Text
new_name b y = if b then [] else y ∷ []

names_more : (ids : List Text) (y : Text) → group_names (ids ++ y ∷ []) ≡ group_names ids ++ new_name (list_any (λ z. bytes_eq z y) (group_names ids)) y
names_more [] y = refl
names_more (x ∷ ids) y =
    ap (λ l. x ∷ filter (λ z. not (bytes_eq z x)) l) (names_more ids y)
    ∙ (ap (λ l. x ∷ l) (filter-append (λ z. not (bytes_eq z x)) (group_names ids) (new_name (list_any (λ z. bytes_eq z y) (group_names ids)) y))
    ∙ ap (λ l. (x ∷ filter (λ z. not (bytes_eq z x)) (group_names ids)) ++ l) (elim (cases_Bool (bytes_eq y x)) [
      | inl same ↦ gone (list_any (λ z. bytes_eq z y) (group_names ids)) same ∙ sym (ap (λ b. new_name b y) (or_left (bytes_eq x y) _ ((bytes_eq-Decides x y).1 (sym (same_text y x same)))))
      | inr differ ↦ stays (list_any (λ z. bytes_eq z y) (group_names ids)) differ
          ∙ ap (λ b. new_name b y) (sym (ap (λ b. b || list_any (λ z. bytes_eq z y) (filter (λ z. not (bytes_eq z x)) (group_names ids))) (apart_back y x differ) ∙ any_kept x y differ (group_names ids)))
    ]))
  where
    gone : (b : Bool) → bytes_eq y x ≡ true → filter (λ z. not (bytes_eq z x)) (new_name b y) ≡ []
    gone true same = refl
    gone false same = cond-false (not (bytes_eq y x)) _ _ (ap not same)

    stays : (b : Bool) → bytes_eq y x ≡ false → filter (λ z. not (bytes_eq z x)) (new_name b y) ≡ new_name b y
    stays true differ = refl
    stays false differ = cond-true (not (bytes_eq y x)) _ _ (ap not differ)

-- the id of feature f
abbrev pub id_at : List Text → ℕ → Text
id_at ids f = get_or ids f []

-- what is known of an id is the place of a first feature that has it, or that none has it
abbrev pub IsKnown : List Text → List ℕ → Text → Option ℕ → Type 0
IsKnown ids firsts q None = (g : ℕ) → g < length firsts → bytes_eq (id_at ids (get_or firsts g 0)) q ≡ false
IsKnown ids firsts q (Some g) = (g < length firsts) × (id_at ids (get_or firsts g 0) ≡ q)

-- the first n features are numbered by their ids, and their distinct ids are known
pub record AreNumbered (ids : List Text) (firsts groups : List ℕ) (known : Text → Option ℕ) (n : ℕ) : Type 0 where
  pub few : length firsts ≤ n
  pub as_many : length groups ≡ n
  pub names : map (id_at ids) firsts ≡ group_names (take n ids)
  pub below : (g : ℕ) → g < length firsts → get_or firsts g 0 < n
  pub within : (f : ℕ) → f < n → get_or groups f 0 < length firsts
  pub apart : (g h : ℕ) → g < h → h < length firsts → bytes_eq (id_at ids (get_or firsts g 0)) (id_at ids (get_or firsts h 0)) ≡ false
  pub members : (f : ℕ) → f < n → id_at ids (get_or firsts (get_or groups f 0) 0) ≡ id_at ids f
  pub are_known : (q : Text) → IsKnown ids firsts q (known q)

module _ (ids : List Text) (firsts groups : List ℕ) (known : Text → Option ℕ) (n : ℕ) (lt : n < length ids) (so_far : AreNumbered ids firsts groups known n) where
  abbrev q : Text
  q = id_at ids n

  abbrev is_old : Bool
  is_old = list_any (λ z. bytes_eq z q) (group_names (take n ids))

  names_next : group_names (take (n + 1) ids) ≡ map (id_at ids) firsts ++ new_name is_old q
  names_next = ap group_names (take_more ids n [] lt) ∙ (names_more (take n ids) q ∙ ap (λ l. l ++ new_name is_old q) (sym so_far.names))

  group_at : (groups' : List ℕ) (g f : ℕ) → groups' ≡ groups ++ g ∷ [] → f < n → get_or groups' f 0 ≡ get_or groups f 0
  group_at groups' g f is less = ap (λ l. get_or l f 0) is ∙ get_or_append_left groups (g ∷ []) 0 f (let many = so_far.as_many in omega (arith, less, many))

  group_last : (groups' : List ℕ) (g f : ℕ) → groups' ≡ groups ++ g ∷ [] → f ≡ n → get_or groups' f 0 ≡ g
  group_last groups' g f is last = ap (λ l. get_or l f 0) is ∙ (ap (λ k. get_or (groups ++ g ∷ []) k 0) (let many = so_far.as_many in let place : f ≡ length groups = omega (arith, last, many) in place) ∙ get_or-append_seam groups g [] 0)

  many_more : (groups' : List ℕ) (g : ℕ) → groups' ≡ groups ++ g ∷ [] → length groups' ≡ n + 1
  many_more groups' g is = let many = so_far.as_many in omega (arith, ap length is, length-append groups (g ∷ []), many)

  -- a feature with an id that is known
  pub known_one : (g : ℕ) → known q ≡ Some g → (groups' : List ℕ) → groups' ≡ groups ++ g ∷ [] → AreNumbered ids firsts groups' known (n + 1)
  known_one g is groups' are =
      let here : IsKnown ids firsts q (Some g) = subst (IsKnown ids firsts q) is (so_far.are_known q) in
      let old : is_old ≡ true = ap (list_any (λ z. bytes_eq z q)) (sym so_far.names) ∙ list_any_at (λ z. bytes_eq z q) (map (id_at ids) firsts) g [] (omega (arith, here.0, length-map firsts (id_at ids)))
      (ap (λ z. bytes_eq z q) (get_or-map (id_at ids) firsts g 0 [] here.0 ∙ here.1) ∙ itself q) in
      let few = so_far.few in
      record {
        few = omega (arith, few);
        as_many = many_more groups' g are;
        names = sym (names_next ∙ (ap (λ b. map (id_at ids) firsts ++ new_name b q) old ∙ append-nil (map (id_at ids) firsts)));
        below = λ h less. (let low = so_far.below h less in omega (arith, low));
        within = λ f less. elim (cases_eq f n) [
          | inl last ↦ omega (arith, group_last groups' g f are last, here.0)
          | inr other ↦ (let low = so_far.within f (omega (arith, less, other)) in omega (arith, group_at groups' g f are (omega (arith, less, other)), low))
        ];
        apart = so_far.apart;
        members = λ f less. elim (cases_eq f n) [
          | inl last ↦ ap (λ k. id_at ids (get_or firsts k 0)) (group_last groups' g f are last) ∙ (here.1 ∙ ap (id_at ids) (sym last))
          | inr other ↦ ap (λ k. id_at ids (get_or firsts k 0)) (group_at groups' g f are (omega (arith, less, other))) ∙ so_far.members f (omega (arith, less, other))
        ];
        are_known = so_far.are_known;
      }

  -- a feature with an id that is new
  module _ (none : known q ≡ None) (firsts' groups' : List ℕ) (firsts_are : firsts' ≡ firsts ++ n ∷ []) (groups_are : groups' ≡ groups ++ length firsts ∷ []) where
    nowhere : (g : ℕ) → g < length firsts → bytes_eq (id_at ids (get_or firsts g 0)) q ≡ false
    nowhere = subst (IsKnown ids firsts q) none (so_far.are_known q)

    is_new : is_old ≡ false
    is_new = ap (list_any (λ z. bytes_eq z q)) (sym so_far.names) ∙ list_any_none (λ z. bytes_eq z q) (map (id_at ids) firsts) (λ k d short.
        (let less : k < length firsts = omega (arith, short, length-map firsts (id_at ids)) in ap (λ z. bytes_eq z q) (get_or-map (id_at ids) firsts k 0 d less) ∙ nowhere k less))

    long : length firsts' ≡ length firsts + 1
    long = omega (arith, ap length firsts_are, length-append firsts (n ∷ []))

    first_at : (g : ℕ) → g < length firsts → get_or firsts' g 0 ≡ get_or firsts g 0
    first_at g less = ap (λ l. get_or l g 0) firsts_are ∙ get_or_append_left firsts (n ∷ []) 0 g less

    first_last : (g : ℕ) → g ≡ length firsts → get_or firsts' g 0 ≡ n
    first_last g last = ap (λ l. get_or l g 0) firsts_are ∙ (ap (λ k. get_or (firsts ++ n ∷ []) k 0) last ∙ get_or-append_seam firsts n [] 0)

    -- what is known now
    known_now : (p : Text) (o now : Option ℕ) → IsKnown ids firsts p o → now ≡ (if bytes_eq q p then Some (length firsts) else o) → IsKnown ids firsts' p now
    known_now p o now was is = elim (cases_Bool (bytes_eq q p)) [
      | inl same ↦ subst (IsKnown ids firsts' p) (sym (is ∙ cond-true (bytes_eq q p) _ _ same)) (omega (arith, long), ap (id_at ids) (first_last (length firsts) refl) ∙ same_text q p same)
      | inr differ ↦ subst (IsKnown ids firsts' p) (sym (is ∙ cond-false (bytes_eq q p) _ _ differ)) (kept o was differ)
    ]
      where
        kept : (o : Option ℕ) → IsKnown ids firsts p o → bytes_eq q p ≡ false → IsKnown ids firsts' p o
        kept None was differ = λ g less. elim (cases_eq g (length firsts)) [
          | inl last ↦ subst (λ k. bytes_eq (id_at ids k) p ≡ false) (sym (first_last g last)) differ
          | inr other ↦ subst (λ k. bytes_eq (id_at ids k) p ≡ false) (sym (first_at g (omega (arith, less, long, other)))) (was g (omega (arith, less, long, other)))
        ]
        kept (Some g) was differ = (omega (arith, was.0, long), ap (id_at ids) (first_at g was.0) ∙ was.1)

    pub known_none : (known' : Text → Option ℕ) → ((p : Text) → known' p ≡ (if bytes_eq q p then Some (length firsts) else known p)) → AreNumbered ids firsts' groups' known' (n + 1)
    known_none known' now =
        let few = so_far.few in
        record {
          few = omega (arith, few, long);
          as_many = many_more groups' (length firsts) groups_are;
          names = ap (map (id_at ids)) firsts_are ∙ (map-append (id_at ids) firsts (n ∷ []) ∙ sym (names_next ∙ ap (λ b. map (id_at ids) firsts ++ new_name b q) is_new));
          below = λ g less. elim (cases_eq g (length firsts)) [
            | inl last ↦ omega (arith, first_last g last)
            | inr other ↦ (let low = so_far.below g (omega (arith, less, long, other)) in omega (arith, first_at g (omega (arith, less, long, other)), low))
          ];
          within = λ f less. elim (cases_eq f n) [
            | inl last ↦ omega (arith, group_last groups' (length firsts) f groups_are last, long)
            | inr other ↦ (let low = so_far.within f (omega (arith, less, other)) in omega (arith, group_at groups' (length firsts) f groups_are (omega (arith, less, other)), low, long))
          ];
          apart = λ g h up less. elim (cases_eq h (length firsts)) [
            | inl last ↦ (let low : g < length firsts = omega (arith, up, last) in ap₂ (λ a b. bytes_eq (id_at ids a) (id_at ids b)) (first_at g low) (first_last h last) ∙ nowhere g low)
            | inr other ↦ (let high : h < length firsts = omega (arith, less, long, other) in ap₂ (λ a b. bytes_eq (id_at ids a) (id_at ids b)) (first_at g (omega (arith, up, high))) (first_at h high) ∙ so_far.apart g h up high)
          ];
          members = λ f less. elim (cases_eq f n) [
            | inl last ↦ ap (λ k. id_at ids (get_or firsts' k 0)) (group_last groups' (length firsts) f groups_are last) ∙ (ap (id_at ids) (first_last (length firsts) refl) ∙ ap (id_at ids) (sym last))
            | inr other ↦ (let inside : f < n = omega (arith, less, other) in ap (λ k. id_at ids (get_or firsts' k 0)) (group_at groups' (length firsts) f groups_are inside) ∙ (ap (id_at ids) (first_at (get_or groups f 0) (so_far.within f inside)) ∙ so_far.members f inside))
          ];
          are_known = λ p. known_now p (known p) (known' p) (so_far.are_known p) (now p);
        }

-- all features are numbered
pub all_numbered : (ids : List Text) (firsts groups : List ℕ) (known : Text → Option ℕ) (n : ℕ) → n ≡ length ids → AreNumbered ids firsts groups known n → AreGroups ids firsts groups
all_numbered ids firsts groups known n all are = record {
  as_many = are.as_many ∙ all;
  few = (let few = are.few in omega (arith, few, all));
  names = are.names ∙ ap group_names (take_all n ids (omega (arith, all)));
  firsts_within = λ k d lt. (let low = are.below k lt in omega (arith, low, all, get_or_default firsts k d 0 lt));
  within = λ k d lt. (let many = are.as_many in let low = are.within k (omega (arith, lt, many)) in omega (arith, low, get_or_default groups k d 0 lt));
  members = λ g less. fun_ext (λ f. elim (cases_lt f n) [
    | inl lt ↦ ap₂ (λ a b. a && b) (lt-ltb f (length groups) (let many = are.as_many in omega (arith, lt, many)) ∙ sym (lt-ltb f (length ids) (omega (arith, lt, all)))) (same-from_both _ _
        (λ h. (bytes_eq-Decides (id_at ids f) (id_at ids (get_or firsts g 0))).1 (sym (are.members f lt) ∙ ap (λ k. id_at ids (get_or firsts k 0)) (eqb-true (get_or groups f 0) g h)))
        (λ h. eq-eqb (get_or groups f 0) g (one_name g (get_or groups f 0) less (are.within f lt) (sym (same_text _ _ h) ∙ sym (are.members f lt)))))
    | inr ge ↦ ap (λ a. a && (get_or groups f 0 == g)) (le-ltb f (length groups) (let many = are.as_many in omega (arith, ge, many))) ∙ sym (ap (λ a. a && bytes_eq (id_at ids f) (id_at ids (get_or firsts g 0))) (le-ltb f (length ids) (omega (arith, ge, all))))
  ]);
}
  where
    one_name : (g h : ℕ) → g < length firsts → h < length firsts → id_at ids (get_or firsts g 0) ≡ id_at ids (get_or firsts h 0) → h ≡ g
    one_name g h lt_g lt_h same = elim (cases_order g h) [
      | inl is ↦ sym is
      | inr differ ↦ elim differ [
        | inl less ↦ absurd (both_ways _ (are.apart g h less lt_h) ((bytes_eq-Decides _ _).1 same))
        | inr greater ↦ absurd (both_ways _ (are.apart h g greater lt_g) ((bytes_eq-Decides _ _).1 (sym same)))
      ]
    ]
