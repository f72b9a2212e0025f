-- The groups of a layer, all together.
use Rattle.std.proofs.Common.{◌≡◌, ℕ, zero, suc, ◌+◌, ◌-◌, ◌<◌, ◌≤◌, Bool, false, ◌&&◌, ◌||◌, List, [], ◌∷◌, length, get_or, map, refl, sym, ◌∙◌, ap, ap₂, subst, arith}
use Rattle.std.specs.{Prelude.All, Prelude.not, List.list_any}
use Rattle.std.proofs.{Math.Path.fun_ext, lemmas.Bool.and_right, lemmas.Bool.false_from_ne_true}
use Rattle.std.proofs.{lemmas.List.get_or-map, lemmas.List.length-map, lemmas.List.Folds.list_any-append}
use Rattle.loc_spec_text.specs.Bytes.{Text}
use Rattle.loc_spec_plane.specs.{Lists.exactly_one, Lists.numbers, Lists.odd_many, Points.Point, Rays.crosses_right}
use Rattle.loc_spec_plane.specs.{Rings.Rings, Rings.covers, Covers.feature_count}
use Rattle.loc_spec_plane.specs.Tables.{Table, IsTable, AllEnds, AllEven, NoConflict, covers_by_marks, edge, edge_numbers, has_odd, noded_table_of, touches_by_marks}
use Rattle.loc_laws_order.proofs.Booleans.{or_none}
use Rattle.loc_laws_noding.specs.Laws.{NodedCount, NodedMarks}
use Rattle.loc_half.proofs.Corners.{range_more}
use Rattle.loc_rings.specs.Values.{Feature, rings_of}
use Rattle.loc_edges.specs.Layers.{layer_rings}
use Rattle.loc_faces.specs.Subdivision.{face_at, next_at}
use Rattle.loc_spec_groups.specs.Groups.{Group, dissolved, dissolved_group, group_names, group_polygons, group_table, is_member}
use Rattle.loc_laws_dissolve.specs.Laws.{by_member}
use Rattle.loc_dissolve.specs.Dissolving.{CoversAsMembers, HasKeptOnce, by_feature}
use Rattle.loc_dissolve.specs.Grouping.{AreGroups, ids_of, in_group}
use Rattle.loc_dissolve.proofs.{Crossed.odd_below, Grouped.covers_so, Grouped.once}

-- the features that are marked have groups
pub few_features : (layer : List Feature) (t : Table) → t ≡ noded_table_of (layer_rings layer) → NodedCount → (firsts groups : List ℕ) → AreGroups (ids_of layer) firsts groups → feature_count t ≤ length groups
few_features layer t is count firsts groups are = let many = are.as_many in omega (arith, ap feature_count is, (count (layer_rings layer)).2, length-map layer rings_of, many, length-map layer (λ (f : Feature). f.id))

-- a group as it was made
pub group_is : (t : Table) (ids : List Text) (firsts groups : List ℕ) → AreGroups ids firsts groups → (n : ℕ) → n < length firsts → (id : Text) → id ≡ get_or ids (get_or firsts n 0) [] → (polygons : List Rings)
    → polygons ≡ group_polygons t (in_group groups n) (next_at (group_table t (in_group groups n))) (face_at (group_table t (in_group groups n))) → record { id = id; polygons = polygons } ≡ dissolved_group next_at face_at t ids (get_or ids (get_or firsts n 0) [])
group_is t ids firsts groups are n lt id id_is polygons is =
    ap₂ (λ (i : Text) (ps : List Rings). record { id = i; polygons = ps }) id_is (is ∙ ap (λ (m : ℕ → Bool). group_polygons t m (next_at (group_table t m)) (face_at (group_table t m))) (are.members n lt))

-- all of them
pub all_groups : (t : Table) (ids : List Text) (firsts groups : List ℕ) → AreGroups ids firsts groups → map (λ f. dissolved_group next_at face_at t ids (get_or ids f [])) firsts ≡ dissolved next_at face_at t ids
all_groups t ids firsts groups are = map_twice firsts ∙ ap (map (dissolved_group next_at face_at t ids)) are.names
  where
    map_twice : (fs : List ℕ) → map (λ f. dissolved_group next_at face_at t ids (get_or ids f [])) fs ≡ map (dissolved_group next_at face_at t ids) (map (λ f. get_or ids f []) fs)
    map_twice [] = refl
    map_twice (f ∷ fs) = ap (λ (l : List Group). dissolved_group next_at face_at t ids (get_or ids f []) ∷ l) (map_twice fs)

-- what holds of the group of each id holds of all groups
all_dissolved : (t : Table) (ids : List Text) (P : Group → Type 0) → ((id : Text) → P (dissolved_group next_at face_at t ids id)) → All P (dissolved next_at face_at t ids)
all_dissolved t ids P each k d lt =
    let short : k < length (group_names ids) = omega (arith, lt, length-map (group_names ids) (dissolved_group next_at face_at t ids)) in
    subst P (sym (get_or-map (dissolved_group next_at face_at t ids) (group_names ids) k [] d short)) (each (get_or (group_names ids) k []))

-- a test that no number from m on passes
any_longer : (p : ℕ → Bool) (m k : ℕ) → ((j : ℕ) → m ≤ j → p j ≡ false) → list_any p (numbers (m + k)) ≡ list_any p (numbers m)
any_longer p m zero none = ap (λ n. list_any p (numbers n)) (let is : m + 0 ≡ m = omega arith in is)
any_longer p m (suc k) none =
    ap (λ n. list_any p (numbers n)) (let is : m + suc k ≡ (m + k) + 1 = omega arith in is) ∙ (ap (list_any p) (range_more 0 (m + k) (m + k) (omega arith)) ∙ (list_any-append p (numbers (m + k)) ((m + k) ∷ [])
    ∙ (ap (λ b. list_any p (numbers (m + k)) || (b || false)) (none (m + k) (omega arith)) ∙ (or_none (list_any p (numbers (m + k))) ∙ any_longer p m k none))))

odd_none : {X : Type 0} (test : X → Bool) (xs : List X) → ((x : X) → test x ≡ false) → odd_many test xs ≡ false
odd_none test [] none = refl
odd_none test (x ∷ xs) none = ap₂ exactly_one (none x) (odd_none test xs none)

-- a feature that is not marked covers nothing
unmarked : (t : Table) → IsTable t → (f : ℕ) (p : Point) → feature_count t ≤ f → covers_by_marks t f p ≡ false
unmarked t ok f p past = and_right (not (touches_by_marks t f p)) _ (odd_none (λ e. has_odd t f e && crosses_right (edge t e) p) (edge_numbers t)
    (λ e. ap (λ b. b && crosses_right (edge t e) p) (false_from_ne_true (has_odd t f e) (λ odd. (let lt = odd_below t ok e f odd in omega (arith, lt, past))))))

-- what a member covers by its marks is what a feature with the id covers by its rings
members_are : (layer : List Feature) (t : Table) → t ≡ noded_table_of (layer_rings layer) → IsTable t → NodedCount → NodedMarks → (id : Text) (p : Point) → by_member t (is_member (ids_of layer) id) p ≡ by_feature layer id p
members_are layer t is ok count marks id p =
    ap (λ (q : ℕ → Bool). list_any q (numbers (feature_count t))) (fun_ext (λ f. ap (λ b. is_member (ids_of layer) id f && b) (by_rings f)))
    ∙ sym (ap (λ n. list_any passes (numbers n)) all ∙ any_longer passes (feature_count t) (length layer - feature_count t) (λ f past. and_right (is_member (ids_of layer) id f) _ (sym (by_rings f) ∙ unmarked t ok f p past)))
  where
    by_rings : (f : ℕ) → covers_by_marks t f p ≡ covers (get_or (layer_rings layer) f []) p
    by_rings f = ap (λ (table : Table). covers_by_marks table f p) is ∙ (marks (layer_rings layer) f p).1

    passes : ℕ → Bool
    passes f = is_member (ids_of layer) id f && covers (get_or (layer_rings layer) f []) p

    all : length layer ≡ feature_count t + (length layer - feature_count t)
    all = omega (arith, ap feature_count is, (count (layer_rings layer)).2, length-map layer rings_of)

module _ (layer : List Feature) (t : Table) (is : t ≡ noded_table_of (layer_rings layer)) (ok : IsTable t) (ended : AllEnds t) (even : AllEven t) (apart : NoConflict t) where
  -- each group has its kept edges once
  pub all_once : All (HasKeptOnce t (ids_of layer)) (dissolved next_at face_at t (ids_of layer))
  all_once = all_dissolved t (ids_of layer) (HasKeptOnce t (ids_of layer)) (λ id. once t (is_member (ids_of layer) id) ok ended even apart)

  -- and covers what its members cover
  pub all_covering : NodedCount → NodedMarks → All (CoversAsMembers t layer) (dissolved next_at face_at t (ids_of layer))
  all_covering count marks = all_dissolved t (ids_of layer) (CoversAsMembers t layer) (λ id p off. covers_so t (is_member (ids_of layer) id) ok ended even apart p off ∙ members_are layer t is ok count marks id p)
