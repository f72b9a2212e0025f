-- What following the list of a version says of the version.
use Rattle.std.proofs.Common.{◌≡◌, ◌≢◌, ℕ, zero, suc, ◌+◌, ◌*◌, ◌^◌, ◌<◌, ◌≤◌, true, ◌||◌, List, [], ◌∷◌, ◌++◌, length, get_or, filter, take, drop, refl, sym, ◌∙◌, ap, subst, append-nil, length-take-le, inl, inr, arith}
use Rattle.std.specs.{Prelude.IsTrue, Prelude.nat_lt, Prelude.slice_get, List.IsDistinct, Set.is_member}
use Rattle.std.proofs.{Math.Dec.eqb, lemmas.Cmp.nat_eq_equiv, Math.Seq.take-append_seam}
use Rattle.std.proofs.lemmas.Bool.{and_parts, cases_eq, cases_lt, eq-eqb, lt-ltb, ltb-true, ne_eqb, or_left, or_right}
use Rattle.std.proofs.lemmas.Option.{none-some, slice_get-get_or, slice_get_past}
use Rattle.std.proofs.{lemmas.List.drop_all, lemmas.List.take_all, lemmas.List.Sums.length-filter}
use Rattle.std.proofs.{lemmas.Map.Keys.IsDistinct-from_apart, lemmas.Map.Made.length-le_from_is_member}
use Rattle.loc_spec_plane.specs.{Lists.is_in, Points.Point, Tables.Table, Tables.corner, Tables.edge_numbers}
use Rattle.loc_spec_plane.specs.Places.{IsListAt, IsVersion, alive_at}
use Rattle.loc_laws_order.proofs.{Kept.numbers_rise, Kept.rising_kept, TableOrder.rises}
use Rattle.loc_laws_rays.proofs.Members.{is_in-filter}
use Rattle.loc_place.proofs.ListCounts.{is_in_member, listed_count}
use Rattle.loc_spec_index.specs.{declared.NodeRow.NodeRow, Content.Content, Content.table_in, Content.root_of}
use Rattle.loc_spec_index.specs.Nodes.{Side, Left, Right, Reads, nothing, node, child_of, is_deep, IsShallow, led_to, row_of}
use Rattle.loc_spec_index.specs.TrueIndex.{IsTrueVersion, alive_count}
use Rattle.loc_spec_index.specs.{Flaws.DifferFirstAt, Flaws.IsDeepIn, Flaws.IsMisread, IndexFile.IsFileOf}
use Rattle.loc_laws_index.proofs.{FileFacts.child-there, Reading.shallow-within}
use Rattle.loc_status.proofs.Ends.{at_seam}
use Rattle.loc_verify.specs.Readings.{HasLongPath, IsReadFrom, PartsAt, PartsFrom, StaysWithin}
use Rattle.loc_verify.proofs.LevelSteps.{led_front}

-- ---- as many edges are alive as stand in the list
member_is_in : (q : ℕ) (es : List ℕ) → is_in q es ≡ true → is_member eqb es q ≡ true
member_is_in q [] here = here
member_is_in q (e ∷ es) here = elim (cases_eq q e) [
  | inl same ↦ or_left (eqb q e) (is_member eqb es q) (eq-eqb q e same)
  | inr other ↦ or_right (eqb q e) (is_member eqb es q) (member_is_in q es (sym (ap (λ b. b || is_in q es) (ne_eqb e q (λ same. other (sym same)))) ∙ here))
]

alive_listed : (t : Table) (p : Point) (es : List ℕ) → IsListAt t p es → length (filter (alive_at t p) (edge_numbers t)) ≤ length es
alive_listed t p es is_list = length-le_from_is_member nat_eq_equiv (filter (alive_at t p) (edge_numbers t)) es distinct (λ q here. member_is_in q es
    (is_list.exact q ∙ (and_parts (is_in q (edge_numbers t)) (alive_at t p q) (sym (is_in-filter (alive_at t p) q (edge_numbers t)) ∙ is_in_member q (filter (alive_at t p) (edge_numbers t)) here)).1))
  where
    ns : List ℕ
    ns = filter (alive_at t p) (edge_numbers t)

    distinct : IsDistinct eqb ns
    distinct = IsDistinct-from_apart eqb ns (λ i j d less fits. (let low : get_or ns i d < get_or ns j d = ltb-true _ _ (rises nat_lt d ns i j (rising_kept (alive_at t p) nat_lt (edge_numbers t) (numbers_rise (length t.ends))) less fits) in ne_eqb (get_or ns i d) (get_or ns j d) (λ same. omega (arith, low, same))))

pub counted : (t : Table) (i : ℕ) (list : List ℕ) → IsVersion t i list → length list ≡ alive_count t i
counted t i list is_list =
    let few = listed_count t (corner t i) list is_list in
    let many = alive_listed t (corner t i) list is_list in
    let n = length-filter (alive_at t (corner t i)) (edge_numbers t) in
    omega (arith, few, many, n)

-- ---- the bound
module _ (rows : List NodeRow) (version root k room : ℕ) where
  pub too_deep : (k + 1) * (k + 1) < 2 ^ (room + 1) → HasLongPath rows version root room → (sides : List Side) × (led_to rows version root sides ≢ 0) × IsTrue (is_deep k (length sides + 1))
  too_deep past path = (path.0, path.1, lt-ltb ((k + 1) * (k + 1)) (2 ^ (length path.0 + 1)) (subst (λ r. (k + 1) * (k + 1) < 2 ^ (r + 1)) (sym path.2) past))

  -- no path has so many turns, so none has more
  pub none_longer : (HasLongPath rows version root room → ⊥) → StaysWithin rows version root room
  none_longer none sides led = elim (cases_lt (length sides) room) [
    | inl less ↦ less
    | inr more ↦ absurd (none (take room sides, led_front rows version room root sides led, length-take-le room sides more))
  ]

-- ---- a reading
module _ (c : Content) {v : ℕ} (bytes : List ℕ) (file : IsFileOf v c bytes) (version : ℕ) where
  -- where no path is too long there is a reading
  pub readable : (room n : ℕ) → n ≤ length c.nodes → StaysWithin c.nodes version n room → (items : List ℕ) × Reads c.nodes version n items
  readable room zero fits stays = ([], nothing)
  readable zero (suc n) fits stays = (let less = stays [] (λ none. omega (arith, none)) in absurd (omega (arith, less)))
  readable (suc room) (suc n) fits stays =
      let l = readable room (child_of c.nodes version (suc n) Left) (child-there c bytes file version (suc n) Left) (λ sides led. (let less = stays (Left ∷ sides) led in omega (arith, less))) in
      let r = readable room (child_of c.nodes version (suc n) Right) (child-there c bytes file version (suc n) Right) (λ sides led. (let less = stays (Right ∷ sides) led in omega (arith, less))) in
      (l.0 ++ ((row_of c.nodes (suc n)).item ∷ r.0), node {n = suc n} {before = l.0} {after = r.0} {items = l.0 ++ ((row_of c.nodes (suc n)).item ∷ r.0)} (omega arith) fits l.1 r.1 refl)

-- ---- where lists differ
front_taken : (xs ys : List ℕ) (n : ℕ) → n ≡ length xs → take n (xs ++ ys) ≡ xs
front_taken xs ys n is = ap (λ k. take k (xs ++ ys)) is ∙ take-append_seam xs ys

parts_differ : (items list : List ℕ) (next : ℕ) → PartsAt items list 0 next → DifferFirstAt items list next
parts_differ items list next p =
    let at : next ≡ length p.before = (let n = p.count in omega (arith, n)) in (
      ap (take next) p.whole ∙ (front_taken p.before (p.item ∷ p.after) next at ∙ sym (ap (take next) p.goes_with ∙ front_taken p.before (drop next list) next at)),
      λ same. p.differs (sym same ∙ (ap (λ xs. slice_get xs next) p.whole ∙ (ap (slice_get (p.before ++ p.item ∷ p.after)) at ∙ at_seam p.before (p.item ∷ p.after)))),
    )

module _ (c : Content) {v : ℕ} (bytes : List ℕ) (file : IsFileOf v c bytes) (i : ℕ) (list : List ℕ) (version : IsVersion (table_in c) i list) (room : ℕ)
    (fits : 2 ^ room ≤ (length list + 1) * (length list + 1)) (past : (length list + 1) * (length list + 1) < 2 ^ (room + 1)) where
  n : ℕ
  n = root_of c i

  same : length list ≡ alive_count (table_in c) i
  same = counted (table_in c) i list version

  is_shallow : StaysWithin c.nodes i (root_of c i) room → IsShallow c.nodes i (root_of c i) (alive_count (table_in c) i)
  is_shallow stays = subst (IsShallow c.nodes i (root_of c i)) same (shallow-within c.nodes i (root_of c i) (length list) room fits stays)

  pub deep_there : HasLongPath c.nodes i (root_of c i) room → IsDeepIn c i
  deep_there path = subst (λ k. (sides : List Side) × (led_to c.nodes i (root_of c i) sides ≢ 0) × IsTrue (is_deep k (length sides + 1))) same (too_deep c.nodes i (root_of c i) (length list) room past path)

  -- the whole list was read
  pub true_there : (read : ℕ) → read ≡ length list → IsReadFrom c.nodes i (root_of c i) list 0 read → StaysWithin c.nodes i (root_of c i) room → IsTrueVersion c i
  true_there read whole from stays = record {
    list = list;
    is_version = version;
    shallow = is_shallow stays;
    reads = subst (Reads c.nodes i (root_of c i)) (sym (from.goes_with ∙ (ap (λ xs. from.items ++ xs) (drop_all read list (omega (arith, whole))) ∙ append-nil from.items))) from.reads;
  }

  -- it ended before the list did
  pub short_there : (read : ℕ) → read ≢ length list → IsReadFrom c.nodes i (root_of c i) list 0 read → StaysWithin c.nodes i (root_of c i) room → IsMisread c i read
  short_there read other from stays =
      let at : read ≡ length from.items = (let k = from.count in omega (arith, k)) in
      let less : read < length list = (let w = from.within in let ne : read ≢ length list = other in omega (arith, w, ne)) in
      record {
        list = list;
        read = from.items;
        is_version = version;
        shallow = is_shallow stays;
        reads = from.reads;
        differ = (take_all read from.items (omega (arith, at)) ∙ sym (ap (take read) from.goes_with ∙ front_taken from.items (drop read list) read at), λ alike. none-some _ (sym (sym alike ∙ slice_get_past from.items read (omega (arith, at))) ∙ slice_get-get_or list read 0 less));
      }

  -- it has another item
  pub differs_there : root_of c i ≤ length c.nodes → (position : ℕ) → PartsFrom c.nodes i (root_of c i) list 0 position → (HasLongPath c.nodes i (root_of c i) room → ⊥) → IsMisread c i position
  differs_there there position parts none =
      let stays = none_longer c.nodes i (root_of c i) 0 room none in
      let r = readable c bytes file i room (root_of c i) there stays in
      record {
        list = list;
        read = r.0;
        is_version = version;
        shallow = is_shallow stays;
        reads = r.1;
        differ = parts_differ r.0 list position (parts.1 r.0 r.1);
      }
