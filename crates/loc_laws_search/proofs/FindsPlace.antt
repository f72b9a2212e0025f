-- In a true index the search of a point finds its place (Sarnak and Tarjan 1986).
use Rattle.std.proofs.Common.{◌≡◌, ◌≢◌, ℕ, zero, suc, ◌+◌, ◌-◌, ◌*◌, ◌^◌, ◌<◌, ◌≤◌, Bool, true, false, List, [], ◌∷◌, ◌++◌, length, get_or, refl, sym, ◌∙◌, ap, subst, arith, append_assoc, append-nil, slice_get, ◌⊎◌, inl, inr}
use Rattle.std.specs.Prelude.{Option, Some, None, Ok, IfSome, find, count_by}
use Rattle.std.proofs.{Math.Pow.pow_mono, lemmas.Nat.mul-le, lemmas.List.length-append, lemmas.List.get_or-append-add}
use Rattle.std.proofs.lemmas.Bool.{and_from, lt-ltb, ltb-false, cases_lt, not-true}
use Rattle.std.proofs.{lemmas.List.FromFn.length-range_with_len, lemmas.List.Sums.count_by-le-length}
use Rattle.std.proofs.lemmas.Option.{slice_get_within, get_or_from_slice_get}
use Rattle.loc_spec_plane.specs.declared.Place.{Place}
use Rattle.loc_spec_plane.specs.declared.Place.TheVariants.{Corner, Border, Area}
use Rattle.loc_spec_plane.specs.Points.{Point, is_above, is_on, is_below, before, lies_on}
use Rattle.loc_spec_plane.specs.Tables.{Table, IsTable, corner, edge, corner_numbers, edge_numbers}
use Rattle.loc_spec_plane.specs.Places.{alive, alive_at, is_edge, is_corner_of, IsCornerless, IsListAt, IsVersion, IsPlace}
use Rattle.loc_spec_index.specs.{declared.NodeRow.NodeRow, Search.walk, Search.search_from}
use Rattle.loc_spec_index.specs.Nodes.{Side, Left, Right, Reads, nothing, node, child_of, row_of, led_to, IsShallow}
use Rattle.loc_spec_index.specs.Content.{Content, table_in, root_of}
use Rattle.loc_spec_index.specs.{TrueIndex.alive_count, TrueIndex.IsTrueIndex, Laws.SearchFindsPlace}
use Rattle.loc_status.specs.{Versions.AreVersions, Lists.IsLast}
use Rattle.loc_status.proofs.{Ends.at_seam, Lasts.last-snoc, Lasts.last-passes, Lasts.last_there}
use Rattle.loc_place.specs.{Planar.IsPlanar, Standing.IsBehind}
use Rattle.loc_place.proofs.{Cornerless.lies_on_is, Listed.listed_alive, Listed.in_area, Versions.version_there}
use Rattle.loc_laws_index.proofs.FlawKinds.{as_many, as_many_corners}
use Rattle.loc_laws_search.proofs.Counted.{stands-behind, is-corner}
use Rattle.loc_laws_search.proofs.Walking.{walk-none, walk-on, walk-left, walk-right, below-else}

-- ---- down a version

led-down : (rows : List NodeRow) (version n : ℕ) (side : Side) (sides : List Side) → (n ≡ 0 → ⊥) → led_to rows version (child_of rows version n side) sides ≢ 0 → led_to rows version n (side ∷ sides) ≢ 0
led-down rows version zero side sides some h = absurd (some refl)
led-down rows version (suc n) side sides some h = h

module _ (t : Table) (planar : IsPlanar t) (rows : List NodeRow) (p : Point) (clear : IsCornerless t p) (version : ℕ) (list : List ℕ) (is_list : IsListAt t p list) where
  -- the walk finds the place of p
  abbrev Finds : ℕ → ℕ → Option ℕ → Type 0
  Finds room n floor = (place : Place) × (walk t rows p version room n floor ≡ Ok place) × IsPlace t p place

  -- the edges around what is left: p is above the last before it, and below the first behind it
  record Around (front mid back : List ℕ) (floor : Option ℕ) : Type 0 where
    whole : front ++ (mid ++ back) ≡ list
    last : IsLast front floor
    above : IfSome floor (λ e. is_above (edge t e) p ≡ true)
    below : 0 < length back → is_below (edge t (get_or back 0 0)) p ≡ true

  area : (front back : List ℕ) (floor : Option ℕ) → Around front [] back floor → IsPlace t p (Area floor)
  area front back floor s =
      let whole : front ++ back ≡ list = s.whole in
      let n = length-append front back in
      let k = ap length whole in
      let start : length front + 0 ≡ length front = omega arith in
      in_area t p list is_list planar clear (length front) (omega (arith, n, k))
      (λ more. subst (λ es. is_above (edge t (get_or es (length front - 1) 0)) p ≡ true) whole (last-passes (λ e. is_above (edge t e) p) front back floor s.last s.above more))
      (λ less. subst (λ es. is_below (edge t (get_or es (length front) 0)) p ≡ true) whole (subst (λ i. is_below (edge t (get_or (front ++ back) i 0)) p ≡ true) start (subst (λ e. is_below (edge t e) p ≡ true) (sym (get_or-append-add front back 0 0)) (s.below (omega (arith, n, k, less))))))
      floor s.last.none (λ more. last_there front back floor s.last more ∙ ap (λ es. slice_get es (length front - 1)) whole)

  module _ (front us vs back : List ℕ) (floor : Option ℕ) (item : ℕ) (s : Around front (us ++ (item ∷ vs)) back floor) where
    around : (front ++ us) ++ (item ∷ (vs ++ back)) ≡ list
    around = append_assoc front us (item ∷ (vs ++ back)) ∙ (ap (λ z. front ++ z) (sym (append_assoc us (item ∷ vs) back)) ∙ s.whole)

    listed : (item < length t.ends) × (alive (edge t item) p ≡ true)
    listed =
        let place = length (front ++ us) in
        let there : slice_get list place ≡ Some item = subst (λ es. slice_get es place ≡ Some item) around (at_seam (front ++ us) (item ∷ (vs ++ back))) in
        subst (λ e. (e < length t.ends) × (alive (edge t e) p ≡ true)) (get_or_from_slice_get list place item 0 there) (listed_alive t p list is_list place (slice_get_within list place item there))

    border : is_on (edge t item) p ≡ true → IsPlace t p (Border item)
    border on = (clear, and_from (is_edge t item) (lies_on (edge t item) p) (lt-ltb item (length t.ends) listed.0) (lies_on_is t p clear planar.in_order item listed.0 ∙ and_from (is_on (edge t item) p) (alive (edge t item) p) on listed.1))

    to-left : is_below (edge t item) p ≡ true → Around front us (item ∷ (vs ++ back)) floor
    to-left below = record { whole = sym (append_assoc front us (item ∷ (vs ++ back))) ∙ around; last = s.last; above = s.above; below = λ more. below }

    to-right : is_above (edge t item) p ≡ true → Around ((front ++ us) ++ item ∷ []) vs back (Some item)
    to-right above = record { whole = append_assoc (front ++ us) (item ∷ []) (vs ++ back) ∙ around; last = last-snoc (front ++ us) item; above = above; below = s.below }

  choose : (e : ℕ) (G : Type 0) → (is_on (edge t e) p ≡ true → G) → (is_above (edge t e) p ≡ true → G) → (is_below (edge t e) p ≡ true → G) → G
  choose e G on above below = by (is_on (edge t e) p) (is_above (edge t e) p) refl refl
    where
      by : (a b : Bool) → is_on (edge t e) p ≡ a → is_above (edge t e) p ≡ b → G
      by true b ha hb = on ha
      by false true ha hb = above hb
      by false false ha hb = below (below-else (edge t e) p ha hb)

  -- no path has more nodes than there is room
  abbrev Fits : ℕ → ℕ → Type 0
  Fits room n = (sides : List Side) → led_to rows version n sides ≢ 0 → length sides + 1 ≤ room

  fits-child : (room n : ℕ) (side : Side) → (n ≡ 0 → ⊥) → Fits room n → Fits (room - 1) (child_of rows version n side)
  fits-child room n side some fits sides h = (let f = fits (side ∷ sides) (led-down rows version n side sides some h) in let l : length (side ∷ sides) ≡ suc (length sides) = refl in omega (arith, f, l))

  finds : {n : ℕ} {mid : List ℕ} → Reads rows version n mid → (room : ℕ) (floor : Option ℕ) (front back : List ℕ) → Around front mid back floor → Fits room n → Finds room n floor
  finds nothing room floor front back s fits = (Area floor, walk-none t rows p version room 0 floor refl, area front back floor s)
  finds {n} {mid} (node {before = us} {after = vs} nonzero within l r e) room floor front back s fits =
      let item = (row_of rows n).item in
      let some : n ≡ 0 → ⊥ = nonzero in
      let a = subst (λ m. Around front m back floor) e s in
      let more = fits [] some in
      choose item (Finds room n floor)
      (λ on. (Border item, walk-on t rows p version room n floor (row_of rows n) some more refl on, border front us vs back floor item a on))
      (λ above. (let f = finds r (room - 1) (Some item) ((front ++ us) ++ item ∷ []) back (to-right front us vs back floor item a above) (fits-child room n Right some fits) in
      (f.0, walk-right t rows p version room n floor (row_of rows n) some more refl above ∙ f.1, f.2)))
      (λ below. (let f = finds l (room - 1) floor front (item ∷ (vs ++ back)) (to-left front us vs back floor item a below) (fits-child room n Left some fits) in
      (f.0, walk-left t rows p version room n floor (row_of rows n) some more refl below ∙ f.1, f.2)))

  -- from the root
  finds-from : (root : ℕ) → Reads rows version root list → Fits 42 root → Finds 42 root None
  finds-from root reads fits = finds reads 42 None [] [] (record { whole = append-nil list; last = record { none = λ empty. refl; some = λ more. absurd (omega (arith, more)) }; above = tt; below = λ more. absurd (omega (arith, more)) }) fits

-- ---- depth

shallow-fits : (rows : List NodeRow) (version n k : ℕ) → k ≤ 2 ^ 21 → IsShallow rows version n k → (sides : List Side) → led_to rows version n sides ≢ 0 → length sides + 1 ≤ 42
shallow-fits rows version n k few shallow sides h = at (cases_lt (length sides + 1) 43)
  where
    square : (k + 1) * (k + 1) ≤ (2 ^ 21 + 1) * (2 ^ 21 + 1)
    square = mul-le (k + 1) (k + 1) (2 ^ 21 + 1) (2 ^ 21 + 1) (omega (arith, few)) (omega (arith, few))

    power : 2 ^ (length sides + 1) ≤ (k + 1) * (k + 1)
    power = ltb-false ((k + 1) * (k + 1)) (2 ^ (length sides + 1)) (not-true _ (shallow sides h))

    at : (length sides + 1 < 43) ⊎ (43 ≤ length sides + 1) → length sides + 1 ≤ 42
    at (inl less) = omega (arith, less)
    at (inr more) = absurd (let m = pow_mono more in omega (arith, m, power, square))

-- ---- the lists of all versions

record Chosen (P : ℕ → List ℕ → Type 0) (n : ℕ) : Type 0 where
  lists : List (List ℕ)
  as_many : length lists ≡ n
  each : (i : ℕ) → i < n → P i (get_or lists i [])

chosen : (P : ℕ → List ℕ → Type 0) (n : ℕ) → ((i : ℕ) → i < n → (l : List ℕ) × P i l) → Chosen P n
chosen P zero each = record { lists = []; as_many = refl; each = λ i lt. absurd (omega (arith, lt)) }
chosen P (suc n) each = more (each 0 (omega arith)) (chosen (λ i l. P (suc i) l) n (λ i lt. each (suc i) (omega (arith, lt))))
  where
    more : (l : List ℕ) × P 0 l → Chosen (λ i l. P (suc i) l) n → Chosen P (suc n)
    more first rest = record { lists = first.0 ∷ rest.lists; as_many = ap suc rest.as_many; each = at }
      where
        at : (i : ℕ) → i < suc n → P i (get_or (first.0 ∷ rest.lists) i [])
        at zero lt = first.1
        at (suc i) lt = rest.each i (omega (arith, lt))

-- ---- all versions

-- a list is that of a version, and is read from its root along short paths
record IsRead (c : Content) (i : ℕ) (l : List ℕ) : Type 0 where
  is_version : IsVersion (table_in c) i l
  reads : Reads c.nodes i (root_of c i) l
  fits : (sides : List Side) → led_to c.nodes i (root_of c i) sides ≢ 0 → length sides + 1 ≤ 42

few-alive : (c : Content) (i : ℕ) → alive_count (table_in c) i ≤ length c.edges
few-alive c i =
    let t = table_in c in
    let n = count_by-le-length (alive_at t (corner t i)) (edge_numbers t) in
    let l = length-range_with_len 0 (length t.ends) in
    let e = as_many c in
    omega (arith, n, l, e)

module _ (c : Content) (ok : IsTable (table_in c)) (holds : IsTrueIndex c) (few : length c.edges ≤ 2 ^ 21) (p : Point) where
  abbrev t : Table
  t = table_in c

  planar : IsPlanar t
  planar = record { in_order = ok; apart = holds.apart }

  read : (i : ℕ) → i < length t.corners → (l : List ℕ) × IsRead c i l
  read i lt =
      let n = as_many_corners c in
      let v = holds.versions i (omega (arith, lt, n)) in
      let k = few-alive c i in
      (v.list, record { is_version = v.is_version; reads = v.reads; fits = shallow-fits c.nodes i (root_of c i) (alive_count t i) (omega (arith, k, few)) v.shallow })

  all : Chosen (IsRead c) (length t.corners)
  all = chosen (IsRead c) (length t.corners) read

  versions : AreVersions t all.lists
  versions = record { as_many = all.as_many; are = λ i lt. (all.each i lt).is_version }

  abbrev Found-at : Option ℕ → ℕ → Type 0
  Found-at corner passed = (place : Place) × (search_from t c.nodes p c.roots corner passed ≡ Ok place) × IsPlace t p place

  behind-place : (passed : ℕ) → IsBehind t p passed → Found-at None passed
  behind-place zero behind =
      let list = version_there t ok all.lists versions p 0 behind in
      (Area None, refl, area t planar c.nodes p behind.cornerless 0 [] list [] [] None (record { whole = refl; last = record { none = λ empty. refl; some = λ more. absurd (omega (arith, more)) }; above = tt; below = λ more. absurd (omega (arith, more)) }))
  behind-place (suc i) behind =
      let within = behind.within in
      let r = all.each i (omega (arith, within)) in
      finds-from t planar c.nodes p behind.cornerless i (get_or all.lists i []) (version_there t ok all.lists versions p (suc i) behind) (root_of c i) r.reads r.fits

  any-place : (corner : Option ℕ) → find (is_corner_of t p) (corner_numbers t) ≡ corner → Found-at corner (count_by (λ k. before k p) t.corners)
  any-place (Some n) e = (Corner n, refl, is-corner t ok p n e)
  any-place None e = behind-place (count_by (λ k. before k p) t.corners) (stands-behind t ok p e)

pub search_finds_place : SearchFindsPlace
search_finds_place c ok holds few p = any-place c ok holds few p (find (is_corner_of (table_in c) p) (corner_numbers (table_in c))) refl
