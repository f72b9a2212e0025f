-- What right fields say of the rows of a file: each is in its bounds, and each comes behind the one before it.
use Rattle.std.proofs.Common.{◌≡◌, ℕ, zero, suc, ◌+◌, ◌-◌, ◌^◌, ◌<◌, ◌≤◌, Bool, true, false, ◌&&◌, ◌||◌, List, [], ◌∷◌, ◌++◌, length, map, get_or, refl, sym, ◌∙◌, ap, subst, arith, inl, inr}
use Rattle.std.specs.Prelude.{Option, Some, None, nat_lt, ◌==◌, ◌⊎◌, min, sum_by, IfSome, if◌then◌else◌}
use Rattle.std.specs.{List.flat_map, List.last_or, List.list_all, Int.w32}
use Rattle.std.proofs.lemmas.Bool.{and_parts, and_from, or_cases, or_left, or_right, ltb-true, lt-ltb, eqb-true, eq-eqb, cond-true}
use Rattle.std.proofs.lemmas.List.Sums.{sum_by-append}
use Rattle.loc_spec_plane.specs.{Points.Point, Points.before, Lists.is_rising, Covers.list_before, declared.Mark.Mark}
use Rattle.loc_spec_plane.specs.Tables.{pair_before}
use Rattle.loc_laws_order.proofs.Sides.{before_trans}
use Rattle.loc_spec_index.specs.declared.NodeRow.{NodeRow}
use Rattle.loc_spec_index.specs.{declared.Part.TheVariants.Edges, declared.Part.TheVariants.Covers, Content.EdgeRow}
use Rattle.loc_spec_index.specs.IndexFile.{Field, number, order, none_or_next, follows, are_right, rows_from, is_rising_pair, names_sources, source_fields, corner_fields, edge_fields, id_fields, edge_row_before, mark_fields, mark_row_before, cover_fields, node_fields}
use Rattle.loc_laws_index.proofs.{Progress.flat-rows, Progress.map-rows, RightFields.all-hold, RightFields.right-parts}

-- ---- rows of any kind

module _ {X : Type 0} (lt : X → X → Bool) where
  -- each comes behind the one before it
  abbrev pub Chain : Option X → List X → Type 0
  Chain last [] = Unit {0}
  Chain last (x ∷ xs) = (follows lt last x ≡ true) × Chain (Some x) xs

  -- neighbours of a rising list
  pub rising-chain : (xs : List X) → is_rising lt xs ≡ true → Chain None xs
  rising-chain [] h = tt
  rising-chain (x ∷ xs) h = (refl, behind x xs h)
    where
      behind : (x : X) (xs : List X) → is_rising lt (x ∷ xs) ≡ true → Chain (Some x) xs
      behind x [] h = tt
      behind x (y ∷ ys) h = let p = and_parts (list_all (lt x) (y ∷ ys)) (is_rising lt (y ∷ ys)) h in ((and_parts (lt x y) (list_all (lt x) ys) p.0).0, behind y ys p.1)

  module _ (trans : (x y z : X) → lt x y ≡ true → lt y z ≡ true → lt x z ≡ true) where
    chain-all : (x : X) (xs : List X) → Chain (Some x) xs → list_all (lt x) xs ≡ true
    chain-all x [] c = refl
    chain-all x (y ∷ ys) c = and_from (lt x y) (list_all (lt x) ys) c.0 (chain-all x ys (past ys c.1))
      where
        past : (zs : List X) → Chain (Some y) zs → Chain (Some x) zs
        past [] d = tt
        past (z ∷ zs) d = (trans x y z c.0 d.0, d.1)

    pub chain-rising : (o : Option X) (xs : List X) → Chain o xs → is_rising lt xs ≡ true
    chain-rising o [] c = refl
    chain-rising o (x ∷ xs) c = and_from (list_all (lt x) xs) (is_rising lt xs) (chain-all x xs c.1) (chain-rising (Some x) xs c.1)

pub last-is : {X : Type 0} (o : Option X) (earlier : List X) (x : X) → last_or o (earlier ++ x ∷ []) ≡ Some x
last-is o [] x = refl
last-is o (y ∷ earlier) x = last-is (Some y) earlier x

-- what the fields of each row say of it, and of the one before it
module _ {X : Type 0} (row : List X → X → List Field) (P : X → Type 0) where
  pub rows-each : ((earlier : List X) (x : X) → are_right (row earlier x) ≡ true → P x) → (earlier xs : List X) → are_right (rows_from row earlier xs) ≡ true → (i : ℕ) (d : X) → i < length xs → P (get_or xs i d)
  rows-each each earlier [] h i d lt = absurd (omega (arith, lt))
  rows-each each earlier (x ∷ xs) h zero d lt = each earlier x (right-parts (row earlier x) (rows_from row (earlier ++ x ∷ []) xs) h).0
  rows-each each earlier (x ∷ xs) h (suc i) d lt = rows-each each (earlier ++ x ∷ []) xs (right-parts (row earlier x) (rows_from row (earlier ++ x ∷ []) xs) h).1 i d (omega (arith, lt))

  module _ (lt : X → X → Bool) (trans : (x y z : X) → lt x y ≡ true → lt y z ≡ true → lt x z ≡ true) (each : (earlier : List X) (x : X) → are_right (row earlier x) ≡ true → P x × (follows lt (last_or None earlier) x ≡ true)) where
    chain-rows : (earlier xs : List X) → are_right (rows_from row earlier xs) ≡ true → Chain lt (last_or None earlier) xs
    chain-rows earlier [] h = tt
    chain-rows earlier (x ∷ xs) h =
        let p = right-parts (row earlier x) (rows_from row (earlier ++ x ∷ []) xs) h in
        ((each earlier x p.0).1, subst (λ o. Chain lt o xs) (last-is None earlier x) (chain-rows (earlier ++ x ∷ []) xs p.1))

    pub rows-in-order : (xs : List X) → are_right (rows_from row [] xs) ≡ true → ((i : ℕ) (d : X) → i < length xs → P (get_or xs i d)) × (is_rising lt xs ≡ true)
    rows-in-order xs h = (rows-each (λ earlier x r. (each earlier x r).0) [] xs h, chain-rising lt trans None xs (chain-rows [] xs h))

-- rows by themselves
pub flat-each : {X : Type 0} (row : X → List Field) (P : X → Type 0) → ((x : X) → are_right (row x) ≡ true → P x) → (xs : List X) → are_right (flat_map row xs) ≡ true → (i : ℕ) (d : X) → i < length xs → P (get_or xs i d)
flat-each row P each xs h = rows-each (λ _. row) P (λ _. each) [] xs (subst (λ fs. are_right fs ≡ true) (sym (flat-rows row [] xs)) h)

pub map-each : {X : Type 0} (field : X → Field) (P : X → Type 0) → ((x : X) → are_right (field x ∷ []) ≡ true → P x) → (xs : List X) → are_right (map field xs) ≡ true → (i : ℕ) (d : X) → i < length xs → P (get_or xs i d)
map-each field P each xs h = rows-each (λ _ x. field x ∷ []) P (λ _. each) [] xs (subst (λ fs. are_right fs ≡ true) (sym (map-rows field [] xs)) h)

-- ---- orders by a first number, and then by something else

pub by-first : (x y : ℕ) (p : Bool) → (nat_lt x y || ((x == y) && p)) ≡ true → (x < y) ⊎ ((x ≡ y) × (p ≡ true))
by-first x y p h = elim (or_cases (nat_lt x y) _ h) [ inl l ↦ inl (ltb-true x y l) | inr r ↦ (let s = and_parts (x == y) p r in inr (eqb-true x y s.0, s.1)) ]

first-trans : (x y z : ℕ) (p q r : Bool) → (p ≡ true → q ≡ true → r ≡ true) → (nat_lt x y || ((x == y) && p)) ≡ true → (nat_lt y z || ((y == z) && q)) ≡ true → (nat_lt x z || ((x == z) && r)) ≡ true
first-trans x y z p q r rest h k = by (by-first x y p h) (by-first y z q k)
  where
    less : x < z → (nat_lt x z || ((x == z) && r)) ≡ true
    less l = or_left (nat_lt x z) _ (lt-ltb x z l)

    by : (x < y) ⊎ ((x ≡ y) × (p ≡ true)) → (y < z) ⊎ ((y ≡ z) × (q ≡ true)) → (nat_lt x z || ((x == z) && r)) ≡ true
    by (inl l) (inl m) = less (omega (arith, l, m))
    by (inl l) (inr (e, b)) = less (omega (arith, l, e))
    by (inr (e, a)) (inl m) = less (omega (arith, e, m))
    by (inr (e, a)) (inr (f, b)) = or_right (nat_lt x z) _ (and_from (x == z) r (eq-eqb x z (e ∙ f)) (rest a b))

pub pair-trans : (a b c : ℕ × ℕ) → pair_before a b ≡ true → pair_before b c ≡ true → pair_before a c ≡ true
pair-trans a b c = first-trans a.0 b.0 c.0 _ _ _ (λ h k. (let l = ltb-true a.1 b.1 h in let m = ltb-true b.1 c.1 k in lt-ltb a.1 c.1 (omega (arith, l, m))))

list-trans : (xs ys zs : List ℕ) → list_before xs ys ≡ true → list_before ys zs ≡ true → list_before xs zs ≡ true
list-trans [] [] zs h k = k
list-trans [] (y ∷ ys) [] h k = k
list-trans [] (y ∷ ys) (z ∷ zs) h k = refl
list-trans (x ∷ xs) [] zs h k = absurd (let e : false ≡ true = h in cc)
list-trans (x ∷ xs) (y ∷ ys) [] h k = k
list-trans (x ∷ xs) (y ∷ ys) (z ∷ zs) h k = first-trans x y z _ _ _ (list-trans xs ys zs) h k

-- ---- the rows of each part

pub corners-rise : (ps : List Point) → are_right (rows_from corner_fields [] ps) ≡ true → is_rising before ps ≡ true
corners-rise ps h = (rows-in-order corner_fields (λ _. Unit {0}) before before_trans (λ earlier p r. (tt, (all-hold (corner_fields earlier p) r).1.1.0)) ps h).1

-- an edge in its bounds
abbrev pub IsEdgeIn : ℕ → ℕ → EdgeRow → Type 0
IsEdgeIn nv nc e = (e.ends.0 < e.ends.1) × (e.ends.1 < nv) × (e.cover < nc)

edge-facts : (v nv nc : ℕ) (earlier : List EdgeRow) (e : EdgeRow) → are_right (edge_fields v nv nc earlier e) ≡ true → IsEdgeIn nv nc e × (follows edge_row_before (last_or None earlier) e ≡ true)
edge-facts v nv nc earlier e h =
    let front = number w32 nv e.ends.0 ∷ number w32 nv e.ends.1 ∷ number w32 nc e.cover ∷ source_fields v nv e.source in
    let last = order Edges (length earlier) ((is_rising_pair e.ends && is_rising_pair e.source) && follows edge_row_before (last_or None earlier) e) ∷ [] in
    let p = right-parts front last h in
    let n = all-hold front p.0 in
    let s = and_parts (is_rising_pair e.ends && is_rising_pair e.source) _ (all-hold last p.1).0 in
    ((ltb-true e.ends.0 e.ends.1 (and_parts (is_rising_pair e.ends) _ s.0).0, n.1.0, n.1.1.0), s.1)

pub edges-in-order : (v nv nc : ℕ) (es : List EdgeRow) → are_right (rows_from (edge_fields v nv nc) [] es) ≡ true → ((i : ℕ) (d : EdgeRow) → i < length es → IsEdgeIn nv nc (get_or es i d)) × (is_rising edge_row_before es ≡ true)
edges-in-order v nv nc es h = rows-in-order (edge_fields v nv nc) (IsEdgeIn nv nc) edge_row_before (λ x y z. pair-trans x.ends y.ends z.ends) (edge-facts v nv nc) es h

-- the source of an edge goes up, and where the version names it, to a corner that is there
abbrev pub IsSourceIn : ℕ → ℕ → EdgeRow → Type 0
IsSourceIn v nv e = (e.source.0 < e.source.1) × (names_sources v ≡ true → e.source.1 < nv)

source-facts : (v nv nc : ℕ) (earlier : List EdgeRow) (e : EdgeRow) → are_right (edge_fields v nv nc earlier e) ≡ true → IsSourceIn v nv e × (follows edge_row_before (last_or None earlier) e ≡ true)
source-facts v nv nc earlier e h =
    let three = number w32 nv e.ends.0 ∷ number w32 nv e.ends.1 ∷ number w32 nc e.cover ∷ [] in
    let last = order Edges (length earlier) ((is_rising_pair e.ends && is_rising_pair e.source) && follows edge_row_before (last_or None earlier) e) ∷ [] in
    let p = right-parts (three ++ source_fields v nv e.source) last h in
    let q = right-parts three (source_fields v nv e.source) p.0 in
    let s = and_parts (is_rising_pair e.ends && is_rising_pair e.source) _ (all-hold last p.1).0 in (
      (
        ltb-true e.source.0 e.source.1 (and_parts (is_rising_pair e.ends) (is_rising_pair e.source) s.0).1,
        λ named. (let two = number w32 nv e.source.0 ∷ number w32 nv e.source.1 ∷ [] in
            let fields : are_right two ≡ true = ap are_right (sym (cond-true (names_sources v) two [] named)) ∙ q.1 in
            (all-hold two fields).1.0),
      ),
      s.1,
    )

pub sources-in : (v nv nc : ℕ) (es : List EdgeRow) → are_right (rows_from (edge_fields v nv nc) [] es) ≡ true → (i : ℕ) (d : EdgeRow) → i < length es → IsSourceIn v nv (get_or es i d)
sources-in v nv nc es h = (rows-in-order (edge_fields v nv nc) (IsSourceIn v nv) edge_row_before (λ x y z. pair-trans x.ends y.ends z.ends) (source-facts v nv nc) es h).0

-- a mark in its bounds
abbrev pub IsMarkIn : ℕ → ℕ → ℕ × Mark → Type 0
IsMarkIn ne nf m = (m.0 < ne) × (m.1.feature < nf)

pub marks-in-order : (ne nf : ℕ) (ms : List (ℕ × Mark)) → are_right (rows_from (mark_fields ne nf) [] ms) ≡ true → ((i : ℕ) (d : ℕ × Mark) → i < length ms → IsMarkIn ne nf (get_or ms i d)) × (is_rising mark_row_before ms ≡ true)
marks-in-order ne nf ms h = rows-in-order (mark_fields ne nf) (IsMarkIn ne nf) mark_row_before (λ x y z. pair-trans (x.0, x.1.feature) (y.0, y.1.feature) (z.0, z.1.feature))
    (λ earlier m r. (let p = all-hold (mark_fields ne nf earlier m) r in ((p.0, p.1.0), p.1.1.1.0))) ms h

-- a cover list in its bounds
abbrev pub IsListIn : ℕ → List ℕ → Type 0
IsListIn nf list = (is_rising nat_lt list ≡ true) × ((i d : ℕ) → i < length list → get_or list i d < nf)

list-facts : (nf : ℕ) (earlier : List (List ℕ)) (list : List ℕ) → are_right (cover_fields nf earlier list) ≡ true → IsListIn nf list × (follows list_before (last_or None earlier) list ≡ true) × (length list < min nf (2 ^ 24 - sum_by length earlier) + 1)
list-facts nf earlier list h =
    let front = number w32 (min nf (2 ^ 24 - sum_by length earlier) + 1) (length list) ∷ [] in
    let last = order Covers (length earlier) (is_rising nat_lt list && follows list_before (last_or None earlier) list) ∷ [] in
    let p = right-parts front (map (number w32 nf) list ++ last) h in
    let q = right-parts (map (number w32 nf) list) last p.1 in
    let s = and_parts (is_rising nat_lt list) _ (all-hold last q.1).0 in
    ((s.0, map-each (number w32 nf) (λ f. f < nf) (λ f r. (all-hold (number w32 nf f ∷ []) r).0) list q.0), s.1, (all-hold front p.0).0)

pub lists-in-order : (nf : ℕ) (ls : List (List ℕ)) → are_right (rows_from (cover_fields nf) [] ls) ≡ true → ((i : ℕ) (d : List ℕ) → i < length ls → IsListIn nf (get_or ls i d)) × (is_rising list_before ls ≡ true)
lists-in-order nf ls h = rows-in-order (cover_fields nf) (IsListIn nf) list_before list-trans (λ earlier l r. (let p = list-facts nf earlier l r in (p.0, p.1))) ls h

few-from : (nf : ℕ) (earlier ls : List (List ℕ)) → sum_by length earlier ≤ 2 ^ 24 → are_right (rows_from (cover_fields nf) earlier ls) ≡ true → sum_by length earlier + sum_by length ls ≤ 2 ^ 24
few-from nf earlier [] few h = omega (arith, few)
few-from nf earlier (l ∷ ls) few h =
    let p = right-parts (cover_fields nf earlier l) (rows_from (cover_fields nf) (earlier ++ l ∷ []) ls) h in
    let s = (list-facts nf earlier l p.0).2 in
    let a = sum_by-append length earlier (l ∷ []) in
    let one : sum_by length (l ∷ []) ≡ 0 + length l = refl in
    let all : sum_by length (l ∷ ls) ≡ sum_by length (l ∷ []) + sum_by length ls = sum_by-append length (l ∷ []) ls in
    let r = few-from nf (earlier ++ l ∷ []) ls (omega (arith, few, s, a, one)) p.1 in
    omega (arith, r, a, one, all)

pub lists-few : (nf : ℕ) (ls : List (List ℕ)) → are_right (rows_from (cover_fields nf) [] ls) ≡ true → sum_by length ls ≤ 2 ^ 24
lists-few nf ls h = let r = few-from nf [] ls (omega arith) h in omega (arith, r)

pub floors-in : (ne : ℕ) (floors : List (Option ℕ)) → are_right (map (λ floor. number w32 (ne + 1) (none_or_next floor)) floors) ≡ true → (i : ℕ) (d : Option ℕ) → i < length floors → IfSome (get_or floors i d) (λ e. e < ne)
floors-in ne floors h = map-each (λ floor. number w32 (ne + 1) (none_or_next floor)) (λ o. IfSome o (λ e. e < ne)) each floors h
  where
    each : (o : Option ℕ) → are_right (number w32 (ne + 1) (none_or_next o) ∷ []) ≡ true → IfSome o (λ e. e < ne)
    each None r = tt
    each (Some e) r = let b = (all-hold (number w32 (ne + 1) (suc e) ∷ []) r).0 in omega (arith, b)

-- the numbers of a node are those of an edge and of nodes
pub record IsRowIn (ne nn : ℕ) (row : NodeRow) : Type 0 where
  pub item : row.item < ne
  pub left : row.left ≤ nn
  pub right : row.right ≤ nn
  pub extra : row.extra ≤ nn

-- an id has at most 200 bytes
pub ids-in : (rows : List (List ℕ)) → are_right (flat_map id_fields rows) ≡ true → (i : ℕ) (d : List ℕ) → i < length rows → length (get_or rows i d) ≤ 200
ids-in rows h = flat-each id_fields (λ id. length id ≤ 200) (λ id r. (let short = (all-hold (id_fields id) r).0 in omega (arith, short))) rows h

pub nodes-in : (ne nv nn : ℕ) (rows : List NodeRow) → are_right (flat_map (node_fields ne nv nn) rows) ≡ true → (i : ℕ) (d : NodeRow) → i < length rows → IsRowIn ne nn (get_or rows i d)
nodes-in ne nv nn rows h = flat-each (node_fields ne nv nn) (IsRowIn ne nn) each rows h
  where
    bound : (b : Bool) (k : ℕ) → k < (if b then 1 else nn + 1) → k ≤ nn
    bound true k lt = omega (arith, lt)
    bound false k lt = omega (arith, lt)

    each : (row : NodeRow) → are_right (node_fields ne nv nn row) ≡ true → IsRowIn ne nn row
    each row r =
        let p = all-hold (node_fields ne nv nn row) r in
        let left = p.1.0 in
        let right = p.1.1.0 in
        record { item = p.0; left = omega (arith, left); right = omega (arith, right); extra = bound (row.side == 0) row.extra p.1.1.1.1.1.0 }
