-- When the fields of rows are right: each number is below its bound, and each row comes behind the one before it.
use Rattle.std.proofs.Common.{◌≡◌, ℕ, zero, suc, ◌+◌, ◌-◌, ◌^◌, ◌<◌, ◌≤◌, Bool, true, false, ◌&&◌, List, [], ◌∷◌, ◌++◌, length, map, get_or, refl, sym, subst, arith, ℤ, pos, negsuc}
use Rattle.std.specs.Prelude.{Option, Some, None, nat_lt, ◌==◌, min, sum_by, fold, max, if◌then◌else◌, unsigned_abs}
use Rattle.std.specs.{List.flat_map, List.last_or, List.list_all, Int.w32}
use Rattle.std.proofs.lemmas.Bool.{and_parts, and_from, or_left, or_right, lt-ltb, ltb-true, eqb-true, eq-eqb}
use Rattle.std.proofs.{lemmas.Int.ints, lemmas.List.Sums.sum_by-append}
use Rattle.loc_spec_plane.specs.{Lists.is_rising, Covers.list_before, declared.Mark.Mark}
use Rattle.loc_spec_plane.specs.Points.{Point, before, OnGrid, IsGridPoint}
use Rattle.loc_spec_plane.specs.Tables.{pair_before, mark_before}
use Rattle.loc_spec_index.specs.{declared.NodeRow.NodeRow, declared.Part.TheVariants.Covers, Content.EdgeRow}
use Rattle.loc_spec_index.specs.IndexFile.{Field, number, order, bit, follows, is_right, are_right, rows_from, is_rising_pair, id_fields, corner_fields, edge_fields, edge_row_before, mark_fields, mark_row_before, cover_fields, node_fields}
use Rattle.loc_laws_index.proofs.Progress.{are_right-append}
use Rattle.loc_laws_index.proofs.RightFields.{Holds, holds-right, all-right}
use Rattle.loc_laws_index.proofs.RightRows.{Chain, IsMarkIn, last-is}
use Rattle.loc_persist.specs.Numbered.{IsWithin}
use Rattle.loc_write.specs.Written.{edge_rows, marks_from}
use Rattle.loc_spec_text.specs.Limits.{most_id_bytes}

-- ---- what holds of each of some rows

abbrev pub Each : {X : Type 0} → (X → Type 0) → List X → Type 0
Each P [] = Unit {0}
Each P (x ∷ xs) = P x × Each P xs

pub each-at : {X : Type 0} (P : X → Type 0) (xs : List X) → ((i : ℕ) (d : X) → i < length xs → P (get_or xs i d)) → Each P xs
each-at P [] h = tt
each-at P (x ∷ xs) h = (h 0 x (omega arith), each-at P xs (λ i d lt. h (suc i) d (omega (arith, lt))))

each-append : {X : Type 0} (P : X → Type 0) (xs ys : List X) → Each P xs → Each P ys → Each P (xs ++ ys)
each-append P [] ys e f = f
each-append P (x ∷ xs) ys e f = (e.0, each-append P xs ys e.1 f)

each-parts : {X : Type 0} (P : X → Type 0) (xs ys : List X) → Each P (xs ++ ys) → Each P xs × Each P ys
each-parts P [] ys e = (tt, e)
each-parts P (x ∷ xs) ys e = let r = each-parts P xs ys e.1 in ((e.0, r.0), r.1)

pub rows-right : {X : Type 0} (row : List X → X → List Field) (lt : X → X → Bool) (P : X → Type 0) → ((earlier : List X) (x : X) → P x → follows lt (last_or None earlier) x ≡ true → are_right (row earlier x) ≡ true)
    → (earlier xs : List X) → Each P xs → Chain lt (last_or None earlier) xs → are_right (rows_from row earlier xs) ≡ true
rows-right row lt P one earlier [] e c = refl
rows-right row lt P one earlier (x ∷ xs) e c =
    are_right-append (row earlier x) (rows_from row (earlier ++ x ∷ []) xs) (one earlier x e.0 c.0) (rows-right row lt P one (earlier ++ x ∷ []) xs e.1 (subst (λ o. Chain lt o xs) (sym (last-is None earlier x)) c.1))

pub flat-right : {X : Type 0} (row : X → List Field) (P : X → Type 0) → ((x : X) → P x → are_right (row x) ≡ true) → (xs : List X) → Each P xs → are_right (flat_map row xs) ≡ true
flat-right row P one [] e = refl
flat-right row P one (x ∷ xs) e = are_right-append (row x) (flat_map row xs) (one x e.0) (flat-right row P one xs e.1)

pub map-right : {X : Type 0} (field : X → Field) (P : X → Type 0) → ((x : X) → P x → Holds (field x)) → (xs : List X) → Each P xs → are_right (map field xs) ≡ true
map-right field P one [] e = refl
map-right field P one (x ∷ xs) e = and_from (is_right (field x)) (are_right (map field xs)) (holds-right (field x) (one x e.0)) (map-right field P one xs e.1)

-- ---- ids and corners

pub id-right : (id : List ℕ) → length id ≤ most_id_bytes → are_right (id_fields id) ≡ true
id-right id few = all-right (id_fields id) (omega (arith, few), (tt, tt))

pub corner-right : (earlier : List Point) (p : Point) → IsGridPoint p → follows before (last_or None earlier) p ≡ true → are_right (corner_fields earlier p) ≡ true
corner-right earlier p on h = all-right (corner_fields earlier p) (small p.x on.0, (small p.y on.1, (h, tt)))
  where
    small : (x : ℤ) → OnGrid x → unsigned_abs x < 10 ^ 18 + 1
    small (pos n) on = let hi = on.1 in omega (arith, ints, hi)
    small (negsuc n) on = let lo = on.0 in omega (arith, ints, lo)

-- ---- edges

-- its ends are numbers of corners, the lesser first, it is its own source, and its list is one of the lists
pub record IsEdgeWithin (nv nc : ℕ) (e : EdgeRow) : Type 0 where
  pub goes_up : e.ends.0 < e.ends.1
  pub upper : e.ends.1 < nv
  pub source : e.source.0 < e.source.1
  pub source_upper : e.source.1 < nv
  pub cover : e.cover < nc

pub edge-right : (nv nc : ℕ) (earlier : List EdgeRow) (e : EdgeRow) → IsEdgeWithin nv nc e → follows edge_row_before (last_or None earlier) e ≡ true → are_right (edge_fields 2 nv nc earlier e) ≡ true
edge-right nv nc earlier e w h =
    let up = w.goes_up in
    let most = w.upper in
    let rises = and_from (is_rising_pair e.ends) (is_rising_pair e.source) (lt-ltb e.ends.0 e.ends.1 w.goes_up) (lt-ltb e.source.0 e.source.1 w.source) in
    let from = w.source in
    let top = w.source_upper in
    all-right (edge_fields 2 nv nc earlier e) (omega (arith, up, most), (most, (w.cover, (omega (arith, from, top), (top, (and_from (is_rising_pair e.ends && is_rising_pair e.source) _ rises h, tt))))))

pub chain-edges : (ends sources : List (ℕ × ℕ)) (above : List ℕ) → is_rising pair_before ends ≡ true → Chain edge_row_before None (edge_rows ends sources above)
chain-edges [] sources above h = tt
chain-edges (p ∷ ends) [] above h = tt
chain-edges (p ∷ ends) (s ∷ sources) [] h = tt
chain-edges (p ∷ ends) (s ∷ sources) (n ∷ above) h = (refl, behind p s n ends sources above h)
  where
    behind : (p s : ℕ × ℕ) (n : ℕ) (ends sources : List (ℕ × ℕ)) (above : List ℕ) → is_rising pair_before (p ∷ ends) ≡ true → Chain edge_row_before (Some (record { ends = p; source = s; cover = n })) (edge_rows ends sources above)
    behind p s n [] sources above h = tt
    behind p s n (q ∷ ends) [] above h = tt
    behind p s n (q ∷ ends) (u ∷ sources) [] h = tt
    behind p s n (q ∷ ends) (u ∷ sources) (m ∷ above) h = let r = and_parts (list_all (pair_before p) (q ∷ ends)) (is_rising pair_before (q ∷ ends)) h in ((and_parts (pair_before p q) (list_all (pair_before p) ends) r.0).0, behind q u m ends sources above r.1)

-- ---- marks

bit-small : (b : Bool) → bit b < 2
bit-small true = omega arith
bit-small false = omega arith

pub mark-right : (ne nf : ℕ) (earlier : List (ℕ × Mark)) (m : ℕ × Mark) → IsMarkIn ne nf m → follows mark_row_before (last_or None earlier) m ≡ true → are_right (mark_fields ne nf earlier m) ≡ true
mark-right ne nf earlier m w h = all-right (mark_fields ne nf earlier m) (w.0, (w.1, (bit-small m.1.odd, (h, tt))))

keyed-each : (ne nf e : ℕ) → e < ne → (row : List Mark) → Each (λ (m : Mark). m.feature < nf) row → Each (IsMarkIn ne nf) (map (λ (m : Mark). (e, m)) row)
keyed-each ne nf e lt [] h = tt
keyed-each ne nf e lt (m ∷ row) h = ((lt, h.0), keyed-each ne nf e lt row h.1)

pub marks-each : (ne nf e : ℕ) (rows : List (List Mark)) → e + length rows ≤ ne → Each (λ (m : Mark). m.feature < nf) (flat_map (λ ms. ms) rows) → Each (IsMarkIn ne nf) (marks_from e rows)
marks-each ne nf e [] few h = tt
marks-each ne nf e (row ∷ rows) few h =
    let p = each-parts (λ (m : Mark). m.feature < nf) row (flat_map (λ ms. ms) rows) h in
    each-append (IsMarkIn ne nf) (map (λ (m : Mark). (e, m)) row) (marks_from (e + 1) rows) (keyed-each ne nf e (omega (arith, few)) row p.0) (marks-each ne nf (e + 1) rows (omega (arith, few)) p.1)

max-each : (k n : ℕ) (ms : List Mark) → fold (λ n (m : Mark). max n (suc m.feature)) n ms ≤ k → (n ≤ k) × Each (λ (m : Mark). m.feature < k) ms
max-each k n [] h = (h, tt)
max-each k n (m ∷ ms) h = let r = max-each k (max n (suc m.feature)) ms h in let a = r.0 in (omega (arith, a), (omega (arith, a), r.1))

pub features-each : (nf : ℕ) (rows : List (List Mark)) → fold (λ n (m : Mark). max n (suc m.feature)) 0 (flat_map (λ ms. ms) rows) ≤ nf → Each (λ (m : Mark). m.feature < nf) (flat_map (λ ms. ms) rows)
features-each nf rows h = (max-each nf 0 (flat_map (λ ms. ms) rows) h).1

abbrev Before : ℕ → Option (ℕ × Mark) → Type 0
Before e None = Unit {0}
Before e (Some m) = m.0 < e

before-next : (e : ℕ) (o : Option (ℕ × Mark)) → Before e o → Before (e + 1) o
before-next e None b = tt
before-next e (Some m) b = omega (arith, b)

follows-edge : (e : ℕ) (o : Option (ℕ × Mark)) (m : Mark) → Before e o → follows mark_row_before o (e, m) ≡ true
follows-edge e None m b = refl
follows-edge e (Some k) m b = or_left (nat_lt k.0 e) _ (lt-ltb k.0 e b)

follows-mark : (e : ℕ) (k m : Mark) → mark_before k m ≡ true → mark_row_before (e, k) (e, m) ≡ true
follows-mark e k m h = or_right (nat_lt e e) _ (and_from (e == e) (nat_lt k.feature m.feature) (eq-eqb e e refl) h)

chain-edge : (e : ℕ) (k : Mark) (row : List Mark) (rest : List (ℕ × Mark)) → is_rising mark_before (k ∷ row) ≡ true → ((o : Option (ℕ × Mark)) → Before (e + 1) o → Chain mark_row_before o rest) → Chain mark_row_before (Some (e, k)) (map (λ (m : Mark). (e, m)) row ++ rest)
chain-edge e k [] rest h next = next (Some (e, k)) (omega arith)
chain-edge e k (m ∷ row) rest h next =
    let p = and_parts (list_all (mark_before k) (m ∷ row)) (is_rising mark_before (m ∷ row)) h in
    (follows-mark e k m (and_parts (mark_before k m) (list_all (mark_before k) row) p.0).0, chain-edge e m row rest p.1 next)

chain-first : (e : ℕ) (o : Option (ℕ × Mark)) (row : List Mark) (rest : List (ℕ × Mark)) → Before e o → is_rising mark_before row ≡ true → ((o : Option (ℕ × Mark)) → Before (e + 1) o → Chain mark_row_before o rest) → Chain mark_row_before o (map (λ (m : Mark). (e, m)) row ++ rest)
chain-first e o [] rest b h next = next o (before-next e o b)
chain-first e o (m ∷ row) rest b h next = (follows-edge e o m b, chain-edge e m row rest h next)

pub chain-marks : (e : ℕ) (rows : List (List Mark)) → Each (λ row. is_rising mark_before row ≡ true) rows → (o : Option (ℕ × Mark)) → Before e o → Chain mark_row_before o (marks_from e rows)
chain-marks e [] h o b = tt
chain-marks e (row ∷ rows) h o b = chain-first e o row (marks_from (e + 1) rows) b h.0 (chain-marks (e + 1) rows h.1)

-- ---- cover lists

-- it rises, and its members are features
abbrev pub IsListWithin : ℕ → List ℕ → Type 0
IsListWithin nf list = (is_rising nat_lt list ≡ true) × Each (λ f. f < nf) list

few-from : (nf x : ℕ) (xs : List ℕ) → is_rising nat_lt (x ∷ xs) ≡ true → Each (λ f. f < nf) (x ∷ xs) → length (x ∷ xs) + x ≤ nf
few-from nf x [] h e = let lt = e.0 in omega (arith, lt)
few-from nf x (y ∷ ys) h e =
    let p = and_parts (list_all (nat_lt x) (y ∷ ys)) (is_rising nat_lt (y ∷ ys)) h in
    let lt = ltb-true x y (and_parts (nat_lt x y) (list_all (nat_lt x) ys) p.0).0 in
    let r = few-from nf y ys p.1 e.1 in
    let one : length (x ∷ y ∷ ys) ≡ length (y ∷ ys) + 1 = omega arith in
    omega (arith, lt, r, one)

-- a rising list below a number is no longer than it
few : (nf : ℕ) (list : List ℕ) → IsListWithin nf list → length list ≤ nf
few nf [] w = omega arith
few nf (x ∷ xs) w = let r = few-from nf x xs w.0 w.1 in omega (arith, r)

cover-right : (nf : ℕ) (earlier : List (List ℕ)) (list : List ℕ) → IsListWithin nf list → sum_by length earlier + length list ≤ 2 ^ 24 → follows list_before (last_or None earlier) list ≡ true → are_right (cover_fields nf earlier list) ≡ true
cover-right nf earlier list w room h =
    let front = number w32 (min nf (2 ^ 24 - sum_by length earlier) + 1) (length list) ∷ [] in
    let last = order Covers (length earlier) (is_rising nat_lt list && follows list_before (last_or None earlier) list) ∷ [] in
    let short = few nf list w in
    are_right-append front (map (number w32 nf) list ++ last) (all-right front (omega (arith, short, room), tt))
    (are_right-append (map (number w32 nf) list) last (map-right (number w32 nf) (λ f. f < nf) (λ f lt. lt) list w.1) (all-right last (and_from (is_rising nat_lt list) _ w.0 h, tt)))

pub covers-right : (nf : ℕ) (earlier lists : List (List ℕ)) → sum_by length earlier + sum_by length lists ≤ 2 ^ 24 → Each (IsListWithin nf) lists → Chain list_before (last_or None earlier) lists → are_right (rows_from (cover_fields nf) earlier lists) ≡ true
covers-right nf earlier [] room e c = refl
covers-right nf earlier (list ∷ lists) room e c =
    let a = sum_by-append length earlier (list ∷ []) in
    let one : sum_by length (list ∷ []) ≡ 0 + length list = refl in
    let all : sum_by length (list ∷ lists) ≡ sum_by length (list ∷ []) + sum_by length lists = sum_by-append length (list ∷ []) lists in
    are_right-append (cover_fields nf earlier list) (rows_from (cover_fields nf) (earlier ++ list ∷ []) lists) (cover-right nf earlier list e.0 (omega (arith, room, one, all)) c.0)
    (covers-right nf (earlier ++ list ∷ []) lists (omega (arith, room, a, one, all)) e.1 (subst (λ o. Chain list_before o lists) (sym (last-is None earlier list)) c.1))

-- ---- nodes

zero-not : (n : ℕ) → (n == 0) ≡ false → 0 < n
zero-not zero h = absurd (let f : true ≡ false = h in cc)
zero-not (suc n) h = omega arith

pub node-right : (ne nv nn past : ℕ) (changed : Bool) (row : NodeRow) → past ≤ ne → changed ≡ false → IsWithin past nv nn changed row → are_right (node_fields ne nv nn row) ≡ true
node-right ne nv nn past changed row some settled w =
    let item = w.item in
    let left = w.left in
    let right = w.right in
    let side = w.side in
    all-right (node_fields ne nv nn row) (omega (arith, item, some), (omega (arith, left), (omega (arith, right), (omega (arith, side), (stamp (row.side == 0) refl, (extra (row.side == 0) refl, tt))))))
  where
    stamp : (b : Bool) → (row.side == 0) ≡ b → row.stamp < (if b then 1 else nv)
    stamp true is = let none = w.no_stamp (eqb-true row.side 0 is) in omega (arith, none)
    stamp false is = w.settled settled (zero-not row.side is)

    extra : (b : Bool) → (row.side == 0) ≡ b → row.extra < (if b then 1 else nn + 1)
    extra true is = let none = w.no_extra (eqb-true row.side 0 is) in omega (arith, none)
    extra false is = let le = w.extra in omega (arith, le)
