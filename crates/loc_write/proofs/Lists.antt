-- What is left of lists of rows as they are put, one row after the other.
use Rattle.std.proofs.Common.{◌≡◌, ℕ, zero, suc, ◌+◌, ◌<◌, ◌≤◌, List, [], ◌∷◌, ◌++◌, length, drop, map, get_or, Some, refl, sym, ◌∙◌, ap, arith}
use Rattle.std.specs.{Prelude.slice_get, List.flat_map}
use Rattle.std.proofs.{lemmas.List.at_drop_more, lemmas.List.at_drop_all, lemmas.Option.get_or_from_slice_get}
use Rattle.std.proofs.lemmas.Grind.{flat_map-append}
use Rattle.loc_spec_plane.specs.declared.Mark.{Mark}
use Rattle.loc_spec_index.specs.Content.{EdgeRow}
use Rattle.loc_write.specs.{Bytes.edge_bytes, Bytes.mark_bytes, Written.edge_rows, Written.marks_from}

-- ---- the text of the rows from one on is its own, and that of the rows behind it

pub cut-at : {X : Type 0} (f : X → List ℕ) (xs : List X) (i : ℕ) (d : X) (a : List ℕ) → i < length xs → a ≡ f (get_or xs i d) → flat_map f (drop i xs) ≡ a ++ flat_map f (drop (i + 1) xs)
cut-at f xs i d a lt is = at_drop_more (flat_map f) xs i d lt ∙ ap (λ l. l ++ flat_map f (drop (i + 1) xs)) (sym is)

pub cut-row : {X : Type 0} (f : X → List ℕ) (xs : List X) (i : ℕ) (x : X) (a : List ℕ) → i < length xs → slice_get xs i ≡ Some x → a ≡ f x → flat_map f (drop i xs) ≡ a ++ flat_map f (drop (i + 1) xs)
cut-row f xs i x a lt at is = cut-at f xs i x a lt (is ∙ ap f (sym (get_or_from_slice_get xs i x x at)))

pub cut-end : {X : Type 0} (f : X → List ℕ) (xs : List X) (i : ℕ) → length xs ≤ i → flat_map f (drop i xs) ≡ []
cut-end f xs i le = at_drop_all (flat_map f) xs i le

-- ---- edges

pairs : (a b c d : ℕ) → a ≡ b → c ≡ d → ◌≡◌ {A = ℕ × ℕ} (a, c) (b, d)
pairs a b c d e f = cc

same-pair : (p q : ℕ × ℕ) → p.0 ≡ q.0 → p.1 ≡ q.1 → p ≡ q
same-pair p q e f = pairs p.0 q.0 p.1 q.1 e f

abbrev edge-of : ℕ × ℕ → ℕ × ℕ → ℕ → EdgeRow
edge-of pair source cover = record { ends = pair; source = source; cover = cover }

pub edge-at : (ends sources : List (ℕ × ℕ)) (above : List ℕ) (i : ℕ) (d : EdgeRow) → length sources ≡ length ends → length above ≡ length ends → i < length ends → get_or (edge_rows ends sources above) i d ≡ edge-of (get_or ends i (0, 0)) (get_or sources i (0, 0)) (get_or above i 0)
edge-at [] sources above i d s l lt = absurd (omega (arith, lt))
edge-at (p ∷ ends) [] above i d s l lt = absurd (omega (arith, s))
edge-at (p ∷ ends) (q ∷ sources) [] i d s l lt = absurd (omega (arith, l))
edge-at (p ∷ ends) (q ∷ sources) (n ∷ above) zero d s l lt = refl
edge-at (p ∷ ends) (q ∷ sources) (n ∷ above) (suc i) d s l lt = edge-at ends sources above i d (omega (arith, s)) (omega (arith, l)) (omega (arith, lt))

pub length-edges : (ends sources : List (ℕ × ℕ)) (above : List ℕ) → length sources ≡ length ends → length above ≡ length ends → length (edge_rows ends sources above) ≡ length ends
length-edges [] sources above s l = refl
length-edges (p ∷ ends) [] above s l = absurd (omega (arith, s))
length-edges (p ∷ ends) (q ∷ sources) [] s l = absurd (omega (arith, l))
length-edges (p ∷ ends) (q ∷ sources) (n ∷ above) s l = ap (λ k. suc k) (length-edges ends sources above (omega (arith, s)) (omega (arith, l)))

pub cut-edge : (ends sources : List (ℕ × ℕ)) (above : List ℕ) (i : ℕ) (pair source : ℕ × ℕ) (cover : ℕ) (a : List ℕ) → length sources ≡ length ends → length above ≡ length ends → i < length ends → pair.0 ≡ (get_or ends i (0, 0)).0 → pair.1 ≡ (get_or ends i (0, 0)).1
    → source ≡ get_or sources i (0, 0) → slice_get above i ≡ Some cover → a ≡ edge_bytes (record { ends = pair; source = source; cover = cover })
    → flat_map edge_bytes (drop i (edge_rows ends sources above)) ≡ a ++ flat_map edge_bytes (drop (i + 1) (edge_rows ends sources above))
cut-edge ends sources above i pair source cover a s l lt lower upper from at is =
    let d = edge-of pair source cover in
    let many = length-edges ends sources above s l in
    cut-at edge_bytes (edge_rows ends sources above) i d a (omega (arith, lt, many))
    (is ∙ (ap (λ p. edge_bytes (edge-of p source cover)) (same-pair pair (get_or ends i (0, 0)) lower upper)
    ∙ (ap (λ q. edge_bytes (edge-of (get_or ends i (0, 0)) q cover)) from
    ∙ (ap (λ n. edge_bytes (edge-of (get_or ends i (0, 0)) (get_or sources i (0, 0)) n)) (sym (get_or_from_slice_get above i cover 0 at)) ∙ ap edge_bytes (sym (edge-at ends sources above i d s l lt))))))

-- ---- marks

pub cut-mark : (e : ℕ) (marks : List Mark) (i : ℕ) (d : Mark) (a : List ℕ) → i < length marks → a ≡ mark_bytes (e, get_or marks i d)
    → flat_map mark_bytes (map (λ (m : Mark). (e, m)) (drop i marks)) ≡ a ++ flat_map mark_bytes (map (λ (m : Mark). (e, m)) (drop (i + 1) marks))
cut-mark e marks i d a lt is = at_drop_more (λ ms. flat_map mark_bytes (map (λ (m : Mark). (e, m)) ms)) marks i d lt ∙ ap (λ l. l ++ flat_map mark_bytes (map (λ (m : Mark). (e, m)) (drop (i + 1) marks))) (sym is)

pub cut-mark-end : (e : ℕ) (marks : List Mark) (i : ℕ) → length marks ≤ i → flat_map mark_bytes (map (λ (m : Mark). (e, m)) (drop i marks)) ≡ []
cut-mark-end e marks i le = at_drop_all (λ ms. flat_map mark_bytes (map (λ (m : Mark). (e, m)) ms)) marks i le

pub cut-marks : (rows : List (List Mark)) (e : ℕ) (row : List Mark) → e < length rows → slice_get rows e ≡ Some row
    → flat_map mark_bytes (marks_from e (drop e rows)) ≡ flat_map mark_bytes (map (λ (m : Mark). (e, m)) row) ++ flat_map mark_bytes (marks_from (e + 1) (drop (e + 1) rows))
cut-marks rows e row lt at =
    at_drop_more (λ l. flat_map mark_bytes (marks_from e l)) rows e row lt
    ∙ (flat_map-append mark_bytes (map (λ (m : Mark). (e, m)) (get_or rows e row)) (marks_from (e + 1) (drop (e + 1) rows))
    ∙ ap (λ r. flat_map mark_bytes (map (λ (m : Mark). (e, m)) r) ++ flat_map mark_bytes (marks_from (e + 1) (drop (e + 1) rows))) (get_or_from_slice_get rows e row row at))

pub cut-marks-end : (rows : List (List Mark)) (e : ℕ) → length rows ≤ e → flat_map mark_bytes (marks_from e (drop e rows)) ≡ []
cut-marks-end rows e le = at_drop_all (λ l. flat_map mark_bytes (marks_from e l)) rows e le
