-- A content of a table, a legend and versions holds the table.
use Rattle.std.proofs.Common.{◌≡◌, ℕ, zero, suc, ◌+◌, ◌<◌, Bool, true, false, List, [], ◌∷◌, ◌++◌, length, map, refl, sym, ◌∙◌, ap, arith, append-nil}
use Rattle.std.specs.Prelude.{◌==◌, filter, cond}
use Rattle.std.specs.List.{range_with_len}
use Rattle.std.proofs.lemmas.Bool.{ne_eqb, eq-eqb}
use Rattle.loc_spec_plane.specs.{Lists.numbers, Points.Point, declared.Mark.Mark, Tables.Table, Tables.IsTable}
use Rattle.loc_spec_index.specs.Content.{Content, EdgeRow, table_in, marks_of, cover_numbers}
use Rattle.loc_cover.specs.Legends.{LegendRows}
use Rattle.loc_write.specs.Written.{edge_rows, marks_from, content_of, ContentHoldsParts}
use Rattle.loc_write.proofs.Lists.{length-edges}

-- ---- edges

ends-of : (ends sources : List (ℕ × ℕ)) (above : List ℕ) → length sources ≡ length ends → length above ≡ length ends → map (λ (e : EdgeRow). e.ends) (edge_rows ends sources above) ≡ ends
ends-of [] sources above s l = refl
ends-of (p ∷ ends) [] above s l = absurd (omega (arith, s))
ends-of (p ∷ ends) (q ∷ sources) [] s l = absurd (omega (arith, l))
ends-of (p ∷ ends) (q ∷ sources) (n ∷ above) s l = ap (λ ps. p ∷ ps) (ends-of ends sources above (omega (arith, s)) (omega (arith, l)))

sources-of : (ends sources : List (ℕ × ℕ)) (above : List ℕ) → length sources ≡ length ends → length above ≡ length ends → map (λ (e : EdgeRow). e.source) (edge_rows ends sources above) ≡ sources
sources-of [] [] above s l = refl
sources-of [] (q ∷ sources) above s l = absurd (omega (arith, s))
sources-of (p ∷ ends) [] above s l = absurd (omega (arith, s))
sources-of (p ∷ ends) (q ∷ sources) [] s l = absurd (omega (arith, l))
sources-of (p ∷ ends) (q ∷ sources) (n ∷ above) s l = ap (λ ps. q ∷ ps) (sources-of ends sources above (omega (arith, s)) (omega (arith, l)))

pub covers-of : (ends sources : List (ℕ × ℕ)) (above : List ℕ) → length sources ≡ length ends → length above ≡ length ends → map (λ (e : EdgeRow). e.cover) (edge_rows ends sources above) ≡ above
covers-of [] sources [] s l = refl
covers-of [] sources (n ∷ above) s l = absurd (omega (arith, l))
covers-of (p ∷ ends) [] above s l = absurd (omega (arith, s))
covers-of (p ∷ ends) (q ∷ sources) [] s l = absurd (omega (arith, l))
covers-of (p ∷ ends) (q ∷ sources) (n ∷ above) s l = ap (λ ns. n ∷ ns) (covers-of ends sources above (omega (arith, s)) (omega (arith, l)))

-- ---- marks

-- the marks of the same edge, in front of others, and of another
own-marks : (e : ℕ) (row : List Mark) (rest : List (ℕ × Mark)) → marks_of (map (λ (m : Mark). (e, m)) row ++ rest) e ≡ row ++ marks_of rest e
own-marks e [] rest = refl
own-marks e (m ∷ row) rest = by (e == e) (eq-eqb e e refl) (own-marks e row rest)
  where
    by : (b : Bool) → b ≡ true → marks_of (map (λ (m : Mark). (e, m)) row ++ rest) e ≡ row ++ marks_of rest e
        → map (λ (p : ℕ × Mark). p.1) (cond b ((e, m) ∷ filter (λ (p : ℕ × Mark). p.0 == e) (map (λ (m : Mark). (e, m)) row ++ rest)) (filter (λ (p : ℕ × Mark). p.0 == e) (map (λ (m : Mark). (e, m)) row ++ rest))) ≡ m ∷ (row ++ marks_of rest e)
    by true is r = ap (λ l. m ∷ l) r
    by false is r = absurd (let f : false ≡ true = is in cc)

other-marks : (e k : ℕ) → (e ≡ k → ⊥) → (row : List Mark) (rest : List (ℕ × Mark)) → marks_of (map (λ (m : Mark). (e, m)) row ++ rest) k ≡ marks_of rest k
other-marks e k differ [] rest = refl
other-marks e k differ (m ∷ row) rest = by (e == k) (ne_eqb e k differ) (other-marks e k differ row rest)
  where
    by : (b : Bool) → b ≡ false → marks_of (map (λ (m : Mark). (e, m)) row ++ rest) k ≡ marks_of rest k
        → map (λ (p : ℕ × Mark). p.1) (cond b ((e, m) ∷ filter (λ (p : ℕ × Mark). p.0 == k) (map (λ (m : Mark). (e, m)) row ++ rest)) (filter (λ (p : ℕ × Mark). p.0 == k) (map (λ (m : Mark). (e, m)) row ++ rest))) ≡ marks_of rest k
    by true is r = absurd (let f : true ≡ false = is in cc)
    by false is r = r

none-before : (e k : ℕ) → e < k → (rows : List (List Mark)) → marks_of (marks_from k rows) e ≡ []
none-before e k lt [] = refl
none-before e k lt (row ∷ rows) = other-marks k e (λ same. omega (arith, same, lt)) row (marks_from (k + 1) rows) ∙ none-before e (k + 1) (omega (arith, lt)) rows

append-none : (row : List Mark) (rest : List Mark) → rest ≡ [] → row ++ rest ≡ row
append-none row rest none = ap (λ l. row ++ l) none ∙ append-nil row

-- the marks of later edges are not those of the first
skips : (k j n : ℕ) → k < j → (row : List Mark) (rest : List (ℕ × Mark)) → map (marks_of (map (λ (m : Mark). (k, m)) row ++ rest)) (range_with_len j n) ≡ map (marks_of rest) (range_with_len j n)
skips k j zero lt row rest = refl
skips k j (suc n) lt row rest =
    ap (λ l. l ∷ map (marks_of (map (λ (m : Mark). (k, m)) row ++ rest)) (range_with_len (j + 1) n)) (other-marks k j (λ same. omega (arith, same, lt)) row rest)
    ∙ ap (λ l. marks_of rest j ∷ l) (skips k (j + 1) n (omega (arith, lt)) row rest)

marks-back : (k : ℕ) (rows : List (List Mark)) → map (marks_of (marks_from k rows)) (range_with_len k (length rows)) ≡ rows
marks-back k [] = refl
marks-back k (row ∷ rows) =
    ap (λ l. l ∷ map (marks_of (marks_from k (row ∷ rows))) (range_with_len (k + 1) (length rows))) (own-marks k row (marks_from (k + 1) rows) ∙ append-none row (marks_of (marks_from (k + 1) rows) k) (none-before k (k + 1) (omega arith) rows))
    ∙ ap (λ l. row ∷ l) (skips k (k + 1) (length rows) (omega arith) row (marks_from (k + 1) rows) ∙ marks-back (k + 1) rows)

-- ---- the whole

same-table : (b b' e e' : List (ℕ × ℕ)) (corners : List Point) (d d' : List (List Mark)) → b ≡ b' → d ≡ d' → e ≡ e' → ◌≡◌ {A = Table} (record { corners = corners; ends = b; marks = d; sources = e }) (record { corners = corners; ends = b'; marks = d'; sources = e' })
same-table b b' e e' corners d d' q r s = cc

held : (scale : ℕ) (t : Table) (l : LegendRows) (c : Content) → IsTable t → length l.above ≡ length t.ends → table_in (content_of scale t l c.roots c.nodes) ≡ t
unfolding table_in
held scale t l c in_order many =
    same-table _ t.ends _ t.sources t.corners _ t.marks (ends-of t.ends t.sources l.above in_order.sources_fit many)
    (ap (λ n. map (marks_of (marks_from 0 t.marks)) (numbers n)) (length-edges t.ends t.sources l.above in_order.sources_fit many ∙ sym in_order.marks_fit) ∙ marks-back 0 t.marks)
    (sources-of t.ends t.sources l.above in_order.sources_fit many)

pub content_holds_parts : ContentHoldsParts
content_holds_parts scale t l m c in_order many is = record {
  table = ap table_in is.parts ∙ held scale t l c in_order many;
  above = ap cover_numbers is.parts ∙ covers-of t.ends t.sources l.above in_order.sources_fit many;
}
