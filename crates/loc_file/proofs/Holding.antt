-- The parts of a file as a table and a legend, and back.
use Rattle.std.proofs.Common.{◌≡◌, ℕ, zero, suc, ◌-◌, ◌^◌, ◌<◌, ◌≤◌, true, List, [], ◌∷◌, length, map, get_or, refl, sym, ◌∙◌, ap, subst, arith}
use Rattle.std.specs.Prelude.{IfSome, All, nat_lt}
use Rattle.std.proofs.lemmas.List.{length-map, get_or_read}
use Rattle.loc_spec_plane.specs.{Lists.is_rising, Lists.numbers, Points.Point, Points.before, declared.Mark.Mark}
use Rattle.loc_spec_plane.specs.Tables.{Table, IsTable, pair_before}
use Rattle.loc_spec_index.specs.Content.{Content, EdgeRow, table_in, cover_numbers}
use Rattle.loc_spec_index.specs.{IndexFile.IsFileOf, IndexFile.bytes_of, declared.NodeRow.NodeRow}
use Rattle.loc_edges.specs.{Parts.GoesUpBelow, Parts.table_of_parts, Ending.row_of}
use Rattle.loc_cover.specs.Legends.{LegendRows, FitsTable, AreLists}
use Rattle.loc_laws_index.proofs.{RightRows.IsEdgeIn, FileFacts.Facts, FileFacts.facts, HeldTable.file_holds_table}
use Rattle.loc_laws_index.proofs.AgreeTable.{content-same, most-small}
use Rattle.loc_file.specs.{declared.edges.EdgeOf.EdgeOf, Told.told, Told.told_source, Searches.IsNodeIn}
use Rattle.loc_file.specs.Keeping.{edge_rows, marks_from, content_of, IsHeld}
use Rattle.loc_write.proofs.Held.{covers-of}
use Rattle.loc_file.proofs.Flatten.{marks-flat}

-- what holds of the images of rows, read by another way
all-image : {X Y Z : Type 0} (g : X → Z) (f : X → Y) (P : Z → Type 0) (Q : Y → Type 0) → ((x : X) → P (g x) → Q (f x)) → (xs : List X) → ((i : ℕ) (d : Z) → i < length (map g xs) → P (get_or (map g xs) i d)) → (i : ℕ) (d : Y) → i < length (map f xs) → Q (get_or (map f xs) i d)
all-image g f P Q each [] h i d lt = absurd (omega (arith, lt))
all-image g f P Q each (x ∷ xs) h zero d lt = each x (h 0 (g x) (omega arith))
all-image g f P Q each (x ∷ xs) h (suc i) d lt = all-image g f P Q each xs (λ j e l. h (suc j) e (omega (arith, l))) i d (omega (arith, lt))

-- a member of rows or the default
each-or : {X : Type 0} (P : X → Type 0) (d : X) (xs : List X) → P d → ((i : ℕ) (e : X) → i < length xs → P (get_or xs i e)) → (i : ℕ) → P (get_or xs i d)
each-or P d [] none h i = none
each-or P d (x ∷ xs) none h zero = h 0 d (omega arith)
each-or P d (x ∷ xs) none h (suc i) = each-or P d xs none (λ j e l. h (suc j) e (omega (arith, l))) i

told-ends : (v : ℕ) (es : List EdgeOf) → map (λ (e : EdgeRow). e.ends) (map (told v) es) ≡ map (λ (e : EdgeOf). e.ends) es
told-ends v [] = refl
told-ends v (e ∷ es) = ap (λ l. e.ends ∷ l) (told-ends v es)

told-sources : (v : ℕ) (es : List EdgeOf) → map (λ (e : EdgeRow). e.source) (map (told v) es) ≡ map (told_source v) es
told-sources v [] = refl
told-sources v (e ∷ es) = ap (λ l. told_source v e ∷ l) (told-sources v es)

pub cover_numbers-held : (c : Content) (ends sources : List (ℕ × ℕ)) (above : List ℕ) → edge_rows ends sources above ≡ c.edges → length sources ≡ length ends → length above ≡ length ends → above ≡ cover_numbers c
cover_numbers-held c ends sources above e s l = sym (covers-of ends sources above s l) ∙ ap (λ es. map (λ (e : EdgeRow). e.cover) es) e

-- a root of a file
pub root-within : (f : ℕ) (c d : Content) (v x : ℕ) → c ≡ d → IsFileOf f c (bytes_of f c) → v < length d.corners → x ≡ get_or c.roots v x → x ≤ length d.nodes
root-within f c d v x e file lt is =
    let corners : length c.corners ≡ length d.corners = ap (λ (k : Content). length k.corners) e in
    let nodes : length c.nodes ≡ length d.nodes = ap (λ (k : Content). length k.nodes) e in
    let r = file.shaped.roots in
    let within : v < length c.roots = omega (arith, r, corners, lt) in
    let same = get_or_read c.roots v x within is 0 in
    let most = (facts c (bytes_of f c) file).roots v 0 within in
    omega (arith, same, most, nodes)

-- a row of a file
pub row-within : (v : ℕ) (c d : Content) (n : ℕ) (row : NodeRow) → c ≡ d → IsFileOf v c (bytes_of v c) → (1 ≤ n) × (n ≤ length d.nodes) → row ≡ get_or c.nodes (n - 1) row → IsNodeIn (length d.edges) (length d.nodes) row
row-within v c d n row e file within is =
    let few = within.1 in
    let some = within.0 in
    let nodes : length c.nodes ≡ length d.nodes = ap (λ (k : Content). length k.nodes) e in
    let f = (facts c (bytes_of v c) file).nodes (n - 1) row (omega (arith, few, some, nodes)) in
    subst (λ (k : Content). IsNodeIn (length k.edges) (length k.nodes) row) e (subst (IsNodeIn (length c.edges) (length c.nodes)) (sym is) (record { item = f.item; left = f.left; right = f.right; extra = f.extra }))

module _ (v : ℕ) (c : Content) (es : List EdgeOf) (ends sources : List (ℕ × ℕ)) (above : List ℕ) (file : IsFileOf v c (bytes_of v c)) (edges_are : c.edges ≡ map (told v) es) (ends_are : ends ≡ map (λ (e : EdgeOf). e.ends) es) (sources_are : sources ≡ map (told_source v) es) (above_are : above ≡ map (λ (e : EdgeOf). e.cover) es) where
  F : Facts v c
  F = facts c (bytes_of v c) file

  T : IsTable (table_in c)
  T = file_holds_table (bytes_of v c) v c file

  pub as_many_ends : length ends ≡ length c.edges
  as_many_ends = ap length ends_are ∙ (length-map es (λ (e : EdgeOf). e.ends) ∙ (sym (length-map es (told v)) ∙ ap length (sym edges_are)))

  pub as_many_sources : length sources ≡ length ends
  as_many_sources = ap length sources_are ∙ (length-map es (told_source v) ∙ (sym (length-map es (λ (e : EdgeOf). e.ends)) ∙ ap length (sym ends_are)))

  pub as_many_above : length above ≡ length ends
  as_many_above = ap length above_are ∙ (length-map es (λ (e : EdgeOf). e.cover) ∙ (sym (length-map es (λ (e : EdgeOf). e.ends)) ∙ ap length (sym ends_are)))

  pub corners-go-up : is_rising before c.corners ≡ true
  unfolding table_in
  corners-go-up = T.corners_rise

  pub ends-go-up : is_rising pair_before ends ≡ true
  unfolding table_in
  ends-go-up = ap (is_rising pair_before) (ends_are ∙ (sym (told-ends v es) ∙ ap (λ l. map (λ (e : EdgeRow). e.ends) l) (sym edges_are))) ∙ T.edges_rise

  edges-in-bounds : (i : ℕ) (d : EdgeRow) → i < length (map (told v) es) → IsEdgeIn (length c.corners) (length c.covers) (get_or (map (told v) es) i d)
  edges-in-bounds = let P : List EdgeRow → Type 0 = λ l. (i : ℕ) (d : EdgeRow) → i < length l → IsEdgeIn (length c.corners) (length c.covers) (get_or l i d) in subst P edges_are F.edges

  pub ends-fit : All (GoesUpBelow (length c.corners)) ends
  ends-fit = subst (All (GoesUpBelow (length c.corners))) (sym ends_are) (all-image (told v) (λ (e : EdgeOf). e.ends) (IsEdgeIn (length c.corners) (length c.covers)) (GoesUpBelow (length c.corners)) (λ e h. (h.0, h.1)) es edges-in-bounds)

  sources-in-bounds : (i : ℕ) (d : EdgeRow) → i < length (map (told v) es) → ((get_or (map (told v) es) i d).source.0 < (get_or (map (told v) es) i d).source.1) × ((get_or (map (told v) es) i d).source.1 < length c.corners)
  sources-in-bounds = let P : List EdgeRow → Type 0 = λ l. (i : ℕ) (d : EdgeRow) → i < length l → ((get_or l i d).source.0 < (get_or l i d).source.1) × ((get_or l i d).source.1 < length c.corners) in subst P edges_are F.sources

  pub sources-fit : All (GoesUpBelow (length c.corners)) sources
  sources-fit = subst (All (GoesUpBelow (length c.corners))) (sym sources_are) (all-image (told v) (told_source v) (λ (e : EdgeRow). (e.source.0 < e.source.1) × (e.source.1 < length c.corners)) (GoesUpBelow (length c.corners)) (λ e h. h) es sources-in-bounds)

  above-all : All (λ n. n < length c.covers) above
  above-all = subst (All (λ n. n < length c.covers)) (sym above_are) (all-image (told v) (λ (e : EdgeOf). e.cover) (IsEdgeIn (length c.corners) (length c.covers)) (λ n. n < length c.covers) (λ e h. h.2) es edges-in-bounds)

  pub above-fit : (k : ℕ) → k ≡ length c.covers → All (λ n. n < k) above
  above-fit k e = subst (λ j. All (λ n. n < j) above) (sym e) above-all

  pub few_ends : length ends ≤ 2 ^ 21
  few_ends = let f = F.few_edges in let most = most-small v in omega (arith, f, most, as_many_ends)

  pub marks-on-ends : All (λ (m : ℕ × Mark). m.0 < length ends) c.marks
  marks-on-ends = λ i d lt. (let m = F.marks i d lt in let p = m.0 in omega (arith, p, as_many_ends))

  pub marks-named : (k : ℕ) → k ≡ length c.ids → All (λ (m : ℕ × Mark). m.1.feature < k) c.marks
  marks-named k e = λ i d lt. (let m = F.marks i d lt in let p = m.1 in omega (arith, p, e))

  pub lists-are : (n : ℕ) → n ≡ length ends → AreLists n c.covers
  lists-are n e = record {
    rise = F.lists_go_up;
    each_rises = each-or (λ l. is_rising nat_lt l ≡ true) [] c.covers refl (λ i d lt. (F.lists i d lt).0);
    few = (let f = F.few_covers in omega (arith, f, as_many_ends, e));
    few_members = (let f = F.few_members in omega (arith, f));
  }

  pub lists-named : (k : ℕ) → k ≡ length c.ids → All (All (λ f. f < k)) c.covers
  lists-named k e = λ i d lt j o l. (let m = F.lists i d lt in let p = m.1 j o l in omega (arith, p, e))

  pub floors-fit : (n : ℕ) → n ≡ length ends → All (λ floor. IfSome floor (λ e. e < n)) c.floors
  floors-fit n e = subst (λ k. All (λ floor. IfSome floor (λ e. e < k)) c.floors) (sym (e ∙ as_many_ends)) F.floors

  zipped : (es : List EdgeOf) → edge_rows (map (λ (e : EdgeOf). e.ends) es) (map (told_source v) es) (map (λ (e : EdgeOf). e.cover) es) ≡ map (told v) es
  zipped [] = refl
  zipped (e ∷ es) = ap (λ l. told v e ∷ l) (zipped es)

  same-table : (a : List Point) (b b' e e' : List (ℕ × ℕ)) (d d' : List (List Mark)) → b ≡ b' → d ≡ d' → e ≡ e' → ◌≡◌ {A = Table} (record { corners = a; ends = b; marks = d; sources = e }) (record { corners = a; ends = b'; marks = d'; sources = e' })
  same-table a b b' e e' d d' p q r = cc

  pub table-is : table_of_parts c.corners ends c.marks sources ≡ table_in c
  unfolding table_in
  table-is = same-table _ _ _ _ _ _ _ (ends_are ∙ (sym (told-ends v es) ∙ ap (λ l. map (λ (e : EdgeRow). e.ends) l) (sym edges_are))) (ap (λ n. map (row_of c.marks) (numbers n)) as_many_ends) (sources_are ∙ (sym (told-sources v es) ∙ ap (λ l. map (λ (e : EdgeRow). e.source) l) (sym edges_are)))

  pub content-is : (t : Table) (l : LegendRows) (scale : ℕ) → t ≡ table_of_parts c.corners ends c.marks sources → l.ids ≡ c.ids → l.lists ≡ c.covers → l.above ≡ above → l.floors ≡ c.floors → scale ≡ c.scale → content_of scale t l c.roots c.nodes ≡ c
  content-is t l scale table ids lists above_is floors scale_is = content-same _ _ _ _ _ _ _ _ _ _ _ _ _ _ _ _ _ _ scale_is ids (ap (λ (k : Table). k.corners) table)
      (ap (λ (k : Table). edge_rows k.ends k.sources l.above) table ∙ (ap (edge_rows ends sources) (above_is ∙ above_are) ∙ (ap (λ ps. edge_rows ps sources (map (λ (e : EdgeOf). e.cover) es)) ends_are ∙ (ap (λ qs. edge_rows (map (λ (e : EdgeOf). e.ends) es) qs (map (λ (e : EdgeOf). e.cover) es)) sources_are ∙ (zipped es ∙ sym edges_are)))))
      (ap (λ (k : Table). marks_from 0 k.marks) table ∙ marks-flat (length ends) c.marks F.marks_go_up marks-on-ends)
      lists floors refl refl

  pub held-is : (t : Table) (l : LegendRows) (k : Content) → k ≡ c → t ≡ table_of_parts c.corners ends c.marks sources → FitsTable t l → l.above ≡ above → IsHeld v k t l
  held-is t l k same table fits above_is = subst (λ d. IsHeld v d t l) (sym same) (record {
    file = file;
    table_is = table ∙ table-is;
    legend_fits = fits;
    sourced = ap (λ (j : Table). length j.sources) table ∙ (as_many_sources ∙ ap (λ (j : Table). length j.ends) (sym table));
    as_many = ap length above_is ∙ (as_many_above ∙ ap (λ (j : Table). length j.ends) (sym table));
  })
