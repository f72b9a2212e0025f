-- How many bytes an index file has: none is longer than a command reads.
use Rattle.std.proofs.Common.{◌≡◌, ℕ, suc, ◌+◌, ◌*◌, ◌<◌, ◌≤◌, Bool, true, false, List, [], ◌∷◌, ◌++◌, length, map, get_or, refl, ◌∙◌, ap, subst, arith, length-append}
use Rattle.std.specs.Prelude.{Option, None, sum_by, ◌&&◌, nat_lt, if◌then◌else◌}
use Rattle.std.specs.{Int.w32, List.flat_map, List.last_or}
use Rattle.std.proofs.lemmas.List.Sums.{sum_by-cons}
use Rattle.loc_spec_plane.specs.{Covers.list_before, Lists.is_rising}
use Rattle.loc_spec_index.specs.declared.Part.TheVariants.{Covers, Edges}
use Rattle.loc_spec_index.specs.Content.{Content, EdgeRow}
use Rattle.loc_spec_index.specs.IndexFile.{Field, number, order, follows, IsFileOf, spelled_all, rows_from, header_fields, id_fields, corner_fields, source_fields, names_sources, is_rising_pair, edge_row_before, edge_fields, mark_fields, cover_fields, node_fields, none_or_next, fields, parts}
use Rattle.loc_laws_index.proofs.{AgreeTable.most-small, FileFacts.facts}
use Rattle.loc_laws_index.proofs.Progress.{flat-rows, map-rows, spelled_all-append}
use Rattle.loc_spec_text.specs.Limits.{most_index}

-- how many bytes fields take
abbrev size : List Field → ℕ
size fs = length (spelled_all fs)

joined : (fs gs : List Field) → size (fs ++ gs) ≡ size fs + size gs
joined fs gs = ap length (spelled_all-append fs gs) ∙ length-append (spelled_all fs) (spelled_all gs)

-- rows of so many bytes at most
rows : {X : Type 0} (row : List X → X → List Field) (k : ℕ) → ((earlier : List X) (x : X) → size (row earlier x) ≤ k) → (earlier xs : List X) → size (rows_from row earlier xs) ≤ k * length xs
rows row k each earlier [] = omega arith
rows row k each earlier (x ∷ xs) =
    let here = each earlier x in
    let more = rows row k each (earlier ++ x ∷ []) xs in
    let both = joined (row earlier x) (rows_from row (earlier ++ x ∷ []) xs) in
    omega (arith, here, more, both)

flat_rows : {X : Type 0} (row : X → List Field) (k : ℕ) → ((x : X) → size (row x) ≤ k) → (xs : List X) → size (flat_map row xs) ≤ k * length xs
flat_rows row k each xs = subst (λ (fs : List Field). size fs ≤ k * length xs) (flat-rows row [] xs) (rows (λ _. row) k (λ _ x. each x) [] xs)

one_field : {X : Type 0} (field : X → Field) (k : ℕ) → ((x : X) → size (field x ∷ []) ≤ k) → (xs : List X) → size (map field xs) ≤ k * length xs
one_field field k each xs = subst (λ (fs : List Field). size fs ≤ k * length xs) (map-rows field [] xs) (rows (λ _ x. field x ∷ []) k (λ _ x. each x) [] xs)

-- ids, each of 200 bytes at most
ids_size : (ids : List (List ℕ)) → ((i : ℕ) (d : List ℕ) → i < length ids → length (get_or ids i d) ≤ 200) → size (flat_map id_fields ids) ≤ 201 * length ids
ids_size [] short = omega arith
ids_size (id ∷ ids) short =
    let here = short 0 id (omega arith) in
    let more = ids_size ids (λ i d less. short (suc i) d (omega (arith, less))) in
    let both = length-append id (spelled_all (flat_map id_fields ids)) in
    omega (arith, here, more, both)

source_size : (b : Bool) (corners : ℕ) (source : ℕ × ℕ) → size (if b then number w32 corners source.0 ∷ number w32 corners source.1 ∷ [] else []) ≤ 8
source_size true corners source = omega arith
source_size false corners source = omega arith

edge_size : (v corners covers : ℕ) (earlier : List EdgeRow) (e : EdgeRow) → size (edge_fields v corners covers earlier e) ≤ 20
edge_size v corners covers earlier e =
    let last = order Edges (length earlier) ((is_rising_pair e.ends && is_rising_pair e.source) && follows edge_row_before (last_or None earlier) e) ∷ [] in
    let both = joined (source_fields v corners e.source) last in
    let few = source_size (names_sources v) corners e.source in
    omega (arith, both, few)

-- a cover list
list_size : (features : ℕ) (earlier : List (List ℕ)) (list : List ℕ) → size (cover_fields features earlier list) ≤ 4 + 4 * length list
list_size features earlier list =
    let last = order Covers (length earlier) (is_rising nat_lt list && follows list_before (last_or None earlier) list) ∷ [] in
    let whole : size (cover_fields features earlier list) ≡ suc (suc (suc (suc (size (map (number w32 features) list ++ last))))) = refl in
    let with_order = joined (map (number w32 features) list) last in
    let none : size last ≡ 0 = refl in
    let members = one_field (number w32 features) 4 (λ n. omega arith) list in
    omega (arith, whole, with_order, none, members)

-- and all of them, by the members of all
lists_size : (features : ℕ) (earlier lists : List (List ℕ)) → size (rows_from (cover_fields features) earlier lists) ≤ 4 * length lists + 4 * sum_by length lists
lists_size features earlier [] = omega arith
lists_size features earlier (list ∷ lists) =
    let here = list_size features earlier list in
    let more = lists_size features (earlier ++ list ∷ []) lists in
    let both = joined (cover_fields features earlier list) (rows_from (cover_fields features) (earlier ++ list ∷ []) lists) in
    let sum : sum_by length (list ∷ lists) ≡ length list + sum_by length lists = sum_by-cons length list lists in
    omega (arith, here, more, both, sum)

-- the parts together
abbrev sizes : List (List Field) → ℕ
sizes [] = 0
sizes (part ∷ ps) = size part + sizes ps

all_parts : (ps : List (List Field)) → size (flat_map (λ part. part) ps) ≡ sizes ps
all_parts [] = refl
all_parts (part ∷ ps) = joined part (flat_map (λ p. p) ps) ∙ ap (λ n. size part + n) (all_parts ps)

-- the bytes of a file are within the limit of a command
pub file_within : (bytes : List ℕ) (v : ℕ) (c : Content) → IsFileOf v c bytes → length bytes ≤ most_index
unfolding fields
file_within bytes v c file =
    let f = facts c bytes file in
    let nv = length c.corners in
    let ne = length c.edges in
    let nf = length c.ids in
    let nn = length c.nodes in
    let spelled : length bytes ≡ sizes (parts v c) = ap length file.spelled ∙ all_parts (parts v c) in
    let header : size (header_fields v c) ≤ 40 = omega arith in
    let ids = ids_size c.ids f.short_ids in
    let corners = rows corner_fields 16 (λ earlier p. omega arith) [] c.corners in
    let edges = rows (edge_fields v nv (length c.covers)) 20 (edge_size v nv (length c.covers)) [] c.edges in
    let marks = rows (mark_fields ne nf) 9 (λ earlier m. omega arith) [] c.marks in
    let lists = lists_size nf [] c.covers in
    let floors = one_field (λ (floor : Option ℕ). number w32 (ne + 1) (none_or_next floor)) 4 (λ floor. omega arith) c.floors in
    let roots = one_field (number w32 (nn + 1)) 4 (λ n. omega arith) c.roots in
    let nodes = flat_rows (node_fields ne nv nn) 21 (λ n. omega arith) c.nodes in
    let few_ids = f.few_ids in
    let few_corners = f.few_corners in
    let few_edges = f.few_edges in
    let few_marks = f.few_marks in
    let few_covers = f.few_covers in
    let few_members = f.few_members in
    let few_nodes = f.few_nodes in
    let most = most-small v in
    let as_many_floors = file.shaped.floors in
    let as_many_roots = file.shaped.roots in
    omega (arith, spelled, header, ids, corners, edges, marks, lists, floors, roots, nodes, few_ids, few_corners, few_edges, few_marks, few_covers, few_members, few_nodes, most, as_many_floors, as_many_roots)
