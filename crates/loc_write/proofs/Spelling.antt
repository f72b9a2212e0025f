-- The bytes of a content, part by part: those of its header, and the texts of its rows.
use Rattle.std.proofs.Common.{◌≡◌, ℕ, ◌+◌, List, [], ◌∷◌, ◌++◌, length, map, refl, sym, ◌∙◌, ap, append_assoc, append-nil, length-append, arith}
use Rattle.std.specs.{Prelude.sum_by, Int.w32, Int.to_be_bytes, List.flat_map}
use Rattle.std.proofs.{lemmas.List.length-map, lemmas.List.Sums.sum_by-append}
use Rattle.loc_spec_plane.specs.{declared.Mark.Mark, Tables.Table}
use Rattle.loc_spec_index.specs.{declared.NodeRow.NodeRow, Content.Content}
use Rattle.loc_spec_index.specs.IndexFile.{Field, number, none_or_next, spelled_all, rows_from, parts, fields, bytes_of, id_fields, corner_fields, edge_fields, mark_fields, cover_fields, node_fields}
use Rattle.loc_laws_index.proofs.Progress.{flat-rows, map-rows, spelled_all-append}
use Rattle.loc_cover.specs.Legends.{LegendRows}
use Rattle.loc_write.specs.Bytes.{header_bytes, id_bytes, corner_bytes, edge_bytes, mark_bytes, cover_bytes, number_bytes, node_bytes}
use Rattle.loc_write.specs.Texts.{front_text, head_text, list_text, tree_text}
use Rattle.loc_write.specs.Written.{marks_from, content_of}
use Rattle.loc_write.proofs.{Lists.length-edges, Covers.members}

both : (a a' b b' : List ℕ) → a ≡ a' → b ≡ b' → a ++ b ≡ a' ++ b'
both a a' b b' e f = cc

-- ---- rows

rows : {X : Type 0} (row : List X → X → List Field) (text : X → List ℕ) → ((earlier : List X) (x : X) → spelled_all (row earlier x) ≡ text x) → (earlier xs : List X) → spelled_all (rows_from row earlier xs) ≡ flat_map text xs
rows row text same earlier [] = refl
rows row text same earlier (x ∷ xs) = spelled_all-append (row earlier x) (rows_from row (earlier ++ x ∷ []) xs) ∙ both _ _ _ _ (same earlier x) (rows row text same (earlier ++ x ∷ []) xs)

flat : {X : Type 0} (row : X → List Field) (text : X → List ℕ) → ((x : X) → spelled_all (row x) ≡ text x) → (xs : List X) → spelled_all (flat_map row xs) ≡ flat_map text xs
flat row text same xs = ap spelled_all (sym (flat-rows row [] xs)) ∙ rows (λ _. row) text (λ _. same) [] xs

each : {X : Type 0} (field : X → Field) (text : X → List ℕ) → ((x : X) → spelled_all (field x ∷ []) ≡ text x) → (xs : List X) → spelled_all (map field xs) ≡ flat_map text xs
each field text same xs = ap spelled_all (sym (map-rows field [] xs)) ∙ rows (λ _ x. field x ∷ []) text (λ _. same) [] xs

a-cover : (nf : ℕ) (earlier : List (List ℕ)) (list : List ℕ) → spelled_all (cover_fields nf earlier list) ≡ cover_bytes list
a-cover nf earlier list = ap (λ l. to_be_bytes w32 (length list) ++ l) (members nf list (length earlier) _ ∙ sym (members 0 list 0 _))

-- ---- parts

flat-parts : (ps : List (List Field)) → spelled_all (flat_map (λ part. part) ps) ≡ flat_map spelled_all ps
flat-parts [] = refl
flat-parts (p ∷ ps) = spelled_all-append p (flat_map (λ part. part) ps) ∙ ap (λ l. spelled_all p ++ l) (flat-parts ps)

nine : (a a' b b' c c' d d' e e' f f' g g' h h' i i' : List ℕ) → a ≡ a' → b ≡ b' → c ≡ c' → d ≡ d' → e ≡ e' → f ≡ f' → g ≡ g' → h ≡ h' → i ≡ i'
    → a ++ (b ++ (c ++ (d ++ (e ++ (f ++ (g ++ (h ++ (i ++ [])))))))) ≡ a' ++ (b' ++ (c' ++ (d' ++ (e' ++ (f' ++ (g' ++ (h' ++ (i' ++ []))))))))
nine a a' b b' c c' d d' e e' f f' g g' h h' i i' p q r s t u v w x = cc

in-pieces : (a b c d e f g h i : List ℕ) → a ++ (b ++ (c ++ (d ++ (e ++ (f ++ (g ++ (h ++ (i ++ [])))))))) ≡ (a ++ ((b ++ (c ++ (d ++ e))) ++ (f ++ g))) ++ (h ++ i)
in-pieces a b c d e f g h i =
    ap (λ l. a ++ (b ++ (c ++ (d ++ (e ++ (f ++ (g ++ (h ++ l)))))))) (append-nil i)
    ∙ (ap (λ l. a ++ l) (sym (append_assoc b (c ++ (d ++ e)) (f ++ (g ++ (h ++ i))) ∙ ap (λ l. b ++ l) (append_assoc c (d ++ e) (f ++ (g ++ (h ++ i))) ∙ ap (λ l. c ++ l) (append_assoc d e (f ++ (g ++ (h ++ i)))))))
    ∙ sym (append_assoc a ((b ++ (c ++ (d ++ e))) ++ (f ++ g)) (h ++ i) ∙ ap (λ l. a ++ l) (append_assoc (b ++ (c ++ (d ++ e))) (f ++ g) (h ++ i) ∙ ap (λ l. (b ++ (c ++ (d ++ e))) ++ l) (append_assoc f g (h ++ i)))))

by-parts : (c : Content) → bytes_of 2 c ≡ (header_bytes c.scale (length c.ids) (length c.corners) (length c.edges) (length c.marks) (length c.covers) (length c.nodes)
    ++ ((flat_map id_bytes c.ids ++ (flat_map corner_bytes c.corners ++ (flat_map edge_bytes c.edges ++ flat_map mark_bytes c.marks)))
    ++ (flat_map cover_bytes c.covers ++ flat_map (λ floor. number_bytes (none_or_next floor)) c.floors)))
    ++ (flat_map number_bytes c.roots ++ flat_map node_bytes c.nodes)
unfolding fields
by-parts c =
    let head = header_bytes c.scale (length c.ids) (length c.corners) (length c.edges) (length c.marks) (length c.covers) (length c.nodes) in
    flat-parts (parts 2 c)
    ∙ (nine head head _ _ _ _ _ _ _ _ _ _ _ _ _ _ _ _
    refl
    (flat id_fields id_bytes (λ x. refl) c.ids)
    (rows corner_fields corner_bytes (λ earlier x. refl) [] c.corners)
    (rows (edge_fields 2 (length c.corners) (length c.covers)) edge_bytes (λ earlier x. refl) [] c.edges)
    (rows (mark_fields (length c.edges) (length c.ids)) mark_bytes (λ earlier x. refl) [] c.marks)
    (rows (cover_fields (length c.ids)) cover_bytes (a-cover (length c.ids)) [] c.covers)
    (each (λ floor. number w32 (length c.edges + 1) (none_or_next floor)) (λ floor. number_bytes (none_or_next floor)) (λ floor. refl) c.floors)
    (each (number w32 (length c.nodes + 1)) number_bytes (λ n. refl) c.roots)
    (flat (node_fields (length c.edges) (length c.corners) (length c.nodes)) node_bytes (λ x. refl) c.nodes)
    ∙ in-pieces head (flat_map id_bytes c.ids) (flat_map corner_bytes c.corners) (flat_map edge_bytes c.edges) (flat_map mark_bytes c.marks) (flat_map cover_bytes c.covers) (flat_map (λ floor. number_bytes (none_or_next floor)) c.floors) (flat_map number_bytes c.roots) (flat_map node_bytes c.nodes))

-- ---- the content of a table, a legend and versions

pub length-marks : (e : ℕ) (marks : List (List Mark)) → length (marks_from e marks) ≡ sum_by length marks
length-marks e [] = refl
length-marks e (row ∷ marks) =
    let a = length-append (map (λ (m : Mark). (e, m)) row) (marks_from (e + 1) marks) in
    let keyed : Mark → ℕ × Mark = λ m. (e, m) in
    let b = length-map row keyed in
    let c = length-marks (e + 1) marks in
    let one : sum_by length (row ∷ []) ≡ 0 + length row = refl in
    let all : sum_by length (row ∷ marks) ≡ sum_by length (row ∷ []) + sum_by length marks = sum_by-append length (row ∷ []) marks in
    omega (arith, a, b, c, one, all)

-- the numbers of its header
counts : (scale nf nf' nv nv' ne ne' nm nm' nc nc' nn nn' : ℕ) (rest : List ℕ) → nf ≡ nf' → nv ≡ nv' → ne ≡ ne' → nm ≡ nm' → nc ≡ nc' → nn ≡ nn' → header_bytes scale nf nv ne nm nc nn ++ rest ≡ header_bytes scale nf' nv' ne' nm' nc' nn' ++ rest
counts scale nf nf' nv nv' ne ne' nm nm' nc nc' nn nn' rest p q r s t u = cc

-- a header by other words for its numbers
pub header-text : (scale : ℕ) (t : Table) (l : LegendRows) {nf nv ne nm nc : ℕ} (nn : ℕ) → nf ≡ length l.ids → nv ≡ length t.corners → ne ≡ length t.ends → nm ≡ sum_by length t.marks → nc ≡ length l.lists
    → header_bytes scale nf nv ne nm nc nn ++ (front_text t l ++ list_text l) ≡ head_text scale t l nn
header-text scale t l nn features corners edges marks covers = counts scale _ _ _ _ _ _ _ _ _ _ nn nn (front_text t l ++ list_text l) features corners edges marks covers refl

-- the whole file
pub file-text : (scale : ℕ) (t : Table) (l : LegendRows) (roots : List ℕ) (nodes : List NodeRow) {nn : ℕ} (c : Content) → c ≡ content_of scale t l roots nodes → length t.sources ≡ length t.ends → length l.above ≡ length t.ends → nn ≡ length nodes
    → head_text scale t l nn ++ tree_text roots nodes ≡ bytes_of 2 c
file-text scale t l roots nodes {nn} c is sourced many rows =
    sym (ap (bytes_of 2) is ∙ (by-parts (content_of scale t l roots nodes)
    ∙ ap (λ head. head ++ tree_text roots nodes) (counts scale _ _ _ _ _ _ _ _ _ _ _ nn (front_text t l ++ list_text l) refl refl (length-edges t.ends t.sources l.above sourced many) (length-marks 0 t.marks) refl (sym rows))))
