-- A file as its parts: the fields of a content are those of its header and of its rows, and where a part stops, the rest can be any.
use Rattle.std.proofs.Common.{◌≡◌, ℕ, ◌+◌, Bool, true, false, ◌||◌, List, [], ◌∷◌, ◌++◌, length, map, refl, sym, ◌∙◌, ap, ap₂, append-nil, subst}
use Rattle.std.specs.Prelude.{Option, None, if◌then◌else◌}
use Rattle.std.specs.{Int.w32, List.flat_map, List.list_all}
use Rattle.std.proofs.{lemmas.Bool.and_from, lemmas.Bool.eq-eqb, lemmas.List.length-map}
use Rattle.loc_spec_plane.specs.{Points.Point, declared.Mark.Mark}
use Rattle.loc_spec_index.specs.{declared.IndexFault.IndexFault, declared.NodeRow.NodeRow, Content.Content}
use Rattle.loc_spec_index.specs.IndexFile.{Field, number, fields, rows_from, edge_fields, edge_row, header_of, is_own_source, names_sources, parts_behind, IsShaped, corner_row, cover_fields, floor_field, id_fields, mark_row, node_fields, rows_of}
use Rattle.loc_laws_index.proofs.Progress.{flat-rows, map-rows, same-numbers}
use Rattle.loc_file.specs.{declared.edges.EdgeOf.EdgeOf, declared.header.Header.Header}
use Rattle.loc_file.specs.Readings.{Left, IsRead, IsFaultIn, IsStop, stop, alone, one}
use Rattle.loc_file.specs.Told.{header_row, told, told_row}
use Rattle.loc_file.proofs.ToldEdges.{last-told}

-- ---- rows as the definition has them

told-rows : (v nv nc : ℕ) (earlier es : List EdgeOf) → rows_from (edge_fields v nv nc) (map (told v) earlier) (map (told v) es) ≡ rows_from (rows_of (told_row v nv nc)) earlier es
told-rows v nv nc earlier [] = refl
told-rows v nv nc earlier (e ∷ es) = ap (λ l. l ++ rows_from (edge_fields v nv nc) (map (told v) earlier ++ told v e ∷ []) (map (told v) es)) row ∙ ap (λ l. rows_of (told_row v nv nc) earlier e ++ l) (ap (λ l. rows_from (edge_fields v nv nc) l (map (told v) es)) (pushed earlier) ∙ told-rows v nv nc (earlier ++ e ∷ []) es)
  where
    pushed : (xs : List EdgeOf) → map (told v) xs ++ told v e ∷ [] ≡ map (told v) (xs ++ e ∷ [])
    pushed [] = refl
    pushed (x ∷ xs) = ap (λ l. told v x ∷ l) (pushed xs)

    row : edge_fields v nv nc (map (told v) earlier) (told v e) ≡ rows_of (told_row v nv nc) earlier e
    row = ap₂ (λ n o. edge_row v nv nc n o (told v e)) (length-map earlier (told v)) (last-told v None earlier)

-- where a version names no sources, each edge is its own
all-told : (v : ℕ) (es : List EdgeOf) → (names_sources v || list_all is_own_source (map (told v) es)) ≡ true
all-told v es = by (names_sources v) es
  where
    by : (b : Bool) (es : List EdgeOf) → (b || list_all is_own_source (map (λ (e : EdgeOf). record { ends = e.ends; source = if b then e.source else e.ends; cover = e.cover }) es)) ≡ true
    by true es = refl
    by false [] = refl
    by false (e ∷ es) = and_from _ _ (and_from _ _ (eq-eqb e.ends.0 e.ends.0 refl) (eq-eqb e.ends.1 e.ends.1 refl)) (by false es)

-- ---- the whole

eight : (F : List Field → List Field → List Field → List Field → List Field → List Field → List Field) (a a' b b' c c' d d' e e' g g' : List Field) → a ≡ a' → b ≡ b' → c ≡ c' → d ≡ d' → e ≡ e' → g ≡ g' → F a b c d e g ≡ F a' b' c' d' e' g'
eight F a a' b b' c c' d d' e e' g g' p q r s t u = cc

module _ (h : Header) (ids : List (List ℕ)) (corners : List Point) (edges : List EdgeOf) (marks : List (ℕ × Mark)) (covers : List (List ℕ)) (floors : List (Option ℕ)) (roots : List ℕ) (nodes : List NodeRow) where
  abbrev pub content : Content
  content = record { scale = h.scale; ids = ids; corners = corners; edges = map (told h.version) edges; marks = marks; covers = covers; floors = floors; roots = roots; nodes = nodes }

  abbrev pub whole : List Field
  whole =
      header_row h ++ (rows_from (alone id_fields) [] ids ++ (rows_from (rows_of corner_row) [] corners ++ (rows_from (rows_of (told_row h.version h.corners h.covers)) [] edges ++ (rows_from (rows_of (mark_row h.edges h.features)) [] marks
      ++ (rows_from (cover_fields h.features) [] covers ++ (rows_from (alone (one (floor_field h.edges))) [] floors ++ (rows_from (alone (one (number w32 (h.nodes + 1)))) [] roots ++ rows_from (alone (node_fields h.edges h.corners h.nodes)) [] nodes)))))))

  -- as many rows as the header tells
  pub record Fit : Type 0 where
    pub ids_fit : length ids ≡ h.features
    pub corners_fit : length corners ≡ h.corners
    pub edges_fit : length edges ≡ h.edges
    pub marks_fit : length marks ≡ h.marks
    pub covers_fit : length covers ≡ h.covers
    pub floors_fit : length floors ≡ h.corners
    pub roots_fit : length roots ≡ h.corners
    pub nodes_fit : length nodes ≡ h.nodes

  pub fields-whole : Fit → fields h.version content ≡ whole
  unfolding fields
  fields-whole fit =
      same-numbers (λ a b c d e g. header_of h.version h.scale a b c d e g ++ flat_map (λ part. part) (parts_behind h.version a b c e g content)) fit.ids_fit fit.corners_fit (length-map edges (told h.version) ∙ fit.edges_fit) fit.marks_fit fit.covers_fit fit.nodes_fit
      ∙ eight (λ a b c d e g. header_row h ++ (a ++ (rows_from (rows_of corner_row) [] corners ++ (b ++ (rows_from (rows_of (mark_row h.edges h.features)) [] marks ++ (rows_from (cover_fields h.features) [] covers ++ (c ++ (d ++ e)))))))) _ _ _ _ _ _ _ _ _ _ [] [] (sym (flat-rows id_fields [] ids)) (told-rows h.version h.corners h.covers [] edges) (sym (map-rows (floor_field h.edges) [] floors)) (sym (map-rows (number w32 (h.nodes + 1)) [] roots)) (append-nil _ ∙ sym (flat-rows (node_fields h.edges h.corners h.nodes) [] nodes)) refl

  pub shaped : Fit → IsShaped h.version content
  shaped fit = record { floors = fit.floors_fit ∙ sym fit.corners_fit; roots = fit.roots_fit ∙ sym fit.corners_fit; sources = all-told h.version edges }

  pub content-stop : {a : Left} {f : IndexFault} → Fit → IsFaultIn whole a f → IsStop (IsShaped h.version) (fields h.version) a f
  content-stop {a} {f} fit w = stop content f (shaped fit) (subst (λ fs. IsFaultIn fs a f) (sym (fields-whole fit)) w)

  pub content-read : {a b : Left} → Fit → IsRead whole a b → IsRead (fields h.version content) a b
  content-read {a} {b} fit r = subst (λ fs. IsRead fs a b) (sym (fields-whole fit)) r
