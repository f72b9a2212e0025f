-- What is known of a content whose fields are right.
use Rattle.std.proofs.Common.{◌≡◌, ℕ, zero, suc, ◌+◌, ◌*◌, ◌^◌, ◌<◌, ◌≤◌, Bool, true, false, ◌&&◌, List, [], ◌∷◌, length, get_or, sym, subst, arith, inl, inr}
use Rattle.std.specs.Prelude.{Option, IfSome, sum_by, nat_le, ◌==◌, if◌then◌else◌}
use Rattle.std.specs.{Int.w32, List.list_all}
use Rattle.std.proofs.Math.ListN.{get_or-eq_default}
use Rattle.std.proofs.lemmas.Bool.{cases_lt, and_parts, or_cases, eqb-true}
use Rattle.loc_spec_plane.specs.{Lists.is_rising, Points.before, Covers.list_before, declared.Mark.Mark}
use Rattle.loc_spec_index.specs.{declared.NodeRow.NodeRow, Content.Content, Content.EdgeRow, Content.root_of}
use Rattle.loc_spec_index.specs.Nodes.{Side, Left, Right, child, child_of, plain, no_row, side_number}
use Rattle.loc_spec_index.specs.IndexFile.{number, is_version, most_edges, parts, header_fields, fields, edge_row_before, mark_row_before, names_sources, is_own_source, IsShaped, IsFileOf}
use Rattle.loc_laws_index.proofs.RightFields.{all-hold, each-right}
use Rattle.loc_laws_index.proofs.RightRows.{map-each, corners-rise, IsEdgeIn, edges-in-order, IsSourceIn, sources-in, IsMarkIn, marks-in-order, IsListIn, lists-in-order, lists-few, floors-in, ids-in, IsRowIn, nodes-in}

pub record Facts (v : ℕ) (c : Content) : Type 0 where
  pub known : is_version v ≡ true
  pub scale : c.scale < 16
  pub few_ids : length c.ids ≤ 2 ^ 18
  pub short_ids : (i : ℕ) (d : List ℕ) → i < length c.ids → length (get_or c.ids i d) ≤ 200
  pub few_corners : length c.corners ≤ 2 ^ 20
  pub few_edges : length c.edges ≤ most_edges v
  pub few_marks : length c.marks ≤ most_edges v
  pub few_covers : length c.covers ≤ length c.edges
  pub few_nodes : length c.nodes ≤ 24 * length c.edges
  pub corners_go_up : is_rising before c.corners ≡ true
  pub edges : (i : ℕ) (d : EdgeRow) → i < length c.edges → IsEdgeIn (length c.corners) (length c.covers) (get_or c.edges i d)
  pub edges_go_up : is_rising edge_row_before c.edges ≡ true
  pub sources : (i : ℕ) (d : EdgeRow) → i < length c.edges → ((get_or c.edges i d).source.0 < (get_or c.edges i d).source.1) × ((get_or c.edges i d).source.1 < length c.corners)
  pub marks : (i : ℕ) (d : ℕ × Mark) → i < length c.marks → IsMarkIn (length c.edges) (length c.ids) (get_or c.marks i d)
  pub marks_go_up : is_rising mark_row_before c.marks ≡ true
  pub lists : (i : ℕ) (d : List ℕ) → i < length c.covers → IsListIn (length c.ids) (get_or c.covers i d)
  pub lists_go_up : is_rising list_before c.covers ≡ true
  pub few_members : sum_by length c.covers ≤ 2 ^ 24
  pub floors : (i : ℕ) (d : Option ℕ) → i < length c.floors → IfSome (get_or c.floors i d) (λ e. e < length c.edges)
  pub roots : (i : ℕ) (d : ℕ) → i < length c.roots → get_or c.roots i d ≤ length c.nodes
  pub nodes : (i : ℕ) (d : NodeRow) → i < length c.nodes → IsRowIn (length c.edges) (length c.nodes) (get_or c.nodes i d)

-- each edge of a list in which all are their own sources is
own-at : (es : List EdgeRow) (i : ℕ) (d : EdgeRow) → list_all is_own_source es ≡ true → i < length es → is_own_source (get_or es i d) ≡ true
own-at [] i d all lt = absurd (omega arith)
own-at (e ∷ es) zero d all lt = (and_parts (is_own_source e) (list_all is_own_source es) all).0
own-at (e ∷ es) (suc i) d all lt = own-at es i d (and_parts (is_own_source e) (list_all is_own_source es) all).1 (omega arith)

-- a source is there: by its bound where the version names it, and else by that of the edge
source-there : (v : ℕ) (c : Content) → IsShaped v c → ((i : ℕ) (d : EdgeRow) → i < length c.edges → IsEdgeIn (length c.corners) (length c.covers) (get_or c.edges i d)) → ((i : ℕ) (d : EdgeRow) → i < length c.edges → IsSourceIn v (length c.corners) (get_or c.edges i d)) → (i : ℕ) (d : EdgeRow) → i < length c.edges → ((get_or c.edges i d).source.0 < (get_or c.edges i d).source.1) × ((get_or c.edges i d).source.1 < length c.corners)
source-there v c shaped edges sources i d lt = (
  (sources i d lt).0,
  elim (or_cases (names_sources v) (list_all is_own_source c.edges) shaped.sources) [
    | inl named ↦ (sources i d lt).1 named
    | inr own ↦ (let e = get_or c.edges i d in
        let same : e.source.1 ≡ e.ends.1 = eqb-true e.source.1 e.ends.1 (and_parts (e.source.0 == e.ends.0) (e.source.1 == e.ends.1) (own-at c.edges i d own lt)).1 in
        let there : e.ends.1 < length c.corners = (edges i d lt).1 in
        omega (arith, same, there))
  ],
)

pub facts : {v : ℕ} (c : Content) (bytes : List ℕ) → IsFileOf v c bytes → Facts v c
unfolding fields
facts {v} c bytes file =
    let nf = length c.ids in
    let nv = length c.corners in
    let ne = length c.edges in
    let nn = length c.nodes in
    let p = each-right (parts v c) file.right in
    let header = all-hold (header_fields v c) p.0 in
    let edges = edges-in-order v nv (length c.covers) c.edges p.1.1.1.0 in
    let marks = marks-in-order ne nf c.marks p.1.1.1.1.0 in
    let lists = lists-in-order nf c.covers p.1.1.1.1.1.0 in
    let ids = header.1.1.1.0 in
    let corners = header.1.1.1.1.0 in
    let few = header.1.1.1.1.1.0 in
    let many = header.1.1.1.1.1.1.0 in
    let covers = header.1.1.1.1.1.1.1.0 in
    let nodes = header.1.1.1.1.1.1.1.1.0 in
    record {
      known = header.1.0;
      scale = header.1.1.0;
      few_ids = omega (arith, ids);
      short_ids = ids-in c.ids p.1.0;
      few_corners = omega (arith, corners);
      few_edges = omega (arith, few);
      few_marks = omega (arith, many);
      few_covers = omega (arith, covers);
      few_nodes = omega (arith, nodes);
      corners_go_up = corners-rise c.corners p.1.1.0;
      edges = edges.0;
      edges_go_up = edges.1;
      sources = source-there v c file.shaped edges.0 (sources-in v nv (length c.covers) c.edges p.1.1.1.0);
      marks = marks.0;
      marks_go_up = marks.1;
      lists = lists.0;
      lists_go_up = lists.1;
      few_members = lists-few nf c.covers p.1.1.1.1.1.0;
      floors = floors-in ne c.floors p.1.1.1.1.1.1.0;
      roots = map-each (number w32 (nn + 1)) (λ n. n ≤ nn) (λ n r. (let b = (all-hold (number w32 (nn + 1) n ∷ []) r).0 in omega (arith, b))) c.roots p.1.1.1.1.1.1.1.0;
      nodes = nodes-in ne nv nn c.nodes p.1.1.1.1.1.1.1.1.0;
    }

-- a child is a node where the pointers of the row are
pub child-within : (row : NodeRow) (side : Side) (version nn : ℕ) → row.left ≤ nn → row.right ≤ nn → row.extra ≤ nn → child row side version ≤ nn
child-within row side version nn left right extra = by ((row.side == side_number side) && nat_le row.stamp version) side
  where
    by : (b : Bool) (side : Side) → (if b then row.extra else plain row side) ≤ nn
    by true side = extra
    by false Left = left
    by false Right = right

module _ {v : ℕ} (c : Content) (bytes : List ℕ) (file : IsFileOf v c bytes) where
  pub root-there : (i : ℕ) → root_of c i ≤ length c.nodes
  root-there i = elim (cases_lt i (length c.roots)) [
    | inl less ↦ (facts c bytes file).roots i 0 less
    | inr past ↦ subst (λ n. n ≤ length c.nodes) (sym (get_or-eq_default c.roots 0 past)) (omega arith)
  ]

  pub child-there : (version n : ℕ) (side : Side) → child_of c.nodes version n side ≤ length c.nodes
  child-there version n side = by n
    where
      none : child no_row side version ≤ length c.nodes
      none = child-within no_row side version (length c.nodes) (omega arith) (omega arith) (omega arith)

      by : (n : ℕ) → child_of c.nodes version n side ≤ length c.nodes
      by zero = none
      by (suc i) = elim (cases_lt i (length c.nodes)) [
        | inl less ↦ (let row = (facts c bytes file).nodes i no_row less in child-within (get_or c.nodes i no_row) side version (length c.nodes) row.left row.right row.extra)
        | inr past ↦ subst (λ row. child row side version ≤ length c.nodes) (sym (get_or-eq_default c.nodes no_row past)) none
      ]
