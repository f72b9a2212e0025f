-- A content of the table, the legend and the versions of a layer is a true index of it.
use Rattle.std.proofs.Common.{◌≡◌, ◌≢◌, ℕ, ◌+◌, ◌*◌, ◌^◌, ◌<◌, ◌≤◌, true, false, List, [], length, get_or, Option, None, sym, ◌∙◌, ap, subst, arith}
use Rattle.std.specs.Prelude.{IsTrue}
use Rattle.std.proofs.lemmas.Bool.{both_ways, ltb-true, not_from_false, not-true, false_from_ne_true, lt-ltb}
use Rattle.std.proofs.lemmas.List.Sums.{length-filter}
use Rattle.std.proofs.lemmas.Option.{get_or_from_slice_get, slice_get-get_or}
use Rattle.loc_spec_plane.specs.{Rings.Rings, Places.IsFloor, Places.IsVersion, Places.alive_at, Covers.cover_above}
use Rattle.loc_spec_plane.specs.Tables.{Table, AllEnds, AllEven, NoConflict, corner, edge_numbers, cut_at, layer_corners, noded_table_of, is_on_source}
use Rattle.loc_spec_plane.specs.Lists.{is_in}
use Rattle.loc_spec_index.specs.{declared.NodeRow.NodeRow, Nodes.IsShallow, Nodes.is_deep}
use Rattle.loc_spec_index.specs.Content.{Content, cover_numbers, floor_of_corner, root_of, table_in}
use Rattle.loc_spec_index.specs.TrueIndex.{IsIndexOf, IsTrueIndex, IsTrueVersion, alive_count}
use Rattle.loc_persist.specs.ByNumber.{AreRootsByNumber, AreRowsByNumber}
use Rattle.loc_persist.specs.Meaning.{IsMeaning, VersionsMeaning}
use Rattle.loc_persist.proofs.ByNumber.{rows_by_number_read}
use Rattle.loc_status.specs.Versions.{AreVersions}
use Rattle.loc_place.proofs.ListCounts.{listed_count, square_rises}
use Rattle.loc_cover.specs.Legends.{LegendRows}
use Rattle.loc_write.specs.Written.{HoldsParts, IsContentOf}
use Rattle.loc_laws_index.proofs.FlawKinds.{as_many, as_many_corners}
use Rattle.loc_laws_noding.proofs.{Counted.every_marked, Sources.noded_sources}
use Rattle.loc_laws_built.specs.Built.{ContentIsTrue, IsPlaneOf}
use Rattle.loc_laws_built.proofs.Named.{every_named}

-- what is not too long for some edges is not for more
fewer_shallow : (rows : List NodeRow) (i n k l : ℕ) → k ≤ l → IsShallow rows i n k → IsShallow rows i n l
fewer_shallow rows i n k l le shallow = λ sides leads.
    let d = length sides + 1 in
    let not_deep : is_deep k d ≡ false = not-true (is_deep k d) (shallow sides leads) in
    not_from_false (is_deep l d) (false_from_ne_true (is_deep l d) (λ deep.
    (let more = ltb-true ((l + 1) * (l + 1)) (2 ^ d) deep in
    let square = square_rises k l le in
    both_ways (is_deep k d) not_deep (lt-ltb ((k + 1) * (k + 1)) (2 ^ d) (omega (arith, more, square))))))

module _ (t : Table) (m : VersionsMeaning) (c : Content) (table : table_in c ≡ t) (meaning : IsMeaning m) (versions : AreVersions t m.sealed_lists) (nodes : AreRowsByNumber m.rows c.nodes) (roots : AreRootsByNumber m.rows m.roots c.roots) where
  -- where nodes and roots are those of the versions of the table, each version is true
  pub versions_true : (i : ℕ) → i < length c.corners → IsTrueVersion c i
  versions_true i lt =
      let fits : i < length t.corners = (let a = as_many_corners c in let b = ap (λ (u : Table). length u.corners) table in omega (arith, lt, a, b)) in
      let sealed : i < length m.roots = (let a = versions.as_many in let b = meaning.as_many in omega (arith, fits, a, b)) in
      let root = get_or m.roots i None in
      let is_root = slice_get-get_or m.roots i None sealed in
      let read = rows_by_number_read m c.nodes c.roots meaning nodes roots i root is_root in
      let list : read.0 ≡ get_or m.sealed_lists i [] = sym (get_or_from_slice_get m.sealed_lists i read.0 [] read.1) in
      let version : IsVersion t i read.0 = subst (λ (es : List ℕ). IsVersion t i es) (sym list) (versions.are i fits) in
      let alive : length read.0 ≤ alive_count t i = (let few = listed_count t (corner t i) read.0 version in let same = length-filter (alive_at t (corner t i)) (edge_numbers t) in omega (arith, few, same)) in
      record {
        list = read.0;
        is_version = subst (λ (u : Table). IsVersion u i read.0) (sym table) version;
        shallow = subst (λ (u : Table). IsShallow c.nodes i (root_of c i) (alive_count u i)) (sym table) (fewer_shallow c.nodes i (root_of c i) (length read.0) (alive_count t i) alive read.3);
        reads = read.2;
      }

module _ (scale : ℕ) (layer : List Rings) (rows : LegendRows) (m : VersionsMeaning) (c : Content) (p : IsPlaneOf layer rows m) (of : IsContentOf scale (noded_table_of layer) rows m c) (holds : HoldsParts (noded_table_of layer) rows c) where
  abbrev t : Table
  t = noded_table_of layer

  as_many_above : length rows.above ≡ length t.ends
  as_many_above = p.sound.as_many_above ∙ p.as_many

  within : (e : ℕ) → e < length c.edges → e < length t.ends
  within e lt = let a = as_many c in let b = ap (λ (u : Table). length u.ends) holds.table in omega (arith, lt, a, b)

  there : (n : ℕ) → n < length c.corners → n < length t.corners
  there n lt = let a = as_many_corners c in let b = ap (λ (u : Table). length u.corners) holds.table in omega (arith, lt, a, b)

  covers_are : c.covers ≡ rows.lists
  covers_are = ap (λ (x : Content). x.covers) of.parts

  floors_are : c.floors ≡ rows.floors
  floors_are = ap (λ (x : Content). x.floors) of.parts

  sources_on : (e : ℕ) → e < length c.edges → is_on_source (table_in c) e ≡ true
  sources_on e lt = ap (λ (u : Table). is_on_source u e) holds.table ∙ noded_sources layer e (within e lt)

  is_true : IsTrueIndex c
  is_true = record {
    ended = subst AllEnds (sym holds.table) p.ended;
    marked = λ e lt. subst (λ (u : Table). get_or u.marks e [] ≢ []) (sym holds.table) (every_marked (cut_at (layer_corners layer)) layer e (within e lt));
    even = subst AllEven (sym holds.table) p.even;
    apart = subst NoConflict (sym holds.table) p.apart;
    floors = λ n lt. subst (λ (u : Table). IsFloor u (corner u n) (floor_of_corner c n)) (sym holds.table)
        (subst (λ (fs : List (Option ℕ)). IsFloor t (corner t n) (get_or fs n None)) (sym floors_are) (p.legend.floors n (there n lt)));
    covers = λ e lt. ap (λ (ls : List (List ℕ)). get_or ls (get_or (cover_numbers c) e 0) []) covers_are
        ∙ (ap (λ (ns : List ℕ). get_or rows.lists (get_or ns e 0) []) holds.above ∙ (p.legend.above e (within e lt) ∙ ap (λ (u : Table). cover_above u e) (sym holds.table)));
    named = λ n lt. subst (λ (ns : List ℕ). IsTrue (is_in n ns)) (sym holds.above)
        (every_named t rows p.sound p.legend as_many_above n (let same = ap (λ (ls : List (List ℕ)). length ls) covers_are in omega (arith, lt, same)));
    sources = sources_on;
    versions = versions_true t m c holds.table p.meaning p.versions of.nodes of.roots;
  }

  of_layer : IsIndexOf 2 scale rows.ids layer c
  of_layer = (ap (λ (x : Content). x.scale) of.parts, ap (λ (x : Content). x.ids) of.parts, holds.table)

pub content_is_true : ContentIsTrue
content_is_true scale layer rows m c p of holds = (is_true scale layer rows m c p of holds, of_layer scale layer rows m c p of holds)
