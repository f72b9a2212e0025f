-- What the bytes of an index file read as, as a function: what they hold where a file has its fields, be it right or wrong, is judged field by
-- field (this product's own format, in both versions). The words:
--   AreBytes         numbers below 256
--   Taker            takes something off the front of bytes: what was taken, and what is behind it
--   front            so many bytes off the front, zeros where there are none
--   byte_off, word_off, coordinate_off  numbers of one, four and eight bytes
--   times            the same so many times
--   id_off, corner_off, source_off, edge_off, mark_off, list_off, floor_off, node_off  rows
--   Counts, counts_off  the numbers of a header behind the magic letters and the version
--   rows_off, held_in  all rows of these numbers, and what the bytes of a file hold
--   first_of, fault_from  the first fault of fields in bytes from an offset on
--   is_of_second, version_in  the bytes begin as a file of the second version does; the version that they are judged by
--   reading          the content of the bytes, or their first fault
--   ReadsFiles       that is the content whose file they are, in that version, and the first fault
use Rattle.std.specs.Prelude.{ℕ, zero, suc, ◌+◌, ◌-◌, Bool, List, [], ◌∷◌, ◌++◌, length, take, drop, replicate, codes, nat_lt, ◌==◌, ◌&&◌, if◌then◌else◌, ℤ, Option, Some, None, Result, Ok, Err, ◌≡◌, ◌<◌, get_or, true, false}
use Rattle.std.specs.Int.{w8, w32, w64, from_be_bytes, cast_signed}
use Rattle.std.specs.Str.{bytes_eq}
use Rattle.loc_spec_plane.specs.{Points.Point, Points.point_at, declared.Mark.Mark}
use Rattle.loc_spec_index.specs.{declared.NodeRow.NodeRow, declared.IndexFault.IndexFault}
use Rattle.loc_spec_index.specs.declared.IndexFault.TheVariants as fault
use Rattle.loc_spec_index.specs.Content.{Content, EdgeRow}
use Rattle.loc_spec_index.specs.IndexFile.{Field, fields, spelled, fault_at, with_bytes, names_sources, IsFileOf, HasFault}

-- each is a byte
abbrev pub AreBytes : List ℕ → Type 0
AreBytes bytes = (i : ℕ) → get_or bytes i 0 < 256

-- something off the front of bytes, and what is behind it
abbrev pub Taker : Type 0 → Type 0
Taker X = List ℕ → X × List ℕ

-- so many bytes off the front, zeros where there are none
abbrev pub front : ℕ → Taker (List ℕ)
front n rest = (take n (rest ++ replicate n 0), drop n rest)

-- a number of one byte
abbrev pub byte_off : Taker ℕ
byte_off rest = (from_be_bytes w8 (take 1 rest), drop 1 rest)

-- a number of four bytes
abbrev pub word_off : Taker ℕ
word_off rest = (from_be_bytes w32 (take 4 rest), drop 4 rest)

-- a coordinate
abbrev pub coordinate_off : Taker ℤ
coordinate_off rest = (cast_signed w64 (from_be_bytes w64 (take 8 rest)), drop 8 rest)

-- the same so many times
abbrev pub times : {X : Type 0} → Taker X → ℕ → Taker (List X)
times off zero rest = ([], rest)
times off (suc n) rest = let x = off rest in let xs = times off n x.1 in (x.0 ∷ xs.0, xs.1)

-- an id: its length, its bytes
abbrev pub id_off : Taker (List ℕ)
id_off rest = let n = byte_off rest in front n.0 n.1

-- a corner: x, y
abbrev pub corner_off : Taker Point
corner_off rest = let x = coordinate_off rest in let y = coordinate_off x.1 in (point_at x.0 y.0, y.1)

-- the source of an edge with these ends: its two corners where sources are named, and else the ends
abbrev pub source_off : Bool → ℕ × ℕ → Taker (ℕ × ℕ)
source_off true ends rest = let lo = word_off rest in let hi = word_off lo.1 in ((lo.0, hi.0), hi.1)
source_off false ends rest = (ends, rest)

-- an edge: its ends, its cover list, and its source, where sources are named
abbrev pub edge_by : Bool → Taker EdgeRow
edge_by named rest = let lo = word_off rest in let hi = word_off lo.1 in let cover = word_off hi.1 in let source = source_off named (lo.0, hi.0) cover.1 in
    (record { ends = (lo.0, hi.0); source = source.0; cover = cover.0 }, source.1)

-- an edge in a version
abbrev pub edge_off : ℕ → Taker EdgeRow
edge_off v = edge_by (names_sources v)

-- a mark: its edge, its feature, and whether it is odd
abbrev pub mark_off : Taker (ℕ × Mark)
mark_off rest = let edge = word_off rest in let feature = word_off edge.1 in let odd = byte_off feature.1 in
    ((edge.0, record { feature = feature.0; odd = odd.0 == 1 }), odd.1)

-- a cover list: its length, its features
abbrev pub list_off : Taker (List ℕ)
list_off rest = let n = word_off rest in times word_off n.0 n.1

-- a floor: 0 for none, else one more than the edge
abbrev pub floor_off : Taker (Option ℕ)
floor_off rest = let n = word_off rest in (if n.0 == 0 then None else Some (n.0 - 1), n.1)

-- a node: item, left, right, side, stamp, extra
abbrev pub node_off : Taker NodeRow
node_off rest =
    let item = word_off rest in let left = word_off item.1 in let right = word_off left.1 in
    let side = byte_off right.1 in let stamp = word_off side.1 in let extra = word_off stamp.1 in
    (record { item = item.0; left = left.0; right = right.0; side = side.0; stamp = stamp.0; extra = extra.0 }, extra.1)

-- the scale, and how many features, corners, edges, marks, cover lists and nodes there are
pub record Counts : Type 0 where
  pub scale : ℕ
  pub features : ℕ
  pub corners : ℕ
  pub edges : ℕ
  pub marks : ℕ
  pub covers : ℕ
  pub nodes : ℕ

-- these numbers, in their order
abbrev pub counts_off : Taker Counts
counts_off rest =
    let scale = word_off rest in let features = word_off scale.1 in let corners = word_off features.1 in let edges = word_off corners.1 in
    let marks = word_off edges.1 in let covers = word_off marks.1 in let nodes = word_off covers.1 in
    (record { scale = scale.0; features = features.0; corners = corners.0; edges = edges.0; marks = marks.0; covers = covers.0; nodes = nodes.0 }, nodes.1)

-- the rows of all parts
abbrev pub rows_off : ℕ → Counts → Taker Content
rows_off v n rest =
    let ids = times id_off n.features rest in let corners = times corner_off n.corners ids.1 in let edges = times (edge_off v) n.edges corners.1 in
    let marks = times mark_off n.marks edges.1 in let covers = times list_off n.covers marks.1 in let floors = times floor_off n.corners covers.1 in
    let roots = times word_off n.corners floors.1 in let nodes = times node_off n.nodes roots.1 in
    (record { scale = n.scale; ids = ids.0; corners = corners.0; edges = edges.0; marks = marks.0; covers = covers.0; floors = floors.0; roots = roots.0; nodes = nodes.0 }, nodes.1)

-- what the bytes of a file of a version hold, behind the magic letters and the version
unfoldable pub held_in : ℕ → List ℕ → Content
held_in v bytes = let n = counts_off (drop 4 (drop 8 bytes)) in (rows_off v n.0 n.1).0

-- the first of two, where there is one
abbrev pub first_of : Option IndexFault → Option IndexFault → Option IndexFault
first_of (Some f) more = Some f
first_of None more = more

-- The first fault of fields in bytes from an offset on: a field ends past the bytes, or they hold there what is wrong, or bytes are left.
abbrev pub fault_from : ℕ → List Field → List ℕ → Option IndexFault
fault_from offset [] [] = None
fault_from offset [] (b ∷ rest) = Some (fault.Long (length (b ∷ rest)))
fault_from offset (f ∷ fs) rest =
    let n = length (spelled f) in
    if nat_lt (length rest) n then Some (fault.Short (offset + n))
    else first_of (fault_at offset (with_bytes (take n rest) f)) (fault_from (offset + n) fs (drop n rest))

-- the bytes begin with the magic letters and the number of the second version
abbrev pub is_of_second : List ℕ → Bool
is_of_second bytes = bytes_eq (take 8 bytes) (codes "LOCINDEX") && ((word_off (drop 8 bytes)).0 == 2)

-- such bytes are judged as a file of the second version, and all others as one of the first
abbrev pub version_in : List ℕ → ℕ
version_in bytes = if is_of_second bytes then 2 else 1

-- the content, or the fault where there is one
abbrev pub unless_fault : Content → Option IndexFault → Result Content IndexFault
unless_fault c None = Ok c
unless_fault c (Some f) = Err f

-- What bytes read as: the content that they hold, or their first fault.
unfoldable pub reading : List ℕ → Result Content IndexFault
reading bytes = let v = version_in bytes in unless_fault (held_in v bytes) (fault_from 0 (fields v (held_in v bytes)) bytes)

-- Bytes that are a file read as its content, in the version by which they are judged, and bytes that have a first fault read as that.
pub record ReadsFiles : Type 0 where
  pub content : (bytes : List ℕ) (v : ℕ) (c : Content) → AreBytes bytes → IsFileOf v c bytes → (reading bytes ≡ Ok c) × (version_in bytes ≡ v)
  pub fault : (bytes : List ℕ) (f : IndexFault) → AreBytes bytes → HasFault bytes f → reading bytes ≡ Err f
