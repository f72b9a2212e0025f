-- Where a part stops: all parts before it were read, and those behind it can be any.
use Rattle.std.proofs.Common.{ℕ, ◌+◌, true, List, [], ◌++◌, replicate, pos}
use Rattle.std.specs.{Prelude.Option, Prelude.None, Int.w32}
use Rattle.std.proofs.lemmas.List.{length-replicate}
use Rattle.loc_spec_plane.specs.{Points.Point, declared.Mark.Mark}
use Rattle.loc_spec_index.specs.{declared.IndexFault.IndexFault, declared.NodeRow.NodeRow, Nodes.no_row}
use Rattle.loc_spec_index.specs.IndexFile.{fields, rows_from, IsShaped, corner_row, cover_fields, floor_field, id_fields, mark_row, node_fields, number, rows_of}
use Rattle.loc_file.specs.{declared.edges.EdgeOf.EdgeOf, declared.header.Header.Header, Told.header_row, Told.told_row}
use Rattle.loc_file.specs.Readings.{Left, IsRead, IsStop, IsRowStop, IsRowsStop, AreRows, stop, no_memory, alone, one}
use Rattle.loc_file.proofs.Steps.{fault-behind, fault-front, read-append}
use Rattle.loc_file.proofs.Whole.{content, content-stop, content-read, shaped}

abbrev any_point : Point
any_point = record { x = pos 0; y = pos 0 }

abbrev any_edge : EdgeOf
any_edge = record { ends = (0, 0); cover = 0; source = (0, 0) }

abbrev any_mark : ℕ × Mark
any_mark = (0, record { feature = 0; odd = true })

abbrev IsWholeStop : ℕ → Left → IndexFault → Type 0
IsWholeStop v = IsStop (IsShaped v) (fields v)

pub header-stop : {a : Left} {f : IndexFault} → IsRowStop header_row a f → (v : ℕ) × IsWholeStop v a f
header-stop (stop h f u w) = (
  h.version,
  content-stop h (replicate h.features []) (replicate h.corners any_point) (replicate h.edges any_edge) (replicate h.marks any_mark) (replicate h.covers []) (replicate h.corners None) (replicate h.corners 0) (replicate h.nodes no_row)
      (record { ids_fit = length-replicate h.features []; corners_fit = length-replicate h.corners any_point; edges_fit = length-replicate h.edges any_edge; marks_fit = length-replicate h.marks any_mark; covers_fit = length-replicate h.covers []; floors_fit = length-replicate h.corners None; roots_fit = length-replicate h.corners 0; nodes_fit = length-replicate h.nodes no_row }) (fault-front (header_row h) (rows_from (alone id_fields) [] (replicate h.features []) ++ (rows_from (rows_of corner_row) [] (replicate h.corners any_point) ++ (rows_from (rows_of (told_row h.version h.corners h.covers)) [] (replicate h.edges any_edge) ++ (rows_from (rows_of (mark_row h.edges h.features)) [] (replicate h.marks any_mark) ++ (rows_from (cover_fields h.features) [] (replicate h.covers []) ++ (rows_from (alone (one (floor_field h.edges))) [] (replicate h.corners None) ++ (rows_from (alone (one (number w32 (h.nodes + 1)))) [] (replicate h.corners 0) ++ (rows_from (alone (node_fields h.edges h.corners h.nodes)) [] (replicate h.nodes no_row))))))))) w),
)
header-stop no_memory = (1, no_memory)

module _ (h : Header) where
  pub ids-stop : {a b : Left} {f : IndexFault} → IsRead (header_row h) a b → IsRowsStop (alone id_fields) h.features b f → IsWholeStop h.version a f
  ids-stop r0 (stop xs f as_many w) = content-stop h xs (replicate h.corners any_point) (replicate h.edges any_edge) (replicate h.marks any_mark) (replicate h.covers []) (replicate h.corners None) (replicate h.corners 0) (replicate h.nodes no_row)
      (record { ids_fit = as_many; corners_fit = length-replicate h.corners any_point; edges_fit = length-replicate h.edges any_edge; marks_fit = length-replicate h.marks any_mark; covers_fit = length-replicate h.covers []; floors_fit = length-replicate h.corners None; roots_fit = length-replicate h.corners 0; nodes_fit = length-replicate h.nodes no_row }) (fault-behind (header_row h) (rows_from (alone id_fields) [] xs ++ (rows_from (rows_of corner_row) [] (replicate h.corners any_point) ++ (rows_from (rows_of (told_row h.version h.corners h.covers)) [] (replicate h.edges any_edge) ++ (rows_from (rows_of (mark_row h.edges h.features)) [] (replicate h.marks any_mark) ++ (rows_from (cover_fields h.features) [] (replicate h.covers []) ++ (rows_from (alone (one (floor_field h.edges))) [] (replicate h.corners None) ++ (rows_from (alone (one (number w32 (h.nodes + 1)))) [] (replicate h.corners 0) ++ (rows_from (alone (node_fields h.edges h.corners h.nodes)) [] (replicate h.nodes no_row))))))))) r0 (fault-front (rows_from (alone id_fields) [] xs) (rows_from (rows_of corner_row) [] (replicate h.corners any_point) ++ (rows_from (rows_of (told_row h.version h.corners h.covers)) [] (replicate h.edges any_edge) ++ (rows_from (rows_of (mark_row h.edges h.features)) [] (replicate h.marks any_mark) ++ (rows_from (cover_fields h.features) [] (replicate h.covers []) ++ (rows_from (alone (one (floor_field h.edges))) [] (replicate h.corners None) ++ (rows_from (alone (one (number w32 (h.nodes + 1)))) [] (replicate h.corners 0) ++ (rows_from (alone (node_fields h.edges h.corners h.nodes)) [] (replicate h.nodes no_row)))))))) w))
  ids-stop r0 no_memory = no_memory

  pub corners-stop : (ids : List (List ℕ)) {a b c : Left} {f : IndexFault} → IsRead (header_row h) a b → AreRows (alone id_fields) h.features ids b c → IsRowsStop (rows_of corner_row) h.corners c f → IsWholeStop h.version a f
  corners-stop ids r0 r1 (stop xs f as_many w) = content-stop h ids xs (replicate h.edges any_edge) (replicate h.marks any_mark) (replicate h.covers []) (replicate h.corners None) (replicate h.corners 0) (replicate h.nodes no_row)
      (record { ids_fit = r1.as_many; corners_fit = as_many; edges_fit = length-replicate h.edges any_edge; marks_fit = length-replicate h.marks any_mark; covers_fit = length-replicate h.covers []; floors_fit = length-replicate h.corners None; roots_fit = length-replicate h.corners 0; nodes_fit = length-replicate h.nodes no_row }) (fault-behind (header_row h) (rows_from (alone id_fields) [] ids ++ (rows_from (rows_of corner_row) [] xs ++ (rows_from (rows_of (told_row h.version h.corners h.covers)) [] (replicate h.edges any_edge) ++ (rows_from (rows_of (mark_row h.edges h.features)) [] (replicate h.marks any_mark) ++ (rows_from (cover_fields h.features) [] (replicate h.covers []) ++ (rows_from (alone (one (floor_field h.edges))) [] (replicate h.corners None) ++ (rows_from (alone (one (number w32 (h.nodes + 1)))) [] (replicate h.corners 0) ++ (rows_from (alone (node_fields h.edges h.corners h.nodes)) [] (replicate h.nodes no_row))))))))) r0 (fault-behind (rows_from (alone id_fields) [] ids) (rows_from (rows_of corner_row) [] xs ++ (rows_from (rows_of (told_row h.version h.corners h.covers)) [] (replicate h.edges any_edge) ++ (rows_from (rows_of (mark_row h.edges h.features)) [] (replicate h.marks any_mark) ++ (rows_from (cover_fields h.features) [] (replicate h.covers []) ++ (rows_from (alone (one (floor_field h.edges))) [] (replicate h.corners None) ++ (rows_from (alone (one (number w32 (h.nodes + 1)))) [] (replicate h.corners 0) ++ (rows_from (alone (node_fields h.edges h.corners h.nodes)) [] (replicate h.nodes no_row)))))))) r1.read (fault-front (rows_from (rows_of corner_row) [] xs) (rows_from (rows_of (told_row h.version h.corners h.covers)) [] (replicate h.edges any_edge) ++ (rows_from (rows_of (mark_row h.edges h.features)) [] (replicate h.marks any_mark) ++ (rows_from (cover_fields h.features) [] (replicate h.covers []) ++ (rows_from (alone (one (floor_field h.edges))) [] (replicate h.corners None) ++ (rows_from (alone (one (number w32 (h.nodes + 1)))) [] (replicate h.corners 0) ++ (rows_from (alone (node_fields h.edges h.corners h.nodes)) [] (replicate h.nodes no_row))))))) w)))
  corners-stop ids r0 r1 no_memory = no_memory

  pub edges-stop : (ids : List (List ℕ)) (corners : List Point) {a b c d : Left} {f : IndexFault} → IsRead (header_row h) a b → AreRows (alone id_fields) h.features ids b c → AreRows (rows_of corner_row) h.corners corners c d → IsRowsStop (rows_of (told_row h.version h.corners h.covers)) h.edges d f → IsWholeStop h.version a f
  edges-stop ids corners r0 r1 r2 (stop xs f as_many w) = content-stop h ids corners xs (replicate h.marks any_mark) (replicate h.covers []) (replicate h.corners None) (replicate h.corners 0) (replicate h.nodes no_row)
      (record { ids_fit = r1.as_many; corners_fit = r2.as_many; edges_fit = as_many; marks_fit = length-replicate h.marks any_mark; covers_fit = length-replicate h.covers []; floors_fit = length-replicate h.corners None; roots_fit = length-replicate h.corners 0; nodes_fit = length-replicate h.nodes no_row }) (fault-behind (header_row h) (rows_from (alone id_fields) [] ids ++ (rows_from (rows_of corner_row) [] corners ++ (rows_from (rows_of (told_row h.version h.corners h.covers)) [] xs ++ (rows_from (rows_of (mark_row h.edges h.features)) [] (replicate h.marks any_mark) ++ (rows_from (cover_fields h.features) [] (replicate h.covers []) ++ (rows_from (alone (one (floor_field h.edges))) [] (replicate h.corners None) ++ (rows_from (alone (one (number w32 (h.nodes + 1)))) [] (replicate h.corners 0) ++ (rows_from (alone (node_fields h.edges h.corners h.nodes)) [] (replicate h.nodes no_row))))))))) r0 (fault-behind (rows_from (alone id_fields) [] ids) (rows_from (rows_of corner_row) [] corners ++ (rows_from (rows_of (told_row h.version h.corners h.covers)) [] xs ++ (rows_from (rows_of (mark_row h.edges h.features)) [] (replicate h.marks any_mark) ++ (rows_from (cover_fields h.features) [] (replicate h.covers []) ++ (rows_from (alone (one (floor_field h.edges))) [] (replicate h.corners None) ++ (rows_from (alone (one (number w32 (h.nodes + 1)))) [] (replicate h.corners 0) ++ (rows_from (alone (node_fields h.edges h.corners h.nodes)) [] (replicate h.nodes no_row)))))))) r1.read (fault-behind (rows_from (rows_of corner_row) [] corners) (rows_from (rows_of (told_row h.version h.corners h.covers)) [] xs ++ (rows_from (rows_of (mark_row h.edges h.features)) [] (replicate h.marks any_mark) ++ (rows_from (cover_fields h.features) [] (replicate h.covers []) ++ (rows_from (alone (one (floor_field h.edges))) [] (replicate h.corners None) ++ (rows_from (alone (one (number w32 (h.nodes + 1)))) [] (replicate h.corners 0) ++ (rows_from (alone (node_fields h.edges h.corners h.nodes)) [] (replicate h.nodes no_row))))))) r2.read (fault-front (rows_from (rows_of (told_row h.version h.corners h.covers)) [] xs) (rows_from (rows_of (mark_row h.edges h.features)) [] (replicate h.marks any_mark) ++ (rows_from (cover_fields h.features) [] (replicate h.covers []) ++ (rows_from (alone (one (floor_field h.edges))) [] (replicate h.corners None) ++ (rows_from (alone (one (number w32 (h.nodes + 1)))) [] (replicate h.corners 0) ++ (rows_from (alone (node_fields h.edges h.corners h.nodes)) [] (replicate h.nodes no_row)))))) w))))
  edges-stop ids corners r0 r1 r2 no_memory = no_memory

  pub marks-stop : (ids : List (List ℕ)) (corners : List Point) (edges : List EdgeOf) {a b c d e : Left} {f : IndexFault} → IsRead (header_row h) a b → AreRows (alone id_fields) h.features ids b c → AreRows (rows_of corner_row) h.corners corners c d → AreRows (rows_of (told_row h.version h.corners h.covers)) h.edges edges d e → IsRowsStop (rows_of (mark_row h.edges h.features)) h.marks e f → IsWholeStop h.version a f
  marks-stop ids corners edges r0 r1 r2 r3 (stop xs f as_many w) = content-stop h ids corners edges xs (replicate h.covers []) (replicate h.corners None) (replicate h.corners 0) (replicate h.nodes no_row)
      (record { ids_fit = r1.as_many; corners_fit = r2.as_many; edges_fit = r3.as_many; marks_fit = as_many; covers_fit = length-replicate h.covers []; floors_fit = length-replicate h.corners None; roots_fit = length-replicate h.corners 0; nodes_fit = length-replicate h.nodes no_row }) (fault-behind (header_row h) (rows_from (alone id_fields) [] ids ++ (rows_from (rows_of corner_row) [] corners ++ (rows_from (rows_of (told_row h.version h.corners h.covers)) [] edges ++ (rows_from (rows_of (mark_row h.edges h.features)) [] xs ++ (rows_from (cover_fields h.features) [] (replicate h.covers []) ++ (rows_from (alone (one (floor_field h.edges))) [] (replicate h.corners None) ++ (rows_from (alone (one (number w32 (h.nodes + 1)))) [] (replicate h.corners 0) ++ (rows_from (alone (node_fields h.edges h.corners h.nodes)) [] (replicate h.nodes no_row))))))))) r0 (fault-behind (rows_from (alone id_fields) [] ids) (rows_from (rows_of corner_row) [] corners ++ (rows_from (rows_of (told_row h.version h.corners h.covers)) [] edges ++ (rows_from (rows_of (mark_row h.edges h.features)) [] xs ++ (rows_from (cover_fields h.features) [] (replicate h.covers []) ++ (rows_from (alone (one (floor_field h.edges))) [] (replicate h.corners None) ++ (rows_from (alone (one (number w32 (h.nodes + 1)))) [] (replicate h.corners 0) ++ (rows_from (alone (node_fields h.edges h.corners h.nodes)) [] (replicate h.nodes no_row)))))))) r1.read (fault-behind (rows_from (rows_of corner_row) [] corners) (rows_from (rows_of (told_row h.version h.corners h.covers)) [] edges ++ (rows_from (rows_of (mark_row h.edges h.features)) [] xs ++ (rows_from (cover_fields h.features) [] (replicate h.covers []) ++ (rows_from (alone (one (floor_field h.edges))) [] (replicate h.corners None) ++ (rows_from (alone (one (number w32 (h.nodes + 1)))) [] (replicate h.corners 0) ++ (rows_from (alone (node_fields h.edges h.corners h.nodes)) [] (replicate h.nodes no_row))))))) r2.read (fault-behind (rows_from (rows_of (told_row h.version h.corners h.covers)) [] edges) (rows_from (rows_of (mark_row h.edges h.features)) [] xs ++ (rows_from (cover_fields h.features) [] (replicate h.covers []) ++ (rows_from (alone (one (floor_field h.edges))) [] (replicate h.corners None) ++ (rows_from (alone (one (number w32 (h.nodes + 1)))) [] (replicate h.corners 0) ++ (rows_from (alone (node_fields h.edges h.corners h.nodes)) [] (replicate h.nodes no_row)))))) r3.read (fault-front (rows_from (rows_of (mark_row h.edges h.features)) [] xs) (rows_from (cover_fields h.features) [] (replicate h.covers []) ++ (rows_from (alone (one (floor_field h.edges))) [] (replicate h.corners None) ++ (rows_from (alone (one (number w32 (h.nodes + 1)))) [] (replicate h.corners 0) ++ (rows_from (alone (node_fields h.edges h.corners h.nodes)) [] (replicate h.nodes no_row))))) w)))))
  marks-stop ids corners edges r0 r1 r2 r3 no_memory = no_memory

  pub covers-stop : (ids : List (List ℕ)) (corners : List Point) (edges : List EdgeOf) (marks : List (ℕ × Mark)) {a b c d e g : Left} {f : IndexFault} → IsRead (header_row h) a b → AreRows (alone id_fields) h.features ids b c → AreRows (rows_of corner_row) h.corners corners c d → AreRows (rows_of (told_row h.version h.corners h.covers)) h.edges edges d e → AreRows (rows_of (mark_row h.edges h.features)) h.marks marks e g → IsRowsStop (cover_fields h.features) h.covers g f → IsWholeStop h.version a f
  covers-stop ids corners edges marks r0 r1 r2 r3 r4 (stop xs f as_many w) = content-stop h ids corners edges marks xs (replicate h.corners None) (replicate h.corners 0) (replicate h.nodes no_row)
      (record { ids_fit = r1.as_many; corners_fit = r2.as_many; edges_fit = r3.as_many; marks_fit = r4.as_many; covers_fit = as_many; floors_fit = length-replicate h.corners None; roots_fit = length-replicate h.corners 0; nodes_fit = length-replicate h.nodes no_row }) (fault-behind (header_row h) (rows_from (alone id_fields) [] ids ++ (rows_from (rows_of corner_row) [] corners ++ (rows_from (rows_of (told_row h.version h.corners h.covers)) [] edges ++ (rows_from (rows_of (mark_row h.edges h.features)) [] marks ++ (rows_from (cover_fields h.features) [] xs ++ (rows_from (alone (one (floor_field h.edges))) [] (replicate h.corners None) ++ (rows_from (alone (one (number w32 (h.nodes + 1)))) [] (replicate h.corners 0) ++ (rows_from (alone (node_fields h.edges h.corners h.nodes)) [] (replicate h.nodes no_row))))))))) r0 (fault-behind (rows_from (alone id_fields) [] ids) (rows_from (rows_of corner_row) [] corners ++ (rows_from (rows_of (told_row h.version h.corners h.covers)) [] edges ++ (rows_from (rows_of (mark_row h.edges h.features)) [] marks ++ (rows_from (cover_fields h.features) [] xs ++ (rows_from (alone (one (floor_field h.edges))) [] (replicate h.corners None) ++ (rows_from (alone (one (number w32 (h.nodes + 1)))) [] (replicate h.corners 0) ++ (rows_from (alone (node_fields h.edges h.corners h.nodes)) [] (replicate h.nodes no_row)))))))) r1.read (fault-behind (rows_from (rows_of corner_row) [] corners) (rows_from (rows_of (told_row h.version h.corners h.covers)) [] edges ++ (rows_from (rows_of (mark_row h.edges h.features)) [] marks ++ (rows_from (cover_fields h.features) [] xs ++ (rows_from (alone (one (floor_field h.edges))) [] (replicate h.corners None) ++ (rows_from (alone (one (number w32 (h.nodes + 1)))) [] (replicate h.corners 0) ++ (rows_from (alone (node_fields h.edges h.corners h.nodes)) [] (replicate h.nodes no_row))))))) r2.read (fault-behind (rows_from (rows_of (told_row h.version h.corners h.covers)) [] edges) (rows_from (rows_of (mark_row h.edges h.features)) [] marks ++ (rows_from (cover_fields h.features) [] xs ++ (rows_from (alone (one (floor_field h.edges))) [] (replicate h.corners None) ++ (rows_from (alone (one (number w32 (h.nodes + 1)))) [] (replicate h.corners 0) ++ (rows_from (alone (node_fields h.edges h.corners h.nodes)) [] (replicate h.nodes no_row)))))) r3.read (fault-behind (rows_from (rows_of (mark_row h.edges h.features)) [] marks) (rows_from (cover_fields h.features) [] xs ++ (rows_from (alone (one (floor_field h.edges))) [] (replicate h.corners None) ++ (rows_from (alone (one (number w32 (h.nodes + 1)))) [] (replicate h.corners 0) ++ (rows_from (alone (node_fields h.edges h.corners h.nodes)) [] (replicate h.nodes no_row))))) r4.read (fault-front (rows_from (cover_fields h.features) [] xs) (rows_from (alone (one (floor_field h.edges))) [] (replicate h.corners None) ++ (rows_from (alone (one (number w32 (h.nodes + 1)))) [] (replicate h.corners 0) ++ (rows_from (alone (node_fields h.edges h.corners h.nodes)) [] (replicate h.nodes no_row)))) w))))))
  covers-stop ids corners edges marks r0 r1 r2 r3 r4 no_memory = no_memory

  pub floors-stop : (ids : List (List ℕ)) (corners : List Point) (edges : List EdgeOf) (marks : List (ℕ × Mark)) (covers : List (List ℕ)) {a b c d e g i : Left} {f : IndexFault} → IsRead (header_row h) a b → AreRows (alone id_fields) h.features ids b c → AreRows (rows_of corner_row) h.corners corners c d → AreRows (rows_of (told_row h.version h.corners h.covers)) h.edges edges d e → AreRows (rows_of (mark_row h.edges h.features)) h.marks marks e g → AreRows (cover_fields h.features) h.covers covers g i → IsRowsStop (alone (one (floor_field h.edges))) h.corners i f → IsWholeStop h.version a f
  floors-stop ids corners edges marks covers r0 r1 r2 r3 r4 r5 (stop xs f as_many w) = content-stop h ids corners edges marks covers xs (replicate h.corners 0) (replicate h.nodes no_row)
      (record { ids_fit = r1.as_many; corners_fit = r2.as_many; edges_fit = r3.as_many; marks_fit = r4.as_many; covers_fit = r5.as_many; floors_fit = as_many; roots_fit = length-replicate h.corners 0; nodes_fit = length-replicate h.nodes no_row }) (fault-behind (header_row h) (rows_from (alone id_fields) [] ids ++ (rows_from (rows_of corner_row) [] corners ++ (rows_from (rows_of (told_row h.version h.corners h.covers)) [] edges ++ (rows_from (rows_of (mark_row h.edges h.features)) [] marks ++ (rows_from (cover_fields h.features) [] covers ++ (rows_from (alone (one (floor_field h.edges))) [] xs ++ (rows_from (alone (one (number w32 (h.nodes + 1)))) [] (replicate h.corners 0) ++ (rows_from (alone (node_fields h.edges h.corners h.nodes)) [] (replicate h.nodes no_row))))))))) r0 (fault-behind (rows_from (alone id_fields) [] ids) (rows_from (rows_of corner_row) [] corners ++ (rows_from (rows_of (told_row h.version h.corners h.covers)) [] edges ++ (rows_from (rows_of (mark_row h.edges h.features)) [] marks ++ (rows_from (cover_fields h.features) [] covers ++ (rows_from (alone (one (floor_field h.edges))) [] xs ++ (rows_from (alone (one (number w32 (h.nodes + 1)))) [] (replicate h.corners 0) ++ (rows_from (alone (node_fields h.edges h.corners h.nodes)) [] (replicate h.nodes no_row)))))))) r1.read (fault-behind (rows_from (rows_of corner_row) [] corners) (rows_from (rows_of (told_row h.version h.corners h.covers)) [] edges ++ (rows_from (rows_of (mark_row h.edges h.features)) [] marks ++ (rows_from (cover_fields h.features) [] covers ++ (rows_from (alone (one (floor_field h.edges))) [] xs ++ (rows_from (alone (one (number w32 (h.nodes + 1)))) [] (replicate h.corners 0) ++ (rows_from (alone (node_fields h.edges h.corners h.nodes)) [] (replicate h.nodes no_row))))))) r2.read (fault-behind (rows_from (rows_of (told_row h.version h.corners h.covers)) [] edges) (rows_from (rows_of (mark_row h.edges h.features)) [] marks ++ (rows_from (cover_fields h.features) [] covers ++ (rows_from (alone (one (floor_field h.edges))) [] xs ++ (rows_from (alone (one (number w32 (h.nodes + 1)))) [] (replicate h.corners 0) ++ (rows_from (alone (node_fields h.edges h.corners h.nodes)) [] (replicate h.nodes no_row)))))) r3.read (fault-behind (rows_from (rows_of (mark_row h.edges h.features)) [] marks) (rows_from (cover_fields h.features) [] covers ++ (rows_from (alone (one (floor_field h.edges))) [] xs ++ (rows_from (alone (one (number w32 (h.nodes + 1)))) [] (replicate h.corners 0) ++ (rows_from (alone (node_fields h.edges h.corners h.nodes)) [] (replicate h.nodes no_row))))) r4.read (fault-behind (rows_from (cover_fields h.features) [] covers) (rows_from (alone (one (floor_field h.edges))) [] xs ++ (rows_from (alone (one (number w32 (h.nodes + 1)))) [] (replicate h.corners 0) ++ (rows_from (alone (node_fields h.edges h.corners h.nodes)) [] (replicate h.nodes no_row)))) r5.read (fault-front (rows_from (alone (one (floor_field h.edges))) [] xs) (rows_from (alone (one (number w32 (h.nodes + 1)))) [] (replicate h.corners 0) ++ (rows_from (alone (node_fields h.edges h.corners h.nodes)) [] (replicate h.nodes no_row))) w)))))))
  floors-stop ids corners edges marks covers r0 r1 r2 r3 r4 r5 no_memory = no_memory

  pub roots-stop : (ids : List (List ℕ)) (corners : List Point) (edges : List EdgeOf) (marks : List (ℕ × Mark)) (covers : List (List ℕ)) (floors : List (Option ℕ)) {a b c d e g i j : Left} {f : IndexFault} → IsRead (header_row h) a b → AreRows (alone id_fields) h.features ids b c → AreRows (rows_of corner_row) h.corners corners c d → AreRows (rows_of (told_row h.version h.corners h.covers)) h.edges edges d e → AreRows (rows_of (mark_row h.edges h.features)) h.marks marks e g → AreRows (cover_fields h.features) h.covers covers g i → AreRows (alone (one (floor_field h.edges))) h.corners floors i j → IsRowsStop (alone (one (number w32 (h.nodes + 1)))) h.corners j f → IsWholeStop h.version a f
  roots-stop ids corners edges marks covers floors r0 r1 r2 r3 r4 r5 r6 (stop xs f as_many w) = content-stop h ids corners edges marks covers floors xs (replicate h.nodes no_row)
      (record { ids_fit = r1.as_many; corners_fit = r2.as_many; edges_fit = r3.as_many; marks_fit = r4.as_many; covers_fit = r5.as_many; floors_fit = r6.as_many; roots_fit = as_many; nodes_fit = length-replicate h.nodes no_row }) (fault-behind (header_row h) (rows_from (alone id_fields) [] ids ++ (rows_from (rows_of corner_row) [] corners ++ (rows_from (rows_of (told_row h.version h.corners h.covers)) [] edges ++ (rows_from (rows_of (mark_row h.edges h.features)) [] marks ++ (rows_from (cover_fields h.features) [] covers ++ (rows_from (alone (one (floor_field h.edges))) [] floors ++ (rows_from (alone (one (number w32 (h.nodes + 1)))) [] xs ++ (rows_from (alone (node_fields h.edges h.corners h.nodes)) [] (replicate h.nodes no_row))))))))) r0 (fault-behind (rows_from (alone id_fields) [] ids) (rows_from (rows_of corner_row) [] corners ++ (rows_from (rows_of (told_row h.version h.corners h.covers)) [] edges ++ (rows_from (rows_of (mark_row h.edges h.features)) [] marks ++ (rows_from (cover_fields h.features) [] covers ++ (rows_from (alone (one (floor_field h.edges))) [] floors ++ (rows_from (alone (one (number w32 (h.nodes + 1)))) [] xs ++ (rows_from (alone (node_fields h.edges h.corners h.nodes)) [] (replicate h.nodes no_row)))))))) r1.read (fault-behind (rows_from (rows_of corner_row) [] corners) (rows_from (rows_of (told_row h.version h.corners h.covers)) [] edges ++ (rows_from (rows_of (mark_row h.edges h.features)) [] marks ++ (rows_from (cover_fields h.features) [] covers ++ (rows_from (alone (one (floor_field h.edges))) [] floors ++ (rows_from (alone (one (number w32 (h.nodes + 1)))) [] xs ++ (rows_from (alone (node_fields h.edges h.corners h.nodes)) [] (replicate h.nodes no_row))))))) r2.read (fault-behind (rows_from (rows_of (told_row h.version h.corners h.covers)) [] edges) (rows_from (rows_of (mark_row h.edges h.features)) [] marks ++ (rows_from (cover_fields h.features) [] covers ++ (rows_from (alone (one (floor_field h.edges))) [] floors ++ (rows_from (alone (one (number w32 (h.nodes + 1)))) [] xs ++ (rows_from (alone (node_fields h.edges h.corners h.nodes)) [] (replicate h.nodes no_row)))))) r3.read (fault-behind (rows_from (rows_of (mark_row h.edges h.features)) [] marks) (rows_from (cover_fields h.features) [] covers ++ (rows_from (alone (one (floor_field h.edges))) [] floors ++ (rows_from (alone (one (number w32 (h.nodes + 1)))) [] xs ++ (rows_from (alone (node_fields h.edges h.corners h.nodes)) [] (replicate h.nodes no_row))))) r4.read (fault-behind (rows_from (cover_fields h.features) [] covers) (rows_from (alone (one (floor_field h.edges))) [] floors ++ (rows_from (alone (one (number w32 (h.nodes + 1)))) [] xs ++ (rows_from (alone (node_fields h.edges h.corners h.nodes)) [] (replicate h.nodes no_row)))) r5.read (fault-behind (rows_from (alone (one (floor_field h.edges))) [] floors) (rows_from (alone (one (number w32 (h.nodes + 1)))) [] xs ++ (rows_from (alone (node_fields h.edges h.corners h.nodes)) [] (replicate h.nodes no_row))) r6.read (fault-front (rows_from (alone (one (number w32 (h.nodes + 1)))) [] xs) (rows_from (alone (node_fields h.edges h.corners h.nodes)) [] (replicate h.nodes no_row)) w))))))))
  roots-stop ids corners edges marks covers floors r0 r1 r2 r3 r4 r5 r6 no_memory = no_memory

  pub nodes-stop : (ids : List (List ℕ)) (corners : List Point) (edges : List EdgeOf) (marks : List (ℕ × Mark)) (covers : List (List ℕ)) (floors : List (Option ℕ)) (roots : List ℕ) {a b c d e g i j k : Left} {f : IndexFault} → IsRead (header_row h) a b → AreRows (alone id_fields) h.features ids b c → AreRows (rows_of corner_row) h.corners corners c d → AreRows (rows_of (told_row h.version h.corners h.covers)) h.edges edges d e → AreRows (rows_of (mark_row h.edges h.features)) h.marks marks e g → AreRows (cover_fields h.features) h.covers covers g i → AreRows (alone (one (floor_field h.edges))) h.corners floors i j → AreRows (alone (one (number w32 (h.nodes + 1)))) h.corners roots j k → IsRowsStop (alone (node_fields h.edges h.corners h.nodes)) h.nodes k f → IsWholeStop h.version a f
  nodes-stop ids corners edges marks covers floors roots r0 r1 r2 r3 r4 r5 r6 r7 (stop xs f as_many w) = content-stop h ids corners edges marks covers floors roots xs
      (record { ids_fit = r1.as_many; corners_fit = r2.as_many; edges_fit = r3.as_many; marks_fit = r4.as_many; covers_fit = r5.as_many; floors_fit = r6.as_many; roots_fit = r7.as_many; nodes_fit = as_many }) (fault-behind (header_row h) (rows_from (alone id_fields) [] ids ++ (rows_from (rows_of corner_row) [] corners ++ (rows_from (rows_of (told_row h.version h.corners h.covers)) [] edges ++ (rows_from (rows_of (mark_row h.edges h.features)) [] marks ++ (rows_from (cover_fields h.features) [] covers ++ (rows_from (alone (one (floor_field h.edges))) [] floors ++ (rows_from (alone (one (number w32 (h.nodes + 1)))) [] roots ++ (rows_from (alone (node_fields h.edges h.corners h.nodes)) [] xs)))))))) r0 (fault-behind (rows_from (alone id_fields) [] ids) (rows_from (rows_of corner_row) [] corners ++ (rows_from (rows_of (told_row h.version h.corners h.covers)) [] edges ++ (rows_from (rows_of (mark_row h.edges h.features)) [] marks ++ (rows_from (cover_fields h.features) [] covers ++ (rows_from (alone (one (floor_field h.edges))) [] floors ++ (rows_from (alone (one (number w32 (h.nodes + 1)))) [] roots ++ (rows_from (alone (node_fields h.edges h.corners h.nodes)) [] xs))))))) r1.read (fault-behind (rows_from (rows_of corner_row) [] corners) (rows_from (rows_of (told_row h.version h.corners h.covers)) [] edges ++ (rows_from (rows_of (mark_row h.edges h.features)) [] marks ++ (rows_from (cover_fields h.features) [] covers ++ (rows_from (alone (one (floor_field h.edges))) [] floors ++ (rows_from (alone (one (number w32 (h.nodes + 1)))) [] roots ++ (rows_from (alone (node_fields h.edges h.corners h.nodes)) [] xs)))))) r2.read (fault-behind (rows_from (rows_of (told_row h.version h.corners h.covers)) [] edges) (rows_from (rows_of (mark_row h.edges h.features)) [] marks ++ (rows_from (cover_fields h.features) [] covers ++ (rows_from (alone (one (floor_field h.edges))) [] floors ++ (rows_from (alone (one (number w32 (h.nodes + 1)))) [] roots ++ (rows_from (alone (node_fields h.edges h.corners h.nodes)) [] xs))))) r3.read (fault-behind (rows_from (rows_of (mark_row h.edges h.features)) [] marks) (rows_from (cover_fields h.features) [] covers ++ (rows_from (alone (one (floor_field h.edges))) [] floors ++ (rows_from (alone (one (number w32 (h.nodes + 1)))) [] roots ++ (rows_from (alone (node_fields h.edges h.corners h.nodes)) [] xs)))) r4.read (fault-behind (rows_from (cover_fields h.features) [] covers) (rows_from (alone (one (floor_field h.edges))) [] floors ++ (rows_from (alone (one (number w32 (h.nodes + 1)))) [] roots ++ (rows_from (alone (node_fields h.edges h.corners h.nodes)) [] xs))) r5.read (fault-behind (rows_from (alone (one (floor_field h.edges))) [] floors) (rows_from (alone (one (number w32 (h.nodes + 1)))) [] roots ++ (rows_from (alone (node_fields h.edges h.corners h.nodes)) [] xs)) r6.read (fault-behind (rows_from (alone (one (number w32 (h.nodes + 1)))) [] roots) (rows_from (alone (node_fields h.edges h.corners h.nodes)) [] xs) r7.read (w)))))))))
  nodes-stop ids corners edges marks covers floors roots r0 r1 r2 r3 r4 r5 r6 r7 no_memory = no_memory

  pub all-read : (ids : List (List ℕ)) (corners : List Point) (edges : List EdgeOf) (marks : List (ℕ × Mark)) (covers : List (List ℕ)) (floors : List (Option ℕ)) (roots : List ℕ) (nodes : List NodeRow) {a b c d e g i j k l : Left} → IsRead (header_row h) a b → AreRows (alone id_fields) h.features ids b c → AreRows (rows_of corner_row) h.corners corners c d → AreRows (rows_of (told_row h.version h.corners h.covers)) h.edges edges d e → AreRows (rows_of (mark_row h.edges h.features)) h.marks marks e g → AreRows (cover_fields h.features) h.covers covers g i → AreRows (alone (one (floor_field h.edges))) h.corners floors i j → AreRows (alone (one (number w32 (h.nodes + 1)))) h.corners roots j k → AreRows (alone (node_fields h.edges h.corners h.nodes)) h.nodes nodes k l → IsRead (fields h.version (content h ids corners edges marks covers floors roots nodes)) a l
  all-read ids corners edges marks covers floors roots nodes r0 r1 r2 r3 r4 r5 r6 r7 r8 = content-read h ids corners edges marks covers floors roots nodes (record { ids_fit = r1.as_many; corners_fit = r2.as_many; edges_fit = r3.as_many; marks_fit = r4.as_many; covers_fit = r5.as_many; floors_fit = r6.as_many; roots_fit = r7.as_many; nodes_fit = r8.as_many }) (read-append (header_row h) (rows_from (alone id_fields) [] ids ++ (rows_from (rows_of corner_row) [] corners ++ (rows_from (rows_of (told_row h.version h.corners h.covers)) [] edges ++ (rows_from (rows_of (mark_row h.edges h.features)) [] marks ++ (rows_from (cover_fields h.features) [] covers ++ (rows_from (alone (one (floor_field h.edges))) [] floors ++ (rows_from (alone (one (number w32 (h.nodes + 1)))) [] roots ++ (rows_from (alone (node_fields h.edges h.corners h.nodes)) [] nodes)))))))) r0 (read-append (rows_from (alone id_fields) [] ids) (rows_from (rows_of corner_row) [] corners ++ (rows_from (rows_of (told_row h.version h.corners h.covers)) [] edges ++ (rows_from (rows_of (mark_row h.edges h.features)) [] marks ++ (rows_from (cover_fields h.features) [] covers ++ (rows_from (alone (one (floor_field h.edges))) [] floors ++ (rows_from (alone (one (number w32 (h.nodes + 1)))) [] roots ++ (rows_from (alone (node_fields h.edges h.corners h.nodes)) [] nodes))))))) r1.read (read-append (rows_from (rows_of corner_row) [] corners) (rows_from (rows_of (told_row h.version h.corners h.covers)) [] edges ++ (rows_from (rows_of (mark_row h.edges h.features)) [] marks ++ (rows_from (cover_fields h.features) [] covers ++ (rows_from (alone (one (floor_field h.edges))) [] floors ++ (rows_from (alone (one (number w32 (h.nodes + 1)))) [] roots ++ (rows_from (alone (node_fields h.edges h.corners h.nodes)) [] nodes)))))) r2.read (read-append (rows_from (rows_of (told_row h.version h.corners h.covers)) [] edges) (rows_from (rows_of (mark_row h.edges h.features)) [] marks ++ (rows_from (cover_fields h.features) [] covers ++ (rows_from (alone (one (floor_field h.edges))) [] floors ++ (rows_from (alone (one (number w32 (h.nodes + 1)))) [] roots ++ (rows_from (alone (node_fields h.edges h.corners h.nodes)) [] nodes))))) r3.read (read-append (rows_from (rows_of (mark_row h.edges h.features)) [] marks) (rows_from (cover_fields h.features) [] covers ++ (rows_from (alone (one (floor_field h.edges))) [] floors ++ (rows_from (alone (one (number w32 (h.nodes + 1)))) [] roots ++ (rows_from (alone (node_fields h.edges h.corners h.nodes)) [] nodes)))) r4.read (read-append (rows_from (cover_fields h.features) [] covers) (rows_from (alone (one (floor_field h.edges))) [] floors ++ (rows_from (alone (one (number w32 (h.nodes + 1)))) [] roots ++ (rows_from (alone (node_fields h.edges h.corners h.nodes)) [] nodes))) r5.read (read-append (rows_from (alone (one (floor_field h.edges))) [] floors) (rows_from (alone (one (number w32 (h.nodes + 1)))) [] roots ++ (rows_from (alone (node_fields h.edges h.corners h.nodes)) [] nodes)) r6.read (read-append (rows_from (alone (one (number w32 (h.nodes + 1)))) [] roots) (rows_from (alone (node_fields h.edges h.corners h.nodes)) [] nodes) r7.read (r8.read)))))))))

  pub all-shaped : (ids : List (List ℕ)) (corners : List Point) (edges : List EdgeOf) (marks : List (ℕ × Mark)) (covers : List (List ℕ)) (floors : List (Option ℕ)) (roots : List ℕ) (nodes : List NodeRow) {a b c d e g i j k l : Left} → IsRead (header_row h) a b → AreRows (alone id_fields) h.features ids b c → AreRows (rows_of corner_row) h.corners corners c d → AreRows (rows_of (told_row h.version h.corners h.covers)) h.edges edges d e → AreRows (rows_of (mark_row h.edges h.features)) h.marks marks e g → AreRows (cover_fields h.features) h.covers covers g i → AreRows (alone (one (floor_field h.edges))) h.corners floors i j → AreRows (alone (one (number w32 (h.nodes + 1)))) h.corners roots j k → AreRows (alone (node_fields h.edges h.corners h.nodes)) h.nodes nodes k l → IsShaped h.version (content h ids corners edges marks covers floors roots nodes)
  all-shaped ids corners edges marks covers floors roots nodes r0 r1 r2 r3 r4 r5 r6 r7 r8 = shaped h ids corners edges marks covers floors roots nodes (record { ids_fit = r1.as_many; corners_fit = r2.as_many; edges_fit = r3.as_many; marks_fit = r4.as_many; covers_fit = r5.as_many; floors_fit = r6.as_many; roots_fit = r7.as_many; nodes_fit = r8.as_many })
