use Rattle.std.proofs.Common.{drop}
use Rattle.std.specs.List.{flat_map}
use Rattle.loc_half.specs.HalfEdgeLists.{next_in}
use Rattle.loc_page.proofs.Pages.{Goes}
use Rattle.loc_faces.specs.FaceTexts.{cycle_line}
use Rattle.loc_faces.proofs.texts.put_lines.Given as goal

-- the lines before are put
abbrev pub invariant-loop-leader : goal.invariant-loop-leader
invariant-loop-leader g l =
    Goes (flat_map (cycle_line l.scale l.table (next_in l.half) l.word) l.leaders) (flat_map (cycle_line l.scale l.table (next_in l.half) l.word) (drop l.leader-index l.leaders))
    (g.O.Sink.meaning l.fn.sink) (g.O.Sink.meaning l.sink) l.fn.page l.page
