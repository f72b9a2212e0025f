use Rattle.loc_page.proofs.Pages.{Goes}
use Rattle.loc_upgrade.specs.EdgeTexts.{edge_lines}
use Rattle.loc_upgrade.proofs.Putting.{lines_from}
use Rattle.loc_upgrade.proofs.lines.put_edges.Given as goal

-- the lines from here on are left
abbrev pub invariant-loop-edge : goal.invariant-loop-edge
invariant-loop-edge g l = Goes (edge_lines l.scale l.table) (lines_from l.scale l.table l.edge) (g.O.Sink.meaning l.fn.sink) (g.O.Sink.meaning l.sink) l.fn.page l.page
