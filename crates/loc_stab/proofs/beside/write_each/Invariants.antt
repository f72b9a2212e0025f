use Rattle.std.proofs.Common.{drop}
use Rattle.std.specs.List.{flat_map}
use Rattle.loc_spec_text.specs.Spans.{numbered}
use Rattle.loc_page.proofs.Pages.{Goes}
use Rattle.loc_stab.proofs.beside.write_each.Given as goal

abbrev pub invariant-loop-edge : goal.invariant-loop-edge
invariant-loop-edge g l =
    Goes (flat_map numbered l.edges) (flat_map numbered (drop l.edge-index l.edges))
    (g.O.Sink.meaning l.fn.sink) (g.O.Sink.meaning l.sink) l.fn.page l.page
