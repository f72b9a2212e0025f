use Rattle.std.proofs.Common.{◌-◌}
use Rattle.std.specs.List.{flat_map, range_with_len}
use Rattle.loc_spec_text.specs.Spans.{numbered}
use Rattle.loc_page.proofs.Pages.{Goes}
use Rattle.loc_stab.proofs.beside.write_range.Given as goal

abbrev pub invariant-loop-edge : goal.invariant-loop-edge
invariant-loop-edge g l =
    Goes (flat_map numbered (range_with_len l.first (l.past - l.first))) (flat_map numbered (range_with_len l.edge (l.past - l.edge)))
    (g.O.Sink.meaning l.fn.sink) (g.O.Sink.meaning l.sink) l.fn.page l.page
