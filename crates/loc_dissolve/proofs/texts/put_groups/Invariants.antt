use Rattle.std.proofs.Common.{drop}
use Rattle.std.specs.List.{flat_map}
use Rattle.loc_spec_groups.specs.GroupTexts.{group_row}
use Rattle.loc_page.proofs.Pages.{Goes}
use Rattle.loc_dissolve.proofs.texts.put_groups.Given as goal

abbrev pub invariant-loop-group : goal.invariant-loop-group
invariant-loop-group g l =
    Goes (flat_map (group_row l.scale) l.groups) (flat_map (group_row l.scale) (drop l.group-index l.groups))
    (g.O.Sink.meaning l.fn.sink) (g.O.Sink.meaning l.sink) l.fn.page l.page
