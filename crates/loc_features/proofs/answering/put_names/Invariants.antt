use Rattle.std.proofs.Common.{drop}
use Rattle.loc_spec_text.specs.Points.{ids_text}
use Rattle.loc_page.proofs.Pages.{Goes}
use Rattle.loc_features.specs.Told.{names_in}
use Rattle.loc_features.proofs.answering.put_names.Given as goal

abbrev pub invariant-loop-feature : goal.invariant-loop-feature
invariant-loop-feature g l =
    Goes (ids_text (names_in l.layer l.features)) (ids_text (names_in l.layer (drop l.feature-index l.features)))
    (g.O.Sink.meaning l.fn.sink) (g.O.Sink.meaning l.sink) l.fn.page l.page
