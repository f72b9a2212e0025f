use Rattle.std.proofs.Common.{drop}
use Rattle.std.specs.Prelude.{◌++◌, codes}
use Rattle.std.specs.List.{flat_map}
use Rattle.loc_page.proofs.Pages.{Goes}
use Rattle.loc_dissolve.proofs.texts.put_all_later.Given as goal

abbrev pub invariant-loop-item : goal.invariant-loop-item
invariant-loop-item g l =
    Goes (flat_map (λ x. codes ", " ++ g.T.Written.text l.scale x) l.items) (flat_map (λ x. codes ", " ++ g.T.Written.text l.scale x) (drop l.item-index l.items))
    (g.O.Sink.meaning l.fn.sink) (g.O.Sink.meaning l.sink) l.fn.page l.page
