use Rattle.std.proofs.Common.{List, ℕ, ◌+◌, ◌-◌, arith, subst}
use Rattle.std.specs.List.{flat_map, range_with_len}
use Rattle.std.proofs.lemmas.Result.{err_from_is_err_and}
use Rattle.loc_spec_text.specs.Spans.{numbered}
use Rattle.loc_page.proofs.Pages.{Goes, goes_more, stop}
use Rattle.loc_stab.proofs.Ranges.{goes_stop, range_next, range_over}
use Rattle.loc_stab.proofs.beside.write_range.Goals as goal

pub loop-edge-init : goal.loop-edge-init
loop-edge-init g c = λ n k r p. p

pub returns-in_err-put_edge : goal.returns-in_err-put_edge
returns-in_err-put_edge g c =
    (subst (λ (l : List ℕ). Goes (flat_map numbered (range_with_len c.args.first (c.args.past - c.args.first))) l (g.O.Sink.meaning c.args.sink.now) (g.O.Sink.meaning c.loop-edge.sink) c.args.page.now c.loop-edge.page) (range_next c.loop-edge.edge c.args.past (omega arith)) c.loop-edge.invariant) _ _ _
    (stop _ c.in_err-put_edge.was (err_from_is_err_and _ c.from_residual.ensures.1).1 c.put_edge.ensures)

pub loop-edge-preserved : goal.loop-edge-preserved
loop-edge-preserved g c =
    goes_more _ (numbered c.loop-edge.edge) (flat_map numbered (range_with_len (c.loop-edge.edge + 1) (c.args.past - (c.loop-edge.edge + 1)))) _ _ c.in_ok-put_edge.was
    (subst (λ (l : List ℕ). Goes (flat_map numbered (range_with_len c.args.first (c.args.past - c.args.first))) l (g.O.Sink.meaning c.args.sink.now) (g.O.Sink.meaning c.loop-edge.sink) c.args.page.now c.loop-edge.page) (range_next c.loop-edge.edge c.args.past (omega arith)) c.loop-edge.invariant) c.put_edge.ensures

pub returns : goal.returns
returns g c = goes_stop _ _ _ _ _ _ _ (range_over c.loop-edge.edge c.args.past (omega arith)) c.loop-edge.invariant
