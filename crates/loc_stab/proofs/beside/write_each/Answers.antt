use Rattle.std.proofs.{Common.get_or, Common.refl, Common.arith, lemmas.Result.err_from_is_err_and}
use Rattle.std.specs.List.{flat_map}
use Rattle.loc_spec_text.specs.Spans.{numbered}
use Rattle.loc_page.proofs.Pages.{goes_end, goes_more, goes_next, stop}
use Rattle.loc_stab.proofs.beside.write_each.Goals as goal

pub loop-edge-init : goal.loop-edge-init
loop-edge-init g c = λ n k r p. p

pub returns-in_err-put_edge : goal.returns-in_err-put_edge
returns-in_err-put_edge g c =
    goes_next (λ xs. flat_map numbered xs) c.args.edges.now c.loop-edge.edge-index 0 (numbered (get_or c.args.edges.now c.loop-edge.edge-index 0)) _ _ _ _ _ (omega arith) (refl) c.loop-edge.invariant _ _ _
    (stop _ c.in_err-put_edge.was (err_from_is_err_and _ c.from_residual.ensures.1).1 c.put_edge.ensures)

pub loop-edge-preserved : goal.loop-edge-preserved
loop-edge-preserved g c =
    goes_more _ (numbered (get_or c.args.edges.now c.loop-edge.edge-index 0)) _ _ _ c.in_ok-put_edge.was
    (goes_next (λ xs. flat_map numbered xs) c.args.edges.now c.loop-edge.edge-index 0 (numbered (get_or c.args.edges.now c.loop-edge.edge-index 0)) _ _ _ _ _ (omega arith) (refl) c.loop-edge.invariant) c.put_edge.ensures

pub returns : goal.returns
returns g c = goes_end (λ xs. flat_map numbered xs) c.args.edges.now c.loop-edge.edge-index _ _ _ _ _ _ (omega arith) refl c.loop-edge.invariant
