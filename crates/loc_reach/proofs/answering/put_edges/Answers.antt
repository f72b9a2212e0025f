use Rattle.std.proofs.Common.{◌++◌, codes}
use Rattle.std.specs.List.{flat_map}
use Rattle.std.proofs.lemmas.Result.{err_from_is_err_and}
use Rattle.loc_page.proofs.Pages.{both, put_same, stop}
use Rattle.loc_spec_plane.specs.Spans.{met_at}
use Rattle.loc_spec_text.specs.Spans.{numbered}
use Rattle.loc_reach.proofs.Answered.{edges_line, within_span}
use Rattle.loc_reach.proofs.answering.put_edges.Goals as goal

pub returns-in_err-put-clause-written : goal.returns-in_err-put-clause-written
returns-in_err-put-clause-written g c =
    let es = met_at c.args.views.now c.args.low c.args.high in
    put_same (edges_line es) (stop (flat_map numbered es ++ codes "\n") c.in_err-put.was (err_from_is_err_and _ c.from_residual.ensures.1).1 c.put.ensures)

pub returns-in_err-put_met-clause-written : goal.returns-in_err-put_met-clause-written
returns-in_err-put_met-clause-written g c =
    let es = met_at c.args.views.now c.args.low c.args.high in
    put_same (edges_line es) (both c.in_ok-put.was c.put.ensures (stop (codes "\n") c.in_err-put_met.was (err_from_is_err_and _ c.from_residual-in_err-put_met.ensures.1).1 c.put_met.ensures.written))

pub returns-clause-written : goal.returns-clause-written
returns-clause-written g c =
    put_same (edges_line (met_at c.args.views.now c.args.low c.args.high)) (both c.in_ok-put.was c.put.ensures (both c.in_ok-put_met.was c.put_met.ensures.written c.put-2.ensures))

pub returns-in_err-put_met-clause-within : goal.returns-in_err-put_met-clause-within
returns-in_err-put_met-clause-within g c = within_span c.args.views.now c.args.low c.args.high _ _ c.put_met.ensures.few

pub returns-clause-within : goal.returns-clause-within
returns-clause-within g c = within_span c.args.views.now c.args.low c.args.high _ _ c.put_met.ensures.few
