use Rattle.std.proofs.lemmas.Result.{err_from_is_err_and}
use Rattle.loc_page.proofs.Growing.{both, stop}
use Rattle.loc_write.proofs.writer.put_front.Goals as goal

pub returns-in_err-put_corners-clause-put : goal.returns-in_err-put_corners-clause-put
returns-in_err-put_corners-clause-put g c =
    both c.in_ok-put_ids.was c.put_ids.ensures.put
    (stop _ c.in_err-put_corners.was (err_from_is_err_and _ c.from_residual-in_err-put_corners.ensures.1).1 c.put_corners.ensures.put)

pub returns-in_err-put_edges-clause-put : goal.returns-in_err-put_edges-clause-put
returns-in_err-put_edges-clause-put g c =
    both c.in_ok-put_ids.was c.put_ids.ensures.put
    (both c.in_ok-put_corners.was c.put_corners.ensures.put
    (stop _ c.in_err-put_edges.was (err_from_is_err_and _ c.from_residual-in_err-put_edges.ensures.1).1 c.put_edges.ensures.put))

pub returns-clause-put : goal.returns-clause-put
returns-clause-put g c =
    both c.in_ok-put_ids.was c.put_ids.ensures.put
    (both c.in_ok-put_corners.was c.put_corners.ensures.put
    (both c.in_ok-put_edges.was c.put_edges.ensures.put
    c.put_marks.ensures.put))

pub returns-in_err-put_ids-clause-put : goal.returns-in_err-put_ids-clause-put
returns-in_err-put_ids-clause-put g c = stop _ c.in_err-put_ids.was (err_from_is_err_and _ c.from_residual.ensures.1).1 c.put_ids.ensures.put

pub returns-in_err-put_ids-clause-making : goal.returns-in_err-put_ids-clause-making
returns-in_err-put_ids-clause-making g c = let p = err_from_is_err_and c.from_residual.result c.from_residual.ensures.1 in rw p.1 tt

pub returns-in_err-put_corners-clause-making : goal.returns-in_err-put_corners-clause-making
returns-in_err-put_corners-clause-making g c = let p = err_from_is_err_and c.from_residual-in_err-put_corners.result c.from_residual-in_err-put_corners.ensures.1 in rw p.1 tt

pub returns-in_err-put_edges-clause-making : goal.returns-in_err-put_edges-clause-making
returns-in_err-put_edges-clause-making g c = let p = err_from_is_err_and c.from_residual-in_err-put_edges.result c.from_residual-in_err-put_edges.ensures.1 in rw p.1 tt

pub returns-clause-making : goal.returns-clause-making
returns-clause-making g c = c.put_marks.ensures.making

pub put_corners-requires : goal.put_corners-requires
put_corners-requires g c = record { making = c.in_ok-put_ids.ensures.making }

pub put_edges-requires-clause-making : goal.put_edges-requires-clause-making
put_edges-requires-clause-making g c = c.in_ok-put_corners.ensures.making

pub put_marks-requires-clause-making : goal.put_marks-requires-clause-making
put_marks-requires-clause-making g c = c.in_ok-put_edges.ensures.making

pub put_marks-requires-clause-as_many : goal.put_marks-requires-clause-as_many
put_marks-requires-clause-as_many g c = c.requires.marked
