use Rattle.std.proofs.{Common.ap, lemmas.Result.err_from_is_err_and}
use Rattle.loc_dissolve.specs.Writing.{closed_text}
use Rattle.loc_dissolve.proofs.Written.{ring_is}
use Rattle.loc_page.proofs.Pages.{both, put_same, stop}
use Rattle.loc_dissolve.proofs.texts.RingWritten.put.Goals as goal

pub returns-in_err-put : goal.returns-in_err-put
returns-in_err-put g c = put_same (ring_is c.args.scale c.args.self.now) (stop _ c.in_err-put.was (err_from_is_err_and _ c.from_residual.ensures.1).1 c.put.ensures)

pub returns-in_err-put_closed : goal.returns-in_err-put_closed
returns-in_err-put_closed g c = put_same (ring_is c.args.scale c.args.self.now) (both c.in_ok-put.was c.put.ensures (stop _ c.in_err-put_closed.was (err_from_is_err_and _ c.from_residual-in_err-put_closed.ensures.1).1 (put_same (ap (closed_text c.args.scale) c.corners.ensures) c.put_closed.ensures)))

pub returns : goal.returns
returns g c = put_same (ring_is c.args.scale c.args.self.now) (both c.in_ok-put.was c.put.ensures (both c.in_ok-put_closed.was (put_same (ap (closed_text c.args.scale) c.corners.ensures) c.put_closed.ensures) (c.put-2.ensures)))
