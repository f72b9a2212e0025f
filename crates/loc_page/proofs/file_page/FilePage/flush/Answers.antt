use Rattle.std.proofs.{Common.refl, Common.append-nil, lemmas.Result.err_from_is_err_and}
use Rattle.loc_page.proofs.file_page.FilePage.flush.Goals as goal

pub returns-clause-put : goal.returns-clause-put
returns-clause-put g c = record {
  ok = record { gone = c.as_slice.result.now; cut = rw c.clear.ensures (rw c.as_slice.ensures.value (rw c.self.view_is refl)); grew = c.in_ok-write_whole.ensures.wrote.ok };
  err = tt;
}

pub returns-in_err-write_whole-clause-put : goal.returns-in_err-write_whole-clause-put
returns-in_err-write_whole-clause-put g c = rw (err_from_is_err_and c.from_residual.result c.from_residual.ensures.1).1 (record { ok = tt; err = rw (append-nil c.args.self.now, ← c.self.view_is, ← c.as_slice.ensures.value) c.in_err-write_whole.ensures.wrote.err })
