use Rattle.std.proofs.Common.{[], ◌∷◌, sym, append_assoc}
use Rattle.std.specs.{Prelude.codes, Fmt.decimal}
use Rattle.std.proofs.lemmas.Result.{err_from_is_err_and}
use Rattle.loc_page.proofs.Pages.{both, put_same, stop}
use Rattle.loc_faces.proofs.texts.put_number.Goals as goal

pub returns-in_err-put : goal.returns-in_err-put
returns-in_err-put g c = put_same (sym (append_assoc (codes "face ") (decimal c.args.number) (10 ∷ []))) (stop _ c.in_err-put.was (err_from_is_err_and _ c.from_residual.ensures.1).1 c.put.ensures)

pub returns-in_err-put_number : goal.returns-in_err-put_number
returns-in_err-put_number g c = put_same (sym (append_assoc (codes "face ") (decimal c.args.number) (10 ∷ []))) (both c.in_ok-put.was c.put.ensures (stop _ c.in_err-put_number.was (err_from_is_err_and _ c.from_residual-in_err-put_number.ensures.1).1 c.put_number.ensures))

pub returns : goal.returns
returns g c = put_same (sym (append_assoc (codes "face ") (decimal c.args.number) (10 ∷ []))) (both c.in_ok-put.was c.put.ensures (both c.in_ok-put_number.was c.put_number.ensures c.put-2.ensures))
