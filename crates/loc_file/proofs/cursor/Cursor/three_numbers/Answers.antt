use Rattle.std.proofs.Common.{[], ◌∷◌, refl}
use Rattle.std.specs.Int.{w32}
use Rattle.loc_spec_index.specs.IndexFile.{number}
use Rattle.loc_file.specs.Readings.{stop, two, three}
use Rattle.loc_file.proofs.Steps.{handed, stop-within, read-none, fault-first, fault-behind}
use Rattle.loc_file.proofs.cursor.Cursor.three_numbers.Goals as goal

pub returns-in_err-former-clause-err : goal.returns-in_err-former-clause-err
returns-in_err-former-clause-err c = handed c.from_residual.result _ _ c.from_residual.ensures.1 (stop-within (three c.args.first c.args.second c.args.third) (two c.args.first c.args.second) [] (λ ns. (ns.0, ns.1, 0)) (λ ns. number w32 c.args.third 0 ∷ []) (λ ns. refl) (read-none _) c.in_err-former.ensures.err)

pub returns-in_err-last-clause-err : goal.returns-in_err-last-clause-err
returns-in_err-last-clause-err c = handed c.from_residual-in_err-last.result _ _ c.from_residual-in_err-last.ensures.1 (stop (c.in_ok-former.former, c.in_ok-former.latter, 0) _ tt (fault-behind (two c.args.first c.args.second (c.in_ok-former.former, c.in_ok-former.latter)) _ c.in_ok-former.ensures.ok (fault-first _ _ (c.in_err-last.ensures.err 0))))
