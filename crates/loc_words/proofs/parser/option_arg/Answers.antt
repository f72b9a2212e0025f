use Rattle.std.proofs.Common.{◌≡◌, ap, rules}
use Rattle.loc_words.specs.Apps.{values_of}
use Rattle.loc_words.proofs.parser.option_arg.Goals.{in-Required, in-Optional, in-Flag}
use Rattle.loc_words.proofs.parser.option_arg.Goals as goal

pub returns-clause-rule : goal.returns-clause-rule
returns-clause-rule c =
    let values : c.match-option.required.1 ≡ values_of c.args.option.now.kind = elim c.match-option.branch [
      | in-Required w ↦ rw w.in-Required.is (ap (λ r. r.1) w.required-is)
      | in-Optional w ↦ rw w.in-Optional.is (ap (λ r. r.1) w.required-is)
      | in-Flag w ↦ rw w.in-Flag.is (ap (λ r. r.1) w.required-is)
    ] in
    search rules
