use Rattle.std.proofs.Common.{◌≡◌, ◌++◌, arith}
use Rattle.std.specs.{Prelude.codes, Fmt.decimal}
use Rattle.std.proofs.lemmas.Grind.{common_steps}
use Rattle.loc_trial.proofs.counts.push_tally.Goals as goal

pub returns : goal.returns
returns c =
    let first : c.push_count.new.line.items ≡ c.args.line.now.items ++ (codes " corner " ++ decimal c.args.tally.corners) = c.in_ok-push_count.ensures in
    grind (arith, common_steps)
