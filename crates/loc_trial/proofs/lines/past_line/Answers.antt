use Rattle.std.proofs.Common.{◌++◌, ◌∙◌, ap, append-nil}
use Rattle.std.specs.{Prelude.codes, Fmt.decimal}
use Rattle.loc_spec_text.specs.Points.{ended}
use Rattle.loc_batch.proofs.Named.{joined_four}
use Rattle.loc_trial.proofs.lines.past_line.Goals as goal

pub returns : goal.returns
returns c = rw (c.of.ensures, c.number_part.ensures, c.of-2.ensures, c.number_part-2.ensures)
    (ap ended (ap (λ t. codes "gen: " ++ (decimal c.args.n ++ (codes " past " ++ t))) (append-nil (decimal c.args.limit)) ∙ joined_four (codes "gen: ") (decimal c.args.n) (codes " past ") (decimal c.args.limit)))
