use Rattle.std.proofs.Common.{◌∙◌, subst}
use Rattle.loc_spans.specs.Parity.{IsParity}
use Rattle.loc_spans.proofs.Seen.{answer_of}
use Rattle.loc_spans.proofs.spans.Spans.parity.Goals as goal

pub returns-clause-answer : goal.returns-clause-answer
returns-clause-answer g c = λ rings closed moved.
    answer_of c.args.self.now c.args.p c.row_parity.result (subst (λ rows. IsParity rows c.args.p c.row_parity.result) (c.deref.ensures.value ∙ c.self.view_is) c.row_parity.ensures.parity) rings closed moved
