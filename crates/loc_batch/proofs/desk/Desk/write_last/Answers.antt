use Rattle.std.proofs.Common.{[], ◌∙◌, sym, ap, refl}
use Rattle.loc_io.proofs.Appending.{appends-none}
use Rattle.loc_batch.proofs.{Cutting.split_cons, Lines.last_none, Lines.last_some}
use Rattle.loc_batch.proofs.desk.Desk.write_last.Goals as goal

pub returns-then-is_empty-clause-answers : goal.returns-then-is_empty-clause-answers
returns-then-is_empty-clause-answers g c =
    rw (last_none c.args.self.now.line.items (sym c.is_empty.ensures ∙ c.if-is_empty.true)) (refl, record { wrote = appends-none _; steady = refl; counted = refl })

pub returns-clause-answers : goal.returns-clause-answers
returns-clause-answers g c =
    let line = c.args.self.now.line.items in
    let one = last_some line (sym c.is_empty.ensures ∙ c.if-is_empty.false) ∙ sym (ap (λ s. s.0) (split_cons line [] c.requires.unbroken)) in
    rw one c.write_lines.ensures.answers

pub returns-clause-within : goal.returns-clause-within
returns-clause-within g c =
    let line = c.args.self.now.line.items in
    let one = last_some line (sym c.is_empty.ensures ∙ c.if-is_empty.false) ∙ sym (ap (λ s. s.0) (split_cons line [] c.requires.unbroken)) in
    rw one c.write_lines.ensures.within
