use Rattle.std.proofs.Common.{◌≡◌, true, false}
use Rattle.loc_query.proofs.answering.answer_numbered.Goals as goal

pub returns-then-faces : goal.returns-then-faces
returns-then-faces g c = let asked : c.args.faces ≡ true = c.if-faces.true in rw asked c.answer_with_faces-outcome.ensures

pub returns-else-faces : goal.returns-else-faces
returns-else-faces g c = let unasked : c.args.faces ≡ false = c.if-faces.false in rw unasked c.answer_unnumbered.ensures
