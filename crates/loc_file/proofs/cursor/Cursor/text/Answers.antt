use Rattle.loc_file.proofs.Texts.{text-short}
use Rattle.loc_file.proofs.cursor.Cursor.text.Goals as goal

pub returns-clause-err : goal.returns-clause-err
returns-clause-err c = text-short c.take.result _ _ c.take.ensures.err
