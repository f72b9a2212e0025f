use Rattle.std.proofs.Common.{sym, subst, Result}
use Rattle.loc_spec_text.specs.{declared.TextFault.TextFault, Reading.Reads, Reading.Polygons}
use Rattle.loc_spec_text.proofs.ReaderLaws.{Reads-reading, reading_reads}
use Rattle.loc_spec_text.proofs.reading_law.Goals as goal

pub returns : goal.returns
returns c scale text read = (Reads-reading scale text read, λ e. subst (λ (r : Result Polygons TextFault). Reads scale text r) (sym e) (reading_reads scale text))
