use Rattle.std.proofs.Common.{◌≡◌, ◌<◌, ℕ, [], false, get_or}
use Rattle.csv.specs.Records.{fields_of}
use Rattle.loc_spec_text.specs.Bytes.{same_word}
use Rattle.loc_csvform.proofs.csv_form.column_of.Given as goal

abbrev pub invariant-loop-n : goal.invariant-loop-n
invariant-loop-n l = (k : ℕ) → k < l.n → same_word (get_or (fields_of l.header) k []) l.name ≡ false
