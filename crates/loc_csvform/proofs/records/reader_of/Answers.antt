use Rattle.std.proofs.Common.{◌≡◌, [], ap, length, arith}
use Rattle.std.specs.Prelude.{unwrap_or}
use Rattle.csv.specs.Reading.{strip_bom}
use Rattle.loc_csvform.specs.Records.{bytes_of}
use Rattle.loc_csvform.proofs.Marks.{within}
use Rattle.loc_csvform.proofs.records.reader_of.Goals as goal

pub returns-clause-size : goal.returns-clause-size
returns-clause-size c =
    let is : bytes_of c.from_reader.result ≡ strip_bom c.args.text.now = ap (λ o. unwrap_or o []) c.from_reader.ensures.source in
    omega (arith, ap length is, within c.args.text.now)
