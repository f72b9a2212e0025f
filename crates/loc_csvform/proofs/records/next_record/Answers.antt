use Rattle.csv.specs.Records.{fields_of}
use Rattle.loc_csvform.proofs.Fronts.{takes}
use Rattle.loc_csvform.proofs.records.next_record.Goals as goal

pub returns-clause-ok : goal.returns-clause-ok
returns-clause-ok c = takes c.args.reader.now c.read_byte_record.new.self (fields_of c.read_byte_record.new.row) c.requires c.in-Ok.found (c.in-Ok.ensures.reads c.requires.trim c.requires.ready) c.in-Ok.ensures.reads_on
