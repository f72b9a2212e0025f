-- What the real files mean as a shelf. The words: `file_meaning`, `file_taken_up`, `file_in_making`.
use Rattle.std.specs.Prelude.{Option, None, is_some}
use Rattle.loc_io.specs.{Meaning.Meaning, Meaning.untold, declared.file_shelf.FileShelf.FileShelf}

-- nothing is told of what the files hold
abbrev pub file_meaning : {R File Dir : Type 0} → FileShelf R File Dir → Meaning
file_meaning s = record {
  told = λ _. untold;
  is_open = is_some s.reading;
  rest = None;
  is_making = is_some s.writing;
  made = None;
  entries = s.trace.entries;
  read_faults = s.counts.read_faults.number;
  write_faults = s.counts.write_faults.number;
  late = s.counts.late.number;
}

-- the file that is being read
abbrev pub file_taken_up : {R File Dir : Type 0} → FileShelf R File Dir → Option File
file_taken_up s = s.reading

-- the file that is being made
abbrev pub file_in_making : {R File Dir : Type 0} → FileShelf R File Dir → Option File
file_in_making s = s.writing
