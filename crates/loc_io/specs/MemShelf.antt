-- What a shelf in memory means. The words: `told_of`, `mem_meaning`, `failing_calls`, `calls_made`.
use Rattle.std.specs.Prelude.{ℕ, List, Option, drop, None, Some, option_map, is_some, string_bytes}
use Rattle.loc_io.specs.Meaning.{Meaning, Told, absent, holds}
use Rattle.loc_io.specs.{Files.file_of, declared.mem_shelf.MemShelf.MemShelf}

-- it tells every name
abbrev pub told_of : Option (List ℕ) → Told
told_of None = absent
told_of (Some bytes) = holds bytes

-- every file is told, and so are the rest of the file taken up and the name of the one being made
abbrev pub mem_meaning : MemShelf → Meaning
mem_meaning s = record {
  told = λ name. told_of (file_of s.files.items name);
  is_open = s.is_open;
  rest = Some (drop s.at s.rest.items);
  is_making = is_some s.making;
  made = option_map string_bytes s.making;
  entries = s.trace.entries;
  read_faults = s.counts.read_faults.number;
  write_faults = s.counts.write_faults.number;
  late = s.counts.late.number;
}

-- the numbers of the calls that are to fail
abbrev pub failing_calls : MemShelf → List ℕ
failing_calls s = s.fail.numbers.items

-- how many calls were made
abbrev pub calls_made : MemShelf → ℕ
calls_made s = s.fail.calls
