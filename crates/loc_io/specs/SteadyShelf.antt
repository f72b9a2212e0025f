-- What a steady shelf means. The word: `steady_meaning`.
use Rattle.std.specs.Prelude.{drop, [], Some, None, if◌then◌else◌, unwrap_or}
use Rattle.loc_io.specs.{Meaning.Meaning, Meaning.untold, Meaning.holds, Files.file_of, Steady.bytes_at}
use Rattle.loc_io.specs.declared.steady_shelf.SteadyShelf.{SteadyShelf}

-- every name is a file, empty where none was put there; from the first `create` on no file is told
abbrev pub steady_meaning : SteadyShelf → Meaning
steady_meaning s = record {
  told = λ name. if s.hides then untold else holds (unwrap_or (file_of s.files.items name) []);
  is_open = s.is_open;
  rest = Some (drop s.at (bytes_at s.files.items s.place));
  is_making = s.is_making;
  made = None;
  entries = s.trace.entries;
  read_faults = 0;
  write_faults = 0;
  late = 0;
}
