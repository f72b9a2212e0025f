use Rattle.std.proofs.Common.{◌≡◌, drop}
use Rattle.loc_io.specs.Files.{file_of}
use Rattle.loc_io.proofs.mem_file.bytes_of.Given as goal

abbrev pub invariant-loop-file : goal.invariant-loop-file
invariant-loop-file l = file_of (drop l.file-index l.files) l.name ≡ file_of l.files l.name
