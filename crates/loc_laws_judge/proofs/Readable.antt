-- What a file holds can be judged.
use Rattle.loc_laws_index.proofs.{FileFacts.child-there, FileFacts.root-there, HeldTable.file_holds_table}
use Rattle.loc_laws_judge.specs.FirstFlaw.{FilesAreReadable}

pub files_are_readable : FilesAreReadable
files_are_readable bytes v c file = record { table = file_holds_table bytes v c file; roots = root-there c bytes file; children = child-there c bytes file }
