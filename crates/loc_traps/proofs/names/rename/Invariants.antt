use Rattle.std.proofs.Common.{◌≡◌, length}
use Rattle.loc_laws_traps.specs.Maps.{Renames}
use Rattle.loc_traps.specs.{Meaning.row_of, Meaning.named_of, Names.is_kind}
use Rattle.loc_traps.proofs.names.rename.Given as goal

-- the new rows before this one are named
abbrev pub invariant-new : goal.invariant-new
invariant-new l = record { same_length : length l.names ≡ length l.initial.names; renames : Renames l.from l.i (row_of l.rows) (is_kind l.kind l.ranks) (named_of l.fn.names) (named_of l.names) }
