-- The names that the walks cite.
pub use Rattle.std.proofs.Common.{◌≡◌, List, [], ◌∷◌, refl, sym}
pub use Rattle.std.proofs.raw_atomic.Walks.{proved}
pub use base.Fraction.{full_share}
pub use base.Logic.{id⊢}
pub use base.Fml.{ftrue, fat, flft}
pub use mir.Syntax.{named}
pub use contract.Monad.{fact}
pub use contract.Running.{tables}
pub use types.Kit.{‵, raw, ◌⊛◌, some, prop, at_ret, ◌$◌, ◌∵◌, !, qed, done, move, keep, drop, use1, use2, split, join, fsplit, fsplit3, fjoin, feq_i, pick, rewrite, regoal, suffices, frame, group}
pub use types.Run.{enter, of_opd, unit_lit, addr, store, stop, fld, hop, no_more, and_then, assigns_last, first, blocks, exec, returns}
pub use types.ByLocal.{alloc_all, pass_all, free_all, look_at, get, sets, env}
pub use denote.RawPtr.{Ptr, block_ptr, lies_at, in_a_block}
pub use denote.Ref.{mut_vals, mut_Tells}
pub use denote.Signature.{plain}
pub use denote.Steps.{nothing, opens, closes, heard}
pub use denote.Triple.Entry.{on_entry}
pub use denote.Triple.Walked.{Stays, walk_of, says, stay_dropped, Goes-dropped, stay_ref, Goes-ref, ends_at}
