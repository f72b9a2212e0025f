-- The names that the walks cite.
pub use Rattle.std.proofs.Common.{List, [], ◌∷◌, refl}
pub use Rattle.std.proofs.raw_atomic.Walks.{proved}
pub use base.Fml.{ftrue, flft}
pub use mir.Syntax.{named}
pub use types.Kit.{‵, raw, ◌⊛◌, ◌$◌, ◌∵◌, !, qed, done, move, keep, drop, use0, split, join, fjoin, suffices}
pub use types.Run.{enter, no_more, and_then, returns}
pub use types.Part.{agg}
pub use types.ByLocal.{alloc_all, pass_all, free_all, look_at, get, sets}
pub use denote.Signature.{plain, types_at}
pub use denote.Steps.{nothing}
pub use denote.Triple.Entry.{on_entry}
pub use denote.Triple.Walked.{Stays, walk_of, says, stay_dropped, Goes-dropped, ends_at}
