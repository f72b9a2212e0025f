use Rattle.std.proofs.Common.{◌∙◌, sym}
use Rattle.loc_pool.proofs.slabs.Slabs.drop.Goals as goal

pub free_all-requires : goal.free_all-requires
free_all-requires c = c.self.invariant.0 ∙ sym c.deref.ensures.value
