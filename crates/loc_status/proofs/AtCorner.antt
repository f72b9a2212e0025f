-- The edges alive at a corner, by the numbers of their ends.
pub use Rattle.loc_laws_order.proofs.AliveAt.{alive_at_corner}
