-- The laws of sorted sets, as the crates above cite them.
pub use Rattle.loc_laws_noding.proofs.SortedSet.{IsOrderBy, any-sorted_set, from_less, irrefl, less, rising-sorted_set, same-sorted_set, same_from_neither, sorted_set-dedup}
