use Rattle.std.proofs.Common.{ltb, leb, arith, rules}
use Rattle.std.proofs.lemmas.List.Sorted.{IsNonDecreasingBy-from_sort, IsPartitionPoint-from_clause, IsPartitionedBy-leb, IsPartitionedBy-ltb}
use Rattle.loc_dissolve.proofs.Counted.{count_between}
use Rattle.loc_dissolve.proofs.rows.occurrences.Goals as goal

pub overflow_sub-result : goal.overflow_sub-result
overflow_sub-result c =
    let g = c.args.group in
    let up = IsNonDecreasingBy-from_sort (λ n. n) _ c.requires.in_order in
    let past = IsPartitionPoint-from_clause (λ n. leb n g) _ _ c.partition_point.ensures.partitioned (IsPartitionedBy-leb (λ n. n) _ g up) (λ a r q k. search rules) in
    let first = IsPartitionPoint-from_clause (λ n. ltb n g) _ _ c.partition_point-2.ensures.partitioned (IsPartitionedBy-ltb (λ n. n) _ g up) (λ a r q k. search rules) in
    omega (
      arith,
      count_between g c.args.row.now c.partition_point.result c.partition_point-2.result c.partition_point.ensures.bound (λ k lt. past.0 k 0 (omega arith) lt) (λ k le lt. past.1 k 0 le lt)
          c.partition_point-2.ensures.bound (λ k lt. first.0 k 0 (omega arith) lt) (λ k le lt. first.1 k 0 le lt),
    )

pub returns : goal.returns
returns c =
    let g = c.args.group in
    let up = IsNonDecreasingBy-from_sort (λ n. n) _ c.requires.in_order in
    let past = IsPartitionPoint-from_clause (λ n. leb n g) _ _ c.partition_point.ensures.partitioned (IsPartitionedBy-leb (λ n. n) _ g up) (λ a r q k. search rules) in
    let first = IsPartitionPoint-from_clause (λ n. ltb n g) _ _ c.partition_point-2.ensures.partitioned (IsPartitionedBy-ltb (λ n. n) _ g up) (λ a r q k. search rules) in
    omega (
      arith,
      count_between g c.args.row.now c.partition_point.result c.partition_point-2.result c.partition_point.ensures.bound (λ k lt. past.0 k 0 (omega arith) lt) (λ k le lt. past.1 k 0 le lt)
          c.partition_point-2.ensures.bound (λ k lt. first.0 k 0 (omega arith) lt) (λ k le lt. first.1 k 0 le lt),
    )
