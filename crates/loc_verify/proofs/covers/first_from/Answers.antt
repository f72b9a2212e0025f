use Rattle.std.proofs.Common.{ltb, ltb-true, ltb-false, arith, rules}
use Rattle.std.proofs.lemmas.List.Sorted.{IsPartitionPoint-from_clause, IsPartitionedBy-ltb}
use Rattle.loc_cover.proofs.Exchanging.{numbers_rise}
use Rattle.loc_verify.proofs.covers.first_from.Goals as goal

pub returns-clause-before : goal.returns-clause-before
returns-clause-before c =
    let parted = IsPartitionedBy-ltb (λ n. n) _ c.args.feature (numbers_rise c.args.list.now c.requires) in
    let point = IsPartitionPoint-from_clause (λ n. ltb n c.args.feature) _ _ c.partition_point.ensures.partitioned parted (λ a r q k. search rules) in
    λ k h. ltb-true _ _ (point.0 k 0 (omega arith) h)

pub returns-clause-from : goal.returns-clause-from
returns-clause-from c =
    let parted = IsPartitionedBy-ltb (λ n. n) _ c.args.feature (numbers_rise c.args.list.now c.requires) in
    let point = IsPartitionPoint-from_clause (λ n. ltb n c.args.feature) _ _ c.partition_point.ensures.partitioned parted (λ a r q k. search rules) in
    λ k h fits. ltb-false _ _ (point.1 k 0 h fits)
