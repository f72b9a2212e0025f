use Rattle.std.proofs.Common.{arith}
use Rattle.loc_valid.proofs.OneFeature.{few_members}
use Rattle.loc_valid.proofs.parts.legend_of_one.Goals as goal

pub unreachable-requires : goal.unreachable-requires
unreachable-requires c = let many = rw c.in-Err-ManyCovers.field-0-is at c.in-Err-ManyCovers.ensures.refused in omega (arith, many, few_members c.args.table.now c.requires.one_feature, c.law.ensures.small.few_edges)
