use Rattle.std.proofs.Common.{arith}
use Rattle.loc_write.proofs.Numbering.{IsRootAt, one-seen, all-roots}
use Rattle.loc_write.proofs.facts.roots_numbered.Goals as goal

pub loop-version-preserved : goal.loop-version-preserved
loop-version-preserved c =
    one-seen (IsRootAt c.args.versions.now) 0 c.loop-version.version c.root_number-root.result c.loop-version.invariant (record { root = c.root_number-root.ensures.number; within = c.root_number-root.ensures.bound })

pub returns : goal.returns
returns c = all-roots c.args.versions.now c.loop-version.version (omega arith) c.loop-version.invariant
