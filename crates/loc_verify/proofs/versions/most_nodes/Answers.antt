use Rattle.std.proofs.Common.{◌+◌, ◌*◌, ◌^◌, ◌<◌, arith}
use Rattle.std.proofs.lemmas.Grind.{pow_more}
use Rattle.loc_verify.proofs.versions.most_nodes.Goals as goal

pub returns-clause-past : goal.returns-clause-past
returns-clause-past c =
    let past : (c.args.alive + 1) * (c.args.alive + 1) < 2 * 2 ^ c.ilog2.result = c.ilog2.ensures.next_power_gt in
    omega (arith, past, pow_more 2 c.ilog2.result)
