use Rattle.std.proofs.Common.{◌≡◌, length, subst, arith}
use Rattle.loc_half.specs.Rounds.{AreMarked}
use Rattle.loc_half.proofs.Marking.{leaders_are}
use Rattle.loc_half.proofs.leaders.leader_of_each.Goals as goal

pub returns-clause-each : goal.returns-clause-each
returns-clause-each c =
    let end : c.loop-h.h ≡ length c.args.nexts.now = omega (arith, c.loop-h-test.false, c.loop-h.auto.h-end) in
    leaders_are c.args.nexts.now c.loop-h.leaders.items (subst (AreMarked c.args.nexts.now c.loop-h.leaders.items) end c.loop-h.invariant)
