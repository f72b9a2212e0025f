use Rattle.std.proofs.Common.{◌≡◌, ◌*◌, length, sym, ◌∙◌, ap, subst, arith}
use Rattle.loc_half.specs.Rounds.{IsPermuting}
use Rattle.loc_half.proofs.Permuting.{nexts_permute}
use Rattle.loc_half.proofs.half_edges.HalfEdges.make.Goals as goal

pub leader_of_each-requires-clause-few : goal.leader_of_each-requires-clause-few
leader_of_each-requires-clause-few c =
    let size : length c.deref.result.now ≡ 2 * length c.args.table.now.ends = ap length c.deref.ensures.value ∙ c.in_ok-nexts.ensures.as_many in
    omega (arith, size, c.law.ensures.small.few_edges)

pub leader_of_each-requires-clause-permuting : goal.leader_of_each-requires-clause-permuting
leader_of_each-requires-clause-permuting c = subst IsPermuting (sym c.deref.ensures.value) (nexts_permute c.args.table.now c.law.ensures.in_order c.in_ok-nexts.nexts.items c.in_ok-nexts.ensures.as_many c.in_ok-nexts.ensures.nexts)
