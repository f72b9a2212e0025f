use Rattle.std.proofs.Common.{◌<◌, length, arith, sym, ◌∙◌, subst}
use Rattle.loc_batch.specs.Blocks.{BlockState}
use Rattle.loc_batch.proofs.Placed.{line_noted, pushed}
use Rattle.loc_batch.proofs.block.Block.note.Goals as goal

pub returns-in-Some : goal.returns-in-Some
returns-in-Some g c =
    let before = c.self.inside in
    let few : length before.found.items < 131072 = subst (λ (b : BlockState g.row.F.Denot). length b.found < 131072) (sym c.self.view_is) c.requires in
    line_noted _ c.args.self.now _ _ c.in-Some.point c.args.point c.len-line.result c.self.view_is c.in-Some.is (c.len-line.ensures ∙ before.found.ok.0)
    (pushed c.push.result _ _ _ c.push.ensures.items (c.push.ensures.succeeds (omega (arith, few, before.found.ok.0, c.self.invariant.3))))
    (pushed c.push-in-Some.result _ _ _ c.push-in-Some.ensures.items (c.push-in-Some.ensures.succeeds (omega (arith, few, before.found.ok.0, c.self.invariant.0, c.self.invariant.2))))
