use Rattle.std.proofs.Common.{[], sym, ◌∙◌, ap, length, arith, below_more}
use Rattle.std.specs.Prelude.{◌==◌}
use Rattle.std.proofs.{lemmas.Bool.both_ways, lemmas.Option.get_or_from_slice_get}
use Rattle.loc_verify.proofs.Named.{no_items}
use Rattle.loc_verify.proofs.marks.least_bare.Goals as goal

pub returns-then-is_empty : goal.returns-then-is_empty
returns-then-is_empty c =
    let row = get_or_from_slice_get c.args.table.now.marks c.loop-edge.edge c.marks.result.now [] c.marks.ensures.value in
    (omega (arith, c.loop-edge-test.true, c.edge_count-edge-end.ensures.value), λ some. some (row ∙ no_items c.marks.result.now (sym c.is_empty.ensures ∙ c.if-is_empty.true)), c.loop-edge.invariant)

pub loop-edge-preserved : goal.loop-edge-preserved
loop-edge-preserved c =
    let row = get_or_from_slice_get c.args.table.now.marks c.loop-edge.edge c.marks.result.now [] c.marks.ensures.value in
    below_more _ _ c.loop-edge.invariant (λ none. both_ways c.is_empty.result c.if-is_empty.false (c.is_empty.ensures ∙ ap (λ ms. length ms == 0) (sym row ∙ none)))
