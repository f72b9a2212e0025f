use Rattle.std.proofs.Common.{◌∙◌, ap}
use Rattle.std.specs.Prelude.{slice_get}
use Rattle.std.proofs.lemmas.List.{drop_more, drop_all}
use Rattle.loc_pool.specs.Cells.{addresses}
use Rattle.loc_pool.proofs.Cells.{cell-here, addresses-rest, none-left}
use Rattle.loc_pool.proofs.slabs.free_all.Goals as goal

pub give-requires : goal.give-requires
give-requires c = cell-here _ 0 _ (ap (λ xs. slice_get xs 0) (c.frees.invariant ∙ drop_more c.args.blocks.now c.frees.at-index _ c.frees-test.true))

pub frees-preserved : goal.frees-preserved
frees-preserved c =
    ap addresses c.give.ensures.cells ∙ addresses-rest c.frees.heap.cells _ _ (c.frees.invariant ∙ drop_more c.args.blocks.now c.frees.at-index (record { at = c.give.result.at }) c.frees-test.true)

pub returns : goal.returns
returns c = none-left _ (c.frees.invariant ∙ drop_all c.frees.at-index c.args.blocks.now c.frees-test.false)
