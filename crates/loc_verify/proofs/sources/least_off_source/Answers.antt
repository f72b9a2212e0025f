use Rattle.std.proofs.Common.{sym, ◌∙◌, below_more}
use Rattle.loc_verify.proofs.sources.least_off_source.Goals as goal

pub loop-edge-preserved : goal.loop-edge-preserved
loop-edge-preserved c = below_more _ _ c.loop-edge.invariant (sym c.is_on_source.ensures ∙ c.if-not-is_on_source.false)
