use Rattle.std.proofs.Common.{[], ◌∷◌, ◌∙◌, ap, sym, arith}
use Rattle.loc_spec_text.specs.Reading.{all_rings}
use Rattle.loc_rings.specs.Values.{with_ring}
use Rattle.loc_rings.proofs.Lone.{range_more}
use Rattle.loc_rings.proofs.alone.copied.Goals as goal

pub loop-n-preserved : goal.loop-n-preserved
loop-n-preserved c =
    c.in_ok-add_copy.ensures
    ∙ (ap (λ rings. with_ring rings c.ring.result.now) c.loop-n.invariant
    ∙ ap (λ rings. rings ∷ []) (sym (range_more (all_rings c.args.rings.now) c.args.first c.loop-n.n c.ring.result.now (omega arith) c.ring.ensures.value)))
