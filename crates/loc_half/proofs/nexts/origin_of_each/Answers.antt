use Rattle.std.proofs.Common.{◌≡◌, ◌∷◌, [], ◌++◌, arith}
use Rattle.std.proofs.lemmas.Grind.{common_steps}
use Rattle.loc_half.proofs.nexts.origin_of_each.Goals as goal

pub loop-edge-preserved : goal.loop-edge-preserved
loop-edge-preserved c =
    let lower : c.push.new.self.items ≡ c.loop-edge.origins.items ++ c.ends-lo.result.0 ∷ [] = c.in_ok-push.ensures.items in
    grind (arith, common_steps, lower)
