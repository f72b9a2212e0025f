use Rattle.std.proofs.Common.{◌≡◌, ◌++◌, arith}
use Rattle.std.proofs.lemmas.Grind.{common_steps}
use Rattle.std.specs.{Prelude.codes, Fmt.decimal}
use Rattle.loc_maps.specs.Located.{counts_of}
use Rattle.loc_maps.proofs.checking.counts.Goals as goal

pub returns : goal.returns
unfolding counts_of
returns c =
    let edges : c.push_count-3.new.out.items ≡ c.push_count-2.new.out.items ++ codes " edges " ++ decimal c.edge_count.result = c.in_ok-push_count-3.ensures in
    grind (arith, common_steps, edges)
