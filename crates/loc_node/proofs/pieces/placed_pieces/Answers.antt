use Rattle.std.proofs.Common.{length, sym, ◌∙◌, ap, subst, arith}
use Rattle.std.specs.List.Sorted.{IsPermutation}
use Rattle.std.proofs.lemmas.List.Sorted.{length_permutation}
use Rattle.loc_spec_plane.specs.Tables.{cut_at}
use Rattle.loc_node.specs.Pieces.{IsRefused, cut_tagged, placed_from}
use Rattle.loc_node.proofs.{Placed.by_before, Refusals.shown}
use Rattle.loc_node.proofs.pieces.placed_pieces.Goals as goal

pub returns-in_err-pieces-clause-refused : goal.returns-in_err-pieces-clause-refused
returns-in_err-pieces-clause-refused c =
    let all = ap (λ cs. length (cut_tagged (cut_at cs) c.args.tagged.now)) c.in_ok-finder.ensures in
    let count = length (cut_tagged (cut_at c.args.corners.now) c.args.tagged.now) in
    shown _ (IsRefused count) c.from_residual-in_err-pieces.result (λ fault is. subst (IsRefused count) (sym is) (subst (λ n. IsRefused n c.in_err-pieces.field-0.0) all c.in_err-pieces.ensures.refused)) c.from_residual-in_err-pieces.ensures.1

pub returns-clause-moved : goal.returns-clause-moved
returns-clause-moved c = subst (λ ts. IsPermutation ts c.sort_unstable.new.self.items) (c.in_ok-pieces.ensures.ok ∙ ap (λ cs. cut_tagged (cut_at cs) (placed_from 0 c.args.tagged.now)) c.in_ok-finder.ensures) c.sort_unstable.ensures.permutation

pub returns-clause-in_order : goal.returns-clause-in_order
returns-clause-in_order c = by_before _ c.sort_unstable.ensures.sorted

pub returns-clause-few : goal.returns-clause-few
returns-clause-few c = omega (arith, c.in_ok-pieces.ensures.few, length_permutation _ _ c.sort_unstable.ensures.permutation)
