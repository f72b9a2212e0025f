use Rattle.std.proofs.Common.{◌≡◌, ℕ, suc, ◌+◌, ◌∙◌, ◌++◌, List, [], ◌∷◌, ap, sym, arith}
use Rattle.std.specs.Prelude.{Some}
use Rattle.std.proofs.lemmas.List.FromFn.{map-range_with_len_more}
use Rattle.loc_spec_plane.specs.declared.Trap.{Trap}
use Rattle.loc_traps.specs.Walks.{start_of, over_row}
use Rattle.loc_traps.proofs.pieces.over_pieces.Goals as goal

pub loop-i-preserved : goal.loop-i-preserved
loop-i-preserved c =
    let next : c.loop-i.i + 1 ≡ suc c.loop-i.i = omega arith in
    c.in_ok-push.ensures.items
    ∙ (ap (λ (n : ℕ). c.loop-i.rows.items ++ record { bottom = Some c.args.edge; top = (start_of c.args.starts.now c.loop-i.i).bound; left = Some (start_of c.args.starts.now c.loop-i.i).left; right = Some (start_of c.args.starts.now n).left } ∷ []) next
    ∙ (ap (λ (rows : List Trap). rows ++ over_row c.args.edge c.args.starts.now c.loop-i.i ∷ []) c.loop-i.invariant ∙ sym (map-range_with_len_more (over_row c.args.edge c.args.starts.now) 0 c.loop-i.i c.loop-i.i (omega arith))))
