use Rattle.std.proofs.Common.{◌≡◌, ◌∙◌, ◌++◌, [], ◌∷◌, List, Bool, ap, ap₂, sym, append-nil}
use Rattle.std.specs.Prelude.{if◌then◌else◌}
use Rattle.loc_spec_plane.specs.declared.Trap.{Trap}
use Rattle.loc_laws_traps.specs.Sets.{part_before, part_behind}
use Rattle.loc_traps.specs.Walks.{before_rows, over_rows, under_rows}
use Rattle.loc_traps.proofs.pieces.fresh_pieces.Goals as goal
use Rattle.loc_traps.proofs.pieces.fresh_pieces.Goals.{then-behind_left+in_ok-push, else-behind_left, then-before_right+in_ok-push-2, else-before_right}

pub returns : goal.returns
returns c =
    let walk = c.args.walk.now in
    let first = c.args.first in
    let last = c.args.last in
    let lo = c.args.ends.0 in
    let hi = c.args.ends.1 in
    let sides = over_rows c.args.edge walk.overs.items ++ under_rows c.args.edge walk.unders.items in
    let over = c.in_ok-rows.ensures ∙ ap (λ s. over_rows c.args.edge s) c.deref.ensures.value in
    let under = c.in_ok-unders.ensures ∙ ap (λ s. under_rows c.args.edge s) c.deref-2.ensures.value in
    let both : c.extend_from_slice.new.self.items ≡ sides = c.in_ok-extend_from_slice.ensures.items ∙ ap₂ (λ a b. a ++ b) over (c.deref-3.ensures.value ∙ under) in
    let before = λ (b : Bool). sides ++ (if b then part_before first lo ∷ [] else []) in
    let with_before : c.if-behind_left.rows.items ≡ sides ++ before_rows first lo = elim c.if-behind_left.branch [
      | then-behind_left+in_ok-push w ↦ ap (λ v. v.items) w.rows-is ∙ w.in_ok-push.ensures.items ∙ ap (λ (l : List Trap). l ++ part_before first lo ∷ []) both ∙ ap before (sym (sym c.behind_left.ensures ∙ w.if-behind_left.true))
      | else-behind_left w ↦ ap (λ v. v.items) w.rows-is ∙ both ∙ sym (append-nil sides) ∙ ap before (sym (sym c.behind_left.ensures ∙ w.if-behind_left.false))
    ] in
    let most = sides ++ before_rows first lo in
    let behind = λ (b : Bool). most ++ (if b then part_behind last hi ∷ [] else []) in
    elim c.if-before_right.branch [
      | then-before_right+in_ok-push-2 w ↦ ap (λ v. v.items) w.rows-is ∙ w.in_ok-push-2.ensures.items ∙ ap (λ (l : List Trap). l ++ part_behind last hi ∷ []) with_before ∙ ap behind (sym (sym c.before_right.ensures ∙ w.if-before_right.true))
      | else-before_right w ↦ ap (λ v. v.items) w.rows-is ∙ with_before ∙ sym (append-nil most) ∙ ap behind (sym (sym c.before_right.ensures ∙ w.if-before_right.false))
    ]
