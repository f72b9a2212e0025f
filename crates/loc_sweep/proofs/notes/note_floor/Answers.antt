use Rattle.std.proofs.Common.{◌≡◌, List, ◌++◌, ◌∷◌, [], ◌∙◌, ap, subst}
use Rattle.loc_spec_plane.specs.{Points.is_above, Tables.corner, Tables.edge}
use Rattle.loc_laws_order.specs.Laws.{last_that}
use Rattle.loc_sweep.specs.Course.{LiesAbove}
use Rattle.loc_sweep.proofs.notes.note_floor.Goals as goal
use Rattle.loc_sweep.proofs.notes.note_floor.Goals.{in-Some, in-None}

-- one item more, by what it is
one_more : {A : Type 0} (old new : List A) (x y : A) → new ≡ old ++ x ∷ [] → x ≡ y → new ≡ old ++ y ∷ []
one_more old new x y grown is = grown ∙ ap (λ z. old ++ z ∷ []) is

pub returns : goal.returns
returns g c =
    let t = c.args.table.now in
    let list = (g.S.Status.meaning c.args.status.now).list in
    one_more c.args.of_corner.now.items c.push.new.self.items c.match-between.floor (last_that (λ e. is_above (edge t e) (corner t c.args.corner)) list) c.in_ok-push.ensures.items (elim c.match-between.branch [
      | in-Some w ↦ w.floor-is ∙ subst (LiesAbove t c.args.corner list) w.in-Some.is c.requires.between
      | in-None w ↦ w.floor-is ∙ (w.floor-floor.ensures ∙ ap (λ r. last_that (λ e. is_above (edge r e) (corner r c.args.corner)) list) w.ranks.ensures)
    ])
