use Rattle.std.proofs.Common.{◌≡◌, ◌<◌, true, false, List, [], length, get_or, refl, sym, subst}
use Rattle.std.specs.Prelude.{◌==◌}
use Rattle.std.specs.List.{list_any}
use Rattle.std.proofs.{lemmas.Bool.eq-eqb, lemmas.List.Folds.list_any_at, lemmas.Option.get_or_from_slice_get}
use Rattle.loc_spec_plane.specs.declared.Mark.{Mark}
use Rattle.loc_valid.proofs.passes.ring_at.Goals as goal

pub returns : goal.returns
returns c =
    let marks = c.marks.result.now in
    let none : Mark = record { feature = 0; odd = false } in
    let is : get_or c.args.table.now.marks c.args.edge [] ≡ marks = get_or_from_slice_get c.args.table.now.marks c.args.edge marks [] c.marks.ensures.value in
    let test = λ (m : Mark). m.feature == (get_or marks 0 none).feature in
    subst (λ (ms : List Mark). list_any test ms ≡ true) (sym is)
    (list_any_at test marks 0 none (subst (λ (ms : List Mark). 0 < length ms) is c.requires.some) (eq-eqb (get_or marks 0 none).feature (get_or marks 0 none).feature refl))
