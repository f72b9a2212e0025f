use Rattle.std.proofs.Common.{◌++◌, ◌==◌, map, sym, ◌∙◌, ap, subst}
use Rattle.std.specs.{Prelude.nat_lt, List.list_any}
use Rattle.loc_spec_plane.specs.{declared.Mark.Mark, Lists.IsRisingListOf}
use Rattle.loc_cover.proofs.Gathered.{are_features}
use Rattle.loc_cover.proofs.touching.put_features.Goals as goal

pub returns : goal.returns
returns c = subst (IsRisingListOf nat_lt (λ f. list_any (λ (m : Mark). m.feature == f) c.args.marks.now)) (sym (c.in_ok-add_features.ensures ∙ ap (λ xs. xs ++ map (λ (m : Mark). m.feature) c.args.marks.now) c.clear.ensures.items)) (are_features c.args.marks.now c.requires.in_order)
