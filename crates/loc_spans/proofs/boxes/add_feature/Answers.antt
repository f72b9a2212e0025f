use Rattle.std.proofs.Common.{◌≡◌, ◌+◌, ◌++◌, [], ◌∷◌, rules, sym, ◌∙◌, ap, subst}
use Rattle.std.specs.List.Sorted.{IsPermutation}
use Rattle.loc_spec_plane.specs.Rings.{segments}
use Rattle.loc_spec_text.specs.Reading.{all_rings}
use Rattle.loc_laws_any.specs.Moments.{AreClosed}
use Rattle.loc_spans.specs.Boxes.{AreKept}
use Rattle.loc_spans.proofs.Adding.{kept_more}
use Rattle.loc_spans.proofs.boxes.add_feature.Goals as goal

pub returns-clause-boxes : goal.returns-clause-boxes
returns-clause-boxes c = λ layer same fits are.
    c.in_ok-add_box.ensures layer (ap segments same ∙ (ap (λ ps. segments (all_rings ps)) (sym c.rings.ensures) ∙ (sym c.in_ok-rows.ensures.value ∙ sym c.deref.ensures.value))) fits are

pub returns-clause-kept : goal.returns-clause-kept
returns-clause-kept c = λ layer same are.
    let rings = same ∙ ap all_rings (sym c.rings.ensures) in
    let items : c.push.new.self.items ≡ c.args.kept.now.items ++ c.in_ok-make.field-0 ∷ [] = search rules in
    subst (λ ks. AreKept layer ks (c.args.number + 1)) (sym items)
    (kept_more layer c.args.kept.now.items c.args.number c.in_ok-make.field-0 are (subst AreClosed (sym rings) c.in_ok-rows.ensures.closed)
    (subst (λ ss. IsPermutation ss c.in_ok-make.field-0) (c.in_ok-rows.ensures.value ∙ ap segments (sym rings)) c.in_ok-make.ensures))
