use Rattle.std.proofs.Common.{◌≡◌, ◌+◌, ◌++◌, [], ◌∷◌, true, refl, rules, sym, ◌∙◌, ap, subst}
use Rattle.std.specs.List.{list_all}
use Rattle.loc_laws_any.specs.Boxes.{is_boxed}
use Rattle.loc_spans.specs.{Around.is_some, Boxes.AreBoxes, Boxes.Kept}
use Rattle.loc_spans.proofs.Adding.{no_box, one_box}
use Rattle.loc_spans.proofs.boxes.add_box.Goals as goal

pub returns-in-None : goal.returns-in-None
returns-in-None c = λ layer same fits are. no_box layer c.args.boxes.now.items c.args.number are (ap is_some same ∙ c.in-None.ensures.none)

pub returns-in_ok-push-in-Some : goal.returns-in_ok-push-in-Some
returns-in_ok-push-in-Some c = λ layer same fits are.
    let around = c.in-Some.around in
    let box : Kept = (c.in-Some.around.span, record { low = c.in-Some.around.low; high = c.in-Some.around.high; feature = c.args.number }) in
    let items : c.push.new.self.items ≡ c.args.boxes.now.items ++ box ∷ [] = search rules in
    subst (λ bs. AreBoxes layer bs (c.args.number + 1)) (sym items)
    (one_box layer c.args.boxes.now.items c.args.number are box refl (fits, subst (λ ss. list_all (is_boxed around.span.lo around.span.hi around.low.y around.high.y) ss ≡ true) (sym same) c.in-Some.ensures.boxed) (ap is_some same ∙ c.in-Some.ensures.some))
