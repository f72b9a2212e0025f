use Rattle.std.proofs.Common.{◌≡◌, List, [], ◌∷◌, ◌++◌, length, ap, sym, ◌∙◌, subst, arith}
use Rattle.loc_spec_plane.specs.Lists.{numbers}
use Rattle.loc_parts.specs.{Parts.IsPartedBut, declared.parts.Left.Left, declared.parts.Part.Part}
use Rattle.loc_parts.proofs.Settled.{as_part, at_first, at_last, more_parts, once_last, rest_of_all}
use Rattle.loc_parts.proofs.parting.one_part.Goals as goal

pub returns : goal.returns
returns c =
    let layer = c.args.layer.now in
    let part : Part = record { numbers = c.in-Ok.numbers; plane = c.args.plane } in
    let own : part.numbers.items ≡ numbers (length layer) = c.in-Ok.ensures ∙ ap (λ fs. numbers (length fs)) c.features.ensures.value in
    let one : c.push.new.self.items ≡ [] ++ part ∷ [] = c.in_ok-push.ensures.items ∙ ap (λ (ps : List Part). ps ++ part ∷ []) c.new-parts.ensures.items in
    let is = as_part layer (numbers (length layer)) layer part (rest_of_all layer) own c.requires.map c.requires.swept in
    let but = more_parts layer [] [] [] part (subst (λ ns. IsPartedBut layer (ns ∷ []) [] []) (sym own) (at_first layer)) is in
    let all = subst (λ (ls : List Left). IsPartedBut layer [] c.push.new.self.items ls) (sym c.new.ensures.items) (subst (λ (ps : List Part). IsPartedBut layer [] ps []) (sym one) but) in
    record {
      few_features = omega (arith, ap length c.features.ensures.value, c.features.ensures.within.few_features);
      few = omega (arith, ap length one);
      parts = all.parts_are;
      left = all.left_are;
      all = at_last layer c.push.new.self.items c.new.result.items all;
      once = once_last layer c.push.new.self.items c.new.result.items all;
    }
