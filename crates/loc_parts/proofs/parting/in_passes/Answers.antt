use Rattle.std.proofs.Common.{◌≡◌, ℕ, ◌≤◌, List, [], ◌∷◌, length, ap, sym, ◌∙◌, subst, arith}
use Rattle.loc_spec_plane.specs.Lists.{numbers}
use Rattle.loc_rings.specs.Values.{Feature}
use Rattle.loc_parts.specs.{Parts.IsPartedBut, Parts.IsRestOf, declared.parts.Left.Left, declared.parts.Part.Part}
use Rattle.loc_parts.proofs.Settled.{at_first, at_last, once_last, rest_numbered, rest_of_all}
use Rattle.loc_parts.proofs.parting.in_passes.Goals as goal
use Rattle.loc_parts.proofs.parting.in_passes.Goals.{else-loop-turn-test, then-loop-turn-test+in_ok-later+then-kept-len}

-- what holds between two passes
record Stands (layer : List Feature) (ns : List ℕ) (features : List Feature) (parts : List Part) (left : List Left) : Type 0 where
  few : length parts ≤ 16
  rest : IsRestOf layer ns features
  parted : IsPartedBut layer (ns ∷ []) parts left

pub loop-turn-init : goal.loop-turn-init
loop-turn-init c =
    let layer = c.args.layer.now in
    let own : c.in_ok-numbers_below.field-0.items ≡ numbers (length layer) = c.in_ok-numbers_below.ensures ∙ ap (λ fs. numbers (length fs)) c.features.ensures.value in
    let first = subst (λ ns. IsPartedBut layer (ns ∷ []) [] []) (sym own) (at_first layer) in
    record {
      few = omega (arith, ap length c.new-parts.ensures.items);
      rest = subst (λ (fs : List Feature). IsRestOf layer c.in_ok-numbers_below.field-0.items fs) (sym c.in_ok-copy_layer.ensures) (subst (λ ns. IsRestOf layer ns layer) (sym own) (rest_of_all layer));
      parted = subst (λ (ps : List Part). IsPartedBut layer (c.in_ok-numbers_below.field-0.items ∷ []) ps c.new-left.result.items) (sym c.new-parts.ensures.items)
          (subst (λ (ls : List Left). IsPartedBut layer (c.in_ok-numbers_below.field-0.items ∷ []) [] ls) (sym c.new-left.ensures.items) first);
    }

pub pass-requires : goal.pass-requires
pass-requires c = rest_numbered c.args.layer.now c.loop-turn.rest.numbers.items c.loop-turn.rest.features c.loop-turn.invariant.rest

pub loop-turn-preserved : goal.loop-turn-preserved
loop-turn-preserved c = record {
  few = omega (arith, c.in_ok-later.ensures.few, c.loop-turn.invariant.few);
  rest = c.in_ok-later.ensures.rest c.args.layer.now c.loop-turn.invariant.rest;
  parted = c.in_ok-later.ensures.parted c.args.layer.now [] c.loop-turn.invariant.rest c.loop-turn.invariant.parted;
}

pub returns : goal.returns
returns c =
    let layer = c.args.layer.now in
    let stands : Stands layer c.loop-turn-test.rest.numbers.items c.loop-turn-test.rest.features c.loop-turn-test.parts.items c.loop-turn-test.left.items = elim c.loop-turn-test.branch [
      | else-loop-turn-test w ↦ rw (w.parts-is, w.left-is, w.rest-is) (record {
        few = omega (arith, c.loop-turn.invariant.few, c.loop-turn.auto._turn-end);
        rest = c.loop-turn.invariant.rest;
        parted = c.loop-turn.invariant.parted;
      })
      | then-loop-turn-test+in_ok-later+then-kept-len w ↦ rw (w.parts-is, w.left-is, w.rest-is) (record {
        few = omega (arith, w.in_ok-later.ensures.few, c.loop-turn.invariant.few, w.loop-turn-test.true);
        rest = w.in_ok-later.ensures.rest layer c.loop-turn.invariant.rest;
        parted = w.in_ok-later.ensures.parted layer [] c.loop-turn.invariant.rest c.loop-turn.invariant.parted;
      })
    ] in
    let all = c.in_ok-leave.ensures layer [] c.loop-turn-test.parts.items stands.rest stands.parted in
    record {
      parted = record {
        few_features = omega (arith, ap length c.features.ensures.value, c.features.ensures.within.few_features);
        few = stands.few;
        parts = all.parts_are;
        left = all.left_are;
        all = at_last layer c.loop-turn-test.parts.items c.leave.new.left.items all;
        once = once_last layer c.loop-turn-test.parts.items c.leave.new.left.items all;
      };
    }
