use Rattle.std.proofs.Common.{rules, map, sym, ◌∙◌, ap, subst}
use Rattle.std.proofs.lemmas.List.Sorted.{answers_always}
use Rattle.loc_spans.specs.{Rows.BeginInOrder, Boxes.Kept}
use Rattle.loc_spans.proofs.{Adding.boxed_again, Adding.sorted_moments, Ordered.begin_in_order}
use Rattle.loc_spans.proofs.boxes.in_order.Goals as goal

pub of_sorted-requires : goal.of_sorted-requires
of_sorted-requires c =
    subst BeginInOrder (sym (c.in_ok-moments_of.ensures ∙ ap (λ bs. map (λ (box : Kept). box.0) bs) c.deref.ensures.value))
    (begin_in_order _ (sorted_moments c.sort_by_key.new.self.items (c.in_ok-sort_by_key.ensures.sorted (λ (box : Kept). box.0) (answers_always _ _ _ (λ f a r g h. search rules)))))

pub returns : goal.returns
returns c = λ layer few kept are. boxed_again layer c.args.boxes.items c.sort_by_key.new.self.items _ few kept are c.in_ok-sort_by_key.ensures.permutation
