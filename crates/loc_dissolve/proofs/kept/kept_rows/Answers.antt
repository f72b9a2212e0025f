use Rattle.std.proofs.Common.{◌≡◌, ◌<◌, ℕ, List, map, sym, ◌∙◌, ap, subst, rules}
use Rattle.std.specs.{Prelude.All, List.Sorted.IsNonDecreasingBy}
use Rattle.std.proofs.Math.Path.{fun_ext}
use Rattle.std.proofs.lemmas.List.Sorted.{All-permutation, IsNonDecreasingBy-from_sort_by_key, answers_always}
use Rattle.std.proofs.lemmas.Result.{IfOk-weaker}
use Rattle.loc_spec_plane.specs.Lists.{numbers}
use Rattle.loc_spec_groups.specs.Groups.{kept_edges}
use Rattle.loc_edges.specs.Ending.{row_of}
use Rattle.loc_edges.proofs.EndingRows.{row_of-stable}
use Rattle.loc_dissolve.specs.Grouping.{in_group}
use Rattle.loc_dissolve.proofs.kept.kept_rows.Goals as goal

pub by_key-requires-clause-in_order : goal.by_key-requires-clause-in_order
by_key-requires-clause-in_order c = subst (IsNonDecreasingBy (λ (pair : ℕ × ℕ). pair.0)) (sym c.deref.ensures.value) (IsNonDecreasingBy-from_sort_by_key (λ pair. pair.0) _ c.in_ok-sort_by_key.ensures.sorted (λ a r q k. search rules))

pub by_key-requires-clause-in_range : goal.by_key-requires-clause-in_range
by_key-requires-clause-in_range c = subst (All (λ (pair : ℕ × ℕ). pair.0 < c.args.count)) (sym c.deref.ensures.value) (All-permutation (λ (pair : ℕ × ℕ). pair.0 < c.args.count) _ _ c.in_ok-sort_by_key.ensures.permutation c.in_ok-kept.ensures.within)

pub returns : goal.returns
returns c =
    IfOk-weaker c.by_key.result (λ rows. rows ≡ map (row_of c.deref.result.now) (numbers c.args.count)) (λ rows. rows ≡ map (λ g. kept_edges c.args.table.now (in_group c.args.groups.now g)) (numbers c.args.count))
    (λ rows is. is ∙ ap (λ (f : ℕ → List ℕ). map f (numbers c.args.count)) (fun_ext (λ g. ap (λ (l : List (ℕ × ℕ)). row_of l g) c.deref.ensures.value
    ∙ (row_of-stable _ _ (c.in_ok-sort_by_key.ensures.stable (λ pair. pair.0) (answers_always _ _ _ (λ f a r g h. search rules))) g ∙ c.in_ok-kept.ensures.rows g))))
    c.by_key.ensures
