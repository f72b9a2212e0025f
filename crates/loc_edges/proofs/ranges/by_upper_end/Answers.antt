use Rattle.std.proofs.Common.{◌≡◌, ℕ, ◌<◌, ◌++◌, [], ◌∷◌, length, get_or, map, sym, ◌∙◌, ap, subst, arith, rules}
use Rattle.std.specs.Prelude.{All}
use Rattle.std.proofs.lemmas.List.FromFn.{get_or-map-range_with_len, length-map-range_with_len, map-range_with_len_more}
use Rattle.std.proofs.lemmas.List.Sorted.{All-permutation, IsNonDecreasingBy-from_sort_by_key, answers_always}
use Rattle.loc_spec_plane.specs.Lists.{numbers}
use Rattle.loc_edges.specs.Ending.{row_of}
use Rattle.loc_edges.proofs.EndingRows.{row_of-numbered, row_of-stable}
use Rattle.loc_edges.proofs.ranges.by_upper_end.Goals as goal
use Rattle.loc_edges.proofs.ranges.by_upper_end.Goals.{In_ok-sort_by_key}

pub loop-n-preserved : goal.loop-n-preserved
loop-n-preserved c =
    let ends = c.args.ends.now in
    let n = c.loop-n.n in
    c.in_ok-push.ensures.items ∙ (ap (λ keyed. keyed ++ ((get_or ends n (0, 0)).1, n) ∷ []) c.loop-n.invariant ∙ sym (map-range_with_len_more (λ e. ((get_or ends e (0, 0)).1, e)) 0 n n (omega arith)))

-- all edges stand there
all : (c : In_ok-sort_by_key) → c.loop-n.keyed.items ≡ map (λ e. ((get_or c.args.ends.now e (0, 0)).1, e)) (numbers (length c.args.ends.now))
all c = c.loop-n.invariant ∙ (let count : c.loop-n.n ≡ length c.args.ends.now = omega (arith, c.loop-n-test.false, c.loop-n.auto.n-end) in ap (λ n. map (λ e. ((get_or c.args.ends.now e (0, 0)).1, e)) (numbers n)) count)

pub returns-clause-sorted : goal.returns-clause-sorted
returns-clause-sorted c = IsNonDecreasingBy-from_sort_by_key (λ pair. pair.0) _ c.in_ok-sort_by_key.ensures.sorted (λ a r q k. search rules)

pub returns-clause-rows : goal.returns-clause-rows
returns-clause-rows c = λ corner.
    row_of-stable _ _ (c.in_ok-sort_by_key.ensures.stable (λ pair. pair.0) (answers_always _ _ _ (λ f a r g h. search rules))) corner
    ∙ (ap (λ keyed. row_of keyed corner) (all c) ∙ row_of-numbered (λ e. (get_or c.args.ends.now e (0, 0)).1) (numbers (length c.args.ends.now)) corner)

pub returns-clause-in_range : goal.returns-clause-in_range
returns-clause-in_range c = λ corners fits. All-permutation (λ (pair : ℕ × ℕ). pair.0 < corners) _ _ c.in_ok-sort_by_key.ensures.permutation (subst (All (λ (pair : ℕ × ℕ). pair.0 < corners)) (sym (all c)) (λ k d lt.
    (let ends = c.args.ends.now in
    let numbered : ℕ → ℕ × ℕ = λ e. ((get_or c.args.ends.now e (0, 0)).1, e) in
    let short : k < length c.args.ends.now = omega (arith, lt, length-map-range_with_len numbered 0 (length ends)) in
    let at : (get_or (map (λ e. ((get_or c.args.ends.now e (0, 0)).1, e)) (numbers (length c.args.ends.now))) k d).0 ≡ (get_or c.args.ends.now k (0, 0)).1 = ap (λ (pair : ℕ × ℕ). pair.0) (get_or-map-range_with_len numbered 0 (length ends) k k d short (omega arith)) in
    omega (arith, at, fits k short))))
