use Rattle.std.proofs.Common.{◌∙◌, ap}
use Rattle.std.proofs.lemmas.List.Sorted.{IsNonDecreasingBy-from_sort}
use Rattle.loc_spec_plane.specs.{Lists.exactly_one, Lists.odd_many, Tables.edge_numbers, Tables.hi_of, Tables.lo_of}
use Rattle.loc_verify.specs.Least.{has_odd_from, is_odd_in}
use Rattle.loc_verify.proofs.Odd.{odd_either, odd_permuted}
use Rattle.loc_verify.proofs.features.put_corner.Goals as goal

pub returns-clause-odd : goal.returns-clause-odd
returns-clause-odd c = λ f.
    (let t = c.args.table.now in
    odd_permuted f c.add_ending.new.row.items c.sort_unstable.new.self.items c.sort_unstable.ensures.permutation
    ∙ (c.in_ok-add_ending.ensures f ∙ (ap (λ b. exactly_one b (odd_many (has_odd_from t hi_of c.args.corner f) (edge_numbers t)))
    (c.in_ok-add_beginning.ensures f ∙ ap (λ xs. exactly_one (is_odd_in f xs) (odd_many (has_odd_from t lo_of c.args.corner f) (edge_numbers t))) c.clear.ensures.items)
    ∙ odd_either t c.args.corner f c.law.ensures.in_order)))

pub returns-clause-in_order : goal.returns-clause-in_order
returns-clause-in_order c = IsNonDecreasingBy-from_sort (λ f. f) c.sort_unstable.new.self.items c.sort_unstable.ensures.sorted
