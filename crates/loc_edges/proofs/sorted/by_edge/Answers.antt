use Rattle.std.proofs.{Common.rules, lemmas.List.Sorted.answers_always}
use Rattle.loc_edges.proofs.Tagged.{features_stay, in_order as edges_in_order}
use Rattle.loc_edges.proofs.sorted.by_edge.Goals as goal

pub returns-clause-in_order : goal.returns-clause-in_order
returns-clause-in_order c = edges_in_order _ (c.in_ok-sort_by_key.ensures.sorted (λ t. t.0) (answers_always _ _ _ (λ f a r g h. search rules)))

pub returns-clause-features : goal.returns-clause-features
returns-clause-features c = λ e. features_stay _ _ (c.in_ok-sort_by_key.ensures.stable (λ t. t.0) (answers_always _ _ _ (λ f a r g h. search rules))) e
