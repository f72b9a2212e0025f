use Rattle.std.proofs.Common.{nat_eq, ◌∙◌}
use Rattle.std.proofs.{lemmas.Bool.Decides.Decides-eqb, lemmas.List.Filters.dedup_is}
use Rattle.loc_edges.proofs.SortedSet.{sorted_set-dedup}
use Rattle.loc_cover.proofs.Gathered.{numbers_by_less}
use Rattle.loc_batch.proofs.answerer.sort_features.Goals as goal

pub returns-clause-set : goal.returns-clause-set
returns-clause-set c = dedup_is nat_eq _ _ c.dedup.ensures.filtered ∙ sorted_set-dedup numbers_by_less nat_eq Decides-eqb _ _ c.sort_unstable.ensures.permutation c.sort_unstable.ensures.sorted
