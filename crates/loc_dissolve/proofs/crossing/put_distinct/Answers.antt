use Rattle.std.proofs.Common.{◌≡◌, nat_eq, ◌++◌, List, ℕ, ◌∙◌, ap, subst, sym}
use Rattle.std.specs.Prelude.{nat_lt, ◌==◌}
use Rattle.std.specs.List.{dedup}
use Rattle.std.proofs.{lemmas.Bool.Decides.Decides-eqb, lemmas.List.Filters.dedup_is}
use Rattle.std.proofs.lemmas.List.Sorted.{IsPermutation-refl}
use Rattle.loc_spec_plane.specs.Lists.{is_in, IsRisingListOf}
use Rattle.loc_edges.proofs.SortedSet.{any-sorted_set, rising-sorted_set, sorted_set-dedup}
use Rattle.loc_cover.proofs.Gathered.{numbers_by_less}
use Rattle.loc_dissolve.proofs.crossing.put_distinct.Goals as goal

pub returns : goal.returns
returns c =
    let ns = c.args.numbers.now in
    let same : c.extend_from_slice.new.self.items ≡ c.args.numbers.now = c.in_ok-extend_from_slice.ensures.items ∙ ap (λ (l : List ℕ). l ++ c.args.numbers.now) c.clear.ensures.items in
    subst (IsRisingListOf nat_lt (λ n. is_in n ns)) (sym (dedup_is nat_eq _ _ c.dedup.ensures.filtered ∙ (ap (dedup nat_eq) same ∙ sorted_set-dedup numbers_by_less nat_eq Decides-eqb ns ns (IsPermutation-refl ns) c.requires.in_order)))
    (record { rising = rising-sorted_set numbers_by_less ns; exact = λ n. any-sorted_set numbers_by_less (λ m. m == n) ns })
