use Rattle.std.proofs.Common.{nat_eq, ◌||◌, ◌==◌, ◌&&◌, ◌∙◌, ap, subst, sym}
use Rattle.std.specs.{Prelude.nat_lt, List.list_any}
use Rattle.std.proofs.{lemmas.Bool.Decides.Decides-eqb, lemmas.List.Filters.dedup_is}
use Rattle.loc_spec_plane.specs.{Lists.is_in, Lists.IsRisingListOf, Covers.has_at}
use Rattle.loc_spec_plane.specs.Tables.{edge_numbers, has, hi_of, lo_of}
use Rattle.loc_edges.proofs.SortedSet.{any-sorted_set, rising-sorted_set, sorted_set-dedup}
use Rattle.loc_cover.proofs.Gathered.{either_at, numbers_by_less}
use Rattle.loc_cover.proofs.touching.put_corner.Goals as goal

pub returns : goal.returns
returns c =
    let t = c.args.table.now in
    let set = c.add_ending.new.row.items in
    subst (IsRisingListOf nat_lt (has_at t c.args.corner)) (sym (dedup_is nat_eq _ _ c.dedup.ensures.filtered ∙ sorted_set-dedup numbers_by_less nat_eq Decides-eqb _ _ c.sort_unstable.ensures.permutation c.sort_unstable.ensures.sorted))
    (record {
      rising = rising-sorted_set numbers_by_less set;
      exact = λ f. any-sorted_set numbers_by_less (λ m. m == f) set ∙ (c.in_ok-add_ending.ensures f ∙ (ap (λ b. b || list_any (λ e. (hi_of t e == c.args.corner) && has t f e) (edge_numbers t)) (c.in_ok-add_beginning.ensures f ∙ ap (λ xs. is_in f xs || list_any (λ e. (lo_of t e == c.args.corner) && has t f e) (edge_numbers t)) c.clear.ensures.items)
          ∙ either_at t c.args.corner f (edge_numbers t)));
    })
