-- What stands beside the end of a walk: the place of a new edge, and the neighbours of an edge of the list.
use Rattle.std.proofs.Common.{◌≡◌, ℕ, suc, ◌-◌, ◌<◌, true, List, [], ◌∷◌, ◌++◌, length, take, drop, get_or, refl, sym, ◌∙◌, ap, subst, inl, inr, arith, Option, Some, None, slice_get}
use Rattle.std.proofs.{Math.Seq.take-append_seam, Math.Seq.drop-append_seam, lemmas.Bool.cases_lt}
use Rattle.std.proofs.lemmas.Option.{slice_get-get_or}
use Rattle.loc_pool.specs.{declared.Link.Link, declared.Turn.Turn}
use Rattle.loc_rb.specs.Nodes.{Nodes}
use Rattle.loc_spec_plane.specs.Tables.{Table, IsTable, edge, lo_of}
use Rattle.loc_laws_order.proofs.TableOrder.{edge_up}
use Rattle.loc_status.specs.{declared.status.Beside.Beside, declared.targets.Target.TheVariants.Begin}
use Rattle.loc_status.specs.Lists.{is_chain_at, GoesAbove, GoesBelow, IsBeside, IsLast, IsNextBelow, IsNextAbove}
use Rattle.loc_status.specs.Targets.{is_passed, IsSearchEnd}
use Rattle.loc_status.proofs.{Beginning.begins_below, Ends.at_seam, Ends.next_below, Ends.next_above}
use Rattle.loc_status.proofs.{Standing.is_place_for, Lasts.last_there}
use Rattle.loc_treeidx.specs.Gaps.{IsEnd}
use Rattle.loc_treeidx.proofs.Descents.{above_there, below_there}

-- what stands beside an item between two parts of a list
pub beside_seam : (front back : List ℕ) (e : ℕ) (beside : Beside) → IsLast front beside.below → beside.above ≡ slice_get back 0 → IsBeside e (front ++ e ∷ back) beside
beside_seam front back e beside last first =
    let at = at_seam front (e ∷ back) in
    record {
      below = next_below (front ++ e ∷ back) (length front) e beside.below at last.none (last_there front (e ∷ back) beside.below last);
      above = subst (λ o. IsNextAbove e (front ++ e ∷ back) o) (behind front ∙ sym first) (next_above (front ++ e ∷ back) (length front) e at);
    }
  where
    behind : (front : List ℕ) → slice_get (front ++ e ∷ back) (suc (length front)) ≡ slice_get back 0
    behind [] = refl
    behind (d ∷ front) = behind front

module _ (n : Nodes) (content : List ℕ) (path : List (Link × Turn)) (lower upper : Option ℕ) (g : IsEnd n content path lower upper) where
  -- the neighbour below, where the edge is the item just above the end
  pub below_found : (e : ℕ) → upper ≡ Some e → IsNextBelow e content lower
  below_found e is = next_below content (length g.front) e lower (sym (above_there n content path lower upper g) ∙ is) g.below.none (below_there n content path lower upper g)

  -- and the neighbour above, where it is the item just below the end
  pub above_found : (e : ℕ) → lower ≡ Some e → IsNextAbove e content upper
  above_found e is = elim (cases_lt 0 (length g.front)) [
    | inr none ↦ (let clash : None ≡ Some e = sym (g.below.none (omega (arith, none))) ∙ is in absurd cc)
    | inl more ↦ (let at = sym (below_there n content path lower upper g more) ∙ is in
        let next : suc (length g.front - 1) ≡ length g.front = omega (arith, more) in
        subst (λ o. IsNextAbove e content o) (ap (λ k. slice_get content k) next ∙ sym (above_there n content path lower upper g)) (next_above content (length g.front - 1) e at))
  ]

  -- the place of a new edge, where it begins below the edge just above the end
  pub place_at : (t : Table) → IsTable t → (e : ℕ) → e < length t.ends → is_chain_at t (lo_of t e) content ≡ true → IsSearchEnd (is_passed t (Begin e)) content (length g.front) → ((next : ℕ) → upper ≡ Some next → begins_below (edge t next) (edge t e) ≡ true) → GoesAbove t e g.front × GoesBelow t e g.back
  place_at t ok e fits chain stop below =
      let place = is_place_for t e content chain (edge_up t ok e fits) (length g.front) stop (λ less. below (get_or content (length g.front) 0) (above_there n content path lower upper g ∙ slice_get-get_or content (length g.front) 0 less)) in (
        subst (λ ds. GoesAbove t e ds) (ap (λ ds. take (length g.front) ds) (sym g.whole) ∙ take-append_seam g.front g.back) place.behind,
        subst (λ ds. GoesBelow t e ds) (ap (λ ds. drop (length g.front) ds) (sym g.whole) ∙ drop-append_seam g.front g.back) place.ahead,
      )
