-- The two least polygons of which each distinct list has an odd number of rings, list by list.
use Rattle.std.proofs.Common.{◌≡◌, ℕ, true, ◌+◌, ◌<◌, ◌≤◌, List, [], ◌∷◌, ◌++◌, length, get_or, sym, ap, subst, inl, inr, arith}
use Rattle.std.specs.Prelude.{All, ◌==◌, nat_lt}
use Rattle.std.proofs.{Math.Seq.get_or-append_seam, lemmas.Bool.cases_eq}
use Rattle.std.proofs.{lemmas.List.get_or_append_left, lemmas.List.length-append, lemmas.List.Elements.All-get_or}
use Rattle.loc_spec_plane.specs.{Lists.is_rising, Lists.odd_many, Rings.Rings}
use Rattle.loc_laws_order.proofs.TableOrder.{rises_weakly}
use Rattle.loc_spec_valid.specs.Breaches.{polygon_of}
use Rattle.loc_laws_rays.proofs.Parity.{odd_many-same}
use Rattle.loc_valid.specs.{declared.least.Least.Least, declared.least.Least.TheVariants.Zero}
use Rattle.loc_valid.specs.Hits.{AreClimbing, AreHomes, AreLeast, AreOddLists}
use Rattle.loc_valid.proofs.{RingHomes.as_many_homes, RingHomes.climbs, RingHomes.home_is, Turns.same_least}

-- the members of a rising list of rings have polygons that do not fall
pub members_climb : (homes list : List ℕ) → AreClimbing homes → is_rising nat_lt list ≡ true → All (λ r. r < length homes) list → (i j : ℕ) → i ≤ j → j < length list → get_or homes (get_or list i 0) 0 ≤ get_or homes (get_or list j 0) 0
members_climb homes list climbing rising fits i j le lt = climbing (get_or list i 0) (get_or list j 0) (rises_weakly list rising i j le lt) (All-get_or (λ r. r < length homes) list j 0 lt fits)

module _ (polygons : List Rings) (homes : List ℕ) (are : AreHomes polygons homes) where
  pub homes_climb : AreClimbing homes
  homes_climb r q le lt = omega (arith, home_is polygons homes are r, home_is polygons homes are q, climbs polygons r q le (omega (arith, lt, as_many_homes polygons homes are)))

  -- by the polygons of the rings
  pub by_polygons : (list : List ℕ) (least : Least) → AreLeast (λ m. odd_many (λ q. get_or homes q 0 == m) list) least → AreLeast (λ m. odd_many (λ q. polygon_of polygons q == m) list) least
  by_polygons list least = same_least (λ m. odd_many (λ q. get_or homes q 0 == m) list) (λ m. odd_many (λ q. polygon_of polygons q == m) list)
      (λ m. odd_many-same (λ q. get_or homes q 0 == m) (λ q. polygon_of polygons q == m) list (λ q. ap (λ k. k == m) (home_is polygons homes are q))) least

-- one list more
pub list_more : (homes : List ℕ) (lists : List (List ℕ)) (n : ℕ) (odd : List Least) (least : Least) → AreOddLists homes lists n odd → AreLeast (λ m. odd_many (λ q. get_or homes q 0 == m) (get_or lists n [])) least → AreOddLists homes lists (n + 1) (odd ++ least ∷ [])
list_more homes lists n odd least told here = (omega (arith, length-append odd (least ∷ []), told.0), each)
  where
    each : (k : ℕ) → k < n + 1 → AreLeast (λ m. odd_many (λ q. get_or homes q 0 == m) (get_or lists k [])) (get_or (odd ++ least ∷ []) k Zero)
    each k lt = elim (cases_eq k (length odd)) [
      | inl same ↦ (let at : k ≡ n = omega (arith, same, told.0) in
          subst (λ i. AreLeast (λ m. odd_many (λ q. get_or homes q 0 == m) (get_or lists k [])) (get_or (odd ++ least ∷ []) i Zero)) (sym same)
          (subst (λ l. AreLeast (λ m. odd_many (λ q. get_or homes q 0 == m) (get_or lists k [])) l) (sym (get_or-append_seam odd least [] Zero))
          (subst (λ i. AreLeast (λ m. odd_many (λ q. get_or homes q 0 == m) (get_or lists i [])) least) (sym at) here)))
      | inr other ↦ (let less : k < length odd = omega (arith, other, lt, told.0) in
          subst (λ l. AreLeast (λ m. odd_many (λ q. get_or homes q 0 == m) (get_or lists k [])) l) (sym (get_or_append_left odd (least ∷ []) Zero k less)) (told.1 k (omega (arith, less, told.0))))
    ]
