-- What the search finds, by where the point stands among the corners.
use Rattle.std.proofs.Common.{◌≡◌, ℕ, zero, suc, true, ◌-◌, List, get_or, refl, sym, ◌∙◌, ap, subst, arith}
use Rattle.std.specs.Prelude.{Some, None, Ok, Err, IfOk, IsOkAnd, count_by}
use Rattle.loc_spec_plane.specs.{Points.Point, Points.before, Tables.Table, Tables.IsTable}
use Rattle.loc_spec_plane.specs.{Places.is_corner_of, Places.IsPlace, declared.Place.Place}
use Rattle.loc_spec_plane.specs.declared.Place.TheVariants.{Corner, Border, Area}
use Rattle.loc_spec_index.specs.{declared.NodeRow.NodeRow, Content.Content, Content.table_in, Content.search_in}
use Rattle.loc_spec_index.specs.{IndexFile.IsFileOf, Laws.IsPlaceIn}
use Rattle.loc_spec_index.specs.Search.{Found, walk, search_from, search_for}
use Rattle.loc_laws_index.proofs.{FlawKinds.as_many, InRange.search_in_range}
use Rattle.loc_laws_search.proofs.Counted.{finds-corner, finds-none, counts-passed}
use Rattle.loc_place.specs.{Answers.Answer, Answers.IsInRange, Standing.IsBehind}
use Rattle.loc_file.specs.{Searches.answer_of, Searches.IsIndexFor, Standing.index_finds}

module _ (t : Table) (ok : IsTable t) (p : Point) (rows : List NodeRow) (roots : List ℕ) where
  pub search-corner : (n : ℕ) → is_corner_of t p n ≡ true → answer_of (search_for t rows p roots) ≡ Ok (Corner n)
  search-corner n is = ap (λ o. answer_of (search_from t rows p roots o (count_by (λ c. before c p) t.corners))) (finds-corner t ok p n is)

  behind : (n : ℕ) → IsBehind t p n → search_for t rows p roots ≡ search_from t rows p roots None n
  behind n b = ap (λ o. search_from t rows p roots o (count_by (λ c. before c p) t.corners)) (finds-none t ok p n b) ∙ ap (search_from t rows p roots None) (counts-passed t ok p n b)

  pub search-none : (n : ℕ) → IsBehind t p n → n ≡ 0 → answer_of (search_for t rows p roots) ≡ Ok (Area None)
  search-none n b e = ap answer_of (behind n b) ∙ ap (λ k. answer_of (search_from t rows p roots None k)) e

  pub search-behind : (n : ℕ) → IsBehind t p n → (n ≡ 0 → ⊥) → answer_of (search_for t rows p roots) ≡ answer_of (walk t rows p (n - 1) 42 (get_or roots (n - 1) 0) None)
  search-behind zero b some = absurd (some refl)
  search-behind (suc i) b some = ap answer_of (behind (suc i) b) ∙ (let e : i ≡ suc i - 1 = omega arith in ap (λ k. answer_of (walk t rows p k 42 (get_or roots k 0) None)) e)

-- ---- what is found is there

placed : (c : Content) (place : Place) → IsPlaceIn c place → IsInRange (table_in c) place
unfolding table_in
placed c (Corner n) h = h
placed c (Border e) h = let l = as_many c in omega (arith, h, l)
placed c (Area None) h = tt
placed c (Area (Some e)) h = let l = as_many c in omega (arith, h, l)

pub found-in-range : {v : ℕ} (c : Content) (bytes : List ℕ) (t : Table) (p : Point) (r : Answer) → IsFileOf v c bytes → t ≡ table_in c → r ≡ answer_of (search_for t c.nodes p c.roots) → IfOk r (IsInRange t)
found-in-range {v} c bytes t p r file e is =
    subst (λ a. IfOk a (IsInRange t)) (sym is) (subst (λ u. IfOk (answer_of (search_for u c.nodes p c.roots)) (IsInRange u)) (sym e) (by (search_in c p) refl))
  where
    by : (found : Found) → search_in c p ≡ found → IfOk (answer_of found) (IsInRange (table_in c))
    by (Ok place) f = placed c place (search_in_range bytes v c file p place f)
    by (Err version) f = tt

pub found-place : (c : Content) (t : Table) (p : Point) (r : Answer) → r ≡ answer_of (search_for t c.nodes p c.roots) → IsIndexFor c t → IsOkAnd r (IsPlace t p)
found-place c t p r is s = subst (λ a. IsOkAnd a (IsPlace t p)) (sym is) (index_finds c t p s)
