-- The steps of a search in a true index: those of a walk in the version of the edges alive at the point.
use Rattle.std.proofs.Common.{◌≡◌, ℕ, zero, suc, ◌+◌, ◌-◌, ◌*◌, ◌^◌, ◌<◌, ◌≤◌, Bool, true, false, not, ◌&&◌, List, [], ◌∷◌, length, refl, sym, ◌∙◌, ap, subst, arith, inl, inr}
use Rattle.std.specs.Prelude.{nat_lt, filter, cond}
use Rattle.std.proofs.{Math.Pow.pow_mono, lemmas.Bool.and_left, lemmas.Bool.cases_lt, lemmas.Bool.le-ltb}
use Rattle.std.proofs.{lemmas.Nat.mul-le, lemmas.List.Sums.length-filter}
use Rattle.loc_spec_plane.specs.{Points.Point, Places.alive, Places.alive_at, Places.is_edge}
use Rattle.loc_spec_plane.specs.Tables.{Table, IsTable, corner, edge, edge_numbers, lo_of, hi_of}
use Rattle.loc_spec_index.specs.Content.{Content, table_in, root_of}
use Rattle.loc_spec_index.specs.TrueIndex.{alive_count as count_at}
use Rattle.loc_laws_index.proofs.FlawKinds.{as_many, as_many_corners}
use Rattle.loc_place.specs.{Standing.IsBehind, Steps.alive_count, Steps.search_bound, Steps.most_steps}
use Rattle.loc_place.proofs.{Behind.alive_is, SearchBounds.both_within, ListCounts.alive_few, ListCounts.square_rises}
use Rattle.loc_status.proofs.AtCorner.{alive_at_corner}
use Rattle.loc_file.specs.{Searches.IsIndexFor, Depths.depth_from, Depths.most_of}
use Rattle.loc_file.proofs.Deep.{depth-shallow, level-from}

-- behind a corner the edges alive are those alive there
alive-same : (t : Table) → IsTable t → (p : Point) (i : ℕ) → IsBehind t p (suc i) → (e : ℕ) → alive_at t p e ≡ alive_at t (corner t i) e
alive-same t ok p i behind e =
    let within = behind.within in
    let fits : i < length t.corners = omega (arith, within) in
    let next : i + 1 ≡ suc i = omega arith in
    here ∙ (ap (λ k. is_edge t e && (nat_lt (lo_of t e) k && not (nat_lt (hi_of t e) k))) (sym next) ∙ sym (alive_at_corner t ok i fits e))
  where
    here : alive_at t p e ≡ (is_edge t e && (nat_lt (lo_of t e) (suc i) && not (nat_lt (hi_of t e) (suc i))))
    here = elim (cases_lt e (length t.ends)) [
      | inl fits ↦ ap (λ b. is_edge t e && b) (alive_is t ok p (suc i) behind e fits)
      | inr past ↦ (let none = le-ltb e (length t.ends) past in and_left (is_edge t e) (alive (edge t e) p) none ∙ sym (and_left (is_edge t e) (nat_lt (lo_of t e) (suc i) && not (nat_lt (hi_of t e) (suc i))) none))
    ]

counted : (f g : ℕ → Bool) → ((e : ℕ) → f e ≡ g e) → (ns : List ℕ) → length (filter f ns) ≡ length (filter g ns)
counted f g same [] = refl
counted f g same (n ∷ ns) = ap (λ b. length (cond b (n ∷ filter f ns) (filter f ns))) (same n) ∙ by (g n) (counted f g same ns)
  where
    by : (b : Bool) → length (filter f ns) ≡ length (filter g ns) → length (cond b (n ∷ filter f ns) (filter f ns)) ≡ length (cond b (n ∷ filter g ns) (filter g ns))
    by true r = ap suc r
    by false r = r

count-same : (t : Table) → IsTable t → (p : Point) (i : ℕ) → IsBehind t p (suc i) → alive_count t p ≡ count_at t i
count-same t ok p i behind = counted (alive_at t p) (alive_at t (corner t i)) (alive-same t ok p i behind) (edge_numbers t) ∙ length-filter (alive_at t (corner t i)) (edge_numbers t)

module _ (c : Content) (t : Table) (s : IsIndexFor c t) where
  shallow-at : (i : ℕ) → i < length c.corners → 2 ^ depth_from c.nodes i 42 (root_of c i) ≤ (count_at t i + 1) * (count_at t i + 1)
  shallow-at i lt =
      subst (λ (u : Table). 2 ^ depth_from c.nodes i 42 (root_of c i) ≤ (count_at u i + 1) * (count_at u i + 1)) (sym s.table_is)
      (depth-shallow c.nodes i 42 (root_of c i) (count_at (table_in c) i) (s.is_true.versions i lt).shallow)

  -- a true index is level, so its bound is the tree's
  pub true-most : most_of c t ≡ most_steps t
  true-most = ap (λ b. cond b (most_steps t) (length t.corners + 42)) (level-from c (λ i lt.
      (let h = shallow-at i lt in
      let n = length-filter (alive_at t (corner t i)) (edge_numbers t) in
      let few = alive_few t (corner t i) in
      let e = ap (λ (u : Table). length u.ends) s.table_is ∙ as_many c in
      let k : count_at t i ≤ length c.edges = omega (arith, n, few, e) in
      let q = square_rises (count_at t i) (length c.edges) k in
      omega (arith, h, q))))

  module _ (p : Point) (started middle steps : ℕ) (first : started ≤ middle) (half : 2 ^ (middle - started) ≤ 2 * length t.corners + 1) where
    pub true-corner : 2 ^ (middle - started) ≤ search_bound (length t.corners) (alive_count t p)
    true-corner =
        let some = mul-le 1 1 (alive_count t p + 1) (alive_count t p + 1) (omega arith) (omega arith) in
        let all = mul-le (2 * length t.corners + 1) 1 (2 * length t.corners + 1) ((alive_count t p + 1) * (alive_count t p + 1)) (omega arith) some in
        omega (arith, half, all)

    pub true-walk : (n : ℕ) → IsBehind t p n → (n ≡ 0 → ⊥) → middle ≤ steps → steps ≤ middle + depth_from c.nodes (n - 1) 42 (root_of c (n - 1)) → 2 ^ (steps - started) ≤ search_bound (length t.corners) (alive_count t p)
    true-walk zero behind some second walked = absurd (some refl)
    true-walk (suc i) behind some second walked =
        let down : suc i - 1 ≡ i = omega arith in
        let w : steps ≤ middle + depth_from c.nodes i 42 (root_of c i) = subst (λ k. steps ≤ middle + depth_from c.nodes k 42 (root_of c k)) down walked in
        let within = behind.within in
        let n = ap (λ (u : Table). length u.corners) s.table_is ∙ as_many_corners c in
        let h = shallow-at i (omega (arith, within, n)) in
        let same = count-same t s.in_order p i behind in
        let bound : 2 ^ depth_from c.nodes i 42 (root_of c i) ≤ (alive_count t p + 1) * (alive_count t p + 1) = subst (λ k. 2 ^ depth_from c.nodes i 42 (root_of c i) ≤ (k + 1) * (k + 1)) (sym same) h in
        let fewer : steps - middle ≤ depth_from c.nodes i 42 (root_of c i) = omega (arith, w, second) in
        let power = pow_mono fewer in
        both_within (length t.corners) (alive_count t p) started middle steps first second half (omega (arith, power, bound))
