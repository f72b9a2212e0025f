-- The least of the edges that begin at a corner whose list is wrong, as the list of the corner is gone through from below.
use Rattle.std.proofs.Common.{◌≡◌, ◌≢◌, ℕ, ◌+◌, ◌-◌, ◌<◌, ◌≤◌, Bool, true, false, not, ◌&&◌, ◌||◌, ◌⊎◌, List, [], ◌∷◌, ◌++◌, length, get_or, refl, sym, ◌∙◌, ap, subst, inl, inr, arith}
use Rattle.std.specs.Prelude.{Option, Some, None, IfSome, nat_lt, ◌==◌}
use Rattle.std.proofs.lemmas.Bool.{and_parts, eq-eqb, eqb-true, ltb-true, or_cases, true≢false}
use Rattle.std.proofs.{lemmas.Option.slice_get-get_or, lemmas.List.Folds.list_any-append, lemmas.List.Folds.list_any_at}
use Rattle.loc_spec_plane.specs.{Lists.is_in, Covers.cover_above}
use Rattle.loc_spec_plane.specs.Tables.{Table, IsTable, NoConflict, corner, edge, hi_of, lo_of}
use Rattle.loc_spec_plane.specs.Places.{IsJustBelow, IsVersion, alive_at, is_edge, lower_of}
use Rattle.loc_status.specs.Lists.{IsNextBelow}
use Rattle.loc_status.proofs.Ends as ends
use Rattle.loc_status.proofs.AtCorner.{alive_at_corner}
use Rattle.loc_sweep.proofs.JustBelow.{just_below}
use Rattle.loc_cover.proofs.JustBelow.{alive_at_begin}
use Rattle.loc_verify.specs.Least.{IsLeastFrom, IsLeastWith}

-- ---- what is just below
-- the member before place k, or none before the first
pub record IsBefore (list : List ℕ) (k : ℕ) (below : Option ℕ) : Type 0 where
  pub first : k ≡ 0 → below ≡ None
  pub later : 0 < k → below ≡ Some (get_or list (k - 1) 0)

pub next_below : (list : List ℕ) (k : ℕ) (below : Option ℕ) → k < length list → IsBefore list k below → IsNextBelow (get_or list k 0) list below
next_below list k below fits before = ends.next_below list k (get_or list k 0) below (slice_get-get_or list k 0 fits) before.first (λ some. before.later some ∙ sym (slice_get-get_or list (k - 1) 0 (omega (arith, some, fits))))

pub before_more : (list : List ℕ) (k : ℕ) (below : Option ℕ) → below ≡ Some (get_or list k 0) → IsBefore list (k + 1) below
before_more list k below is = record { first = λ none. absurd (omega (arith, none)); later = λ some. is ∙ (let down : k ≡ (k + 1) - 1 = omega arith in ap (λ j. Some (get_or list j 0)) down) }

-- an edge alive at a corner is there, and begins no later
alive_begun : (t : Table) → IsTable t → (c e : ℕ) → c < length t.corners → alive_at t (corner t c) e ≡ true → (e < length t.ends) × (lo_of t e ≤ c)
alive_begun t ok c e fits live =
    let parts = and_parts (is_edge t e) (nat_lt (lo_of t e) (c + 1) && not (nat_lt (hi_of t e) (c + 1))) (sym (alive_at_corner t ok c fits e) ∙ live) in
    let begun : lo_of t e < c + 1 = ltb-true _ _ (and_parts (nat_lt (lo_of t e) (c + 1)) (not (nat_lt (hi_of t e) (c + 1))) parts.1).0 in
    (ltb-true _ _ parts.0, omega (arith, begun))

module _ (t : Table) (ok : IsTable t) (c : ℕ) (fits : c < length t.corners) (list : List ℕ) (version : IsVersion t c list) where
  -- a member is an edge that begins no later
  pub member : (e : ℕ) → is_in e list ≡ true → (e < length t.ends) × (lo_of t e ≤ c)
  member e here = alive_begun t ok c e fits (sym (version.exact e) ∙ here)

  pub member_at : (k : ℕ) → k < length list → (get_or list k 0 < length t.ends) × (lo_of t (get_or list k 0) ≤ c)
  member_at k within = member (get_or list k 0) (list_any_at (λ m. m == get_or list k 0) list k 0 within (eq-eqb _ _ refl))

  pub below_is : (k : ℕ) (below : Option ℕ) → k < length list → IsBefore list k below → lo_of t (get_or list k 0) ≡ c → IsJustBelow t (get_or list k 0) below
  below_is k below within before begins = just_below t (get_or list k 0) list (subst (λ b. IsVersion t b list) (sym begins) version) below (next_below list k below within before)

-- what is just below an edge is an edge that begins no later
pub below_begins : (t : Table) → IsTable t → (e : ℕ) → e < length t.ends → (below : Option ℕ) → IsJustBelow t e below → IfSome below (λ d. d < length t.ends) × IfSome below (λ d. lo_of t d ≤ lo_of t e)
below_begins t ok e fits None below = (tt, tt)
below_begins t ok e fits (Some d) below =
    let up = ok.goes_up e fits in
    alive_begun t ok (lo_of t e) d (omega (arith, up.0, up.1)) (and_parts (alive_at t (edge t e).lo d) (lower_of t d e) below.0).0

-- the list above an edge that begins at the corner is at hand
pub there_at : (t : Table) (c e : ℕ) (covers : List ℕ) (below : Option ℕ) → lo_of t e ≡ c → ((d : ℕ) → below ≡ Some d → lo_of t d ≡ c → covers ≡ cover_above t d) → IfSome below (λ d. lo_of t d ≡ lo_of t e → covers ≡ cover_above t d)
there_at t c e covers None begins there = tt
there_at t c e covers (Some d) begins there = λ same. there d refl (same ∙ begins)

-- ---- the least so far
module _ (t : Table) (c : ℕ) (Holds : ℕ → Type 0) where
  -- of the edges seen that begin at the corner the least at which the fact does not hold
  abbrev pub IsLeastAmong : List ℕ → Option ℕ → Type 0
  IsLeastAmong seen None = (e : ℕ) → is_in e seen ≡ true → lo_of t e ≡ c → Holds e
  IsLeastAmong seen (Some n) = (is_in n seen ≡ true) × (lo_of t n ≡ c) × (Holds n → ⊥) × ((e : ℕ) → is_in e seen ≡ true → lo_of t e ≡ c → e < n → Holds e)

  split : (seen : List ℕ) (e d : ℕ) → is_in d (seen ++ e ∷ []) ≡ true → (is_in d seen ≡ true) ⊎ (e ≡ d)
  split seen e d here = elim (or_cases (is_in d seen) (is_in d (e ∷ [])) (sym (list_any-append (λ m. m == d) seen (e ∷ [])) ∙ here)) [
    | inl before ↦ inl before
    | inr last ↦ inr (elim (or_cases (e == d) false last) [ inl same ↦ eqb-true e d same | inr none ↦ absurd (true≢false (sym none)) ])
  ]

  stays : (seen : List ℕ) (e d : ℕ) → is_in d seen ≡ true → is_in d (seen ++ e ∷ []) ≡ true
  stays seen e d here = list_any-append (λ m. m == d) seen (e ∷ []) ∙ ap (λ b. b || is_in d (e ∷ [])) here

  last : (seen : List ℕ) (e : ℕ) → is_in e (seen ++ e ∷ []) ≡ true
  last seen e = list_any-append (λ m. m == e) seen (e ∷ []) ∙ by (is_in e seen) (e == e) (eq-eqb e e refl)
    where
      by : (a b : Bool) → b ≡ true → (a || (b || false)) ≡ true
      by true b h = refl
      by false true h = refl
      by false false h = h

  -- an edge that does not begin there, or at which the fact holds
  passed : (seen : List ℕ) (e : ℕ) (least : Option ℕ) → (lo_of t e ≡ c → Holds e) → IsLeastAmong seen least → IsLeastAmong (seen ++ e ∷ []) least
  passed seen e None holds before = λ d here begins. elim (split seen e d here) [
    | inl old ↦ before d old begins
    | inr same ↦ subst Holds same (holds (ap (lo_of t) same ∙ begins))
  ]
  passed seen e (Some n) holds before = (
    stays seen e n before.0,
    before.1,
    before.2,
    λ d here begins less. elim (split seen e d here) [
      | inl old ↦ before.3 d old begins less
      | inr same ↦ subst Holds same (holds (ap (lo_of t) same ∙ begins))
    ],
  )

  pub among_other : (seen : List ℕ) (e : ℕ) (least : Option ℕ) → lo_of t e ≢ c → IsLeastAmong seen least → IsLeastAmong (seen ++ e ∷ []) least
  among_other seen e least other before = passed seen e least (λ begins. absurd (other begins)) before

  -- an edge at which it does not hold is the least where the one so far is not less
  newly : (seen : List ℕ) (e : ℕ) (least : Option ℕ) → lo_of t e ≡ c → (Holds e → ⊥) → ((k : ℕ) → least ≡ Some k → e ≤ k) → IsLeastAmong seen least → IsLeastAmong (seen ++ e ∷ []) (Some e)
  newly seen e None begins wrong less before = (
    last seen e,
    begins,
    wrong,
    λ d here at under. elim (split seen e d here) [
      | inl old ↦ before d old at
      | inr same ↦ absurd (omega (arith, same, under))
    ],
  )
  newly seen e (Some k) begins wrong less before = (
    last seen e,
    begins,
    wrong,
    λ d here at under. elim (split seen e d here) [
      | inl old ↦ before.3 d old at (let le = less k refl in omega (arith, le, under))
      | inr same ↦ absurd (omega (arith, same, under))
    ],
  )

  kept : (seen : List ℕ) (e m : ℕ) → m < e → IsLeastAmong seen (Some m) → IsLeastAmong (seen ++ e ∷ []) (Some m)
  kept seen e m less before = (
    stays seen e m before.0,
    before.1,
    before.2,
    λ d here at under. elim (split seen e d here) [
      | inl old ↦ before.3 d old at under
      | inr same ↦ absurd (omega (arith, same, under, less))
    ],
  )

  pub among_more : (seen : List ℕ) (e : ℕ) (least next : Option ℕ) → lo_of t e ≡ c → IsLeastWith (Holds e) least e next → IsLeastAmong seen least → IsLeastAmong (seen ++ e ∷ []) next
  among_more seen e least None begins with_it before = passed seen e None (λ _. with_it.0) (subst (IsLeastAmong seen) with_it.1 before)
  among_more seen e least (Some m) begins (inl held) before = passed seen e (Some m) (λ _. held.0) (subst (IsLeastAmong seen) held.1 before)
  among_more seen e least (Some m) begins (inr wrong) before = elim wrong.1 [
    | inl old ↦ kept seen e m old.1 (subst (IsLeastAmong seen) old.0 before)
    | inr new ↦ subst (λ k. IsLeastAmong (seen ++ e ∷ []) (Some k)) (sym new.0) (newly seen e least begins wrong.0 new.1 before)
  ]

  -- at the end of the list all that begin there are seen
  module _ (ok : IsTable t) (apart : NoConflict t) (fits : c < length t.corners) (list : List ℕ) (version : IsVersion t c list) where
    listed : (e : ℕ) → e < length t.ends → lo_of t e ≡ c → is_in e list ≡ true
    listed e within begins = version.exact e ∙ subst (λ b. alive_at t (corner t b) e ≡ true) begins (alive_at_begin t ok apart e within)

    pub among_all : (least : Option ℕ) → IsLeastAmong list least → IsLeastFrom t c Holds least
    among_all None seen = λ e within begins. seen e (listed e within begins) begins
    among_all (Some n) seen = let m = (member t ok c fits list version n seen.0).0 in (m, seen.1, seen.2, λ e less begins. seen.3 e (listed e (omega (arith, m, less)) begins) begins less)
