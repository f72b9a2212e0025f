-- The version at a corner serves each point between it and the next one.
use Rattle.std.proofs.Common.{◌≡◌, ℕ, zero, suc, ◌+◌, ◌<◌, ◌≤◌, Bool, not, ◌&&◌, List, [], ◌∷◌, length, get_or, refl, sym, ◌∙◌, ap, arith}
use Rattle.std.specs.Prelude.{nat_lt}
use Rattle.std.proofs.lemmas.Bool.{and_left, and_right, le-ltb}
use Rattle.loc_spec_plane.specs.{Points.Point, Places.alive_at, Places.is_edge, Places.IsListAt}
use Rattle.loc_spec_plane.specs.Tables.{Table, IsTable, lo_of, hi_of}
use Rattle.loc_status.specs.Versions.{AreVersions}
use Rattle.loc_laws_order.proofs.AliveAt.{alive_at_is, alive_at_corner}
use Rattle.loc_place.specs.Standing.{IsBehind}
use Rattle.loc_place.proofs.Behind.{is_passed}

-- edge e begins at one of the first n corners, and ends at none of them
abbrev is_open : Table → ℕ → ℕ → Bool
is_open t n e = is_edge t e && (nat_lt (lo_of t e) n && not (nat_lt (hi_of t e) n))

-- behind the first n corners those edges are alive
alive_behind : (t : Table) → IsTable t → (p : Point) (n : ℕ) → IsBehind t p n → (e : ℕ) → alive_at t p e ≡ is_open t n e
alive_behind t ok p n behind e = alive_at_is t ok p n e (is_passed t p n behind)

-- the list at a point is the version at the last corner before it, for no corner lies between, and an empty list before the first
pub version_there : (t : Table) → IsTable t → (lists : List (List ℕ)) → AreVersions t lists → (p : Point) (n : ℕ) → IsBehind t p n → IsListAt t p (get_or ([] ∷ lists) n [])
version_there t ok lists versions p zero behind = record {
  rising = refl;
  exact = λ e. sym (alive_behind t ok p 0 behind e ∙ and_right (is_edge t e) (nat_lt (lo_of t e) 0 && not (nat_lt (hi_of t e) 0)) (and_left (nat_lt (lo_of t e) 0) (not (nat_lt (hi_of t e) 0)) (le-ltb (lo_of t e) 0 (omega arith))));
}
version_there t ok lists versions p (suc c) behind =
    let within : suc c ≤ length t.corners = behind.within in
    let fits : c < length t.corners = omega arith in
    let next : c + 1 ≡ suc c = omega arith in
    let here = versions.are c fits in
    record {
      rising = here.rising;
      exact = λ e. here.exact e ∙ (alive_at_corner t ok c fits e ∙ (ap (λ k. is_open t k e) next ∙ sym (alive_behind t ok p (suc c) behind e)));
    }
