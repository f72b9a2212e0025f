-- The least edge whose list is wrong, corner after corner.
use Rattle.std.proofs.Common.{◌≡◌, ℕ, ◌+◌, ◌<◌, ◌≤◌, true, length, inl, inr, arith, sym, false}
use Rattle.std.specs.Prelude.{Option, Some, None, is_some}
use Rattle.std.proofs.lemmas.Bool.{cases_order, true≢false}
use Rattle.loc_spec_plane.specs.Tables.{Table, IsTable, lo_of}
use Rattle.loc_verify.specs.Least.{IsLeastFailing, IsLeastFrom}
use Rattle.loc_laws_order.proofs.TableOrder.{lo_rises}

module _ (t : Table) (ok : IsTable t) (c : ℕ) (Holds : ℕ → Type 0) (earlier : (e : ℕ) → e < length t.ends → lo_of t e < c → Holds e) where
  -- the first corner with a wrong one has the least
  pub first_wrong : (least : Option ℕ) → is_some least ≡ true → IsLeastFrom t c Holds least → IsLeastFailing (length t.ends) Holds least
  first_wrong None some found = absurd (true≢false (sym some))
  first_wrong (Some n) some found = (
    found.0,
    found.2,
    λ m less.
        (let rise : lo_of t m ≤ lo_of t n = lo_rises t ok m n less found.0 in
        let begins = found.1 in
        elim (cases_order (lo_of t m) c) [
          | inl here ↦ found.3 m less here
          | inr differ ↦ elim differ [
            | inl before ↦ earlier m (let fits = found.0 in omega (arith, less, fits)) before
            | inr after ↦ absurd (omega (arith, after, rise, begins))
          ]
        ]),
  )

  -- a corner without one
  pub more_right : (least : Option ℕ) → is_some least ≡ false → IsLeastFrom t c Holds least → (e : ℕ) → e < length t.ends → lo_of t e < c + 1 → Holds e
  more_right (Some n) none found e fits under = absurd (true≢false none)
  more_right None none found e fits under = elim (cases_order (lo_of t e) c) [
    | inl here ↦ found e fits here
    | inr differ ↦ elim differ [
      | inl before ↦ earlier e fits before
      | inr after ↦ absurd (omega (arith, after, under))
    ]
  ]
