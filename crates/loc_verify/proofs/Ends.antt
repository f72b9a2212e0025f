-- A corner is an end exactly where an edge begins or ends there.
use Rattle.std.proofs.Common.{◌≡◌, ℕ, suc, ◌<◌, Bool, true, not, List, [], ◌∷◌, length, refl, sym, ◌∙◌, ap, inl, inr, arith}
use Rattle.std.specs.Prelude.{◌==◌}
use Rattle.std.specs.List.{list_any}
use Rattle.std.proofs.lemmas.Bool.{and_from, and_parts, eq-eqb, eqb-true, lt-ltb, ltb-true, not_from_false, ne_eqb, or_cases, or_left, or_right, true≢false}
use Rattle.loc_spec_plane.specs.{Lists.is_in, Places.is_edge}
use Rattle.loc_spec_plane.specs.Tables.{Table, edge_numbers, ends_at, hi_of, lo_of}
use Rattle.loc_laws_order.proofs.Booleans.{same-from_both}
use Rattle.loc_edges.specs.Ending.{IsBeginning}
use Rattle.loc_cover.proofs.Gathered.{any_range, some_in}
use Rattle.loc_sweep.specs.Line.{ending_at}
use Rattle.loc_sweep.proofs.EdgesLeaving.{is_in-ending}

module _ (t : Table) where
  -- an edge some_in a test
  pub edge_passes : (p : ℕ → Bool) (e : ℕ) → e < length t.ends → p e ≡ true → list_any p (edge_numbers t) ≡ true
  edge_passes p e fits h = any_range p 0 (length t.ends) e (omega arith) (omega (arith, fits)) h

  pub passing_edge : (p : ℕ → Bool) → list_any p (edge_numbers t) ≡ true → (e : ℕ) × (e < length t.ends) × (p e ≡ true)
  passing_edge p h = let found = some_in p 0 (length t.ends) h in (found.0, omega (arith, found.1), found.2)

  module _ (c first past : ℕ) (beginning : IsBeginning t c first past) where
    pub ends_begin : first < past → list_any (ends_at t c) (edge_numbers t) ≡ true
    ends_begin some =
        let within = beginning.within in
        let fits : first < length t.ends = omega (arith, within) in
        edge_passes (ends_at t c) first fits (or_left (lo_of t first == c) (hi_of t first == c) (eq-eqb (lo_of t first) c ((beginning.exact first fits).1 (omega arith, some))))

    pub ends_end : (first < past → ⊥) → (ending : List ℕ) → ending ≡ ending_at t c → not (length ending == 0) ≡ list_any (ends_at t c) (edge_numbers t)
    ends_end none [] is = same-from_both _ _ (λ h. absurd (true≢false (sym h))) (λ h.
        (let found = passing_edge (ends_at t c) h in
        elim (or_cases (lo_of t found.0 == c) (hi_of t found.0 == c) found.2) [
          | inl begins ↦ (let range = (beginning.exact found.0 found.1).0 (eqb-true _ _ begins) in let low = range.0 in let high = range.1 in absurd (none (omega (arith, low, high))))
          | inr ends ↦ absurd (true≢false (sym (ap (is_in found.0) is ∙ (is_in-ending t c found.0 ∙ and_from (is_edge t found.0) (hi_of t found.0 == c) (lt-ltb _ _ found.1) ends))))
        ]))
    ends_end none (e ∷ es) is = same-from_both _ _
        (λ h. (let there = and_parts (is_edge t e) (hi_of t e == c) (sym (is_in-ending t c e) ∙ (sym (ap (is_in e) is) ∙ or_left (e == e) (is_in e es) (eq-eqb e e refl))) in
        edge_passes (ends_at t c) e (ltb-true _ _ there.0) (or_right (lo_of t e == c) (hi_of t e == c) there.1)))
        (λ h. not_from_false (suc (length es) == 0) (ne_eqb (suc (length es)) 0 (λ same. omega (arith, same))))
