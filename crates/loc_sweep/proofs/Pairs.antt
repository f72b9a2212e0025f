-- Two edges by their numbers, the lesser first.
use Rattle.std.proofs.Common.{◌≡◌, ℕ, ◌<◌, ◌≤◌, true, false, not, length, refl, sym, ◌∙◌, ap, subst, ◌⊎◌, inl, inr, arith}
use Rattle.std.specs.Prelude.{min, max}
use Rattle.std.proofs.lemmas.Bool.{both_ways, cases_eq, cases_lt}
use Rattle.loc_spec_plane.specs.{Points.Edge, Points.touch, Points.conflict, Tables.Table, Tables.edge}
use Rattle.loc_geom.specs.{Answers.IsMeeting, declared.kinds.Meeting.Meeting}
use Rattle.loc_geom.specs.declared.kinds.Meeting.TheVariants.{Apart, Touch, Cross}
use Rattle.loc_laws_order.proofs.Tests.{conflict_none, conflict_swap, touch-conflict, touch_swap}
use Rattle.loc_sweep.specs.Swept.{AreInConflict}

-- of two numbers one is the lesser and the other the greater
pub in_order : (a b : ℕ) → ((min a b ≡ a) × (max a b ≡ b) × (a ≤ b)) ⊎ ((min a b ≡ b) × (max a b ≡ a) × (b ≤ a))
in_order a b = elim (cases_lt a b) [
  | inl less ↦ inl (omega arith, omega arith, omega arith)
  | inr more ↦ inr (omega arith, omega arith, omega arith)
]

-- two edges that do not conflict one way round do not the other way round
pub apart_in_order : (t : Table) (a b : ℕ) → not (conflict (edge t (min a b)) (edge t (max a b))) ≡ true → not (conflict (edge t a) (edge t b)) ≡ true
apart_in_order t a b apart = elim (in_order a b) [
  | inl same ↦ subst (λ n. not (conflict (edge t a) (edge t n)) ≡ true) same.1 (subst (λ n. not (conflict (edge t n) (edge t (max a b))) ≡ true) same.0 apart)
  | inr other ↦ ap not (conflict_swap (edge t a) (edge t b)) ∙ subst (λ n. not (conflict (edge t b) (edge t n)) ≡ true) other.1 (subst (λ n. not (conflict (edge t n) (edge t (max a b))) ≡ true) other.0 apart)
]

-- two edges that conflict, by their numbers in order
pub in_conflict : (t : Table) (a b : ℕ) (meeting : Meeting) → a < length t.ends → b < length t.ends → conflict (edge t (min a b)) (edge t (max a b)) ≡ true → IsMeeting (edge t (min a b)) (edge t (max a b)) meeting → AreInConflict t (min a b) (max a b) meeting
in_conflict t a b meeting fits_a fits_b meets how = record {
  in_order = (let up : min a b ≤ max a b = omega arith in elim (cases_eq (min a b) (max a b)) [
    | inl same ↦ absurd (both_ways (conflict (edge t (min a b)) (edge t (max a b))) (subst (λ n. conflict (edge t (min a b)) (edge t n) ≡ false) same (conflict_none (edge t (min a b)))) meets)
    | inr differ ↦ omega arith
  ]);
  in_range = omega arith;
  conflict = meets;
  meets = how;
}

-- two edges that touch
pub in_touch : (t : Table) (a b : ℕ) → a < length t.ends → b < length t.ends → touch (edge t a) (edge t b) ≡ true → AreInConflict t (min a b) (max a b) Touch
in_touch t a b fits_a fits_b touching =
    let meet : touch (edge t (min a b)) (edge t (max a b)) ≡ true = elim (in_order a b) [
      | inl same ↦ subst (λ n. touch (edge t (min a b)) (edge t n) ≡ true) (sym same.1) (subst (λ n. touch (edge t n) (edge t b) ≡ true) (sym same.0) touching)
      | inr other ↦ subst (λ n. touch (edge t (min a b)) (edge t n) ≡ true) (sym other.1) (subst (λ n. touch (edge t n) (edge t a) ≡ true) (sym other.0) (touch_swap (edge t b) (edge t a) ∙ touching))
    ] in
    let conflicts = touch-conflict (edge t (min a b)) (edge t (max a b)) meet in
    in_conflict t a b Touch fits_a fits_b conflicts (conflicts, meet)

-- edges that meet, and are not apart, conflict
pub meeting_conflicts : (a b : Edge) (meeting : Meeting) → IsMeeting a b meeting → (meeting ≡ Apart → ⊥) → conflict a b ≡ true
meeting_conflicts a b Apart meets other = absurd (other refl)
meeting_conflicts a b Touch meets other = meets.0
meeting_conflicts a b Cross meets other = meets.0
