-- Where a short number lies on the grid of a scale.
use Rattle.std.proofs.Common.{◌≡◌, ◌≢◌, ℕ, ◌+◌, ◌-◌, ◌*◌, ◌/◌, ◌%◌, ◌^◌, ◌<◌, ◌≤◌, List, length, true, false, sym, ◌∙◌, ap, arith, mul-one, mul_assoc, ne_eqb}
use Rattle.std.proofs.Math.Nat.{eq_of_mul-eq-mul_right, mul-mod_left}
use Rattle.std.proofs.lemmas.Nat.{div-add-mod', pow-add}
use Rattle.loc_spec_text.specs.Number.{fraction_digits, is_on_grid, lowered, magnitude, raised, scaled, significand, unit}
use Rattle.loc_spec_text.proofs.NumberLaws.{on_grid, ten_pos}

module _ (scale d f : ℕ) (text : List ℕ) (sig : d ≡ significand text) (places : f ≡ length (fraction_digits text)) (raises : raised text ≡ 0) (lowers : lowered text ≡ 0) where
  -- no more places behind the point than the grid has
  pub short_fine : f ≤ scale → (is_on_grid scale text ≡ true) × (magnitude scale text ≡ d * 10 ^ (scale - f))
  short_fine h = on_grid scale text d 0 (scale - f) (sym sig ∙ sym (mul-one d)) (omega (arith, h, places, raises, lowers))

  -- more, and those that the grid has not are zeros
  pub short_coarse : scale < f → d % 10 ^ (f - scale) ≡ 0 → (is_on_grid scale text ≡ true) × (magnitude scale text ≡ d / 10 ^ (f - scale))
  short_coarse h z = let p = on_grid scale text (d / 10 ^ (f - scale)) (f - scale) 0 (sym sig ∙ omega (arith, div-add-mod' d (10 ^ (f - scale)), z)) (omega (arith, h, places, raises, lowers)) in
      (p.0, p.1 ∙ mul-one (d / 10 ^ (f - scale)))

  power : scale < f → 10 ^ (lowered text + length (fraction_digits text)) ≡ 10 ^ (f - scale) * 10 ^ (raised text + scale)
  power h = ap (λ n. 10 ^ n) (let e : lowered text + length (fraction_digits text) ≡ (f - scale) + (raised text + scale) = omega (arith, h, places, raises, lowers) in e) ∙ pow-add 10 (f - scale) (raised text + scale)

  -- they are not
  pub short_off : scale < f → d % 10 ^ (f - scale) ≢ 0 → is_on_grid scale text ≡ false
  unfolding scaled unit
  short_off h z = ne_eqb _ 0 (λ e.
      let n : ℕ = significand text * 10 ^ (raised text + scale) in
      let u : ℕ = 10 ^ (lowered text + length (fraction_digits text)) in
      let whole : n ≡ (n / u) * u = omega (arith, div-add-mod' n u, e) in
      let same : significand text ≡ (n / u) * 10 ^ (f - scale) = eq_of_mul-eq-mul_right (10 ^ (raised text + scale)) (ten_pos (raised text + scale)) (significand text) ((n / u) * 10 ^ (f - scale))
      (whole ∙ ap (λ w. (n / u) * w) (power h) ∙ sym (mul_assoc (n / u) (10 ^ (f - scale)) (10 ^ (raised text + scale)))) in
      z (ap (λ w. w % 10 ^ (f - scale)) (sig ∙ same) ∙ mul-mod_left (n / u) (10 ^ (f - scale))))
