-- The most nodes that a path may have: so many are not too many, and one more is.
use Rattle.std.proofs.Common.{◌≡◌, ◌≢◌, ℕ, zero, suc, ◌+◌, ◌*◌, ◌^◌, ◌<◌, ◌≤◌, Bool, true, false, length, subst, refl, sym, arith}
use Rattle.std.specs.Prelude.{List, if◌then◌else◌, IsTrue}
use Rattle.std.proofs.lemmas.Bool.{lt-ltb, ltb-false, ltb-true}
use Rattle.loc_spec_index.specs.declared.NodeRow.{NodeRow}
use Rattle.loc_spec_index.specs.Nodes.{Side, IsShallow, is_deep, led_to}
use Rattle.loc_laws_index.proofs.Reading.{shallow-within}
use Rattle.loc_laws_judge.specs.FirstFlaw.{greatest_fitting, room_for}

module _ (k : ℕ) where
  fitting_fits : (d : ℕ) → 2 ^ greatest_fitting k d ≤ (k + 1) * (k + 1)
  fitting_fits zero = omega arith
  fitting_fits (suc d) = by (is_deep k (suc d)) refl (fitting_fits d)
    where
      by : (b : Bool) → is_deep k (suc d) ≡ b → 2 ^ greatest_fitting k d ≤ (k + 1) * (k + 1) → 2 ^ (if b then greatest_fitting k d else suc d) ≤ (k + 1) * (k + 1)
      by true is fits = fits
      by false is fits = ltb-false ((k + 1) * (k + 1)) (2 ^ suc d) is

  one_more : (d : ℕ) → (k + 1) * (k + 1) < 2 ^ suc d → (k + 1) * (k + 1) < 2 ^ suc (greatest_fitting k d)
  one_more zero past = past
  one_more (suc d) past = by (is_deep k (suc d)) refl (one_more d)
    where
      by : (b : Bool) → is_deep k (suc d) ≡ b → ((k + 1) * (k + 1) < 2 ^ suc d → (k + 1) * (k + 1) < 2 ^ suc (greatest_fitting k d)) → (k + 1) * (k + 1) < 2 ^ suc (if b then greatest_fitting k d else suc d)
      by true is earlier = earlier (ltb-true ((k + 1) * (k + 1)) (2 ^ suc d) is)
      by false is earlier = past

-- the square of k + 1 is below 2^(2 k + 1)
square_below : (k : ℕ) → (k + 1) * (k + 1) < 2 ^ suc (2 * k)
square_below zero = omega arith
square_below (suc k) =
    let below : (k + 1) * (k + 1) < 2 ^ suc (2 * k) = square_below k in
    let e : 2 * suc k ≡ suc (suc (2 * k)) = omega arith in
    subst (λ d. (suc k + 1) * (suc k + 1) < 2 ^ suc d) (sym e) (omega (arith, below))

-- so many nodes are not too many
pub room_fits : (k : ℕ) → 2 ^ room_for k ≤ (k + 1) * (k + 1)
room_fits k = fitting_fits k (2 * k)

-- one more are
pub room_past : (k : ℕ) → (k + 1) * (k + 1) < 2 ^ suc (room_for k)
room_past k = one_more k (2 * k) (square_below k)

-- where no path has more nodes than there is room, none is too long
pub shallow_within : (rows : List NodeRow) (version n k : ℕ) → ((sides : List Side) → led_to rows version n sides ≢ 0 → length sides < room_for k) → IsShallow rows version n k
shallow_within rows version n k within = shallow-within rows version n k (room_for k) (room_fits k) within

-- a path with as many turns as there is room is too long
pub deep_past : (k turns : ℕ) → turns ≡ room_for k → IsTrue (is_deep k (turns + 1))
deep_past k turns same = lt-ltb ((k + 1) * (k + 1)) (2 ^ (turns + 1)) (let e : suc (room_for k) ≡ turns + 1 = omega (arith, same) in subst (λ d. (k + 1) * (k + 1) < 2 ^ d) e (room_past k))
