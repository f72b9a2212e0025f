-- What the counts tell of one call: a call that failed was counted, and one that succeeded was not.
use Rattle.std.proofs.Common.{◌≡◌, ◌==◌, ◌+◌, ◌^◌, ◌-◌, ◌≤◌, ℕ, Bool, true, false, List, Ok, Err, OnOk, OnErr, min, sym, subst, ap, ◌∙◌, arith}
use Rattle.std.specs.{Prelude.Result, List.list_any, Result.is_err}
use mathlib.Core.Bool.{true≢false}
use Rattle.loc_io.specs.{Causes.FailsAsTold, Causes.HasCause, Causes.Rose, declared.failed.FaultCount.FaultCount}

module _ {T E : Type 0} where
  -- the count rose behind the note of the call
  pub failed_once : (before mid : FaultCount) (now : ℕ) (e : E) → mid ≡ before → Rose mid.number now → mid.number ≤ now → HasCause {T = T} before.number now (Err e)
  failed_once before mid now e same rose later = subst (λ (f : FaultCount). HasCause {T = T} f.number now (Err e)) same (record { later = later; failed = rose; steady = tt })

  -- the count stayed
  pub none_failed : (before now : FaultCount) (v : T) → now ≡ before → HasCause {E = E} before.number now.number (Ok v)
  none_failed before now v same =
      let steady : now.number ≡ before.number = ap (λ (f : FaultCount). f.number) same in
      record { later = omega (arith, steady); failed = tt; steady = steady }

  -- a call whose number is not listed may succeed
  pub told_none : (numbers : List ℕ) (before now : ℕ) (v : T) (told : Bool) → now ≡ min (before + 1) (2 ^ 64 - 1) → told ≡ list_any (λ number. number == now) numbers → told ≡ false → FailsAsTold {E = E} numbers before now (Ok v)
  told_none numbers before now v told counted listed off = record { counted = counted; fails = λ t. absurd (true≢false (sym t ∙ sym listed ∙ off)) }

  -- what a call that failed, or did not, gives
  pub at_err : (r : Result T E) (P : Type 0) → true ≡ is_err r → OnErr r P → P
  at_err (Ok v) P is h = absurd (true≢false is)
  at_err (Err e) P is h = h

  pub at_ok : (r : Result T E) (P : Type 0) → false ≡ is_err r → OnOk r P → P
  at_ok (Ok v) P is h = h
  at_ok (Err e) P is h = absurd (true≢false (sym is))
