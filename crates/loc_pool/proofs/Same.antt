-- The test of two links is their equality.
use Rattle.std.proofs.Common.{◌≡◌, Bool, true, false, ◌==◌, refl, sym, ap, ◌∙◌, eqb→eq, T, Some}
use Rattle.std.specs.Prelude.{◌≢◌}
use lib.Dec.{eqb_refl}
use Rattle.loc_pool.specs.{declared.Link.Link, Same.same}

true_of : (b : Bool) → T b → b ≡ true
true_of true t = refl
true_of false t = absurd t

of_true : (b : Bool) → b ≡ true → T b
of_true true e = tt
of_true false e = cc

pub same-refl : (l : Link) → same l l ≡ true
unfolding same
same-refl l = true_of (l.number == l.number) (eqb_refl l.number)

pub same-eq : (l m : Link) → same l m ≡ true → l ≡ m
unfolding same
same-eq l m e = λ i. record { number = eqb→eq l.number m.number (of_true (l.number == m.number) e) i }

pub not-same : (l m : Link) → l ≢ m → same l m ≡ false
not-same l m d = (elim (same l m) as (λ b. same l m ≡ b → b ≡ false) [ true ↦ λ e. absurd (d (same-eq l m e)) | false ↦ λ e. refl ]) refl

pub apart-same : (l m : Link) → same l m ≡ false → l ≢ m
apart-same l m e q = let r : true ≡ false = sym (same-refl m) ∙ ap (λ k. same k m) (sym q) ∙ e in cc

-- a link is this one or another
pub by-link : (P : Type 0) (l m : Link) → (l ≡ m → P) → (l ≢ m → P) → P
by-link P l m here other = (elim (same l m) as (λ b. same l m ≡ b → P) [ true ↦ λ e. here (same-eq l m e) | false ↦ λ e. other (apart-same l m e) ]) refl

pub some-link : (l m : Link) → Some l ≡ Some m → l ≡ m
some-link l m e = cc
