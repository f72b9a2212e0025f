-- Pieces that are written one after the other.
use Rattle.std.proofs.Common.{◌≡◌, ℕ, List, [], ◌++◌, take, drop, Option, Some, None, Bool, sym, subst, ◌∙◌, ap, append_assoc, append-nil, take-append-drop}
use Rattle.std.specs.{Prelude.nat_lt, Io.KnownBytes.Appends}
use Rattle.loc_io.specs.{Causes.CountsLate, Reading.WroteFront, Streams.InTime, Streams.Stream}

-- two pieces that were appended one after the other
pub Appends-more : (a b c : Option (List ℕ)) (front more : List ℕ) → Appends a b front → Appends b c more → Appends a c (front ++ more)
Appends-more None b c front more p q = tt
Appends-more (Some x) None c front more p q = absurd p
Appends-more (Some x) (Some y) None front more p q = absurd q
Appends-more (Some x) (Some y) (Some z) front more p q = q ∙ ap (λ (l : List ℕ). l ++ more) p ∙ append_assoc x front more

-- nothing was appended
pub appends-none : (o : Option (List ℕ)) → Appends o o []
appends-none None = tt
appends-none (Some x) = sym (append-nil x)

-- a front of a text is one of a longer text
pub front-of : (o m : Option (List ℕ)) (a b : List ℕ) → WroteFront o m a → WroteFront o m (a ++ b)
front-of o m a b (front, back, is, k) = (front, back ++ b, ap (λ l. l ++ b) is ∙ append_assoc front back b, k)

-- a text, and a front of the one behind it
pub front-behind : (o m n : Option (List ℕ)) (a b : List ℕ) → Appends o m a → WroteFront m n b → WroteFront o n (a ++ b)
front-behind o m n a b h (front, back, is, k) = (a ++ front, back, ap (λ l. a ++ l) is ∙ sym (append_assoc a front back), Appends-more o m n a front h k)

-- a loop over a piece: what was written, and what is left
pub record Wrote (old new : Option (List ℕ)) (piece rest : List ℕ) : Type 0 where
  pub front : List ℕ
  pub split : piece ≡ front ++ rest
  pub bytes : Appends old new front

-- n bytes more are written
pub wrote-more : (a b c : Option (List ℕ)) (piece rest : List ℕ) (n : ℕ) → Wrote a b piece rest → Appends b c (take n rest) → Wrote a c piece (drop n rest)
wrote-more a b c piece rest n so_far more = record {
  front = so_far.front ++ take n rest;
  split = so_far.split ∙ ap (λ (l : List ℕ). so_far.front ++ l) (sym (take-append-drop n rest)) ∙ sym (append_assoc so_far.front (take n rest) (drop n rest));
  bytes = Appends-more a b c so_far.front (take n rest) so_far.bytes more;
}

-- a write where none has failed is in time
pub in_time_by : (old new : Stream) → CountsLate (nat_lt 0 old.faults) old.late new.late → InTime old new
in_time_by old new counted none = subst (λ (b : Bool). CountsLate b old.late new.late) (ap (λ (k : ℕ). nat_lt 0 k) none) counted

-- and what is in time behind what was in time and did not fail
pub in_time_after : (a b c : Stream) → InTime a b → b.faults ≡ a.faults → InTime b c → InTime a c
in_time_after a b c first same second none = second (same ∙ none) ∙ first none
