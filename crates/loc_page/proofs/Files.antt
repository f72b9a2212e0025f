-- The making of a whole file: it was begun, its text came into it, and it was ended.
use Rattle.std.proofs.Common.{◌≡◌, ◌≢◌, ◌⊎◌, ℕ, ◌≤◌, arith, List, [], ◌++◌, Option, Some, None, Result, Ok, Err, sym, ◌∙◌, ap, append-nil, subst, inl, inr}
use Rattle.std.specs.Io.KnownBytes.{Appends}
use Rattle.loc_io.specs.{declared.failed.Failed.Failed, Causes.Rose, Reading.WroteFront}
use Rattle.loc_io.specs.Meaning.{Meaning, Told, untold, absent, holds, bytes_of, Creates, CreatesFile, Finishes}
use Rattle.loc_io.proofs.Reading.{in_time_by}
use Rattle.loc_page.specs.Making.{Grew, Broke}
use Rattle.loc_page.specs.Writing.{IsToldAtMost, IsWhole, IsFront, WritesFile}
use Rattle.loc_page.proofs.Growing.{reading-on, late-on}

none-some : {x : List ℕ} → None ≡ Some x → ⊥
none-some is = cc

same-name : (a b : List ℕ) → Some a ≡ Some b → b ≡ a
same-name a b is = cc

other-made : (made : Option (List ℕ)) (name other : List ℕ) → made ≡ Some name → other ≢ name → made ≢ Some other
other-made made name other is differ also = differ (same-name name other (sym is ∙ also))

none-made : (made : Option (List ℕ)) (other : List ℕ) → made ≡ None → made ≢ Some other
none-made made other is also = none-some (sym is ∙ also)

-- ---- what is told of the files, where a file is begun and its bytes have come

others-told : (name : List ℕ) (o m n : Meaning) → CreatesFile name o m → ((other : List ℕ) → m.made ≢ Some other → n.told other ≡ m.told other) → (other : List ℕ) → other ≢ name → IsToldAtMost (o.told other) (n.told other)
others-told name o m n (inl told) kept other differ = inl (kept other (other-made m.made name other told.0 differ) ∙ told.2 other differ)
others-told name o m n (inr none) kept other differ = inr (kept other (none-made m.made other none.0) ∙ none.1 other)

front-told : (text : List ℕ) (old new : Told) → old ≡ holds [] → WroteFront (bytes_of old) (bytes_of new) text → IsFront text new
front-told text old new is front = by new (subst (λ t. WroteFront (bytes_of t) (bytes_of new) text) is front)
  where
    by : (new : Told) → WroteFront (bytes_of (holds [])) (bytes_of new) text → IsFront text new
    by untold f = tt
    by absent (front, back, cut, grown) = absurd grown
    by (holds bytes) (front, back, cut, grown) = (back, cut ∙ ap (λ l. l ++ back) (sym grown))

whole-told : (text : List ℕ) (old new : Told) → old ≡ holds [] → Appends (bytes_of old) (bytes_of new) text → IsWhole text new
whole-told text old new is grown = by new (subst (λ t. Appends (bytes_of t) (bytes_of new) text) is grown)
  where
    by : (new : Told) → Appends (bytes_of (holds [])) (bytes_of new) text → IsWhole text new
    by untold g = tt
    by absent g = absurd g
    by (holds bytes) g = g

file-front : (name text : List ℕ) (o m n : Meaning) → CreatesFile name o m → Broke text m n → IsFront text (n.told name)
file-front name text o m n (inl told) b = front-told text (m.told name) (n.told name) told.1 (b.file name told.0)
file-front name text o m n (inr none) b = subst (λ t. IsFront text t) (sym (b.others name (none-made m.made name none.0) ∙ none.1 name)) tt

file-whole : (name text : List ℕ) (o m n : Meaning) → CreatesFile name o m → Grew text m n → IsWhole text (n.told name)
file-whole name text o m n (inl told) g = whole-told text (m.told name) (n.told name) told.1 (g.file name told.0)
file-whole name text o m n (inr none) g = subst (λ t. IsWhole text t) (sym (g.others name (none-made m.made name none.0) ∙ none.1 name)) tt

whole-front : (text : List ℕ) (t : Told) → IsWhole text t → IsFront text t
whole-front text untold w = tt
whole-front text absent w = absurd w
whole-front text (holds bytes) w = ([], sym (append-nil bytes ∙ w))

at-most : (text : List ℕ) (old new : Told) → IsToldAtMost old new → (new ≡ old) ⊎ IsFront text new
at-most text old new (inl same) = inl same
at-most text old new (inr none) = inr (subst (λ t. IsFront text t) (sym none) tt)

-- ---- the file

-- it was not begun
pub not-begun : {T E : Type 0} {name : List ℕ} {o m : Meaning} {e : Failed} {result : Result T E} {d : E} (text : List ℕ) → result ≡ Err d → Creates {T = Unit {0}} name o m (Err e) → WritesFile name text o m result
not-begun {name} {o} {m} text fails c = subst (λ r. WritesFile name text o m r) (sym fails) (record {
  reading = c.reading;
  others = λ other differ. c.refused other;
  file = at-most text (o.told name) (m.told name) (c.refused name);
  over = tt;
  cause = record { later = c.cause.later; failed = c.cause.failed; steady = tt };
  in_time = in_time_by o m c.late;
})

-- it was begun, and a write failed
pub broken : {T E : Type 0} {name text : List ℕ} {o m n : Meaning} {x : Unit {0}} {result : Result T E} {d : E} → result ≡ Err d → Creates {E = Failed} name o m (Ok x) → Broke text m n → WritesFile name text o n result
broken {name} {text} {o} {m} {n} {result} fails c b = subst (λ r. WritesFile name text o n r) (sym fails) (record {
  reading = reading-on c.reading b.reading;
  others = others-told name o m n c.file.1 b.others;
  file = inr (file-front name text o m n c.file.1 b);
  over = tt;
  cause = record {
    later = subst (λ k. k ≤ n.write_faults) c.cause.steady b.later;
    failed = subst (λ k. Rose k n.write_faults) c.cause.steady b.rose;
    steady = tt;
  };
  in_time = late-on o m n (in_time_by o m c.late) c.reading c.cause.steady b.in_time;
})

-- it was begun, its text came, and it was ended, which failed
pub not-over : {T E : Type 0} {name text : List ℕ} {o m n p : Meaning} {x : Unit {0}} {e : Failed} {result : Result T E} {d : E} → result ≡ Err d → Creates {E = Failed} name o m (Ok x) → Grew text m n → Finishes {T = Unit {0}} n p (Err e)
    → WritesFile name text o p result
not-over {name} {text} {o} {m} {n} {p} fails c g f = subst (λ r. WritesFile name text o p r) (sym fails) (record {
  reading = reading-on (reading-on c.reading g.reading) f.reading;
  others = others-told name o m p c.file.1 (λ other differ. f.files other ∙ g.others other differ);
  file = inr (subst (λ t. IsFront text t) (sym (f.files name)) (whole-front text (n.told name) (file-whole name text o m n c.file.1 g)));
  over = tt;
  cause = record {
    later = subst (λ k. k ≤ p.write_faults) (g.steady ∙ c.cause.steady) f.cause.later;
    failed = subst (λ k. Rose k p.write_faults) (g.steady ∙ c.cause.steady) f.cause.failed;
    steady = tt;
  };
  in_time = late-on o n p (late-on o m n (in_time_by o m c.late) c.reading c.cause.steady g.in_time) (reading-on c.reading g.reading) (g.steady ∙ c.cause.steady) (in_time_by n p f.late);
})

-- it was begun, its text came, and it was ended
pub over : {T E : Type 0} {name text : List ℕ} {o m n p : Meaning} {x y : Unit {0}} (z : T) → Creates {E = Failed} name o m (Ok x) → Grew text m n → Finishes {E = Failed} n p (Ok y) → WritesFile {E = E} name text o p (Ok z)
over {name} {text} {o} {m} {n} {p} z c g f = record {
  reading = reading-on (reading-on c.reading g.reading) f.reading;
  others = others-told name o m p c.file.1 (λ other differ. f.files other ∙ g.others other differ);
  file = subst (λ t. IsWhole text t) (sym (f.files name)) (file-whole name text o m n c.file.1 g);
  over = f.over;
  cause = record { later = (let e = f.cause.steady ∙ (g.steady ∙ c.cause.steady) in omega (arith, e)); failed = tt; steady = f.cause.steady ∙ (g.steady ∙ c.cause.steady) };
  in_time = late-on o n p (late-on o m n (in_time_by o m c.late) c.reading c.cause.steady g.in_time) (reading-on c.reading g.reading) (g.steady ∙ c.cause.steady) (in_time_by n p f.late);
}
