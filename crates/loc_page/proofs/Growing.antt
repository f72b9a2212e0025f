-- Bytes that come into a file one piece after the other.
use Rattle.std.proofs.Common.{◌≡◌, ℕ, ◌≤◌, true, List, [], ◌++◌, take, drop, Result, Ok, Err, refl, sym, ◌∙◌, ap, append_assoc, append-nil, subst, take-append-drop}
use Rattle.loc_io.specs.{declared.failed.Failed.Failed, declared.sink.WriteFault.WriteFault, Causes.Rose}
use Rattle.loc_io.specs.Meaning.{Meaning, KeepsReading, NoneLate, Writes, bytes_of}
use Rattle.loc_io.proofs.Appending.{Appends-more, appends-none, front-of, front-behind}
use Rattle.loc_io.proofs.Reading.{in_time_by}
use Rattle.loc_page.specs.Making.{Grew, Broke, PassesBytes, PutsBytes}

-- ---- what was told

pub reading-on : {a b c : Meaning} → KeepsReading a b → KeepsReading b c → KeepsReading a c
reading-on h k = record { is_open = k.is_open ∙ h.is_open; rest = k.rest ∙ h.rest; entries = k.entries ∙ h.entries; read_faults = k.read_faults ∙ h.read_faults }

pub late-on : (a b c : Meaning) → NoneLate a b → KeepsReading a b → b.write_faults ≡ a.write_faults → NoneLate b c → NoneLate a c
late-on a b c in_time reading steady then no_read no_write = then (reading.read_faults ∙ no_read) (steady ∙ no_write) ∙ in_time no_read no_write

-- ---- pieces

-- nothing was done
pub grew-none : {o : Meaning} → o.is_making ≡ true → Grew [] o o
grew-none {o} making = record {
  reading = record { is_open = refl; rest = refl; entries = refl; read_faults = refl };
  is_making = making;
  made = refl;
  file = λ name is. appends-none (bytes_of (o.told name));
  others = λ name differ. refl;
  steady = refl;
  in_time = λ r w. refl;
}

-- one piece, and another behind it
pub grew-then : {o m n : Meaning} {a b : List ℕ} → Grew a o m → Grew b m n → Grew (a ++ b) o n
grew-then {o} {m} {n} {a} {b} p q = record {
  reading = reading-on p.reading q.reading;
  is_making = q.is_making;
  made = q.made ∙ p.made;
  file = λ name is. Appends-more (bytes_of (o.told name)) (bytes_of (m.told name)) (bytes_of (n.told name)) a b (p.file name is) (q.file name (p.made ∙ is));
  others = λ name differ. q.others name (λ is. differ (sym p.made ∙ is)) ∙ p.others name differ;
  steady = q.steady ∙ p.steady;
  in_time = late-on o m n p.in_time p.reading p.steady q.in_time;
}

-- one piece, and another of which a write failed
pub grew-broke : {o m n : Meaning} {a b : List ℕ} → Grew a o m → Broke b m n → Broke (a ++ b) o n
grew-broke {o} {m} {n} {a} {b} p q = record {
  reading = reading-on p.reading q.reading;
  file = λ name is. front-behind (bytes_of (o.told name)) (bytes_of (m.told name)) (bytes_of (n.told name)) a b (p.file name is) (q.file name (p.made ∙ is));
  others = λ name differ. q.others name (λ is. differ (sym p.made ∙ is)) ∙ p.others name differ;
  later = subst (λ k. k ≤ n.write_faults) p.steady q.later;
  rose = subst (λ k. Rose k n.write_faults) p.steady q.rose;
  in_time = late-on o m n p.in_time p.reading p.steady q.in_time;
}

-- with what was to come behind it
pub broke-more : {o m : Meaning} {a : List ℕ} (b : List ℕ) → Broke a o m → Broke (a ++ b) o m
broke-more {o} {m} {a} b p = record {
  reading = p.reading;
  file = λ name is. front-of (bytes_of (o.told name)) (bytes_of (m.told name)) a b (p.file name is);
  others = p.others;
  later = p.later;
  rose = p.rose;
  in_time = p.in_time;
}

-- one call of the shelf
pub grew-one : {m n : Meaning} {piece : List ℕ} {k : ℕ} → Writes {E = Failed} piece m n (Ok k) → Grew (take k piece) m n
grew-one {m} {n} w = record { reading = w.reading; is_making = w.made.0; made = w.made.1; file = w.file; others = w.others; steady = w.cause.steady; in_time = in_time_by m n w.late }

-- the writing of a whole text under way: what was written, and what is left
pub record Wrote (text rest : List ℕ) (old new : Meaning) : Type 0 where
  pub front : List ℕ
  pub split : text ≡ front ++ rest
  pub grew : Grew front old new

pub wrote-more : {o m n : Meaning} {text rest : List ℕ} (k : ℕ) → Wrote text rest o m → Writes {E = Failed} rest m n (Ok k) → Wrote text (drop k rest) o n
wrote-more {text} {rest} k u w = record {
  front = u.front ++ take k rest;
  split = u.split ∙ ap (λ (l : List ℕ). u.front ++ l) (sym (take-append-drop k rest)) ∙ sym (append_assoc u.front (take k rest) (drop k rest));
  grew = grew-then u.grew (grew-one w);
}

-- ---- texts on a page

-- a text passes behind another
pub passes-both : {o m n : Meaning} {h i k a b : List ℕ} → PassesBytes a o m h i → PassesBytes b m n i k → PassesBytes (a ++ b) o n h k
passes-both {h} {i} {k} {a} {b} p q = record {
  gone = p.gone ++ q.gone;
  cut = sym (append_assoc h a b) ∙ (ap (λ l. l ++ b) p.cut ∙ (append_assoc p.gone i b ∙ (ap (λ l. p.gone ++ l) q.cut ∙ sym (append_assoc p.gone q.gone k))));
  grew = grew-then p.grew q.grew;
}

-- a text is only held
pub passes-held : {o : Meaning} {h k a : List ℕ} → o.is_making ≡ true → k ≡ h ++ a → PassesBytes a o o h k
passes-held making is = record { gone = []; cut = sym is; grew = grew-none making }

-- of a text behind what passed a write failed
passes-broke : {o m n : Meaning} {h i a : List ℕ} (b : List ℕ) → PassesBytes a o m h i → Broke (i ++ b) m n → Broke (h ++ (a ++ b)) o n
passes-broke {o} {m} {n} {h} {i} {a} b p q =
    subst (λ l. Broke l o n) (sym (sym (append_assoc h a b) ∙ (ap (λ l. l ++ b) p.cut ∙ append_assoc p.gone i b))) (grew-broke p.grew q)

behind : {T E : Type 0} {o m n : Meaning} {h i k a b : List ℕ} (r : Result T E) → PassesBytes a o m h i → PutsBytes b m n i k r → PutsBytes (a ++ b) o n h k r
behind (Ok x) p q = record { ok = passes-both p q.ok; err = tt }
behind (Err e) p q = record { ok = tt; err = passes-broke _ p q.err }

-- a text that was put, and one behind it
pub both : {T U E : Type 0} {o m n : Meaning} {a b h i k : List ℕ} {first : Result T E} {x : T} {second : Result U E} → first ≡ Ok x → PutsBytes a o m h i first → PutsBytes b m n i k second → PutsBytes (a ++ b) o n h k second
both {o} {m} {a} {h} {i} {second} is p q = let put = subst (λ r. PutsBytes a o m h i r) is p in behind second put.ok q

-- a text of which a write failed, with what was to come behind it
pub stop : {T U E : Type 0} {o m : Meaning} {a h i : List ℕ} {first : Result T E} {second : Result U E} {e d : E} (b : List ℕ) → first ≡ Err e → second ≡ Err d → PutsBytes a o m h i first → PutsBytes (a ++ b) o m h i second
stop {o} {m} {a} {h} {i} b is fails p =
    let put = subst (λ r. PutsBytes a o m h i r) is p in
    subst (λ r. PutsBytes (a ++ b) o m h i r) (sym fails) (record { ok = tt; err = subst (λ l. Broke l o m) (append_assoc h a b) (broke-more b put.err) })

-- What puts this text from here on puts the whole from the start on. It is what a loop keeps: the text is what is left.
abbrev pub Goes : List ℕ → List ℕ → Meaning → Meaning → List ℕ → List ℕ → Type 0
Goes whole rest o m h i = (n : Meaning) (k : List ℕ) (r : Result (Unit {0}) WriteFault) → PutsBytes rest m n i k r → PutsBytes whole o n h k r

-- a piece of what is left was put
pub goes-more : {m n : Meaning} {i k rest : List ℕ} {first : Result (Unit {0}) WriteFault} {x : Unit {0}} (whole a b : List ℕ) (o : Meaning) (h : List ℕ) → first ≡ Ok x → rest ≡ a ++ b
    → Goes whole rest o m h i → PutsBytes a m n i k first → Goes whole b o n h k
goes-more {m} {n} {i} {k} whole a b o h is cut goes p = λ n' k' r q. goes n' k' r (subst (λ l. PutsBytes l m n' i k' r) (sym cut) (both is p q))

-- of a piece of what is left a write failed
pub goes-stop : {m n : Meaning} {i k rest : List ℕ} {first second : Result (Unit {0}) WriteFault} {e d : WriteFault} (whole a b : List ℕ) (o : Meaning) (h : List ℕ) → first ≡ Err e → second ≡ Err d → rest ≡ a ++ b
    → Goes whole rest o m h i → PutsBytes a m n i k first → PutsBytes whole o n h k second
goes-stop {m} {n} {i} {k} {second} whole a b o h is fails cut goes p = goes n k second (subst (λ l. PutsBytes l m n i k second) (sym cut) (stop b is fails p))

-- at the end nothing is left
pub goes-end : {m : Meaning} {i rest : List ℕ} (whole : List ℕ) (o : Meaning) (h : List ℕ) (x : Unit {0}) → m.is_making ≡ true → rest ≡ [] → Goes whole rest o m h i → PutsBytes {E = WriteFault} whole o m h i (Ok x)
goes-end {m} {i} whole o h x making none goes =
    goes m i (Ok x) (record { ok = passes-held making (sym (ap (λ l. i ++ l) none ∙ append-nil i)); err = tt })

-- the same text, written otherwise
pub put-same : {T E : Type 0} {a b : List ℕ} {o m : Meaning} {h k : List ℕ} {r : Result T E} → a ≡ b → PutsBytes a o m h k r → PutsBytes b o m h k r
put-same {o} {m} {h} {k} {r} is p = subst (λ l. PutsBytes l o m h k r) is p

-- a text that was put on an empty page, and then written
pub page-whole : {T U E : Type 0} {o m n : Meaning} {text h i k : List ℕ} {first : Result T E} {second : Result U E} {x : T} {y : U} → first ≡ Ok x → second ≡ Ok y → h ≡ [] → k ≡ [] → PutsBytes text o m h i first → PutsBytes [] m n i k second → Grew text o n
page-whole {T} {U} {E} {o} {m} {n} {text} {h} {i} {k} {first} {second} {x} {y} is also none empty p q =
    let put = passes-both (subst (λ r. PutsBytes text o m h i r) is p).ok (subst (λ r. PutsBytes [] m n i k r) also q).ok in
    subst (λ l. Grew l o n) (sym (ap (λ l. put.gone ++ l) empty ∙ append-nil put.gone) ∙ (sym put.cut ∙ (ap (λ l. l ++ (text ++ [])) none ∙ append-nil text))) put.grew

-- and of which a write failed when the rest of it was written
pub page-cut : {T U E : Type 0} {o m n : Meaning} {text h i k : List ℕ} {first : Result T E} {second : Result U E} {x : T} {e : E} → first ≡ Ok x → second ≡ Err e → h ≡ [] → PutsBytes text o m h i first → PutsBytes [] m n i k second → Broke text o n
page-cut {T} {U} {E} {o} {m} {n} {text} {h} {i} {k} {first} {second} {x} {e} is fails none p q =
    subst (λ l. Broke l o n) (ap (λ l. l ++ (text ++ [])) none ∙ append-nil text)
    (passes-broke [] (subst (λ r. PutsBytes text o m h i r) is p).ok (subst (λ r. PutsBytes [] m n i k r) fails q).err)
