-- Texts that are put on a page one after the other.
use Rattle.std.specs.{Prelude.OnOk, Io.KnownBytes.Appends}
use Rattle.std.proofs.Common.{◌≡◌, ℕ, ◌+◌, ◌<◌, ◌≤◌, List, [], ◌∷◌, ◌++◌, length, drop, get_or, Result, Ok, Err, refl, sym, ◌∙◌, ap, append_assoc, append-nil, subst, arith}
use Rattle.std.proofs.lemmas.List.{at_drop_more, drop_all}
use Rattle.loc_io.specs.{declared.sink.WriteFault.WriteFault, Causes.HasCause, Causes.Rose, Reading.WroteFront}
use Rattle.loc_io.specs.Streams.{Stream, TakesAll}
use Rattle.loc_io.proofs.Appending.{Appends-more, in_time_after, appends-none, front-of, front-behind}
use Rattle.loc_page.specs.Puts.{Fails, IsSteady, Passes, PutsText}

-- nothing was done
pub steady_none : (o : Stream) → IsSteady o o
steady_none o = record { steady = refl; in_time = λ _. refl }

-- writes of which none failed, one behind the other
pub steady_then : {o m n : Stream} → IsSteady o m → IsSteady m n → IsSteady o n
steady_then {o = o} {m = m} {n = n} p q = record { steady = q.steady ∙ p.steady; in_time = in_time_after o m n p.in_time p.steady q.in_time }

-- and then one that failed
pub fails_then : {o m n : Stream} → IsSteady o m → Fails m n → Fails o n
fails_then {o = o} {m = m} {n = n} p q = record { rose = subst (λ c. Rose c n.faults) p.steady q.rose; in_time = in_time_after o m n p.in_time p.steady q.in_time }

-- nothing passes
pub nothing_passes : {o m : Stream} {h i : List ℕ} → m ≡ o → i ≡ h → Passes [] o m h i
nothing_passes {o = o} {h = h} same kept = record { gone = []; cut = append-nil h ∙ sym kept; went = subst (λ (n : Stream). Appends o.written n.written []) (sym same) (appends-none o.written) }

-- one text passes behind another
pub passes-both : {o m n : Stream} {h i k a b : List ℕ} → Passes a o m h i → Passes b m n i k → Passes (a ++ b) o n h k
passes-both {o = o} {m = m} {n = n} {h = h} {i = i} {k = k} {a = a} {b = b} p q = record {
  gone = p.gone ++ q.gone;
  cut = sym (append_assoc h a b) ∙ (ap (λ l. l ++ b) p.cut ∙ (append_assoc p.gone i b ∙ (ap (λ l. p.gone ++ l) q.cut ∙ sym (append_assoc p.gone q.gone k))));
  went = Appends-more o.written m.written n.written p.gone q.gone p.went q.went;
}

-- a front behind what passes
pub front-passes : {o m : Stream} {h i a : List ℕ} (n : Stream) (b : List ℕ) → Passes a o m h i → WroteFront m.written n.written (i ++ b) → WroteFront o.written n.written (h ++ (a ++ b))
front-passes {o = o} {m = m} {h = h} {i = i} {a = a} n b p f =
    subst (λ l. WroteFront o.written n.written l) (sym (sym (append_assoc h a b) ∙ (ap (λ l. l ++ b) p.cut ∙ append_assoc p.gone i b)))
    (front-behind o.written m.written n.written p.gone (i ++ b) p.went f)

behind : {T E : Type 0} {o m n : Stream} {h i k a b : List ℕ} (r : Result T E) → Passes a o m h i → IsSteady o m → PutsText b m n i k r → PutsText (a ++ b) o n h k r
behind {T = T} {E = E} {o = o} {m = m} {n = n} (Ok x) p s q =
    record { ok = passes-both p q.ok; err = tt; cause = subst (λ c. HasCause {T = T} {E = E} c n.faults (Ok x)) s.steady q.cause; in_time = in_time_after o m n s.in_time s.steady q.in_time }
behind {T = T} {E = E} {o = o} {m = m} {n = n} {b = b} (Err e) p s q =
    record { ok = tt; err = front-passes n b p q.err; cause = subst (λ c. HasCause {T = T} {E = E} c n.faults (Err e)) s.steady q.cause; in_time = in_time_after o m n s.in_time s.steady q.in_time }

-- a text that was put, and one behind it
pub both : {T U E : Type 0} {o m n : Stream} {a b h i k : List ℕ} {first : Result T E} {x : T} {second : Result U E} → first ≡ Ok x → PutsText a o m h i first → PutsText b m n i k second → PutsText (a ++ b) o n h k second
both {o = o} {m = m} {a = a} {h = h} {i = i} {second = second} is p q =
    let put = subst (λ r. PutsText a o m h i r) is p in
    behind second put.ok (record { steady = put.cause.steady; in_time = put.in_time }) q

-- a text of which a write failed, with what was to come behind it
pub stop : {T U E : Type 0} {o m : Stream} {a h i : List ℕ} {first : Result T E} {second : Result U E} {e d : E} (b : List ℕ) → first ≡ Err e → second ≡ Err d → PutsText a o m h i first → PutsText (a ++ b) o m h i second
stop {o = o} {m = m} {a = a} {h = h} {i = i} b is fails p =
    let put = subst (λ r. PutsText a o m h i r) is p in
    subst (λ r. PutsText (a ++ b) o m h i r) (sym fails) (record {
      ok = tt;
      err = subst (λ l. WroteFront o.written m.written l) (append_assoc h a b) (front-of o.written m.written (h ++ a) b put.err);
      cause = record { later = put.cause.later; failed = put.cause.failed; steady = tt };
      in_time = put.in_time;
    })

-- nothing is put
nothing : {T E : Type 0} (o : Stream) (h : List ℕ) (x : T) → PutsText {E = E} [] o o h h (Ok x)
nothing o h x = record { ok = nothing_passes refl refl; err = tt; cause = record { later = omega arith; failed = tt; steady = refl }; in_time = λ _. refl }

-- What puts this text from here on puts the whole from the start on. It is what a loop keeps: the text is what is left.
abbrev pub Goes : List ℕ → List ℕ → Stream → Stream → List ℕ → List ℕ → Type 0
Goes whole rest o m h i = (n : Stream) (k : List ℕ) (r : Result (Unit {0}) WriteFault) → PutsText rest m n i k r → PutsText whole o n h k r

pub goes_more : {m n : Stream} {i k : List ℕ} {first : Result (Unit {0}) WriteFault} {x : Unit {0}} (whole a b : List ℕ) (o : Stream) (h : List ℕ) → first ≡ Ok x
    → Goes whole (a ++ b) o m h i → PutsText a m n i k first → Goes whole b o n h k
goes_more whole a b o h is goes p = λ n' k' r q. goes n' k' r (both is p q)

-- one element more of a list, by a function of what is left of it
pub goes_next : {X : Type 0} (F : List X → List ℕ) (xs : List X) (i : ℕ) (d : X) (a : List ℕ) (whole : List ℕ) (o m : Stream) (h k : List ℕ) → i < length xs
    → F (get_or xs i d ∷ drop (i + 1) xs) ≡ a ++ F (drop (i + 1) xs) → Goes whole (F (drop i xs)) o m h k → Goes whole (a ++ F (drop (i + 1) xs)) o m h k
goes_next F xs i d a whole o m h k less is goes = subst (λ l. Goes whole l o m h k) (at_drop_more F xs i d less ∙ is) goes

-- at the end nothing is left
pub goes_end : {X : Type 0} (F : List X → List ℕ) (xs : List X) (i : ℕ) (whole : List ℕ) (o m : Stream) (h k : List ℕ) (x : Unit {0}) → length xs ≤ i → F [] ≡ []
    → Goes whole (F (drop i xs)) o m h k → PutsText {T = Unit {0}} {E = WriteFault} whole o m h k (Ok x)
goes_end F xs i whole o m h k x all none goes = goes m k (Ok x) (subst (λ l. PutsText {T = Unit {0}} {E = WriteFault} l m m k k (Ok x)) (sym (ap F (drop_all i xs all) ∙ none)) (nothing m k x))

-- a text that passed by an empty page whole
all_gone : (text : List ℕ) (o m : Stream) (h k : List ℕ) → h ≡ [] → k ≡ [] → Passes text o m h k → Appends o.written m.written text
all_gone text o m h k none empty p =
    subst (λ l. Appends o.written m.written l) (sym (ap (λ l. l ++ text) (sym none) ∙ (p.cut ∙ (ap (λ l. p.gone ++ l) empty ∙ append-nil p.gone)))) p.went

page_end : {T E : Type 0} (text : List ℕ) (o m : Stream) (h k : List ℕ) (r : Result T E) → h ≡ [] → OnOk r (k ≡ []) → PutsText text o m h k r → TakesAll text o m r
page_end text o m h k (Ok x) none empty p = record { ok = all_gone text o m h k none empty p.ok; err = tt; cause = p.cause; in_time = p.in_time }
page_end text o m h k (Err e) none empty p = record { ok = tt; err = subst (λ l. WroteFront o.written m.written (l ++ text)) none p.err; cause = p.cause; in_time = p.in_time }

-- a text on an empty page of which a write failed
pub cut_page : {T E : Type 0} {o m : Stream} {h i text : List ℕ} {first second : Result T E} {e d : E} → first ≡ Err e → second ≡ Err d → h ≡ [] → PutsText text o m h i first → TakesAll text o m second
cut_page {o = o} {m = m} {h = h} {i = i} {text = text} {e = e} {d = d} is fails none p =
    let cut = page_end text o m h i (Err e) none tt (subst (λ r. PutsText text o m h i r) is p) in
    subst (λ r. TakesAll text o m r) (sym fails) (record { ok = tt; err = cut.err; cause = record { later = cut.cause.later; failed = cut.cause.failed; steady = tt }; in_time = cut.in_time })

-- a text on an empty page that was flushed
pub whole_page : {T U E : Type 0} {o m n : Stream} {h i k text : List ℕ} {first : Result T E} {x : T} {second : Result U E} → first ≡ Ok x → h ≡ []
    → PutsText text o m h i first → PutsText [] m n i k second → OnOk second (k ≡ []) → TakesAll text o n second
whole_page {o = o} {n = n} {h = h} {k = k} {text = text} {second = second} is none p q empty =
    page_end text o n h k second none empty (subst (λ l. PutsText l o n h k second) (append-nil text) (both is p q))

-- the same text, written otherwise
pub put_same : {T E : Type 0} {a b : List ℕ} {o m : Stream} {h k : List ℕ} {r : Result T E} → a ≡ b → PutsText a o m h k r → PutsText b o m h k r
put_same {o = o} {m = m} {h = h} {k = k} {r = r} is p = subst (λ l. PutsText l o m h k r) is p
