-- Lines that are answered one after the other.
use Rattle.std.proofs.Common.{◌≡◌, ℕ, ◌+◌, ◌<◌, ◌≤◌, List, [], ◌∷◌, ◌++◌, length, drop, get_or, map, Option, Some, None, Result, Ok, Err, refl, sym, ◌∙◌, ap, subst, arith, append_assoc, append-nil, inl, inr, true, false}
use Rattle.std.specs.Prelude.{option_map, ◌==◌}
use Rattle.std.specs.Io.KnownBytes.{Appends}
use Rattle.std.proofs.{lemmas.List.at_drop_more, lemmas.List.drop_all, lemmas.Bool.eqb-true}
use Rattle.std.proofs.lemmas.Grind.{flat_map-append}
use Rattle.loc_spec_plane.specs.Points.{Point}
use Rattle.loc_io.specs.{Causes.Rose, Reading.WroteFront, Streams.InTime, Streams.Stream}
use Rattle.loc_io.proofs.Appending.{Appends-more, in_time_after, front-behind, front-of}
use Rattle.loc_spec_text.specs.{Answered.Answered, Answered.answered, Answered.with_answer, Points.point_of}
use Rattle.loc_place.specs.declared.locator.Deep.{Deep}
use Rattle.loc_batch.specs.{Batches.AnswersCut, Streams.last_line, declared.tally.Tally.Tally}
use Rattle.loc_batch.specs.Desks.{PutsAll, PutsOne, SendsPage, WritesLines}
use Rattle.loc_page.specs.Puts.{IsSteady, Passes}
use Rattle.loc_batch.specs.Told.{Telling, Told, told_by, told_found, told_line, told_tally, told_text}
use Rattle.loc_batch.specs.declared.faults.FeedFault.{FeedFault}
use Rattle.loc_batch.specs.declared.faults.FeedFault.TheVariants as f
use Rattle.loc_page.proofs.Pages.{fails_then, front-passes, nothing_passes, passes-both, steady_none, steady_then}

-- no answers
abbrev pub no_answers : Answered Told Deep
no_answers = record { answers = []; refusal = None }

-- one list of answers behind another, unless that one was given up
abbrev pub joined : Answered Told Deep → Answered Told Deep → Answered Told Deep
joined a b = elim a.refusal as (λ _. Answered Told Deep) [ None ↦ record { answers = a.answers ++ b.answers; refusal = b.refusal } | Some why ↦ a ]

pub joined_whole : (a b : Answered Told Deep) → a.refusal ≡ None → joined a b ≡ record { answers = a.answers ++ b.answers; refusal = b.refusal }
joined_whole a b whole = ap (λ (r : Option Deep). elim r as (λ _. Answered Told Deep) [ None ↦ record { answers = a.answers ++ b.answers; refusal = b.refusal } | Some why ↦ a ]) whole

one_joined : (ra : Result Told Deep) (b : Answered Told Deep) → with_answer ra b ≡ joined (with_answer ra no_answers) b
one_joined (Ok a) b = refl
one_joined (Err d) b = refl

-- what is answered to one member more of a list
pub next_answered : {X : Type 0} (answer : X → Result Told Deep) (xs : List X) (i : ℕ) (d x : X) → i < length xs → x ≡ get_or xs i d → answered answer (drop i xs) ≡ joined (with_answer (answer x) no_answers) (answered answer (drop (i + 1) xs))
next_answered answer xs i d x less is =
    at_drop_more (answered answer) xs i d less ∙ (ap (λ y. with_answer (answer y) (answered answer (drop (i + 1) xs))) (sym is) ∙ one_joined (answer x) (answered answer (drop (i + 1) xs)))

-- behind the last there is nothing
pub none_answered : {X : Type 0} (answer : X → Result Told Deep) (xs : List X) (i : ℕ) → length xs ≤ i → answered answer (drop i xs) ≡ no_answers
none_answered answer xs i all = ap (answered answer) (drop_all i xs all)

-- the answers to one list of lines, and then to another
pub answered-append : (answer : Telling) (ls ms : List (List ℕ)) → answered answer (ls ++ ms) ≡ joined (answered answer ls) (answered answer ms)
answered-append answer [] ms = refl
answered-append answer (l ∷ ls) ms = ap (with_answer (answer l)) (answered-append answer ls ms) ∙ by (answer l) (answered answer ls) (answered answer ms)
  where
    by : (ra : Result Told Deep) (a b : Answered Told Deep) → with_answer ra (joined a b) ≡ joined (with_answer ra a) b
    by (Err d) a b = refl
    by (Ok x) a b = at a.refusal
      where
        at : (r : Option Deep) → with_answer (Ok x) (joined (record { answers = a.answers; refusal = r }) b) ≡ joined (with_answer (Ok x) (record { answers = a.answers; refusal = r })) b
        at None = refl
        at (Some why) = refl

pub cut_answered : (answer : Telling) (now lines more : List (List ℕ)) (put : Answered Told Deep) → now ≡ lines ++ more → put ≡ answered answer lines → answered answer now ≡ joined put (answered answer more)
cut_answered answer now lines more put cut same = ap (answered answer) cut ∙ (answered-append answer lines more ∙ ap (λ (a : Answered Told Deep). joined a (answered answer more)) (sym same))

-- what is found for the points of lines is answered as the lines
pub answered_found : {F : Type 0} (scale : ℕ) (finds : Point → F) (tells : F → Result Told Deep) (lines : List (List ℕ))
    → answered (told_found tells) (map (option_map finds) (map (point_of scale) lines)) ≡ answered (told_by scale finds tells) lines
unfolding told_by
answered_found scale finds tells [] = refl
answered_found scale finds tells (line ∷ lines) = ap (with_answer (told_found tells (option_map finds (point_of scale line)))) (answered_found scale finds tells lines)

-- no line, no answer
pub no_line : (t : Tally) (o : Stream) (h : List ℕ) (x : Unit {0}) → PutsAll no_answers t t o o h h (Ok x)
no_line t o h x = (refl, nothing_passes refl refl, steady_none o, refl)

-- what was put of one line
pub one_line : (ra : Result Told Deep) (t t1 : Tally) (o m : Stream) (h i : List ℕ) (r : Result (Unit {0}) FeedFault) → PutsOne ra t t1 o m h i r → PutsAll (with_answer ra no_answers) t t1 o m h i r
one_line (Ok a) t t1 o m h i (Ok x) p = (refl, subst (λ l. Passes l o m h i) (sym (append-nil (a.line))) p.0, p.1, p.2)
one_line (Ok a) t t1 o m h i (Err (f.Deep version)) p = absurd p
one_line (Ok a) t t1 o m h i (Err f.PointsLong) p = absurd p
one_line (Ok a) t t1 o m h i (Err f.WriteFault) p = (subst (λ l. WroteFront o.written m.written (h ++ l)) (sym (append-nil (a.line))) p.0, p.1)
one_line (Err d) t t1 o m h i (Ok x) p = absurd (cc (p.0))
one_line (Err d) t t1 o m h i (Err (f.Deep version)) p =
    (ap Some (same_deep d version (cc (p.0))), nothing_passes p.2 p.3, subst (λ (n : Stream). IsSteady o n) (sym p.2) (steady_none o), p.1)
  where
    same_deep : (d : Deep) (version : ℕ) → version ≡ d.version → d ≡ record { version = version }
    same_deep d version is = ap (λ (k : ℕ). record { version = k }) (sym is)
one_line (Err d) t t1 o m h i (Err f.PointsLong) p = absurd (cc (p.0))
one_line (Err d) t t1 o m h i (Err f.WriteFault) p = absurd (cc (p.0))

pub tally-append : (t : Tally) (xs ys : List Told) → told_tally t (xs ++ ys) ≡ told_tally (told_tally t xs) ys
tally-append t [] ys = refl
tally-append t (x ∷ xs) ys = tally-append (x.counted t) xs ys

-- the answers to lines, and then those to more lines
all_more : (a b : Answered Told Deep) (t t1 t2 : Tally) (o m n : Stream) (h i k : List ℕ) (x : Unit {0}) (r : Result (Unit {0}) FeedFault)
    → PutsAll a t t1 o m h i (Ok x) → PutsAll b t1 t2 m n i k r → PutsAll (joined a b) t t2 o n h k r
all_more a b t t1 t2 o m n h i k x r p q = subst (λ (c : Answered Told Deep). PutsAll c t t2 o n h k r) (sym (joined_whole a b p.0)) (by r q)
  where
    counted : t2 ≡ told_tally t1 b.answers → t2 ≡ told_tally t (a.answers ++ b.answers)
    counted is = is ∙ (ap (λ s. told_tally s b.answers) p.3 ∙ sym (tally-append t a.answers b.answers))

    by : (r : Result (Unit {0}) FeedFault) → PutsAll b t1 t2 m n i k r → PutsAll (record { answers = a.answers ++ b.answers; refusal = b.refusal }) t t2 o n h k r
    by (Ok y) q = (q.0, rw (flat_map-append told_line a.answers b.answers) (passes-both p.1 q.1), steady_then p.2 q.2, counted q.3)
    by (Err (f.Deep version)) q = (q.0, rw (flat_map-append told_line a.answers b.answers) (passes-both p.1 q.1), steady_then p.2 q.2, counted q.3)
    by (Err f.PointsLong) q = absurd q
    by (Err f.WriteFault) q = (rw (flat_map-append told_line a.answers b.answers) (front-passes n (told_text b.answers) p.1 q.0), fails_then p.2 q.1)

-- answers that were cut short, before those to more lines
all_stop : (a b : Answered Told Deep) (t t1 : Tally) (o m : Stream) (h i : List ℕ) (e : FeedFault) → PutsAll a t t1 o m h i (Err e) → PutsAll (joined a b) t t1 o m h i (Err e)
all_stop a b t t1 o m h i (f.Deep version) p = subst (λ (c : Answered Told Deep). PutsAll (joined c b) t t1 o m h i (Err (f.Deep version))) (sym (given_up a p.0)) (refl, p.1, p.2, p.3)
  where
    given_up : (c : Answered Told Deep) → c.refusal ≡ Some (record { version = version }) → c ≡ record { answers = c.answers; refusal = Some (record { version = version }) }
    given_up c is = ap (λ (f : Option Deep). record { answers = c.answers; refusal = f }) is
all_stop a b t t1 o m h i f.PointsLong p = absurd p
all_stop a b t t1 o m h i f.WriteFault p = by a.refusal
  where
    by : (r : Option Deep) → PutsAll (joined (record { answers = a.answers; refusal = r }) b) t t1 o m h i (Err f.WriteFault)
    by None = (subst (λ l. WroteFront o.written m.written l) (append_assoc h (told_text a.answers) (told_text b.answers) ∙ ap (λ l. h ++ l) (sym (flat_map-append told_line a.answers b.answers))) (front-of o.written m.written (h ++ told_text a.answers) (told_text b.answers) p.0), p.1)
    by (Some why) = p

-- What answers to the rest lead to: it is what a loop keeps.
abbrev pub GoesLines : Answered Told Deep → Answered Told Deep → Tally → Tally → Stream → Stream → List ℕ → List ℕ → Type 0
GoesLines whole rest t0 t1 o m h i = (t : Tally) (n : Stream) (k : List ℕ) (r : Result (Unit {0}) FeedFault) → PutsAll rest t1 t m n i k r → PutsAll whole t0 t o n h k r

-- some answers of the rest were put
pub goes_on : (whole a b : Answered Told Deep) (t0 t1 t2 : Tally) (o m n : Stream) (h i k : List ℕ) (x : Unit {0}) (first : Result (Unit {0}) FeedFault) → first ≡ Ok x
    → GoesLines whole (joined a b) t0 t1 o m h i → PutsAll a t1 t2 m n i k first → GoesLines whole b t0 t2 o n h k
goes_on whole a b t0 t1 t2 o m n h i k x first is goes p = λ t n' k' r q.
    goes t n' k' r (all_more a b t1 t2 t m n n' i k k' x r (subst (λ f. PutsAll a t1 t2 m n i k f) is p) q)

-- and then no more
pub goes_off : (whole a b : Answered Told Deep) (t0 t1 t2 : Tally) (o m n : Stream) (h i k : List ℕ) (e : FeedFault) (first : Result (Unit {0}) FeedFault) → first ≡ Err e
    → GoesLines whole (joined a b) t0 t1 o m h i → PutsAll a t1 t2 m n i k first → PutsAll whole t0 t2 o n h k (Err e)
goes_off whole a b t0 t1 t2 o m n h i k e first is goes p = goes t2 n k (Err e) (all_stop a b t1 t2 m n i k e (subst (λ f. PutsAll a t1 t2 m n i k f) is p))

pub last_one : (line : List ℕ) → 0 < length line → last_line line ≡ line ∷ []
last_one [] some = absurd (omega arith)
last_one (b ∷ line) some = refl

-- a text with bytes is a last line, and one without is none
pub last_some : (line : List ℕ) → (length line == 0) ≡ false → last_line line ≡ line ∷ []
last_some [] some = absurd (cc some)
last_some (b ∷ line) some = refl

pub last_none : (line : List ℕ) → (length line == 0) ≡ true → last_line line ≡ []
last_none [] none = refl
last_none (b ∷ line) none = absurd (omega (arith, eqb-true (length (b ∷ line)) 0 none))

-- a page that was passed by and sent
sent_whole : (text : List ℕ) (o m n : Stream) (h i : List ℕ) → h ≡ [] → Passes text o m h i → Appends m.written n.written i → Appends o.written n.written text
sent_whole text o m n h i none p sent =
    subst (λ l. Appends o.written n.written l) (sym (ap (λ l. l ++ text) (sym none) ∙ p.cut)) (Appends-more o.written m.written n.written p.gone i p.went sent)

sent_front : (text : List ℕ) (o m n : Stream) (h i : List ℕ) → h ≡ [] → Passes text o m h i → WroteFront m.written n.written i → WroteFront o.written n.written text
sent_front text o m n h i none p sent =
    subst (λ l. WroteFront o.written n.written l) (sym (ap (λ l. l ++ text) (sym none) ∙ p.cut)) (front-behind o.written m.written n.written p.gone i p.went sent)

-- lines whose answers were put on an empty page, and the page sent
pub sent_lines : (lines : List (List ℕ)) (answer : Telling) (t t1 : Tally) (o m n : Stream) (h i : List ℕ) (given result : Result (Unit {0}) FeedFault) → h ≡ []
    → PutsAll (answered answer lines) t t1 o m h i given → SendsPage i m n given result → WritesLines lines answer t t1 o n result
sent_lines lines answer t t1 o m n h i (Ok y) result none q (inl s) = subst (λ r. WritesLines lines answer t t1 o n r) (sym s.0)
    (q.0, record { wrote = sent_whole _ o m n h i none q.1 s.1; steady = s.2 ∙ q.2.steady; counted = q.3 })
sent_lines lines answer t t1 o m n h i (Ok y) result none q (inr s) = subst (λ r. WritesLines lines answer t t1 o n r) (sym s.0)
    (record { wrote = sent_front _ o m n h i none q.1 s.1; rose = subst (λ c. Rose c n.faults) q.2.steady s.2 })
sent_lines lines answer t t1 o m n h i (Err (f.Deep version)) result none q (inl s) = subst (λ r. WritesLines lines answer t t1 o n r) (sym s.0)
    (q.0, record { wrote = sent_whole _ o m n h i none q.1 s.1; steady = s.2 ∙ q.2.steady; counted = q.3 })
sent_lines lines answer t t1 o m n h i (Err (f.Deep version)) result none q (inr s) = subst (λ r. WritesLines lines answer t t1 o n r) (sym s.0)
    (record { wrote = sent_front _ o m n h i none q.1 s.1; rose = subst (λ c. Rose c n.faults) q.2.steady s.2 })
sent_lines lines answer t t1 o m n h i (Err f.PointsLong) result none q s = absurd q
sent_lines lines answer t t1 o m n h i (Err f.WriteFault) result none q s = subst (λ r. WritesLines lines answer t t1 o n r) (sym s.0)
    (subst (λ (p : Stream). AnswersCut lines answer o p) (sym s.1)
    (record { wrote = subst (λ l. WroteFront o.written m.written (l ++ told_text (answered answer lines).answers)) none q.0; rose = q.1.rose }))

-- no write of them came late
pub sent_in_time : (a : Answered Told Deep) (t t1 : Tally) (o m n : Stream) (h i : List ℕ) (given result : Result (Unit {0}) FeedFault) → PutsAll a t t1 o m h i given → SendsPage i m n given result → InTime m n → InTime o n
sent_in_time a t t1 o m n h i (Ok y) result q s late = in_time_after o m n q.2.in_time q.2.steady late
sent_in_time a t t1 o m n h i (Err (f.Deep version)) result q s late = in_time_after o m n q.2.in_time q.2.steady late
sent_in_time a t t1 o m n h i (Err f.PointsLong) result q s late = absurd q
sent_in_time a t t1 o m n h i (Err f.WriteFault) result q s late = subst (λ (p : Stream). InTime o p) (sym s.1) q.1.in_time
