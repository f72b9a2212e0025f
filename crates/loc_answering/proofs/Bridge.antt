-- The answers to the lines of a file that was taken up are those to a source.
use Rattle.std.proofs.Common.{◌≡◌, ◌≢◌, ℕ, ◌+◌, Bool, List, [], ◌∷◌, ◌++◌, Option, Some, None, Result, Ok, Err, refl, sym, ◌∙◌, ap, subst, arith, append-nil, inl, inr}
use Rattle.std.specs.{Prelude.option_map, Io.KnownBytes.Appends, Io.KnownBytes.Keeps}
use Rattle.loc_io.specs.{Causes.Rose, Entries.taken, Reading.WroteFront, Streams.Stream}
use Rattle.loc_io.specs.Meaning.{Meaning, TakesUp, Told as FileTold, untold, absent, holds, bytes_of}
use Rattle.loc_io.proofs.Reading.{files_then, in_time_by, making_then, taken_last}
use Rattle.loc_spec_text.specs.Answered.{Answered, answered, with_answer}
use Rattle.loc_spec_text.specs.Bytes.{Text, ended_lines, lines}
use Rattle.loc_place.specs.declared.locator.Deep.{Deep}
use Rattle.loc_batch.specs.Batches.{Answers, AnswersCut, AnswersRest, AnswersTo, AreSeen, IsFrontOf, IsLonger, IsWholeOf, ReadsAreCounted}
use Rattle.loc_batch.specs.{PointLines.is_point_line, Told.Telling, Told.Told, Told.told_text}
use Rattle.loc_batch.specs.{declared.tally.Tally.Tally, declared.faults.BatchFault.BatchFault}
use Rattle.loc_batch.specs.declared.faults.BatchFault.TheVariants as b
use Rattle.loc_course.specs.{Courses.Stopped, Courses.unread, Moments.moment, Moments.IsToldLong, Moments.IsToldText}
use Rattle.loc_course.specs.Stops.{source}
use Rattle.loc_course.specs.Streams.{Answering, AnswersAreCounted, AnswersSource, IsToldFront, out_of, AreSeen as AreTold, AnswersTo as TellsTo}
use Rattle.loc_answering.specs.ByLine.{deep_text, stopped_by, told_by_line, told_bytes}

abbrev note_of : Deep → Text
note_of deep = deep_text deep.version

-- answers as bytes are those answers, and end where those end
record Same (a : Answered Text Text) (b : Answered Told Deep) : Type 0 where
  pub out : out_of a ≡ told_text b.answers
  pub refusal : a.refusal ≡ option_map note_of b.refusal

one_same : (r : Result Told Deep) (a : Answered Text Text) (b : Answered Told Deep) → Same a b → Same (with_answer (told_bytes r) a) (with_answer r b)
one_same (Ok answer) a b rest = record { out = ap (λ (t : Text). answer.line ++ t) rest.out; refusal = rest.refusal }
one_same (Err deep) a b rest = record { out = refl; refusal = refl }

same : (answer : Telling) (ls : List Text) → Same (answered (told_by_line answer) ls) (answered answer ls)
same answer [] = record { out = refl; refusal = refl }
same answer (l ∷ ls) = one_same (answer l) (answered (told_by_line answer) ls) (answered answer ls) (same answer ls)

module _ (answer : Telling) (ls : List Text) where
  refusal_is : (r : Option Deep) → (answered answer ls).refusal ≡ r → (answered (told_by_line answer) ls).refusal ≡ option_map note_of r
  refusal_is r is = (same answer ls).refusal ∙ ap (option_map note_of) is

  out_is : (t t' : Tally) (o o' : Stream) → Answers ls answer t t' o o' → Appends o.written o'.written (out_of (answered (told_by_line answer) ls))
  out_is t t' o o' a = subst (λ (x : Text). Appends o.written o'.written x) (sym (same answer ls).out) a.wrote

  cut_is : (o o' : Stream) → AnswersCut ls answer o o' → WroteFront o.written o'.written (out_of (answered (told_by_line answer) ls))
  cut_is o o' a = subst (λ (x : Text). WroteFront o.written o'.written x) (sym (same answer ls).out) a.wrote

-- what holds of the rest of a file that was taken up holds of what is told of the file
by_told : (P : FileTold → Type 0) (Q : Option Text → Type 0) → P untold → ((bytes : Text) → Q (Some bytes) → P (holds bytes)) → (told : FileTold) (rest : Option Text) → told ≢ absent → Keeps (bytes_of told) rest → Q rest → P told
by_told P Q none some untold rest there keeps q = none
by_told P Q none some absent rest there keeps q = absurd (there refl)
by_told P Q none some (holds bytes) None there keeps q = absurd keeps
by_told P Q none some (holds bytes) (Some other) there keeps q = some bytes (subst (λ (x : Text). Q (Some x)) keeps q)

-- why it ended
abbrev pub came_of : Text → Result (Unit {0}) BatchFault → Option Stopped
came_of too_long (Ok u) = None
came_of too_long (Err fault) = Some (stopped_by too_long fault)

module _ (told : FileTold) (rest : Option Text) (there : told ≢ absent) (keeps : Keeps (bytes_of told) rest) where
  front_told : (text : Text) → IsFrontOf rest text → IsToldFront told text
  front_told text = by_told (λ t. IsToldFront t text) (λ r. IsFrontOf r text) tt (λ bytes p. p) told rest there keeps

  text_told : (text : Text) → IsWholeOf rest text → IsToldText told text
  text_told text = by_told (λ t. IsToldText t text) (λ r. IsWholeOf r text) tt (λ bytes p. p) told rest there keeps

  long_told : (limit : ℕ) → IsLonger rest limit → IsToldLong limit told
  long_told limit = by_told (IsToldLong limit) (λ r. IsLonger r limit) tt (λ bytes p. p) told rest there keeps

  seen_told : (n : ℕ) (text : Text) (seen : List Text) → AreSeen rest n text seen → AreTold told n text seen
  seen_told n text seen (inl is) = inl is
  seen_told n text seen (inr is) = inr (is.0, text_told text is.1, is.2)

  comes : (answer : Telling) (name too_long : Text) (limit n : ℕ) (text : Text) (t t' : Tally) (o o' : Stream) (r : Result (Unit {0}) BatchFault) → AnswersTo answer limit rest n text t t' o o' r
      → TellsTo (source name limit too_long) (told_by_line answer) told n text o.written o'.written (came_of too_long r)
  comes answer name too_long limit n text t t' o o' (Ok u) p = (p.0, text_told text p.1, refusal_is answer (lines text) None p.2, out_is answer (lines text) t t' o o' p.3)
  comes answer name too_long limit n text t t' o o' (Err (b.Deep version)) p = inl (p.0, seen_told n text p.0 p.1, refusal_is answer p.0 (Some (record { version = version })) p.2, out_is answer p.0 t t' o o' p.3)
  comes answer name too_long limit n text t t' o o' (Err b.PointsLong) p = inr (refl, p.0, p.1, long_told limit p.2, refusal_is answer (ended_lines text) None p.3, out_is answer (ended_lines text) t t' o o' p.4)
  comes answer name too_long limit n text t t' o o' (Err b.ReadFault) p = let out = out_of (answered (told_by_line answer) (ended_lines text)) in (out, [], sym (append-nil out), out_is answer (ended_lines text) t t' o o' p.1)
  comes answer name too_long limit n text t t' o o' (Err b.WriteFault) p = (p.0, seen_told n text p.0 p.1, cut_is answer p.0 o o' p.2)

counts : (answer : Telling) (too_long : Text) (limit : ℕ) (rest : Option Text) (n : ℕ) (text : Text) (t t' : Tally) (o o' : Stream) (k r r' : ℕ) (result : Result (Unit {0}) BatchFault) → r ≡ k → AnswersTo answer limit rest n text t t' o o' result → ReadsAreCounted r r' result
    → AnswersAreCounted k r' o.faults o'.faults (came_of too_long result)
counts answer too_long limit rest n text t t' o o' k r r' (Ok u) same p c = (c ∙ same, p.3.steady)
counts answer too_long limit rest n text t t' o o' k r r' (Err (b.Deep version)) same p c = (c ∙ same, p.3.steady)
counts answer too_long limit rest n text t t' o o' k r r' (Err b.PointsLong) same p c = (c ∙ same, p.4.steady)
counts answer too_long limit rest n text t t' o o' k r r' (Err b.ReadFault) same p c = (subst (λ (q : ℕ). Rose q r') same c, p.1.steady)
counts answer too_long limit rest n text t t' o o' k r r' (Err b.WriteFault) same p c = (c ∙ same, p.2.rose)

-- nothing is written
adds_nothing : (written : Option Text) → Appends written written []
adds_nothing None = tt
adds_nothing (Some bytes) = sym (append-nil bytes)

-- nothing was seen of a file
none_told : (told : FileTold) → IsToldFront told []
none_told untold = tt
none_told absent = refl
none_told (holds bytes) = (bytes, refl)

-- a file that could not be taken up
pub unread_source : {T E : Type 0} {name too_long : Text} {limit each : ℕ} {searched : Text → Bool} {answer : Answering} {old new : Meaning} {o : Stream} {k : ℕ} {e : E}
    → TakesUp {T = T} {E = E} name old new (Err e) → AnswersSource (source name limit too_long) searched each answer (moment old o k) (moment new o k) (Some unread)
unread_source {name = name} {old = old} {new = new} {o = o} up = record {
  files = up.files;
  making = up.making;
  taken = 0;
  entries = up.entries;
  there = λ gone. refl;
  text = [];
  within = omega arith;
  of_taken = inl refl;
  told = none_told (old.told name);
  comes = ([], [], refl, adds_nothing o.written);
  counts = (up.cause.failed, refl);
  in_time = in_time_by old new up.late;
  out_in_time = λ none_failed. refl;
  up = omega arith;
  steps = ([], inl refl, omega arith);
}

-- a file that was taken up and answered
pub answered_source : {E : Type 0} {answer : Telling} {name too_long : Text} {scale each limit : ℕ} {old mid new : Meaning} {t t' : Tally} {o o' : Stream} {k k' : ℕ} {x : Unit {0}}
    → TakesUp {T = Unit {0}} {E = E} name old mid (Ok x) → (r : Result (Unit {0}) BatchFault) → AnswersRest answer scale each limit mid new t t' o o' k k' r
    → AnswersSource (source name limit too_long) (is_point_line scale) each (told_by_line answer) (moment old o k) (moment new o' k') (came_of too_long r)
answered_source {answer = answer} {name = name} {too_long = too_long} {limit = limit} {old = old} {mid = mid} {new = new} {t = t} {t' = t'} {o = o} {o' = o'} up r p = record {
  files = files_then old mid new up.files p.files;
  making = making_then old mid new up.making p.making;
  taken = p.taken;
  entries = let all : 0 + p.taken ≡ p.taken = omega arith in
      p.entries ∙ (ap (taken p.taken) up.entries ∙ (taken_last old.entries name 0 p.taken ∙ ap (λ (n : ℕ). old.entries ++ (name, n) ∷ []) all));
  there = λ gone. absurd (up.opened.0 gone);
  text = p.text;
  within = p.within;
  of_taken = p.of_taken;
  told = front_told (old.told name) mid.rest up.opened.0 up.opened.2 p.text p.front;
  comes = comes (old.told name) mid.rest up.opened.0 up.opened.2 answer name too_long limit p.taken p.text t t' o o' r p.comes;
  counts = counts answer too_long limit mid.rest p.taken p.text t t' o o' old.read_faults mid.read_faults new.read_faults r up.cause.steady p.comes p.reads;
  in_time = λ no_read no_write. p.reads_in_time (up.cause.steady ∙ no_read) (up.making.write_faults ∙ no_write) ∙ in_time_by old mid up.late no_read no_write;
  out_in_time = p.in_time;
  up = p.up;
  steps = (p.steps.0, seen_told (old.told name) mid.rest up.opened.0 up.opened.2 p.taken p.text p.steps.0 p.steps.1, p.steps.2);
}
