-- The names, the files and the steps along a course.
use Rattle.std.proofs.Common.{◌≡◌, ◌≢◌, ℕ, ◌+◌, ◌≤◌, [], ◌∷◌, ◌++◌, length, Bool, true, Option, Some, None, refl, sym, ◌∙◌, subst, ap, inl, arith, append_assoc, append-nil}
use Rattle.std.proofs.Math.Path.{fun_ext}
use Rattle.loc_spec_text.specs.Bytes.{Text}
use Rattle.loc_io.specs.Entries.{Entries}
use Rattle.loc_io.specs.Meaning.{KeepsFiles, Told, untold, absent, holds}
use Rattle.loc_course.specs.Courses.{Source, Course, Stopped, refused, unread, unwritten, no_memory}
use Rattle.loc_course.specs.Following.{FileWritesAreCounted, OverSo, Moment, IsToldAtMost, Follows, lacks, refuses_by, reads_not, reads_by, searches_by, answers_by, writes_by, makes_by}
use Rattle.loc_course.specs.{Moments.IsToldText, Streams.Answering, Streams.AnswersTo}
use Rattle.loc_course.specs.Sentences.{status_of, HasLength, AreWhole, Hands, hands_none, hands_last, hands_on, hands_answered, hands_searched, Names, MayMake, MakesNone, Files, WithinSteps, SearchesNothing, Counts, InTimes}

-- one entry more, and those behind it
behind : (old mid new more : Entries) (name : Text) (taken k : ℕ) → mid ≡ old ++ (name, taken) ∷ [] → taken ≡ k → new ≡ mid ++ more → new ≡ old ++ (name, k) ∷ more
behind old mid new more name taken k first same second =
    second ∙ ap (λ (l : Entries). l ++ more) (first ∙ ap (λ (j : ℕ). old ++ (name, j) ∷ []) same) ∙ append_assoc old ((name, k) ∷ []) more

-- a text has the length of its file
whole_text : (told : Told) (text : Text) → IsToldText told text → HasLength told (length text)
whole_text untold text is = tt
whole_text absent text is = absurd is
whole_text (holds bytes) text is = ap length is

pub not_done : (stop : Stopped) → status_of (Some stop) ≡ 0 → ⊥
not_done (refused line) zero = omega (arith, zero)
not_done unread zero = omega (arith, zero)
not_done unwritten zero = omega (arith, zero)
not_done no_memory zero = omega (arith, zero)

-- a file whose lines were all answered was taken whole
whole_answers : (s : Source) (answer : Answering) (told : Told) (taken : ℕ) (text : Text) (o o' : Option Text) (came : Option Stopped) → AnswersTo s answer told taken text o o' came → status_of came ≡ 0 → HasLength told taken
whole_answers s answer told taken text o o' None comes zero = subst (λ (k : ℕ). HasLength told k) (sym comes.0) (whole_text told text comes.1)
whole_answers s answer told taken text o o' (Some stop) comes zero = absurd (not_done stop zero)

pub names : {c : Course} {m n : Moment} {end : Option Stopped} → Follows c m n end → Names c m n (status_of end)
names (lacks {m = m}) = record { added = []; entries = sym (append-nil m.shelf.entries); handed = hands_none; whole = λ zero. tt }
names (refuses_by {m = m} line passes) = record { added = []; entries = sym (append-nil m.shelf.entries); handed = hands_none; whole = λ zero. tt }
names (reads_not {s = s} {stop = stop} shelf read) = record { added = (s.name, read.taken) ∷ []; entries = read.entries; handed = hands_last read.taken; whole = λ zero. absurd (not_done stop zero) }
names (reads_by {s = s} {next = next} {m = m} {n = n} text shelf read rest) =
    let more = names rest in
    let told : shelf.told ≡ m.shelf.told = fun_ext read.files in
    let here : Hands m.shelf.told (next text) more.added = subst (λ (told : Text → Told). Hands told (next text) more.added) told more.handed in
    let few : length text ≤ s.limit = omega (arith, read.comes.0, read.comes.1) in
    record {
      added = (s.name, length text) ∷ more.added;
      entries = behind m.shelf.entries shelf.entries n.shelf.entries more.added s.name read.taken (length text) read.entries read.comes.0 more.entries;
      handed = hands_on text few read.comes.2 here;
      whole = λ zero. (whole_text (m.shelf.told s.name) text read.comes.2, subst (λ (told : Text → Told). AreWhole told more.added) told (more.whole zero));
    }
names (searches_by steps up within rest) = let more = names rest in record { added = more.added; entries = more.entries; handed = hands_searched more.handed; whole = more.whole }
names (answers_by {s = s} {answer = answer} {m = m} {n = n} {came = came} done) = record {
  added = (s.name, done.taken) ∷ [];
  entries = done.entries;
  handed = hands_answered done.taken;
  whole = λ zero. (whole_answers s answer (m.shelf.told s.name) done.taken done.text m.out.written n.out.written came done.comes zero, tt);
}
names (writes_by {m = m} text out is w) = record { added = []; entries = sym (append-nil m.shelf.entries); handed = hands_none; whole = λ zero. tt }
names (makes_by {m = m} text shelf is made) = record { added = []; entries = made.reading.entries ∙ sym (append-nil m.shelf.entries); handed = hands_none; whole = λ zero. tt }

-- what is told of a file that a course does not make
others : {c : Course} {m n : Moment} {end : Option Stopped} → Follows c m n end → (name : Text) → (MayMake c name → ⊥) → IsToldAtMost (m.shelf.told name) (n.shelf.told name)
others lacks name no_maker = inl refl
others (refuses_by line passes) name no_maker = inl refl
others (reads_not shelf read) name no_maker = inl (read.files name)
others (reads_by {n = n} text shelf read rest) name no_maker = subst (λ (t : Told). IsToldAtMost t (n.shelf.told name)) (read.files name) (others rest name (λ maker. no_maker (text, maker)))
others (searches_by steps up within rest) name no_maker = others rest name no_maker
others (answers_by done) name no_maker = inl (done.files name)
others (writes_by text out is w) name no_maker = inl refl
others (makes_by text shelf is made) name no_maker = made.others name no_maker

all : {c : Course} {m n : Moment} {end : Option Stopped} → Follows c m n end → MakesNone c → KeepsFiles m.shelf n.shelf
all lacks no_maker name = refl
all (refuses_by line passes) no_maker name = refl
all (reads_not shelf read) no_maker name = read.files name
all (reads_by text shelf read rest) no_maker name = all rest (λ other maker. no_maker other (text, maker)) name ∙ read.files name
all (searches_by steps up within rest) no_maker name = all rest no_maker name
all (answers_by done) no_maker name = done.files name
all (writes_by text out is w) no_maker name = refl
all (makes_by {name = made} text shelf is it) no_maker name = absurd (no_maker made refl)

steady : {c : Course} {m n : Moment} {end : Option Stopped} → Follows c m n end → MakesNone c → n.shelf.write_faults ≡ m.shelf.write_faults
steady lacks no_maker = refl
steady (refuses_by line passes) no_maker = refl
steady (reads_not shelf read) no_maker = read.making.write_faults
steady (reads_by text shelf read rest) no_maker = steady rest (λ name maker. no_maker name (text, maker)) ∙ read.making.write_faults
steady (searches_by steps up within rest) no_maker = steady rest no_maker
steady (answers_by done) no_maker = done.making.write_faults
steady (writes_by text out is w) no_maker = refl
steady (makes_by {name = made} text shelf is it) no_maker = absurd (no_maker made refl)

-- a file was made, or a write failed
unmade : (stop : Option Stopped) (f f' : ℕ) → FileWritesAreCounted f f' stop → status_of stop ≢ 0 → status_of stop ≢ 4 → ⊥
unmade None f f' counts zero four = zero refl
unmade (Some unwritten) f f' counts zero four = four refl
unmade (Some (refused line)) f f' counts zero four = counts
unmade (Some unread) f f' counts zero four = counts
unmade (Some no_memory) f f' counts zero four = counts

-- unless the command was done or a write failed, all files are told as before
kept : {c : Course} {m n : Moment} {end : Option Stopped} → Follows c m n end → status_of end ≢ 0 → status_of end ≢ 4 → KeepsFiles m.shelf n.shelf
kept lacks zero four name = refl
kept (refuses_by line passes) zero four name = refl
kept (reads_not shelf read) zero four name = read.files name
kept (reads_by text shelf read rest) zero four name = kept rest zero four name ∙ read.files name
kept (searches_by steps up within rest) zero four name = kept rest zero four name
kept (answers_by done) zero four name = done.files name
kept (writes_by text out is w) zero four name = refl
kept (makes_by {m = m} {came = came} text shelf is made) zero four name = absurd (unmade came m.shelf.write_faults shelf.write_faults made.counts zero four)

-- a file that is still being made was not made to its end
still_making : (stop : Option Stopped) (is_making : Bool) → OverSo is_making stop → status_of stop ≡ 0 → is_making ≡ true → ⊥
still_making None is_making over zero making = cc (sym over ∙ making)
still_making (Some stop) is_making over zero making = not_done stop zero

-- where the command was done, no file is being made that was not before
finished : {c : Course} {m n : Moment} {end : Option Stopped} → Follows c m n end → status_of end ≡ 0 → n.shelf.is_making ≡ true → m.shelf.is_making ≡ true
finished lacks zero making = making
finished (refuses_by line passes) zero making = making
finished (reads_not shelf read) zero making = sym read.making.is_making ∙ making
finished (reads_by text shelf read rest) zero making = sym read.making.is_making ∙ finished rest zero making
finished (searches_by steps up within rest) zero making = finished rest zero making
finished (answers_by done) zero making = sym done.making.is_making ∙ making
finished (writes_by text out is w) zero making = making
finished (makes_by {came = came} text shelf is made) zero making = absurd (still_making came shelf.is_making made.over zero making)

pub files : {c : Course} {m n : Moment} {end : Option Stopped} → Follows c m n end → Files c m n (status_of end)
files follows = record { others = others follows; all = all follows; steady = steady follows; kept = kept follows; finished = finished follows }

up : {c : Course} {m n : Moment} {end : Option Stopped} → Follows c m n end → m.steps ≤ n.steps
up lacks = omega arith
up (refuses_by line passes) = omega arith
up (reads_not shelf read) = omega arith
up (reads_by text shelf read rest) = up rest
up (searches_by steps more within rest) = let k = up rest in omega (arith, more, k)
up (answers_by done) = done.up
up (writes_by text out is w) = omega arith
up (makes_by text shelf is made) = omega arith

within : {c : Course} {m n : Moment} {end : Option Stopped} → Follows c m n end → (k : ℕ) → WithinSteps m.shelf.told c k → n.steps ≤ m.steps + k
within lacks k most = omega arith
within (refuses_by line passes) k most = omega arith
within (reads_not shelf read) k most = omega arith
within (reads_by {next = next} text shelf read rest) k most =
    within rest k (subst (λ (told : Text → Told). WithinSteps told (next text) k) (sym (fun_ext read.files)) (most text (omega (arith, read.comes.0, read.comes.1)) read.comes.2))
within (searches_by steps more few rest) k most = let l = within rest most.0 most.2 in omega (arith, few, most.1, l)
within (answers_by done) k most = let l = most done.taken done.text done.steps.0 done.within done.told done.steps.1 in omega (arith, done.steps.2, l)
within (writes_by text out is w) k most = omega arith
within (makes_by text shelf is made) k most = omega arith

stay : {c : Course} {m n : Moment} {end : Option Stopped} → Follows c m n end → SearchesNothing c → n.steps ≡ m.steps
stay lacks none = refl
stay (refuses_by line passes) none = refl
stay (reads_not shelf read) none = refl
stay (reads_by text shelf read rest) none = stay rest (none text)
stay (searches_by steps more few rest) none = absurd none
stay (answers_by done) none = absurd none
stay (writes_by text out is w) none = refl
stay (makes_by text shelf is made) none = refl

pub counts : {c : Course} {m n : Moment} {end : Option Stopped} → Follows c m n end → Counts c m n
counts follows = record { up = up follows; within = within follows; stay = stay follows }

-- no call came late
pub in_times : {c : Course} {m n : Moment} {end : Option Stopped} → Follows c m n end → InTimes m n
in_times lacks = record { shelf = λ _ _. refl; out = λ _. refl }
in_times (refuses_by line passes) = record { shelf = λ _ _. refl; out = λ _. refl }
in_times (reads_not shelf read) = record { shelf = read.in_time; out = λ _. refl }
in_times (reads_by text shelf read rest) =
    let more = in_times rest in
    record { shelf = λ no_read no_write. more.shelf (read.counts ∙ no_read) (read.making.write_faults ∙ no_write) ∙ read.in_time no_read no_write; out = more.out }
in_times (searches_by steps up within rest) = let more = in_times rest in record { shelf = more.shelf; out = more.out }
in_times (answers_by done) = record { shelf = done.in_time; out = done.out_in_time }
in_times (writes_by text out is w) = record { shelf = λ _ _. refl; out = w.in_time }
in_times (makes_by text shelf is made) = record { shelf = made.in_time; out = λ _. refl }
