-- What holds of a run, by the course of its words.
use Rattle.std.proofs.Common.{◌≡◌, ◌≢◌, ◌⊎◌, ℕ, ◌≤◌, ap, Option, Some, None, refl, sym, ◌∙◌, subst, inl, inr, arith}
use Rattle.std.specs.Prelude.{IfSome, option_and_then, option_map}
use Rattle.loc_spec_text.specs.Bytes.{Text}
use Rattle.loc_io.specs.{Meaning.KeepsFiles, Meaning.Meaning, Streams.InTime, Streams.Stream}
use Rattle.loc_words.specs.Words.{Asked, query, features, check, build, ask, verify, face, gen, trial, upgrade, edges, stab, valid, dissolve}
use Rattle.loc_course.specs.{Courses.Course, Courses.no_memory, Following.lacks, Moments.Moment}
use Rattle.loc_course.specs.Sentences.{Ended, InTimes, IsPlain, MakesNone, MayMake, MayRefuseBehind, NoCountRose, Notes, ReadsFail, Sentences, Wrote, note_of}
use Rattle.loc_course.proofs.{Plain.none_behind, Statuses.ended_so, Statuses.in_range, Statuses.never_two}
use Rattle.loc_indexed.specs.Building.{build_course, is_index_text}
use Rattle.loc_indexed.proofs.Behind.{ask_makes_none, ask_refuses_behind}
use Rattle.loc_indexed.proofs.{MadeCourses.makes_one, MadeCourses.writes_at_once, VerifyRows.verify_plain}
use Rattle.loc_maps.proofs.Checked.{check_plain}
use Rattle.loc_query.proofs.Headlines.{query_makes_none, query_refuses_behind}
use Rattle.loc_features.proofs.Ended.{features_makes_none, features_refuses_behind}
use Rattle.loc_face.proofs.Plainly.{face_plain}
use Rattle.loc_breaches.proofs.Plainly.{valid_plain}
use Rattle.loc_groups.proofs.Plainly.{dissolve_plain}
use Rattle.loc_reach.proofs.Plainly.{stab_plain}
use Rattle.loc_trial.proofs.Plain.{gen_plain, trial_plain}
use Rattle.loc_upgrade.specs.UpgradeCourses.{upgrade_course}
use Rattle.loc_upgrade.proofs.Along.{edges_plain, upgrade_at_once, upgrade_makes_one}
use Rattle.loc_top.specs.Run.{BesideCourse, FilesOf, OutOf, Ran, RefusesPoints, RefusesWords, RunSentences, WritesFail, course_by, file_of, made_by}

-- a command makes no file but this, and by these lines alone it refuses a file whose lines it answers
pub record IsAnswering (made : Option Text) (c : Course) : Type 0 where
  pub makes : (name : Text) → made ≢ Some name → MayMake c name → ⊥
  pub line : (line : Text) → MayRefuseBehind c line → RefusesPoints line

-- a course that writes at once and makes no file does so
plain_answering : (made : Option Text) (c : Course) → IsPlain c → IsAnswering made c
plain_answering made c plain = record { makes = λ name differ. plain.makes_none name; line = λ line by. absurd (none_behind c line plain.at_once by) }

answering : (a : Asked) → IsAnswering (made_by a) (course_by a)
answering (query asked) =
    let file = file_of asked.layer in
    record { makes = λ name differ. query_makes_none asked.index asked.order asked.faces file asked.points name; line = λ line by. inl (query_refuses_behind asked.index asked.order asked.faces file asked.points line by) }
answering (features asked) =
    let file = file_of asked.layer in
    record { makes = λ name differ. features_makes_none file asked.points name; line = λ line by. inl (features_refuses_behind file asked.points line by) }
answering (check asked) = plain_answering None (course_by (check asked)) (check_plain (file_of asked))
answering (build asked) =
    let file = file_of asked.layer in
    let passes = is_index_text asked.layer.scale in
    record { makes = λ name differ. makes_one passes file asked.index name (λ same. differ (ap Some (sym same))); line = λ line by. absurd (none_behind (build_course file asked.index) line (writes_at_once passes file asked.index) by) }
answering (ask asked) = record { makes = λ name differ. ask_makes_none asked.index asked.points name; line = ask_refuses_behind asked.index asked.points }
answering (verify asked) = plain_answering None (course_by (verify asked)) (verify_plain asked.index)
answering (face asked) = plain_answering None (course_by (face asked)) (face_plain (file_of asked.layer) asked.point)
answering (gen asked) = plain_answering None (course_by (gen asked)) (gen_plain asked.kind asked.n asked.shift)
answering (trial asked) = plain_answering None (course_by (trial asked)) (trial_plain asked.index asked.kind asked.n asked.shift)
answering (upgrade asked) = record {
  makes = λ name differ. upgrade_makes_one asked.old asked.new name (λ same. differ (ap Some (sym same)));
  line = λ line by. absurd (none_behind (upgrade_course asked.old asked.new) line (upgrade_at_once asked.old asked.new) by);
}
answering (edges asked) = plain_answering None (course_by (edges asked)) (edges_plain asked.index)
answering (stab asked) = plain_answering None (course_by (stab asked)) (stab_plain (file_of asked.layer) asked.spans)
answering (valid asked) = plain_answering None (course_by (valid asked)) (valid_plain (file_of asked))
answering (dissolve asked) = plain_answering None (course_by (dissolve asked)) (dissolve_plain (file_of asked))

answering_of : (o : Option Asked) (c : Course) → option_map course_by o ≡ Some c → IsAnswering (option_and_then made_by o) c
answering_of None c is = absurd (cc is)
answering_of (Some a) c is = let same : course_by a ≡ c = cc is in subst (IsAnswering (made_by a)) same (answering a)

-- a course makes no file where its command names none
makes_none : (made : Option Text) (c : Course) → IsAnswering made c → made ≡ None → MakesNone c
makes_none made c p none name = p.makes name (λ some. let differ = none in cc (differ, some))

-- memory was wanting for the words
pub lacks_words : (o : Option Course) (old : Moment) (n n' : Stream) (status : ℕ) → status ≡ 5 → Wrote n n' (note_of no_memory) → Ran o old old n n' status
lacks_words None old n n' status is wrote = record { same = refl; noted = inr (is, wrote) }
lacks_words (Some c) old n n' status is wrote = record { end = Some no_memory; follows = lacks; noted = wrote; status_is = is }

module _ (old new : Moment) (n n' : Stream) (status : ℕ) where
  -- each sentence holds of the course of the words
  of_course : (P : Course → Type 0) (o : Option Course) → Ran o old new n n' status → ((c : Course) → Sentences c old new n n' status → P c) → IfSome o P
  of_course P None ran sentence = tt
  of_course P (Some c) ran sentence = sentence c (ended_so ran)

  -- and what does not speak of it holds of every run, where it holds of words that are no command
  pub of_run : (P : Moment → Type 0) (o : Option Course) → Ran o old new n n' status → ((c : Course) → Sentences c old new n n' status → P new) → ((status ≡ 2) ⊎ (status ≡ 5) → P old) → P new
  of_run P (Some c) ran sentence untouched = sentence c (ended_so ran)
  of_run P None ran sentence untouched = subst P (sym ran.same) (untouched (elim ran.noted [ inl words ↦ inl words.0 | inr memory ↦ inr memory.0 ]))

  other : (k : ℕ) → (status ≡ 2) ⊎ (status ≡ 5) → k ≢ 2 → k ≢ 5 → status ≡ k → ⊥
  other k (inl two) not_two not_five is = not_two (sym is ∙ two)
  other k (inr five) not_two not_five is = not_five (sym is ∙ five)

  reads_fail : (o : Option Course) → Ran o old new n n' status → ReadsFail old new status
  reads_fail o ran = of_run (λ (x : Moment). ReadsFail old x status) o ran (λ c s. s.reads_fail)
      (λ is below. (λ three. absurd (other 3 is (λ e. omega (arith, e)) (λ e. omega (arith, e)) three), λ rose. absurd (omega (arith, rose))))

  no_count_rose : (o : Option Course) → Ran o old new n n' status → NoCountRose old new status
  no_count_rose o ran = of_run (λ (x : Moment). NoCountRose old x status) o ran (λ c s. s.no_count_rose) (λ is. record { reads = λ _. refl; out = λ _. refl; files = λ _. refl })

  in_times : (o : Option Course) → Ran o old new n n' status → InTimes old new
  in_times o ran = of_run (λ (x : Moment). InTimes old x) o ran (λ c s. s.in_time) (λ is. record { shelf = λ _ _. refl; out = λ _. refl })

  notes_of : (o : Option Course) → Ran o old new n n' status → Notes n n' status
  notes_of (Some c) ran = (ended_so ran).notes
  notes_of None ran = elim ran.noted [
    | inl words ↦ record { done = λ e. absurd (omega (arith, e, words.0)); read = λ e. absurd (omega (arith, e, words.0)); write = λ e. absurd (omega (arith, e, words.0)); memory = λ e. absurd (omega (arith, e, words.0)) }
    | inr memory ↦ record { done = λ e. absurd (omega (arith, e, memory.0)); read = λ e. absurd (omega (arith, e, memory.0)); write = λ e. absurd (omega (arith, e, memory.0)); memory = λ _. memory.1 }
  ]

  pub refuses_words : (o : Option Course) → Ran o old new n n' status → RefusesWords o old new n n' status
  refuses_words (Some c) ran = record { only = λ two. absurd (never_two ran.end (sym ran.status_is ∙ two)); refused = λ none. absurd (cc none); nothing = λ none. absurd (cc none) }
  refuses_words None ran = elim ran.noted [
    | inl words ↦ record { only = λ _. (refl, words.1); refused = λ _. inl words.0; nothing = λ _. ran.same }
    | inr memory ↦ record { only = λ two. absurd (omega (arith, two, memory.0)); refused = λ _. inr memory.0; nothing = λ _. ran.same }
  ]

  pub range : (o : Option Course) → Ran o old new n n' status → status ≤ 5
  range (Some c) ran = let k = in_range ran.end in let is = ran.status_is in omega (arith, k, is)
  range None ran = elim ran.noted [ inl words ↦ omega (arith, words.0) | inr memory ↦ omega (arith, memory.0) ]

  -- a course that the words are known to have was followed to the end
  pub ended_of : (o : Option Course) → Ran o old new n n' status → (c : Course) → o ≡ Some c → Ended c old new n n' status
  ended_of None ran c is = absurd (cc is)
  ended_of (Some d) ran c is = let same : d ≡ c = cc is in subst (λ (x : Course). Ended x old new n n' status) same ran

  -- and its sentences hold
  pub sentences_of : (o : Option Course) → Ran o old new n n' status → (c : Course) → o ≡ Some c → Sentences c old new n n' status
  sentences_of o ran c is = ended_so (ended_of o ran c is)

  module _ (a : Option Asked) (ran : Ran (option_map course_by a) old new n n' status) where
    kept : (o : Option Course) → option_map course_by a ≡ o → Ran o old new n n' status → FilesOf a old new status × OutOf o old new n n' status × WritesFail a old new status
    kept None is r =
        let same : new.out.faults ≡ old.out.faults = ap (λ (x : Moment). x.out.faults) r.same in
        let as_many : new.shelf.write_faults ≡ old.shelf.write_faults = ap (λ (x : Moment). x.shelf.write_faults) r.same in
        let files : KeepsFiles old.shelf new.shelf = λ name. ap (λ (x : Moment). x.shelf.told name) r.same in
        let two_or_five : (status ≡ 2) ⊎ (status ≡ 5) = elim r.noted [ inl words ↦ inl words.0 | inr memory ↦ inr memory.0 ] in
        let never_four : status ≡ 4 → ⊥ = λ four. absurd (other 4 two_or_five (λ e. omega (arith, e)) (λ e. omega (arith, e)) four) in (
          record { others = λ name _. inl (files name); kept = λ _ _. files; finished = λ _ making. sym (ap (λ (x : Moment). x.shelf.is_making) r.same) ∙ making; none = λ _. (files, as_many) },
          record { grows = tt; kept = λ _. ap (λ (x : Moment). x.out.written) r.same; refused = λ one. absurd (other 1 two_or_five (λ e. omega (arith, e)) (λ e. omega (arith, e)) one); at_once = tt },
          record { rose = λ either. elim either [ inl rose ↦ absurd (omega (arith, rose, same)) | inr rose ↦ absurd (omega (arith, rose, as_many)) ]; only = λ four _ _. absurd (never_four four); only_out = λ _ four _. absurd (never_four four) },
        )
    kept (Some c) is r =
        let s = ended_so r in
        let p = answering_of a c is in (
          record {
            others = λ name differ. s.files.others name (p.makes name differ);
            kept = s.files.kept;
            finished = s.files.finished;
            none = λ none. (s.files.all (makes_none _ c p none), s.files.steady (makes_none _ c p none));
          },
          record {
            grows = s.out.grows;
            kept = λ either. elim either [ inl two ↦ absurd (never_two r.end (sym r.status_is ∙ two)) | inr five ↦ s.out.memory five ];
            refused = λ one. elim (s.out.refused one) [ inl same ↦ inl same | inr by ↦ inr (by.0, p.line by.0 by.1, by.2) ];
            at_once = s.out.kept;
          },
          record {
            rose = s.writes_fail.rose;
            only = λ four out files. elim (s.writes_fail.only four) [ inl rose ↦ inl (omega (arith, rose, out)) | inr by ↦ let rose = by.2 in inr (omega (arith, rose, files)) ];
            only_out = λ none four out. elim (s.writes_fail.only four) [ inl rose ↦ omega (arith, rose, out) | inr by ↦ absurd (makes_none _ c p none by.0 by.1) ];
          },
        )

    pub files_of : FilesOf a old new status
    files_of = (kept (option_map course_by a) refl ran).0

    out_of : OutOf (option_map course_by a) old new n n' status
    out_of = (kept (option_map course_by a) refl ran).1

    writes_fail : WritesFail a old new status
    writes_fail = (kept (option_map course_by a) refl ran).2

    -- all that holds of a run by its words
    pub sentences_hold : InTime n n' → RunSentences a old new n n' status
    sentences_hold late =
        let o = option_map course_by a in
        record {
          done = of_course _ o ran (λ c s. s.done);
          succeeds = of_course _ o ran (λ c s. s.succeeds);
          refuses = of_course _ o ran (λ c s. s.refuses);
          refuses_partly = of_course _ o ran (λ c s. s.refuses_partly);
          refused_only = of_course _ o ran (λ c s. s.refused_only);
          misses = of_course _ o ran (λ c s. s.misses);
          reads_fail = reads_fail o ran;
          writes_fail = writes_fail;
          no_count_rose = no_count_rose o ran;
          out = out_of;
          names = of_course _ o ran (λ c s. s.names);
          steps = of_course _ o ran (λ c s. s.steps);
          in_time = in_times o ran;
          notes = notes_of o ran;
          notes_in_time = late;
        }

-- what holds beside the course of the command that the words are
pub beside_of : (found : Option Asked) (asked : Asked) (old new : Meaning) (status : ℕ) → IfSome found (λ a. BesideCourse a old new status) → found ≡ Some asked → BesideCourse asked old new status
beside_of found asked old new status holds is = subst (λ f. IfSome f (λ a. BesideCourse a old new status)) is holds
