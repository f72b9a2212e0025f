-- An upgrade of an index file, and what making it leaves.
use Rattle.std.proofs.Common.{◌≡◌, ◌⊎◌, ℕ, Bool, Option, None, Some, Ok, Err, refl, sym, ◌∙◌, ap, subst, inl, inr, arith}
use Rattle.std.specs.Prelude.{codes}
use Rattle.loc_spec_text.specs.{Bytes.Text, Points.ended, Limits.most_text}
use Rattle.loc_io.specs.{Meaning.Told, Meaning.holds, Streams.Stream}
use Rattle.loc_spec_index.specs.{Content.Content, Flaws.Flaw}
use Rattle.loc_spec_index.specs.IndexFile.{IsFileOf, bytes_of}
use Rattle.loc_spec_index.specs.TrueIndex.{IsTrueIndex, IsTrueIndexFile}
use Rattle.loc_laws_index.specs.IndexReading.{AreBytes, reading}
use Rattle.loc_laws_index.proofs.{OneReading.one_file, Renewed.renewed}
use Rattle.loc_laws_judge.specs.FirstFlaw.{first_flaw}
use Rattle.loc_course.specs.{Courses.Course, Courses.Stopped, Endings.AtEnd}
use Rattle.loc_course.specs.Following.{FileWritesAreCounted}
use Rattle.loc_course.specs.{Moments.Moment, Stops.source}
use Rattle.loc_course.specs.Outcomes.{Outcome, by_lines, exactly, file, outcome}
use Rattle.loc_course.specs.Sentences.{EndsSo, Ended, Sentences, Steady, Wrote, status_of}
use Rattle.loc_course.proofs.{Endings.at_cut, Statuses.ended_so, Statuses.rose_not, Statuses.succeeds_case}
use Rattle.loc_course.proofs.Told.{ends_so}
use Rattle.loc_indexed.specs.{Asks.OrMemory, IndexBytes.IsIndexFile, IndexTexts.index_fault_text}
use Rattle.loc_indexed.specs.IndexedCourses.{answer_in, asked_course, index_course}
use Rattle.loc_indexed.specs.Verifies.{AreHeld, IsRefused, IsToldFile}
use Rattle.loc_indexed.specs.Verifying.{judged_course}
use Rattle.loc_indexed.proofs.IndexOutcomes.{index_long, index_read, memory, refused_by}
use Rattle.loc_indexed.proofs.ReadBack.{file_reads}
use Rattle.loc_upgrade.specs.UpgradeCourses.{upgrade_course}
use Rattle.loc_upgrade.specs.Upgrades.{IsUpgradeOf, Upgraded, Upgrades}
use Rattle.loc_upgrade.proofs.Along.{listing, remaking, upgrade_counted, upgrade_keeps_out, upgrade_makes_one}
use Rattle.loc_upgrade.proofs.{FileBytes.upgrade_bytes, FileSizes.file_within, EdgesTold.held_bytes}

-- the course of a judgement behind an index
abbrev pub judging : Content → Course
judging c = judged_course c (first_flaw c)

judged_same : (c : Content) (told later : Text → Told) (o : Option Flaw) → outcome later (judged_course c o) ≡ outcome told (judged_course c o)
judged_same c told later None = refl
judged_same c told later (Some flaw) = refl

-- a file of one content is true where another is
true_by : (c : Content) (bytes made : Text) (v w : ℕ) → IsFileOf v c bytes → IsFileOf w c made → IsTrueIndexFile bytes → IsTrueIndexFile made
true_by c bytes made v w first other is_true = (w, c, other, subst IsTrueIndex (one_file bytes is_true.0 v is_true.1 c is_true.2 first).1 is_true.3)

-- ---- the second version of what an index file holds

module _ (bytes : Text) (c : Content) (small : AreBytes bytes) (is : IsIndexFile c bytes) where
  second : IsFileOf 2 c (bytes_of 2 c)
  second = renewed bytes is.0 c is.1

  reads_first : reading bytes ≡ Ok c
  reads_first = file_reads bytes c small is

  reads_second : reading (bytes_of 2 c) ≡ Ok c
  reads_second = file_reads (bytes_of 2 c) c (upgrade_bytes bytes is.0 c small is.1) (2, second)

  -- a course behind the old file, and the same behind the new one
  module _ (told later : Text → Told) (old new : Text) (first : told old ≡ holds bytes) (other : later new ≡ holds (bytes_of 2 c)) where
    same_behind : (next : Content → Course) → outcome later (next c) ≡ outcome told (next c) → outcome later (index_course new next) ≡ outcome told (index_course old next)
    same_behind next same =
        index_read later new (bytes_of 2 c) other next (file_within (bytes_of 2 c) 2 c second) (Ok c) reads_second ∙ (same ∙ sym (index_read told old bytes first next (file_within bytes is.0 c is.1) (Ok c) reads_first))

  pub is_upgrade : IsUpgradeOf bytes (bytes_of 2 c)
  is_upgrade = record {
    content = c;
    file = is;
    made_file = second;
    reads = reads_first;
    made_reads = reads_second;
    same = λ d of. (let one : c ≡ d = (one_file bytes is.0 2 c d is.1 of).1 in ap (bytes_of 2) one ∙ sym of.spelled);
    as_true = (true_by c bytes (bytes_of 2 c) is.0 2 is.1 second, true_by c (bytes_of 2 c) bytes 2 is.0 second is.1);
    asked = λ old new points told later first other also. same_behind told later old new first other (asked_course points) (ap (by_lines (source points most_text (ended (codes "points: too long"))) (answer_in c)) also);
    judged = λ old new told later first other. same_behind told later old new first other judging (judged_same c told later (first_flaw c));
    listed = λ old new told later first other. same_behind told later old new first other listing refl;
  }

-- ---- what making it leaves

module _ (old new : Text) (from to : Moment) (n n' : Stream) (status : ℕ) (e : Ended (upgrade_course old new) from to n n' status) where
  abbrev s : Sentences (upgrade_course old new) from to n n' status
  s = ended_so e

  -- a refusal by this line
  refused : (line : Text) → OrMemory from to status ((status ≡ 1) × (to.out.written ≡ from.out.written) × Wrote n n' line) → OrMemory from to status (IsRefused from to status × Wrote n n' line)
  refused line so = elim so [ inl one ↦ inl ((one.0, one.1), one.2) | inr five ↦ inr five ]

  -- the bytes that were told are those of the content that was made
  upgrade_of : (bytes : Text) (c : Content) → from.shelf.told old ≡ holds bytes → IsToldFile (from.shelf.told old) c → IsUpgradeOf bytes (bytes_of 2 c)
  upgrade_of bytes c told held =
      let text : held.0 ≡ bytes = held_bytes (from.shelf.told old) bytes held.0 told held.1 in
      is_upgrade bytes c (subst AreBytes text held.2) (subst (IsIndexFile c) text held.3)

  -- an index file ends with status 0, unless a read or a write failed
  by_end : (end : Option Stopped) → AtEnd (FileWritesAreCounted from.shelf.write_faults to.shelf.write_faults) end → (passes : Text → Bool) → EndsSo (file new passes) from.out.written to end
      → (status_of end ≡ 3 → ⊥) → Steady from.shelf.write_faults to.shelf.write_faults → (status_of end ≡ 0) ⊎ (status_of end ≡ 5)
  by_end end at passes ends no_read writes =
      let no_write : status_of end ≡ 4 → ⊥ = λ four. rose_not from.shelf.write_faults to.shelf.write_faults (at_cut (FileWritesAreCounted from.shelf.write_faults to.shelf.write_faults) end at four) writes in
      succeeds_case from to (file new passes) end ends no_read no_write tt

  upgrades_any : (bytes : Text) (c : Content) → AreHeld old from to bytes c → Steady from.shelf.write_faults to.shelf.write_faults → OrMemory from to status (status ≡ 0)
  upgrades_any bytes c h writes =
      let comes : outcome from.shelf.told (upgrade_course old new) ≡ file new (exactly (bytes_of 2 c)) = index_read from.shelf.told old bytes h.told (remaking new) h.within (Ok c) (file_reads bytes c h.small h.file) in
      let no_read : status_of e.end ≡ 3 → ⊥ = λ three. (let rose = (s.reads_fail h.reads.0).0 (e.status_is ∙ three) in let same = h.reads.1 in omega (arith, rose, same)) in
      let end = by_end e.end (upgrade_counted old new e.follows) (exactly (bytes_of 2 c)) (subst (λ (o : Outcome). EndsSo o from.out.written to e.end) comes (ends_so e.follows)) no_read writes in
      elim end [
        | inl zero ↦ inl (e.status_is ∙ zero)
        | inr five ↦ inr (memory (upgrade_course old new) from to n n' status s (e.status_is ∙ five))
      ]

  pub upgrades : Upgraded old new from.shelf to.shelf status → Upgrades old new from to n n' status
  upgrades upgraded = record {
    made = λ bytes told zero. (let d = upgraded.done zero in (bytes_of 2 d.0, upgrade_of bytes d.0 told d.1, d.2));
    cut = λ bytes told four. elim (upgraded.cut four) [
      | inl same ↦ inl same
      | inr d ↦ inr (bytes_of 2 d.0, upgrade_of bytes d.0 told d.1, d.2)
    ];
    upgrades = upgrades_any;
    too_long = λ bytes told long steady. refused (ended (codes "index: too long"))
        (refused_by (upgrade_course old new) from to n n' status s (ended (codes "index: too long")) (index_long from.shelf.told old bytes told (remaking new) long) steady);
    at_fault = λ bytes fault told few reads steady. refused (ended (index_fault_text fault))
        (refused_by (upgrade_course old new) from to n n' status s (ended (index_fault_text fault)) (index_read from.shelf.told old bytes told (remaking new) few (Err fault) reads) steady);
    out = upgrade_keeps_out old new e.follows;
    kept = s.files.kept;
    others = λ name differ. s.files.others name (upgrade_makes_one old new name differ);
  }
