-- How an upgrade ended, by what was held and what was made of it.
use Rattle.std.proofs.Common.{[], Option, None, Some, refl, ◌∙◌, inl, inr, arith}
use Rattle.loc_spec_text.specs.Bytes.{Text}
use Rattle.loc_io.specs.Meaning.{KeepsFiles, Meaning, Told}
use Rattle.loc_spec_index.specs.{Content.Content, IndexFile.bytes_of}
use Rattle.loc_laws_index.specs.IndexReading.{reading}
use Rattle.loc_course.specs.Courses.{Course, refuses, Stopped, refused}
use Rattle.loc_course.specs.Following.{Follows, MakesFile, Moment, refuses_by}
use Rattle.loc_course.specs.{Outcomes.exactly, Sentences.MakesNone, Sentences.MayMake, Sentences.status_of}
use Rattle.loc_course.proofs.{Along.files, Along.not_done, Told.exactly_it}
use Rattle.loc_indexed.specs.{IndexedCourses.index_course, Verifies.IsToldFile}
use Rattle.loc_indexed.proofs.Behind.{index_all}
use Rattle.loc_upgrade.specs.{TellsEdges.Listed, Upgrades.Upgraded}

-- a course that refuses every index makes no file
abbrev refusing : Content → Course
refusing c = refuses (exactly [])

refusing_makes_none : (old : Text) → MakesNone (index_course old refusing)
refusing_makes_none old name maker = index_all (λ c. MayMake c name → ⊥) (λ passes m. m) (reading maker.0) refusing (λ c m. m) maker.1

module _ (old : Text) (m n : Moment) where
  -- so reading one leaves all files as they are
  pub stopped_keeps : (stop : Stopped) → ((next : Content → Course) → Follows (index_course old next) m n (Some stop)) → KeepsFiles m.shelf n.shelf
  stopped_keeps stop follows = (files (follows refusing)).all (refusing_makes_none old)

  pub read_keeps : (c : Content) → ((next : Content → Course) (last : Moment) (end : Option Stopped) → Follows (next c) n last end → Follows (index_course old next) m last end) → KeepsFiles m.shelf n.shelf
  read_keeps c goes = (files (goes refusing n (Some (refused [])) (refuses_by [] (exactly_it [] [] refl)))).all (refusing_makes_none old)

module _ (old new : Text) (from to : Meaning) where
  -- the old file was not read
  pub not_upgraded : (stop : Stopped) → KeepsFiles from to → Upgraded old new from to (status_of (Some stop))
  not_upgraded stop keeps = record { done = λ zero. absurd (not_done stop zero); cut = λ four. inl (keeps new) }

  -- it was read, and a file was made of it
  pub upgraded_by : (c : Content) (mid : Meaning) → IsToldFile (from.told old) c → KeepsFiles from mid → (came : Option Stopped) → MakesFile new (bytes_of 2 c) mid to came → Upgraded old new from to (status_of came)
  upgraded_by c mid told keeps None made = record { done = λ zero. (c, told, made.made); cut = λ four. absurd (omega (arith, four)) }
  upgraded_by c mid told keeps (Some stop) made = record {
    done = λ zero. absurd (not_done stop zero);
    cut = λ four. elim made.made [ inl same ↦ inl (same ∙ keeps new) | inr front ↦ inr (c, told, front) ];
  }

-- an index that was not read is not listed
pub not_listed : (told : Told) (stop : Stopped) → Listed told (status_of (Some stop))
not_listed told stop zero = absurd (not_done stop zero)
