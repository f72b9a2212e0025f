-- What a command leaves that followed a course in which index files alone pass.
use Rattle.std.proofs.Common.{◌≡◌, ◌⊎◌, ℕ, Bool, true, false, ◌&&◌, List, Option, Some, None, refl, sym, subst, inl, inr}
use Rattle.std.specs.Prelude.{IsTrue}
use Rattle.std.proofs.lemmas.Bool.{and_from, and_parts, true≢false}
use Rattle.loc_spec_text.specs.Bytes.{Text}
use Rattle.loc_io.specs.{Meaning.Meaning, Streams.Stream, Streams.stream}
use Rattle.loc_rings.specs.Values.{Feature}
use Rattle.loc_course.specs.{Courses.Stopped, Courses.unwritten, Endings.AtEnd, Moments.IsToldText, Outcomes.exactly}
use Rattle.loc_course.specs.Following.{Follows, IsCut, IsMade, moment}
use Rattle.loc_course.specs.Sentences.{status_of}
use Rattle.loc_course.proofs.{Endings.at_cut, Endings.at_done, Told.exactly_it, Told.it_exactly}
use Rattle.loc_maps.specs.MapCourses.{LayerFile}
use Rattle.loc_indexed.specs.Building.{build_course, is_index_text}
use Rattle.loc_indexed.specs.{Builds.Built, Builds.IsBuiltOf, Builds.IsIndexFileOf, Followed.FollowsTruly}
use Rattle.loc_indexed.proofs.IndexFiles.{index_is, index_passes}
use Rattle.loc_indexed.proofs.MadeCourses.{AcceptedSo, came, follows_wider}

-- no text passes
abbrev pub none_pass : List Feature → Text → Bool
none_pass layer text = false

pub none_truly : (scale : ℕ) (layer : List Feature) (made : Text) → IsTrue (none_pass layer made) → IsIndexFileOf scale layer made
none_truly scale layer made is = absurd (true≢false (sym is))

-- one text passes, where it reads as an index file of the layer
abbrev pub one_passes : ℕ → Text → List Feature → Text → Bool
one_passes scale text layer made = is_index_text scale layer made && exactly text made

pub one_is : (scale : ℕ) (text : Text) (layer : List Feature) → IsIndexFileOf scale layer text → IsTrue (one_passes scale text layer text)
one_is scale text layer is = and_from (is_index_text scale layer text) (exactly text text) (index_passes scale layer text is) (exactly_it text text refl)

pub one_truly : (scale : ℕ) (text : Text) (layer : List Feature) → IsIndexFileOf scale layer text → (other : List Feature) (made : Text) → IsTrue (one_passes scale text other made) → IsIndexFileOf scale other made
one_truly scale text layer is other made passes =
    let parts = and_parts (is_index_text scale other made) (exactly text made) passes in
    let same : made ≡ text = it_exactly text made parts.1 in
    subst (λ (t : Text). IsIndexFileOf scale other t) (sym same)
    (index_is scale other text is.content is.bytes is.file is.is_true (subst (λ (t : Text). is_index_text scale other t ≡ true) same parts.0))

module _ (file : LayerFile) (index : Text) (old new : Meaning) where
  -- it followed the course of a build
  pub follows_build : (end : Option Stopped) → FollowsTruly file index old new end → (o : Stream) (k : ℕ) → Follows (build_course file index) (moment old o k) (moment new o k) end
  follows_build end truly o k = follows_wider truly.passes (is_index_text file.scale) (λ layer text is. index_passes file.scale layer text (truly.truly layer text is)) file index (truly.follows o k)

  module _ (passes : List Feature → Text → Bool) (truly : (layer : List Feature) (made : Text) → IsTrue (passes layer made) → IsIndexFileOf file.scale layer made) where
    is_built : (end : Option Stopped) (a : AcceptedSo passes file index old new end) → IsBuiltOf file a.text a.made.made
    is_built end a = record { layer = a.layer; accepted = a.accepted; index = truly a.layer a.made.made a.made.is }

    done : (end : Option Stopped) → AtEnd (AcceptedSo passes file index old new) end → status_of end ≡ 0 → (text made : Text) × IsToldText (old.told file.name) text × IsBuiltOf file text made × IsMade made (new.told index)
    done end at zero = let a = at_done (AcceptedSo passes file index old new) end at zero in (a.text, a.made.made, a.told, is_built None a, a.made.file)

    cut : (end : Option Stopped) → AtEnd (AcceptedSo passes file index old new) end → status_of end ≡ 4
        → (new.told index ≡ old.told index) ⊎ ((text made : Text) × IsToldText (old.told file.name) text × IsBuiltOf file text made × IsCut made (new.told index))
    cut end at four = let a = at_cut (AcceptedSo passes file index old new) end at four in elim a.made.file [
      | inl same ↦ inl same
      | inr front ↦ inr (a.text, a.made.made, a.told, is_built (Some unwritten) a, front)
    ]

  -- and left this
  pub built_by : (end : Option Stopped) → FollowsTruly file index old new end → Built file index old new (status_of end)
  built_by end truly =
      let at = came truly.passes file index (truly.follows (stream None 0 0) 0) in
      record { done = done truly.passes truly.truly end at; cut = cut truly.passes truly.truly end at }
