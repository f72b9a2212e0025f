-- What commands on an index file of either version make and write, by their courses.
use Rattle.std.proofs.Common.{◌≡◌, ◌≢◌, ℕ, Bool, refl}
use Rattle.std.specs.Prelude.{Option, Result, Ok, Err}
use Rattle.loc_spec_text.specs.Bytes.{Text}
use Rattle.loc_io.specs.{Meaning.Told, Streams.Stream}
use Rattle.loc_spec_index.specs.{declared.IndexFault.IndexFault, Content.Content, IndexFile.bytes_of}
use Rattle.loc_laws_index.specs.IndexReading.{reading}
use Rattle.loc_course.specs.Courses.{Source, Course, makes, reads, refuses, writes, Stopped}
use Rattle.loc_course.specs.{Endings.AtEnd, Endings.Did, Endings.DidSo, Outcomes.exactly}
use Rattle.loc_course.specs.Following.{FileWritesAreCounted, Follows, Moment, lacks, refuses_by, reads_not, reads_by, makes_by}
use Rattle.loc_course.specs.Sentences.{AtOnce, IsPlain, MayMake, SearchesNothing}
use Rattle.loc_course.proofs.Endings.{at_both, did_at}
use Rattle.loc_course.proofs.Plain.{plain_reads, plain_refuses, plain_writes}
use Rattle.loc_indexed.specs.IndexedCourses.{index_in}
use Rattle.loc_indexed.proofs.Behind.{index_all}
use Rattle.loc_upgrade.specs.{EdgeTexts.edges_text, UpgradeCourses.edges_course, UpgradeCourses.upgrade_course}

-- ---- the edges of an index

-- the course behind an index
abbrev pub listing : Content → Course
listing c = writes (exactly (edges_text c))

pub edges_plain : (index : Text) → IsPlain (edges_course index)
edges_plain index = plain_reads _ _ (λ bytes. index_all IsPlain plain_refuses (reading bytes) listing (λ c. plain_writes (exactly (edges_text c))))

pub edges_search_nothing : (index : Text) → SearchesNothing (edges_course index)
edges_search_nothing index bytes = index_all SearchesNothing (λ passes. tt) (reading bytes) listing (λ c. tt)

-- ---- an upgrade

-- the course behind an index
abbrev pub remaking : Text → Content → Course
remaking new c = makes new (exactly (bytes_of 2 c))

module _ (old new : Text) where
  pub upgrade_at_once : AtOnce (upgrade_course old new)
  upgrade_at_once bytes = index_all AtOnce (λ passes. tt) (reading bytes) (remaking new) (λ c. tt)

  pub upgrade_makes_one : (name : Text) → name ≢ new → MayMake (upgrade_course old new) name → ⊥
  upgrade_makes_one name differ maker = index_all (λ c. MayMake c name → ⊥) (λ passes m. m) (reading maker.0) (remaking new) (λ c. differ) maker.1

  pub upgrade_searches_nothing : SearchesNothing (upgrade_course old new)
  upgrade_searches_nothing bytes = index_all SearchesNothing (λ passes. tt) (reading bytes) (remaking new) (λ c. tt)

-- nothing is done to out
out_refused : (test : Text → Bool) {m n : Moment} {end : Option Stopped} → Follows (refuses test) m n end → n.out ≡ m.out
out_refused test lacks = refl
out_refused test (refuses_by line is) = refl

out_made : (name : Text) (test : Text → Bool) {m n : Moment} {end : Option Stopped} → Follows (makes name test) m n end → n.out ≡ m.out
out_made name test lacks = refl
out_made name test (makes_by text shelf is made) = refl

out_read : (s : Source) (then : Text → Course) {m n : Moment} {end : Option Stopped} → ((text : Text) (x : Moment) → Follows (then text) x n end → n.out ≡ x.out) → Follows (reads s then) m n end → n.out ≡ m.out
out_read s then each lacks = refl
out_read s then each (reads_not shelf read) = refl
out_read s then each (reads_by {m = m} text shelf read rest) = each text (record m { shelf = shelf }) rest

pub upgrade_keeps_out : (old new : Text) {m n : Moment} {end : Option Stopped} → Follows (upgrade_course old new) m n end → n.out ≡ m.out
upgrade_keeps_out old new {n = n} {end = end} follows = out_read _ _ (λ text x. index_all (λ c. Follows c x n end → n.out ≡ x.out) (λ test f. out_refused test f) (reading text) (remaking new) (λ c f. out_made new (exactly (bytes_of 2 c)) f)) follows

-- where it was done or a write failed, the count of writes of files tells which
counted_in : (new : Text) (told : Text → Told) (out : Stream) (faults : ℕ) (to : Moment) (end : Option Stopped) (r : Result Content IndexFault) → DidSo (index_in r (remaking new)) told out faults to end
    → FileWritesAreCounted faults to.shelf.write_faults end
counted_in new told out faults to end (Ok c) did = did.counts
counted_in new told out faults to end (Err fault) did = absurd did

pub upgrade_counted : (old new : Text) {m n : Moment} {end : Option Stopped} → Follows (upgrade_course old new) m n end → AtEnd (FileWritesAreCounted m.shelf.write_faults n.shelf.write_faults) end
upgrade_counted old new {m = m} {n = n} {end = end} follows = at_both (Did (upgrade_course old new) m n) (FileWritesAreCounted m.shelf.write_faults n.shelf.write_faults)
    (λ e did. counted_in new m.shelf.told m.out m.shelf.write_faults n e (reading did.0) did.3) end (did_at follows)
