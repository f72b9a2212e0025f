-- What the told files of a listing of edges come to, and what it leaves.
use Rattle.std.proofs.Common.{◌≡◌, ℕ, Option, Ok, Err, subst, inl, inr}
use Rattle.std.specs.{Prelude.codes, Io.KnownBytes.Appends}
use Rattle.loc_spec_text.specs.{Bytes.Text, Points.ended}
use Rattle.loc_io.specs.{Meaning.Told, Meaning.holds, Streams.Stream}
use Rattle.loc_spec_index.specs.{Content.Content, Content.table_in}
use Rattle.loc_spec_plane.specs.Tables.{Table}
use Rattle.loc_laws_index.specs.IndexReading.{AreBytes}
use Rattle.loc_course.specs.{Courses.Stopped, Courses.writes, Following.Follows}
use Rattle.loc_course.specs.{Moments.IsToldText, Moments.Moment, Outcomes.exactly}
use Rattle.loc_course.specs.Sentences.{NoneFailed, Sentences, Steady, Wrote}
use Rattle.loc_indexed.specs.{Asks.IsDone, Asks.OrMemory, IndexBytes.IsIndexFile, IndexTexts.index_fault_text}
use Rattle.loc_indexed.specs.Verifies.{AreHeld, IsRefused}
use Rattle.loc_indexed.proofs.IndexOutcomes.{finished, grown, index_long, index_read, refused_by}
use Rattle.loc_indexed.proofs.ReadBack.{file_reads}
use Rattle.loc_upgrade.specs.{EdgeTexts.edge_lines, EdgeTexts.edges_text, TellsEdges.Listed, TellsEdges.TellsEdges}
use Rattle.loc_upgrade.specs.UpgradeCourses.{edges_course}
use Rattle.loc_upgrade.proofs.{Along.edges_plain, Along.listing, FileSizes.file_within}

-- what was told is these bytes
pub held_bytes : (told : Told) (bytes text : Text) → told ≡ holds bytes → IsToldText told text → text ≡ bytes
held_bytes told bytes text is has = subst (λ (t : Told). IsToldText t text) is has

module _ (index : Text) (old new : Moment) (n n' : Stream) (status : ℕ) (s : Sentences (edges_course index) old new n n' status) where
  none_failed : Steady old.shelf.read_faults new.shelf.read_faults → Steady old.out.faults new.out.faults → NoneFailed (edges_course index) old new
  none_failed reads out = record { reads = reads; out = out; files = λ name maker. absurd ((edges_plain index).makes_none name maker) }

  in_any : (bytes : Text) (c : Content) → AreHeld index old new bytes c → Steady old.out.faults new.out.faults → OrMemory old new status (IsDone old new status (edges_text c))
  in_any bytes c h out = finished (edges_course index) old new n n' status s (edges_text c)
      (index_read old.shelf.told index bytes h.told listing h.within (Ok c) (file_reads bytes c h.small h.file)) (none_failed h.reads out)

  -- a refusal by this line
  refused : (line : Text) → OrMemory old new status ((status ≡ 1) × (new.out.written ≡ old.out.written) × Wrote n n' line) → OrMemory old new status (IsRefused old new status × Wrote n n' line)
  refused line so = elim so [ inl one ↦ inl ((one.0, one.1), one.2) | inr five ↦ inr five ]

  listed_only : Listed (old.shelf.told index) status → (bytes : Text) → old.shelf.told index ≡ holds bytes → status ≡ 0 → (c : Content) × IsIndexFile c bytes × Appends old.out.written new.out.written (edges_text c)
  listed_only listed bytes told zero =
      let l = listed zero in
      let c = l.0 in
      let text : l.1.0 ≡ bytes = held_bytes (old.shelf.told index) bytes l.1.0 told l.1.1 in
      let small : AreBytes bytes = subst AreBytes text l.1.2 in
      let file : IsIndexFile c bytes = subst (IsIndexFile c) text l.1.3 in
      let to = index_read old.shelf.told index bytes told listing (file_within bytes file.0 c file.1) (Ok c) (file_reads bytes c small file) in
      (c, file, grown (edges_course index) old new n n' status s (edges_text c) to zero)

  pub tells : Listed (old.shelf.told index) status → TellsEdges index old new n n' status
  tells listed = record {
    lists = in_any;
    only = listed_only listed;
    too_long = λ bytes told long steady. refused (ended (codes "index: too long"))
        (refused_by (edges_course index) old new n n' status s (ended (codes "index: too long")) (index_long old.shelf.told index bytes told listing long) steady);
    at_fault = λ bytes fault told few reads steady. refused (ended (index_fault_text fault))
        (refused_by (edges_course index) old new n n' status s (ended (index_fault_text fault)) (index_read old.shelf.told index bytes told listing few (Err fault) reads) steady);
    out = s.out.kept (edges_plain index).at_once;
  }

-- the lines that were written are those of what was held
pub same_written : (c : Content) (scale : ℕ) (t : Table) {m n : Moment} {end : Option Stopped} → scale ≡ c.scale → t ≡ table_in c → Follows (writes (exactly (edge_lines scale t))) m n end → Follows (writes (exactly (edges_text c))) m n end
same_written c scale t {m = m} {n = n} {end = end} same_scale same_table follows =
    subst (λ (k : ℕ). Follows (writes (exactly (edge_lines k (table_in c)))) m n end) same_scale
    (subst (λ (u : Table). Follows (writes (exactly (edge_lines scale u))) m n end) same_table follows)
