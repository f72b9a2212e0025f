-- What comes of a course in which a file is made by a test of its text.
use Rattle.std.proofs.Common.{◌≡◌, ◌≢◌, ◌≤◌, Bool, true, false, List, length, Option, Ok, Err, refl}
use Rattle.std.specs.Prelude.{IsTrue, cond}
use Rattle.std.proofs.lemmas.Bool.{cond_both, ltb-false, not_from_false}
use Rattle.loc_spec_text.specs.{Bytes.Text, Points.ended, Limits.most_members, Limits.most_pieces, Limits.most_text}
use Rattle.loc_io.specs.Meaning.{Meaning}
use Rattle.loc_spec_plane.specs.{Covers.cover_sum, Tables.piece_count}
use Rattle.loc_rings.specs.Values.{Feature}
use Rattle.loc_csvform.specs.Layer.{LayerRead, layer_of}
use Rattle.loc_edges.specs.{Conflicts.has_conflict, Layers.layer_rings}
use Rattle.loc_course.specs.Courses.{Source, Course, reads, refuses, makes, Stopped}
pub use Rattle.loc_course.specs.Endings.{AtEnd, Did, MadeOf}
use Rattle.loc_course.specs.Following.{Follows, Moment, lacks, refuses_by, reads_not, reads_by, makes_by}
use Rattle.loc_course.specs.{Moments.IsToldText, Outcomes.exactly}
use Rattle.loc_course.specs.Sentences.{AtOnce, MayMake, SearchesNothing}
use Rattle.loc_course.proofs.Endings.{at_both, did_at}
use Rattle.loc_maps.specs.{Conflicts.names_conflict, Located.edges_of, Located.table_in}
use Rattle.loc_maps.specs.MapCourses.{LayerFile, accepted_course, covers_course, layer_in}
use Rattle.loc_maps.specs.{Maps.has_many_covers, Maps.has_many_pieces, LineTexts.covers_text, LineTexts.pieces_text}
use Rattle.loc_maps.proofs.Judged.{accepted_all, layer_all}
use Rattle.loc_query.specs.Headline.{IsAccepted}
use Rattle.loc_indexed.specs.Building.{made_course}

-- ---- a wider test

-- one of two courses is exchanged for another
exchanged : (P : Course → Type 0) (b : Bool) (x y z : Course) → (P y → P z) → P (cond b x y) → P (cond b x z)
exchanged P true x y z to here = here
exchanged P false x y z to here = to here

module _ (p q : List Feature → Text → Bool) (wider : (layer : List Feature) (text : Text) → IsTrue (p layer text) → IsTrue (q layer text)) (file : LayerFile) (index : Text) where
  making : (layer : List Feature) {m n : Moment} {end : Option Stopped} → Follows (makes index (p layer)) m n end → Follows (makes index (q layer)) m n end
  making layer lacks = lacks
  making layer (makes_by text shelf is made) = makes_by text shelf (wider layer text is) made

  behind : (m n : Moment) (end : Option Stopped) (r : LayerRead) → Follows (layer_in file.form r (λ l. accepted_course file.scale l (makes index (p l)))) m n end
      → Follows (layer_in file.form r (λ l. accepted_course file.scale l (makes index (q l)))) m n end
  behind m n end (Err fault) follows = follows
  behind m n end (Ok layer) follows =
      let F : Course → Type 0 = λ c. Follows c m n end in
      exchanged F (has_many_pieces layer) (refuses (exactly (ended pieces_text))) (accepted_course file.scale layer (makes index (p layer))) (accepted_course file.scale layer (makes index (q layer)))
      (exchanged F (has_conflict (edges_of layer)) (refuses (names_conflict file.scale (edges_of layer))) (covers_course (table_in layer) (makes index (p layer))) (covers_course (table_in layer) (makes index (q layer)))
      (exchanged F (has_many_covers (table_in layer)) (refuses (exactly (ended covers_text))) (makes index (p layer)) (makes index (q layer)) (making layer))) follows

  reading_on : (s : Source) {m n : Moment} {end : Option Stopped} → Follows (reads s (λ text. layer_in file.form (layer_of file.form file.scale text) (λ l. accepted_course file.scale l (makes index (p l))))) m n end
      → Follows (reads s (λ text. layer_in file.form (layer_of file.form file.scale text) (λ l. accepted_course file.scale l (makes index (q l))))) m n end
  reading_on s lacks = lacks
  reading_on s (reads_not shelf read) = reads_not shelf read
  reading_on s (reads_by {m = m} {n = n} {end = end} text shelf read rest) = reads_by text shelf read (behind (record m { shelf = shelf }) n end (layer_of file.form file.scale text) rest)

  -- what follows a course follows that of a wider test
  pub follows_wider : {m n : Moment} {end : Option Stopped} → Follows (made_course p file index) m n end → Follows (made_course q file index) m n end
  follows_wider follows = reading_on _ follows

-- ---- how it ended

-- the layer was accepted, and its file was made of a text that passes, or cut
pub record AcceptedSo (passes : List Feature → Text → Bool) (file : LayerFile) (index : Text) (old new : Meaning) (end : Option Stopped) : Type 0 where
  pub text : Text
  pub layer : List Feature
  pub told : IsToldText (old.told file.name) text
  pub accepted : IsAccepted file text layer
  pub made : MadeOf (passes layer) (old.told index) (new.told index) old.write_faults new.write_faults end

module _ (passes : List Feature → Text → Bool) (file : LayerFile) (index : Text) where
  -- the course behind a layer
  abbrev pub behind_layer : List Feature → Course
  behind_layer layer = accepted_course file.scale layer (makes index (passes layer))

  -- a text that was read, and what the course behind it did
  by_layer : (text : Text) (m n : Moment) (end : Option Stopped) → length text ≤ most_text → IsToldText (m.shelf.told file.name) text
      → (r : LayerRead) → layer_of file.form file.scale text ≡ r → Did (layer_in file.form r behind_layer) m n end → AcceptedSo passes file index m.shelf n.shelf end
  by_layer text m n end few told (Err fault) is did = absurd did
  by_layer text m n end few told (Ok layer) is did =
      let P : Course → Type 0 = λ c. Did c m n end → AcceptedSo passes file index m.shelf n.shelf end in
      let many = exactly (ended covers_text) in
      cond_both (has_many_pieces layer) (refuses (exactly (ended pieces_text))) (accepted_course file.scale layer (makes index (passes layer))) P (λ _ none. absurd none)
      (λ cut. cond_both (has_conflict (edges_of layer)) (refuses (names_conflict file.scale (edges_of layer))) (covers_course (table_in layer) (makes index (passes layer))) P (λ _ none. absurd none)
      (λ apart. cond_both (has_many_covers (table_in layer)) (refuses many) (makes index (passes layer)) P (λ _ none. absurd none) (λ covers made. record {
        text = text;
        layer = layer;
        told = told;
        accepted = record { within = few; reads = is; few_pieces = ltb-false most_pieces (piece_count (layer_rings layer)) cut; apart = not_from_false (has_conflict (edges_of layer)) apart; few_covers = ltb-false most_members (cover_sum (table_in layer)) covers };
        made = made;
      }))) did

  -- where it was done or a write failed, the layer was accepted and a text that passes was made, or cut
  pub came : {m n : Moment} {end : Option Stopped} → Follows (made_course passes file index) m n end → AtEnd (AcceptedSo passes file index m.shelf n.shelf) end
  came {m = m} {n = n} {end = end} follows = at_both (Did (made_course passes file index) m n) (AcceptedSo passes file index m.shelf n.shelf)
      (λ e did. by_layer did.0 m n e did.1 did.2 (layer_of file.form file.scale did.0) refl did.3) end (did_at follows)

  -- ---- what it does not touch

  out_refused : (test : Text → Bool) {m n : Moment} {end : Option Stopped} → Follows (refuses test) m n end → n.out ≡ m.out
  out_refused test lacks = refl
  out_refused test (refuses_by line is) = refl

  out_made : (test : Text → Bool) {m n : Moment} {end : Option Stopped} → Follows (makes index test) m n end → n.out ≡ m.out
  out_made test lacks = refl
  out_made test (makes_by text shelf is made) = refl

  out_read : (s : Source) (then : Text → Course) {m n : Moment} {end : Option Stopped} → ((text : Text) (x : Moment) → Follows (then text) x n end → n.out ≡ x.out) → Follows (reads s then) m n end → n.out ≡ m.out
  out_read s then each lacks = refl
  out_read s then each (reads_not shelf read) = refl
  out_read s then each (reads_by {m = m} text shelf read rest) = each text (record m { shelf = shelf }) rest

  -- nothing is done to out
  pub out_kept : {m n : Moment} {end : Option Stopped} → Follows (made_course passes file index) m n end → n.out ≡ m.out
  out_kept {n = n} {end = end} follows = out_read _ _ (λ text x. layer_all (λ c. Follows c x n end → n.out ≡ x.out) (λ test f. out_refused test f) file.form (layer_of file.form file.scale text) behind_layer
      (λ layer. accepted_all (λ c. Follows c x n end → n.out ≡ x.out) (λ test f. out_refused test f) file.scale layer (makes index (passes layer)) (λ f. out_made (passes layer) f))) follows

  -- no other file is made
  pub makes_one : (name : Text) → name ≢ index → MayMake (made_course passes file index) name → ⊥
  makes_one name differ maker = layer_all (λ c. MayMake c name → ⊥) (λ test m. m) file.form (layer_of file.form file.scale maker.0) behind_layer
      (λ layer. accepted_all (λ c. MayMake c name → ⊥) (λ test m. m) file.scale layer (makes index (passes layer)) differ) maker.1

  -- nothing is answered line by line, and nothing is searched
  pub writes_at_once : AtOnce (made_course passes file index)
  writes_at_once text = layer_all AtOnce (λ test. tt) file.form (layer_of file.form file.scale text) behind_layer (λ layer. accepted_all AtOnce (λ test. tt) file.scale layer (makes index (passes layer)) tt)

  pub searches_none : SearchesNothing (made_course passes file index)
  searches_none text = layer_all SearchesNothing (λ test. tt) file.form (layer_of file.form file.scale text) behind_layer (λ layer. accepted_all SearchesNothing (λ test. tt) file.scale layer (makes index (passes layer)) tt)
