-- What is taken off the bytes of a file is told by its fields, in order; so the first fault, or the content, is what the bytes read as.
use Rattle.std.proofs.Common.{◌≡◌, ℕ, zero, suc, ◌+◌, ◌≤◌, Bool, true, false, ◌&&◌, ◌||◌, List, [], length, take, drop, get_or, refl, sym, ◌∙◌, ap, Option, Some, None, Ok, Err, ◌==◌, inl, inr}
use Rattle.std.specs.Prelude.{codes, if◌then◌else◌}
use Rattle.std.specs.{List.flat_map, List.list_all, Int.w32, Int.to_be_bytes, Str.bytes_eq}
use Rattle.std.proofs.lemmas.Bool.{eqb-true, eq-eqb, and_from, cases_Bool, cond-true, cond-false}
use Rattle.std.proofs.lemmas.Slice.Eq.{bytes_eq-Decides}
use Rattle.loc_spec_index.specs.{declared.IndexFault.IndexFault, Content.Content}
use Rattle.loc_spec_index.specs.IndexFile.{Field, magic, version, number, is_right, is_version, fields, parts, id_fields, corner_fields, edge_fields, mark_fields, cover_fields, node_fields, none_or_next, names_sources, is_own_source, IsShaped, IsFileOf, HasFault}
use Rattle.loc_laws_index.specs.IndexReading.{AreBytes, Taker, times, word_off, id_off, corner_off, edge_by, edge_off, mark_off, list_off, floor_off, node_off, counts_off, held_in, version_in, fault_from, unless_fault, reading, ReadsFiles}
use Rattle.loc_laws_index.proofs.Agree.{holds-unless}
use Rattle.loc_laws_index.proofs.OneReading.{one_file, one_fault, no_fault_in_file}
use Rattle.loc_laws_index.proofs.Told.{Told, told-append, told_rows, told_each, told_map, told_id, told_corner, told_edge, told_mark, told_list, told_floor, told_root, told_node, word_is, length-times}
use Rattle.loc_laws_index.proofs.Judged.{Judged, judged}

letters_are : (letters : List ℕ) → is_right (magic letters) ≡ true → letters ≡ codes "LOCINDEX"
letters_are letters r = (bytes_eq-Decides letters (codes "LOCINDEX")).0 (holds-unless _ _ r)

letters_back : (letters : List ℕ) → letters ≡ codes "LOCINDEX" → bytes_eq letters (codes "LOCINDEX") ≡ true
letters_back letters e = (bytes_eq-Decides letters (codes "LOCINDEX")).1 e

-- a version that is right is the second where the bytes say so, and else the first
version_found : (b : Bool) (n : ℕ) → b ≡ true → is_right (version n) ≡ true → n ≡ (if b && (n == 2) then 2 else 1)
version_found true n e r = elim (cases_Bool (n == 2)) [
  | inl two ↦ eqb-true n 2 two ∙ sym (cond-true (n == 2) 2 1 two)
  | inr other ↦ eqb-true n 1 (either (n == 1) (n == 2) (holds-unless (is_version n) _ r) other) ∙ sym (cond-false (n == 2) 2 1 other)
]
  where
    either : (s t : Bool) → (s || t) ≡ true → t ≡ false → s ≡ true
    either true t h k = refl
    either false t h k = sym k ∙ h
version_found false n e r = absurd (cc)

-- the number of rows that are taken is the number that the bytes say
module _ {X : Type 0} (off : Taker X) (bound : ℕ) (rest behind : List ℕ) where
  counted : number w32 bound (word_off rest).0 ≡ number w32 bound (length (times off (word_off rest).0 behind).0)
  counted = ap (number w32 bound) (sym (length-times off (word_off rest).0 behind))

  counted_is : AreBytes rest → 4 ≤ length rest → to_be_bytes w32 (length (times off (word_off rest).0 behind).0) ≡ take 4 rest
  counted_is small fits = ap (to_be_bytes w32) (length-times off (word_off rest).0 behind) ∙ word_is rest small fits

own_sources : (n : ℕ) (rest : List ℕ) → list_all is_own_source (times (edge_by false) n rest).0 ≡ true
own_sources zero rest = refl
own_sources (suc n) rest =
    let e = (edge_by false rest).0 in
    and_from (is_own_source e) (list_all is_own_source (times (edge_by false) n (edge_by false rest).1).0)
    (and_from (e.source.0 == e.ends.0) (e.source.1 == e.ends.1) (eq-eqb e.source.0 e.ends.0 refl) (eq-eqb e.source.1 e.ends.1 refl)) (own_sources n (edge_by false rest).1)

sources_by : (named : Bool) (n : ℕ) (rest : List ℕ) → (named || list_all is_own_source (times (edge_by named) n rest).0) ≡ true
sources_by true n rest = refl
sources_by false n rest = own_sources n rest

shaped : (v : ℕ) (bytes : List ℕ) → IsShaped v (held_in v bytes)
unfolding held_in
shaped v bytes =
    let n = counts_off (drop 4 (drop 8 bytes)) in
    let ids = times id_off n.0.features n.1 in
    let corners = times corner_off n.0.corners ids.1 in
    let edges = times (edge_off v) n.0.edges corners.1 in
    let marks = times mark_off n.0.marks edges.1 in
    let covers = times list_off n.0.covers marks.1 in
    let floors = times floor_off n.0.corners covers.1 in
    let long = sym (length-times corner_off n.0.corners ids.1) in
    record { floors = length-times floor_off n.0.corners covers.1 ∙ long; roots = length-times word_off n.0.corners floors.1 ∙ long; sources = sources_by (names_sources v) n.0.edges corners.1 }

told : (v : ℕ) (bytes : List ℕ) → version_in bytes ≡ v → Told (fields v (held_in v bytes)) bytes (λ _. Unit {0})
unfolding held_in fields
told v bytes is_v =
    let second = drop 8 bytes in
    let b12 = drop 4 second in
    let scale = word_off b12 in
    let features = word_off scale.1 in
    let corner_count = word_off features.1 in
    let edge_count = word_off corner_count.1 in
    let mark_count = word_off edge_count.1 in
    let cover_count = word_off mark_count.1 in
    let n = counts_off b12 in
    let ids = times id_off n.0.features n.1 in
    let corners = times corner_off n.0.corners ids.1 in
    let edges = times (edge_off v) n.0.edges corners.1 in
    let marks = times mark_off n.0.marks edges.1 in
    let covers = times list_off n.0.covers marks.1 in
    let floors = times floor_off n.0.corners covers.1 in
    let roots = times word_off n.0.corners floors.1 in
    let nodes = times node_off n.0.nodes roots.1 in
    let nv = length corners.0 in
    let ne = length edges.0 in
    let nf = length ids.0 in
    let nc = length covers.0 in
    let nn = length nodes.0 in
    let K : List ℕ → Type 0 = λ _. Unit {0} in
    let part : ℕ → List Field = λ k. get_or (parts v (held_in v bytes)) k [] in
    let from : ℕ → List Field = λ k. flat_map (λ part. part) (drop k (parts v (held_in v bytes))) in
    let t8 = told-append (part 8) [] roots.1 K (told_each (node_fields ne nv nn) node_off (told_node ne nv nn) n.0.nodes roots.1 K tt) in
    let t7 = told-append (part 7) (from 8) floors.1 K (told_map (number w32 (nn + 1)) word_off (told_root nn) n.0.corners floors.1 (λ r. Told (from 8) r K) t8) in
    let t6 = told-append (part 6) (from 7) covers.1 K (told_map (λ floor. number w32 (ne + 1) (none_or_next floor)) floor_off (told_floor ne) n.0.corners covers.1 (λ r. Told (from 7) r K) t7) in
    let t5 = told-append (part 5) (from 6) marks.1 K (told_rows (cover_fields nf) list_off (told_list nf) n.0.covers [] marks.1 (λ r. Told (from 6) r K) t6) in
    let t4 = told-append (part 4) (from 5) edges.1 K (told_rows (mark_fields ne nf) mark_off (told_mark ne nf) n.0.marks [] edges.1 (λ r. Told (from 5) r K) t5) in
    let t3 = told-append (part 3) (from 4) corners.1 K (told_rows (edge_fields v nv nc) (edge_off v) (told_edge v nv nc) n.0.edges [] corners.1 (λ r. Told (from 4) r K) t4) in
    let t2 = told-append (part 2) (from 3) ids.1 K (told_rows corner_fields corner_off told_corner n.0.corners [] ids.1 (λ r. Told (from 3) r K) t3) in
    let t1 = told-append (part 1) (from 2) n.1 K (told_each id_fields id_off told_id n.0.features n.1 (λ r. Told (from 2) r K) t2) in
    λ s f r. (
    let letters = letters_are (take 8 bytes) r in (
      ap magic letters,
      sym letters,
      λ s f r. (
          let one : (word_off second).0 ≡ v = version_found (bytes_eq (take 8 bytes) (codes "LOCINDEX")) (word_off second).0 (letters_back (take 8 bytes) letters) r ∙ is_v in (
            ap version one,
            ap (to_be_bytes w32) (sym one) ∙ word_is second s f,
            λ s f r. (
              refl,
              word_is b12 s f,
              λ s f r. (
                counted id_off _ scale.1 n.1,
                counted_is id_off 0 scale.1 n.1 s f,
                λ s f r. (
                  counted corner_off _ features.1 ids.1,
                  counted_is corner_off 0 features.1 ids.1 s f,
                  λ s f r. (
                    counted (edge_off v) _ corner_count.1 corners.1,
                    counted_is (edge_off v) 0 corner_count.1 corners.1 s f,
                    λ s f r. (
                      counted mark_off _ edge_count.1 edges.1,
                      counted_is mark_off 0 edge_count.1 edges.1 s f,
                      λ s f r. (
                        counted list_off _ mark_count.1 marks.1,
                        counted_is list_off 0 mark_count.1 marks.1 s f,
                        λ s f r. (counted node_off _ cover_count.1 roots.1, counted_is node_off 0 cover_count.1 roots.1 s f, t1),
                      ),
                    ),
                  ),
                ),
              ),
            ),
          )),
    ))

outcome : (bytes : List ℕ) → AreBytes bytes → Judged (version_in bytes) (held_in (version_in bytes) bytes) bytes (fault_from 0 (fields (version_in bytes) (held_in (version_in bytes) bytes)) bytes)
outcome bytes small =
    let v = version_in bytes in
    judged v (held_in v bytes) bytes (λ _. Unit {0}) (shaped v bytes) (fields v (held_in v bytes)) [] bytes refl refl refl small (told v bytes refl)

module _ (bytes : List ℕ) (v : ℕ) (held : Content) where
  content_is : (w : ℕ) (c : Content) (o : Option IndexFault) → Judged v held bytes o → IsFileOf w c bytes → (unless_fault held o ≡ Ok c) × (v ≡ w)
  content_is w c None same file = let one = one_file bytes v w held c same file in (ap Ok one.1, one.0)
  content_is w c (Some g) fault file = absurd (no_fault_in_file bytes w c g file fault)

  fault_is : (f : IndexFault) (o : Option IndexFault) → Judged v held bytes o → HasFault bytes f → unless_fault held o ≡ Err f
  fault_is f None same fault = absurd (no_fault_in_file bytes v held f same fault)
  fault_is f (Some g) found fault = ap Err (one_fault bytes g f found fault)

pub reads_files : ReadsFiles
unfolding reading
reads_files = record {
  content = λ bytes w c small file. content_is bytes (version_in bytes) (held_in (version_in bytes) bytes) w c _ (outcome bytes small) file;
  fault = λ bytes f small fault. fault_is bytes (version_in bytes) (held_in (version_in bytes) bytes) f _ (outcome bytes small) fault;
}
