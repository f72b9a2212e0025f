-- A text that is an index file of a layer reads as one, and a file of a true index that reads as one is one.
use Rattle.std.proofs.Common.{◌≡◌, ℕ, Bool, true, false, not, List, map, Ok, refl, sym, ◌∙◌, ap, subst, ◌==◌}
use Rattle.std.specs.{Bool.Decides, Cmp.Lexicographic.pointwise, Str.bytes_eq}
use Rattle.std.proofs.lemmas.Bool.{and_from, and_parts, eq-eqb, eqb-true}
use Rattle.std.proofs.lemmas.Slice.Eq.{bytes_eq-Decides, slice_eq-Decides}
use Rattle.loc_spec_text.specs.Bytes.{Text}
use Rattle.loc_spec_plane.specs.{declared.Mark.Mark, Lists.exactly_one, Points.Point, Points.same_point}
use Rattle.loc_spec_plane.specs.Tables.{Table, noded_table_of}
use Rattle.loc_spec_index.specs.{Content.Content, Content.table_in, IndexFile.IsFileOf}
use Rattle.loc_spec_index.specs.TrueIndex.{IsIndexOf, IsTrueIndex}
use Rattle.loc_laws_index.specs.IndexReading.{AreBytes, reading}
use Rattle.loc_laws_order.proofs.Tests.{same_point_decides}
use Rattle.loc_rings.specs.Values.{Feature, rings_of}
use Rattle.loc_indexed.specs.Building.{is_content_for, is_index_text, is_read_for, same_mark, same_pair, same_table}
use Rattle.loc_indexed.specs.Builds.{IsIndexFileOf}
use Rattle.loc_indexed.proofs.ReadBack.{file_reads}

-- ---- the tests decide

one_bit : (a b : Bool) → not (exactly_one a b) ≡ true → a ≡ b
one_bit true true is = refl
one_bit true false is = absurd (cc is)
one_bit false true is = absurd (cc is)
one_bit false false is = refl

same_bit : (a : Bool) → not (exactly_one a a) ≡ true
same_bit true = refl
same_bit false = refl

marks_decide : (a b : Mark) → Decides (same_mark a b) (a ≡ b)
marks_decide a b = (
  λ is. (let parts = and_parts (a.feature == b.feature) (not (exactly_one a.odd b.odd)) is in
      let feature : a.feature ≡ b.feature = eqb-true a.feature b.feature parts.0 in
      let odd : a.odd ≡ b.odd = one_bit a.odd b.odd parts.1 in
      ap (λ (f : ℕ). record { feature = f; odd = a.odd }) feature ∙ ap (λ (o : Bool). record { feature = b.feature; odd = o }) odd),
  λ same. subst (λ (x : Mark). same_mark a x ≡ true) same (and_from (a.feature == a.feature) _ (eq-eqb a.feature a.feature refl) (same_bit a.odd)),
)

pairs_decide : (a b : ℕ × ℕ) → Decides (same_pair a b) (a ≡ b)
pairs_decide a b = (
  λ is. (let parts = and_parts (a.0 == b.0) (a.1 == b.1) is in
      let first : a.0 ≡ b.0 = eqb-true a.0 b.0 parts.0 in
      let second : a.1 ≡ b.1 = eqb-true a.1 b.1 parts.1 in
      ap (λ (n : ℕ). (n, a.1)) first ∙ ap (λ (n : ℕ). (b.0, n)) second),
  λ same. subst (λ (x : ℕ × ℕ). same_pair a x ≡ true) same (and_from (a.0 == a.0) (a.1 == a.1) (eq-eqb a.0 a.0 refl) (eq-eqb a.1 a.1 refl)),
)

rows_decide : (xs ys : List Mark) → Decides (pointwise same_mark xs ys) (xs ≡ ys)
rows_decide xs ys = slice_eq-Decides marks_decide xs ys (pointwise same_mark xs ys) refl

by_parts : (s t : Table) → s.corners ≡ t.corners → s.ends ≡ t.ends → s.marks ≡ t.marks → s.sources ≡ t.sources → s ≡ t
by_parts s t corners ends marks sources =
    ap (λ (cs : List Point). record { corners = cs; ends = s.ends; marks = s.marks; sources = s.sources }) corners
    ∙ (ap (λ (es : List (ℕ × ℕ)). record { corners = t.corners; ends = es; marks = s.marks; sources = s.sources }) ends
    ∙ (ap (λ (ms : List (List Mark)). record { corners = t.corners; ends = t.ends; marks = ms; sources = s.sources }) marks ∙ ap (λ (ss : List (ℕ × ℕ)). record { corners = t.corners; ends = t.ends; marks = t.marks; sources = ss }) sources))

tables_decide : (s t : Table) → Decides (same_table s t) (s ≡ t)
tables_decide s t = (
  λ is. (let first = and_parts (pointwise same_point s.corners t.corners) _ is in
      let second = and_parts (pointwise same_pair s.ends t.ends) _ first.1 in
      let third = and_parts (pointwise (pointwise same_mark) s.marks t.marks) _ second.1 in
      by_parts s t ((slice_eq-Decides same_point_decides s.corners t.corners _ refl).0 first.0) ((slice_eq-Decides pairs_decide s.ends t.ends _ refl).0 second.0) ((slice_eq-Decides rows_decide s.marks t.marks _ refl).0 third.0) ((slice_eq-Decides pairs_decide s.sources t.sources _ refl).0 third.1)),
  λ same. subst (λ (x : Table). same_table s x ≡ true) same
      (and_from (pointwise same_point s.corners s.corners) _ ((slice_eq-Decides same_point_decides s.corners s.corners _ refl).1 refl)
      (and_from (pointwise same_pair s.ends s.ends) _ ((slice_eq-Decides pairs_decide s.ends s.ends _ refl).1 refl) (and_from (pointwise (pointwise same_mark) s.marks s.marks) _ ((slice_eq-Decides rows_decide s.marks s.marks _ refl).1 refl) ((slice_eq-Decides pairs_decide s.sources s.sources _ refl).1 refl)))),
)

module _ (scale : ℕ) (layer : List Feature) where
  abbrev ids : List (List ℕ)
  ids = map (λ (f : Feature). f.id) layer

  contents_decide : (c : Content) → Decides (is_content_for scale layer c) (IsIndexOf 2 scale ids (map rings_of layer) c)
  contents_decide c = (
    λ is. (let first = and_parts (c.scale == scale) _ is in
        let second = and_parts (pointwise bytes_eq c.ids ids) _ first.1 in
        (eqb-true c.scale scale first.0, (slice_eq-Decides bytes_eq-Decides c.ids ids _ refl).0 second.0, (tables_decide (table_in c) (noded_table_of (map rings_of layer))).0 second.1)),
    λ of. and_from (c.scale == scale) _ (eq-eqb c.scale scale of.0)
        (and_from (pointwise bytes_eq c.ids ids) _ ((slice_eq-Decides bytes_eq-Decides c.ids ids _ refl).1 of.1) ((tables_decide (table_in c) (noded_table_of (map rings_of layer))).1 of.2)),
  )

  -- what bytes are read as
  by_reading : (text : Text) (c : Content) → reading text ≡ Ok c → is_index_text scale layer text ≡ is_content_for scale layer c
  unfolding is_index_text
  by_reading text c reads = ap (is_read_for scale layer) reads

  -- an index file of the layer passes
  pub index_passes : (text : Text) → IsIndexFileOf scale layer text → is_index_text scale layer text ≡ true
  index_passes text is = by_reading text is.content (file_reads text is.content is.bytes (2, is.file)) ∙ (contents_decide is.content).1 is.of_layer

  -- and the file of a true index that passes is one
  pub index_is : (text : Text) (c : Content) → AreBytes text → IsFileOf 2 c text → IsTrueIndex c → is_index_text scale layer text ≡ true → IsIndexFileOf scale layer text
  index_is text c bytes file is_true passes = record {
    content = c;
    bytes = bytes;
    file = file;
    is_true = is_true;
    of_layer = (contents_decide c).0 (sym (by_reading text c (file_reads text c bytes (2, file))) ∙ passes);
  }
