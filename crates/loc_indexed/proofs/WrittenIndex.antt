-- The file that is written of a layer is an index file of it.
use Rattle.std.proofs.Common.{◌≡◌, ℕ, ◌<◌, ◌≤◌, List, [], ◌∷◌, ◌++◌, ◌+◌, length, get_or, take, Ok, Err, Some, None, refl, sym, ◌∙◌, ap, subst, inl, inr, arith}
use Rattle.std.specs.Prelude.{All, ◌^◌, sum_by}
use Rattle.std.proofs.lemmas.List.{get_or-map, length-map, take_all, take_more}
use Rattle.std.proofs.lemmas.List.Elements.{All-append, All-cons}
use Rattle.loc_spec_text.specs.{Bytes.Text, Limits.most_id_bytes}
use Rattle.loc_io.specs.Meaning.{Meaning, Told, untold, absent, holds}
use Rattle.loc_spec_plane.specs.Covers.{feature_count}
use Rattle.loc_spec_plane.specs.Tables.{Table, AllEnds, AllEven, NoConflict, noded_table_of}
use Rattle.loc_spec_index.specs.{Content.Content, IndexFile.IsFileOf, IndexFile.bytes_of, TrueIndex.IsIndexOf}
use Rattle.loc_laws_index.specs.IndexReading.{AreBytes}
use Rattle.loc_rings.specs.Values.{Feature}
use Rattle.loc_edges.specs.Layers.{layer_rings}
use Rattle.loc_status.specs.Versions.{AreVersions}
use Rattle.loc_persist.specs.Meaning.{VersionsMeaning, IsMeaning}
use Rattle.loc_cover.specs.Legends.{LegendRows, IsSound, IsTrueLegend}
use Rattle.loc_write.specs.Written.{HoldsParts, IsContentOf}
use Rattle.loc_page.specs.Writing.{IsFront, IsWhole, WritesFile}
use Rattle.loc_laws_built.specs.Built.{IsPlaneOf}
use Rattle.loc_laws_built.proofs.{Counted.layer_fits, Spelled.bytes_of_are, True.content_is_true}
use Rattle.loc_course.specs.{Courses.unwritten, Following.IsCut, Following.IsMade, Following.MakesFile}
use Rattle.loc_maps.specs.Located.{table_in}
use Rattle.loc_maps.proofs.TableLaws.{few_features}
use Rattle.loc_indexed.specs.{Builds.IsIndexFileOf, Followed.IsLaidOut}

-- ---- all of a list

-- one member more
pub all_more : {X : Type 0} (P : X → Type 0) (xs : List X) (i : ℕ) (x : X) → x ≡ get_or xs i x → i < length xs → All P (take i xs) → P x → All P (take (i + 1) xs)
all_more P xs i x is fits all here =
    let more : take (i + 1) xs ≡ take i xs ++ x ∷ [] = take_more xs i x fits ∙ ap (λ y. take i xs ++ y ∷ []) (sym is) in
    subst (All P) (sym more) (All-append P (take i xs) (x ∷ []) all (All-cons P x [] here (λ k d less. absurd (omega (arith, less)))))

-- all members
pub all_taken : {X : Type 0} (P : X → Type 0) (xs : List X) (i : ℕ) → length xs ≤ i → All P (take i xs) → All P xs
all_taken P xs i past all = subst (All P) (take_all i xs past) all

-- ---- the making of a file, in the words of courses

whole_is : (text : Text) (t : Told) → IsWhole text t → IsMade text t
whole_is text untold is = tt
whole_is text absent is = is
whole_is text (holds bytes) is = is

front_is : (text : Text) (t : Told) → IsFront text t → IsCut text t
front_is text untold is = tt
front_is text absent is = is
front_is text (holds bytes) is = is

module _ {T E : Type 0} (name text : Text) (old new : Meaning) where
  pub made_file : (x : T) → WritesFile {T = T} {E = E} name text old new (Ok x) → MakesFile name text old new None
  made_file x w = record { reading = w.reading; others = w.others; made = whole_is text (new.told name) w.file; over = w.over; counts = w.cause.steady; in_time = w.in_time }

  pub cut_file : (e : E) → WritesFile {T = T} {E = E} name text old new (Err e) → MakesFile name text old new (Some unwritten)
  cut_file e w = record {
    reading = w.reading;
    others = w.others;
    made = elim w.file [ inl same ↦ inl same | inr front ↦ inr (front_is text (new.told name) front) ];
    over = tt;
    counts = w.cause.failed;
    in_time = w.in_time;
  }

-- ---- the table and the legend of a layer

-- the table of a layer, in the words of the plane
table_is : (layer : List Feature) → table_in layer ≡ noded_table_of (layer_rings layer)
unfolding table_in
table_is layer = refl

module _ (layer : List Feature) (t : Table) (rows : LegendRows) (laid : IsLaidOut layer t rows) where
  same : t ≡ noded_table_of (layer_rings layer)
  same = laid.map.table ∙ table_is layer

  pub few_edges : length t.ends ≤ 2 ^ 21
  few_edges = let few = (layer_fits layer laid.map.few_pieces).0 in let is = ap (λ (u : Table). length u.ends) same in omega (arith, few, is)

  pub few_marks : sum_by length t.marks ≤ 2 ^ 21
  few_marks = subst (λ (u : Table). sum_by length u.marks ≤ 2 ^ 21) (sym same) (layer_fits layer laid.map.few_pieces).1

  pub features_within : feature_count t ≤ length rows.ids
  features_within =
      let few = few_features layer in
      let is = ap feature_count laid.map.table in
      let a = ap (λ (ids : List (List ℕ)). length ids) laid.map.ids in
      let b = length-map layer (λ (f : Feature). f.id) in
      omega (arith, few, is, a, b)

  -- what holds of the ids in the layer holds of those of the legend
  all_ids : (P : List ℕ → Type 0) → All (λ (f : Feature). P f.id) layer → All P rows.ids
  all_ids P all = subst (All P) (sym laid.map.ids) (λ i d less.
      (let fits : i < length layer = (let long = length-map layer (λ (f : Feature). f.id) in omega (arith, less, long)) in
      let none : Feature = record { id = d; polygons = [] } in
      subst P (sym (get_or-map (λ (f : Feature). f.id) layer i none d fits)) (all i none fits)))

  pub short_ids : All (λ (id : List ℕ). length id ≤ most_id_bytes) rows.ids
  short_ids = all_ids (λ (id : List ℕ). length id ≤ most_id_bytes) laid.ids.short

  byte_ids : All AreBytes rows.ids
  byte_ids = all_ids AreBytes laid.ids.bytes

  module _ (m : VersionsMeaning) (sound : IsSound rows) (meaning : IsMeaning m) (versions : AreVersions t m.sealed_lists) where
    plane_of : IsPlaneOf (layer_rings layer) rows m
    plane_of = record {
      ended = subst AllEnds same laid.map.ended;
      even = subst AllEven same laid.map.even;
      apart = subst NoConflict same laid.map.apart;
      sound = sound;
      as_many = laid.map.fits.as_many_edges ∙ ap (λ (u : Table). length u.ends) same;
      legend = subst (λ (u : Table). IsTrueLegend u rows) same laid.map.is_true;
      meaning = meaning;
      versions = subst (λ (u : Table). AreVersions u m.sealed_lists) same versions;
    }

    -- the file of what is written is an index file of the layer
    pub index_written : (scale : ℕ) (c : Content) → IsContentOf scale t rows m c → HoldsParts t rows c → IsFileOf 2 c (bytes_of 2 c) → IsIndexFileOf scale layer (bytes_of 2 c)
    index_written scale c of holds_parts file =
        let here = content_is_true scale (layer_rings layer) rows m c plane_of (subst (λ (u : Table). IsContentOf scale u rows m c) same of) (subst (λ (u : Table). HoldsParts u rows c) same holds_parts) in
        let ids : c.ids ≡ rows.ids = here.1.1 in
        record {
          content = c;
          bytes = bytes_of_are c (subst (All AreBytes) (sym ids) byte_ids);
          file = file;
          is_true = here.0;
          of_layer = subst (λ (i : List (List ℕ)). IsIndexOf 2 scale i (layer_rings layer) c) laid.map.ids here.1;
        }
