-- What is taken off the front of bytes is told by its fields: each that fits and is right there is what the bytes hold.
use Rattle.std.proofs.Common.{◌≡◌, ℕ, zero, suc, ◌+◌, ◌-◌, ◌<◌, ◌≤◌, Bool, true, false, List, [], ◌∷◌, ◌++◌, length, take, drop, map, refl, sym, ◌∙◌, ap, subst, arith, length-take-le, ne_eqb, ◌==◌, Some, None}
use Rattle.std.specs.Prelude.{replicate, nat_lt, if◌then◌else◌, ◌^◌, ◌&&◌, min, sum_by}
use Rattle.std.specs.List.{flat_map, last_or}
use Rattle.loc_spec_plane.specs.{Lists.is_rising, Covers.list_before, declared.Mark.Mark, Points.Point}
use Rattle.loc_spec_index.specs.{declared.Part.Part, declared.Part.TheVariants.Edges, declared.Part.TheVariants.Covers}
use Rattle.std.specs.Int.{w8, w32, w64, to_be_bytes, from_be_bytes, cast_unsigned}
use Rattle.std.proofs.{lemmas.Bool.ltb-true, lemmas.Int.of_z-to_z, lemmas.Nat.be_bytes_4, lemmas.Nat.be_bytes_8}
use Rattle.std.proofs.lemmas.List.{get_or-drop, take-append-le, length-append, length-replicate}
use Rattle.loc_spec_index.specs.Content.{EdgeRow}
use Rattle.loc_spec_index.specs.IndexFile.{Field, number, text, order, spelled, is_right, with_bytes, rows_from, id_fields, corner_fields, edge_fields, edge_row_before, is_rising_pair, names_sources, mark_fields, cover_fields, node_fields, none_or_next, bit, follows}
use Rattle.loc_laws_index.specs.IndexReading.{AreBytes, Taker, front, byte_off, word_off, coordinate_off, times, id_off, corner_off, source_off, edge_off, mark_off, list_off, floor_off, node_off}
use Rattle.loc_laws_index.proofs.{Progress.flat-rows, Progress.map-rows, Agree.holds-unless}

pub bytes_behind : (n : ℕ) (bytes : List ℕ) → AreBytes bytes → AreBytes (drop n bytes)
bytes_behind n bytes small i = let k = small (n + i) in let e = get_or-drop n bytes i 0 in omega (arith, k, e)

pub bytes_before : (n : ℕ) (bytes : List ℕ) → AreBytes bytes → AreBytes (take n bytes)
bytes_before zero bytes small i = omega arith
bytes_before (suc n) [] small i = omega arith
bytes_before (suc n) (b ∷ bytes) small zero = small 0
bytes_before (suc n) (b ∷ bytes) small (suc i) = bytes_before n bytes (λ j. small (suc j)) i

-- each field that fits and is right is what the bytes hold, as they are, and behind the last K holds of what is left
abbrev pub Told : List Field → List ℕ → (List ℕ → Type 0) → Type 0
Told [] rest K = K rest
Told (f ∷ fs) rest K = AreBytes rest → length (spelled f) ≤ length rest → is_right (with_bytes (take (length (spelled f)) rest) f) ≡ true
    → (with_bytes (take (length (spelled f)) rest) f ≡ f) × (spelled f ≡ take (length (spelled f)) rest) × Told fs (drop (length (spelled f)) rest) K

pub told-append : (fs gs : List Field) (rest : List ℕ) (K : List ℕ → Type 0) → Told fs rest (λ r. Told gs r K) → Told (fs ++ gs) rest K
told-append [] gs rest K h = h
told-append (f ∷ fs) gs rest K h = λ small fits right. (let t = h small fits right in (t.0, t.1, told-append fs gs (drop (length (spelled f)) rest) K t.2))

-- ---- numbers

pub word_is : (rest : List ℕ) → AreBytes rest → 4 ≤ length rest → to_be_bytes w32 (word_off rest).0 ≡ take 4 rest
word_is rest small fits = be_bytes_4 (take 4 rest) (word_off rest).0 (length-take-le 4 rest fits) (bytes_before 4 rest small) refl

byte_is : (rest : List ℕ) → AreBytes rest → 1 ≤ length rest → to_be_bytes w8 (byte_off rest).0 ≡ take 1 rest
byte_is [] small fits = absurd (omega arith)
byte_is (b ∷ rest) small fits = let k = small 0 in ap (λ v. v ∷ []) (omega (arith, k))

coordinate_is : (rest : List ℕ) → AreBytes rest → 8 ≤ length rest → to_be_bytes w64 (cast_unsigned w64 (coordinate_off rest).0) ≡ take 8 rest
coordinate_is rest small fits =
    let here = from_be_bytes w64 (take 8 rest) in
    let below : here < 2 ^ 64 = below_64 (take 8 rest) (length-take-le 8 rest fits) (bytes_before 8 rest small) in
    ap (to_be_bytes w64) (of_z-to_z w64 here below) ∙ be_bytes_8 (take 8 rest) here (length-take-le 8 rest fits) (bytes_before 8 rest small) refl
  where
    below_64 : (bs : List ℕ) → length bs ≡ 8 → AreBytes bs → from_be_bytes w64 bs < 2 ^ 64
    below_64 (a ∷ b ∷ c ∷ d ∷ e ∷ f ∷ g ∷ h ∷ []) l small = omega (arith, small 0, small 1, small 2, small 3, small 4, small 5, small 6, small 7)
    below_64 _ l small = absurd (omega (arith, l))

-- ---- rows

pub length-times : {X : Type 0} (off : Taker X) (n : ℕ) (rest : List ℕ) → length (times off n rest).0 ≡ n
length-times off zero rest = refl
length-times off (suc n) rest = let k = length-times off n (off rest).1 in omega (arith, k)

-- the rows of a part, where those of one are told by the rows before it
pub told_rows : {X : Type 0} (row : List X → X → List Field) (off : Taker X) → ((earlier : List X) (rest : List ℕ) (K : List ℕ → Type 0) → K (off rest).1 → Told (row earlier (off rest).0) rest K)
    → (n : ℕ) (earlier : List X) (rest : List ℕ) (K : List ℕ → Type 0) → K (times off n rest).1 → Told (rows_from row earlier (times off n rest).0) rest K
told_rows row off each zero earlier rest K k = k
told_rows row off each (suc n) earlier rest K k =
    let x = off rest in
    let more : List Field = rows_from row (earlier ++ x.0 ∷ []) (times off n x.1).0 in
    told-append (row earlier x.0) more rest K (each earlier rest (λ r. Told more r K) (told_rows row off each n (earlier ++ x.0 ∷ []) x.1 K k))

-- the rows of a part, each by itself
pub told_each : {X : Type 0} (row : X → List Field) (off : Taker X) → ((rest : List ℕ) (K : List ℕ → Type 0) → K (off rest).1 → Told (row (off rest).0) rest K)
    → (n : ℕ) (rest : List ℕ) (K : List ℕ → Type 0) → K (times off n rest).1 → Told (flat_map row (times off n rest).0) rest K
told_each row off each n rest K k = subst (λ fs. Told fs rest K) (flat-rows row [] (times off n rest).0) (told_rows (λ _. row) off (λ _. each) n [] rest K k)

-- rows of one field
pub told_map : {X : Type 0} (field : X → Field) (off : Taker X) → ((rest : List ℕ) (K : List ℕ → Type 0) → K (off rest).1 → Told (field (off rest).0 ∷ []) rest K)
    → (n : ℕ) (rest : List ℕ) (K : List ℕ → Type 0) → K (times off n rest).1 → Told (map field (times off n rest).0) rest K
told_map field off each n rest K k = subst (λ fs. Told fs rest K) (map-rows field [] (times off n rest).0) (told_rows (λ _ x. field x ∷ []) off (λ _. each) n [] rest K k)

padded-front : (n : ℕ) (rest : List ℕ) → n ≤ length rest → (front n rest).0 ≡ take n rest
padded-front n rest fits = take-append-le n rest (replicate n 0) fits

length-front : (n : ℕ) (rest : List ℕ) → length (front n rest).0 ≡ n
length-front n rest = length-take-le n (rest ++ replicate n 0) (let k = length-append rest (replicate n 0) in let m : length (replicate n 0) ≡ n = length-replicate {A = ℕ} n 0 in omega (arith, k, m))

told_text : (n : ℕ) (rest : List ℕ) (K : List ℕ → Type 0) → K (front n rest).1 → Told (text (front n rest).0 ∷ []) rest K
told_text n rest K k = λ small fits right.
    (let long = length-front n rest in
    let whole : take (length (front n rest).0) rest ≡ (front n rest).0 = ap (λ m. take m rest) long ∙ sym (padded-front n rest (omega (arith, long, fits))) in
    (ap text whole, sym whole, subst (λ m. K (drop m rest)) (sym long) k))

pub told_id : (rest : List ℕ) (K : List ℕ → Type 0) → K (id_off rest).1 → Told (id_fields (id_off rest).0) rest K
told_id rest K k =
    let n = byte_off rest in
    let long = length-front n.0 n.1 in
    λ small fits right. (ap (number w8 201) (sym long), ap (to_be_bytes w8) long ∙ byte_is rest small fits, told_text n.0 n.1 K k)

pub told_corner : (earlier : List Point) (rest : List ℕ) (K : List ℕ → Type 0) → K (corner_off rest).1 → Told (corner_fields earlier (corner_off rest).0) rest K
told_corner earlier rest K k = λ s f r. (refl, coordinate_is rest s f, λ s f r. (refl, coordinate_is (drop 8 rest) s f, λ s f r. (refl, refl, k)))

-- the source, and the order of the row
told_source : (named : Bool) (corners : ℕ) (ends : ℕ × ℕ) (part : Part) (row : ℕ) (holds : Bool) (rest : List ℕ) (K : List ℕ → Type 0) → K (source_off named ends rest).1 → Told ((if named then number w32 corners (source_off named ends rest).0.0 ∷ number w32 corners (source_off named ends rest).0.1 ∷ [] else []) ++ order part row holds ∷ []) rest K
told_source true corners ends part row holds rest K k = λ s f r. (refl, word_is rest s f, λ s f r. (refl, word_is (word_off rest).1 s f, λ s f r. (refl, refl, k)))
told_source false corners ends part row holds rest K k = λ s f r. (refl, refl, k)

pub told_edge : (v corners covers : ℕ) (earlier : List EdgeRow) (rest : List ℕ) (K : List ℕ → Type 0) → K (edge_off v rest).1 → Told (edge_fields v corners covers earlier (edge_off v rest).0) rest K
told_edge v corners covers earlier rest K k =
    let lo = word_off rest in
    let hi = word_off lo.1 in
    let cover = word_off hi.1 in
    let e = (edge_off v rest).0 in
    λ s f r. (
      refl,
      word_is rest s f,
      λ s f r. (
        refl,
        word_is lo.1 s f,
        λ s f r. (
          refl,
          word_is hi.1 s f,
          told_source (names_sources v) corners (lo.0, hi.0) Edges (length earlier) ((is_rising_pair e.ends && is_rising_pair e.source) && follows edge_row_before (last_or None earlier) e) cover.1 K k,
        ),
      ),
    )

bit-back : (v : ℕ) → v < 2 → bit (v == 1) ≡ v
bit-back zero h = refl
bit-back (suc zero) h = refl
bit-back (suc (suc v)) h = absurd (omega arith)

pub told_mark : (edges features : ℕ) (earlier : List (ℕ × Mark)) (rest : List ℕ) (K : List ℕ → Type 0) → K (mark_off rest).1 → Told (mark_fields edges features earlier (mark_off rest).0) rest K
told_mark edges features earlier rest K k =
    let e = word_off rest in
    let o = (word_off e.1).1 in
    λ s f r. (
      refl,
      word_is rest s f,
      λ s f r. (
        refl,
        word_is e.1 s f,
        λ s f r. (
            let same : (byte_off o).0 ≡ bit ((byte_off o).0 == 1) = sym (bit-back (byte_off o).0 (ltb-true (byte_off o).0 2 (holds-unless (nat_lt (byte_off o).0 2) _ r))) in
            (ap (number w8 2) same, ap (to_be_bytes w8) (sym same) ∙ byte_is o s f, λ s f r. (refl, refl, k))),
      ),
    )

pub told_list : (features : ℕ) (earlier : List (List ℕ)) (rest : List ℕ) (K : List ℕ → Type 0) → K (list_off rest).1 → Told (cover_fields features earlier (list_off rest).0) rest K
told_list features earlier rest K k =
    let n = word_off rest in
    let list = (times word_off n.0 n.1).0 in
    let long = length-times word_off n.0 n.1 in
    λ s f r. (
      ap (number w32 (min features (2 ^ 24 - sum_by length earlier) + 1)) (sym long),
      ap (to_be_bytes w32) long ∙ word_is rest s f,
      told-append (map (number w32 features) list) (order Covers (length earlier) (is_rising nat_lt list && follows list_before (last_or None earlier) list) ∷ []) n.1 K
          (told_map (number w32 features) word_off (λ rest L l s f r. (refl, word_is rest s f, l)) n.0 n.1 _ (λ s f r. (refl, refl, k))),
    )

next-back : (v : ℕ) → none_or_next (if v == 0 then None else Some (v - 1)) ≡ v
next-back zero = refl
next-back (suc v) = let other : (suc v == 0) ≡ false = ne_eqb (suc v) 0 (λ e. absurd (omega (arith, e))) in rw other (omega arith)

pub told_floor : (edges : ℕ) (rest : List ℕ) (K : List ℕ → Type 0) → K (floor_off rest).1 → Told (number w32 (edges + 1) (none_or_next (floor_off rest).0) ∷ []) rest K
told_floor edges rest K k = λ s f r. (ap (number w32 (edges + 1)) (sym (next-back (word_off rest).0)), ap (to_be_bytes w32) (next-back (word_off rest).0) ∙ word_is rest s f, k)

pub told_root : (nodes : ℕ) (rest : List ℕ) (K : List ℕ → Type 0) → K (word_off rest).1 → Told (number w32 (nodes + 1) (word_off rest).0 ∷ []) rest K
told_root nodes rest K k = λ s f r. (refl, word_is rest s f, k)

pub told_node : (edges corners nodes : ℕ) (rest : List ℕ) (K : List ℕ → Type 0) → K (node_off rest).1 → Told (node_fields edges corners nodes (node_off rest).0) rest K
told_node edges corners nodes rest K k =
    let left = (word_off rest).1 in
    let right = (word_off left).1 in
    let side = (word_off right).1 in
    let stamp = (byte_off side).1 in
    λ s f r. (
      refl,
      word_is rest s f,
      λ s f r. (
        refl,
        word_is left s f,
        λ s f r. (
          refl,
          word_is right s f,
          λ s f r. (
            refl,
            byte_is side s f,
            λ s f r. (refl, word_is stamp s f, λ s f r. (refl, word_is (word_off stamp).1 s f, k)),
          ),
        ),
      ),
    )
