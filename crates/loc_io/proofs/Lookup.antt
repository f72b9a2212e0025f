-- Files in a list: what a look-up by name gives, and what it gives after one file was exchanged or added.
use Rattle.std.proofs.Common.{◌≡◌, ◌≢◌, ◌⊎◌, inl, inr, ℕ, ◌<◌, Bool, true, false, cond, List, [], ◌∷◌, ◌++◌, length, get_or, set, Some, None, option_map, string_bytes, unwrap_or, refl, sym, ◌∙◌, ap, subst, arith}
use Rattle.std.specs.Prelude.{nat_lt, slice_get, if◌then◌else◌, is_some}
use Rattle.std.specs.List.{find, position, position_or_len}
use Rattle.std.specs.{Option.option_and_then, Option.option_map_or, Option.option_or, Str.bytes_eq}
use Rattle.std.proofs.{lemmas.Bool.ltb-false, lemmas.List.set-get_or, lemmas.List.Quantifiers.position-Some}
use Rattle.std.proofs.lemmas.List.Folds.{find_at, find-set, find_past, find-append}
use Rattle.std.proofs.{lemmas.List.Sums.position_or_len_is, lemmas.Option.slice_get_past}
use Rattle.std.proofs.lemmas.Slice.Eq.{bytes_eq-Decides}
use mathlib.Core.Bool.{true≢false}
use Rattle.loc_io.specs.Files.{file_of, is_named, Puts, KeepsAll}
use Rattle.loc_io.specs.Meaning.{Told, untold, holds, bytes_of}
use Rattle.loc_io.specs.{Steady.bytes_at, declared.mem_file.MemFile.MemFile}

-- what is found stands at the place of the first that passes
find_by_place : (p : MemFile → Bool) (fs : List MemFile) → find p fs ≡ option_and_then (slice_get fs) (position p fs)
find_by_place p fs =
    let n = position_or_len p fs in
    elim (nat_lt n (length fs)) as (λ b. nat_lt n (length fs) ≡ b → find p fs ≡ option_and_then (slice_get fs) (cond b (Some n) None)) [
      | true ↦ λ e. find_at p fs
      | false ↦ λ e. find_at p fs ∙ slice_get_past fs n (ltb-false n (length fs) e)
    ] refl

-- the bytes at the place of a name are those that a look-up gives
pub bytes_at-position : (fs : List MemFile) (name : List ℕ) → bytes_at fs (position (is_named name) fs) ≡ unwrap_or (file_of fs name) []
bytes_at-position fs name =
    rw (find_by_place (is_named name) fs) (elim (position (is_named name) fs) as (λ o. bytes_at fs o ≡ unwrap_or (option_map (λ (f : MemFile). f.bytes.items) (option_and_then (slice_get fs) o)) []) [
      | None ↦ refl
      | Some i ↦ elim (slice_get fs i) as (λ o. option_map_or (λ (f : MemFile). f.bytes.items) o [] ≡ unwrap_or (option_map (λ (f : MemFile). f.bytes.items) o) []) [ None ↦ refl | Some f ↦ refl ]
    ])

-- the place of a name is that of the first file with it
first_place : (fs : List MemFile) (name : List ℕ) (i : ℕ) (d : MemFile) → position (is_named name) fs ≡ Some i → i ≡ position_or_len (is_named name) fs
first_place fs name i d at =
    let first = position-Some (is_named name) fs i d at in
    let within : i < length fs = first.0 in
    sym (position_or_len_is (is_named name) fs i d (omega arith) first.2 (λ _. first.1))

-- the file at the place of a name is the one that a look-up gives
pub file_at : (fs : List MemFile) (name : List ℕ) (i : ℕ) (d : MemFile) → position (is_named name) fs ≡ Some i → file_of fs name ≡ Some ((get_or fs i d).bytes.items)
file_at fs name i d at =
    let first = position-Some (is_named name) fs i d at in
    let found = find-set (is_named name) fs i (get_or fs i d) (first_place fs name i d at) first.0 first.1 in
    ap (option_map (λ (f : MemFile). f.bytes.items)) (ap (find (is_named name)) (sym (set-get_or fs i d)) ∙ found)

-- a file exchanged at the place of its name
pub set_puts : (fs : List MemFile) (name : List ℕ) (i : ℕ) (d f : MemFile) → position (is_named name) fs ≡ Some i → string_bytes f.name ≡ string_bytes (get_or fs i d).name → Puts name f.bytes.items fs (set fs i f)
set_puts fs name i d f at same q =
    let first = position-Some (is_named name) fs i d at in
    let named : string_bytes (get_or fs i d).name ≡ name = (bytes_eq-Decides (string_bytes (get_or fs i d).name) name).0 first.1 in
    let bytes = option_map (λ (f : MemFile). f.bytes.items) in
    elim (bytes_eq name q) as (λ b. bytes_eq name q ≡ b → file_of (set fs i f) q ≡ cond b (Some f.bytes.items) (file_of fs q)) [
      | true ↦ λ e. rw (sym ((bytes_eq-Decides name q).0 e)) (ap bytes (find-set (is_named name) fs i f (first_place fs name i d at) first.0 (rw (same, named) ((bytes_eq-Decides name name).1 refl))))
      | false ↦ λ e. ap bytes (find_past (is_named q) fs i f d (rw named e) (rw (same, named) e))
    ] refl

-- a file exchanged for one of the same name and bytes
pub set_keeps : (fs : List MemFile) (name : List ℕ) (i : ℕ) (d f : MemFile) → position (is_named name) fs ≡ Some i → string_bytes f.name ≡ string_bytes (get_or fs i d).name → f.bytes.items ≡ (get_or fs i d).bytes.items → KeepsAll fs (set fs i f)
set_keeps fs name i d f at same bytes q =
    elim (bytes_eq name q) as (λ b. bytes_eq name q ≡ b → file_of (set fs i f) q ≡ file_of fs q) [
      | true ↦ λ e. set_puts fs name i d f at same q ∙ ap (λ (b : Bool). cond b (Some f.bytes.items) (file_of fs q)) e ∙ ap Some bytes ∙ sym (subst (λ (n : List ℕ). file_of fs n ≡ Some ((get_or fs i d).bytes.items)) ((bytes_eq-Decides name q).0 e) (file_at fs name i d at))
      | false ↦ λ e. set_puts fs name i d f at same q ∙ ap (λ (b : Bool). cond b (Some f.bytes.items) (file_of fs q)) e
    ] refl

-- a file added behind the others, none of which has its name
pub push_puts : (fs : List MemFile) (name : List ℕ) (f : MemFile) → position (is_named name) fs ≡ None → string_bytes f.name ≡ name → Puts name f.bytes.items fs (fs ++ f ∷ [])
push_puts fs name f none named q =
    let bytes = option_map (λ (f : MemFile). f.bytes.items) in
    let missing : find (is_named name) fs ≡ None = find_by_place (is_named name) fs ∙ ap (option_and_then (slice_get fs)) none in
    elim (bytes_eq name q) as (λ b. bytes_eq name q ≡ b → file_of (fs ++ f ∷ []) q ≡ cond b (Some f.bytes.items) (file_of fs q)) [
      | true ↦ λ e.
          let here : is_named q f ≡ true = rw named e in
          let gone : find (is_named q) fs ≡ None = rw (← (bytes_eq-Decides name q).0 e) missing in
          rw (find-append (is_named q) fs (f ∷ []), gone, here) refl
      | false ↦ λ e.
          let other : is_named q f ≡ false = rw named e in
          rw (find-append (is_named q) fs (f ∷ []), other) (elim (find (is_named q) fs) as (λ o. bytes (option_or o None) ≡ bytes o) [ None ↦ refl | Some g ↦ refl ])
    ] refl

module _ (name bytes : List ℕ) (fs : List MemFile) (f : MemFile) (named : string_bytes f.name ≡ name) (is : f.bytes.items ≡ bytes) where
  -- a file handed in is found first
  handed_in : file_of (f ∷ fs) name ≡ Some bytes
  handed_in =
      let here : is_named name f ≡ true = (bytes_eq-Decides (string_bytes f.name) name).1 named in
      rw here (ap Some is)

  -- any other file is found as before
  handed_beside : (q : List ℕ) → q ≢ name → file_of (f ∷ fs) q ≡ file_of fs q
  handed_beside q differ =
      let other : is_named q f ≡ false = elim (is_named q f) as (λ b. is_named q f ≡ b → b ≡ false) [ true ↦ λ e. absurd (differ (sym ((bytes_eq-Decides (string_bytes f.name) q).0 e) ∙ named)) | false ↦ λ _. refl ] refl in
      rw other refl

  -- and so a steady shelf tells it, unless it hides its files
  pub handed_told : (hides : Bool) → ((if hides then untold else holds (unwrap_or (file_of (f ∷ fs) name) [])) ≡ holds bytes) ⊎ ((q : List ℕ) → (if hides then untold else holds (unwrap_or (file_of fs q) [])) ≡ untold)
  handed_told true = inr (λ _. refl)
  handed_told false = inl (ap (λ o. holds (unwrap_or o [])) handed_in)

  -- and any other file as before
  pub handed_others : (hides : Bool) (q : List ℕ) → q ≢ name → (if hides then untold else holds (unwrap_or (file_of (f ∷ fs) q) [])) ≡ (if hides then untold else holds (unwrap_or (file_of fs q) []))
  handed_others hides q differ = ap (λ o. if hides then untold else holds (unwrap_or o [])) (handed_beside q differ)

-- a steady shelf that hides its files goes on to do so
pub handed_hidden : (fs : List MemFile) (f : MemFile) (hides : Bool) (q : List ℕ) → (if hides then untold else holds (unwrap_or (file_of fs q) [])) ≡ untold → (if hides then untold else holds (unwrap_or (file_of (f ∷ fs) q) [])) ≡ untold
handed_hidden fs f true q is = refl
handed_hidden fs f false q is = absurd (true≢false (ap (λ (t : Told). is_some (bytes_of t)) is))
