-- Rows of a parse with different names.
use Rattle.std.proofs.Common.{◌≡◌, Bool, true, false, not, List, [], ◌∷◌, ◌++◌, map, refl, ◌∙◌}
use Rattle.std.specs.{List.list_any, Str.bytes_eq}
use Rattle.std.proofs.lemmas.Bool.{and_parts, not-true, or_parts}
use Rattle.std.proofs.lemmas.List.Folds.{list_any-append}
use Rattle.clap.specs.Walk.{Row, has_row}
use Rattle.loc_spec_text.specs.Bytes.{Text}
use Rattle.loc_words.specs.Rows.{are_different}

-- an element in the middle fails where all do
pub any-middle : {X : Type 0} (p : X → Bool) (front : List X) (x : X) (rest : List X) → list_any p (front ++ x ∷ rest) ≡ false → p x ≡ false
any-middle p [] x rest h = (or_parts (p x) (list_any p rest) h).0
any-middle p (y ∷ front) x rest h = any-middle p front x rest (or_parts (p y) (list_any p (front ++ x ∷ rest)) h).1

-- the names of the rows
abbrev pub ids : List Row → List Text
ids rows = map (λ r. r.id) rows

-- a name that comes later and is different has no row
pub absent : (rows : List Row) (name : Text) (names : List Text) → are_different (ids rows ++ name ∷ names) ≡ true → has_row name rows ≡ false
absent [] name names h = refl
absent (r ∷ rows) name names h =
    let parts = and_parts (not (list_any (bytes_eq r.id) (ids rows ++ name ∷ names))) (are_different (ids rows ++ name ∷ names)) h in
    let other = any-middle (bytes_eq r.id) (ids rows) name names (not-true _ parts.0) in
    simp other (absent rows name names parts.1)

-- a name with no row is different
pub one_more : (rows : List Row) (name : Text) → are_different (ids rows) ≡ true → has_row name rows ≡ false → are_different (ids rows ++ name ∷ []) ≡ true
one_more [] name d none = refl
one_more (r ∷ rows) name d none =
    let parts = and_parts (not (list_any (bytes_eq r.id) (ids rows))) (are_different (ids rows)) d in
    let others = or_parts (bytes_eq r.id name) (has_row name rows) none in
    let kept = not-true _ parts.0 in
    let here = others.0 in
    let e : list_any (bytes_eq r.id) (ids rows ++ name ∷ []) ≡ false = list_any-append (bytes_eq r.id) (ids rows) (name ∷ []) ∙ simp (kept, here) in
    simp e (one_more rows name parts.1 others.1)
