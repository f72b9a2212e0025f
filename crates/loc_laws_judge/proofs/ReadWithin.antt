-- A reading with room for so many nodes on a path: where it ends it is the reading and no path is longer, and where it does not end a path is.
use Rattle.std.proofs.Common.{◌≡◌, ◌≢◌, ℕ, zero, suc, ◌<◌, ◌≤◌, List, [], ◌∷◌, ◌++◌, length, refl, sym, subst, arith}
use Rattle.std.specs.Prelude.{Option, Some, None}
use Rattle.std.proofs.lemmas.Option.{none-some, same_Some}
use Rattle.loc_spec_index.specs.declared.NodeRow.{NodeRow}
use Rattle.loc_spec_index.specs.Nodes.{Side, Left, Right, row_of, child_of, Reads, nothing, node, led_to}
use Rattle.loc_laws_judge.specs.FirstFlaw.{joined, read_within}

module _ (rows : List NodeRow) (version : ℕ) (children : (n : ℕ) (side : Side) → child_of rows version n side ≤ length rows) where
  -- no path from node n has more nodes than there is room
  abbrev pub StaysWithin : ℕ → ℕ → Type 0
  StaysWithin room n = (sides : List Side) → led_to rows version n sides ≢ 0 → length sides < room

  none_led : (room : ℕ) → StaysWithin room 0
  none_led room [] led = absurd (led refl)
  none_led room (side ∷ sides) led = absurd (led refl)

  both_within : (room n : ℕ) → StaysWithin room (child_of rows version (suc n) Left) → StaysWithin room (child_of rows version (suc n) Right) → StaysWithin (suc room) (suc n)
  both_within room n left right [] led = omega arith
  both_within room n left right (Left ∷ sides) led = let less : length sides < room = left sides led in omega (arith, less)
  both_within room n left right (Right ∷ sides) led = let less : length sides < room = right sides led in omega (arith, less)

  -- what is read is the reading, and no path is longer
  pub read_is : (room n : ℕ) (items : List ℕ) → n ≤ length rows → read_within rows version room n ≡ Some items → Reads rows version n items × StaysWithin room n
  read_is room zero items fits h = (subst (Reads rows version 0) (same_Some [] items h) nothing, none_led room)
  read_is zero (suc n) items fits h = absurd (none-some items h)
  read_is (suc room) (suc n) items fits h =
      parts (read_within rows version room (child_of rows version (suc n) Left)) (read_within rows version room (child_of rows version (suc n) Right))
      (λ xs is. read_is room (child_of rows version (suc n) Left) xs (children (suc n) Left) is) (λ ys is. read_is room (child_of rows version (suc n) Right) ys (children (suc n) Right) is) h
    where
      parts : (l r : Option (List ℕ)) → ((xs : List ℕ) → l ≡ Some xs → Reads rows version (child_of rows version (suc n) Left) xs × StaysWithin room (child_of rows version (suc n) Left))
          → ((ys : List ℕ) → r ≡ Some ys → Reads rows version (child_of rows version (suc n) Right) ys × StaysWithin room (child_of rows version (suc n) Right)) → joined l (row_of rows (suc n)).item r ≡ Some items → Reads rows version (suc n) items × StaysWithin (suc room) (suc n)
      parts None r left right k = absurd (none-some items k)
      parts (Some xs) None left right k = absurd (none-some items k)
      parts (Some xs) (Some ys) left right k = (
        node {n = suc n} {before = xs} {after = ys} {items = items} (omega arith) fits (left xs refl).0 (right ys refl).0 (sym (same_Some (xs ++ (row_of rows (suc n)).item ∷ ys) items k)),
        both_within room n (left xs refl).1 (right ys refl).1,
      )

  -- a path from node n has one node more than there is room
  abbrev pub HasLongPath : ℕ → ℕ → Type 0
  HasLongPath room n = (sides : List Side) × (led_to rows version n sides ≢ 0) × (length sides ≡ room)

  -- where nothing is read, a path is longer
  pub not_read : (room n : ℕ) → read_within rows version room n ≡ None → HasLongPath room n
  not_read room zero h = absurd (none-some [] (sym h))
  not_read zero (suc n) h = ([], λ e. omega (arith, e), refl)
  not_read (suc room) (suc n) h =
      parts (read_within rows version room (child_of rows version (suc n) Left)) (read_within rows version room (child_of rows version (suc n) Right))
      (not_read room (child_of rows version (suc n) Left)) (not_read room (child_of rows version (suc n) Right)) h
    where
      parts : (l r : Option (List ℕ)) → (l ≡ None → HasLongPath room (child_of rows version (suc n) Left)) → (r ≡ None → HasLongPath room (child_of rows version (suc n) Right)) → joined l (row_of rows (suc n)).item r ≡ None → HasLongPath (suc room) (suc n)
      parts None r left right k = let path = left refl in let same : length path.0 ≡ room = path.2 in (Left ∷ path.0, path.1, omega (arith, same))
      parts (Some xs) None left right k = let path = right refl in let same : length path.0 ≡ room = path.2 in (Right ∷ path.0, path.1, omega (arith, same))
      parts (Some xs) (Some ys) left right k = absurd (none-some (xs ++ (row_of rows (suc n)).item ∷ ys) (sym k))
