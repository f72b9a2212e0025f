-- The rows of the cover lists: a list is as many members behind its length.
use Rattle.std.proofs.Common.{◌≡◌, ℕ, ◌+◌, ◌-◌, ◌^◌, ◌<◌, ◌≤◌, Bool, ◌&&◌, List, [], ◌∷◌, ◌++◌, length, map, refl, sym, ◌∙◌, ap, subst, arith}
use Rattle.std.specs.Prelude.{Option, None, min, nat_lt, sum_by}
use Rattle.std.specs.{Int.w32, List.last_or}
use Rattle.std.proofs.{lemmas.List.length-append, lemmas.List.Sums.sum_by-append}
use Rattle.loc_spec_plane.specs.{Lists.is_rising, Covers.list_before}
use Rattle.loc_spec_index.specs.{declared.IndexFault.IndexFault, declared.Part.TheVariants.Covers}
use Rattle.loc_spec_index.specs.IndexFile.{Field, number, order, follows, cover_fields, cover_row}
use Rattle.loc_file.specs.Readings.{Left, IsRead, IsWrong, IsFaultIn, IsRowStop, IsRowsStop, AreRows, stop, no_memory, alone, one}
use Rattle.loc_laws_index.proofs.Progress.{map-rows}
use Rattle.loc_file.proofs.Steps.{read-along, wrong-along, read-next, read-append, fault-first, fault-next, fault-behind, fault-front, rows-none, rows-more, rows-stop}

module _ (features members row : ℕ) (last : Option (List ℕ)) where
  abbrev bound : ℕ
  bound = min features (2 ^ 24 - members) + 1

  abbrev holds : List ℕ → Bool
  holds list = is_rising nat_lt list && follows list_before last list

  pub members-stop : (count : ℕ) {a b : Left} {f : IndexFault} → IsRead (number w32 bound count ∷ []) a b → IsRowsStop (alone (one (number w32 features))) count b f → IsRowStop (cover_row features members row last) a f
  members-stop count {a} {b} read (stop xs f as_many w) =
      stop xs f tt (fault-next _ _ (read-along (number w32 bound) (sym as_many) read) (fault-front (map (number w32 features) xs) (order Covers row (holds xs) ∷ []) (subst (λ fs. IsFaultIn fs b f) (map-rows (number w32 features) [] xs) w)))
  members-stop count read no_memory = no_memory

  members-read : (count : ℕ) (list : List ℕ) {a b c : Left} → IsRead (number w32 bound count ∷ []) a b → AreRows (alone (one (number w32 features))) count list b c → IsRead (number w32 bound (length list) ∷ map (number w32 features) list) a c
  members-read count list {b = b} {c = c} read rows = read-next _ _ (read-along (number w32 bound) (sym rows.as_many) read) (subst (λ fs. IsRead fs b c) (map-rows (number w32 features) [] list) rows.read)

  -- the test, as the code makes it
  pub holds-is : (rises test : Bool) (list slice : List ℕ) → test ≡ (rises && follows list_before last slice) → rises ≡ is_rising nat_lt list → slice ≡ list → test ≡ holds list
  holds-is rises test list slice t r e = t ∙ (ap (λ b. b && follows list_before last slice) r ∙ ap (λ l. is_rising nat_lt list && follows list_before last l) e)

  pub cover-stop : (count : ℕ) (list : List ℕ) (test : Bool) {a b c : Left} {f : IndexFault} → IsRead (number w32 bound count ∷ []) a b → AreRows (alone (one (number w32 features))) count list b c → test ≡ holds list → IsWrong (order Covers row test) c f → IsRowStop (cover_row features members row last) a f
  cover-stop count list test {f = f} read rows is w =
      stop list f tt (fault-behind (number w32 bound (length list) ∷ map (number w32 features) list) (order Covers row (holds list) ∷ []) (members-read count list read rows) (fault-first _ _ (wrong-along (order Covers row) is w)))

  pub cover-read : (count : ℕ) (list : List ℕ) (test : Bool) {a b c : Left} → IsRead (number w32 bound count ∷ []) a b → AreRows (alone (one (number w32 features))) count list b c → test ≡ holds list → IsRead (order Covers row test ∷ []) c c → IsRead (cover_row features members row last list) a c
  cover-read count list test read rows is ordered = read-append (number w32 bound (length list) ∷ map (number w32 features) list) (order Covers row (holds list) ∷ []) (members-read count list read rows) (read-along (order Covers row) is ordered)

-- ---- the lists one behind another

pub record AreCovers (features : ℕ) (lists : List (List ℕ)) (count members : ℕ) (a b : Left) : Type 0 where
  pub rows : AreRows (cover_fields features) count lists a b
  pub counted : sum_by length lists ≡ members
  pub few : members ≤ 2 ^ 24

module _ (features : ℕ) where
  pub covers-none : (lists : List (List ℕ)) (a : Left) → lists ≡ [] → AreCovers features lists 0 0 a a
  covers-none lists a e = subst (λ ls. AreCovers features ls 0 0 a a) (sym e) (record { rows = record { as_many = refl; read = rows-none (cover_fields features) a }; counted = refl; few = omega arith })

  here : (lists : List (List ℕ)) (count members : ℕ) (P : (List ℕ → List Field) → Type 0) → length lists ≡ count → sum_by length lists ≡ members → P (cover_row features members count (last_or None lists)) → P (cover_fields features lists)
  here lists count members P n m h = subst (λ k. P (cover_row features k (length lists) (last_or None lists))) (sym m) (subst (λ k. P (cover_row features members k (last_or None lists))) (sym n) h)

  pub covers-more : (lists more : List (List ℕ)) (list : List ℕ) (count members total : ℕ) {a b c : Left} → total ≡ members + length list → AreCovers features lists count members a b → IsRead (cover_row features members count (last_or None lists) list) b c → members + length list ≤ 2 ^ 24 → more ≡ lists ++ list ∷ [] → AreCovers features more (count + 1) total a c
  covers-more lists more list count members total {a} {b} {c} t k read few e = subst (λ ls. AreCovers features ls (count + 1) total a c) (sym e) (record {
    rows = record {
      as_many = length-append lists (list ∷ []) ∙ (let m = k.rows.as_many in omega (arith, m));
      read = rows-more (cover_fields features) lists list k.rows.read (here lists count members (λ r. IsRead (r list) b c) k.rows.as_many k.counted read);
    };
    counted = sum_by-append length lists (list ∷ []) ∙ (let m = k.counted in omega (arith, m, t));
    few = omega (arith, few, t);
  })

  pub covers-stop : (lists : List (List ℕ)) (n count members : ℕ) {a b : Left} {f : IndexFault} → AreCovers features lists count members a b → count < n → IsRowStop (cover_row features members count (last_or None lists)) b f → IsRowsStop (cover_fields features) n a f
  covers-stop lists n count members {a} {b} {f} k lt s =
      rows-stop (cover_fields features) lists n (n - count - 1) (let m = k.rows.as_many in omega (arith, m, lt)) k.rows.read (here lists count members (λ r. IsRowStop r b f) k.rows.as_many k.counted s)

  pub covers-all : (lists : List (List ℕ)) (n count members : ℕ) {a b : Left} → AreCovers features lists count members a b → count ≡ n → AreRows (cover_fields features) n lists a b
  covers-all lists n count members {a} {b} k e = subst (λ m. AreRows (cover_fields features) m lists a b) e k.rows
