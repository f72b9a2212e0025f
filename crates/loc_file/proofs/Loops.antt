-- The loops of a reader: the rows so far, and what comes of one row more.
use Rattle.std.proofs.Common.{◌≡◌, ℕ, ◌+◌, ◌-◌, ◌<◌, List, [], ◌∷◌, ◌++◌, length, refl, sym, ◌∙◌, subst, arith}
use Rattle.std.specs.{Prelude.Option, Prelude.Some, Prelude.None, List.last_or}
use Rattle.std.proofs.lemmas.List.{length-append}
use Rattle.loc_spec_index.specs.declared.IndexFault.{IndexFault}
use Rattle.loc_spec_index.specs.IndexFile.{Field, rows_from, rows_of}
use Rattle.loc_file.specs.Readings.{Left, IsRead, IsRowStop, IsRowsStop, AreRows, alone}
use Rattle.loc_laws_index.proofs.RightRows.{last-is}
use Rattle.loc_file.proofs.Steps.{rows-none, rows-more, rows-stop}

-- ---- rows that are told by their number and the row before them

pub record AreKept {X : Type 0} (row : ℕ → Option X → X → List Field) (xs : List X) (number : ℕ) (last : Option X) (a b : Left) : Type 0 where
  pub as_many : length xs ≡ number
  pub last_is : last_or None xs ≡ last
  pub read : IsRead (rows_from (rows_of row) [] xs) a b

module _ {X : Type 0} (row : ℕ → Option X → X → List Field) where
  pub kept-none : (xs : List X) (a : Left) → xs ≡ [] → AreKept row xs 0 None a a
  kept-none xs a e = subst (λ ys. AreKept row ys 0 None a a) (sym e) (record { as_many = refl; last_is = refl; read = rows-none (rows_of row) a })

  -- the row as its number and the row before it have it
  here : (xs : List X) (number : ℕ) (last : Option X) (P : (X → List Field) → Type 0) → length xs ≡ number → last_or None xs ≡ last → P (row number last) → P (rows_of row xs)
  here xs number last P e l h = subst (λ n. P (row n (last_or None xs))) (sym e) (subst (λ o. P (row number o)) (sym l) h)

  pub kept-more : (xs ys : List X) (x : X) (number : ℕ) (last : Option X) {a b c : Left} → AreKept row xs number last a b → IsRead (row number last x) b c → ys ≡ xs ++ x ∷ [] → AreKept row ys (number + 1) (Some x) a c
  kept-more xs ys x number last {a} {b} {c} k read e = subst (λ zs. AreKept row zs (number + 1) (Some x) a c) (sym e) (record {
    as_many = length-append xs (x ∷ []) ∙ (let m = k.as_many in omega (arith, m));
    last_is = last-is None xs x;
    read = rows-more (rows_of row) xs x k.read (here xs number last (λ r. IsRead (r x) b c) k.as_many k.last_is read);
  })

  pub kept-stop : (xs : List X) (n number : ℕ) (last : Option X) {a b : Left} {f : IndexFault} → AreKept row xs number last a b → number < n → IsRowStop (row number last) b f → IsRowsStop (rows_of row) n a f
  kept-stop xs n number last {a} {b} {f} k lt s =
      rows-stop (rows_of row) xs n (n - number - 1) (let m = k.as_many in omega (arith, m, lt)) k.read (here xs number last (λ r. IsRowStop r b f) k.as_many k.last_is s)

  pub kept-all : (xs : List X) (n number : ℕ) (last : Option X) {a b : Left} → AreKept row xs number last a b → number ≡ n → AreRows (rows_of row) n xs a b
  kept-all xs n number last k e = record { as_many = k.as_many ∙ e; read = k.read }

-- ---- rows that are told by themselves

module _ {X : Type 0} (row : X → List Field) where
  pub alone-none : (xs : List X) (a : Left) → xs ≡ [] → AreRows (alone row) 0 xs a a
  alone-none xs a e = subst (λ ys. AreRows (alone row) 0 ys a a) (sym e) (record { as_many = refl; read = rows-none (alone row) a })

  pub alone-more : (xs ys : List X) (x : X) (number : ℕ) {a b c : Left} → AreRows (alone row) number xs a b → IsRead (row x) b c → ys ≡ xs ++ x ∷ [] → AreRows (alone row) (number + 1) ys a c
  alone-more xs ys x number {a} {b} {c} k read e = subst (λ zs. AreRows (alone row) (number + 1) zs a c) (sym e) (record {
    as_many = length-append xs (x ∷ []) ∙ (let m = k.as_many in omega (arith, m));
    read = rows-more (alone row) xs x k.read read;
  })

  pub alone-stop : (xs : List X) (n number : ℕ) {a b : Left} {f : IndexFault} → AreRows (alone row) number xs a b → number < n → IsRowStop row b f → IsRowsStop (alone row) n a f
  alone-stop xs n number k lt s = rows-stop (alone row) xs n (n - number - 1) (let m = k.as_many in omega (arith, m, lt)) k.read s

  pub alone-all : (xs : List X) (n number : ℕ) {a b : Left} → AreRows (alone row) number xs a b → number ≡ n → AreRows (alone row) n xs a b
  alone-all xs n number {a} {b} k e = subst (λ m. AreRows (alone row) m xs a b) e k
