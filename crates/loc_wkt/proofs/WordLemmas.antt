-- The word at the front of a text, as its first symbol and by its letters.
use Rattle.std.proofs.Common.{◌≡◌, ℕ, List, [], ◌∷◌, Bool, true, false, ◌&&◌, map, refl, sym, ◌∙◌, ap, ap₂, arith, codes}
use Rattle.std.specs.{Char.is_ascii_alphabetic, Char.to_ascii_lowercase, Char.to_ascii_uppercase, List.list_all}
use Rattle.std.specs.Str.{bytes_eq}
use Rattle.std.proofs.lemmas.Bool.Decides.{same_from_decides, nat_tests}
use Rattle.std.proofs.lemmas.Slice.Eq.{bytes_eq-Decides}
use Rattle.loc_spec_text.specs.{Bytes.capitals, Geometry.Symbol, Geometry.word, Geometry.symbol_of, Number.is_number}
use Rattle.loc_wkt.specs.Fronts.{is_word}
use Rattle.loc_wkt.proofs.SymbolLemmas.{kind_of, letters}

-- a symbol that is a word has letters alone
word_kind : (o c m a n : Bool) (run v : List ℕ) → kind_of o c m a n run ≡ word v → (a ≡ true) × (capitals run ≡ v)
word_kind true c m a n run v e = absurd (cc)
word_kind false true m a n run v e = absurd (cc)
word_kind false false true a n run v e = absurd (cc)
word_kind false false false true n run v e = (refl, cc)
word_kind false false false false true run v e = absurd (cc)
word_kind false false false false false run v e = absurd (cc)

word_letters : (run v : List ℕ) → symbol_of run ≡ word v → (list_all is_ascii_alphabetic run ≡ true) × (capitals run ≡ v)
word_letters run v e = word_kind (bytes_eq run (codes "(")) (bytes_eq run (codes ")")) (bytes_eq run (codes ",")) (list_all is_ascii_alphabetic run) (is_number run) run v e

-- the two cases of a letter
lower_upper : (c : ℕ) → to_ascii_lowercase (to_ascii_uppercase c) ≡ to_ascii_lowercase c
lower_upper c = grind (arith, nat_tests)

upper_lower : (c : ℕ) → to_ascii_uppercase (to_ascii_lowercase c) ≡ to_ascii_uppercase c
upper_lower c = grind (arith, nat_tests)

lower_letter : (c : ℕ) → is_ascii_alphabetic (to_ascii_lowercase c) ≡ is_ascii_alphabetic c
lower_letter c = grind (arith, nat_tests)

capitals_same : (xs ys : List ℕ) → map to_ascii_lowercase xs ≡ map to_ascii_lowercase ys → capitals xs ≡ capitals ys
capitals_same xs ys e = upper xs ∙ ap (map to_ascii_uppercase) e ∙ sym (upper ys)
  where
    upper : (zs : List ℕ) → map to_ascii_uppercase zs ≡ map to_ascii_uppercase (map to_ascii_lowercase zs)
    upper [] = refl
    upper (z ∷ zs) = ap₂ (λ a b. a ∷ b) (sym (upper_lower z)) (upper zs)

lower_capitals : (xs : List ℕ) → map to_ascii_lowercase (capitals xs) ≡ map to_ascii_lowercase xs
lower_capitals [] = refl
lower_capitals (x ∷ xs) = ap₂ (λ a b. a ∷ b) (lower_upper x) (lower_capitals xs)

letters_lower : (xs : List ℕ) → list_all is_ascii_alphabetic (map to_ascii_lowercase xs) ≡ list_all is_ascii_alphabetic xs
letters_lower [] = refl
letters_lower (x ∷ xs) = ap₂ (λ a b. a && b) (lower_letter x) (letters_lower xs)

named : (name : List ℕ) (p : Symbol) → is_word name p ≡ true → (w : List ℕ) × (p ≡ word w) × (w ≡ name)
named name (word w) h = (w, refl, (bytes_eq-Decides w name).0 h)
named name _ h = absurd (cc)

-- A run is this word exactly where it is its letters but for their case.
module _ (name run : List ℕ) (name_letters : list_all is_ascii_alphabetic name ≡ true) (name_capitals : capitals name ≡ name) (b : Bool)
    (f : b ≡ true → map to_ascii_lowercase run ≡ map to_ascii_lowercase name) (g : map to_ascii_lowercase run ≡ map to_ascii_lowercase name → b ≡ true) where
  -- as a text
  pub same_text : b ≡ bytes_eq (capitals run) name
  same_text = same_from_decides b (bytes_eq (capitals run) name) (f, g) (one_way, other_way)
    where
      one_way : bytes_eq (capitals run) name ≡ true → map to_ascii_lowercase run ≡ map to_ascii_lowercase name
      one_way h = sym (lower_capitals run) ∙ ap (map to_ascii_lowercase) ((bytes_eq-Decides (capitals run) name).0 h)

      other_way : map to_ascii_lowercase run ≡ map to_ascii_lowercase name → bytes_eq (capitals run) name ≡ true
      other_way h = (bytes_eq-Decides (capitals run) name).1 (capitals_same run name h ∙ name_capitals)

  -- as a symbol
  pub same_symbol : b ≡ is_word name (symbol_of run)
  same_symbol = same_from_decides b (is_word name (symbol_of run)) (f, g) (one_way, other_way)
    where
      one_way : is_word name (symbol_of run) ≡ true → map to_ascii_lowercase run ≡ map to_ascii_lowercase name
      one_way h = let n = named name (symbol_of run) h in let l = word_letters run n.0 n.1 in
          sym (lower_capitals run) ∙ ap (map to_ascii_lowercase) (l.1 ∙ n.2)

      other_way : map to_ascii_lowercase run ≡ map to_ascii_lowercase name → is_word name (symbol_of run) ≡ true
      other_way h = ap (is_word name) (letters run (sym (letters_lower run) ∙ ap (list_all is_ascii_alphabetic) h ∙ letters_lower name ∙ name_letters) ∙ ap word (capitals_same run name h ∙ name_capitals))
          ∙ (bytes_eq-Decides name name).1 refl
