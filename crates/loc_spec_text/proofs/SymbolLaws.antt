-- Where the symbols of a text are cut: what a reader of tokens knows of the symbols behind its place.
use Rattle.std.proofs.Common.{◌≡◌, ℕ, ◌<◌, List, [], ◌∷◌, ◌++◌, length, arith, Bool, true, false, ◌||◌, not, map, refl, sym, ◌∙◌, ap, ap₂, one-add, take_while}
use Rattle.std.specs.Prelude.{if◌then◌else◌}
use Rattle.std.specs.List.{list_all, onto_first}
use Rattle.std.proofs.lemmas.Bool.{and_parts}
use Rattle.loc_spec_text.specs.Bytes.{is_white, drop_while}
use Rattle.loc_spec_text.specs.Geometry.{runs, symbols, symbol_of, is_mark, is_break, ends_symbol}

-- neither of the two holds
abbrev pub not_either : Bool → Bool → Bool
not_either w m = not (w || m)

-- a part of a symbol: bytes that are no white space and no mark
abbrev pub is_plain : ℕ → Bool
is_plain b = not (is_break b)

runs-white_step : (b : ℕ) (text : List ℕ) → is_white b ≡ true → runs (b ∷ text) ≡ runs text
runs-white_step b text h = rw h refl

plain-parts : (w m : Bool) → not_either w m ≡ true → (w ≡ false) × (m ≡ false)
plain-parts true m h = absurd (cc)
plain-parts false true h = absurd (cc)
plain-parts false false h = (refl, refl)

-- a run of other bytes in front, up to white space, a mark or the end, is one symbol
runs-last : (b : ℕ) (rest : List ℕ) → is_plain b ≡ true → ends_symbol rest ≡ true → runs (b ∷ rest) ≡ (b ∷ []) ∷ runs rest
runs-last b rest h e = let p = plain-parts (is_white b) (is_mark b) h in rw (p.0, p.1, e) refl

ends-plain : (c : ℕ) (text : List ℕ) → is_plain c ≡ true → ends_symbol (c ∷ text) ≡ false
ends-plain c text h = let p = plain-parts (is_white c) (is_mark c) h in rw (p.0, p.1) refl

runs-more : (b c : ℕ) (text : List ℕ) → is_plain b ≡ true → is_plain c ≡ true → runs (b ∷ c ∷ text) ≡ onto_first b (runs (c ∷ text))
runs-more b c text h k = let p = plain-parts (is_white b) (is_mark b) h in
    step (is_white b) (is_mark b) (ends_symbol (c ∷ text)) p.0 p.1 (ends-plain c text k) (runs (c ∷ text))
  where
    step : (w m e : Bool) → w ≡ false → m ≡ false → e ≡ false → (more : List (List ℕ))
        → (if w then more else if m || e then (b ∷ []) ∷ more else onto_first b more) ≡ onto_first b more
    step true m e hw hm he more = absurd (cc)
    step false true e hw hm he more = absurd (cc)
    step false false true hw hm he more = absurd (cc)
    step false false false hw hm he more = refl

-- white space is skipped, and then a mark or the longest run is the first symbol
pub drop_while-yes : {X : Type 0} (p : X → Bool) (x : X) (xs : List X) → p x ≡ true → drop_while p (x ∷ xs) ≡ drop_while p xs
drop_while-yes p x xs h = rw h (rw one-add refl)

-- where the first does not pass, nothing is dropped
pub drop_while-no : {X : Type 0} (p : X → Bool) (x : X) (xs : List X) → p x ≡ false → drop_while p (x ∷ xs) ≡ x ∷ xs
drop_while-no p x xs h = rw h refl

take_while-yes : {X : Type 0} (p : X → Bool) (x : X) (xs : List X) → p x ≡ true → take_while p (x ∷ xs) ≡ x ∷ take_while p xs
take_while-yes p x xs h = rw h (rw one-add refl)

take_while-no : {X : Type 0} (p : X → Bool) (x : X) (xs : List X) → p x ≡ false → take_while p (x ∷ xs) ≡ []
take_while-no p x xs h = rw h refl

skip_step : (b : ℕ) (text : List ℕ) (t : Bool) → is_white b ≡ t → runs text ≡ runs (drop_while is_white text) → runs (b ∷ text) ≡ runs (drop_while is_white (b ∷ text))
skip_step b text true h ih = runs-white_step b text h ∙ ih ∙ ap runs (sym (drop_while-yes is_white b text h))
skip_step b text false h ih = ap runs (sym (drop_while-no is_white b text h))

runs-skip : (text : List ℕ) → runs text ≡ runs (drop_while is_white text)
runs-skip [] = refl
runs-skip (b ∷ text) = skip_step b text (is_white b) refl (runs-skip text)

-- the white space at the front can be dropped
pub symbols-skip : (text : List ℕ) → symbols text ≡ symbols (drop_while is_white text)
symbols-skip text = ap (map symbol_of) (runs-skip text)

not_plain-ends : (c : ℕ) (text : List ℕ) → is_plain c ≡ false → ends_symbol (c ∷ text) ≡ true
not_plain-ends c text h = go (is_white c) (is_mark c) h
  where
    go : (w m : Bool) → not_either w m ≡ false → (w || m) ≡ true
    go true m h = refl
    go false true h = refl
    go false false h = absurd (cc)

runs-first : (b : ℕ) (c : ℕ) (text : List ℕ) (t : Bool) → is_plain b ≡ true → is_plain c ≡ t
    → (is_plain c ≡ true → runs (c ∷ text) ≡ take_while is_plain (c ∷ text) ∷ runs (drop_while is_plain (c ∷ text)))
    → runs (b ∷ c ∷ text) ≡ (b ∷ take_while is_plain (c ∷ text)) ∷ runs (drop_while is_plain (c ∷ text))
runs-first b c text true h k ih = runs-more b c text h k ∙ ap (onto_first b) (ih k)
runs-first b c text false h k ih = runs-last b (c ∷ text) h (not_plain-ends c text k)
    ∙ ap₂ (λ x y. (b ∷ x) ∷ runs y) (sym (take_while-no is_plain c text k)) (sym (drop_while-no is_plain c text k))

runs-longest : (b : ℕ) (text : List ℕ) → is_plain b ≡ true → runs (b ∷ text) ≡ (b ∷ take_while is_plain text) ∷ runs (drop_while is_plain text)
runs-longest b [] h = runs-last b [] h refl
runs-longest b (c ∷ text) h = runs-first b c text (is_plain c) h refl
    (λ k. runs-longest c text k ∙ ap₂ (λ x y. x ∷ runs y) (sym (take_while-yes is_plain c text k)) (sym (drop_while-yes is_plain c text k)))

-- the first symbol behind white space is the longest run
pub symbols-longest : (b : ℕ) (text : List ℕ) → is_plain b ≡ true → symbols (b ∷ text) ≡ symbol_of (b ∷ take_while is_plain text) ∷ symbols (drop_while is_plain text)
symbols-longest b text h = ap (map symbol_of) (runs-longest b text h)

-- and a mark is one by itself
pub symbols-mark : (b : ℕ) (text : List ℕ) → is_white b ≡ false → is_mark b ≡ true → symbols (b ∷ text) ≡ symbol_of (b ∷ []) ∷ symbols text
symbols-mark b text h k = rw (h, k) refl

-- parts of symbols in front of a break are taken whole
pub taken : (run rest : List ℕ) → list_all is_plain run ≡ true → ends_symbol rest ≡ true → (take_while is_plain (run ++ rest) ≡ run) × (drop_while is_plain (run ++ rest) ≡ rest)
taken [] [] plain ends = (refl, refl)
taken [] (b ∷ rest) plain ends = let no : is_plain b ≡ false = simp ends in (simp no, drop_while-no is_plain b rest no)
taken (c ∷ run) rest plain ends =
    let parts = and_parts (is_plain c) (list_all is_plain run) plain in
    let more = taken run rest parts.1 ends in
    (rw parts.0 (rw one-add (ap (λ l. c ∷ l) more.0)), drop_while-yes is_plain c (run ++ rest) parts.0 ∙ more.1)

-- and are the first symbol
pub run_first : (run rest : List ℕ) → 0 < length run → list_all is_plain run ≡ true → ends_symbol rest ≡ true → symbols (run ++ rest) ≡ symbol_of run ∷ symbols rest
run_first [] rest some plain ends = absurd (omega (arith, some))
run_first (c ∷ run) rest some plain ends =
    let parts = and_parts (is_plain c) (list_all is_plain run) plain in
    let all = taken run rest parts.1 ends in
    symbols-longest c (run ++ rest) parts.0 ∙ ap₂ (λ a b. symbol_of (c ∷ a) ∷ symbols b) all.0 all.1
