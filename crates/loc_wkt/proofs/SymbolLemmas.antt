-- What kind of symbol a run is, and the mark at the front of a text.
use Rattle.std.proofs.Common.{◌≡◌, inl, inr, ℕ, ◌-◌, ◌<◌, ◌≤◌, List, [], ◌∷◌, Bool, true, false, ◌||◌, length, take, drop, get_or, Some, None, refl, sym, ◌∙◌, ap, arith}
use Rattle.std.specs.Prelude.{if◌then◌else◌, codes, ◌==◌}
use Rattle.std.specs.{Char.is_ascii_alphabetic, List.list_all, Str.byte, Str.bytes_eq}
use Rattle.std.proofs.lemmas.Bool.{eqb-true, or_cases, or_parts, or_right, both_ways, false_from_ne_true}
use Rattle.std.proofs.{lemmas.Slice.Eq.bytes_eq-Decides, lemmas.List.take_all}
use Rattle.loc_spec_text.specs.{Bytes.drop_while, Bytes.is_white, Bytes.capitals, Number.is_number}
use Rattle.loc_spec_text.specs.Geometry.{Symbol, word, number, other, open_mark, close_mark, comma, is_break, is_mark, symbol_of, symbols}
use Rattle.loc_spec_text.proofs.SymbolLaws.{drop_while-yes, drop_while-no, symbols-skip, symbols-mark, symbols-longest}
use Rattle.loc_wkt.specs.Fronts.{mark_at}

head_step : (p : ℕ → Bool) (x : ℕ) (xs : List ℕ) (t : Bool) → p x ≡ t → (b : ℕ) (ys : List ℕ) → drop_while p (x ∷ xs) ≡ b ∷ ys → (drop_while p xs ≡ b ∷ ys → p b ≡ false) → p b ≡ false
head_step p x xs true h b ys e more = more (sym (drop_while-yes p x xs h) ∙ e)
head_step p x xs false h b ys e more = let f : x ∷ xs ≡ b ∷ ys = sym (drop_while-no p x xs h) ∙ e in let g : x ≡ b = cc in ap p (sym g) ∙ h

-- what is left begins with no byte that passes
pub head_left : (p : ℕ → Bool) (xs : List ℕ) (b : ℕ) (ys : List ℕ) → drop_while p xs ≡ b ∷ ys → p b ≡ false
head_left p [] b ys e = absurd (cc)
head_left p (x ∷ xs) b ys e = head_step p x xs (p x) refl b ys e (head_left p xs b ys)

mark_of : (w m : Bool) → w ≡ false → (w || m) ≡ true → m ≡ true
mark_of true m h k = absurd (cc)
mark_of false m h k = k

whole : (b : ℕ) (ys : List ℕ) → take (length (b ∷ ys) - 1) (drop 1 (b ∷ ys)) ≡ ys
whole b ys = take_all (length (b ∷ ys) - 1) ys (omega arith)

-- the white space at the front is none
pub skipped : (text rest : List ℕ) → rest ≡ drop_while is_white text → symbols text ≡ symbols rest
skipped text rest e = symbols-skip text ∙ ap symbols (sym e)

-- nothing is left behind the white space: there is no symbol
pub blank_symbol : (text rest : List ℕ) → rest ≡ drop_while is_white text → length rest < 1 → symbols text ≡ []
blank_symbol text [] e h = skipped text [] e
blank_symbol text (b ∷ ys) e h = absurd (omega arith)

-- a mark is left: it is the first symbol
pub mark_symbol : (text rest : List ℕ) → rest ≡ drop_while is_white text → 1 ≤ length rest → is_break (get_or rest 0 0) ≡ true
    → symbols text ≡ symbol_of (take 1 rest) ∷ symbols (take (length rest - 1) (drop 1 rest))
mark_symbol text [] e h k = absurd (omega arith)
mark_symbol text (b ∷ ys) e h k = skipped text (b ∷ ys) e
    ∙ symbols-mark b ys (head_left is_white text b ys (sym e)) (mark_of (is_white b) (is_mark b) (head_left is_white text b ys (sym e)) k)
    ∙ ap (λ r. symbol_of (b ∷ []) ∷ symbols r) (sym (whole b ys))

-- what a run is, by its tests
abbrev pub kind_of : Bool → Bool → Bool → Bool → Bool → List ℕ → Symbol
kind_of o c m w n run = if o then open_mark else if c then close_mark else if m then comma else if w then word (capitals run) else if n then number run else other run

-- a run that passes a test that a text fails is not that text
pub not_that : (test : List ℕ → Bool) (run that : List ℕ) → test run ≡ true → test that ≡ false → bytes_eq run that ≡ false
not_that test run that h k = false_from_ne_true (bytes_eq run that) (λ e. both_ways (test that) k (ap test (sym ((bytes_eq-Decides run that).0 e)) ∙ h))

-- letters are a word
pub letters : (run : List ℕ) → list_all is_ascii_alphabetic run ≡ true → symbol_of run ≡ word (capitals run)
letters run h =
    let o = not_that (list_all is_ascii_alphabetic) run (codes "(") h refl in
    let c = not_that (list_all is_ascii_alphabetic) run (codes ")") h refl in
    let m = not_that (list_all is_ascii_alphabetic) run (codes ",") h refl in
    rw (o, c, m, h) refl

-- the marks
at_mark : (b : ℕ) (ps : List Symbol) → is_mark b ≡ true → mark_at (symbol_of (b ∷ []) ∷ ps) ≡ Some (b, ps)
unfolding mark_at
at_mark b ps h = elim (or_cases ((b == byte "(") || (b == byte ")")) (b == byte ",") h) [
  | inl p ↦ elim (or_cases (b == byte "(") (b == byte ")") p) [
    | inl q ↦ rw (eqb-true b 40 q) refl
    | inr q ↦ rw (eqb-true b 41 q) refl
  ]
  | inr p ↦ rw (eqb-true b 44 p) refl
]

no_kind : (w n : Bool) (run : List ℕ) (ps : List Symbol) → mark_at (kind_of false false false w n run ∷ ps) ≡ None
unfolding mark_at
no_kind true n run ps = refl
no_kind false true run ps = refl
no_kind false false run ps = refl

no_mark : (b : ℕ) (run : List ℕ) (ps : List Symbol) → is_mark b ≡ false → mark_at (symbol_of (b ∷ run) ∷ ps) ≡ None
unfolding mark_at
no_mark b run ps h =
    let p = or_parts ((b == byte "(") || (b == byte ")")) (b == byte ",") h in
    let q = or_parts (b == byte "(") (b == byte ")") p.0 in
    rw (q.0, q.1, p.1) (no_kind (list_all is_ascii_alphabetic (b ∷ run)) (is_number (b ∷ run)) (b ∷ run) ps)

-- a mark is left: it is at the front
pub mark_first : (text rest : List ℕ) → rest ≡ drop_while is_white text → 1 ≤ length rest → is_mark (get_or rest 0 0) ≡ true
    → mark_at (symbols text) ≡ Some (get_or rest 0 0, symbols (take (length rest - 1) (drop 1 rest)))
mark_first text [] e h k = absurd (omega arith)
mark_first text (b ∷ ys) e h k = ap mark_at (mark_symbol text (b ∷ ys) e h (or_right (is_white b) (is_mark b) k)) ∙ at_mark b (symbols (take (length (b ∷ ys) - 1) (drop 1 (b ∷ ys)))) k

-- no mark is left: none is at the front
pub no_mark_first : (text rest : List ℕ) → rest ≡ drop_while is_white text → (1 ≤ length rest → is_mark (get_or rest 0 0) ≡ false) → mark_at (symbols text) ≡ None
unfolding mark_at
no_mark_first text [] e h = ap mark_at (blank_symbol text [] e (omega arith))
no_mark_first text (b ∷ ys) e h =
    let k : is_mark b ≡ false = h (omega arith) in
    let w = head_left is_white text b ys (sym e) in
    ap mark_at (skipped text (b ∷ ys) e ∙ symbols-longest b ys (rw (w, k) refl)) ∙ no_mark b _ _ k
