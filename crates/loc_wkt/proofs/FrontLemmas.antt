-- What the mark at the front tells of the symbols.
use Rattle.std.proofs.Common.{◌≡◌, ◌≢◌, ℕ, List, [], ◌∷◌, Bool, true, false, ◌&&◌, not, Option, Some, None, MatchOption, refl, sym, ◌∙◌, ap, eqb, subst}
use Rattle.std.specs.Prelude.{if◌then◌else◌, codes, IfSome, IfNone, is_some}
use Rattle.std.proofs.lemmas.Bool.{ne_eqb, not-true, not-false, and_parts, both_ways, false_from_ne_true}
use Rattle.std.specs.{Char.is_ascii_alphabetic, List.list_all, Str.bytes_eq}
use Rattle.loc_spec_text.specs.Geometry.{Symbol, word, number, open_mark, close_mark, comma, symbol_of}
use Rattle.loc_spec_text.specs.Number.{is_number}
use Rattle.loc_wkt.specs.Fronts.{empty_at, goes_on_at, is_end, is_word, mark_at, number_at, open_at, point_mark_at}
use Rattle.loc_wkt.proofs.{SymbolLemmas.kind_of, SymbolLemmas.not_that, TokenFront.no_number}

abbrev behind_open : Option (ℕ × List Symbol) → Option (List Symbol)
behind_open (Some (m, ps)) = if eqb m 40 then Some ps else None
behind_open None = None

open-mark : (ps : List Symbol) → open_at ps ≡ behind_open (mark_at ps)
unfolding open_at mark_at
open-mark (open_mark ∷ ps) = refl
open-mark (p ∷ ps) = refl
open-mark [] = refl

-- an open mark
pub open_first : (ps rest : List Symbol) → mark_at ps ≡ Some (40, rest) → open_at ps ≡ Some rest
open_first ps rest e = open-mark ps ∙ ap behind_open e

-- another mark
pub other_first : (ps rest : List Symbol) (m : ℕ) → mark_at ps ≡ Some (m, rest) → m ≢ 40 → open_at ps ≡ None
other_first ps rest m e h = open-mark ps ∙ ap behind_open e ∙ rw (ne_eqb m 40 h) refl

-- no mark
pub no_open : (ps : List Symbol) → mark_at ps ≡ None → open_at ps ≡ None
no_open ps e = open-mark ps ∙ ap behind_open e

abbrev is_last : List Symbol → Bool
is_last [] = true
is_last (p ∷ ps) = false

abbrev ends : Option (ℕ × List Symbol) → Bool
ends (Some (m, ps)) = eqb m 41 && is_last ps
ends None = false

end-mark : (ps : List Symbol) → is_end ps ≡ ends (mark_at ps)
unfolding is_end mark_at
end-mark (close_mark ∷ []) = refl
end-mark (close_mark ∷ q ∷ ps) = refl
end-mark (p ∷ ps) = refl
end-mark [] = refl

end_first : (ps rest : List Symbol) → mark_at ps ≡ Some (41, rest) → rest ≡ [] → is_end ps ≡ true
end_first ps rest e f = end-mark ps ∙ ap ends e ∙ ap is_last f

end_followed : (ps rest qs : List Symbol) (q : Symbol) → mark_at ps ≡ Some (41, rest) → rest ≡ q ∷ qs → is_end ps ≡ false
end_followed ps rest qs q e f = end-mark ps ∙ ap ends e ∙ ap is_last f

-- the same by what is read of the rest, and whether that is nothing
pub end_by : {X : Type 0} (ps rest : List Symbol) (m : ℕ) (o : Option X) (b : Bool) (first : X → Symbol) (more : X → List Symbol) → mark_at ps ≡ Some (m, rest) → m ≡ 41
    → IfSome o (λ x. rest ≡ first x ∷ more x) → IfNone o (rest ≡ []) → is_some o ≡ not b → b ≡ is_end ps
end_by ps rest m None b first more e f some none h = not-false b (sym h) ∙ sym (end_first ps rest (e ∙ ap (λ n. Some (n, rest)) f) none)
end_by ps rest m (Some x) b first more e f some none h = not-true b (sym h) ∙ sym (end_followed ps rest (more x) (first x) (e ∙ ap (λ n. Some (n, rest)) f) some)

-- another mark is no end
pub other_end : (ps rest : List Symbol) (m : ℕ) → mark_at ps ≡ Some (m, rest) → m ≢ 41 → is_end ps ≡ false
other_end ps rest m e h = end-mark ps ∙ ap ends e ∙ rw (ne_eqb m 41 h) refl

-- no mark is no end
pub no_end : (ps : List Symbol) → mark_at ps ≡ None → is_end ps ≡ false
no_end ps e = end-mark ps ∙ ap ends e

-- a clause by cases where there is nothing
pub at_none : {X : Type 0} (r : Option X) (A : Type 0) (B : X → Type 0) → r ≡ None → A → MatchOption r A B
at_none {X = X} r A B e a = let P = λ (s : Option X). MatchOption s A B in subst P (sym e) a

abbrev by_mark : Option (ℕ × List Symbol) → Option (Bool × List Symbol)
by_mark (Some (m, ps)) = if eqb m 44 then Some (true, ps) else if eqb m 41 then Some (false, ps) else None
by_mark None = None

goes_on-mark : (ps : List Symbol) → goes_on_at ps ≡ by_mark (mark_at ps)
unfolding goes_on_at mark_at
goes_on-mark (open_mark ∷ ps) = refl
goes_on-mark (close_mark ∷ ps) = refl
goes_on-mark (comma ∷ ps) = refl
goes_on-mark (p ∷ ps) = refl
goes_on-mark [] = refl

-- a comma: more members follow
pub comma_goes_on : (ps rest : List Symbol) (m : ℕ) → mark_at ps ≡ Some (m, rest) → m ≡ 44 → goes_on_at ps ≡ Some (true, rest)
comma_goes_on ps rest m e h = goes_on-mark ps ∙ ap by_mark (e ∙ ap (λ n. Some (n, rest)) h)

-- a close mark: none does
pub close_ends : (ps rest : List Symbol) (m : ℕ) → mark_at ps ≡ Some (m, rest) → m ≡ 41 → goes_on_at ps ≡ Some (false, rest)
close_ends ps rest m e h = goes_on-mark ps ∙ ap by_mark (e ∙ ap (λ n. Some (n, rest)) h)

-- neither
pub no_mark_breaks : (ps : List Symbol) → mark_at ps ≡ None → goes_on_at ps ≡ None
no_mark_breaks ps e = goes_on-mark ps ∙ ap by_mark e

-- an open mark is neither
pub other_mark_breaks : (ps rest : List Symbol) (m : ℕ) → mark_at ps ≡ Some (m, rest) → m ≢ 44 → m ≢ 41 → goes_on_at ps ≡ None
other_mark_breaks ps rest m e h k = goes_on-mark ps ∙ ap by_mark e ∙ rw (ne_eqb m 44 h, ne_eqb m 41 k) refl

not_letters : (run : List ℕ) → is_number run ≡ true → list_all is_ascii_alphabetic run ≡ false
not_letters [] h = absurd (cc)
not_letters (b ∷ bs) h = false_from_ne_true (list_all is_ascii_alphabetic (b ∷ bs)) (λ k. both_ways (is_number (b ∷ bs)) (no_number b bs (and_parts (is_ascii_alphabetic b) (list_all is_ascii_alphabetic bs) k).0) h)

number_symbol : (run : List ℕ) → is_number run ≡ true → symbol_of run ≡ number run
number_symbol run h = kinds (bytes_eq run (codes "(")) (bytes_eq run (codes ")")) (bytes_eq run (codes ",")) (list_all is_ascii_alphabetic run) (is_number run)
    (not_that is_number run (codes "(") h refl) (not_that is_number run (codes ")") h refl) (not_that is_number run (codes ",") h refl) (not_letters run h) h
  where
    kinds : (o c m w n : Bool) → o ≡ false → c ≡ false → m ≡ false → w ≡ false → n ≡ true → kind_of o c m w n run ≡ number run
    kinds false false false false true ho hc hm hw hn = refl
    kinds true c m w n ho hc hm hw hn = absurd (cc)
    kinds false true m w n ho hc hm hw hn = absurd (cc)
    kinds false false true w n ho hc hm hw hn = absurd (cc)
    kinds false false false true n ho hc hm hw hn = absurd (cc)
    kinds false false false false false ho hc hm hw hn = absurd (cc)

no_number_kind : (o c m w n : Bool) (run : List ℕ) (ps : List Symbol) → n ≡ false → number_at (kind_of o c m w n run ∷ ps) ≡ None
unfolding number_at
no_number_kind true c m w n run ps h = refl
no_number_kind false true m w n run ps h = refl
no_number_kind false false true w n run ps h = refl
no_number_kind false false false true n run ps h = refl
no_number_kind false false false false true run ps h = absurd (cc)
no_number_kind false false false false false run ps h = refl

-- a number is at the front
pub number_first : (ps rest : List Symbol) (run : List ℕ) → ps ≡ symbol_of run ∷ rest → is_number run ≡ true → number_at ps ≡ Some (run, rest)
unfolding number_at
number_first ps rest run e h = ap number_at (e ∙ ap (λ p. p ∷ rest) (number_symbol run h))

-- another symbol is
pub no_number_first : (ps rest : List Symbol) (run : List ℕ) → ps ≡ symbol_of run ∷ rest → is_number run ≡ false → number_at ps ≡ None
no_number_first ps rest run e h = ap number_at e
    ∙ no_number_kind (bytes_eq run (codes "(")) (bytes_eq run (codes ")")) (bytes_eq run (codes ",")) (list_all is_ascii_alphabetic run) (is_number run) run rest h

-- none is
pub nothing_first : (ps : List Symbol) → ps ≡ [] → number_at ps ≡ None
unfolding number_at
nothing_first ps e = ap number_at e

abbrev empty_by : Bool → List Symbol → Option (List Symbol)
empty_by b rest = if b then Some rest else None

empty-word : (p : Symbol) (rest : List Symbol) → empty_at (p ∷ rest) ≡ empty_by (is_word (codes "EMPTY") p) rest
unfolding empty_at
empty-word (word w) rest = refl
empty-word p rest = refl

-- the first symbol tells whether it is EMPTY
pub empty_first : (ps rest : List Symbol) (p : Symbol) (b t : Bool) → ps ≡ p ∷ rest → b ≡ is_word (codes "EMPTY") p → b ≡ t → empty_at ps ≡ (if t then Some rest else None)
empty_first ps rest p b t e f h = ap empty_at e ∙ empty-word p rest ∙ ap (λ c. empty_by c rest) (sym f ∙ h)

-- no symbol is not
pub no_empty : (ps : List Symbol) → ps ≡ [] → empty_at ps ≡ None
unfolding empty_at
no_empty ps e = ap empty_at e

no_mark_either : {X : Type 0} (b : Bool) → ◌≡◌ {A = Option X} None (if b then None else None)
no_mark_either true = refl
no_mark_either false = refl

point_mark-word : (p : Symbol) (rest : List Symbol) → point_mark_at (p ∷ rest) ≡ (if is_word (codes "POINT") p then open_at rest else None)
unfolding point_mark_at open_at
point_mark-word (word w) (open_mark ∷ rest) = refl
point_mark-word (word w) (q ∷ rest) = no_mark_either (bytes_eq w (codes "POINT"))
point_mark-word (word w) [] = no_mark_either (bytes_eq w (codes "POINT"))
point_mark-word p rest = refl

-- the first symbol tells whether it is POINT
pub point_mark_first : (ps rest : List Symbol) (p : Symbol) (b t : Bool) → ps ≡ p ∷ rest → b ≡ is_word (codes "POINT") p → b ≡ t → point_mark_at ps ≡ (if t then open_at rest else None)
point_mark_first ps rest p b t e f h = ap point_mark_at e ∙ point_mark-word p rest ∙ ap (λ c. if c then open_at rest else None) (sym f ∙ h)

-- no symbol is not
pub no_point_mark : (ps : List Symbol) → ps ≡ [] → point_mark_at ps ≡ None
unfolding point_mark_at
no_point_mark ps e = ap point_mark_at e
