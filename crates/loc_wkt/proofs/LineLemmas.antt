-- The first line of a text, as the code cuts it.
use Rattle.std.proofs.Common.{◌≡◌, ℕ, ◌+◌, ◌-◌, ◌<◌, ◌≤◌, List, [], ◌∷◌, Bool, true, false, length, take, drop, Some, None, refl, sym, ◌∙◌, ap, arith, position, suc, one-add, add-one, subst, length-drop}
use Rattle.std.specs.Prelude.{◌==◌, nat_lt}
use Rattle.std.specs.List.{onto_first, position_or_len}
use Rattle.std.proofs.{lemmas.List.take_all, lemmas.Option.cond_some, lemmas.Bool.ltb-true}
use Rattle.loc_spec_text.specs.Bytes.{lines}
use Rattle.loc_spec_text.proofs.CutLaws.{place_none}

-- LF
abbrev pub is_feed : ℕ → Bool
is_feed b = b == 10

lines-other : (b : ℕ) (text : List ℕ) → is_feed b ≡ false → lines (b ∷ text) ≡ onto_first b (lines text)
lines-other b text h = rw h refl

-- the place of the first LF
abbrev pub place : List ℕ → ℕ
place text = position_or_len is_feed text

front_step : (b : ℕ) (text : List ℕ) (t : Bool) → is_feed b ≡ t → place (b ∷ text) < length (b ∷ text) → (place text < length text → lines text ≡ take (place text) text ∷ lines (drop (suc (place text)) text))
    → lines (b ∷ text) ≡ take (place (b ∷ text)) (b ∷ text) ∷ lines (drop (suc (place (b ∷ text))) (b ∷ text))
front_step b text true e h more = rw e refl
front_step b text false e h more =
    let k : 1 + place text < suc (length text) = rw e at h in
    let l : lines text ≡ take (place text) text ∷ lines (drop (suc (place text)) text) = more (omega arith) in
    rw (e, one-add) (ap (onto_first b) l)

-- a line that ends
pub line_front : (text : List ℕ) → place text < length text → lines text ≡ take (place text) text ∷ lines (drop (suc (place text)) text)
line_front [] h = absurd (omega arith)
line_front (b ∷ text) h = front_step b text (is_feed b) refl h (line_front text)

last_step : (b : ℕ) (text : List ℕ) (t : Bool) → is_feed b ≡ t → length (b ∷ text) ≤ place (b ∷ text) → (0 < length text → length text ≤ place text → lines text ≡ text ∷ []) → lines (b ∷ text) ≡ (b ∷ text) ∷ []
last_step b text true e h more = let k : suc (length text) ≤ 0 = rw e at h in absurd (omega arith)
last_step b [] false e h more = rw e refl
last_step b (c ∷ text) false e h more =
    let k : suc (suc (length text)) ≤ 1 + place (c ∷ text) = rw e at h in
    let l : lines (c ∷ text) ≡ (c ∷ text) ∷ [] = more (omega arith) (omega arith) in
    lines-other b (c ∷ text) e ∙ ap (onto_first b) l

-- a last line without an end
pub line_last : (text : List ℕ) → 0 < length text → length text ≤ place text → lines text ≡ text ∷ []
line_last [] z h = absurd (omega arith)
line_last (b ∷ text) z h = last_step b text (is_feed b) refl h (line_last text)

-- the code's cut where an LF stands
pub cut_line : (text : List ℕ) (i : ℕ) → position is_feed text ≡ Some i → lines text ≡ take i text ∷ lines (take (length text - (i + 1)) (drop (i + 1) text))
cut_line text i found =
    let parts = cond_some (nat_lt (place text) (length text)) (place text) i found in
    let less : place text < length text = ltb-true (place text) (length text) parts.0 in
    let rest : take (length text - (i + 1)) (drop (i + 1) text) ≡ drop (suc i) text = take_all (length text - (i + 1)) (drop (i + 1) text) (simp length-drop (omega arith)) ∙ ap (λ n. drop n text) (add-one i) in
    subst (λ n. lines text ≡ take n text ∷ lines (drop (suc n) text)) parts.1 (line_front text less) ∙ ap (λ r. take i text ∷ lines r) (sym rest)

-- and where none does
pub cut_last : (text : List ℕ) → 0 < length text → position is_feed text ≡ None → lines text ≡ text ∷ []
cut_last text z none = line_last text z (place_none is_feed text none)
