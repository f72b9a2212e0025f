-- What the reading of one record leaves of a text.
use Rattle.std.proofs.Common.{◌≡◌, ℕ, zero, suc, ◌+◌, ◌<◌, ◌≤◌, List, [], ◌∷◌, ◌++◌, Bool, true, false, ◌&&◌, ◌==◌, length, length-append, Option, Some, None, All, refl, ◌∙◌, ap, subst, arith, if◌then◌else◌}
use Rattle.std.proofs.lemmas.List.Elements.{All-nil, All-push}
use Rattle.std.proofs.lemmas.Option.{same_Some, none-some}
use Rattle.csv.specs.Machine.{Read, next_record, step, in_field, start_field, start_record, after_end, ends_with, is_end, is_byte, ends_at_end, fields_after, field_after}
use Rattle.csv.specs.{Reading.records_from, Reading.records_next, declared.parser.Config.Config}
use Rattle.csv.specs.{declared.parser.State.State, declared.parser.Action.Action, declared.parser.Terminator.Terminator}
use Rattle.csv.specs.declared.parser.State.TheVariants as st
use Rattle.csv.specs.declared.parser.Action.TheVariants as act
use Rattle.csv.specs.declared.parser.Terminator.TheVariants as term

-- after the end of a record stands no record that the end of the text would end
abbrev Fresh : State × Action → Type 0
Fresh p = is_end p.1 ≡ true → ends_at_end p.0 ≡ false

after_end-fresh : (t : Terminator) (c : ℕ) → ends_at_end (after_end t c) ≡ false
after_end-fresh term.CRLF c = go (c == 13)
  where
    go : (b : Bool) → ends_at_end (if b then st.AfterCr else st.StartRecord) ≡ false
    go true = refl
    go false = refl
after_end-fresh (term.Any t) c = refl

if_fresh : (b : Bool) (p q : State × Action) → Fresh p → Fresh q → Fresh (if b then p else q)
if_fresh true p q h k = h
if_fresh false p q h k = k

never : (s : State) (a : Action) → is_end a ≡ false → Fresh (s, a)
never s a h k = absurd (cc)

in_field-fresh : (cfg : Config) (c : ℕ) → Fresh (in_field cfg c)
in_field-fresh cfg c = if_fresh (c == cfg.delimiter) _ _ (never st.StartField act.EndField refl)
    (if_fresh (ends_with cfg.terminator c) _ _ (λ h. after_end-fresh cfg.terminator c) (never st.InField act.Copy refl))

start_field-fresh : (cfg : Config) (c : ℕ) → Fresh (start_field cfg c)
start_field-fresh cfg c = if_fresh (cfg.quoting && (c == cfg.quote)) _ _ (never st.InQuoted act.Skip refl) (in_field-fresh cfg c)

start_record-fresh : (cfg : Config) (c : ℕ) → Fresh (start_record cfg c)
start_record-fresh cfg c = if_fresh (ends_with cfg.terminator c) _ _ (never st.StartRecord act.Skip refl)
    (if_fresh (is_byte cfg.comment c) _ _ (never st.InComment act.Skip refl) (start_field-fresh cfg c))

step-fresh : (cfg : Config) (s : State) (c : ℕ) → Fresh (step cfg s c)
step-fresh cfg st.StartRecord c = start_record-fresh cfg c
step-fresh cfg st.StartField c = start_field-fresh cfg c
step-fresh cfg st.InField c = in_field-fresh cfg c
step-fresh cfg st.InQuoted c = if_fresh (cfg.quoting && (c == cfg.quote)) _ _ (never st.AfterQuote act.Skip refl)
    (if_fresh (cfg.quoting && is_byte cfg.escape c) _ _ (never st.InEscape act.Skip refl) (never st.InQuoted act.Copy refl))
step-fresh cfg st.InEscape c = never st.InQuoted act.Copy refl
step-fresh cfg st.AfterQuote c = if_fresh (cfg.quoting && cfg.double_quote && (c == cfg.quote)) _ _ (never st.InQuoted act.Copy refl) (in_field-fresh cfg c)
step-fresh cfg st.InComment c = if_fresh (c == 10) _ _ (never st.StartRecord act.Skip refl) (never st.InComment act.Skip refl)
step-fresh cfg st.AfterCr c = if_fresh (c == 10) _ _ (never st.StartRecord act.Skip refl) (start_record-fresh cfg c)

-- the fields are of at most m bytes
abbrev pub Short : ℕ → List (List ℕ) → Type 0
Short m fields = All (λ field. length field ≤ m) fields

short_push : (m : ℕ) (fields : List (List ℕ)) (field : List ℕ) → Short m fields → length field ≤ m → Short m (fields ++ field ∷ [])
short_push m fields field each one = All-push (λ f. length f ≤ m) fields field each one

-- so they stay after one more byte
after-short : (m : ℕ) (a : Action) (c : ℕ) (fields : List (List ℕ)) (field rest : List ℕ) → Short m fields → length field + suc (length rest) ≤ m → Short m (fields_after a fields field)
after-short m act.EndField c fields field rest each fits = short_push m fields field each (omega arith)
after-short m act.EndRecord c fields field rest each fits = short_push m fields field each (omega arith)
after-short m act.Skip c fields field rest each fits = each
after-short m act.Copy c fields field rest each fits = each

field-fits : (m : ℕ) (a : Action) (c : ℕ) (field rest : List ℕ) → length field + suc (length rest) ≤ m → length (field_after a c field) + length rest ≤ m
field-fits m act.EndField c field rest fits = omega arith
field-fits m act.EndRecord c field rest fits = omega arith
field-fits m act.Skip c field rest fits = omega arith
field-fits m act.Copy c field rest fits = omega (arith, length-append field (c ∷ []))

-- A record that was read leaves no more than there was, in a fresh state, and its fields are short.
pub record Leaves (m : ℕ) (p : Read) (xs : List ℕ) : Type 0 where
  pub rest : length p.2 ≤ length xs
  pub between : ends_at_end p.1 ≡ false
  pub short : Short m p.0

here : (m : ℕ) (b : Bool) (fields : List (List ℕ)) (s : State) (rest : List ℕ) (more : Option Read) (p : Read) → (b ≡ true → ends_at_end s ≡ false) → Short m fields → (more ≡ Some p → Leaves m p rest)
    → (if b then Some (fields, s, rest) else more) ≡ Some p → Leaves m p rest
here m true fields s rest more p fresh each ih e = subst (λ (q : Read). Leaves m q rest) (same_Some _ _ e) (record { rest = omega arith; between = fresh refl; short = each })
here m false fields s rest more p fresh each ih e = ih e

longer : (m : ℕ) (p : Read) (c : ℕ) (rest : List ℕ) → Leaves m p rest → Leaves m p (c ∷ rest)
longer m p c rest h = record { rest = omega (arith, h.rest); between = h.between; short = h.short }

leaves : (m : ℕ) (cfg : Config) (s : State) (fields : List (List ℕ)) (field xs : List ℕ) (p : Read) → Short m fields → length field + length xs ≤ m → next_record cfg s fields field xs ≡ Some p → Leaves m p xs
unfolding next_record
leaves m cfg s fields field [] p each fits e = here m (ends_at_end s) (fields ++ field ∷ []) st.StartRecord [] None p (λ _. refl) (short_push m fields field each (omega (arith, fits))) (λ none. absurd (none-some p none)) e
leaves m cfg s fields field (c ∷ rest) p each fits e =
    let next = after-short m (step cfg s c).1 c fields field rest each fits in
    longer m p c rest (here m (is_end (step cfg s c).1) (fields_after (step cfg s c).1 fields field) (step cfg s c).0 rest _ p (step-fresh cfg s c) next
    (leaves m cfg (step cfg s c).0 (fields_after (step cfg s c).1 fields field) (field_after (step cfg s c).1 c field) rest p next (field-fits m (step cfg s c).1 c field rest fits)) e)

-- the next record from a fresh state
pub next_leaves : (cfg : Config) (s : State) (xs : List ℕ) (p : Read) → next_record cfg s [] [] xs ≡ Some p → Leaves (length xs) p xs
next_leaves cfg s xs p e = leaves (length xs) cfg s [] [] xs p (All-nil (λ f. length f ≤ length xs)) (omega arith) e

-- it takes at least a byte
pub next_shorter : (cfg : Config) (s : State) (xs : List ℕ) (p : Read) → ends_at_end s ≡ false → next_record cfg s [] [] xs ≡ Some p → length p.2 < length xs
unfolding next_record
next_shorter cfg s [] p fresh e = absurd (none-some p (let f = rw fresh at e in f))
next_shorter cfg s (c ∷ rest) p fresh e =
    let m = suc (length rest) in
    let none = All-nil (λ (f : List ℕ). length f ≤ m) in
    let next = after-short m (step cfg s c).1 c [] [] rest none (omega arith) in
    let h = here m (is_end (step cfg s c).1) (fields_after (step cfg s c).1 [] []) (step cfg s c).0 rest _ p (step-fresh cfg s c) next
    (leaves m cfg (step cfg s c).0 (fields_after (step cfg s c).1 [] []) (field_after (step cfg s c).1 c []) rest p next (field-fits m (step cfg s c).1 c [] rest (omega arith))) e in omega (arith, h.rest)

-- as many turns as there are bytes are enough, and more change nothing
turns : (cfg : Config) (n m : ℕ) (s : State) (xs : List ℕ) → ends_at_end s ≡ false → length xs < n → length xs < m → records_from cfg n s xs ≡ records_from cfg m s xs
unfolding records_from
turns cfg zero m s xs fresh a b = absurd (omega arith)
turns cfg (suc n) zero s xs fresh a b = absurd (omega arith)
turns cfg (suc n) (suc m) s xs fresh a b = go (λ p e. turns cfg n m p.1 p.2 (next_leaves cfg s xs p e).between (let w = next_shorter cfg s xs p fresh e in omega arith) (let w = next_shorter cfg s xs p fresh e in omega arith)) (next_record cfg s [] [] xs) refl
  where
    go : ((p : Read) → next_record cfg s [] [] xs ≡ Some p → records_from cfg n p.1 p.2 ≡ records_from cfg m p.1 p.2) → (o : Option Read) → next_record cfg s [] [] xs ≡ o → records_next (records_from cfg n) o ≡ records_next (records_from cfg m) o
    go ih None e = refl
    go ih (Some p) e = ap (λ rows. p.0 ∷ rows) (ih p e)

-- the records from a fresh state, by the first of them
pub first_more : (cfg : Config) (s : State) (xs : List ℕ) (p : Read) → ends_at_end s ≡ false → next_record cfg s [] [] xs ≡ Some p → records_from cfg (length xs + 1) s xs ≡ p.0 ∷ records_from cfg (length p.2 + 1) p.1 p.2
unfolding records_from
first_more cfg s xs p fresh e =
    let w = next_shorter cfg s xs p fresh e in
    turns cfg (length xs + 1) (suc (length xs)) s xs fresh (omega arith) (omega arith)
    ∙ ap (records_next (records_from cfg (length xs))) e
    ∙ ap (λ rows. p.0 ∷ rows) (turns cfg (length xs) (length p.2 + 1) p.1 p.2 (next_leaves cfg s xs p e).between w (omega arith))

pub first_none : (cfg : Config) (s : State) (xs : List ℕ) → ends_at_end s ≡ false → next_record cfg s [] [] xs ≡ None → records_from cfg (length xs + 1) s xs ≡ []
unfolding records_from
first_none cfg s xs fresh e = turns cfg (length xs + 1) (suc (length xs)) s xs fresh (omega arith) (omega arith) ∙ ap (records_next (records_from cfg (length xs))) e
