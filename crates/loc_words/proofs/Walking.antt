-- What one word does to `clap`'s walk over the words: a place, an option that takes one value, its value, and a flag.
use Rattle.std.proofs.Common.{◌≡◌, ◌==◌, ◌+◌, ◌&&◌, min, ℕ, Bool, true, false, List, [], ◌∷◌, ◌++◌, Option, Some, None, refl, ap, inl, inr}
use Rattle.std.specs.{List.before_first, List.after_first, Str.bytes_eq}
use Rattle.std.proofs.{lemmas.Bool.cases_Bool, lemmas.Bool.or_parts, lemmas.Slice.Eq.bytes_eq-Decides}
use Rattle.clap.specs.{Lexer.has_byte, Lexer.usize_max, Kinds.Kinds, Kinds.or_else}
use Rattle.clap.specs.Walk.{Held, Walk, Row, Rule, Text, walked, settled_rows, idle, option, with_values, without, has_row, arg_by_id, arg_by_index, arg_by_long}
use Rattle.clap.specs.Faults.{turn_fault, settle_fault, repeat_fault, walk_fault}
use Rattle.clap.specs.{Simple.Shape, Simple.filled, Simple.with_index, Values.reading_of}
use Rattle.clap.specs.declared.builder.value_parser.ValueParser.TheVariants as vp
use Rattle.clap.specs.declared.parser.matches.ValueSource.TheVariants.{CommandLine}
use Rattle.clap.specs.declared.error.kind.ErrorKind.TheVariants as kind
use Rattle.clap.proofs.OnLiterals.{clap_on_literals}
use Rattle.loc_words.specs.{Apps.long_rule, Apps.place_rule, Rows.Entry}

-- the rules have an option of this name
pub record IsOption (rules : List Rule) (name : Text) : Type 0 where
  pub required : Bool
  pub by_long : arg_by_long rules name ≡ Some (filled (long_rule name required 1))
  pub by_id : arg_by_id rules name ≡ Some (filled (long_rule name required 1))

-- the rules have a flag of this name
pub record IsFlag (rules : List Rule) (name : Text) : Type 0 where
  pub by_long : arg_by_long rules name ≡ Some (filled (long_rule name false 0))

-- the rules have a place of this name and number
pub record IsPlace (rules : List Rule) (number : ℕ) (name : Text) : Type 0 where
  pub by_index : arg_by_index rules number ≡ Some (with_index number (filled (place_rule name)))
  pub by_id : arg_by_id rules name ≡ Some (with_index number (filled (place_rule name)))

-- a command that takes no more places, and none of whose options may stand twice
pub record IsPastPlaces (s : Shape) (place : ℕ) : Type 0 where
  pub no_place : arg_by_index s.rules place ≡ None
  pub once : s.args_override_self ≡ false
  pub leaf : s.is_leaf ≡ true

abbrev pub held : List Row → Option (Text × List Text) → Held
held rows pending = record { rows = rows; pending = pending; skip = 0 }

-- the walk between two settings
abbrev pub state : ℕ → List Row → Option (Text × List Text) → Walk
state place rows pending = record { held = held rows pending; waiting = idle; position = place; is_trailing = false; stopped = None }

-- the walk behind an option, before its value
abbrev pub wanting : ℕ → List Row → Text → Walk
wanting place rows name = record { held = held rows (Some (name, [])); waiting = option name; position = place; is_trailing = false; stopped = None }

-- the name of a word behind its two hyphens, and the value behind its "="
abbrev pub name_of : Text → Text
name_of t = before_first (λ x. x == 61) t

abbrev pub value_of : Text → Text
value_of t = after_first (λ x. x == 61) t

abbrev pub listed : Option Text → List Text
listed None = []
listed (Some v) = v ∷ []

-- what was found for one use
abbrev pub row : Entry → Row
row e = record { id = e.0; values = listed e.1; count = None; source = Some CommandLine; reading = reading_of vp.String }

-- the rows with the one use of an argument
abbrev pub used_once : Entry → List Row → List Row
used_once e rows = with_values e.0 (reading_of vp.String) CommandLine (listed e.1) (without e.0 rows)

pub stray : (s : Shape) (place : ℕ) → IsPastPlaces s place → (rows : List Row) (p : Option (Text × List Text)) (x : ℕ) (xs : Text) → (x == 45) ≡ false
    → turn_fault s [] (state place rows p) (x ∷ xs) ≡ kind.UnknownArgument ∷ []
unfolding clap_on_literals
stray s place past rows p x xs h = let a = past.no_place in let b = past.leaf in simp (h, a, b)

both_false : (b : Bool) → (b && false) ≡ false
both_false true = refl
both_false false = refl

-- a word that is no option goes to the next place
pub placed : (s : Shape) (n : ℕ) (name : Text) → IsPlace s.rules n name → (rows : List Row) (p : Option (Text × List Text)) (x : ℕ) (xs : Text) → (x == 45) ≡ false
    → walked s.rules [] (state n rows p) (x ∷ xs) ≡ state (min (n + 1) usize_max) (settled_rows s.rules p rows) (Some (name, (x ∷ xs) ∷ []))
unfolding clap_on_literals
placed s n name is rows p x xs h = let a = is.by_index in simp (h, a, both_false)

pub placed_fault : (s : Shape) (n : ℕ) (name : Text) → IsPlace s.rules n name → (rows : List Row) (p : Option (Text × List Text)) (x : ℕ) (xs : Text) → s.args_override_self ≡ false → (x == 45) ≡ false
    → turn_fault s [] (state n rows p) (x ∷ xs) ≡ settle_fault s.rules false (held rows p)
unfolding clap_on_literals
placed_fault s n name is rows p x xs once h = let a = is.by_index in simp (h, a, once, both_false)

pub place_once : (s : Shape) (rows : List Row) (n : ℕ) (name v : Text) → IsPlace s.rules n name → settle_fault s.rules false (held rows (Some (name, v ∷ []))) ≡ or_else (repeat_fault false name rows) []
unfolding clap_on_literals
place_once s rows n name v is = let a = is.by_id in simp a

pub place_settles : (s : Shape) (rows : List Row) (n : ℕ) (name v : Text) → IsPlace s.rules n name → settled_rows s.rules (Some (name, v ∷ [])) rows ≡ used_once (name, Some v) rows
unfolding clap_on_literals
place_settles s rows n name v is = let a = is.by_id in simp a

pub unknown : (s : Shape) (place : ℕ) (rows : List Row) (p : Option (Text × List Text)) (y : ℕ) (ys : Text) → arg_by_long s.rules (name_of (y ∷ ys)) ≡ None
    → turn_fault s [] (state place rows p) (45 ∷ 45 ∷ y ∷ ys) ≡ kind.UnknownArgument ∷ []
unfolding clap_on_literals
unknown s place rows p y ys h = simp h

pub joined : (s : Shape) (place : ℕ) (rows : List Row) (p : Option (Text × List Text)) (y : ℕ) (ys : Text) → has_byte 61 (y ∷ ys) ≡ true → IsOption s.rules (name_of (y ∷ ys))
    → walked s.rules [] (state place rows p) (45 ∷ 45 ∷ y ∷ ys) ≡ state place (used_once (name_of (y ∷ ys), Some (value_of (y ∷ ys))) (settled_rows s.rules p rows)) None
unfolding clap_on_literals
joined s place rows p y ys has is = let a = is.by_long in simp (has, a)

pub joined_fault : (s : Shape) (place : ℕ) → IsPastPlaces s place → (rows : List Row) (p : Option (Text × List Text)) (y : ℕ) (ys : Text) → has_byte 61 (y ∷ ys) ≡ true → IsOption s.rules (name_of (y ∷ ys))
    → turn_fault s [] (state place rows p) (45 ∷ 45 ∷ y ∷ ys) ≡ or_else (or_else (settle_fault s.rules false (held rows p)) (or_else (repeat_fault false (name_of (y ∷ ys)) (settled_rows s.rules p rows)) [])) []
unfolding clap_on_literals
joined_fault s place past rows p y ys has is = let a = is.by_long in let b = past.once in simp (has, a, b)

pub apart : (s : Shape) (place : ℕ) (rows : List Row) (p : Option (Text × List Text)) (y : ℕ) (ys : Text) → has_byte 61 (y ∷ ys) ≡ false → IsOption s.rules (name_of (y ∷ ys))
    → walked s.rules [] (state place rows p) (45 ∷ 45 ∷ y ∷ ys) ≡ wanting place (settled_rows s.rules p rows) (name_of (y ∷ ys))
unfolding clap_on_literals
apart s place rows p y ys lacks is = let a = is.by_long in simp (lacks, a)

pub apart_fault : (s : Shape) (place : ℕ) → IsPastPlaces s place → (rows : List Row) (p : Option (Text × List Text)) (y : ℕ) (ys : Text) → has_byte 61 (y ∷ ys) ≡ false → IsOption s.rules (name_of (y ∷ ys))
    → turn_fault s [] (state place rows p) (45 ∷ 45 ∷ y ∷ ys) ≡ or_else (settle_fault s.rules false (held rows p)) []
unfolding clap_on_literals
apart_fault s place past rows p y ys lacks is = let a = is.by_long in let b = past.once in simp (lacks, a, b)

pub valued : (s : Shape) (place : ℕ) (rows : List Row) (name : Text) (x : ℕ) (xs : Text) → (x == 45) ≡ false → IsOption s.rules name
    → walked s.rules [] (wanting place rows name) (x ∷ xs) ≡ state place rows (Some (name, (x ∷ xs) ∷ []))
unfolding clap_on_literals
valued s place rows name x xs h is = let a = is.by_id in let same = (bytes_eq-Decides name name).1 refl in simp (h, a, same)

pub valued_fault : (s : Shape) (place : ℕ) (rows : List Row) (name : Text) (x : ℕ) (xs : Text) → (x == 45) ≡ false
    → turn_fault s [] (wanting place rows name) (x ∷ xs) ≡ []
unfolding clap_on_literals
valued_fault s place rows name x xs h = simp h

-- an option with no value is a fault where its use is settled
pub empty_fault : (s : Shape) (rows : List Row) (name : Text) → IsOption s.rules name → settle_fault s.rules false (held rows (Some (name, []))) ≡ kind.InvalidValue ∷ []
unfolding clap_on_literals
empty_fault s rows name is = let a = is.by_id in simp a

-- and an option with a value is one where it stands twice
pub once_fault : (s : Shape) (rows : List Row) (name v : Text) → IsOption s.rules name → settle_fault s.rules false (held rows (Some (name, v ∷ []))) ≡ or_else (repeat_fault false name rows) []
unfolding clap_on_literals
once_fault s rows name v is = let a = is.by_id in simp a

pub settles : (s : Shape) (rows : List Row) (name v : Text) → IsOption s.rules name → settled_rows s.rules (Some (name, v ∷ [])) rows ≡ used_once (name, Some v) rows
unfolding clap_on_literals
settles s rows name v is = let a = is.by_id in simp a

-- a word with two hyphens where a value is wanted is a fault
pub long_fault : (s : Shape) (place : ℕ) → IsPastPlaces s place → (rows : List Row) (name : Text) (y : ℕ) (ys : Text) → IsOption s.rules name → IsOption s.rules (name_of (y ∷ ys))
    → turn_fault s [] (wanting place rows name) (45 ∷ 45 ∷ y ∷ ys) ≡ kind.InvalidValue ∷ []
unfolding clap_on_literals
long_fault s place past rows name y ys is other = let a = is.by_id in let b = other.by_long in let d = past.once in elim (cases_Bool (has_byte 61 (y ∷ ys))) [
  | inl has ↦ simp (has, a, b, d)
  | inr lacks ↦ simp (lacks, a, b, d)
]

pub unknown_fault : (s : Shape) (place : ℕ) (rows : List Row) (name : Text) (y : ℕ) (ys : Text) → arg_by_long s.rules (name_of (y ∷ ys)) ≡ None
    → turn_fault s [] (wanting place rows name) (45 ∷ 45 ∷ y ∷ ys) ≡ kind.UnknownArgument ∷ []
unfolding clap_on_literals
unknown_fault s place rows name y ys h = simp h

-- a flag alone is used at once
pub flagged : (s : Shape) (place : ℕ) (rows : List Row) (p : Option (Text × List Text)) (y : ℕ) (ys : Text) → has_byte 61 (y ∷ ys) ≡ false → IsFlag s.rules (name_of (y ∷ ys))
    → walked s.rules [] (state place rows p) (45 ∷ 45 ∷ y ∷ ys) ≡ state place (used_once (name_of (y ∷ ys), None) (settled_rows s.rules p rows)) None
unfolding clap_on_literals
flagged s place rows p y ys lacks is = let a = is.by_long in simp (lacks, a)

pub flagged_fault : (s : Shape) (place : ℕ) → IsPastPlaces s place → (rows : List Row) (p : Option (Text × List Text)) (y : ℕ) (ys : Text) → has_byte 61 (y ∷ ys) ≡ false → IsFlag s.rules (name_of (y ∷ ys))
    → turn_fault s [] (state place rows p) (45 ∷ 45 ∷ y ∷ ys) ≡ or_else (or_else (settle_fault s.rules false (held rows p)) (or_else (repeat_fault false (name_of (y ∷ ys)) (settled_rows s.rules p rows)) [])) []
unfolding clap_on_literals
flagged_fault s place past rows p y ys lacks is = let a = is.by_long in let b = past.once in simp (lacks, a, b)

-- a flag with a value is a fault
pub flag_valued : (s : Shape) (place : ℕ) (rows : List Row) (p : Option (Text × List Text)) (y : ℕ) (ys : Text) → has_byte 61 (y ∷ ys) ≡ true → IsFlag s.rules (name_of (y ∷ ys))
    → turn_fault s [] (state place rows p) (45 ∷ 45 ∷ y ∷ ys) ≡ kind.TooManyValues ∷ []
unfolding clap_on_literals
flag_valued s place rows p y ys has is = let a = is.by_long in simp (has, a)

-- and so is a flag where a value is wanted
pub flag_fault : (s : Shape) (place : ℕ) → IsPastPlaces s place → (rows : List Row) (name : Text) (y : ℕ) (ys : Text) → IsOption s.rules name → IsFlag s.rules (name_of (y ∷ ys))
    → turn_fault s [] (wanting place rows name) (45 ∷ 45 ∷ y ∷ ys) ≡ [] → ⊥
unfolding clap_on_literals
flag_fault s place past rows name y ys is other quiet = let a = is.by_id in let b = other.by_long in let d = past.once in elim (cases_Bool (has_byte 61 (y ∷ ys))) [
  | inl has ↦ cc (simp (has, a, b, d) at quiet)
  | inr lacks ↦ cc (simp (lacks, a, b, d) at quiet)
]

-- an argument that was not used yet comes last
pub added : (e : Entry) (rows : List Row) → has_row e.0 rows ≡ false → used_once e rows ≡ rows ++ row e ∷ []
added e [] absent = refl
added e (r ∷ rs) absent =
    let parts = or_parts (bytes_eq r.id e.0) (has_row e.0 rs) absent in
    let here = parts.0 in
    simp here (ap (λ (l : List Row). r ∷ l) (added e rs parts.1))

-- the walk over one word, and the faults of it
pub walk_step : (s : Shape) (w : Walk) (word : Text) (rest : List Text) → walk_fault s [] w (word ∷ rest) ≡ or_else (turn_fault s [] w word) (walk_fault s [] (walked s.rules [] w word) rest)
unfolding clap_on_literals
walk_step s w word rest = refl

pub no_fault : (a b : Kinds) → or_else a b ≡ [] → (a ≡ []) × (b ≡ [])
no_fault [] b e = (refl, e)
no_fault (k ∷ ks) b e = absurd (cc e)
