-- The walk over a command's words agrees with what they give for its places and options.
use Rattle.std.proofs.Common.{◌≡◌, ◌==◌, ◌+◌, ◌&&◌, min, ℕ, Bool, true, false, List, [], ◌∷◌, Option, Some, option_map, sym, subst}
use Rattle.std.specs.List.{list_all}
use Rattle.std.proofs.lemmas.Bool.{and_parts}
use Rattle.clap.specs.{Lexer.usize_max, Walk.Row, Walk.Rule, Walk.settled_rows, Faults.settle_fault, Simple.Shape}
use Rattle.loc_spec_text.specs.Bytes.{Text}
use Rattle.loc_words.specs.{Rows.OptionRow, Rows.entries_of, Rows.is_value, Tested.is_tested}
use Rattle.loc_words.proofs.Agrees.{Agrees, agrees_as, one_use, walk_end, walk_on, walk_total}
use Rattle.loc_words.proofs.Options.{HasOptions, on_settings, plain_word}
use Rattle.loc_words.proofs.Walking.{IsPlace, held, state, placed, placed_fault, place_once, place_settles}

-- the number of the next place
abbrev pub next : ℕ → ℕ
next n = min (n + 1) usize_max

-- the rules have these places from the number n on
abbrev pub HasPlaces : List Rule → ℕ → List Text → Type 0
HasPlaces rules n [] = Unit {0}
HasPlaces rules n (place ∷ places) = IsPlace rules n place × HasPlaces rules (next n) places

-- the number behind them
abbrev pub place_after : ℕ → List Text → ℕ
place_after n [] = n
place_after n (place ∷ places) = place_after (next n) places

-- a value for each place, and behind them words that are tested
abbrev pub tested_from : List Text → List Text → Bool
tested_from [] words = list_all is_tested words
tested_from (place ∷ places) [] = false
tested_from (place ∷ places) (word ∷ words) = is_value word && tested_from places words

module _ (s : Shape) (options : List OptionRow) (once : s.args_override_self ≡ false) where
  abbrev pub AgreesFrom : ℕ → List Text → List Text → Type 0
  AgreesFrom n places words = (so_far : List Row) (pending : Option (Text × List Text)) → Agrees (settle_fault s.rules false (held so_far pending)) (settled_rows s.rules pending so_far)
      (entries_of options places words) (walk_total s (state n so_far pending) words) (walk_end s (state n so_far pending) words)

  one_place : (n : ℕ) (place : Text) (places : List Text) (x : ℕ) (xs : Text) (words : List Text) → IsPlace s.rules n place → (x == 45) ≡ false → AgreesFrom (next n) places words
      → AgreesFrom n (place ∷ places) ((x ∷ xs) ∷ words)
  one_place n place places x xs words is plain more so_far pending =
      let q = settle_fault s.rules false (held so_far pending) in
      let rows = settled_rows s.rules pending so_far in
      let used : Option (Text × List Text) = Some (place, (x ∷ xs) ∷ []) in
      let on = walk_on s (state n so_far pending) (state (next n) rows used) (x ∷ xs) words q (placed_fault s n place is so_far pending x xs once plain) (placed s n place is so_far pending x xs plain) in
      agrees_as q rows _ _ _ _ _ _ first on.0 on.1
      (one_use q rows (place, Some (x ∷ xs)) (settled_rows s.rules used rows) (entries_of options places words) (walk_total s (state (next n) rows used) words) (walk_end s (state (next n) rows used) words)
      (place_settles s rows n place (x ∷ xs) is)
      (subst (λ k. Agrees k (settled_rows s.rules used rows) (entries_of options places words) (walk_total s (state (next n) rows used) words) (walk_end s (state (next n) rows used) words))
      (place_once s rows n place (x ∷ xs) is) (more rows used)))
    where
      first : entries_of options (place ∷ places) ((x ∷ xs) ∷ words) ≡ option_map (λ given. (place, Some (x ∷ xs)) ∷ given) (entries_of options places words)
      first = simp plain

  -- the walk over tested words agrees with what they give
  pub on_entries : (n : ℕ) (places : List Text) → HasPlaces s.rules n places → HasOptions s (place_after n places) options → (words : List Text) → tested_from places words ≡ true → AgreesFrom n places words
  on_entries n [] has c words tested so_far pending = on_settings s n options c words so_far pending tested
  on_entries n (place ∷ places) has c [] tested so_far pending = absurd (cc tested)
  on_entries n (place ∷ places) has c (word ∷ words) tested so_far pending =
      let parts = and_parts (is_value word) (tested_from places words) tested in
      let p = plain_word word parts.0 in
      subst (λ w. AgreesFrom n (place ∷ places) (w ∷ words)) (sym p.is) (one_place n place places p.first p.others words has.0 p.plain (on_entries (next n) places has.1 c words parts.1)) so_far pending
