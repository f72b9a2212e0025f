-- Lists in parentheses, read member by member, with what is kept of the members.
use Rattle.std.proofs.Common.{◌≡◌, ◌<◌, List, [], ◌∷◌, ◌++◌, length, Bool, true, false, Option, Some, None, option_map, refl, sym, ◌∙◌, ap, arith, length-append}
use Rattle.std.specs.{List.fold, Str.bytes_eq}
use Rattle.std.specs.Prelude.{⊤, codes, if◌then◌else◌}
use Rattle.std.proofs.{lemmas.List.Sums.fold-append, lemmas.Option.same_Some, lemmas.Option.some_pair_parts}
use Rattle.loc_spec_text.specs.Geometry.{Symbol, word, open_mark, close_mark, comma, WidePoint, two, three, four, enclosed_or_empty, point, wide_numbers}
use Rattle.loc_spec_text.specs.Reader.{Reader, enclosed_at, list_at, members_at, next, wide_point_at}
use Rattle.loc_spec_text.proofs.ReaderLaws.{IsReader, enclosed_reader, list_reader, wide_point_reader}
use Rattle.loc_wkt.specs.Fronts.{empty_at, goes_on_at, open_at}
use Rattle.loc_wkt.specs.Lists.{listed_at, wide_polygon_at, wide_ring_at}
use Rattle.loc_wkt.proofs.TagLemmas.{if_some}
use Rattle.loc_wkt.proofs.MemberLemmas.{IsSoFar, onto_all, so_far_all, so_far_broken, so_far_more, so_far_none}

-- what is read takes symbols
abbrev pub TakesSymbols : {X : Type 0} → Reader X → Type 0
TakesSymbols {X} read = (ps rest : List Symbol) (x : X) → read ps ≡ Some (x, rest) → length rest < length ps

takes_spelled : {X : Type 0} (spelled : X → List Symbol) (Good : X → Type 0) (read : Reader X) → IsReader spelled Good read → ((x : X) → 0 < length (spelled x)) → TakesSymbols read
takes_spelled spelled Good read law some ps rest x e = omega (arith, ap length (law.sound ps rest x e).0, length-append (spelled x) rest, some x)

point_some : (p : WidePoint) → 0 < length (point wide_numbers p)
point_some (two x y) = omega arith
point_some (three x y z) = omega arith
point_some (four x y z m) = omega arith

list_some : {X : Type 0} (spelled : X → List Symbol) (xs : List X) → 0 < length (enclosed_or_empty spelled xs)
list_some spelled [] = omega arith
list_some spelled (x ∷ xs) = omega arith

pub point_takes : TakesSymbols wide_point_at
point_takes = takes_spelled (point wide_numbers) (λ p. ⊤) wide_point_at wide_point_reader point_some

pub ring_takes : TakesSymbols wide_ring_at
ring_takes = takes_spelled _ _ wide_ring_at (enclosed_reader (point wide_numbers) (λ p. ⊤) wide_point_at wide_point_reader) (λ r. omega arith)

pub polygon_takes : TakesSymbols wide_polygon_at
polygon_takes = takes_spelled _ _ wide_polygon_at (list_reader _ _ wide_ring_at (enclosed_reader (point wide_numbers) (λ p. ⊤) wide_point_at wide_point_reader)) (λ rings. list_some _ rings)

comma_first : (ps rest : List Symbol) → goes_on_at ps ≡ Some (true, rest) → ps ≡ comma ∷ rest
unfolding goes_on_at
comma_first (comma ∷ ps) rest e = ap (λ qs. comma ∷ qs) (some_pair_parts true true ps rest e).1
comma_first (close_mark ∷ ps) rest e = absurd (let p = (some_pair_parts false true ps rest e).0 in cc)
comma_first _ rest e = absurd (cc)

close_first : (ps rest : List Symbol) → goes_on_at ps ≡ Some (false, rest) → ps ≡ close_mark ∷ rest
unfolding goes_on_at
close_first (close_mark ∷ ps) rest e = ap (λ qs. close_mark ∷ qs) (some_pair_parts false false ps rest e).1
close_first (comma ∷ ps) rest e = absurd (let p = (some_pair_parts true false ps rest e).0 in cc)
close_first _ rest e = absurd (cc)

neither : {X : Type 0} (ps : List Symbol) (x : X) (more : Reader (List X)) → goes_on_at ps ≡ None → next more x ps ≡ None
unfolding goes_on_at
neither (comma ∷ ps) x more e = absurd (cc)
neither (close_mark ∷ ps) x more e = absurd (cc)
neither _ x more e = refl

-- what is kept of one member more
pub kept_more : {X S : Type 0} (step : S → X → S) (before now after : S) (members : List X) (x : X) → now ≡ fold step before members → after ≡ step now x → after ≡ fold step before (members ++ x ∷ [])
kept_more step before now after members x h k = k ∙ ap (λ s. step s x) h ∙ sym (fold-append step before members (x ∷ []))

module _ {X : Type 0} (read : Reader X) (start : List Symbol) where
  -- nothing has been read
  pub begin : IsSoFar read start [] start
  begin = record { fuel = length start; enough = omega arith; gives = at_front (members_at read (length start) start) }
    where
      at_front : (o : Option (List X × List Symbol)) → o ≡ option_map (onto_all []) o
      at_front None = refl
      at_front (Some r) = refl

  module _ (members : List X) (rest : List Symbol) (h : IsSoFar read start members rest) where
    -- no member follows: there is no list
    pub no_member : read rest ≡ None → listed_at read start ≡ None
    no_member e = so_far_none read start members rest h e

    module _ (x : X) (more : List Symbol) (e : read rest ≡ Some (x, more)) where
      -- neither a comma nor a close mark behind a member: there is no list
      pub no_end : goes_on_at more ≡ None → listed_at read start ≡ None
      no_end f = so_far_broken read start members rest h x more e (λ next. neither more x next f)

      -- a comma: the list goes on
      pub goes_on : TakesSymbols read → (behind : List Symbol) → goes_on_at more ≡ Some (true, behind) → IsSoFar read start (members ++ x ∷ []) behind
      goes_on takes behind f = let is = comma_first more behind f in
          so_far_more read start members rest h x behind (e ∙ ap (λ qs. Some (x, qs)) is) (omega (arith, takes rest more x e, ap length is))

      -- a close mark: that was the last
      pub ends : TakesSymbols read → (behind : List Symbol) → goes_on_at more ≡ Some (false, behind) → listed_at read start ≡ Some (members ++ x ∷ [], behind)
      ends takes behind f = let is = close_first more behind f in
          so_far_all read start members rest h x behind (e ∙ ap (λ qs. Some (x, qs)) is) (omega (arith, takes rest more x e, ap length is))

open_front : (ps inside : List Symbol) → open_at ps ≡ Some inside → ps ≡ open_mark ∷ inside
unfolding open_at
open_front (open_mark ∷ ps) inside e = ap (λ qs. open_mark ∷ qs) (same_Some ps inside e)
open_front _ inside e = absurd (cc)

if_none : (b : Bool) (ps : List Symbol) → (if b then Some ps else None) ≡ None → b ≡ false
if_none true ps e = absurd (cc)
if_none false ps e = refl

module _ {X : Type 0} (read : Reader X) where
  -- a list of members behind an open mark
  pub enclosed_open : (ps inside : List Symbol) → open_at ps ≡ Some inside → enclosed_at read ps ≡ listed_at read inside
  enclosed_open ps inside e = ap (enclosed_at read) (open_front ps inside e)

  -- without an open mark there is none
  pub enclosed_none : (ps : List Symbol) → open_at ps ≡ None → enclosed_at read ps ≡ None
  unfolding open_at
  enclosed_none (open_mark ∷ ps) e = absurd (cc)
  enclosed_none _ e = refl

  -- the same of a list that may be EMPTY
  pub list_open : (ps inside : List Symbol) → open_at ps ≡ Some inside → list_at read ps ≡ listed_at read inside
  list_open ps inside e = ap (list_at read) (open_front ps inside e)

  -- EMPTY
  pub list_empty : (ps rest : List Symbol) → empty_at ps ≡ Some rest → list_at read ps ≡ Some ([], rest)
  unfolding empty_at
  list_empty (word w ∷ ps) rest e = let p = if_some (bytes_eq w (codes "EMPTY")) ps rest e in rw p.0 (ap (λ qs. Some ([], qs)) p.1)
  list_empty _ rest e = absurd (cc)

  -- neither
  pub list_none : (ps : List Symbol) → open_at ps ≡ None → empty_at ps ≡ None → list_at read ps ≡ None
  unfolding open_at empty_at
  list_none (open_mark ∷ ps) e f = absurd (cc)
  list_none (word w ∷ ps) e f = rw (if_none (bytes_eq w (codes "EMPTY")) ps f) refl
  list_none _ e f = refl
