-- The members of a list in parentheses, read one by one from the left.
use Rattle.std.proofs.Common.{◌≡◌, ℕ, zero, suc, ◌<◌, ◌≤◌, List, [], ◌∷◌, ◌++◌, length, Option, Some, None, option_map, option_and_then, refl, sym, ◌∙◌, ap, arith, append_assoc}
use Rattle.loc_spec_text.specs.Geometry.{Symbol, close_mark, comma}
use Rattle.loc_spec_text.specs.Reader.{Reader, onto, next, members_at}

-- members in front of what was read
abbrev pub onto_all : {X : Type 0} → List X → List X × List Symbol → List X × List Symbol
onto_all xs r = (xs ++ r.0, r.1)

-- These members have been read so far of the list that starts there, and it goes on at the rest.
pub record IsSoFar {X : Type 0} (read : Reader X) (start : List Symbol) (xs : List X) (rest : List Symbol) : Type 0 where
  pub fuel : ℕ
  pub enough : length rest ≤ fuel
  pub gives : members_at read (length start) start ≡ option_map (onto_all xs) (members_at read fuel rest)

onto_more : {X : Type 0} (xs : List X) (x : X) (o : Option (List X × List Symbol)) → option_map (onto_all xs) (option_map (onto x) o) ≡ option_map (onto_all (xs ++ x ∷ [])) o
onto_more xs x None = refl
onto_more xs x (Some r) = ap (λ ys. Some (ys, r.1)) (sym (append_assoc xs (x ∷ []) r.0))

module _ {X : Type 0} (read : Reader X) (start : List Symbol) (xs : List X) (rest : List Symbol) where
  after : (k : ℕ) (x : X) (ps : List Symbol) → read rest ≡ Some (x, ps) → members_at read (suc k) rest ≡ next (members_at read k) x ps
  after k x ps e = ap (option_and_then (λ p. next (members_at read k) p.0 p.1)) e

  -- a comma: the list goes on behind it
  pub so_far_more : IsSoFar read start xs rest → (x : X) (more : List Symbol) → read rest ≡ Some (x, comma ∷ more) → length (comma ∷ more) < length rest → IsSoFar read start (xs ++ x ∷ []) more
  so_far_more s x more e shorter = go s.fuel s.enough s.gives
    where
      go : (k : ℕ) → length rest ≤ k → members_at read (length start) start ≡ option_map (onto_all xs) (members_at read k rest) → IsSoFar read start (xs ++ x ∷ []) more
      go zero enough gives = absurd (omega arith)
      go (suc k) enough gives = record {
        fuel = k;
        enough = omega arith;
        gives = gives ∙ ap (option_map (onto_all xs)) (after k x (comma ∷ more) e) ∙ onto_more xs x (members_at read k more);
      }

  -- a close mark: that was the last
  pub so_far_all : IsSoFar read start xs rest → (x : X) (more : List Symbol) → read rest ≡ Some (x, close_mark ∷ more) → length (close_mark ∷ more) < length rest
      → members_at read (length start) start ≡ Some (xs ++ x ∷ [], more)
  so_far_all s x more e shorter = go s.fuel s.enough s.gives
    where
      go : (k : ℕ) → length rest ≤ k → members_at read (length start) start ≡ option_map (onto_all xs) (members_at read k rest) → members_at read (length start) start ≡ Some (xs ++ x ∷ [], more)
      go zero enough gives = absurd (omega arith)
      go (suc k) enough gives = gives ∙ ap (option_map (onto_all xs)) (after k x (close_mark ∷ more) e)

  -- no member: there is no such list
  pub so_far_none : IsSoFar read start xs rest → read rest ≡ None → members_at read (length start) start ≡ None
  so_far_none s e = go s.fuel s.gives
    where
      go : (k : ℕ) → members_at read (length start) start ≡ option_map (onto_all xs) (members_at read k rest) → members_at read (length start) start ≡ None
      go zero gives = gives
      go (suc k) gives = gives ∙ ap (λ o. option_map (onto_all xs) (option_and_then (λ p. next (members_at read k) p.0 p.1) o)) e

  -- another symbol behind the member: the same
  pub so_far_broken : IsSoFar read start xs rest → (x : X) (ps : List Symbol) → read rest ≡ Some (x, ps) → ((more : Reader (List X)) → next more x ps ≡ None) → members_at read (length start) start ≡ None
  so_far_broken s x ps e none = go s.fuel s.gives
    where
      go : (k : ℕ) → members_at read (length start) start ≡ option_map (onto_all xs) (members_at read k rest) → members_at read (length start) start ≡ None
      go zero gives = gives
      go (suc k) gives = gives ∙ ap (option_map (onto_all xs)) (after k x ps e ∙ none (members_at read k))
