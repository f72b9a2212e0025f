-- What a status means, and what each of its calls does to that: `Inserts`, `Removes` and `Seals`.
use Rattle.std.specs.Prelude.{◌≡◌, ℕ, ◌+◌, max, Bool, true, false, List, [], ◌∷◌, ◌++◌, Option, IfSome, option_map, IsTrue}
use Rattle.loc_spec_plane.specs.{Lists.is_in, Tables.Table, Tables.edge}
use Rattle.loc_edges.specs.Placing.{hits}
use Rattle.loc_status.specs.declared.status.InsertFault.{InsertFault}
use Rattle.loc_status.specs.declared.status.InsertFault.TheVariants.{Hits, NoMemory}
use Rattle.loc_status.specs.Lists.{IsInserted, IsRemoved}

-- what can be said of a status at one moment
pub record StatusMeaning : Type 0 where
  -- the present list, from the lowest edge to the highest
  pub list : List ℕ
  -- the sealed lists, where they are told
  pub sealed_lists : Option (List (List ℕ))
  -- how many lists were sealed, and how many edges were inserted and removed
  pub sealed : ℕ
  pub inserted : ℕ
  pub removed : ℕ
  -- one more than the greatest edge inserted, 0 before the first
  pub past_greatest : ℕ
  -- whether an edge was inserted or removed since the last seal
  pub is_changed : Bool

-- the list is empty, and nothing was sealed, inserted or removed
pub record IsFresh (new : StatusMeaning) : Type 0 where
  pub list : new.list ≡ []
  pub sealed_lists : IfSome new.sealed_lists (λ lists. lists ≡ [])
  pub sealed : new.sealed ≡ 0
  pub inserted : new.inserted ≡ 0
  pub removed : new.removed ≡ 0
  pub past_greatest : new.past_greatest ≡ 0
  pub is_changed : new.is_changed ≡ false

-- what was sealed is as it was
pub record KeepsSealed (old new : StatusMeaning) : Type 0 where
  pub sealed_lists : new.sealed_lists ≡ old.sealed_lists
  pub sealed : new.sealed ≡ old.sealed

-- edge e has come into the list
pub record Inserts (t : Table) (e : ℕ) (old new : StatusMeaning) : Type 0 where
  pub list : IsInserted t e old.list new.list
  pub kept : KeepsSealed old new
  pub inserted : new.inserted ≡ old.inserted + 1
  pub removed : new.removed ≡ old.removed
  pub past_greatest : new.past_greatest ≡ max old.past_greatest (e + 1)
  pub is_changed : new.is_changed ≡ true

-- edge e has gone from the list
pub record Removes (e : ℕ) (old new : StatusMeaning) : Type 0 where
  pub list : IsRemoved e old.list new.list
  pub kept : KeepsSealed old new
  pub inserted : new.inserted ≡ old.inserted
  pub removed : new.removed ≡ old.removed + 1
  pub past_greatest : new.past_greatest ≡ old.past_greatest
  pub is_changed : new.is_changed ≡ true

-- the list has come to the sealed ones, where they are told
pub record Seals (old new : StatusMeaning) : Type 0 where
  pub list : new.list ≡ old.list
  pub sealed_lists : new.sealed_lists ≡ option_map (λ lists. lists ++ old.list ∷ []) old.sealed_lists
  pub sealed : new.sealed ≡ old.sealed + 1
  pub inserted : new.inserted ≡ old.inserted
  pub removed : new.removed ≡ old.removed
  pub past_greatest : new.past_greatest ≡ old.past_greatest
  pub is_changed : new.is_changed ≡ false

-- the edge that is named is in the list, and edge e hits it; want of memory may come at any time
abbrev pub IsCause : Table → ℕ → List ℕ → InsertFault → Type 0
IsCause t e es (Hits a) = IsTrue (is_in a es) × IsTrue (hits (edge t a) (edge t e))
IsCause t e es NoMemory = Unit {0}
