-- A map from links to values: the pairs in the order in which they came, of which the first counts. The words: `Map`, `has`, `value_or`, `found`, `put`,
-- `links`.
use Rattle.std.specs.Prelude.{Bool, false, cond, ◌||◌, List, [], ◌∷◌, Option, None, Some}
use Rattle.loc_pool.specs.{declared.Link.Link, Same.same}

-- a map from links
abbrev pub Map : Type 0 → Type 0
Map A = List (Link × A)

-- whether a link has a value
unfoldable pub has : {A : Type 0} → Map A → Link → Bool
has [] l = false
has (c ∷ cs) l = same c.0 l || has cs l

-- the value of a link, or x where it has none
unfoldable pub value_or : {A : Type 0} → A → Map A → Link → A
value_or x [] l = x
value_or x (c ∷ cs) l = cond (same c.0 l) c.1 (value_or x cs l)

-- the value of a link, or none
unfoldable pub found : {A : Type 0} → Map A → Link → Option A
found [] l = None
found (c ∷ cs) l = cond (same c.0 l) (Some c.1) (found cs l)

-- the map with the value of one link exchanged
unfoldable pub put : {A : Type 0} → Map A → Link → A → Map A
put [] l x = []
put (c ∷ cs) l x = cond (same c.0 l) ((c.0, x) ∷ cs) (c ∷ put cs l x)

-- the links in the order in which they came
unfoldable pub links : {A : Type 0} → Map A → List Link
links [] = []
links (c ∷ cs) = c.0 ∷ links cs
