-- A pool as contracts see it: the rows of its nodes by their links, and the room for more. The words: `Row`, `Nodes`, `no_link`, `blank`, `row`, `new_row`,
-- `plain_child`, `with_child`, `same_turn`, `child_by`, `child_at`, `stamped`, `IsFree`, `AreNames`, `IsNew`, `IsPlace`.
use Rattle.std.specs.Prelude.{◌≡◌, ◌≢◌, ℕ, ◌-◌, ◌≤◌, ◌&&◌, ◌⊎◌, Bool, true, false, cond, nat_le, List, [], ◌∷◌, Option, None, Some, slice_get}
use Rattle.loc_pool.specs.{declared.Link.Link, declared.Extra.Extra, declared.Turn.Turn}
use Rattle.loc_pool.specs.{declared.Turn.TheVariants.Left, declared.Turn.TheVariants.Right, declared.Colour.Colour}
use Rattle.loc_pool.specs.{declared.Colour.TheVariants.Black, Maps.Map, Maps.has, Maps.value_or}
use Rattle.std.specs.List.{AllByRecursion}

-- a node's row: its item, its plain children, the child that counts from a version on, and its colour
pub record Row : Type 0 where
  pub item : ℕ
  pub left : Option Link
  pub right : Option Link
  pub extra : Option Extra
  pub colour : Colour

-- the rows by their links in the order of making, and for how many nodes there is room
pub record Nodes : Type 0 where
  pub rows : Map Row
  pub spare : ℕ

-- the default link
abbrev pub no_link : Link
no_link = record { number = 0 }

-- the row that stands where a link has none
abbrev pub blank : Row
blank = record { item = 0; left = None; right = None; extra = None; colour = Black }

-- the row of a link
abbrev pub row : Map Row → Link → Row
row = value_or blank

-- a new row
abbrev pub new_row : ℕ → Option Link → Option Link → Colour → Row
new_row item left right colour = record { item = item; left = left; right = right; extra = None; colour = colour }

-- the plain child on a side
abbrev pub plain_child : Turn → Row → Option Link
plain_child Left x = x.left
plain_child Right x = x.right

-- a row with the plain child on a side exchanged
abbrev pub with_child : Turn → Option Link → Row → Row
with_child Left to x = record x { left = to }
with_child Right to x = record x { right = to }

-- whether two sides are the same
abbrev pub same_turn : Turn → Turn → Bool
same_turn Left Left = true
same_turn Left Right = false
same_turn Right Left = false
same_turn Right Right = true

-- the child on a side at a version by an extra, where the plain child is p
abbrev pub child_by : ℕ → Turn → Option Link → Option Extra → Option Link
child_by version turn p None = p
child_by version turn p (Some e) = cond (same_turn e.turn turn && nat_le e.version version) e.to p

-- the child on a side at a version
abbrev pub child_at : ℕ → Turn → Row → Option Link
child_at version turn x = child_by version turn (plain_child turn x) x.extra

-- a row with its extra set
abbrev pub stamped : ℕ → Turn → Option Link → Row → Row
stamped version turn to x = record x { extra = Some (record { turn = turn; version = version; to = to }) }

-- there is no extra, or one of this side and version
abbrev pub IsFree : ℕ → Turn → Row → Type 0
IsFree version turn x = (x.extra ≡ None) ⊎ ((to : Option Link) × (x.extra ≡ Some (record { turn = turn; version = version; to = to })))

-- the links name one node each: none stands twice, and none is the default link
abbrev pub AreNames : List Link → Type 0
AreNames [] = Unit {0}
AreNames (l ∷ ls) = (l ≢ no_link) × AllByRecursion (λ m. m ≢ l) ls × AreNames ls

-- the link has no row, and is not the default link
abbrev pub IsNew : Map Row → Link → Type 0
IsNew rows l = (has rows l ≡ false) × (l ≢ no_link)

-- the link stands at this place of the list, counted from 1
abbrev pub IsPlace : List Link → Link → ℕ → Type 0
IsPlace ls l n = (1 ≤ n) × (slice_get ls (n - 1) ≡ Some l)
