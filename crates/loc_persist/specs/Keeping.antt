-- What of the rows stays for the versions before one: `KeepsBefore`.
use Rattle.std.specs.Prelude.{◌≡◌, ℕ, ◌<◌, true}
use Rattle.loc_pool.specs.{declared.Link.Link, declared.Turn.Turn, Maps.Map, Maps.has}
use Rattle.loc_pool.specs.Rows.{Row, row, child_at}

-- each link that has a row keeps it, with its item, and has the same children in each version before this one
abbrev pub KeepsBefore : ℕ → Map Row → Map Row → Type 0
KeepsBefore version rows rows' =
    (link : Link) → has rows link ≡ true → (has rows' link ≡ true) × ((row rows' link).item ≡ (row rows link).item) × ((earlier : ℕ) (turn : Turn) → earlier < version → child_at earlier turn (row rows' link) ≡ child_at earlier turn (row rows link))
