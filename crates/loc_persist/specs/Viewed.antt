-- The store as contracts see it. The word: `stored`.
use Rattle.std.specs.Prelude.{ℕ, List, Option}
use Rattle.loc_pool.specs.declared.Link.{Link}
use Rattle.loc_persist.specs.{declared.present.Present.Present, Stored.Stored}

-- the store of these fields
abbrev pub stored : Present → List (Option Link) → ℕ → ℕ → ℕ → ℕ → Stored
stored present roots sealed_nodes made changed room = record { rows = present.pool.rows; roots = roots; root = present.root; sealed_nodes = sealed_nodes; copied = present.copied.links; made = made; changed = changed; room = room }
