-- Whether two links are the same. The word: `same`.
use Rattle.std.specs.Prelude.{Bool, ◌==◌}
use Rattle.loc_pool.specs.declared.Link.{Link}

-- whether two links are the same
unfoldable pub same : Link → Link → Bool
same l m = l.number == m.number
