-- The root that a link stands for. The word: `root_by`.
use Rattle.std.specs.Prelude.{cond, Option, None, Some}
use Rattle.loc_pool.specs.{declared.Link.Link, Rows.no_link, Same.same}

-- the link, or none where it is the default one
abbrev pub root_by : Link → Option Link
root_by link = cond (same link no_link) None (Some link)
