-- How many steps a search takes at most: `most_steps`.
use Rattle.std.specs.Prelude.{ℕ, zero, suc, ◌+◌, ◌*◌, ◌^◌, length, filter, if◌then◌else◌, nat_le}
use Rattle.loc_spec_plane.specs.{Points.Point, Tables.Table, Tables.edge_numbers, Places.alive_at}

-- how many edges are alive at p
abbrev pub alive_count : Table → Point → ℕ
alive_count t p = length (filter (alive_at t p) (edge_numbers t))

-- two to the number of steps down a version of k edges is at most this
abbrev pub version_bound : ℕ → ℕ
version_bound k = (k + 1) * (k + 1)

-- two to the number of steps of a search among v corners and then down a version of k edges is at most this
abbrev pub search_bound : ℕ → ℕ → ℕ
search_bound v k = (2 * v + 1) * version_bound k

-- the greatest of the numbers up to b of which the power of two is at most n, or 0
unfoldable pub greatest_power : ℕ → ℕ → ℕ
greatest_power n zero = 0
greatest_power n (suc b) = if nat_le (2 ^ suc b) n then suc b else greatest_power n b

-- the greatest number of which the power of two is at most the bound with all edges alive; it is below the bound
abbrev pub most_steps : Table → ℕ
most_steps t = greatest_power (search_bound (length t.corners) (length t.ends)) (search_bound (length t.corners) (length t.ends))
