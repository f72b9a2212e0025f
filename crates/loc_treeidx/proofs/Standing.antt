-- Where an index stands, and how many edges the list at a point has.
use Rattle.std.proofs.Common.{◌≡◌, ℕ, suc, ◌-◌, ◌<◌, [], ◌∷◌, get_or, subst, arith}
use Rattle.loc_persist.specs.Meaning.{VersionsMeaning}
use Rattle.loc_place.specs.Standing.{IsBehind}
use Rattle.loc_place.proofs.Versions.{version_there}
use Rattle.loc_spec_plane.specs.{Points.Point, Tables.Table, Places.IsListAt}
use Rattle.loc_treeidx.specs.Standing.{AreVersionsOf}

-- the version of the last corner before a point is the list there
pub version_behind : (t : Table) (m : VersionsMeaning) (p : Point) (n : ℕ) → AreVersionsOf t m → IsBehind t p n → 0 < n → IsListAt t p (get_or m.sealed_lists (n - 1) [])
version_behind t m p n stands behind some =
    let next : n ≡ suc (n - 1) = omega (arith, some) in
    let there : IsListAt t p (get_or ([] ∷ m.sealed_lists) n []) = version_there t stands.planar.in_order m.sealed_lists stands.versions p n behind in
    subst (λ k. IsListAt t p (get_or ([] ∷ m.sealed_lists) k [])) next there
