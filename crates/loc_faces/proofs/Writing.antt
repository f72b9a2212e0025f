-- Texts that are put on a page one after the other.
use Rattle.std.proofs.Common.{◌≡◌, ℕ, ◌+◌, ◌<◌, List, ◌++◌, length, get_or, drop, Result, sym, ◌∙◌, ap, inl, inr, arith, ℤ, of_z, to_z}
use Rattle.std.specs.{List.flat_map, Int.w64}
use Rattle.loc_spec_plane.specs.{Points.OnGrid, Tables.Table, Tables.IsTable}
use Rattle.loc_spec_plane.specs.HalfEdges.{half_edge_count, edge_of, origin}
use Rattle.loc_spec_text.specs.Points.{grid_text}
use Rattle.loc_geom.proofs.Grid.{grid_back}
use Rattle.loc_half.proofs.Halves.{either_way, edge-fits, origin-down, origin-up}
use Rattle.loc_io.specs.{declared.sink.WriteFault.WriteFault, Streams.Stream}
use Rattle.loc_page.specs.Puts.{PutsText}
use Rattle.loc_page.proofs.Pages.{Goes, goes_next, put_same}

-- a coordinate that was put as 64 bits
pub same_value : (scale : ℕ) (v w : ℤ) {o m : Stream} {h k : List ℕ} {r : Result (Unit {0}) WriteFault} → OnGrid v → v ≡ w → PutsText (grid_text scale (to_z w64 (of_z w64 v))) o m h k r → PutsText (grid_text scale w) o m h k r
same_value scale v w on is put = put_same (ap (grid_text scale) (grid_back v on ∙ is)) put

-- one element more of what a loop puts
pub goes_item : {X : Type 0} (f : X → List ℕ) (xs : List X) (i : ℕ) (x : X) (whole : List ℕ) (o m : Stream) (h k : List ℕ) → i < length xs → x ≡ get_or xs i x
    → Goes whole (flat_map f (drop i xs)) o m h k → Goes whole (f x ++ flat_map f (drop (i + 1) xs)) o m h k
goes_item f xs i x whole o m h k less is goes = goes_next (flat_map f) xs i x (f x) whole o m h k less (ap (λ y. f y ++ flat_map f (drop (i + 1) xs)) (sym is)) goes

-- the corner that a half-edge leaves is one of the table
pub origin_fits : (t : Table) → IsTable t → (h : ℕ) → h < half_edge_count t → origin t h < length t.corners
origin_fits t ok h lt =
    let rise = ok.goes_up (edge_of h) (edge-fits t h lt) in
    elim (either_way h) [
      | inl up ↦ (let is = ap (origin t) up.1 ∙ origin-up t (edge_of h) in omega (arith, is, rise.0, rise.1))
      | inr down ↦ (let is = ap (origin t) down.1 ∙ origin-down t (edge_of h) in omega (arith, is, rise.1))
    ]
