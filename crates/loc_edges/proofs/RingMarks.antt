-- Touching and covering by the marks of the plain table are touching and covering by the rings, and no mark is of another feature.
use Rattle.std.proofs.Common.{◌≡◌, ℕ, ◌≤◌, List, [], length, get_or}
use Rattle.loc_spec_plane.specs.{Points.Point, Rings.Rings, Rings.touches, Rings.covers, Covers.feature_count}
use Rattle.loc_spec_plane.specs.Tables.{table_of, whole, touches_by_marks, covers_by_marks}
use Rattle.loc_laws_noding.proofs.Noded.{cutting_whole}
use Rattle.loc_laws_noding.proofs.Tables as laws

-- a feature touches by its marks what it touches by its rings
pub touches_is : (layer : List Rings) (f : ℕ) (p : Point) → touches_by_marks (table_of layer) f p ≡ touches (get_or layer f []) p
touches_is layer f p = laws.touches_is whole layer (cutting_whole layer) f p

-- and covers what it covers
pub covers_is : (layer : List Rings) (f : ℕ) (p : Point) → covers_by_marks (table_of layer) f p ≡ covers (get_or layer f []) p
covers_is layer f p = laws.covers_is whole layer (cutting_whole layer) f p

-- the table marks no more features than the layer has
pub table_of-features : (layer : List Rings) → feature_count (table_of layer) ≤ length layer
table_of-features layer = laws.few_features whole layer
