-- The tree of a written geometry: the number texts of its points, ring by ring.
use Rattle.std.proofs.Common.{◌≡◌, ◌≢◌, ℕ, true, arith, List, [], ◌∷◌, ◌++◌, map, append-nil, refl, sym, ◌∙◌, ap, inr}
use Rattle.std.specs.{Prelude.codes, List.AllByRecursion}
use Rattle.std.proofs.lemmas.List.{map-append}
use Rattle.loc_spec_plane.specs.{Points.IsGridPoint, Points.Point, Rings.Ring, Rings.Rings}
use Rattle.loc_spec_text.specs.{Bytes.Text, Points.grid_text, Points.position_text}
use Rattle.loc_spec_text.specs.Geometry.{ends_symbol, enclosed as enclosed_symbols, enclosed_or_empty, IsTree, numbers, point, PointText, polygon, Polygon, ring, separated, Symbol, symbols, word}
use Rattle.loc_spec_groups.specs.Groups.{closed_ring}
use Rattle.loc_spec_groups.specs.GroupTexts.{enclosed, polygon_text, polygons_text, ring_text}
use Rattle.loc_laws_regroup.specs.Laws.{ArePolygons, IsOpenRing}
use Rattle.loc_laws_regroup.proofs.{Lists.all_append, Lists.all_map, Symbols.enclosed_first, Symbols.position_first}

-- the number texts of a point, of a ring that is closed, of a polygon and of all
abbrev pub texts_of : ℕ → Point → PointText
texts_of scale p = (grid_text scale p.x, grid_text scale p.y)

abbrev pub ring_texts : ℕ → Ring → List PointText
ring_texts scale r = map (texts_of scale) (closed_ring r)

abbrev pub polygon_texts : ℕ → Rings → Polygon PointText
polygon_texts scale rings = map (ring_texts scale) rings

abbrev pub tree_of : ℕ → List Rings → List (Polygon PointText)
tree_of scale polygons = map (polygon_texts scale) polygons

-- ---- spelled one by one
separated-map : {X Y : Type 0} (spelled : Y → List Symbol) (f : X → Y) (x : X) (xs : List X) → separated (λ x. spelled (f x)) (x ∷ xs) ≡ separated spelled (map f (x ∷ xs))
separated-map spelled f x [] = refl
separated-map spelled f x (y ∷ ys) = ap (λ ps. spelled (f x) ++ (Symbol.comma ∷ ps)) (separated-map spelled f y ys)

enclosed-map : {X Y : Type 0} (spelled : Y → List Symbol) (f : X → Y) (x : X) (xs : List X) → enclosed_symbols (λ x. spelled (f x)) (x ∷ xs) ≡ enclosed_symbols spelled (map f (x ∷ xs))
enclosed-map spelled f x xs = ap (λ ps. Symbol.open_mark ∷ (ps ++ (Symbol.close_mark ∷ []))) (separated-map spelled f x xs)

closed_on : (p : Point) (ps : Ring) → AllByRecursion IsGridPoint (p ∷ ps) → AllByRecursion IsGridPoint (closed_ring (p ∷ ps))
closed_on p ps on = all_append IsGridPoint (p ∷ ps) (p ∷ []) on (on.0, tt)

ring_first : (scale : ℕ) (r : Ring) (rest : Text) → IsOpenRing r → ends_symbol rest ≡ true → symbols (ring_text scale r ++ rest) ≡ ring numbers (ring_texts scale r) ++ symbols rest
ring_first scale [] rest good ends = absurd (omega (arith, good.long))
ring_first scale (p ∷ ps) rest good ends =
    ap (λ ts. symbols (enclosed ts ++ rest)) (sym (map-append (position_text scale) (p ∷ ps) (p ∷ [])))
    ∙ enclosed_first (position_text scale) (λ q. point numbers (texts_of scale q)) IsGridPoint (position_first scale) p (ps ++ (p ∷ [])) rest (closed_on p ps good.on_grid)
    ∙ ap (λ ts. ts ++ symbols rest) (enclosed-map (point numbers) (texts_of scale) p (ps ++ (p ∷ [])))

polygon_first : (scale : ℕ) (rings : Rings) (rest : Text) → (rings ≢ []) × AllByRecursion IsOpenRing rings → ends_symbol rest ≡ true
    → symbols (polygon_text scale rings ++ rest) ≡ polygon numbers (polygon_texts scale rings) ++ symbols rest
polygon_first scale [] rest good ends = absurd (good.0 refl)
polygon_first scale (r ∷ rs) rest good ends =
    enclosed_first (ring_text scale) (λ q. ring numbers (ring_texts scale q)) IsOpenRing (ring_first scale) r rs rest good.1
    ∙ ap (λ ts. ts ++ symbols rest) (enclosed-map (ring numbers) (ring_texts scale) r rs)

-- the whole text
abbrev text_of : ℕ → List Rings → Text
text_of scale polygons = codes "MULTIPOLYGON " ++ polygons_text scale polygons

geometry_symbols : (scale : ℕ) (polygons : List Rings) → ArePolygons polygons → symbols (text_of scale polygons) ≡ word (codes "MULTIPOLYGON") ∷ enclosed_or_empty (polygon numbers) (tree_of scale polygons)
geometry_symbols scale [] good = refl
geometry_symbols scale (rings ∷ polygons) good =
    ap (λ ps. word (codes "MULTIPOLYGON") ∷ ps) (
    ap symbols (sym (append-nil (polygons_text scale (rings ∷ polygons))))
    ∙ enclosed_first (polygon_text scale) (λ q. polygon numbers (polygon_texts scale q)) (λ q. (q ≢ []) × AllByRecursion IsOpenRing q) (polygon_first scale) rings polygons [] good
    ∙ append-nil (enclosed_symbols (λ q. polygon numbers (polygon_texts scale q)) (rings ∷ polygons))
    ∙ enclosed-map (polygon numbers) (polygon_texts scale) rings polygons)

-- each ring of the tree has a point
some_points : (scale : ℕ) (r : Ring) → IsOpenRing r → ring_texts scale r ≢ []
some_points scale [] good = absurd (omega (arith, good.long))
some_points scale (p ∷ ps) good = λ none. cc

pub geometry_tree : (scale : ℕ) (polygons : List Rings) → ArePolygons polygons → IsTree numbers (text_of scale polygons) (tree_of scale polygons)
geometry_tree scale polygons good = record {
  spelled = inr (geometry_symbols scale polygons good);
  points = all_map (λ q. (q ≢ []) × AllByRecursion IsOpenRing q) (AllByRecursion (λ r. r ≢ [])) (polygon_texts scale)
      (λ q each. all_map IsOpenRing (λ r. r ≢ []) (ring_texts scale) (some_points scale) q each.1) polygons good;
}
