-- What the rows of a part name at the place of a point, by the numbers of the layer.
use Rattle.std.proofs.Common.{◌≡◌, ℕ, zero, suc, ◌<◌, Bool, true, false, ◌&&◌, List, [], ◌∷◌, length, get_or, filter, Option, Some, None, refl, sym, ◌∙◌, ap, ap₂, subst, inl, inr, arith}
use Rattle.std.specs.Prelude.{nat_lt}
use Rattle.std.proofs.{lemmas.Bool.and_left, lemmas.Bool.cases_lt, lemmas.Bool.ltb-true, lemmas.List.get_or_past}
use Rattle.loc_spec_plane.specs.declared.Place.{Place}
use Rattle.loc_spec_plane.specs.declared.Place.TheVariants.{Corner, Border, Area}
use Rattle.loc_spec_plane.specs.{Lists.is_in, Lists.is_rising, Lists.numbers, Places.IsPlace, Points.Point}
use Rattle.loc_spec_plane.specs.Rings.{Rings, touches, covers}
use Rattle.loc_spec_plane.specs.Tables.{Table, IsTable, covers_by_marks, touches_by_marks}
use Rattle.loc_spec_plane.proofs.Checks.{is_in-past}
use Rattle.loc_laws_order.proofs.{Kept.numbers_rise, Kept.rising_kept, TableOrder.numbers_within, Unique.rising-unique}
use Rattle.loc_laws_rays.proofs.Members.{in_numbers, is_in-filter}
use Rattle.loc_laws_any.specs.Unions.{by_place, part_of, passing}
use Rattle.loc_laws_any.proofs.Joining.{part_answers}
use Rattle.loc_rings.specs.Values.{Feature, rings_of}
use Rattle.loc_edges.specs.Layers.{layer_rings}
use Rattle.loc_cover.specs.Legends.{LegendRows, IsSound, covering, touching, list_above, list_over}
use Rattle.loc_cover.proofs.Covered.{covering_covers, touching_touches}
use Rattle.loc_maps.proofs.TableLaws.{covers_is, is_table, touches_is}
use Rattle.loc_maps.specs.Maps.{IsMapOf}
use Rattle.loc_parts.specs.Parts.{features_with, no_rings}

-- the rings of the features with some numbers are those of the layer with these numbers
rings_at : (layer : List Feature) (n : ℕ) → rings_of (get_or layer n no_rings) ≡ get_or (layer_rings layer) n []
rings_at [] n = refl
rings_at (f ∷ layer) zero = refl
rings_at (f ∷ layer) (suc n) = rings_at layer n

pub rings_with : (layer : List Feature) (ns : List ℕ) → layer_rings (features_with ns layer) ≡ part_of ns (layer_rings layer)
rings_with layer [] = refl
rings_with layer (n ∷ ns) = ap₂ (λ (r : Rings) (rs : List Rings). r ∷ rs) (rings_at layer n) (rings_with layer ns)

module _ (test : Rings → Bool) (none : test [] ≡ false) (rings : List Rings) where
  members : (f : ℕ) → is_in f (passing test rings) ≡ test (get_or rings f [])
  members f = is_in-filter (λ n. test (get_or rings n [])) f (numbers (length rings)) ∙ elim (cases_lt f (length rings)) [
    | inl less ↦ ap (λ b. b && test (get_or rings f [])) (in_numbers f (length rings) less)
    | inr past ↦ and_left (is_in f (numbers (length rings))) (test (get_or rings f [])) (is_in-past (numbers (length rings)) (length rings) f (numbers_within (length rings)) past)
        ∙ sym (ap test (get_or_past rings f [] (omega (arith, past))) ∙ none)
  ]

  -- a rising list of the members that pass is that of their numbers
  are_passing : (fs : List ℕ) → is_rising nat_lt fs ≡ true → ((f : ℕ) → is_in f fs ≡ test (get_or rings f [])) → fs ≡ passing test rings
  are_passing fs rises exact =
      rising-unique nat_lt (λ a b h k. (let lt : a < b = ltb-true a b h in let gt : b < a = ltb-true b a k in omega arith)) fs (passing test rings) rises
      (rising_kept (λ n. test (get_or rings n [])) nat_lt (numbers (length rings)) (numbers_rise (length rings))) (λ f. exact f ∙ sym (members f))

module _ (features : List Feature) (t : Table) (rows : LegendRows) (sound : IsSound rows) (m : IsMapOf features t rows) (p : Point) (place : Place) (is : IsPlace t p place) where
  in_order : IsTable t
  in_order = subst IsTable (sym m.table) (is_table features)

  over_rises : (floor : Option ℕ) → is_rising nat_lt (list_over rows floor) ≡ true
  over_rises None = refl
  over_rises (Some e) = sound.lists.each_rises (get_or rows.above e 0)

  touching_rises : (at : Place) → is_rising nat_lt (touching rows at) ≡ true
  touching_rises (Corner c) = sound.corners_rise c
  touching_rises (Border e) = sound.edges_rise e
  touching_rises (Area floor) = refl

  covering_rises : (at : Place) → is_rising nat_lt (covering rows at) ≡ true
  covering_rises (Corner c) = rising_kept _ nat_lt (list_over rows (get_or rows.floors c None)) (over_rises (get_or rows.floors c None))
  covering_rises (Border e) = rising_kept _ nat_lt (list_above rows e) (sound.lists.each_rises (get_or rows.above e 0))
  covering_rises (Area floor) = over_rises floor

  touching_are : touching rows place ≡ passing (λ rings. touches rings p) (layer_rings features)
  touching_are = are_passing (λ rings. touches rings p) refl (layer_rings features) (touching rows place) (touching_rises place)
      (λ f. touching_touches t rows m.fits in_order m.ended m.even m.apart p place is f ∙ (ap (λ s. touches_by_marks s f p) m.table ∙ touches_is features f p))

  covering_are : covering rows place ≡ passing (λ rings. covers rings p) (layer_rings features)
  covering_are = are_passing (λ rings. covers rings p) refl (layer_rings features) (covering rows place) (covering_rises place)
      (λ f. covering_covers t rows m.fits m.is_true in_order m.ended m.even m.apart p place is f ∙ (ap (λ s. covers_by_marks s f p) m.table ∙ covers_is features f p))

-- by the numbers of the layer these are the features of the part that pass
by_layer : (test : Rings → Bool) (layer : List Feature) (ns fs : List ℕ) → fs ≡ passing test (layer_rings (features_with ns layer)) → by_place ns fs ≡ filter (λ n. test (get_or (layer_rings layer) n [])) ns
by_layer test layer ns fs are = ap (by_place ns) (are ∙ ap (passing test) (rings_with layer ns)) ∙ part_answers test (layer_rings layer) ns

pub part_touching : (layer : List Feature) (ns : List ℕ) (t : Table) (rows : LegendRows) → IsSound rows → IsMapOf (features_with ns layer) t rows → (p : Point) (place : Place) → IsPlace t p place
    → by_place ns (touching rows place) ≡ filter (λ n. touches (get_or (layer_rings layer) n []) p) ns
part_touching layer ns t rows sound m p place is = by_layer (λ rings. touches rings p) layer ns (touching rows place) (touching_are (features_with ns layer) t rows sound m p place is)

pub part_covering : (layer : List Feature) (ns : List ℕ) (t : Table) (rows : LegendRows) → IsSound rows → IsMapOf (features_with ns layer) t rows → (p : Point) (place : Place) → IsPlace t p place
    → by_place ns (covering rows place) ≡ filter (λ n. covers (get_or (layer_rings layer) n []) p) ns
part_covering layer ns t rows sound m p place is = by_layer (λ rings. covers rings p) layer ns (covering rows place) (covering_are (features_with ns layer) t rows sound m p place is)
