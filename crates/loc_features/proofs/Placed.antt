-- The place of a point in a part, and what its legend names there.
use Rattle.std.proofs.Common.{◌≡◌, ℕ, suc, ◌+◌, ◌-◌, ◌*◌, ◌^◌, ◌<◌, ◌≤◌, Bool, List, [], ◌∷◌, ◌++◌, length, length-append, map, filter, take, drop, get_or, Some, None, refl, sym, ◌∙◌, ap, append_assoc, inl, inr, arith}
use Rattle.std.specs.Prelude.{not, replicate, set}
use Rattle.std.proofs.{Math.Seq.set-append_seam, Math.Pow.pow_mono, lemmas.Bool.cases_lt}
use Rattle.std.proofs.lemmas.List.{length-map, length-replicate, length-take-le, map_more, take-append-drop}
use Rattle.std.proofs.{lemmas.List.Elements.filter-append, lemmas.Nat.mul-le}
use Rattle.loc_spec_plane.specs.{Lists.is_in, Points.Point, Tables.Table, declared.Place.Place}
use Rattle.loc_spec_plane.specs.declared.Place.TheVariants.{Corner, Border, Area}
use Rattle.loc_edges.specs.Small.{IsSmallTable}
use Rattle.loc_place.specs.{Answers.IsInRange, Found.place_at, Steps.search_bound}
use Rattle.loc_cover.specs.Legends.{FitsTable, LegendRows, covering, touching}
use Rattle.loc_batch.specs.Answering.{IsPlaceIn}
use Rattle.loc_parts.specs.declared.parts.Part.{Part}

-- a place of a table is one of its legend
pub placed : (t : Table) (rows : LegendRows) (place : Place) → FitsTable t rows → IsInRange t place → IsPlaceIn rows place
placed t rows (Corner n) fits lt = omega (arith, fits.as_many_corners, lt)
placed t rows (Border e) fits lt = omega (arith, fits.as_many_edges, lt)
placed t rows (Area None) fits lt = tt
placed t rows (Area (Some e)) fits lt = omega (arith, fits.as_many_edges, lt)

-- a search in a table takes at most 63 steps
pub few_steps : (t : Table) (most : ℕ) → IsSmallTable t → 2 ^ most ≤ search_bound (length t.corners) (length t.ends) → most ≤ 63
few_steps t most small power =
    let v = length t.corners in
    let e = length t.ends in
    let square = mul-le (e + 1) (e + 1) (2 ^ 21 + 1) (2 ^ 21 + 1) (omega (arith, small.few_edges)) (omega (arith, small.few_edges)) in
    let all = mul-le (2 * v + 1) ((e + 1) * (e + 1)) (2 ^ 21 + 1) ((2 ^ 21 + 1) * (2 ^ 21 + 1)) (omega (arith, small.few_corners)) square in
    elim (cases_lt most 64) [
      | inl less ↦ omega (arith, less)
      | inr more ↦ (let high : 2 ^ 64 ≤ 2 ^ most = pow_mono more in absurd (omega (arith, high, power, all)))
    ]

-- where nothing touches all of a list is left
pub none_left_out : (fs : List ℕ) → filter (λ f. not (is_in f [])) fs ≡ fs
none_left_out [] = refl
none_left_out (f ∷ fs) = ap (λ gs. f ∷ gs) (none_left_out fs)

-- the list at a place without those that touch
pub others_are : (rows : LegendRows) (place : Place) (on listed : List ℕ) → on ≡ touching rows place → filter (λ f. not (is_in f (touching rows place))) listed ≡ covering rows place → filter (λ f. not (is_in f on)) listed ≡ covering rows place
others_are rows place on listed same are = ap (λ (ts : List ℕ). filter (λ f. not (is_in f ts)) listed) same ∙ are

-- the first members have no more that pass than all
pub few_front : (test : ℕ → Bool) (ns : List ℕ) (k : ℕ) → length (filter test (take k ns)) ≤ length (filter test ns)
few_front test ns k =
    omega (arith, ap (λ ms. length (filter test ms)) (take-append-drop k ns), ap length (filter-append test (take k ns) (drop k ns)), length-append (filter test (take k ns)) (filter test (drop k ns)))

-- the places in the first parts, and behind them what stands at first: one part more
pub places_more : (most : ℕ) (parts : List Part) (p : Point) (k : ℕ) (part : Part) (places : List Place) (place : Place) → length parts ≤ most → k < length parts → part ≡ get_or parts k part → place ≡ place_at part.plane.table p
    → places ≡ map (λ (one : Part). place_at one.plane.table p) (take k parts) ++ replicate (most - k) (Area None) → set places k place ≡ map (λ (one : Part). place_at one.plane.table p) (take (k + 1) parts) ++ replicate (most - (k + 1)) (Area None)
places_more most parts p k part places place few lt is at was =
    let places_in : List Part → List Place = map (λ (one : Part). place_at one.plane.table p) in
    let behind : List Place = replicate (most - (k + 1)) (Area None) in
    let next : most - k ≡ suc (most - (k + 1)) = omega (arith, few, lt) in
    let many : length (places_in (take k parts)) ≡ k = length-map (take k parts) (λ (one : Part). place_at one.plane.table p) ∙ length-take-le k parts (omega (arith, lt)) in
    ap (λ ps. set ps k place) (was ∙ ap (λ n. places_in (take k parts) ++ replicate n (Area None)) next)
    ∙ (ap (λ n. set (places_in (take k parts) ++ Area None ∷ behind) n place) (sym many)
    ∙ (set-append_seam (places_in (take k parts)) (Area None) behind place
    ∙ (sym (append_assoc (places_in (take k parts)) (place ∷ []) behind)
    ∙ ap (λ ps. ps ++ behind) (ap (λ q. places_in (take k parts) ++ q ∷ []) (at ∙ ap (λ (one : Part). place_at one.plane.table p) is) ∙ sym (map_more (λ (one : Part). place_at one.plane.table p) parts k part lt)))))

-- there are as many as there is room for
pub places_many : (most : ℕ) (parts : List Part) (p : Point) (k : ℕ) (places : List Place) → length parts ≤ most → k ≤ length parts
    → places ≡ map (λ (one : Part). place_at one.plane.table p) (take k parts) ++ replicate (most - k) (Area None) → length places ≡ most
places_many most parts p k places few le was =
    omega (
      arith,
      few,
      le,
      ap length was,
      length-append (map (λ (one : Part). place_at one.plane.table p) (take k parts)) (replicate (most - k) (Area None)),
      length-map (take k parts) (λ (one : Part). place_at one.plane.table p),
      length-take-le k parts le,
      length-replicate (most - k) (Area None),
    )
