-- Rings that are cut into polygons at the numbers of their first rings.
use Rattle.std.proofs.Common.{◌≡◌, ℕ, zero, suc, ◌+◌, ◌-◌, ◌^◌, ◌<◌, ◌≤◌, List, [], ◌∷◌, ◌++◌, length, take, drop, get_or, All, refl, sym, ◌∙◌, ap, ap₂, subst, arith, append-nil, length-append}
use Rattle.std.proofs.lemmas.List.{drop-append-le, drop-drop, drop_all, length-drop, length-take-le, nil_from_length, take-append-drop, take-append-le, take_all}
use Rattle.std.proofs.{lemmas.List.Concat.length-flat_map, lemmas.List.Elements.All-push}
use Rattle.std.proofs.lemmas.List.Sums.{sum_by-take-le}
use Rattle.loc_spec_plane.specs.Rings.{Ring, Rings}
use Rattle.loc_spec_text.specs.Reading.{Polygons, all_rings}
use Rattle.loc_rings.specs.Kept.{AreKept, BeginAtZero, RiseTo}
use Rattle.loc_rings.specs.Values.{IsRing, cut_into, rings_before, with_ring}

-- a further ring of the last polygon
pub with_ring-last : (before : Polygons) (rings : Rings) (ring : Ring) → with_ring (before ++ rings ∷ []) ring ≡ before ++ (rings ++ ring ∷ []) ∷ []
with_ring-last [] rings ring = refl
with_ring-last (first ∷ []) rings ring = refl
with_ring-last (first ∷ second ∷ before) rings ring = ap (λ ps. first ∷ ps) (with_ring-last (second ∷ before) rings ring)

-- the numbers rise to the count, so the first is at most the count
first_within : (first : ℕ) (starts : List ℕ) (count : ℕ) → RiseTo first starts count → first ≤ count
first_within first [] count rise = rise
first_within first (start ∷ starts) count rise = let more = first_within start starts count rise.1 in let here = rise.0 in omega arith

-- what stands from i on, as what stands before j and from j on
drop_to : {X : Type 0} (i j : ℕ) (xs : List X) → i ≤ j → take (j - i) (drop i xs) ++ drop j xs ≡ drop i xs
drop_to i j xs le =
    let there : i + (j - i) ≡ j = omega arith in
    ap (λ ys. take (j - i) (drop i xs) ++ ys) (ap (λ n. drop n xs) (sym there) ∙ sym (drop-drop (j - i) i xs)) ∙ take-append-drop (j - i) (drop i xs)

-- the rings from the first on are those of the polygons from there on
rings_from : (start : ℕ) (starts : List ℕ) (rings : Rings) → RiseTo start starts (length rings) → all_rings (cut_into (start ∷ starts) rings) ≡ drop start rings
rings_from start [] rings rise = append-nil (drop start rings)
rings_from start (next ∷ starts) rings rise = ap (λ rs. take (next - start) (drop start rings) ++ rs) (rings_from next starts rings rise.1) ∙ drop_to start next rings rise.0

-- cut into polygons they are the same rings
pub all_rings-cut : (starts : List ℕ) (rings : Rings) → BeginAtZero starts (length rings) → all_rings (cut_into starts rings) ≡ rings
all_rings-cut [] rings begin = sym (nil_from_length rings begin)
all_rings-cut (start ∷ starts) rings begin = rings_from start starts rings begin.1 ∙ ap (λ n. drop n rings) begin.0

-- there are as many polygons as numbers of first rings
pub length-cut : (starts : List ℕ) (rings : Rings) → length (cut_into starts rings) ≡ length starts
length-cut [] rings = refl
length-cut (start ∷ []) rings = refl
length-cut (start ∷ next ∷ starts) rings = ap suc (length-cut (next ∷ starts) rings)

-- a further polygon begins behind the last ring
cut_start : (start : ℕ) (starts : List ℕ) (rings : Rings) → RiseTo start starts (length rings) → cut_into ((start ∷ starts) ++ length rings ∷ []) rings ≡ cut_into (start ∷ starts) rings ++ [] ∷ []
cut_start start [] rings rise = ap₂ (λ a b. a ∷ b ∷ []) (take_all (length rings - start) (drop start rings) (omega (arith, length-drop start rings))) (drop_all (length rings) rings (omega arith))
cut_start start (next ∷ starts) rings rise = ap (λ ps. take (next - start) (drop start rings) ∷ ps) (cut_start next starts rings rise.1)

-- the same of any polygons
pub cut-start : (starts : List ℕ) (rings : Rings) → BeginAtZero starts (length rings) → cut_into (starts ++ length rings ∷ []) rings ≡ cut_into starts rings ++ [] ∷ []
cut-start [] rings begin = ap (λ rs. rs ∷ []) (drop_all (length rings) rings (omega arith))
cut-start (start ∷ starts) rings begin = cut_start start starts rings begin.1

rise_start : (first : ℕ) (starts : List ℕ) (count : ℕ) → RiseTo first starts count → RiseTo first (starts ++ count ∷ []) count
rise_start first [] count rise = (rise, omega arith)
rise_start first (start ∷ starts) count rise = (rise.0, rise_start start starts count rise.1)

-- the numbers still rise
pub begin-start : (starts : List ℕ) (count : ℕ) → BeginAtZero starts count → BeginAtZero (starts ++ count ∷ []) count
begin-start [] count begin = (begin, omega arith)
begin-start (start ∷ starts) count begin = (begin.0, rise_start start starts count begin.1)

cut_ring : (start : ℕ) (starts : List ℕ) (rings : Rings) (ring : Ring) → RiseTo start starts (length rings) → cut_into (start ∷ starts) (rings ++ ring ∷ []) ≡ with_ring (cut_into (start ∷ starts) rings) ring
cut_ring start [] rings ring rise = ap (λ rs. rs ∷ []) (drop-append-le start rings (ring ∷ []) rise)
cut_ring start (next ∷ starts) rings ring rise =
    ap₂ (λ a b. take (next - start) a ∷ b) (drop-append-le start rings (ring ∷ []) (omega (arith, rise.0, first_within next starts (length rings) rise.1))) (cut_ring next starts rings ring rise.1)
    ∙ ap (λ rs. rs ∷ with_ring (cut_into (next ∷ starts) rings) ring) (take-append-le (next - start) (drop start rings) (ring ∷ []) (omega (arith, rise.0, first_within next starts (length rings) rise.1, length-drop start rings)))
    ∙ behind (take (next - start) (drop start rings)) next starts
  where
    behind : (first : Rings) (n : ℕ) (ns : List ℕ) → first ∷ with_ring (cut_into (n ∷ ns) rings) ring ≡ with_ring (first ∷ cut_into (n ∷ ns) rings) ring
    behind first n [] = refl
    behind first n (m ∷ ns) = refl

-- a further ring is one of the last polygon
pub cut-ring : (starts : List ℕ) (rings : Rings) (ring : Ring) → 0 < length starts → BeginAtZero starts (length rings) → cut_into starts (rings ++ ring ∷ []) ≡ with_ring (cut_into starts rings) ring
cut-ring [] rings ring some begin = absurd (omega arith)
cut-ring (start ∷ starts) rings ring some begin = cut_ring start starts rings ring begin.1

rise_more : (first : ℕ) (starts : List ℕ) (count : ℕ) → RiseTo first starts count → RiseTo first starts (count + 1)
rise_more first [] count rise = omega arith
rise_more first (start ∷ starts) count rise = (rise.0, rise_more start starts count rise.1)

-- the numbers rise to one ring more
pub begin-more : (starts : List ℕ) (count : ℕ) → 0 < length starts → BeginAtZero starts count → BeginAtZero starts (count + 1)
begin-more [] count some begin = absurd (omega arith)
begin-more (start ∷ starts) count some begin = (begin.0, rise_more start starts count begin.1)

before_from : (start : ℕ) (starts : List ℕ) (rings : Rings) (n d : ℕ) → n < length starts + 1 → RiseTo start starts (length rings) → start + rings_before (cut_into (start ∷ starts) rings) n ≡ get_or (start ∷ starts) n d
before_from start starts rings zero d below rise = omega arith
before_from start [] rings (suc n) d below rise = absurd (omega arith)
before_from start (next ∷ starts) rings (suc n) d below rise =
    let within = first_within next starts (length rings) rise.1 in
    let here : length (take (next - start) (drop start rings)) ≡ next - start = length-take-le (next - start) (drop start rings) (omega (arith, rise.0, within, length-drop start rings)) in
    let behind = before_from next starts rings n d (omega arith) rise.1 in
    let split = length-append (take (next - start) (drop start rings)) (all_rings (take n (cut_into (next ∷ starts) rings))) in
    let sum : start + rings_before (cut_into (start ∷ next ∷ starts) rings) (suc n) ≡ next + rings_before (cut_into (next ∷ starts) rings) n = omega (arith, rise.0, here, split) in
    sum ∙ behind

-- the number of the first ring of polygon n
pub before-cut : (starts : List ℕ) (rings : Rings) (n d : ℕ) → n < length starts → BeginAtZero starts (length rings) → rings_before (cut_into starts rings) n ≡ get_or starts n d
before-cut [] rings n d below begin = absurd (omega arith)
before-cut (start ∷ starts) rings n d below begin = let e = before_from start starts rings n d (omega arith) begin.1 in let z = begin.0 in omega (arith, e, z)

-- all rings stand before the end
pub before-all : (starts : List ℕ) (rings : Rings) (n : ℕ) → length starts ≤ n → BeginAtZero starts (length rings) → rings_before (cut_into starts rings) n ≡ length rings
before-all starts rings n all begin = ap (λ ps. length (all_rings ps)) (take_all n (cut_into starts rings) (omega (arith, length-cut starts rings))) ∙ ap length (all_rings-cut starts rings begin)

-- more of the first polygons have no fewer rings
pub before-rises : (polygons : Polygons) (n m : ℕ) → n ≤ m → rings_before polygons n ≤ rings_before polygons m
before-rises polygons zero m le = omega arith
before-rises [] (suc n) m le = omega arith
before-rises (rings ∷ polygons) (suc n) zero le = absurd (omega arith)
before-rises (rings ∷ polygons) (suc n) (suc m) le = omega (arith, before-rises polygons n m (omega arith), length-append rings (all_rings (take n polygons)), length-append rings (all_rings (take m polygons)))

-- the first polygons have at most all rings
pub before-within : (polygons : Polygons) (n : ℕ) → rings_before polygons n ≤ length (all_rings polygons)
before-within polygons n = omega (arith, length-flat_map (λ rings. rings) (take n polygons), length-flat_map (λ rings. rings) polygons, sum_by-take-le length polygons n)

-- What is kept of polygons, as they are seen.
module _ {starts : List ℕ} {rings : Rings} {polygons : Polygons} (kept : AreKept starts rings) (seen : cut_into starts rings ≡ polygons) where
  -- their rings
  pub seen-rings : all_rings polygons ≡ rings
  seen-rings = ap all_rings (sym seen) ∙ all_rings-cut starts rings kept.begin

  -- how many there are
  pub seen-length : length polygons ≡ length starts
  seen-length = ap length (sym seen) ∙ length-cut starts rings

  -- the number of the first ring of polygon n, as it is read, and that behind the last ring
  pub seen-first : (n first : ℕ) → n < length polygons → first ≡ get_or starts n first → first ≡ rings_before polygons n
  seen-first n first below at = at ∙ (sym (before-cut starts rings n first (omega (arith, seen-length)) kept.begin) ∙ ap (λ ps. rings_before ps n) seen)

  pub seen-next : (n past : ℕ) (ns : List ℕ) → ns ≡ starts → (n < length ns) × ((d : ℕ) → past ≡ get_or ns n d) → past ≡ rings_before polygons n
  seen-next n past ns same found = seen-first n past (omega (arith, found.0, ap length same, seen-length)) (found.1 past ∙ ap (λ ms. get_or ms n past) same)

  pub seen-past : (n : ℕ) (ns : List ℕ) → ns ≡ starts → length ns ≤ n → length rings ≡ rings_before polygons n
  seen-past n ns same all = sym (before-all starts rings n (omega (arith, ap length same)) kept.begin) ∙ ap (λ ps. rings_before ps n) seen

  -- with a further polygon
  module _ {more : List ℕ} (count : ℕ) (counted : count ≡ length rings) (pushed : more ≡ starts ++ count ∷ []) where
    behind_all : more ≡ starts ++ length rings ∷ []
    behind_all = pushed ∙ ap (λ n. starts ++ n ∷ []) counted

    pub kept-start : length polygons < 2 ^ 28 → AreKept more rings
    kept-start room = record {
      each = kept.each;
      few_rings = kept.few_rings;
      few = omega (arith, ap length pushed, length-append starts (count ∷ []), room, seen-length);
      begin = subst (λ ns. BeginAtZero ns (length rings)) (sym behind_all) (begin-start starts (length rings) kept.begin);
    }

    pub seen-start : cut_into more rings ≡ polygons ++ [] ∷ []
    seen-start = ap (λ ns. cut_into ns rings) behind_all ∙ (cut-start starts rings kept.begin ∙ ap (λ ps. ps ++ [] ∷ []) seen)

  -- with a further ring
  module _ {more : Rings} (ring : Ring) (pushed : more ≡ rings ++ ring ∷ []) (some : 0 < length polygons) where
    pub kept-ring : IsRing ring → length (all_rings polygons) < 2 ^ 28 → AreKept starts more
    kept-ring closed room =
        let count : length more ≡ length rings + 1 = ap length pushed ∙ length-append rings (ring ∷ []) in
        record {
          each = subst (All IsRing) (sym pushed) (All-push IsRing rings ring kept.each closed);
          few_rings = omega (arith, count, room, ap length seen-rings);
          few = kept.few;
          begin = subst (BeginAtZero starts) (sym count) (begin-more starts (length rings) (omega (arith, some, seen-length)) kept.begin);
        }

    pub seen-ring : cut_into starts more ≡ with_ring polygons ring
    seen-ring = ap (cut_into starts) pushed ∙ (cut-ring starts rings ring (omega (arith, some, seen-length)) kept.begin ∙ ap (λ ps. with_ring ps ring) seen)
