-- A pass over segments: what is known when some of them have been looked at.
use Rattle.std.proofs.Common.{◌≡◌, ℕ, zero, suc, ◌+◌, ◌-◌, ◌<◌, ◌≤◌, Bool, true, false, not, ◌||◌, List, [], ◌∷◌, ◌++◌, Option, Some, None, cond, length, get_or, drop, slice_get, refl, sym, ◌∙◌, ap, subst, add-one, length-drop, arith}
use Rattle.std.specs.List.{list_any}
use Rattle.std.proofs.{lemmas.List.drop_more, lemmas.List.Folds.list_any-append}
use Rattle.std.proofs.lemmas.Bool.{or_left, not-true}
use Rattle.loc_spec_plane.specs.{Lists.exactly_one, Lists.odd_many, Rays.crosses_right}
use Rattle.loc_spec_plane.specs.Points.{Point, Edge, lies_on, same_point}
use Rattle.loc_spec_plane.specs.Rings.{Ring, Rings, ring_segments, segment_between, segments}
use Rattle.loc_rings.specs.Parity.{IsParity}
use Rattle.loc_laws_rays.proofs.Parity.{exactly_one_assoc, exactly_one-false, odd_many-append}

-- p lies on none of the segments of the whole that are not in the rest, and odd is the parity of those of them that the ray crosses
pub record IsPassed (whole rest : List Edge) (p : Point) (odd : Bool) : Type 0 where
  pub off : list_any (λ s. lies_on s p) rest ≡ list_any (λ s. lies_on s p) whole
  pub parity : exactly_one odd (odd_many (λ s. crosses_right s p) rest) ≡ odd_many (λ s. crosses_right s p) whole

-- one part more, on which p does not lie
more : (whole rest part rest' : List Edge) (p : Point) (odd crossed : Bool) → rest ≡ part ++ rest' → IsPassed whole rest p odd → list_any (λ s. lies_on s p) part ≡ false → crossed ≡ odd_many (λ s. crosses_right s p) part → IsPassed whole rest' p (exactly_one odd crossed)
more whole rest part rest' p odd crossed split passed off counted =
    let here = ap (list_any (λ s. lies_on s p)) split ∙ list_any-append (λ s. lies_on s p) part rest' in
    let there = ap (odd_many (λ s. crosses_right s p)) split ∙ odd_many-append (λ s. crosses_right s p) part rest' in
    record {
      off = sym (ap (λ b. b || list_any (λ s. lies_on s p) rest') off) ∙ (sym here ∙ passed.off);
      parity = exactly_one_assoc odd crossed (odd_many (λ s. crosses_right s p) rest') ∙ (ap (λ b. exactly_one odd (exactly_one b (odd_many (λ s. crosses_right s p) rest'))) counted ∙ (sym (ap (exactly_one odd) there) ∙ passed.parity));
    }

-- one part more, on which p lies
met : (whole rest part rest' : List Edge) (p : Point) (odd : Bool) → rest ≡ part ++ rest' → IsPassed whole rest p odd → list_any (λ s. lies_on s p) part ≡ true → list_any (λ s. lies_on s p) whole ≡ true
met whole rest part rest' p odd split passed hit = sym passed.off ∙ (ap (list_any (λ s. lies_on s p)) split ∙ (list_any-append (λ s. lies_on s p) part rest' ∙ or_left (list_any (λ s. lies_on s p) part) (list_any (λ s. lies_on s p) rest') hit))

-- all have been looked at
ended : (whole rest : List Edge) (p : Point) (odd : Bool) → rest ≡ [] → IsPassed whole rest p odd → (not (list_any (λ s. lies_on s p) whole) ≡ true) × (odd ≡ odd_many (λ s. crosses_right s p) whole)
ended whole rest p odd none passed = (
  ap not (sym passed.off ∙ ap (list_any (λ s. lies_on s p)) none),
  sym (exactly_one-false odd) ∙ (ap (λ ss. exactly_one odd (odd_many (λ s. crosses_right s p) ss)) (sym none) ∙ passed.parity),
)

-- the first segment of a list, where there is one, and the rest
pair : (b : Bool) (s : Edge) (ss : List Edge) → cond b ss (s ∷ ss) ≡ cond b [] (s ∷ []) ++ ss
pair true s ss = refl
pair false s ss = refl

-- the segments of a ring from its point a on: that to the next point b, and those from b on
pub from_point : (ring : Ring) (i : ℕ) (a b : Point) → i + 1 < length ring → a ≡ get_or ring i a → b ≡ get_or ring (i + 1) b → ring_segments (drop i ring) ≡ ring_segments (a ∷ b ∷ []) ++ ring_segments (drop (i + 1) ring)
from_point ring i a b below is_a is_b =
    let next : drop (i + 1) ring ≡ b ∷ drop (i + 1 + 1) ring = drop_more ring (i + 1) b below ∙ ap (λ q. q ∷ drop (i + 1 + 1) ring) (sym is_b) in
    let here : drop i ring ≡ a ∷ b ∷ drop (i + 1 + 1) ring = drop_more ring i a (omega arith) ∙ (ap (λ q. q ∷ drop (i + 1) ring) (sym is_a) ∙ ap (λ ps. a ∷ ps) next) in
    ap ring_segments here
    ∙ (pair (same_point a b) (segment_between a b) (ring_segments (b ∷ drop (i + 1 + 1) ring))
    ∙ ap (λ ps. ring_segments (a ∷ b ∷ []) ++ ring_segments ps) (sym next))

-- one segment more of a ring, on which p does not lie
step : (ring : Ring) (i : ℕ) (a b p : Point) (odd crossed after : Bool) → i + 1 < length ring → a ≡ get_or ring i a → b ≡ get_or ring (i + 1) b → IsPassed (ring_segments ring) (ring_segments (drop i ring)) p odd → IsParity (ring_segments (a ∷ b ∷ [])) p (Some crossed) → after ≡ exactly_one odd crossed → IsPassed (ring_segments ring) (ring_segments (drop (i + 1) ring)) p after
step ring i a b p odd crossed after below is_a is_b passed part flip =
    subst (IsPassed (ring_segments ring) (ring_segments (drop (i + 1) ring)) p) (sym flip)
    (more (ring_segments ring) (ring_segments (drop i ring)) (ring_segments (a ∷ b ∷ [])) (ring_segments (drop (i + 1) ring)) p odd crossed (from_point ring i a b below is_a is_b) passed (not-true (list_any (λ s. lies_on s p) (ring_segments (a ∷ b ∷ []))) part.0) part.1)

-- the same, as a loop over the ends of segments counts
pub ring_more : (ring : Ring) (i : ℕ) (a b p : Point) (odd crossed after : Bool) → 1 ≤ i → i < length ring → a ≡ get_or ring (i - 1) a → b ≡ get_or ring i b → IsPassed (ring_segments ring) (ring_segments (drop (i - 1) ring)) p odd → IsParity (ring_segments (a ∷ b ∷ [])) p (Some crossed) → after ≡ exactly_one odd crossed → IsPassed (ring_segments ring) (ring_segments (drop (i + 1 - 1) ring)) p after
ring_more ring i a b p odd crossed after above below is_a is_b passed part flip =
    let back : i ≡ i - 1 + 1 = omega arith in
    let on : i - 1 + 1 ≡ i + 1 - 1 = omega arith in
    subst (λ n. IsPassed (ring_segments ring) (ring_segments (drop n ring)) p after) on (step ring (i - 1) a b p odd crossed after (omega arith) is_a (subst (λ n. b ≡ get_or ring n b) back is_b) passed part flip)

-- one segment more of a ring, on which p lies
pub ring_met : (ring : Ring) (i : ℕ) (a b p : Point) (odd : Bool) (answer result : Option Bool) → 1 ≤ i → i < length ring → a ≡ get_or ring (i - 1) a → b ≡ get_or ring i b → IsPassed (ring_segments ring) (ring_segments (drop (i - 1) ring)) p odd → IsParity (ring_segments (a ∷ b ∷ [])) p answer → answer ≡ None → result ≡ None → IsParity (ring_segments ring) p result
ring_met ring i a b p odd answer result above below is_a is_b passed part none same =
    let back : i ≡ i - 1 + 1 = omega arith in
    subst (IsParity (ring_segments ring) p) (sym same)
    (met (ring_segments ring) (ring_segments (drop (i - 1) ring)) (ring_segments (a ∷ b ∷ [])) (ring_segments (drop (i - 1 + 1) ring)) p odd (from_point ring (i - 1) a b (omega arith) is_a (subst (λ n. b ≡ get_or ring n b) back is_b)) passed (subst (IsParity (ring_segments (a ∷ b ∷ [])) p) none part))

-- a ring of at most one point has no segment
pub short : (ring : Ring) → length ring ≤ 1 → ring_segments ring ≡ []
short [] h = refl
short (p ∷ []) h = refl
short (p ∷ q ∷ ps) h = absurd (omega arith)

-- all segments of a ring have been looked at
pub ring_ended : (ring : Ring) (i : ℕ) (p : Point) (odd : Bool) → length ring ≤ i → IsPassed (ring_segments ring) (ring_segments (drop (i - 1) ring)) p odd → IsParity (ring_segments ring) p (Some odd)
ring_ended ring i p odd past passed = ended (ring_segments ring) (ring_segments (drop (i - 1) ring)) p odd (short (drop (i - 1) ring) (omega (arith, length-drop (i - 1) ring))) passed

-- the segments of the rings from ring n on: its own, and those of the later rings
from_ring : (rings : Rings) (n : ℕ) (ring : Ring) → slice_get rings n ≡ Some ring → segments (drop n rings) ≡ ring_segments ring ++ segments (drop (n + 1) rings)
from_ring [] n ring at = absurd cc
from_ring (r ∷ rings) zero ring at = let same : r ≡ ring = cc in ap (λ q. ring_segments q ++ segments rings) same
from_ring (r ∷ rings) (suc n) ring at = from_ring rings n ring at ∙ ap (λ k. ring_segments ring ++ segments (drop k (r ∷ rings))) (ap suc (add-one n) ∙ sym (add-one (suc n)))

-- one ring more, on whose segments p does not lie
pub rings_more : (rings : Rings) (n : ℕ) (ring : Ring) (p : Point) (odd crossed after : Bool) → slice_get rings n ≡ Some ring → IsPassed (segments rings) (segments (drop n rings)) p odd → IsParity (ring_segments ring) p (Some crossed) → after ≡ exactly_one odd crossed → IsPassed (segments rings) (segments (drop (n + 1) rings)) p after
rings_more rings n ring p odd crossed after at passed part flip =
    subst (IsPassed (segments rings) (segments (drop (n + 1) rings)) p) (sym flip)
    (more (segments rings) (segments (drop n rings)) (ring_segments ring) (segments (drop (n + 1) rings)) p odd crossed (from_ring rings n ring at) passed (not-true (list_any (λ s. lies_on s p) (ring_segments ring)) part.0) part.1)

-- one ring more, on a segment of which p lies
pub rings_met : (rings : Rings) (n : ℕ) (ring : Ring) (p : Point) (odd : Bool) (answer result : Option Bool) → slice_get rings n ≡ Some ring → IsPassed (segments rings) (segments (drop n rings)) p odd → IsParity (ring_segments ring) p answer → answer ≡ None → result ≡ None → IsParity (segments rings) p result
rings_met rings n ring p odd answer result at passed part none same =
    subst (IsParity (segments rings) p) (sym same)
    (met (segments rings) (segments (drop n rings)) (ring_segments ring) (segments (drop (n + 1) rings)) p odd (from_ring rings n ring at) passed (subst (IsParity (ring_segments ring) p) none part))
