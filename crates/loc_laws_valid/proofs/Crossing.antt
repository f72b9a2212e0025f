-- Two segments that cross, and the pieces into which they are cut at corners: two of their pieces cross, or both segments go through one corner, and there each changes sides of the other.
use Rattle.std.proofs.Common.{◌≡◌, ◌⊎◌, ℤ, pos, ◌-ℤ◌, ◌*ℤ◌, ◌<ℤ◌, ◌≤ℤ◌, Bool, true, false, not, ◌&&◌, List, [], ◌∷◌, refl, sym, ◌∙◌, ap, ap₂, subst, inl, inr, arith}
use Rattle.std.specs.List.{list_any, list_all}
use Rattle.std.proofs.lemmas.Bool.{and_parts, and_from, cases_Bool, both_ways, false_from_ne_true, not_from_false, not-true, or_cases, or_from, or_left, or_right, true≢false}
use Rattle.std.proofs.lemmas.Int.{ints}
use Rattle.loc_algebra.proofs.Ring.{ring, variable, minus, times}
use Rattle.loc_algebra.proofs.Signs.{Opposite, trichotomy, product_positive, product_negative, product_by_zero, positive_from, negative_from, zero_from}
use Rattle.loc_spec_plane.specs.{Lists.is_rising, Lists.exactly_one, Tables.cut_at}
use Rattle.loc_spec_plane.specs.Points.{Point, Edge, before, up_to, same_point, same_edge, is_above, is_on, is_below, is_end, lies_on, inside, cross}
use Rattle.loc_laws_order.proofs.Forms.{Before, AtMost, IsEdge, side_of, LiesOn, Cross}
use Rattle.loc_laws_order.proofs.Sides.{before_decides, same_point-true, same_point_refl, same-from_neither}
use Rattle.loc_laws_order.proofs.Tests.{cross_decides, is_above_decides, is_below_decides, is_on_decides, same_edge_decides, up_to_decides}
use Rattle.loc_laws_order.specs.Numbered.{has_ends}
use Rattle.loc_laws_order.proofs.Pair.{side_lo, side_hi}
use Rattle.loc_laws_noding.specs.Laws.{goes_up, is_good, is_path}
use Rattle.loc_laws_noding.proofs.Lines.{Along, along, above_along, below_along, side_between}
use Rattle.loc_laws_noding.proofs.Pieces.{none_inside, pieces_cut, pieces_on, pieces_path}

-- ---- the side against one line along another
-- how the side against r changes on the way from a to b
abbrev way_of : Edge → Point → Point → ℤ
way_of r a b = (r.hi.x -ℤ r.lo.x) *ℤ (b.y -ℤ a.y) -ℤ (r.hi.y -ℤ r.lo.y) *ℤ (b.x -ℤ a.x)

-- along s it changes as from end to end, by a positive factor
scaled : (r s : Edge) (a b : Point) (w : Along s a b) → w.k *ℤ way_of r a b ≡ w.l *ℤ way_of r s.lo s.hi
scaled r s a b w =
    let k = w.k in let l = w.l in
    let dx = r.hi.x -ℤ r.lo.x in let dy = r.hi.y -ℤ r.lo.y in let ux = b.x -ℤ a.x in let uy = b.y -ℤ a.y in let vx = s.hi.x -ℤ s.lo.x in let vy = s.hi.y -ℤ s.lo.y in
    let out : (k dx dy ux uy : ℤ) → k *ℤ (dx *ℤ uy -ℤ dy *ℤ ux) ≡ dx *ℤ (k *ℤ uy) -ℤ dy *ℤ (k *ℤ ux) = λ k dx dy ux uy. ring (k ∷ dx ∷ dy ∷ ux ∷ uy ∷ []) (times (variable 0) (minus (times (variable 1) (variable 4)) (times (variable 2) (variable 3)))) (minus (times (variable 1) (times (variable 0) (variable 4))) (times (variable 2) (times (variable 0) (variable 3)))) tt in
    out k dx dy ux uy ∙ (ap (λ n. dx *ℤ n -ℤ dy *ℤ (k *ℤ ux)) w.up ∙ (ap (λ n. dx *ℤ (l *ℤ vy) -ℤ dy *ℤ n) w.right ∙ sym (out l dx dy vx vy)))

-- along s the side against r grows, stays or falls
abbrev Grows : Edge → Edge → Type 0
Grows r s = (a b : Point) → side_of s a ≡ pos 0 → side_of s b ≡ pos 0 → Before a b → side_of r a <ℤ side_of r b

abbrev Stays : Edge → Edge → Type 0
Stays r s = (a b : Point) → side_of s a ≡ pos 0 → side_of s b ≡ pos 0 → Before a b → side_of r a ≡ side_of r b

abbrev Falls : Edge → Edge → Type 0
Falls r s = (a b : Point) → side_of s a ≡ pos 0 → side_of s b ≡ pos 0 → Before a b → side_of r b <ℤ side_of r a

trend : (r s : Edge) → IsEdge s → Grows r s ⊎ (Stays r s ⊎ Falls r s)
trend r s up = elim (trichotomy (pos 0) (way_of r s.lo s.hi)) [
  | inl more ↦ inl (λ a b on_a on_b order.
      (let w : Along s a b = along s a b up order on_a on_b in
      let way : pos 0 <ℤ way_of r a b = positive_from w.k (way_of r a b) w.k_positive (omega (arith, ints, scaled r s a b w, product_positive w.l (way_of r s.lo s.hi) w.l_positive more)) in
      omega (arith, ints, way, side_between r a b)))
  | inr rest ↦ elim rest [
    | inl none ↦ inr (inl (λ a b on_a on_b order.
        (let w : Along s a b = along s a b up order on_a on_b in
        let way : way_of r a b ≡ pos 0 = zero_from w.k (way_of r a b) w.k_positive (scaled r s a b w ∙ product_by_zero w.l (way_of r s.lo s.hi) (sym none)) in
        omega (arith, ints, way, side_between r a b))))
    | inr less ↦ inr (inr (λ a b on_a on_b order.
        (let w : Along s a b = along s a b up order on_a on_b in
        let way : way_of r a b <ℤ pos 0 = negative_from w.k (way_of r a b) w.k_positive (omega (arith, ints, scaled r s a b w, product_negative w.l (way_of r s.lo s.hi) w.l_positive less)) in
        omega (arith, ints, way, side_between r a b))))
  ]
]

-- at most is equal or before
same_or_before : (p q : Point) → AtMost p q → (p ≡ q) ⊎ Before p q
same_or_before p q h = elim (cases_Bool (before p q)) [
  | inl first ↦ inr ((before_decides p q).0 first)
  | inr not_first ↦ inl (same-from_neither p q (λ k. both_ways (before p q) not_first ((before_decides p q).1 k)) (λ k. both_ways (before q p) (not-true (before q p) ((up_to_decides p q).1 h)) ((before_decides q p).1 k)))
]

at_most : (p q : Point) → (Before q p → ⊥) → AtMost p q
at_most p q never = (up_to_decides p q).0 (not_from_false (before q p) (false_from_ne_true (before q p) (λ h. never ((before_decides q p).0 h))))

-- to lie on an edge, by a test
lies_from : (s : Edge) (p : Point) → LiesOn s p → lies_on s p ≡ true
lies_from s p h = and_from _ _ (and_from _ _ ((is_on_decides s p).1 h.0) ((up_to_decides s.lo p).1 h.1)) ((up_to_decides p s.hi).1 h.2)

lies_to : (s : Edge) (p : Point) → lies_on s p ≡ true → LiesOn s p
lies_to s p h =
    let parts = and_parts (is_on s p && up_to s.lo p) (up_to p s.hi) h in
    let front = and_parts (is_on s p) (up_to s.lo p) parts.0 in
    ((is_on_decides s p).0 front.0, (up_to_decides s.lo p).0 front.1, (up_to_decides p s.hi).0 parts.1)

-- ---- parts of a segment
-- where the ends of a part lie on opposite sides of a line, the ends of the segment do
pub wider : (r s : Edge) (a b : Point) → IsEdge s → LiesOn s a → LiesOn s b → Before a b → Opposite (side_of r a) (side_of r b) → Opposite (side_of r s.lo) (side_of r s.hi)
wider r s a b up on_a on_b order parted = elim (trend r s up) [
  | inl grows ↦ (let within = grows a b on_a.0 on_b.0 order in
      let front : side_of r s.lo ≤ℤ side_of r a = elim (same_or_before s.lo a on_a.1) [ inl same ↦ (let e = ap (side_of r) same in omega (arith, ints, e)) | inr less ↦ (let l = grows s.lo a (side_lo s) on_a.0 less in omega (arith, ints, l)) ] in
      let back : side_of r b ≤ℤ side_of r s.hi = elim (same_or_before b s.hi on_b.2) [ inl same ↦ (let e = ap (side_of r) same in omega (arith, ints, e)) | inr less ↦ (let l = grows b s.hi on_b.0 (side_hi s) less in omega (arith, ints, l)) ] in
      elim parted [ inl down ↦ absurd (omega (arith, ints, within, down.0, down.1)) | inr rise ↦ inr (omega (arith, ints, rise.0, front), omega (arith, ints, rise.1, back)) ])
  | inr rest ↦ elim rest [
    | inl stays ↦ (let same = stays a b on_a.0 on_b.0 order in elim parted [ inl down ↦ absurd (omega (arith, ints, same, down.0, down.1)) | inr rise ↦ absurd (omega (arith, ints, same, rise.0, rise.1)) ])
    | inr falls ↦ (let within = falls a b on_a.0 on_b.0 order in
        let front : side_of r a ≤ℤ side_of r s.lo = elim (same_or_before s.lo a on_a.1) [ inl same ↦ (let e = ap (side_of r) same in omega (arith, ints, e)) | inr less ↦ (let l = falls s.lo a (side_lo s) on_a.0 less in omega (arith, ints, l)) ] in
        let back : side_of r s.hi ≤ℤ side_of r b = elim (same_or_before b s.hi on_b.2) [ inl same ↦ (let e = ap (side_of r) same in omega (arith, ints, e)) | inr less ↦ (let l = falls b s.hi on_b.0 (side_hi s) less in omega (arith, ints, l)) ] in
        elim parted [ inl down ↦ inl (omega (arith, ints, down.0, front), omega (arith, ints, down.1, back)) | inr rise ↦ absurd (omega (arith, ints, within, rise.0, rise.1)) ])
  ]
]

-- where the ends of r lie on opposite sides of s, a point on both lines lies inside r
within : (r s : Edge) → IsEdge r → Opposite (side_of s r.lo) (side_of s r.hi) → (c : Point) → side_of r c ≡ pos 0 → side_of s c ≡ pos 0 → inside r c ≡ true
within r s up parted c on_r on_s = and_from _ _ (lies_from r c (on_r, at_most r.lo c not_under, at_most c r.hi not_over)) (not_from_false (is_end r c) (or_from _ _
    (false_from_ne_true (same_point c r.lo) (λ h. off_low (ap (side_of s) (same_point-true c r.lo h))))
    (false_from_ne_true (same_point c r.hi) (λ h. off_high (ap (side_of s) (same_point-true c r.hi h))))))
  where
    off_low : side_of s c ≡ side_of s r.lo → ⊥
    off_low e = elim parted [ inl down ↦ omega (arith, ints, e, on_s, down.0) | inr rise ↦ omega (arith, ints, e, on_s, rise.0) ]

    off_high : side_of s c ≡ side_of s r.hi → ⊥
    off_high e = elim parted [ inl down ↦ omega (arith, ints, e, on_s, down.1) | inr rise ↦ omega (arith, ints, e, on_s, rise.1) ]

    whole : (Before c r.lo ⊎ Before r.hi c) → ⊥
    whole out = elim (trend s r up) [
      | inl grows ↦ (let all = grows r.lo r.hi (side_lo r) (side_hi r) up in elim out [
        | inl under ↦ (let l = grows c r.lo on_r (side_lo r) under in elim parted [ inl down ↦ omega (arith, ints, all, l, on_s, down.0, down.1) | inr rise ↦ omega (arith, ints, all, l, on_s, rise.0, rise.1) ])
        | inr over ↦ (let l = grows r.hi c (side_hi r) on_r over in elim parted [ inl down ↦ omega (arith, ints, all, l, on_s, down.0, down.1) | inr rise ↦ omega (arith, ints, all, l, on_s, rise.0, rise.1) ])
      ])
      | inr rest ↦ elim rest [
        | inl stays ↦ (let all = stays r.lo r.hi (side_lo r) (side_hi r) up in elim parted [ inl down ↦ omega (arith, ints, all, down.0, down.1) | inr rise ↦ omega (arith, ints, all, rise.0, rise.1) ])
        | inr falls ↦ (let all = falls r.lo r.hi (side_lo r) (side_hi r) up in elim out [
          | inl under ↦ (let l = falls c r.lo on_r (side_lo r) under in elim parted [ inl down ↦ omega (arith, ints, all, l, on_s, down.0, down.1) | inr rise ↦ omega (arith, ints, all, l, on_s, rise.0, rise.1) ])
          | inr over ↦ (let l = falls r.hi c (side_hi r) on_r over in elim parted [ inl down ↦ omega (arith, ints, all, l, on_s, down.0, down.1) | inr rise ↦ omega (arith, ints, all, l, on_s, rise.0, rise.1) ])
        ])
      ]
    ]

    not_under : Before c r.lo → ⊥
    not_under h = whole (inl h)

    not_over : Before r.hi c → ⊥
    not_over h = whole (inr h)

-- in front of a point on both lines and behind it, s lies on different sides of r
pub changes : (r s : Edge) → IsEdge s → Opposite (side_of r s.lo) (side_of r s.hi) → (p c q : Point) → side_of s p ≡ pos 0 → side_of s c ≡ pos 0 → side_of s q ≡ pos 0 → side_of r c ≡ pos 0 → Before p c → Before c q
    → exactly_one (is_above r p) (is_above r q) ≡ true
changes r s up parted p c q on_p on_c on_q flat first second = elim (trend r s up) [
  | inl grows ↦ (let low = grows p c on_p on_c first in let high = grows c q on_c on_q second in
      ap₂ exactly_one (off p (omega (arith, ints, low, flat))) ((is_above_decides r q).1 (omega (arith, ints, high, flat))))
  | inr rest ↦ elim rest [
    | inl stays ↦ (let all = stays s.lo s.hi (side_lo s) (side_hi s) up in elim parted [ inl down ↦ absurd (omega (arith, ints, all, down.0, down.1)) | inr rise ↦ absurd (omega (arith, ints, all, rise.0, rise.1)) ])
    | inr falls ↦ (let low = falls p c on_p on_c first in let high = falls c q on_c on_q second in
        ap₂ exactly_one ((is_above_decides r p).1 (omega (arith, ints, low, flat))) (off q (omega (arith, ints, high, flat))))
  ]
]
  where
    off : (x : Point) → side_of r x <ℤ pos 0 → is_above r x ≡ false
    off x under = false_from_ne_true (is_above r x) (λ h. (let over = (is_above_decides r x).0 h in omega (arith, ints, over, under)))

-- ---- edges that join end to end
-- an edge of the list at which a test stops to pass
record Stop (test : Point → Bool) (es : List Edge) : Type 0 where
  at : Edge
  there : list_any (same_edge at) es ≡ true
  low : test at.lo ≡ true
  high : test at.hi ≡ false

pub same_itself : (e : Edge) → same_edge e e ≡ true
same_itself e = (same_edge_decides e e).1 refl

stop_found : (test : Point → Bool) (a b : Point) (es : List Edge) → is_path a b es ≡ true → test a ≡ true → test b ≡ false → Stop test es
stop_found test a b [] path h k = absurd (both_ways (test b) k (subst (λ p. test p ≡ true) (same_point-true a b path) h))
stop_found test a b (e ∷ es) path h k =
    let parts = and_parts (same_point a e.lo && goes_up e) (is_path e.hi b es) path in
    let first = (and_parts (same_point a e.lo) (goes_up e) parts.0).0 in
    elim (cases_Bool (test e.hi)) [
      | inr off ↦ record { at = e; there = or_left (same_edge e e) (list_any (same_edge e) es) (same_itself e); low = subst (λ p. test p ≡ true) (same_point-true a e.lo first) h; high = off }
      | inl on ↦ (let rest = stop_found test e.hi b es parts.1 on k in record { at = rest.at; there = or_right (same_edge rest.at e) (list_any (same_edge rest.at) es) rest.there; low = rest.low; high = rest.high })
    ]

-- where one ends the next begins, but at the end of all
next_begins : (c a b : Point) (es : List Edge) → is_path a b es ≡ true → list_any (λ (e : Edge). same_point e.hi c) es ≡ true → same_point b c ≡ false → list_any (λ (e : Edge). same_point e.lo c) es ≡ true
next_begins c a b [] path there off = absurd (true≢false (sym there))
next_begins c a b (e ∷ []) path there off =
    let parts = and_parts (same_point a e.lo && goes_up e) (same_point e.hi b) path in
    elim (or_cases (same_point e.hi c) false there) [
      | inl here ↦ absurd (both_ways (same_point b c) off (subst (λ p. same_point p c ≡ true) (same_point-true e.hi b parts.1) here))
      | inr none ↦ absurd (true≢false (sym none))
    ]
next_begins c a b (e ∷ f ∷ es) path there off =
    let parts = and_parts (same_point a e.lo && goes_up e) (is_path e.hi b (f ∷ es)) path in
    let next = and_parts (same_point e.hi f.lo && goes_up f) (is_path f.hi b es) parts.1 in
    elim (or_cases (same_point e.hi c) (list_any (λ (d : Edge). same_point d.hi c) (f ∷ es)) there) [
      | inl here ↦ or_right (same_point e.lo c) _ (or_left (same_point f.lo c) _ (subst (λ p. same_point p c ≡ true) (same_point-true e.hi f.lo (and_parts (same_point e.hi f.lo) (goes_up f) next.0).0) here))
      | inr later ↦ or_right (same_point e.lo c) _ (next_begins c e.hi b (f ∷ es) parts.1 later off)
    ]

-- where one begins the one before it ends, but at the start
last_ends : (c a b : Point) (es : List Edge) → is_path a b es ≡ true → list_any (λ (e : Edge). same_point e.lo c) es ≡ true → same_point a c ≡ false → list_any (λ (e : Edge). same_point e.hi c) es ≡ true
last_ends c a b [] path there off = absurd (true≢false (sym there))
last_ends c a b (e ∷ es) path there off =
    let parts = and_parts (same_point a e.lo && goes_up e) (is_path e.hi b es) path in
    elim (or_cases (same_point e.lo c) (list_any (λ (d : Edge). same_point d.lo c) es) there) [
      | inl here ↦ absurd (both_ways (same_point a c) off (subst (λ p. same_point p c ≡ true) (sym (same_point-true a e.lo (and_parts (same_point a e.lo) (goes_up e) parts.0).0)) here))
      | inr later ↦ elim (cases_Bool (same_point e.hi c)) [
        | inl at ↦ or_left (same_point e.hi c) _ at
        | inr not_at ↦ or_right (same_point e.hi c) _ (last_ends c e.hi b es parts.1 later not_at)
      ]
    ]

-- ---- members
pub some_edge : (test : Edge → Bool) (es : List Edge) → list_any test es ≡ true → (e : Edge) × (list_any (same_edge e) es ≡ true) × (test e ≡ true)
some_edge test [] h = absurd (true≢false (sym h))
some_edge test (e ∷ es) h = elim (or_cases (test e) (list_any test es) h) [
  | inl here ↦ (e, or_left (same_edge e e) (list_any (same_edge e) es) (same_itself e), here)
  | inr later ↦ (let rest = some_edge test es later in (rest.0, or_right (same_edge rest.0 e) (list_any (same_edge rest.0) es) rest.1, rest.2))
]

pub every_edge : (test : Edge → Bool) (es : List Edge) (e : Edge) → list_all test es ≡ true → list_any (same_edge e) es ≡ true → test e ≡ true
every_edge test [] e all there = absurd (true≢false (sym there))
every_edge test (d ∷ es) e all there =
    let parts = and_parts (test d) (list_all test es) all in
    elim (or_cases (same_edge e d) (list_any (same_edge e) es) there) [
      | inl here ↦ subst (λ x. test x ≡ true) (sym ((same_edge_decides e d).0 here)) parts.0
      | inr later ↦ every_edge test es e parts.1 later
    ]

not_edge : (test : Edge → Bool) (es : List Edge) (e : Edge) → list_any test es ≡ false → list_any (same_edge e) es ≡ true → test e ≡ true → ⊥
not_edge test (d ∷ es) e none there h = elim (or_cases (same_edge e d) (list_any (same_edge e) es) there) [
  | inl here ↦ both_ways (list_any test (d ∷ es)) none (or_left (test d) (list_any test es) (subst (λ x. test x ≡ true) ((same_edge_decides e d).0 here) h))
  | inr later ↦ not_edge test es e (false_from_ne_true (list_any test es) (λ k. both_ways (list_any test (d ∷ es)) none (or_right (test d) (list_any test es) k))) later h
]
not_edge test [] e none there h = true≢false (sym there)

-- ---- the pieces of a segment between corners in order
module _ (corners : List Point) (rise : is_rising before corners ≡ true) where
  -- what is known of a piece
  pub record IsPiece (s e : Edge) : Type 0 where
    pub there : list_any (same_edge e) (cut_at corners s) ≡ true
    pub up : Before e.lo e.hi
    pub low : LiesOn s e.lo
    pub high : LiesOn s e.hi
    pub ends : has_ends corners e ≡ true

  module _ (s : Edge) (good : is_good corners s ≡ true) where
    up : before s.lo s.hi ≡ true
    up = (and_parts (goes_up s) (has_ends corners s) good).0

    ends : (list_any (same_point s.lo) corners ≡ true) × (list_any (same_point s.hi) corners ≡ true)
    ends = and_parts (list_any (same_point s.lo) corners) (list_any (same_point s.hi) corners) (and_parts (goes_up s) (has_ends corners s) good).1

    pub is_piece : (e : Edge) → list_any (same_edge e) (cut_at corners s) ≡ true → IsPiece s e
    is_piece e there =
        let cut = pieces_cut corners rise s up ends.0 ends.1 in
        let on = and_parts (lies_on s e.lo) (lies_on s e.hi) (every_edge (λ (d : Edge). lies_on s d.lo && lies_on s d.hi) (cut_at corners s) e (pieces_on corners rise s up ends.0 ends.1) there) in
        record {
          there = there;
          up = (before_decides e.lo e.hi).0 (every_edge goes_up (cut_at corners s) e cut.go_up there);
          low = lies_to s e.lo on.0;
          high = lies_to s e.hi on.1;
          ends = every_edge (has_ends corners) (cut_at corners s) e cut.between there;
        }

    path : is_path s.lo s.hi (cut_at corners s) ≡ true
    path = pieces_path corners rise s up ends.0 ends.1

    -- of a line that the segment crosses: a piece crosses it, or ends on it
    record Step (r : Edge) : Type 0 where
      at : Edge
      piece : IsPiece s at
      meets : (side_of r at.hi ≡ pos 0) ⊎ Opposite (side_of r at.lo) (side_of r at.hi)

    step : (r : Edge) → Opposite (side_of r s.lo) (side_of r s.hi) → Step r
    step r parted = elim parted [
      | inl down ↦ (let found = stop_found (is_above r) s.lo s.hi (cut_at corners s) path ((is_above_decides r s.lo).1 down.0) (false_from_ne_true (is_above r s.hi) (λ h. (let k = (is_above_decides r s.hi).0 h in omega (arith, ints, k, down.1)))) in
          let over : pos 0 <ℤ side_of r found.at.lo = (is_above_decides r found.at.lo).0 found.low in
          record {
            at = found.at;
            piece = is_piece found.at found.there;
            meets = elim (trichotomy (side_of r found.at.hi) (pos 0)) [
              | inl under ↦ inr (inl (over, under))
              | inr rest ↦ elim rest [ inl flat ↦ inl flat | inr still ↦ absurd (both_ways (is_above r found.at.hi) found.high ((is_above_decides r found.at.hi).1 still)) ]
            ];
          })
      | inr rises ↦ (let found = stop_found (is_below r) s.lo s.hi (cut_at corners s) path ((is_below_decides r s.lo).1 rises.0) (false_from_ne_true (is_below r s.hi) (λ h. (let k = (is_below_decides r s.hi).0 h in omega (arith, ints, k, rises.1)))) in
          let under : side_of r found.at.lo <ℤ pos 0 = (is_below_decides r found.at.lo).0 found.low in
          record {
            at = found.at;
            piece = is_piece found.at found.there;
            meets = elim (trichotomy (side_of r found.at.hi) (pos 0)) [
              | inl still ↦ absurd (both_ways (is_below r found.at.hi) found.high ((is_below_decides r found.at.hi).1 still))
              | inr rest ↦ elim rest [ inl flat ↦ inl flat | inr over ↦ inr (inr (under, over)) ]
            ];
          })
    ]

    module _ (e : Edge) (piece : IsPiece s e) where
      way : Along s e.lo e.hi
      way = along s e.lo e.hi ((before_decides s.lo s.hi).0 up) piece.up piece.low.0 piece.high.0

      -- a point stands to a piece as it stands to the segment
      pub same_above : (p : Point) → is_above e p ≡ is_above s p
      same_above p = above_along s e.lo e.hi way piece.low.0 p

      same_below : (p : Point) → is_below e p ≡ is_below s p
      same_below p = below_along s e.lo e.hi way piece.low.0 p

      parted_too : (p q : Point) → Opposite (side_of s p) (side_of s q) → Opposite (side_of e p) (side_of e q)
      parted_too p q parted = elim parted [
        | inl down ↦ inl ((is_above_decides e p).0 (same_above p ∙ (is_above_decides s p).1 down.0), (is_below_decides e q).0 (same_below q ∙ (is_below_decides s q).1 down.1))
        | inr rises ↦ inr ((is_below_decides e p).0 (same_below p ∙ (is_below_decides s p).1 rises.0), (is_above_decides e q).0 (same_above q ∙ (is_above_decides s q).1 rises.1))
      ]

      pub parted_whole : (p q : Point) → Opposite (side_of e p) (side_of e q) → Opposite (side_of s p) (side_of s q)
      parted_whole p q parted = elim parted [
        | inl down ↦ inl ((is_above_decides s p).0 (sym (same_above p) ∙ (is_above_decides e p).1 down.0), (is_below_decides s q).0 (sym (same_below q) ∙ (is_below_decides e q).1 down.1))
        | inr rises ↦ inr ((is_below_decides s p).0 (sym (same_below p) ∙ (is_below_decides e p).1 rises.0), (is_above_decides s q).0 (sym (same_above q) ∙ (is_above_decides e q).1 rises.1))
      ]

    -- at a corner inside the segment one piece ends and one begins
    pub record Through (c : Point) : Type 0 where
      pub first : Edge
      pub second : Edge
      pub is_first : IsPiece s first
      pub is_second : IsPiece s second
      pub ends_there : first.hi ≡ c
      pub begins_there : second.lo ≡ c

    pub through : (c : Point) → list_any (same_point c) corners ≡ true → inside s c ≡ true → Through c
    through c there at = record {
      first = before_c.0;
      second = behind_c.0;
      is_first = is_piece before_c.0 before_c.1;
      is_second = is_piece behind_c.0 behind_c.1;
      ends_there = same_point-true before_c.0.hi c before_c.2;
      begins_there = same_point-true behind_c.0.lo c behind_c.2;
    }
      where
        parts : (lies_on s c ≡ true) × (not (is_end s c) ≡ true)
        parts = and_parts (lies_on s c) (not (is_end s c)) at

        no_end : (p : Point) → is_end s p ≡ true → same_point p c ≡ false
        no_end p end = false_from_ne_true (same_point p c) (λ h. both_ways (is_end s c) (not-true (is_end s c) parts.1) (subst (λ x. is_end s x ≡ true) (same_point-true p c h) end))

        at_end : list_any (λ (e : Edge). same_point e.lo c) (cut_at corners s) ≡ true ⊎ list_any (λ (e : Edge). same_point e.hi c) (cut_at corners s) ≡ true
        at_end =
            let found = some_edge (λ e. lies_on e c) (cut_at corners s) ((pieces_cut corners rise s up ends.0 ends.1).touched c ∙ parts.0) in
            let e : Edge = found.0 in
            elim (cases_Bool (is_end e c)) [
              | inr within_it ↦ absurd (not_edge (λ d. inside d c) (cut_at corners s) e (none_inside corners rise s up ends.0 ends.1 c there) found.1 (and_from _ _ found.2 (not_from_false (is_end e c) within_it)))
              | inl end ↦ elim (or_cases (same_point c e.lo) (same_point c e.hi) end) [
                | inl low ↦ inl (put (λ (d : Edge). same_point d.lo c) e found.1 (subst (λ p. same_point p c ≡ true) (same_point-true c e.lo low) (same_point_refl c)))
                | inr high ↦ inr (put (λ (d : Edge). same_point d.hi c) e found.1 (subst (λ p. same_point p c ≡ true) (same_point-true c e.hi high) (same_point_refl c)))
              ]
            ]
          where
            put : (test : Edge → Bool) (e : Edge) → list_any (same_edge e) (cut_at corners s) ≡ true → test e ≡ true → list_any test (cut_at corners s) ≡ true
            put test e here h = elim (cases_Bool (list_any test (cut_at corners s))) [ inl some ↦ some | inr none ↦ absurd (not_edge test (cut_at corners s) e none here h) ]

        both : (list_any (λ (e : Edge). same_point e.hi c) (cut_at corners s) ≡ true) × (list_any (λ (e : Edge). same_point e.lo c) (cut_at corners s) ≡ true)
        both = elim at_end [
          | inl begins ↦ (last_ends c s.lo s.hi (cut_at corners s) path begins (no_end s.lo (or_left (same_point s.lo s.lo) (same_point s.lo s.hi) (same_point_refl s.lo))), begins)
          | inr finishes ↦ (finishes, next_begins c s.lo s.hi (cut_at corners s) path finishes (no_end s.hi (or_right (same_point s.hi s.lo) (same_point s.hi s.hi) (same_point_refl s.hi))))
        ]

        before_c : (e : Edge) × (list_any (same_edge e) (cut_at corners s) ≡ true) × (same_point e.hi c ≡ true)
        before_c = some_edge (λ (e : Edge). same_point e.hi c) (cut_at corners s) both.0

        behind_c : (e : Edge) × (list_any (same_edge e) (cut_at corners s) ≡ true) × (same_point e.lo c ≡ true)
        behind_c = some_edge (λ (e : Edge). same_point e.lo c) (cut_at corners s) both.1

  -- a corner inside two segments
  pub record Meeting (r s : Edge) : Type 0 where
    pub at : Point
    pub is_corner : list_any (same_point at) corners ≡ true
    pub in_first : inside r at ≡ true
    pub in_second : inside s at ≡ true

  -- where two segments cross and no two of their pieces do, a corner lies inside both
  pub meeting : (r s : Edge) → is_good corners r ≡ true → is_good corners s ≡ true → Cross r s
      → ((e f : Edge) → list_any (same_edge e) (cut_at corners r) ≡ true → list_any (same_edge f) (cut_at corners s) ≡ true → cross e f ≡ true → ⊥) → Meeting r s
  unfolding Cross
  meeting r s good_r good_s crossing apart =
      let first : Step r good_r s = step r good_r s crossing.1 in
      let e : Edge = first.at in
      elim first.meets [
        | inl flat ↦ record {
          at = e.hi;
          is_corner = (and_parts (list_any (same_point e.lo) corners) (list_any (same_point e.hi) corners) first.piece.ends).1;
          in_first = within r s ((before_decides r.lo r.hi).0 (up r good_r)) crossing.1 e.hi first.piece.high.0 flat;
          in_second = within s r ((before_decides s.lo s.hi).0 (up s good_s)) crossing.0 e.hi flat first.piece.high.0;
        }
        | inr parted ↦ (let second : Step s good_s e = step s good_s e (parted_too r good_r e first.piece s.lo s.hi crossing.0) in
            let f : Edge = second.at in
            absurd (elim second.meets [
              | inl flat ↦ not_edge (λ d. inside d f.hi) (cut_at corners r) e (none_inside corners rise r (up r good_r) (ends r good_r).0 (ends r good_r).1 f.hi (and_parts (list_any (same_point f.lo) corners) (list_any (same_point f.hi) corners) second.piece.ends).1) first.piece.there
                  (within e s first.piece.up parted f.hi flat second.piece.high.0)
              | inr again ↦ apart e f first.piece.there second.piece.there ((cross_decides e f).1 (again, parted_too s good_s f second.piece e.lo e.hi parted))
            ]))
      ]
