-- Marking a round: the way from the first half-edge meets no mark until it is back at the first.
use Rattle.std.proofs.Common.{◌≡◌, ◌≢◌, ℕ, zero, suc, ◌+◌, ◌<◌, ◌≤◌, cond, List, length, get_or, set, refl, sym, ◌∙◌, ap, subst, ◌⊎◌, inl, inr, arith, get_or-set_same, get_or-set_other, length-set}
use Rattle.std.specs.Prelude.{◌==◌}
use Rattle.std.specs.List.{count_by}
use Rattle.std.proofs.lemmas.Bool.{cases_eq, cases_lt, eq-eqb, ne_eqb, cond-true, cond-false}
use Rattle.std.proofs.lemmas.List.Sums.{count_by-le-length, sum_by-set}
use Rattle.loc_half.specs.Rounds.{next_of, after, IsPermuting, IsRound, IsOnRound, AreMarked, leader_among}
use Rattle.loc_half.proofs.Going.{leader_on_round}

-- no mark stands there
abbrev pub unmarked : List ℕ → List ℕ → ℕ
unmarked nexts marks = count_by (λ m. m == length nexts) marks

-- the half-edges that have had a mark set on the way from the first to h; before are the marks at its start
pub record IsWalk (nexts before marks : List ℕ) (first h : ℕ) : Type 0 where
  pub steps : ℕ
  pub at : h ≡ after (next_of nexts) steps first
  pub as_many : length marks ≡ length nexts
  pub in_range : (j : ℕ) → j ≤ steps → after (next_of nexts) j first < length nexts
  pub marked : (j : ℕ) → j < steps → get_or marks (after (next_of nexts) j first) 0 ≡ first
  pub fresh : (j : ℕ) → j < steps → get_or before (after (next_of nexts) j first) 0 ≡ length nexts
  pub kept : (g : ℕ) → ((j : ℕ) → j < steps → after (next_of nexts) j first ≢ g) → get_or marks g 0 ≡ get_or before g 0
  pub apart : (i j : ℕ) → i < j → j < steps → after (next_of nexts) i first ≢ after (next_of nexts) j first
  pub few : steps + unmarked nexts marks ≤ length nexts

-- one mark more, one unmarked less
unmarked_less : (nexts marks : List ℕ) (h y : ℕ) → h < length marks → get_or marks h 0 ≡ length nexts → y ≢ length nexts → suc (unmarked nexts (set marks h y)) ≡ unmarked nexts marks
unmarked_less nexts marks h y lt is other =
    let weigh : ℕ → ℕ = λ m. cond (m == length nexts) 1 0 in
    let moved : unmarked nexts (set marks h y) + weigh (get_or marks h 0) ≡ unmarked nexts marks + weigh y = sum_by-set weigh marks h y 0 lt in
    let one : weigh (get_or marks h 0) ≡ 1 = cond-true (get_or marks h 0 == length nexts) 1 0 (eq-eqb _ _ is) in
    let none : weigh y ≡ 0 = cond-false (y == length nexts) 1 0 (ne_eqb _ _ other) in
    omega (arith, moved, one, none)

module _ (nexts before : List ℕ) (permuting : IsPermuting nexts) (first : ℕ) (fits : first < length nexts) where
  -- nothing marked yet
  pub walk-start : length before ≡ length nexts → IsWalk nexts before before first first
  walk-start size = record {
    steps = 0;
    at = refl;
    as_many = size;
    in_range = λ j le. (let e : j ≡ 0 = omega arith in subst (λ k. after (next_of nexts) k first < length nexts) (sym e) fits);
    marked = λ j lt. absurd (omega arith);
    fresh = λ j lt. absurd (omega arith);
    kept = λ g off. refl;
    apart = λ i j less lt. absurd (omega arith);
    few = (let most = count_by-le-length (λ m. m == length nexts) before in omega (arith, most, size));
  }

  module _ (marks : List ℕ) (h : ℕ) (walk : IsWalk nexts before marks first h) where
    -- a mark at each half-edge behind: none of them is a half-edge without a mark
    off_way : get_or marks h 0 ≡ length nexts → (j : ℕ) → j < walk.steps → after (next_of nexts) j first ≢ h
    off_way bare j lt same = (let is : first ≡ length nexts = sym (walk.marked j lt) ∙ (ap (λ g. get_or marks g 0) same ∙ bare) in omega (arith, is, fits))

    -- the next half-edge to look at is one of the table
    pub walk-fits : h < length nexts
    walk-fits = subst (λ g. g < length nexts) (sym walk.at) (walk.in_range walk.steps (omega arith))

    walk-inside : h < length marks
    walk-inside = let size = walk.as_many in let here = walk-fits in omega (arith, here, size)

    -- a mark more leaves fewer without one
    pub walk-falls : get_or marks h 0 ≡ length nexts → suc (unmarked nexts (set marks h first)) ≡ unmarked nexts marks
    walk-falls bare = unmarked_less nexts marks h first walk-inside bare (λ is. (let e : first ≡ length nexts = is in omega (arith, e, fits)))

    -- one half-edge more
    pub walk-more : get_or marks h 0 ≡ length nexts → IsWalk nexts before (set marks h first) first (next_of nexts h)
    walk-more bare =
        let last : (j : ℕ) → j < suc walk.steps → j ≢ walk.steps → j < walk.steps = λ j lt ne. omega (arith, lt, ne) in
        record {
          steps = suc walk.steps;
          at = ap (next_of nexts) walk.at;
          as_many = length-set marks h first ∙ walk.as_many;
          in_range = λ j le. elim (cases_eq j (suc walk.steps)) [
            | inl end ↦ subst (λ k. after (next_of nexts) k first < length nexts) (sym end) (permuting.in_range (after (next_of nexts) walk.steps first) (walk.in_range walk.steps (omega arith)))
            | inr other ↦ (let ne : j ≢ suc walk.steps = other in walk.in_range j (omega (arith, ne, le)))
          ];
          marked = λ j lt. elim (cases_eq j walk.steps) [
            | inl end ↦ ap (λ k. get_or (set marks h first) (after (next_of nexts) k first) 0) end ∙ (ap (λ g. get_or (set marks h first) g 0) (sym walk.at) ∙ get_or-set_same marks h first 0 walk-inside)
            | inr other ↦ get_or-set_other marks h (after (next_of nexts) j first) first 0 (off_way bare j (last j lt other)) ∙ walk.marked j (last j lt other)
          ];
          fresh = λ j lt. elim (cases_eq j walk.steps) [
            | inl end ↦ ap (λ k. get_or before (after (next_of nexts) k first) 0) end ∙ (ap (λ g. get_or before g 0) (sym walk.at) ∙ (sym (walk.kept h (off_way bare)) ∙ bare))
            | inr other ↦ walk.fresh j (last j lt other)
          ];
          kept = λ g off. get_or-set_other marks h g first 0 (λ same. off walk.steps (omega arith) (sym walk.at ∙ sym same)) ∙ walk.kept g (λ j lt. off j (omega (arith, lt)));
          apart = λ i j less lt. elim (cases_eq j walk.steps) [
            | inl end ↦ (λ same. off_way bare i (let e : j ≡ walk.steps = end in omega (arith, less, e)) (same ∙ (ap (λ k. after (next_of nexts) k first) end ∙ sym walk.at)))
            | inr other ↦ walk.apart i j less (last j lt other)
          ];
          few = (let less = walk-falls bare in let few = walk.few in omega (arith, less, few));
        }

    -- g is on the way, or not
    on_way : (s g : ℕ) → ((j : ℕ) × (j < s) × (after (next_of nexts) j first ≡ g)) ⊎ ((j : ℕ) → j < s → after (next_of nexts) j first ≢ g)
    on_way zero g = inr (λ j lt. absurd (omega arith))
    on_way (suc s) g = elim (cases_eq (after (next_of nexts) s first) g) [
      | inl here ↦ inl (s, omega arith, here)
      | inr other ↦ elim (on_way s g) [
        | inl found ↦ (let lt = found.1 in inl (found.0, omega (arith, lt), found.2))
        | inr none ↦ inr (λ j lt. elim (cases_eq j s) [
          | inl end ↦ subst (λ k. after (next_of nexts) k first ≢ g) (sym end) other
          | inr ne ↦ (let apart : j ≢ s = ne in none j (omega (arith, lt, apart)))
        ])
      ]
    ]

    module _ (marked : AreMarked nexts before first) (stopped : get_or marks h 0 ≢ length nexts) where
      -- what comes before a half-edge with a mark has one too
      behind_marked : (g p : ℕ) → p < length nexts → g < length nexts → next_of nexts p ≡ g → get_or before g 0 ≢ length nexts → get_or before p 0 ≢ length nexts
      behind_marked g p lt_p lt_g step has =
          let on = marked.on_rounds g lt_g has in
          let within = on.within in
          let from : (k : ℕ) → k < on.period → next_of nexts (after (next_of nexts) k on.first) ≡ g → get_or before p 0 ≢ length nexts = λ k lt to.
          (let same : p ≡ after (next_of nexts) k on.first = permuting.one p (after (next_of nexts) k on.first) lt_p (on.round.in_range k lt) (step ∙ sym to) in
          let root : on.first < length nexts = on.round.in_range 0 (omega (arith, lt)) in
          λ is. (let e : on.first ≡ length nexts = sym (on.marked k lt) ∙ (ap (λ x. get_or before x 0) (sym same) ∙ is) in omega (arith, e, root))) in
          by on.place on.period on.first on.here on.round.closes within from
        where
          by : (place period root : ℕ) → after (next_of nexts) place root ≡ g → after (next_of nexts) period root ≡ root → place < period → ((k : ℕ) → k < period → next_of nexts (after (next_of nexts) k root) ≡ g → get_or before p 0 ≢ length nexts) → get_or before p 0 ≢ length nexts
          by zero zero root at closes lt from = absurd (omega arith)
          by zero (suc period) root at closes lt from = from period (omega arith) (closes ∙ at)
          by (suc place) period root at closes lt from = from place (omega arith) at

      -- the way is back at the first half-edge
      back : (s : ℕ) → s ≡ walk.steps → 0 < s → after (next_of nexts) s first ≡ first
      back zero is more = absurd (omega arith)
      back (suc s) is more =
          let lt : s < walk.steps = omega (arith, is) in
          let to : next_of nexts (after (next_of nexts) s first) ≡ h = ap (λ k. after (next_of nexts) k first) is ∙ sym walk.at in
          let closed : h ≡ first = elim (on_way walk.steps h) [
            | inl met ↦ again met.0 met.1 met.2 s is lt to
            | inr new ↦ absurd (behind_marked h (after (next_of nexts) s first) (walk.in_range s (omega (arith, lt))) walk-fits to (λ bare. stopped (walk.kept h new ∙ bare)) (walk.fresh s lt))
          ] in
          to ∙ closed
        where
          again : (j : ℕ) → j < walk.steps → after (next_of nexts) j first ≡ h → (s : ℕ) → suc s ≡ walk.steps → s < walk.steps → next_of nexts (after (next_of nexts) s first) ≡ h → h ≡ first
          again zero lt here s is less to = sym here
          again (suc j) lt here s is less to = absurd (walk.apart j s (omega (arith, lt, is)) less (permuting.one (after (next_of nexts) j first) (after (next_of nexts) s first) (walk.in_range j (omega (arith, lt))) (walk.in_range s (omega (arith, less))) (here ∙ sym to)))

      -- the way is a round
      is_round : 0 < walk.steps → IsRound nexts first walk.steps
      is_round more = record {
        few = (let few = walk.few in omega (arith, few));
        closes = back walk.steps refl more;
        in_range = λ j lt. walk.in_range j (omega (arith, lt));
        apart = walk.apart;
        least = λ j lt. elim (cases_lt (after (next_of nexts) j first) first) [
          | inl below ↦ absurd (marked.all_before (after (next_of nexts) j first) below (walk.fresh j lt))
          | inr above ↦ above
        ];
      }

      -- a mark from before is off the way
      off_marked : (g : ℕ) → get_or before g 0 ≢ length nexts → (j : ℕ) → j < walk.steps → after (next_of nexts) j first ≢ g
      off_marked g has j lt same = has (ap (λ x. get_or before x 0) (sym same) ∙ walk.fresh j lt)

      -- a round that was marked before still is
      still : (g : ℕ) → IsOnRound nexts before g → IsOnRound nexts marks g
      still g on = record {
        first = on.first;
        period = on.period;
        place = on.place;
        round = on.round;
        within = on.within;
        here = on.here;
        marked = λ j lt. walk.kept (after (next_of nexts) j on.first) (off_marked (after (next_of nexts) j on.first) (λ is. (let root : on.first < length nexts = on.round.in_range 0 (omega (arith, lt)) in let e : on.first ≡ length nexts = sym (on.marked j lt) ∙ is in omega (arith, e, root)))) ∙ on.marked j lt;
      }

      -- a half-edge of the way has its mark
      pub on_rounds : (g : ℕ) → g < length nexts → get_or marks g 0 ≢ length nexts → IsOnRound nexts marks g
      on_rounds g lt has = elim (on_way walk.steps g) [
        | inl met ↦ (let less = met.1 in record { first = first; period = walk.steps; place = met.0; round = is_round (omega (arith, less)); within = met.1; here = met.2; marked = walk.marked })
        | inr off ↦ still g (marked.on_rounds g lt (λ bare. has (walk.kept g off ∙ bare)))
      ]

      -- all before the first have a mark, and so has the first
      has_mark : (g : ℕ) → g < suc first → get_or marks g 0 ≢ length nexts
      has_mark g lt = elim (on_way walk.steps g) [
        | inl met ↦ (λ bare. (let e : first ≡ length nexts = sym (walk.marked met.0 met.1) ∙ (ap (λ x. get_or marks x 0) met.2 ∙ bare) in omega (arith, e, fits)))
        | inr off ↦ elim (cases_eq g first) [
          | inl same ↦ elim (cases_eq walk.steps 0) [
            | inl none ↦ subst (λ x. get_or marks x 0 ≢ length nexts) (walk.at ∙ (ap (λ k. after (next_of nexts) k first) none ∙ sym same)) stopped
            | inr some ↦ (let ne : walk.steps ≢ 0 = some in absurd (off 0 (omega (arith, ne)) (sym same)))
          ]
          | inr other ↦ (let ne : g ≢ first = other in λ bare. marked.all_before g (omega (arith, ne, lt)) (sym (walk.kept g off) ∙ bare))
        ]
      ]

      -- the first is marked, and all that is marked is on marked rounds
      pub marked-more : AreMarked nexts marks (first + 1)
      marked-more = record {
        as_many = walk.as_many;
        all_before = λ g lt. has_mark g (omega (arith, lt));
        on_rounds = on_rounds;
      }

-- no half-edge marked
pub none_marked : (nexts marks : List ℕ) → length marks ≡ length nexts → ((g : ℕ) → g < length nexts → get_or marks g 0 ≡ length nexts) → AreMarked nexts marks 0
none_marked nexts marks size bare = record {
  as_many = size;
  all_before = λ g lt. absurd (omega arith);
  on_rounds = λ g lt has. absurd (has (bare g lt));
}

-- where all are marked the marks are the leaders
pub leaders_are : (nexts marks : List ℕ) → AreMarked nexts marks (length nexts) → (h : ℕ) → h < length nexts → get_or marks h 0 ≡ leader_among (length nexts) (next_of nexts) h
leaders_are nexts marks marked h lt =
    let on = marked.on_rounds h lt (marked.all_before h lt) in
    sym (ap (λ g. get_or marks g 0) on.here) ∙ (on.marked on.place on.within ∙ (sym (leader_on_round nexts on.first on.period on.round on.place on.within) ∙ ap (leader_among (length nexts) (next_of nexts)) on.here))
