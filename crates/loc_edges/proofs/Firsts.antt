-- How many edges begin before each corner, as they are counted edge after edge.
use Rattle.std.proofs.Common.{◌≡◌, ℕ, ◌+◌, ◌-◌, ◌<◌, ◌≤◌, true, List, [], ◌++◌, length, get_or, take, replicate, refl, sym, ◌∙◌, ap, subst, inl, inr, arith, length-append}
use Rattle.std.specs.Prelude.{nat_lt}
use Rattle.std.proofs.lemmas.Bool.{cases_lt}
use Rattle.std.proofs.lemmas.List.{take_all, get_or_default, get_or_append_left, get_or-append_right, get_or-replicate, length-replicate}
use Rattle.loc_spec_plane.specs.{Lists.is_rising, Tables.Table, Tables.pair_before}
use Rattle.loc_edges.specs.Ending.{IsFirstFrom, AreFirsts, IsBeginning}
use Rattle.loc_edges.proofs.EndingRows.{firsts_rise}

-- the first n edges are counted: how many begin before each corner up to where they begin
pub record AreCounted (ends : List (ℕ × ℕ)) (corners n : ℕ) (firsts : List ℕ) : Type 0 where
  pub are : (c : ℕ) → c < length firsts → IsFirstFrom ends c (get_or firsts c 0)
  pub passed : (e : ℕ) → e < n → (get_or ends e (0, 0)).0 < length firsts
  pub next : (e : ℕ) → n ≤ e → e < length ends → length firsts ≤ (get_or ends e (0, 0)).0 + 1
  pub few : length firsts ≤ corners

-- before the first edge
pub none_counted : (ends : List (ℕ × ℕ)) (corners : ℕ) → AreCounted ends corners 0 []
none_counted ends corners = record {
  are = λ c lt. absurd (omega (arith, lt));
  passed = λ e lt. absurd (omega (arith, lt));
  next = λ e le lt. omega arith;
  few = omega arith;
}

module _ (ends : List (ℕ × ℕ)) (corners n : ℕ) (firsts : List ℕ) (len : ℕ) (len_is : len ≡ length firsts) (h : AreCounted ends corners n firsts) where
  -- the corners behind, up to some count, at which no further edge has begun
  resized : (count : ℕ) (grown : List ℕ) → n ≤ length ends → length firsts ≤ count → ((e : ℕ) → n ≤ e → e < length ends → count ≤ (get_or ends e (0, 0)).0 + 1) → grown ≡ take count firsts ++ replicate (count - len) n → (length grown ≡ count) × ((c : ℕ) → c < count → IsFirstFrom ends c (get_or grown c 0))
  resized count grown within le later is = (many, at)
    where
      parts : grown ≡ firsts ++ replicate (count - length firsts) n
      parts = is ∙ (ap (λ ns. ns ++ replicate (count - len) n) (take_all count firsts le) ∙ ap (λ m. firsts ++ replicate (count - m) n) len_is)

      many : length grown ≡ count
      many = omega (arith, ap length parts, length-append firsts (replicate (count - length firsts) n), length-replicate (count - length firsts) n)

      at : (c : ℕ) → c < count → IsFirstFrom ends c (get_or grown c 0)
      at c lt = elim (cases_lt c (length firsts)) [
        | inl old ↦ subst (IsFirstFrom ends c) (sym (ap (λ ns. get_or ns c 0) parts ∙ get_or_append_left firsts (replicate (count - length firsts) n) 0 c old)) (h.are c old)
        | inr new ↦ subst (IsFirstFrom ends c) (sym (ap (λ ns. get_or ns c 0) parts ∙ (get_or-append_right firsts (replicate (count - length firsts) n) (length firsts) c 0 refl new ∙ get_or-replicate (count - length firsts) (c - length firsts) n 0 (omega arith)))) (record {
          within = within;
          before = λ e less. omega (arith, h.passed e less);
          from = λ e past fits. omega (arith, later e past fits);
        })
      ]

  -- one more edge is counted
  pub counted_more : (grown : List ℕ) → is_rising pair_before ends ≡ true → n < length ends → (get_or ends n (0, 0)).0 < corners → grown ≡ take ((get_or ends n (0, 0)).0 + 1) firsts ++ replicate ((get_or ends n (0, 0)).0 + 1 - len) n → AreCounted ends corners (n + 1) grown
  counted_more grown up fits in_range is =
      let count : ℕ = (get_or ends n (0, 0)).0 + 1 in
      let rise = firsts_rise nat_lt ends up in
      let step = resized count grown (omega arith) (h.next n (omega arith) fits) (λ e past less. omega (arith, rise n e (0, 0) past less)) is in
      record {
        are = λ c lt. step.1 c (omega (arith, step.0));
        passed = λ e less. elim (cases_lt e n) [
          | inl old ↦ omega (arith, h.passed e old, h.next n (omega arith) fits, step.0)
          | inr new ↦ (let same : (get_or ends e (0, 0)).0 ≡ (get_or ends n (0, 0)).0 = ap (λ k. (get_or ends k (0, 0)).0) (omega arith) in omega (arith, step.0))
        ];
        next = λ e past less. omega (arith, step.0, rise n e (0, 0) (omega arith) less);
        few = omega (arith, step.0);
      }

  -- all are counted
  pub counted_all : (grown : List ℕ) → n ≡ length ends → grown ≡ take (corners + 1) firsts ++ replicate (corners + 1 - len) n → AreFirsts ends corners grown
  counted_all grown all is =
      let step = resized (corners + 1) grown (omega arith) (omega (arith, h.few)) (λ e past less. absurd (omega arith)) is in
      record { as_many = step.0; are = λ c le. step.1 c (omega arith) }

-- a count that was looked up
pub first_at : (ends : List (ℕ × ℕ)) (corners : ℕ) (firsts : List ℕ) → AreFirsts ends corners firsts → (c n : ℕ) → c ≤ corners → n ≡ get_or firsts c n → IsFirstFrom ends c n
first_at ends corners firsts h c n le is = subst (IsFirstFrom ends c) (sym (is ∙ get_or_default firsts c n 0 (omega (arith, h.as_many)))) (h.are c le)

-- the edges that begin at a corner are those from its first on and before the next corner's
pub beginning_is : (t : Table) (c first past : ℕ) → IsFirstFrom t.ends c first → IsFirstFrom t.ends (c + 1) past → IsBeginning t c first past
beginning_is t c first past here next = record {
  in_order = elim (cases_lt past first) [
    | inl less ↦ absurd (omega (arith, here.before past less, next.from past (omega arith) (omega (arith, here.within))))
    | inr le ↦ le
  ];
  within = next.within;
  exact = λ e fits. (
    λ is. (
      elim (cases_lt e first) [
        | inl less ↦ absurd (omega (arith, here.before e less))
        | inr le ↦ le
      ],
      elim (cases_lt e past) [
        | inl less ↦ less
        | inr le ↦ absurd (omega (arith, next.from e le fits))
      ],
    ),
    λ between. omega (arith, here.from e between.0 fits, next.before e between.1),
  );
}
