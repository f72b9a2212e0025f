-- What the line of a sweep holds while the edges that begin at a corner come to it.
use Rattle.std.proofs.Common.{◌≡◌, ℕ, ◌+◌, ◌-◌, ◌<◌, ◌≤◌, Bool, true, false, not, ◌&&◌, ◌||◌, List, length, get_or, refl, sym, ◌∙◌, ap, subst, ◌⊎◌, inl, inr, arith}
use Rattle.std.specs.Prelude.{nat_lt, ◌==◌}
use Rattle.std.proofs.lemmas.Bool.{and_from, and_parts, and_left, and_right, or_from, both_ways, cases_lt, cases_order, eq-eqb, ne_eqb, false_from_ne_true, le-ltb, lt-ltb, ltb-true, not_from_false, not-true}
use Rattle.std.proofs.lemmas.List.Elements.{All-get_or}
use Rattle.std.proofs.lemmas.Option.{slice_get_within, get_or_from_slice_get}
use Rattle.loc_spec_plane.specs.{Points.touch, Lists.is_in, Places.alive_at, Places.is_edge}
use Rattle.loc_spec_plane.specs.Tables.{Table, IsTable, corner, edge, lo_of, hi_of}
use Rattle.loc_laws_order.proofs.{Booleans.or_none, TableOrder.edge_up, TableOrder.different, TableOrder.lo_rises}
use Rattle.loc_edges.specs.Ending.{IsBeginning}
use Rattle.loc_edges.proofs.Hits.{hits-touch}
use Rattle.loc_status.specs.{Lists.is_chain_at, declared.status.InsertFault.InsertFault}
use Rattle.loc_status.specs.Meaning.{StatusMeaning, KeepsSealed, Inserts, IsCause}
use Rattle.loc_status.specs.declared.status.InsertFault.TheVariants.{Hits}
use Rattle.loc_status.proofs.{Ends.member_place, Standing.chain_in_range}
use Rattle.loc_sweep.specs.Course.{Comes}
use Rattle.loc_sweep.specs.Line.{IsBegun, IsChainOf, IsWith, goes_past, reaches}
use Rattle.loc_sweep.proofs.{Chains.inserted_length, Whole.reaches_next}

-- ---- one edge
-- an edge that a new one hits is one of the table, and the two touch
pub hit_touches : (r t : Table) → r ≡ t → IsTable t → (e : ℕ) → e < length t.ends → (es : List ℕ) → is_chain_at t (lo_of t e) es ≡ true → not (is_in e es) ≡ true
    → (fault : InsertFault) (hit : ℕ) → fault ≡ Hits hit → IsCause r e es fault → (hit < length t.ends) × (touch (edge t hit) (edge t e) ≡ true)
hit_touches r t same ok e fits es chain is_new fault hit is cause =
    let hits = subst (λ f. IsCause t e es f) is (subst (λ t. IsCause t e es fault) same cause) in
    let place = member_place es hit hits.0 in
    let found : get_or es place.0 0 ≡ hit = get_or_from_slice_get es place.0 hit 0 place.1 in
    let in_range : hit < length t.ends = subst (λ a. a < length t.ends) found (All-get_or (λ a. a < length t.ends) es place.0 0 (slice_get_within es place.0 hit place.1) (chain_in_range t (corner t (lo_of t e)) es chain)) in (
      in_range,
      hits-touch (edge t hit) (edge t e) (edge_up t ok hit in_range) (edge_up t ok e fits)
          (different t ok hit e in_range fits (λ it. both_ways (is_in e es) (not-true (is_in e es) is_new) (subst (λ k. is_in k es ≡ true) it hits.0))) hits.1,
    )

-- ---- one edge after another
-- the edges that go past corner c, and those from the first on and before number k
pub record IsComing (t : Table) (c first k : ℕ) (old new : StatusMeaning) : Type 0 where
  pub chain : is_chain_at t c new.list ≡ true
  pub exact : (n : ℕ) → is_in n new.list ≡ (goes_past t c n || (not (nat_lt n first) && nat_lt n k))
  pub kept : KeepsSealed old new
  pub removed : new.removed ≡ old.removed
  pub inserted : new.inserted ≡ old.inserted + (k - first)
  pub balance : new.inserted + length old.list ≡ old.inserted + length new.list
  pub in_range : new.past_greatest ≤ length t.ends

-- none has come yet
pub none_came : (t : Table) (c first : ℕ) (m : StatusMeaning) → IsChainOf t c (goes_past t c) m.list → m.past_greatest ≤ length t.ends → IsComing t c first first m m
none_came t c first m line in_range = record {
  chain = line.chain;
  exact = λ n. line.exact n ∙ alone (goes_past t c n) (nat_lt n first);
  kept = record { sealed_lists = refl; sealed = refl };
  removed = refl;
  inserted = omega arith;
  balance = refl;
  in_range = in_range;
}
  where
    alone : (x y : Bool) → x ≡ (x || (not y && y))
    alone true y = refl
    alone false true = refl
    alone false false = refl

module _ (t : Table) (ok : IsTable t) (c first past : ℕ) (beginning : IsBeginning t c first past) where
  -- an edge between the two numbers begins there
  pub begins_here : (e : ℕ) → first ≤ e → e < past → (e < length t.ends) × (lo_of t e ≡ c)
  begins_here e from to = let fits : e < length t.ends = omega (arith, beginning.within) in (fits, (beginning.exact e fits).1 (from, to))

  -- it is not in the list before its turn
  pub not_yet : (e : ℕ) (old mid : StatusMeaning) → first ≤ e → e < past → IsComing t c first e old mid → not (is_in e mid.list) ≡ true
  not_yet e old mid from to coming =
      let here = begins_here e from to in
      not_from_false (is_in e mid.list) (coming.exact e ∙ or_from (goes_past t c e) (not (nat_lt e first) && nat_lt e e)
      (and_right (is_edge t e) (nat_lt (lo_of t e) c && nat_lt c (hi_of t e)) (and_left (nat_lt (lo_of t e) c) (nat_lt c (hi_of t e)) (le-ltb (lo_of t e) c (omega (arith, here.1)))))
      (and_right (not (nat_lt e first)) (nat_lt e e) (le-ltb e e (omega arith))))

  -- then it is
  pub one_came : (e : ℕ) (old mid new : StatusMeaning) → first ≤ e → e < past → IsComing t c first e old mid
      → Inserts t e mid new → is_chain_at t (lo_of t e) new.list ≡ true → IsWith e mid.list new.list → IsComing t c first (e + 1) old new
  one_came e old mid new from to coming inserts chain with_it =
      let here = begins_here e from to in
      record {
        chain = subst (λ b. is_chain_at t b new.list ≡ true) here.1 chain;
        exact = λ n. with_it n ∙ (ap (λ b. b || (n == e)) (coming.exact n) ∙ one_more (goes_past t c n) (nat_lt n first) (nat_lt n e) (n == e) (nat_lt n (e + 1)) (number n));
        kept = record { sealed_lists = inserts.kept.sealed_lists ∙ coming.kept.sealed_lists; sealed = inserts.kept.sealed ∙ coming.kept.sealed };
        removed = inserts.removed ∙ coming.removed;
        inserted = omega (arith, inserts.inserted, coming.inserted);
        balance = (let longer = inserted_length t e mid.list new.list inserts.list in omega (arith, inserts.inserted, coming.balance, longer));
        in_range = omega (arith, inserts.past_greatest, coming.in_range, here.0);
      }
    where
      -- the number is below the first, below e and not below the first, e, or above it
      number : (n : ℕ) → ((nat_lt n first ≡ true) × (nat_lt n e ≡ true) × (n == e ≡ false) × (nat_lt n (e + 1) ≡ true))
          ⊎ (((nat_lt n first ≡ false) × (nat_lt n e ≡ true) × (n == e ≡ false) × (nat_lt n (e + 1) ≡ true))
          ⊎ (((nat_lt n first ≡ false) × (nat_lt n e ≡ false) × (n == e ≡ true) × (nat_lt n (e + 1) ≡ true))
          ⊎ ((nat_lt n first ≡ false) × (nat_lt n e ≡ false) × (n == e ≡ false) × (nat_lt n (e + 1) ≡ false))))
      number n = elim (cases_order n e) [
        | inl same ↦ inr (inr (inl (le-ltb n first (omega arith), le-ltb n e (omega arith), eq-eqb n e same, lt-ltb n (e + 1) (omega arith))))
        | inr differ ↦ elim differ [
          | inl less ↦ elim (cases_lt n first) [
            | inl before ↦ inl (lt-ltb n first before, lt-ltb n e less, ne_eqb n e (λ same. omega arith), lt-ltb n (e + 1) (omega arith))
            | inr behind ↦ inr (inl (le-ltb n first behind, lt-ltb n e less, ne_eqb n e (λ same. omega arith), lt-ltb n (e + 1) (omega arith)))
          ]
          | inr more ↦ inr (inr (inr (le-ltb n first (omega arith), le-ltb n e (omega arith), ne_eqb n e (λ same. omega arith), le-ltb n (e + 1) (omega arith))))
        ]
      ]

      one_more : (g f b s a : Bool) → ((f ≡ true) × (b ≡ true) × (s ≡ false) × (a ≡ true))
          ⊎ (((f ≡ false) × (b ≡ true) × (s ≡ false) × (a ≡ true)) ⊎ (((f ≡ false) × (b ≡ false) × (s ≡ true) × (a ≡ true)) ⊎ ((f ≡ false) × (b ≡ false) × (s ≡ false) × (a ≡ false))))
          → ((g || (not f && b)) || s) ≡ (g || (not f && a))
      one_more true f b s a case = refl
      one_more false f b s a (inl (e1, e2, e3, e4)) = rw (e1, e3) refl
      one_more false f b s a (inr (inl (e1, e2, e3, e4))) = rw (e1, e2, e4) refl
      one_more false f b s a (inr (inr (inl (e1, e2, e3, e4)))) = rw (e1, e2, e3, e4) refl
      one_more false f b s a (inr (inr (inr (e1, e2, e3, e4)))) = rw (e1, e2, e3, e4) refl

  -- ---- all of them
  -- where some edge begins there, the first is the number of those begun before
  first_is : (k : ℕ) → IsBegun t c k → first < past → first ≡ k
  first_is k begun some =
      let here = begins_here first (omega arith) some in
      elim (cases_order first k) [
        | inl same ↦ same
        | inr differ ↦ elim differ [
          | inl less ↦ (let under : lo_of t first < c = (begun.exact first here.0).1 less in absurd (omega (arith, here.1)))
          | inr more ↦ (let fits : k < length t.ends = omega (arith, here.0) in
              let rise : lo_of t k ≤ lo_of t first = lo_rises t ok k first more here.0 in
              let not_under : c ≤ lo_of t k = elim (cases_lt (lo_of t k) c) [ inl low ↦ (let below : k < k = (begun.exact k fits).0 low in absurd (omega arith)) | inr high ↦ high ] in
              let at : lo_of t k ≡ c = omega (arith, here.1) in
              let inside = (beginning.exact k fits).0 at in
              absurd (omega (arith, inside.0)))
        ]
      ]

  -- those begun behind the corner
  begun_more : (k : ℕ) → IsBegun t c k → IsBegun t (c + 1) (k + (past - first))
  begun_more k begun = record {
    within = elim (cases_lt first past) [
      | inl some ↦ (let at = first_is k begun some in omega (arith, beginning.within))
      | inr none ↦ omega (arith, begun.within)
    ];
    exact = λ n fits. (
      λ under. elim (cases_lt (lo_of t n) c) [
        | inl low ↦ (let below : n < k = (begun.exact n fits).0 low in omega arith)
        | inr high ↦ (let inside = (beginning.exact n fits).0 (omega arith) in
            let at = first_is k begun (omega (arith, inside.0, inside.1)) in omega (arith, inside.1))
      ],
      λ below. elim (cases_lt n k) [
        | inl less ↦ (let low : lo_of t n < c = (begun.exact n fits).1 less in omega arith)
        | inr more ↦ (let at = first_is k begun (omega arith) in
            let here : lo_of t n ≡ c = (beginning.exact n fits).1 (omega arith, omega arith) in omega arith)
      ],
    );
  }

  between : (n : ℕ) → (first ≤ n) × (n < past) → (not (nat_lt n first) && nat_lt n past) ≡ true
  between n inside = and_from (not (nat_lt n first)) (nat_lt n past) (not_from_false (nat_lt n first) (le-ltb n first inside.0)) (lt-ltb n past inside.1)

  outside : (n : ℕ) → n < length t.ends → (lo_of t n ≡ c → ⊥) → (not (nat_lt n first) && nat_lt n past) ≡ false
  outside n fits other = false_from_ne_true (not (nat_lt n first) && nat_lt n past) (λ inside.
      (let parts = and_parts (not (nat_lt n first)) (nat_lt n past) inside in
      other ((beginning.exact n fits).1 (elim (cases_lt n first) [ inl before ↦ absurd (both_ways (nat_lt n first) (not-true (nat_lt n first) parts.0) (lt-ltb n first before)) | inr behind ↦ behind ], ltb-true n past parts.1))))

  begins : (e l h b m g : Bool) → e ≡ true → l ≡ false → b ≡ true → m ≡ true → g ≡ false → ((e && (l && h)) || b) ≡ (e && (m && not g))
  begins e l h b m g e_is l_is b_is m_is g_is = rw (e_is, l_is, b_is, m_is, g_is) refl

  passes : (e l h b m g : Bool) → e ≡ true → l ≡ true → b ≡ false → m ≡ true → h ≡ not g → ((e && (l && h)) || b) ≡ (e && (m && not g))
  passes e l h b m g e_is l_is b_is m_is h_is = rw (e_is, l_is, b_is, m_is, h_is) (or_none (not g))

  later : (e l h b m g : Bool) → e ≡ true → l ≡ false → b ≡ false → m ≡ false → ((e && (l && h)) || b) ≡ (e && (m && not g))
  later e l h b m g e_is l_is b_is m_is = rw (e_is, l_is, b_is, m_is) refl

  -- an edge goes past the corner or begins there exactly where it is alive there
  alive_is : c < length t.corners → (n : ℕ) → (goes_past t c n || (not (nat_lt n first) && nat_lt n past)) ≡ alive_at t (corner t c) n
  alive_is within n = elim (cases_lt n (length t.ends)) [
    | inr out ↦ or_from (goes_past t c n) (not (nat_lt n first) && nat_lt n past)
        (and_left (is_edge t n) (nat_lt (lo_of t n) c && nat_lt c (hi_of t n)) (le-ltb n (length t.ends) out))
        (and_right (not (nat_lt n first)) (nat_lt n past) (le-ltb n past (omega (arith, beginning.within))))
        ∙ sym (reaches_next t ok c within n ∙ and_left (is_edge t n) (nat_lt (lo_of t n) (c + 1) && not (nat_lt (hi_of t n) (c + 1))) (le-ltb n (length t.ends) out))
    | inl fits ↦ inside n fits ∙ sym (reaches_next t ok c within n)
  ]
    where
      inside : (n : ℕ) → n < length t.ends → (goes_past t c n || (not (nat_lt n first) && nat_lt n past)) ≡ reaches t (c + 1) n
      inside n fits = elim (cases_order (lo_of t n) c) [
        | inl same ↦ begins (is_edge t n) (nat_lt (lo_of t n) c) (nat_lt c (hi_of t n)) (not (nat_lt n first) && nat_lt n past) (nat_lt (lo_of t n) (c + 1)) (nat_lt (hi_of t n) (c + 1))
            (lt-ltb n (length t.ends) fits) (le-ltb (lo_of t n) c (omega arith)) (between n ((beginning.exact n fits).0 same)) (lt-ltb (lo_of t n) (c + 1) (omega arith))
            (le-ltb (hi_of t n) (c + 1) (let up = (ok.goes_up n fits).0 in omega arith))
        | inr differ ↦ elim differ [
          | inl less ↦ passes (is_edge t n) (nat_lt (lo_of t n) c) (nat_lt c (hi_of t n)) (not (nat_lt n first) && nat_lt n past) (nat_lt (lo_of t n) (c + 1)) (nat_lt (hi_of t n) (c + 1))
              (lt-ltb n (length t.ends) fits) (lt-ltb (lo_of t n) c less) (outside n fits (λ same. omega arith)) (lt-ltb (lo_of t n) (c + 1) (omega arith))
              (elim (cases_lt c (hi_of t n)) [
                | inl over ↦ lt-ltb c (hi_of t n) over ∙ sym (not_from_false (nat_lt (hi_of t n) (c + 1)) (le-ltb (hi_of t n) (c + 1) (omega arith)))
                | inr under ↦ le-ltb c (hi_of t n) under ∙ sym (ap not (lt-ltb (hi_of t n) (c + 1) (omega arith)))
              ])
          | inr more ↦ later (is_edge t n) (nat_lt (lo_of t n) c) (nat_lt c (hi_of t n)) (not (nat_lt n first) && nat_lt n past) (nat_lt (lo_of t n) (c + 1)) (nat_lt (hi_of t n) (c + 1))
              (lt-ltb n (length t.ends) fits) (le-ltb (lo_of t n) c (omega arith)) (outside n fits (λ same. omega arith)) (le-ltb (lo_of t n) (c + 1) (omega arith))
        ]
      ]

  -- then all have come
  pub all_came : (old new : StatusMeaning) → c < length t.corners → IsBegun t c old.inserted → IsComing t c first past old new → Comes t c old new
  all_came old new within begun coming = record {
    list = record { chain = coming.chain; exact = λ n. coming.exact n ∙ alive_is within n };
    kept = coming.kept;
    begun = subst (λ k. IsBegun t (c + 1) k) (sym coming.inserted) (begun_more old.inserted begun);
    balance = coming.balance;
    removed = coming.removed;
    in_range = coming.in_range;
  }
