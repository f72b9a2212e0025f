-- Going up the list at a point: crossing an edge, what a group covers changes exactly where the edge is kept. So the kept edges at and under an edge are odd in
-- number exactly where the group covers its upper side.
use Rattle.std.proofs.Common.{◌≡◌, ℕ, ◌<◌, Bool, true, false, ◌&&◌, ◌||◌, List, [], ◌∷◌, ◌++◌, length, filter, refl, sym, ◌∙◌, ap, subst, inl, inr, append_assoc, append-nil, arith}
use Rattle.std.specs.Prelude.{nat_lt, ◌==◌}
use Rattle.std.specs.List.{list_any, list_all}
use Rattle.std.proofs.lemmas.Bool.{and_parts, and_from, or_left, or_right, eq-eqb, cases_Bool, cond-true, cond-false}
use Rattle.std.proofs.lemmas.List.Folds.{list_any-append}
use Rattle.loc_spec_plane.specs.Lists.{is_in, is_rising, numbers, exactly_one, odd_many}
use Rattle.loc_spec_plane.specs.Points.{Point}
use Rattle.loc_spec_plane.specs.Tables.{Table, IsTable, AllEnds, AllEven, NoConflict, edge, edge_numbers, lo_of, has_odd}
use Rattle.loc_spec_plane.specs.Places.{IsListAt, alive, alive_at, lower_of}
use Rattle.loc_spec_plane.specs.Covers.{cover_above, feature_count, is_over, is_at_or_under}
use Rattle.loc_spec_groups.specs.Groups.{covers_upper, covers_lower, is_kept}
use Rattle.loc_laws_order.proofs.{AliveAt.alive_between, AliveAt.alive_from, Sides.lower-asym}
use Rattle.loc_laws_order.proofs.Booleans.{and_none, and_true}
use Rattle.loc_laws_rays.proofs.{Along.parity_along, Members.in_cover, Listed.sorted_list_is}
use Rattle.loc_laws_rays.proofs.Parity.{exactly_one_comm, exactly_one_same, exactly_one-false, exactly_one_assoc, exactly_one_chain, odd_many-same, odd_many-append}
use Rattle.loc_laws_dissolve.proofs.Prefixes.{by_members, front_rises, up_to_member, cut_at_member}

-- tests that agree on every member
pub any-same : {X : Type 0} (p q : X → Bool) (xs : List X) → ((x : X) → p x ≡ q x) → list_any p xs ≡ list_any q xs
any-same p q [] same = refl
any-same p q (x ∷ xs) same = ap (λ b. b || list_any p xs) (same x) ∙ ap (λ b. q x || b) (any-same p q xs same)

-- a test that no member passes
pub any-never : {X : Type 0} (xs : List X) → list_any (λ x. false) xs ≡ false
any-never [] = refl
any-never (x ∷ xs) = any-never xs

-- a member of a filtered list that passes is one that passes both
pub any-filtered : {X : Type 0} (p q : X → Bool) (xs : List X) → list_any p (filter q xs) ≡ list_any (λ x. p x && q x) xs
any-filtered p q [] = refl
any-filtered p q (x ∷ xs) = elim (cases_Bool (q x)) [
  | inl keep ↦ ap (list_any p) (cond-true (q x) (x ∷ filter q xs) (filter q xs) keep) ∙ (ap (λ b. p x || b) (any-filtered p q xs) ∙ ap (λ b. b || list_any (λ x. p x && q x) xs) (sym (ap (λ b. p x && b) keep ∙ and_true (p x))))
  | inr leave ↦ ap (list_any p) (cond-false (q x) (x ∷ filter q xs) (filter q xs) leave) ∙ (any-filtered p q xs ∙ ap (λ b. b || list_any (λ x. p x && q x) xs) (sym (ap (λ b. p x && b) leave ∙ and_none (p x))))
]

-- a test that each member passes
pub all_members : (test : ℕ → Bool) (ns : List ℕ) → ((k : ℕ) → is_in k ns ≡ true → test k ≡ true) → list_all test ns ≡ true
all_members test [] each = refl
all_members test (n ∷ ns) each = and_from (test n) (list_all test ns) (each n (or_left (n == n) (is_in n ns) (eq-eqb n n refl))) (all_members test ns (λ k here. each k (or_right (n == k) (is_in k ns) here)))

-- twice the same on the right goes
pub twice_gone : (a b : Bool) → exactly_one (exactly_one a b) b ≡ a
twice_gone a b = exactly_one_assoc a b b ∙ (ap (exactly_one a) (exactly_one_same b) ∙ exactly_one-false a)

module _ (t : Table) (ok : IsTable t) (ended : AllEnds t) (even : AllEven t) (apart : NoConflict t) (member : ℕ → Bool) where
  -- an odd number of the edges in a list have an odd mark of feature f
  abbrev marked : List ℕ → ℕ → Bool
  marked es f = odd_many (has_odd t f) es

  -- so it is for a member: what the group covers above these edges
  abbrev covered : List ℕ → Bool
  covered es = list_any (λ f. member f && marked es f) (numbers (feature_count t))

  covered_none : covered [] ≡ false
  covered_none = any-same (λ f. member f && false) (λ f. false) (numbers (feature_count t)) (λ f. no (member f)) ∙ any-never (numbers (feature_count t))
    where
      no : (b : Bool) → (b && false) ≡ false
      no true = refl
      no false = refl

  asym : (a b : ℕ) → lower_of t a b ≡ true → lower_of t b a ≡ true → ⊥
  asym a b = lower-asym (edge t a) (edge t b)

  module _ (p : Point) (es : List ℕ) (is_list : IsListAt t p es) where
    -- a member of the list is alive at p
    alive_member : (front back : List ℕ) (e : ℕ) → es ≡ front ++ (e ∷ back) → is_in e es ≡ true
    alive_member front back e is = ap (is_in e) is ∙ (list_any-append (λ k. k == e) front (e ∷ back) ∙ or_right (is_in e front) (is_in e (e ∷ back)) (or_left (e == e) (is_in e back) (eq-eqb e e refl)))

    rises : (front back : List ℕ) → es ≡ front ++ back → is_rising (lower_of t) (front ++ back) ≡ true
    rises front back is = subst (λ ds. is_rising (lower_of t) ds ≡ true) is is_list.rising

    -- all are edges
    fits : (front back : List ℕ) → es ≡ front ++ back → list_all (λ k. nat_lt k (length t.ends)) front ≡ true
    fits front back is = all_members (λ k. nat_lt k (length t.ends)) front (λ k here. (and_parts (nat_lt k (length t.ends)) (alive (edge t k) p) (sym (is_list.exact k) ∙ (ap (is_in k) is ∙ (list_any-append (λ m. m == k) front back ∙ or_left (is_in k front) (is_in k back) here)))).0)

    -- of the edges at p, those at or under e are those up to e in the list: the parity of a test on them
    pub up_to_edge : (test : ℕ → Bool) (front back : List ℕ) (e : ℕ) → es ≡ front ++ (e ∷ back) → odd_many (λ d. ((d == e) || (alive_at t p d && lower_of t d e)) && test d) (edge_numbers t) ≡ odd_many test (front ++ (e ∷ []))
    up_to_edge test front back e is =
        let shifted : es ≡ (front ++ (e ∷ [])) ++ back = is ∙ sym (append_assoc front (e ∷ []) back) in
        odd_many-same (λ d. ((d == e) || (alive_at t p d && lower_of t d e)) && test d) (λ d. is_in d (front ++ (e ∷ [])) && test d) (edge_numbers t)
        (λ d. ap (λ b. ((d == e) || (b && lower_of t d e)) && test d) (sym (is_list.exact d) ∙ ap (is_in d) is) ∙ ap (λ b. b && test d) (up_to_member (lower_of t) asym front back e d (rises front (e ∷ back) is)))
        ∙ sym (by_members (lower_of t) asym test (front ++ (e ∷ [])) (length t.ends) (front_rises (lower_of t) asym (front ++ (e ∷ [])) back (rises (front ++ (e ∷ [])) back shifted)) (fits (front ++ (e ∷ [])) back shifted))

    -- the odd marks at or under e are those of the list up to e
    over_is : (front back : List ℕ) (e f : ℕ) → es ≡ front ++ (e ∷ back) → is_over t e f ≡ marked (front ++ (e ∷ [])) f
    over_is front back e f is = sym (parity_along t ok ended even apart p e f (sym (is_list.exact e) ∙ alive_member front back e is)) ∙ up_to_edge (has_odd t f) front back e is

    one_more : (front : List ℕ) (e f : ℕ) → marked (front ++ (e ∷ [])) f ≡ exactly_one (marked front f) (has_odd t f e)
    one_more front e f = odd_many-append (has_odd t f) front (e ∷ []) ∙ ap (exactly_one (marked front f)) (exactly_one-false (has_odd t f e))

    -- above e the group covers what it covers above the list up to e
    pub upper_is : (front back : List ℕ) (e : ℕ) → es ≡ front ++ (e ∷ back) → covers_upper t member e ≡ covered (front ++ (e ∷ []))
    upper_is front back e is = any-filtered member (is_over t e) (numbers (feature_count t)) ∙ any-same (λ f. member f && is_over t e f) (λ f. member f && marked (front ++ (e ∷ [])) f) (numbers (feature_count t)) (λ f. ap (λ b. member f && b) (over_is front back e f is))

    -- below e what it covers above the list in front of e
    pub lower_is : (front back : List ℕ) (e : ℕ) → es ≡ front ++ (e ∷ back) → covers_lower t member e ≡ covered front
    lower_is front back e is = any-same (λ f. member f && exactly_one (is_in f (cover_above t e)) (has_odd t f e)) (λ f. member f && marked front f) (numbers (feature_count t))
        (λ f. ap (λ b. member f && b) (ap (λ b. exactly_one b (has_odd t f e)) (in_cover t e f ∙ (over_is front back e f is ∙ one_more front e f)) ∙ twice_gone (marked front f) (has_odd t f e)))

    -- crossing e the covering changes exactly where e is kept
    pub kept_is : (front back : List ℕ) (e : ℕ) → es ≡ front ++ (e ∷ back) → is_kept t member e ≡ exactly_one (covered front) (covered (front ++ (e ∷ [])))
    kept_is front back e is =
        (ap (λ b. exactly_one b (covers_lower t member e)) (upper_is front back e is) ∙ ap (exactly_one (covered (front ++ (e ∷ [])))) (lower_is front back e is))
        ∙ exactly_one_comm (covered (front ++ (e ∷ []))) (covered front)

    -- crossing several, exactly where an odd number of them are kept
    crossing : (front middle back : List ℕ) → es ≡ (front ++ middle) ++ back → odd_many (is_kept t member) middle ≡ exactly_one (covered front) (covered (front ++ middle))
    crossing front [] back is = sym (ap (λ ds. exactly_one (covered front) (covered ds)) (append-nil front) ∙ exactly_one_same (covered front))
    crossing front (e ∷ middle) back is =
        let here : es ≡ front ++ (e ∷ (middle ++ back)) = is ∙ append_assoc front (e ∷ middle) back in
        let next : (front ++ (e ∷ [])) ++ middle ≡ front ++ (e ∷ middle) = append_assoc front (e ∷ []) middle in
        (ap (λ b. exactly_one b (odd_many (is_kept t member) middle)) (kept_is front (middle ++ back) e here)
        ∙ ap (exactly_one (exactly_one (covered front) (covered (front ++ (e ∷ []))))) (crossing (front ++ (e ∷ [])) middle back (is ∙ ap (λ ds. ds ++ back) (sym next))))
        ∙ (exactly_one_chain (covered front) (covered (front ++ (e ∷ []))) (covered ((front ++ (e ∷ [])) ++ middle))
        ∙ ap (λ ds. exactly_one (covered front) (covered ds)) next)

    -- from the bottom up
    pub kept_from_bottom : (front back : List ℕ) → es ≡ front ++ back → odd_many (is_kept t member) front ≡ covered front
    kept_from_bottom front back is = crossing [] front back is ∙ ap (λ b. exactly_one b (covered front)) covered_none

    -- the kept edges at or under an edge of the list are odd in number exactly where the group covers its upper side
    pub kept_under_at : (e : ℕ) → is_in e es ≡ true → odd_many (λ d. ((d == e) || (alive_at t p d && lower_of t d e)) && is_kept t member d) (edge_numbers t) ≡ covers_upper t member e
    kept_under_at e here =
        let cut = cut_at_member e es here in
        up_to_edge (is_kept t member) cut.front cut.back e cut.is
        ∙ (kept_from_bottom (cut.front ++ (e ∷ [])) cut.back (cut.is ∙ sym (append_assoc cut.front (e ∷ []) cut.back)) ∙ sym (upper_is cut.front cut.back e cut.is))

    -- all edges at p
    pub kept_at : odd_many (λ d. alive_at t p d && is_kept t member d) (edge_numbers t) ≡ covered es
    kept_at =
        odd_many-same (λ d. alive_at t p d && is_kept t member d) (λ d. is_in d es && is_kept t member d) (edge_numbers t) (λ d. ap (λ b. b && is_kept t member d) (sym (is_list.exact d)))
        ∙ (sym (by_members (lower_of t) asym (is_kept t member) es (length t.ends) is_list.rising (fits es [] (sym (append-nil es))))
        ∙ kept_from_bottom es [] (sym (append-nil es)))

    -- their odd marks
    pub marked_at : (f : ℕ) → odd_many (λ d. alive_at t p d && has_odd t f d) (edge_numbers t) ≡ marked es f
    marked_at f =
        odd_many-same (λ d. alive_at t p d && has_odd t f d) (λ d. is_in d es && has_odd t f d) (edge_numbers t) (λ d. ap (λ b. b && has_odd t f d) (sym (is_list.exact d)))
        ∙ sym (by_members (lower_of t) asym (has_odd t f) es (length t.ends) is_list.rising (fits es [] (sym (append-nil es))))

  -- the kept edges at or under an edge are odd in number exactly where the group covers its upper side
  pub kept_under : (e : ℕ) → e < length t.ends → odd_many (λ d. is_at_or_under t e d && is_kept t member d) (edge_numbers t) ≡ covers_upper t member e
  kept_under e lt =
      let is_list = sorted_list_is t ok apart (edge t e).lo in
      let up = ok.goes_up e lt in
      kept_under_at (edge t e).lo _ is_list e (is_list.exact e ∙ alive_from t (edge t e).lo e lt (alive_between t ok (lo_of t e) e lt (omega arith) up.0))
