-- The features of marks, gathered edge after edge.
use Rattle.std.proofs.Common.{◌≡◌, ℕ, zero, suc, ◌+◌, ◌-◌, ◌<◌, ◌≤◌, ◌≢◌, Bool, true, false, ◌&&◌, ◌||◌, List, [], ◌∷◌, ◌++◌, length, get_or, map, filter, refl, sym, ◌∙◌, ap, subst, inl, inr, arith, Less, Equal, Greater}
use Rattle.std.specs.Prelude.{nat_lt, ◌==◌}
use Rattle.std.specs.{List.list_all, List.list_any, List.range_with_len, Cmp.nat_cmp_is}
use Rattle.std.specs.Ordering.{MatchOrdering, nat_cmp}
use Rattle.std.proofs.lemmas.Bool.{and_parts, and_from, and_right, or_cases, cases_Bool, cases_eq, cases_order, cond-false, cond-true, true≢false, eq-eqb, eqb-true, lt-ltb, ltb-true}
use Rattle.std.proofs.{lemmas.Cmp.nat_cmp_total, Math.Seq.get_or-append_seam}
use Rattle.std.proofs.lemmas.List.{get_or_append_left, length-append}
use Rattle.std.proofs.lemmas.List.Folds.{list_all-map, list_any-append, list_any_at}
use Rattle.loc_spec_plane.specs.declared.Mark.{Mark}
use Rattle.loc_spec_plane.specs.Lists.{is_in, is_rising, numbers, IsRisingListOf}
use Rattle.loc_spec_plane.specs.Tables.{Table, ends_at, edge_numbers, has, hi_of, lo_of, mark_before}
use Rattle.loc_laws_order.proofs.{Booleans.or_none, Booleans.same-from_both, TableOrder.numbers_within, Unique.all-at}
use Rattle.loc_laws_rays.proofs.{Covering.any-found, Members.in_range, Members.is_in-filter}
use Rattle.loc_edges.specs.Ending.{IsBeginning}
use Rattle.loc_edges.proofs.SortedSet.{IsOrderBy}
use Rattle.loc_cover.proofs.Lexicographic.{any_map}

-- ---- numbers in their order
numbers_ranked : (x y : ℕ) → MatchOrdering (nat_cmp x y) (nat_lt x y ≡ true) (x ≡ y) (nat_lt y x ≡ true)
numbers_ranked x y = elim (cases_order x y) [
  | inl same ↦ subst (λ r. MatchOrdering r (nat_lt x y ≡ true) (x ≡ y) (nat_lt y x ≡ true)) (nat_cmp_is x y Equal same) same
  | inr differ ↦ elim differ [
    | inl lt ↦ subst (λ r. MatchOrdering r (nat_lt x y ≡ true) (x ≡ y) (nat_lt y x ≡ true)) (nat_cmp_is x y Less lt) (lt-ltb x y lt)
    | inr gt ↦ subst (λ r. MatchOrdering r (nat_lt x y ≡ true) (x ≡ y) (nat_lt y x ≡ true)) (nat_cmp_is x y Greater gt) (lt-ltb y x gt)
  ]
]

-- numbers are sorted by `nat_lt`
pub numbers_by_less : IsOrderBy nat_cmp nat_lt
numbers_by_less = record { total = nat_cmp_total; ranked = numbers_ranked; asym = λ x y h k. (let lt : x < y = ltb-true x y h in let gt : y < x = ltb-true y x k in omega arith) }

-- ---- the features of marks
-- a member of the features of marks is one of a mark
pub in_features : (f : ℕ) (marks : List Mark) → is_in f (map (λ (m : Mark). m.feature) marks) ≡ list_any (λ (m : Mark). m.feature == f) marks
in_features f marks = any_map (λ m. m == f) (λ (m : Mark). m.feature) marks

features_rise : (marks : List Mark) → is_rising mark_before marks ≡ true → is_rising nat_lt (map (λ (m : Mark). m.feature) marks) ≡ true
features_rise [] h = refl
features_rise (m ∷ marks) h = let parts = and_parts (list_all (mark_before m) marks) (is_rising mark_before marks) h in and_from _ _ (list_all-map (nat_lt m.feature) (λ (n : Mark). n.feature) marks ∙ parts.0) (features_rise marks parts.1)

-- the features of marks in order
pub are_features : (marks : List Mark) → is_rising mark_before marks ≡ true → IsRisingListOf nat_lt (λ f. list_any (λ (m : Mark). m.feature == f) marks) (map (λ (m : Mark). m.feature) marks)
are_features marks up = record { rising = features_rise marks up; exact = λ f. in_features f marks }

-- ---- gathered
-- the row has gained the features that have one of these edges
abbrev pub Gathers : Table → List ℕ → List ℕ → List ℕ → Type 0
Gathers t old row es = (f : ℕ) → is_in f row ≡ (is_in f old || list_any (has t f) es)

or_more : (a b c : Bool) → ((a || b) || c) ≡ (a || (b || (c || false)))
or_more true b c = refl
or_more false true c = refl
or_more false false c = sym (or_none c)

-- one more edge
pub gathers_more : (t : Table) (old row next es : List ℕ) (e : ℕ) → Gathers t old row es → next ≡ row ++ map (λ (m : Mark). m.feature) (get_or t.marks e []) → Gathers t old next (es ++ e ∷ [])
gathers_more t old row next es e before is f =
    ap (is_in f) is ∙ (list_any-append (λ m. m == f) row (map (λ (m : Mark). m.feature) (get_or t.marks e []))
    ∙ (ap (λ b. b || is_in f (map (λ (m : Mark). m.feature) (get_or t.marks e []))) (before f) ∙ (ap (λ b. (is_in f old || list_any (has t f) es) || b) (in_features f (get_or t.marks e []))
    ∙ (or_more (is_in f old) (list_any (has t f) es) (has t f e) ∙ ap (λ b. is_in f old || b) (sym (list_any-append (has t f) es (e ∷ []))))))
    )

-- ---- the edges of a corner
-- a number of a range that passes a test
found_in : (p : ℕ → Bool) (a n : ℕ) → list_any p (range_with_len a n) ≡ true → (k : ℕ) × (a ≤ k) × (k < a + n) × (p k ≡ true)
found_in p a zero h = absurd (true≢false (sym h))
found_in p a (suc n) h = elim (or_cases (p a) (list_any p (range_with_len (a + 1) n)) h) [
  | inl here ↦ (a, omega arith, omega arith, here)
  | inr later ↦ (let found = found_in p (a + 1) n later in (found.0, omega (arith, found.1), omega (arith, found.2), found.3))
]

pub some_in : (p : ℕ → Bool) (a n : ℕ) → list_any p (range_with_len a n) ≡ true → (k : ℕ) × (k < a + n) × (p k ≡ true)
some_in p a n h = let found = found_in p a n h in (found.0, found.2, found.3)

-- and the test is passed in the range where such a number passes it
pub any_range : (p : ℕ → Bool) (a n k : ℕ) → a ≤ k → k < a + n → p k ≡ true → list_any p (range_with_len a n) ≡ true
any_range p a n k from lt h = any-found p (range_with_len a n) k (in_range k n a from lt) h

-- the edges that begin at a corner are a range
pub begun : (t : Table) (c first past f : ℕ) → IsBeginning t c first past → list_any (has t f) (range_with_len first (past - first)) ≡ list_any (λ e. (lo_of t e == c) && has t f e) (edge_numbers t)
begun t c first past f range = same-from_both _ _
    (λ h. (let found = found_in (has t f) first (past - first) h in
    let lt : found.0 < past = omega (arith, found.2, range.in_order) in
    any_range (λ e. (lo_of t e == c) && has t f e) 0 (length t.ends) found.0 (omega arith) (omega (arith, lt, range.within))
    (and_from _ _ (eq-eqb (lo_of t found.0) c ((range.exact found.0 (omega (arith, lt, range.within))).1 (found.1, lt))) found.3)))
    (λ h. (let found = found_in (λ e. (lo_of t e == c) && has t f e) 0 (length t.ends) h in
    let parts = and_parts (lo_of t found.0 == c) (has t f found.0) found.3 in
    let within = (range.exact found.0 (omega (arith, found.2))).0 (eqb-true (lo_of t found.0) c parts.0) in
    any_range (has t f) first (past - first) found.0 within.0 (omega (arith, within.0, within.1)) parts.1))

-- of the members that pass a guard some pass a test
pub any-filter : (p g : ℕ → Bool) (ns : List ℕ) → list_any p (filter g ns) ≡ list_any (λ n. g n && p n) ns
any-filter p g [] = refl
any-filter p g (n ∷ ns) = elim (cases_Bool (g n)) [
  | inl kept ↦ ap (list_any p) (cond-true (g n) (n ∷ filter g ns) (filter g ns) kept) ∙ (ap (λ b. p n || b) (any-filter p g ns) ∙ ap (λ b. (b && p n) || list_any (λ n. g n && p n) ns) (sym kept))
  | inr left ↦ ap (list_any p) (cond-false (g n) (n ∷ filter g ns) (filter g ns) left) ∙ (any-filter p g ns ∙ ap (λ b. (b && p n) || list_any (λ n. g n && p n) ns) (sym left))
]

-- either end
either_end : (a b h x y : Bool) → (((a && h) || x) || ((b && h) || y)) ≡ (((a || b) && h) || (x || y))
either_end true b true x y = refl
either_end true b false x y = ap (λ v. x || (v || y)) (and_right b false refl)
either_end false true true true y = refl
either_end false true true false y = refl
either_end false true false x y = refl
either_end false false h x y = refl

-- what has an edge that begins or an edge that ends at a corner has one that has an end there
pub either_at : (t : Table) (c f : ℕ) (es : List ℕ) → (list_any (λ e. (lo_of t e == c) && has t f e) es || list_any (λ e. (hi_of t e == c) && has t f e) es) ≡ list_any (λ e. ends_at t c e && has t f e) es
either_at t c f [] = refl
either_at t c f (e ∷ es) = either_end (lo_of t e == c) (hi_of t e == c) (has t f e) (list_any (λ e. (lo_of t e == c) && has t f e) es) (list_any (λ e. (hi_of t e == c) && has t f e) es) ∙ ap (λ b. (ends_at t c e && has t f e) || b) (either_at t c f es)

-- a number in a list of some of the numbers below n is below n
pub below_count : (g : ℕ → Bool) (n i : ℕ) → i < length (filter g (numbers n)) → get_or (filter g (numbers n)) i 0 < n
below_count g n i fits =
    let here : is_in (get_or (filter g (numbers n)) i 0) (filter g (numbers n)) ≡ true = list_any_at (λ m. m == get_or (filter g (numbers n)) i 0) (filter g (numbers n)) i 0 fits (eq-eqb _ _ refl) in
    ltb-true _ n (all-at (λ k. nat_lt k n) (numbers n) _ (numbers_within n) (and_parts _ _ (sym (is_in-filter g (get_or (filter g (numbers n)) i 0) (numbers n)) ∙ here)).0)

-- ---- row after row
-- one more row, where each row before is as it should be
pub row_more : (P : ℕ → List ℕ → Type 0) (rows next : List (List ℕ)) (row : List ℕ) (n : ℕ) → length rows ≡ n → ((k : ℕ) → k < n → P k (get_or rows k [])) → P n row → next ≡ rows ++ row ∷ [] → (length next ≡ n + 1) × ((k : ℕ) → k < n + 1 → P k (get_or next k []))
row_more P rows next row n size each here is = (
  ap length is ∙ (length-append rows (row ∷ []) ∙ ap (λ k. k + 1) size),
  λ k lt. elim (cases_eq k n) [
    | inl last ↦ subst (λ xs. P k xs) (sym (ap (λ xs. get_or xs k []) is ∙ (ap (λ j. get_or (rows ++ row ∷ []) j []) (last ∙ sym size) ∙ get_or-append_seam rows row [] []))) (subst (λ j. P j row) (sym last) here)
    | inr other ↦ (let ne : k ≢ n = other in let fits : k < length rows = omega (arith, size) in subst (λ xs. P k xs) (sym (ap (λ xs. get_or xs k []) is ∙ get_or_append_left rows (row ∷ []) [] k fits)) (each k (omega (arith, ne))))
  ],
)
