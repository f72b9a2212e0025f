-- The steps of a search: a walk has at most as many as the nodes of the longest path, and in a true index that is few.
use Rattle.std.proofs.Common.{◌≡◌, ◌≢◌, ℕ, zero, suc, ◌+◌, ◌-◌, ◌*◌, ◌^◌, ◌<◌, ◌≤◌, Bool, true, false, List, [], ◌∷◌, length, max, refl, sym, ap, subst, arith, ◌⊎◌, inl, inr}
use Rattle.std.specs.Prelude.{nat_le, if◌then◌else◌}
use Rattle.std.specs.List.{list_all, range_with_len}
use Rattle.std.proofs.{Math.Pow.pow_mono, lemmas.Nat.mul-le}
use Rattle.std.proofs.lemmas.Bool.{and_from, and_parts, not-true, ltb-false, cases_lt, le-leb, leb-true}
use Rattle.loc_spec_plane.specs.Tables.{Table}
use Rattle.loc_spec_index.specs.{declared.NodeRow.NodeRow, Content.Content, Content.root_of}
use Rattle.loc_spec_index.specs.Nodes.{Side, Left, Right, child, child_of, row_of, led_to, IsShallow}
use Rattle.loc_place.specs.Steps.{version_bound, most_steps}
use Rattle.loc_place.proofs.SearchBounds.{both_within, within_most}
use Rattle.loc_file.specs.Depths.{depth_from, is_level, most_of}

module _ (rows : List NodeRow) (version : ℕ) where
  -- one node down is one node less
  pub depth-child : (room at : ℕ) (side : Side) (row : NodeRow) → (at ≡ 0 → ⊥) → 1 ≤ room → row ≡ row_of rows at → depth_from rows version (room - 1) (child row side version) + 1 ≤ depth_from rows version room at
  unfolding depth_from
  depth-child zero at side row some more is = absurd (omega (arith, more))
  depth-child (suc r) zero side row some more is = absurd (some refl)
  depth-child (suc r) (suc n) side row some more is = by side
    where
      down : suc r - 1 ≡ r
      down = omega arith

      by : (side : Side) → depth_from rows version (suc r - 1) (child row side version) + 1 ≤ depth_from rows version (suc r) (suc n)
      by Left = subst (λ k. depth_from rows version k (child row Left version) + 1 ≤ suc (max (depth_from rows version r (child_of rows version (suc n) Left)) (depth_from rows version r (child_of rows version (suc n) Right)))) (sym down)
          (let e = ap (λ (k : NodeRow). depth_from rows version r (child k Left version)) is in omega (arith, e))
      by Right = subst (λ k. depth_from rows version k (child row Right version) + 1 ≤ suc (max (depth_from rows version r (child_of rows version (suc n) Left)) (depth_from rows version r (child_of rows version (suc n) Right)))) (sym down)
          (let e = ap (λ (k : NodeRow). depth_from rows version r (child k Right version)) is in omega (arith, e))

  -- a path has no more nodes than there is room
  pub depth-within : (room at : ℕ) → depth_from rows version room at ≤ room
  unfolding depth_from
  depth-within zero at = omega arith
  depth-within (suc r) zero = omega arith
  depth-within (suc r) (suc n) = let a = depth-within r (child_of rows version (suc n) Left) in let b = depth-within r (child_of rows version (suc n) Right) in omega (arith, a, b)

  -- there is a path with so many nodes
  deepest : (room at : ℕ) → (depth_from rows version room at ≡ 0) ⊎ ((sides : List Side) × (led_to rows version at sides ≢ 0) × (length sides + 1 ≡ depth_from rows version room at))
  unfolding depth_from
  deepest zero at = inl refl
  deepest (suc r) zero = inl refl
  deepest (suc r) (suc n) = by (deepest r (child_of rows version (suc n) Left)) (deepest r (child_of rows version (suc n) Right))
    where
      by : (depth_from rows version r (child_of rows version (suc n) Left) ≡ 0) ⊎ ((sides : List Side) × (led_to rows version (child_of rows version (suc n) Left) sides ≢ 0) × (length sides + 1 ≡ depth_from rows version r (child_of rows version (suc n) Left)))
          → (depth_from rows version r (child_of rows version (suc n) Right) ≡ 0) ⊎ ((sides : List Side) × (led_to rows version (child_of rows version (suc n) Right) sides ≢ 0) × (length sides + 1 ≡ depth_from rows version r (child_of rows version (suc n) Right)))
          → (suc (max (depth_from rows version r (child_of rows version (suc n) Left)) (depth_from rows version r (child_of rows version (suc n) Right))) ≡ 0) ⊎ ((sides : List Side) × (led_to rows version (suc n) sides ≢ 0) × (length sides + 1 ≡ suc (max (depth_from rows version r (child_of rows version (suc n) Left)) (depth_from rows version r (child_of rows version (suc n) Right)))))
      by (inl a) (inl b) = inr ([], λ (e : suc n ≡ 0). omega (arith, e), omega (arith, a, b))
      by (inl a) (inr q) = let l = q.2 in inr (Right ∷ q.0, q.1, omega (arith, a, l))
      by (inr p) (inl b) = let l = p.2 in inr (Left ∷ p.0, p.1, omega (arith, b, l))
      by (inr p) (inr q) = elim (cases_lt (length p.0) (length q.0)) [
        | inl less ↦ (let l = p.2 in let m = q.2 in inr (Right ∷ q.0, q.1, omega (arith, l, m, less)))
        | inr more ↦ (let l = p.2 in let m = q.2 in inr (Left ∷ p.0, p.1, omega (arith, l, m, more)))
      ]

  -- so the paths of a shallow version are short
  pub depth-shallow : (room at k : ℕ) → IsShallow rows version at k → 2 ^ depth_from rows version room at ≤ (k + 1) * (k + 1)
  depth-shallow room at k shallow = by (deepest room at)
    where
      some : 1 ≤ (k + 1) * (k + 1)
      some = mul-le 1 1 (k + 1) (k + 1) (omega arith) (omega arith)

      by : (depth_from rows version room at ≡ 0) ⊎ ((sides : List Side) × (led_to rows version at sides ≢ 0) × (length sides + 1 ≡ depth_from rows version room at)) → 2 ^ depth_from rows version room at ≤ (k + 1) * (k + 1)
      by (inl none) = subst (λ d. 2 ^ d ≤ (k + 1) * (k + 1)) (sym none) some
      by (inr path) = subst (λ d. 2 ^ d ≤ (k + 1) * (k + 1)) path.2 (ltb-false ((k + 1) * (k + 1)) (2 ^ (length path.0 + 1)) (not-true _ (shallow path.0 path.1)))

pub same-depth : (rows : List NodeRow) (version r r' a a' : ℕ) → r ≡ r' → a ≡ a' → depth_from rows version r a ≡ depth_from rows version r' a'
same-depth rows version r r' a a' e f = cc

-- ---- all versions

pub all-numbers : (test : ℕ → Bool) (n a : ℕ) → ((i : ℕ) → a ≤ i → i < a + n → test i ≡ true) → list_all test (range_with_len a n) ≡ true
all-numbers test zero a each = refl
all-numbers test (suc n) a each = and_from (test a) _ (each a (omega arith) (omega arith)) (all-numbers test n (a + 1) (λ i f l. each i (omega (arith, f)) (omega (arith, l))))

at-number : (test : ℕ → Bool) (n a i : ℕ) → list_all test (range_with_len a n) ≡ true → a ≤ i → i < a + n → test i ≡ true
at-number test zero a i h f l = absurd (omega (arith, f, l))
at-number test (suc n) a i h f l = at (cases_lt a i) (and_parts (test a) _ h) (λ q from. at-number test n (a + 1) i q from (omega (arith, l)))
  where
    at : (a < i) ⊎ (i ≤ a) → (test a ≡ true) × (list_all test (range_with_len (a + 1) n) ≡ true) → (list_all test (range_with_len (a + 1) n) ≡ true → a + 1 ≤ i → test i ≡ true) → test i ≡ true
    at (inl less) p further = further p.1 (omega (arith, less))
    at (inr here) p further = subst (λ k. test k ≡ true) (let e : a ≡ i = omega (arith, here, f) in e) p.0

pub level-at : (c : Content) (i : ℕ) → is_level c ≡ true → i < length c.corners → 2 ^ depth_from c.nodes i 42 (root_of c i) ≤ version_bound (length c.edges)
unfolding is_level
level-at c i h lt = leb-true _ _ (at-number (λ i. nat_le (2 ^ depth_from c.nodes i 42 (root_of c i)) (version_bound (length c.edges))) (length c.corners) 0 i h (omega arith) (omega (arith, lt)))

pub level-from : (c : Content) → ((i : ℕ) → i < length c.corners → 2 ^ depth_from c.nodes i 42 (root_of c i) ≤ version_bound (length c.edges)) → is_level c ≡ true
unfolding is_level
level-from c each = all-numbers _ (length c.corners) 0 (λ i f l. le-leb _ _ (each i (omega (arith, l))))

-- ---- the steps of a search

module _ (c : Content) (t : Table) (started middle steps : ℕ) (edges : length t.ends ≡ length c.edges) (first : started ≤ middle) (half : 2 ^ (middle - started) ≤ 2 * length t.corners + 1) (few : middle ≤ started + length t.corners) where
  pub most-corner : middle ≤ started + most_of c t
  most-corner = by (is_level c)
    where
      by : (b : Bool) → middle ≤ started + (if b then most_steps t else length t.corners + 42)
      by true = within_most t 0 started middle (omega arith) first (omega (arith, half))
      by false = omega (arith, few)

  pub most-walk : (i : ℕ) → i < length c.corners → middle ≤ steps → steps ≤ middle + depth_from c.nodes i 42 (root_of c i) → steps ≤ started + most_of c t
  most-walk i lt second walked = by (is_level c) refl
    where
      d : ℕ
      d = depth_from c.nodes i 42 (root_of c i)

      by : (b : Bool) → is_level c ≡ b → steps ≤ started + (if b then most_steps t else length t.corners + 42)
      by true level =
          let fewer : steps - middle ≤ depth_from c.nodes i 42 (root_of c i) = omega (arith, walked, second) in
          let power = pow_mono fewer in
          let bound = level-at c i level lt in
          let short : 2 ^ (steps - middle) ≤ (length c.edges + 1) * (length c.edges + 1) = omega (arith, power, bound) in
          within_most t (length c.edges) started steps (omega (arith, edges)) (omega (arith, first, second)) (both_within (length t.corners) (length c.edges) started middle steps first second half short)
      by false level = let w = depth-within c.nodes i 42 (root_of c i) in omega (arith, few, walked, w)
