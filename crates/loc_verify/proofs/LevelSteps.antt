-- The nodes of a version, level by level.
use Rattle.std.proofs.Common.{◌≡◌, ◌≢◌, ℕ, zero, suc, ◌+◌, ◌<◌, ◌≤◌, Bool, true, false, List, [], ◌∷◌, ◌++◌, length, get_or, replicate, set, take, refl, sym, ◌∙◌, ap, subst, inl, inr, arith, length-append}
use Rattle.std.specs.Prelude.{IsTrue, ◌⊎◌, ◌↔◌}
use Rattle.std.proofs.{lemmas.Bool.cases_eq, lemmas.Bool.cases_lt, lemmas.Bool.true≢false, lemmas.Grind.get_or-set_at}
use Rattle.std.proofs.lemmas.List.{get_or-replicate, get_or-set_other, get_or_past, length-replicate, length-set}
use Rattle.loc_spec_index.specs.declared.NodeRow.{NodeRow}
use Rattle.loc_spec_index.specs.Nodes.{Side, Left, Right, child_of, led_to}
use Rattle.loc_verify.proofs.Following.{leads_nowhere, led_by}
use Rattle.loc_verify.specs.Readings.{AreReached, HasLongPath, HasNode, IsNextLevel}

-- a flag is set
set_flag : (flags : List Bool) (i m : ℕ) → i < length flags → get_or (set flags i true) m false ≡ true → (m ≡ i) ⊎ (get_or flags m false ≡ true)
set_flag flags i m fits h = elim (cases_eq m i) [ inl same ↦ inl same | inr other ↦ inr (sym (get_or-set_other flags i m true false other) ∙ h) ]

stays_set : (flags : List Bool) (i m : ℕ) → i < length flags → get_or flags m false ≡ true → get_or (set flags i true) m false ≡ true
stays_set flags i m fits h = elim (cases_eq m i) [ inl same ↦ get_or-set_at flags i m true false same fits | inr other ↦ get_or-set_other flags i m true false other ∙ h ]

-- where no flag is set
pub none_set : (flags : List Bool) (k m : ℕ) → flags ≡ replicate k false → get_or flags m false ≡ false
none_set flags k m is = ap (λ fs. get_or fs m false) is ∙ elim (cases_lt m k) [ inl less ↦ get_or-replicate k m false false less | inr past ↦ get_or_past (replicate k false) m false (subst (λ n. n ≤ m) (sym (length-replicate k false)) past) ]

-- a flag that is set is within the list
pub flag_within : (flags : List Bool) (m : ℕ) → get_or flags m false ≡ true → m < length flags
flag_within flags m h = elim (cases_lt m (length flags)) [ inl less ↦ less | inr past ↦ absurd (true≢false (sym h ∙ get_or_past flags m false past)) ]

module _ (rows : List NodeRow) (version : ℕ) where
  -- ---- one level from the one before
  module _ (level : List Bool) where
    -- a child of a node before node k whose flag is set
    abbrev pub IsChildTo : ℕ → ℕ → Type 0
    IsChildTo k m = (n : ℕ) × (side : Side) × (n ≢ 0) × (n < k) × IsTrue (get_or level n false) × (child_of rows version n side ≡ m)

    pub record AreChildrenTo (k : ℕ) (next : List Bool) : Type 0 where
      pub as_many : length next ≡ length rows + 1
      pub exact : (m : ℕ) → m ≢ 0 → IsTrue (get_or next m false) ↔ IsChildTo k m

    -- none before the first node
    pub children_none : (k : ℕ) (next : List Bool) → k ≡ length rows + 1 → next ≡ replicate k false → AreChildrenTo 1 next
    children_none k next size is = record {
      as_many = ap length is ∙ (length-replicate k false ∙ size);
      exact = λ m there. (λ h. absurd (true≢false (sym h ∙ none_set next k m is)), λ child. absurd (child.2 (let less = child.3 in omega (arith, less))));
    }

    -- those of all nodes
    pub children_all : (k : ℕ) (next : List Bool) → length level ≡ length rows + 1 → length rows < k → AreChildrenTo k next → IsNextLevel rows version level next
    children_all k next size end all = record {
      as_many = all.as_many ∙ sym size;
      exact = λ m there. (
        λ h. (let c = (all.exact m there).0 h in (c.0, c.1, c.2, c.4, c.5)),
        λ child. (all.exact m there).1 (child.0, child.1, child.2, (let less = flag_within level child.0 child.3 in omega (arith, less, size, end)), child.3, child.4),
      );
    }

    -- the children of one node more
    pub children_more : (k l r : ℕ) (next : List Bool) → k ≢ 0 → get_or level k false ≡ true → l ≤ length rows → r ≤ length rows → l ≡ child_of rows version k Left → r ≡ child_of rows version k Right
        → AreChildrenTo k next → AreChildrenTo (k + 1) (set (set next l true) r true)
    children_more k l r next some flag l_fits r_fits l_is r_is before = record {
      as_many = longer;
      exact = λ m there. (
        λ h. elim (set_flag (set next l true) r m r_in h) [
          | inl at_r ↦ (k, Right, some, omega arith, flag, sym (at_r ∙ r_is))
          | inr h ↦ elim (set_flag next l m l_in h) [
            | inl at_l ↦ (k, Left, some, omega arith, flag, sym (at_l ∙ l_is))
            | inr old ↦ (let c = (before.exact m there).0 old in (c.0, c.1, c.2, (let less = c.3 in omega (arith, less)), c.4, c.5))
          ]
        ],
        λ child. elim (cases_eq child.0 k) [
          | inl same ↦ by child.1 (sym (ap (λ n. child_of rows version n child.1) same) ∙ child.5)
          | inr other ↦ stays_set (set next l true) r m r_in (stays_set next l m l_in ((before.exact m there).1 (child.0, child.1, child.2, (let less = child.3 in let differ : child.0 ≢ k = other in omega (arith, less, differ)), child.4, child.5)))
        ],
      );
    }
      where
        longer : length (set (set next l true) r true) ≡ length rows + 1
        longer = length-set (set next l true) r true ∙ (length-set next l true ∙ before.as_many)

        l_in : l < length next
        l_in = let size = before.as_many in omega (arith, size, l_fits)

        r_in : r < length (set next l true)
        r_in = let size = length-set next l true ∙ before.as_many in omega (arith, size, r_fits)

        by : {m : ℕ} (side : Side) → child_of rows version k side ≡ m → get_or (set (set next l true) r true) m false ≡ true
        by {m} Left is = stays_set (set next l true) r m r_in (get_or-set_at next l m true false (sym (l_is ∙ is)) l_in)
        by {m} Right is = get_or-set_at (set next l true) r m true false (sym (r_is ∙ is)) r_in

    pub children_same : (k : ℕ) (next : List Bool) → get_or level k false ≡ false → AreChildrenTo k next → AreChildrenTo (k + 1) next
    children_same k next flag before = record {
      as_many = before.as_many;
      exact = λ m there. (
        λ h. (let c = (before.exact m there).0 h in (c.0, c.1, c.2, (let less = c.3 in omega (arith, less)), c.4, c.5)),
        λ child. (before.exact m there).1 (
          child.0,
          child.1,
          child.2,
          (elim (cases_eq child.0 k) [
            | inl same ↦ absurd (true≢false (sym child.4 ∙ (ap (λ n. get_or level n false) same ∙ flag)))
            | inr other ↦ (let less = child.3 in let differ : child.0 ≢ k = other in omega (arith, less, differ))
          ]),
          child.4,
          child.5,
        ),
      );
    }

  -- ---- paths
  -- a path with one turn more leads to a child of where it led
  led_more : (n : ℕ) (sides : List Side) (side : Side) → led_to rows version n sides ≢ 0 → led_to rows version n (sides ++ side ∷ []) ≡ child_of rows version (led_to rows version n sides) side
  led_more n [] side some = led_by rows version n some side []
  led_more zero (s ∷ sides) side some = absurd (some refl)
  led_more (suc n) (s ∷ sides) side some = led_more (child_of rows version (suc n) s) sides side some

  led_none : (n : ℕ) (sides : List Side) (side : Side) → led_to rows version n sides ≡ 0 → led_to rows version n (sides ++ side ∷ []) ≡ 0
  led_none n [] side none = leads_nowhere rows version n none (side ∷ [])
  led_none zero (s ∷ sides) side none = refl
  led_none (suc n) (s ∷ sides) side none = led_none (child_of rows version (suc n) s) sides side none

  -- where a path leads to a node, so does each part of it from its start
  pub led_front : (k n : ℕ) (sides : List Side) → led_to rows version n sides ≢ 0 → led_to rows version n (take k sides) ≢ 0
  led_front zero n sides some none = some (leads_nowhere rows version n none sides)
  led_front (suc k) n [] some none = some none
  led_front (suc k) zero (s ∷ sides) some none = some refl
  led_front (suc k) (suc n) (s ∷ sides) some none = led_front k (child_of rows version (suc n) s) sides some none

  record Last (sides : List Side) (k : ℕ) : Type 0 where
    front : List Side
    side : Side
    whole : sides ≡ front ++ side ∷ []
    count : length front ≡ k

  last_of : (sides : List Side) (k : ℕ) → length sides ≡ k + 1 → Last sides k
  last_of [] k size = absurd (omega (arith, size))
  last_of (s ∷ []) k size = record { front = []; side = s; whole = refl; count = omega (arith, size) }
  last_of (s ∷ r ∷ sides) zero size = absurd (omega (arith, size))
  last_of (s ∷ r ∷ sides) (suc k) size = let l = last_of (r ∷ sides) k (omega (arith, size)) in record { front = s ∷ l.front; side = l.side; whole = ap (λ xs. s ∷ xs) l.whole; count = ap suc l.count }

  module _ (root : ℕ) where
    no_turn : {m : ℕ} (sides : List Side) → length sides ≡ 0 → led_to rows version root sides ≡ m → m ≡ root
    no_turn [] size is = sym is
    no_turn (s ∷ sides) size is = absurd (omega (arith, size))

    -- no turn
    pub reached_none : (k : ℕ) (flags : List Bool) → k ≡ length rows + 1 → root ≤ length rows → flags ≡ replicate k false → AreReached rows version root 0 (set flags root true)
    reached_none k flags size fits is = record {
      as_many = length-set flags root true ∙ many;
      exact = λ m there. (
        λ h. elim (set_flag flags root m in_flags h) [ inl same ↦ ([], refl, sym same) | inr old ↦ absurd (true≢false (sym old ∙ none_set flags k m is)) ],
        λ path. get_or-set_at flags root m true false (no_turn path.0 path.1 path.2) in_flags,
      );
    }
      where
        many : length flags ≡ length rows + 1
        many = ap length is ∙ (length-replicate k false ∙ size)

        in_flags : root < length flags
        in_flags = omega (arith, many, fits)

    -- one turn more
    pub reached_more : (turns : ℕ) (flags next : List Bool) → AreReached rows version root turns flags → IsNextLevel rows version flags next → AreReached rows version root (turns + 1) next
    reached_more turns flags next reached step = record {
      as_many = step.as_many ∙ reached.as_many;
      exact = λ m there. (
        λ h. (let child = (step.exact m there).0 h in
            let path = (reached.exact child.0 child.2).0 child.3 in (
              path.0 ++ child.1 ∷ [],
              length-append path.0 (child.1 ∷ []) ∙ ap (λ k. k + 1) path.1,
              led_more root path.0 child.1 (λ none. child.2 (sym path.2 ∙ none)) ∙ (ap (λ k. child_of rows version k child.1) path.2 ∙ child.4),
            )),
        λ path. (let l = last_of path.0 turns path.1 in
            let is = sym (ap (led_to rows version root) l.whole) ∙ path.2 in
            elim (cases_eq (led_to rows version root l.front) 0) [
              | inl none ↦ absurd (there (sym is ∙ led_none root l.front l.side none))
              | inr some ↦ (step.exact m there).1 (led_to rows version root l.front, l.side, some, (reached.exact (led_to rows version root l.front) some).1 (l.front, l.count, refl), sym (led_more root l.front l.side some) ∙ is)
            ]),
      );
    }

    -- a path with so many turns is there exactly where a node is
    pub path_there : (turns : ℕ) (flags : List Bool) → AreReached rows version root turns flags → HasNode flags ↔ HasLongPath rows version root turns
    path_there turns flags reached = (
      λ node. (let path = (reached.exact node.0 node.1).0 node.2 in (path.0, λ none. node.1 (sym path.2 ∙ none), path.1)),
      λ path. (led_to rows version root path.0, path.1, (reached.exact (led_to rows version root path.0) path.1).1 (path.0, path.2, refl)),
    )
