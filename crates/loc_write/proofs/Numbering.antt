-- The number of a node, and its row by number, are the only ones.
use Rattle.std.proofs.Common.{◌≡◌, ℕ, zero, suc, ◌+◌, ◌<◌, ◌≤◌, Bool, true, false, List, [], ◌∷◌, ◌++◌, length, refl, sym, ◌∙◌, ap, subst, arith, length-append}
use Rattle.std.proofs.lemmas.Bool.{ltb-true, ltb-false}
use Rattle.std.proofs.{lemmas.List.get_or_default, lemmas.List.get_or_append_left, lemmas.Option.slice_get_within}
use Rattle.std.proofs.Math.Seq.{get_or-append_seam}
use Rattle.std.specs.Prelude.{Option, Some, None, slice_get, get_or, All, nat_lt}
use Rattle.loc_pool.specs.{declared.Link.Link, Maps.Map, Maps.links}
use Rattle.loc_pool.specs.Rows.{Row, row, AreNames, IsPlace}
use Rattle.loc_spec_index.specs.{declared.NodeRow.NodeRow, Nodes.row_of, Nodes.no_row}
use Rattle.loc_persist.specs.{Numbered.IsNumber, Numbered.IsNodeRow, Numbered.IsWithin, Meaning.VersionsMeaning}
use Rattle.loc_persist.specs.ByNumber.{AreRowsByNumber, AreRootsByNumber}
use Rattle.loc_persist.proofs.Places.{place-once}

number-once : (rows : Map Row) (to : Option Link) (m n : ℕ) → AreNames (links rows) → IsNumber rows to m → IsNumber rows to n → m ≡ n
number-once rows None m n names p q = p ∙ sym q
number-once rows (Some link) m n names p q = place-once (links rows) link m n names p q

rows-of : (a a' b b' c c' d d' e e' f f' : ℕ) → a ≡ a' → b ≡ b' → c ≡ c' → d ≡ d' → e ≡ e' → f ≡ f'
    → ◌≡◌ {A = NodeRow} (record { item = a; left = b; right = c; side = d; stamp = e; extra = f }) (record { item = a'; left = b'; right = c'; side = d'; stamp = e'; extra = f' })
rows-of a a' b b' c c' d d' e e' f f' p q r s t u = cc

same-row : (a b : NodeRow) → a.item ≡ b.item → a.left ≡ b.left → a.right ≡ b.right → a.side ≡ b.side → a.stamp ≡ b.stamp → a.extra ≡ b.extra → a ≡ b
same-row a b p q r s t u = rows-of a.item b.item a.left b.left a.right b.right a.side b.side a.stamp b.stamp a.extra b.extra p q r s t u

row-once : (rows : Map Row) (x : Row) (a b : NodeRow) → AreNames (links rows) → IsNodeRow rows x a → IsNodeRow rows x b → a ≡ b
row-once rows x a b names p q =
    same-row a b (p.item ∙ sym q.item) (number-once rows x.left _ _ names p.left q.left) (number-once rows x.right _ _ names p.right q.right) (p.side ∙ sym q.side) (p.stamp ∙ sym q.stamp) (number-once rows _ _ _ names p.extra q.extra)

same-some : {X : Type 0} (a b : X) → Some a ≡ Some b → a ≡ b
same-some a b e = cc

-- the number that a root has in a list of numbers
pub root-is : (rows : Map Row) (roots : List (Option Link)) (numbers : List ℕ) (version number : ℕ) → AreNames (links rows) → AreRootsByNumber rows roots numbers
    → ((root : Option Link) × (slice_get roots version ≡ Some root) × IsNumber rows root number) → number ≡ get_or numbers version 0
root-is rows roots numbers version number names are (root, at, is) = number-once rows root number (get_or numbers version 0) names is (are version root at)

next-row : (rows : List NodeRow) (n : ℕ) → row_of rows (n + 1) ≡ get_or rows n no_row
next-row rows n = ap (row_of rows) (let e : n + 1 ≡ suc n = omega arith in e)

-- the row that the node behind so many others has in a list of rows
pub row-is : (rows : Map Row) (numbered : List NodeRow) (n : ℕ) (node : NodeRow) → AreNames (links rows) → AreRowsByNumber rows numbered → n < length rows
    → ((link : Link) × IsPlace (links rows) link (n + 1) × IsNodeRow rows (row rows link) node) → node ≡ get_or numbered n no_row
row-is rows numbered n node names are lt (link, at, is) =
    let other = are.each (n + 1) (omega arith) (omega (arith, lt)) in
    let one : link ≡ other.0 = same-some link other.0 (sym at.1 ∙ other.1.1) in
    row-once rows (row rows link) node (row_of numbered (n + 1)) names is (subst (λ l. IsNodeRow rows (row rows l) (row_of numbered (n + 1))) (sym one) other.2) ∙ next-row numbered n

-- ---- rows that were seen, one behind the other

-- what holds of each of so many things
pub record Seen {X : Type 0} (P : ℕ → X → Type 0) (d : X) (n : ℕ) : Type 0 where
  pub seen : List X
  pub as_many : length seen ≡ n
  pub each : (i : ℕ) → i < n → P i (get_or seen i d)

-- what holds of so many holds with one more
pub one-seen : {X : Type 0} (P : ℕ → X → Type 0) (d : X) (n : ℕ) (x : X) → Seen P d n → P n x → Seen P d (n + 1)
one-seen P d n x s this = record { seen = s.seen ++ x ∷ []; as_many = length-append s.seen (x ∷ []) ∙ ap (λ k. k + 1) s.as_many; each = λ i lt. by i lt (nat_lt i n) refl }
  where
    by : (i : ℕ) → i < n + 1 → (b : Bool) → nat_lt i n ≡ b → P i (get_or (s.seen ++ x ∷ []) i d)
    by i lt true is = let less = ltb-true i n is in let e = s.as_many in subst (P i) (sym (get_or_append_left s.seen (x ∷ []) d i (omega (arith, less, e)))) (s.each i less)
    by i lt false is =
        let same : n ≡ i = (let least = ltb-false i n is in omega (arith, least, lt)) in
        subst (λ j. P j (get_or (s.seen ++ x ∷ []) j d)) same (subst (P n) (sym (subst (λ k. get_or (s.seen ++ x ∷ []) k d ≡ x) s.as_many (get_or-append_seam s.seen x [] d))) this)

-- a row is that of the node behind so many others, and its numbers are within their bounds
pub record IsRowAt (m : VersionsMeaning) (n : ℕ) (node : NodeRow) : Type 0 where
  pub row : (link : Link) × IsPlace (links m.rows) link (n + 1) × IsNodeRow m.rows (row m.rows link) node
  pub within : IsWithin m.past_greatest (length m.roots) (length m.rows) m.is_changed node

-- the rows of so many nodes
abbrev pub NodesSeen : VersionsMeaning → ℕ → Type 0
NodesSeen m n = Seen (IsRowAt m) no_row n

pub all-nodes : (m : VersionsMeaning) (n : ℕ) → n ≡ length m.rows → NodesSeen m n → (rows : List NodeRow) × AreRowsByNumber m.rows rows × All (IsWithin m.past_greatest (length m.roots) (length m.rows) m.is_changed) rows
all-nodes m n all s = (
  s.seen,
  record { as_many = s.as_many ∙ all; each = each },
  λ i d lt. (let few = s.as_many in subst (IsWithin m.past_greatest (length m.roots) (length m.rows) m.is_changed) (get_or_default s.seen i no_row d lt) (s.each i (omega (arith, lt, few))).within),
)
  where
    each : (number : ℕ) → 1 ≤ number → number ≤ length m.rows → (link : Link) × IsPlace (links m.rows) link number × IsNodeRow m.rows (row m.rows link) (row_of s.seen number)
    each zero some few = absurd (omega (arith, some))
    each (suc k) some few =
        let next : k + 1 ≡ suc k = omega arith in
        subst (λ number. (link : Link) × IsPlace (links m.rows) link number × IsNodeRow m.rows (row m.rows link) (get_or s.seen k no_row)) next (s.each k (omega (arith, few, all))).row

-- a number is that of the root of a sealed version, and within its bound
pub record IsRootAt (m : VersionsMeaning) (version number : ℕ) : Type 0 where
  pub root : (root : Option Link) × (slice_get m.roots version ≡ Some root) × IsNumber m.rows root number
  pub within : number ≤ length m.rows

-- the numbers of so many roots
abbrev pub RootsSeen : VersionsMeaning → ℕ → Type 0
RootsSeen m n = Seen (IsRootAt m) 0 n

pub all-roots : (m : VersionsMeaning) (n : ℕ) → n ≡ length m.roots → RootsSeen m n → (roots : List ℕ) × AreRootsByNumber m.rows m.roots roots × (length roots ≡ length m.roots) × All (λ k. k ≤ length m.rows) roots
all-roots m n all s = (
  s.seen,
  λ version root at. (let r = (s.each version (let lt = slice_get_within m.roots version root at in omega (arith, lt, all))).root in let one : r.0 ≡ root = same-some r.0 root (sym r.1 ∙ at) in subst (λ to. IsNumber m.rows to (get_or s.seen version 0)) one r.2),
  s.as_many ∙ all,
  λ i d lt. (let few = s.as_many in subst (λ k. k ≤ length m.rows) (get_or_default s.seen i 0 d lt) (s.each i (omega (arith, lt, few))).within),
)
