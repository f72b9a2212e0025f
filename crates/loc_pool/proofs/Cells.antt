-- The nodes of slabs, and where they stand.
use Rattle.std.proofs.Common.{◌+◌, ◌-◌, ◌*◌, ◌/◌, ◌%◌, ◌<◌, ◌≤◌, suc, zero, length, arith, get_or, ◌≡◌, ℕ, List, [], ◌∷◌, ◌++◌, refl, sym, ap, ◌∙◌, Some, take, drop, set}
use Rattle.std.specs.Prelude.{slice_get}
use Rattle.std.proofs.lemmas.List.{set-append_left, set-append_right, length-append, append-nil, append_assoc}
use Rattle.std.proofs.lemmas.Option.{slice_get_read, slice_get_within}
use Rattle.loc_pool.specs.{declared.heap.Address.Address, declared.node.Node.Node, declared.node.Slab.Slab}
use Rattle.loc_pool.specs.Cells.{Cell, addresses, nodes_of, IsFull}

-- a list at one of its items
cut-suc : {A : Type 0} → (xs : List A) (i : ℕ) (x : A) → slice_get xs i ≡ Some x → xs ≡ take i xs ++ x ∷ drop (suc i) xs
cut-suc [] i x e = cc
cut-suc (y ∷ ys) zero x e = let h : y ≡ x = cc in ap (λ z. z ∷ ys) h
cut-suc (y ∷ ys) (suc i) x e = ap (λ zs. y ∷ zs) (cut-suc ys i x e)

pub next : (i : ℕ) → suc i ≡ i + 1
next i = omega arith

pub cut-here : {A : Type 0} → (xs : List A) (i : ℕ) (x : A) → slice_get xs i ≡ Some x → xs ≡ take i xs ++ x ∷ drop (i + 1) xs
cut-here xs i x e = cut-suc xs i x e ∙ ap (λ k. take i xs ++ x ∷ drop k xs) (next i)

-- what stands in a list of two parts
pub got-left : {A : Type 0} → (xs ys : List A) (i : ℕ) → i < length xs → slice_get (xs ++ ys) i ≡ slice_get xs i
got-left [] ys i h = absurd (omega (arith, h))
got-left (x ∷ xs) ys zero h = refl
got-left (x ∷ xs) ys (suc i) h = got-left xs ys i (omega (arith, h))

pub got-right : {A : Type 0} → (xs ys : List A) (i j : ℕ) → j ≡ length xs + i → slice_get (xs ++ ys) j ≡ slice_get ys i
got-right [] ys i j h = ap (slice_get ys) (let e : j ≡ i = omega (arith, h) in e)
got-right (x ∷ xs) ys i j h = ap (slice_get (x ∷ xs ++ ys)) (let e : j ≡ suc (j - 1) = omega (arith, h) in e) ∙ got-right xs ys i (j - 1) (omega (arith, h))

-- where a slab lies, it is
pub cell-here : (cs : List Cell) (i : ℕ) (a : Address) → slice_get (addresses cs) i ≡ Some a → (s : Slab) × (slice_get cs i ≡ Some (a, s))
unfolding addresses
cell-here [] i a e = cc
cell-here (c ∷ cs) zero a e = let h : c.0 ≡ a = cc in (c.1, ap (λ b. Some (b, c.1)) h)
cell-here (c ∷ cs) (suc i) a e = cell-here cs i a e

pub length-addresses : (cs : List Cell) → length (addresses cs) ≡ length cs
unfolding addresses
length-addresses [] = refl
length-addresses (c ∷ cs) = ap suc (length-addresses cs)

pub addresses-cut : (cs : List Cell) (i : ℕ) (a : Address) (s : Slab) → addresses (take i cs ++ (a, s) ∷ drop (suc i) cs) ≡ take i (addresses cs) ++ a ∷ drop (suc i) (addresses cs)
unfolding addresses
addresses-cut [] zero a s = refl
addresses-cut [] (suc i) a s = refl
addresses-cut (c ∷ cs) zero a s = refl
addresses-cut (c ∷ cs) (suc i) a s = ap (λ xs. c.0 ∷ xs) (addresses-cut cs i a s)

pub addresses-rest : (cs : List Cell) (a : Address) (bs : List Address) → addresses cs ≡ a ∷ bs → addresses (take 0 cs ++ drop (0 + 1) cs) ≡ bs
unfolding addresses
addresses-rest [] a bs e = cc
addresses-rest (c ∷ cs) a bs e = cc

pub none-left : (cs : List Cell) → addresses cs ≡ [] → cs ≡ []
unfolding addresses
none-left [] e = refl
none-left (c ∷ cs) e = cc

pub addresses-append : (cs : List Cell) (a : Address) (s : Slab) → addresses (cs ++ (a, s) ∷ []) ≡ addresses cs ++ a ∷ []
unfolding addresses
addresses-append [] a s = refl
addresses-append (c ∷ cs) a s = ap (λ xs. c.0 ∷ xs) (addresses-append cs a s)

pub length-nodes_of : (cs : List Cell) → IsFull cs → length (nodes_of cs) ≡ length cs * 1024
unfolding nodes_of
length-nodes_of [] h = refl
length-nodes_of (c ∷ cs) h = length-append c.1.nodes (nodes_of cs) ∙ (let here = h.0 in let rest = length-nodes_of cs h.1 in omega (arith, here, rest))

pub full-at : (cs : List Cell) (i : ℕ) (c : Cell) → IsFull cs → slice_get cs i ≡ Some c → length c.1.nodes ≡ 1024
full-at [] i c h e = cc
full-at (d ∷ cs) zero c h e = let q : d ≡ c = cc in ap (λ (x : Cell). length x.1.nodes) (sym q) ∙ h.0
full-at (d ∷ cs) (suc i) c h e = full-at cs i c h.1 e

pub full-cut : (cs : List Cell) (i : ℕ) (c : Cell) → IsFull cs → length c.1.nodes ≡ 1024 → IsFull (take i cs ++ c ∷ drop (suc i) cs)
full-cut [] zero c h e = (e, tt)
full-cut [] (suc i) c h e = (e, tt)
full-cut (d ∷ cs) zero c h e = (e, h.1)
full-cut (d ∷ cs) (suc i) c h e = (h.0, full-cut cs i c h.1 e)

pub full-append : (cs : List Cell) (c : Cell) → IsFull cs → length c.1.nodes ≡ 1024 → IsFull (cs ++ c ∷ [])
full-append [] c h e = (e, tt)
full-append (d ∷ cs) c h e = (h.0, full-append cs c h.1 e)

pub nodes_of-append : (cs : List Cell) (c : Cell) → nodes_of (cs ++ c ∷ []) ≡ nodes_of cs ++ c.1.nodes
unfolding nodes_of
nodes_of-append [] c = append-nil c.1.nodes
nodes_of-append (d ∷ cs) c = ap (λ xs. d.1.nodes ++ xs) (nodes_of-append cs c) ∙ sym (append_assoc d.1.nodes (nodes_of cs) c.1.nodes)

-- the node at a place of a slab, among all
pub node-here : (cs : List Cell) (i j n : ℕ) (c : Cell) → IsFull cs → slice_get cs i ≡ Some c → j < 1024 → n ≡ 1024 * i + j → slice_get (nodes_of cs) n ≡ slice_get c.1.nodes j
unfolding nodes_of
node-here [] i j n c h e w q = cc
node-here (d ∷ cs) zero j n c h e w q =
    let s : d ≡ c = cc in ap (slice_get (d.1.nodes ++ nodes_of cs)) (let z : n ≡ j = omega (arith, q) in z) ∙ got-left d.1.nodes (nodes_of cs) j (omega (arith, h.0, w)) ∙ ap (λ (x : Cell). slice_get x.1.nodes j) s
node-here (d ∷ cs) (suc i) j n c h e w q =
    got-right d.1.nodes (nodes_of cs) (n - 1024) n (omega (arith, h.0, q)) ∙ node-here cs i j (n - 1024) c h.1 e w (omega (arith, q))

-- a node is written in its slab
pub nodes_of-cut : (cs : List Cell) (i j n : ℕ) (c d : Cell) (x : Node) → IsFull cs → slice_get cs i ≡ Some c → j < 1024 → n ≡ 1024 * i + j → d.1.nodes ≡ set c.1.nodes j x
    → nodes_of (take i cs ++ d ∷ drop (suc i) cs) ≡ set (nodes_of cs) n x
unfolding nodes_of
nodes_of-cut [] i j n c d x h e w q s = cc
nodes_of-cut (k ∷ cs) zero j n c d x h e w q s =
    let t : k ≡ c = cc in
    ap (λ xs. xs ++ nodes_of cs) (s ∙ ap (λ (y : Cell). set y.1.nodes j x) (sym t)) ∙ sym (set-append_left k.1.nodes (nodes_of cs) j x (omega (arith, h.0, w)))
    ∙ ap (λ m. set (k.1.nodes ++ nodes_of cs) m x) (let z : j ≡ n = omega (arith, q) in z)
nodes_of-cut (k ∷ cs) (suc i) j n c d x h e w q s =
    ap (λ xs. k.1.nodes ++ xs) (nodes_of-cut cs i j (n - 1024) c d x h.1 e w (omega (arith, q)) s) ∙ sym (set-append_right k.1.nodes (nodes_of cs) 1024 n x h.0 (omega (arith, q)))

-- an item taken out of a list, and another put in its place
pub refill : {A : Type 0} → (xs ys : List A) (i : ℕ) (c : A) → i ≤ length xs → take i (take i xs ++ ys) ++ c ∷ drop i (take i xs ++ ys) ≡ take i xs ++ c ∷ ys
refill xs ys zero c h = refl
refill [] ys (suc i) c h = absurd (omega (arith, h))
refill (x ∷ xs) ys (suc i) c h = ap (λ zs. x ∷ zs) (refill xs ys i c (omega (arith, h)))

pub at-end : {A : Type 0} → (xs : List A) (i : ℕ) (c : A) → i ≡ length xs → take i xs ++ c ∷ drop i xs ≡ xs ++ c ∷ []
at-end [] zero c e = refl
at-end [] (suc i) c e = refl
at-end (x ∷ xs) zero c e = absurd (omega (arith, e))
at-end (x ∷ xs) (suc i) c e = ap (λ zs. x ∷ zs) (at-end xs i c (omega (arith, e)))

-- the place of a node in its slab
pub in-slab : (n : ℕ) → n % 1024 < 1024
in-slab n = omega arith

pub of-slab : (n : ℕ) → n ≡ 1024 * (n / 1024) + n % 1024
of-slab n = omega arith

-- a node's slab is one of the list
pub slab-within : (cs : List Cell) (bs : List Address) (n long : ℕ) → addresses cs ≡ bs → IsFull cs → long ≡ length bs → n < length (nodes_of cs) → n / 1024 < long
slab-within cs bs n long e h k w =
    let nodes = length-nodes_of cs h in let cells = length-addresses cs in let listed = ap length e in omega (arith, nodes, cells, listed, k, w)

-- the slab that lies where the list says
pub slab-here : (cs : List Cell) (bs : List Address) (n long : ℕ) (a : Address) → addresses cs ≡ bs → IsFull cs → long ≡ length bs → n < length (nodes_of cs) → a ≡ get_or bs (n / 1024) a
    → (s : Slab) × (slice_get cs (n / 1024) ≡ Some (a, s))
slab-here cs bs n long a e h k w r = cell-here cs (n / 1024) a (ap (λ xs. slice_get xs (n / 1024)) e ∙ slice_get_read bs long (n / 1024) a k (slab-within cs bs n long e h k w) r)

-- the slabs, one of them exchanged
pub exchanged : (cs ds es : List Cell) (i : ℕ) (c d : Cell) → slice_get cs i ≡ Some c → ds ≡ take i cs ++ drop (i + 1) cs → es ≡ take i ds ++ d ∷ drop i ds → es ≡ take i cs ++ d ∷ drop (suc i) cs
exchanged cs ds es i c d e g t =
    t ∙ ap (λ xs. take i xs ++ d ∷ drop i xs) g ∙ refill cs (drop (i + 1) cs) i d (let w = slice_get_within cs i c e in omega (arith, w)) ∙ ap (λ k. take i cs ++ d ∷ drop k cs) (sym (next i))
