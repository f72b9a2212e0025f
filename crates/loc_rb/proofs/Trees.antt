-- Trees over rows: what fits, what stands where, and how often.
use Rattle.std.proofs.Common.{◌≡◌, ℕ, List, [], ◌∷◌, ◌++◌, refl, sym, ap, ◌∙◌, append_assoc, append-nil, Some, ◌+◌, ◌≤◌, cond, true, arith}
use Rattle.std.specs.Prelude.{◌≢◌}
use Rattle.std.specs.List.{AllByRecursion}
use Rattle.std.proofs.lemmas.List.{same_from_push}
use Rattle.loc_pool.specs.{declared.Link.Link, declared.Turn.Turn}
use Rattle.loc_pool.specs.{declared.Turn.TheVariants.Left, declared.Turn.TheVariants.Right, declared.Colour.Colour}
use Rattle.loc_pool.specs.Same.{same}
use Rattle.loc_pool.proofs.Same.{same-refl}
use Rattle.loc_rb.specs.Trees.{Row, Reading, with_child, Tree, leaf, node, top, items, Fits, Frame, node_at, under, plug, entries, links_of, next, Carried, SameButLinks, lower, higher, before, after, count}

-- the same frames under new links
abbrev pub rename : List Frame → List (Link × Turn) → List Frame
rename [] es = []
rename (fr ∷ frs) [] = []
rename (fr ∷ frs) (e ∷ es) = record fr { link = e.0 } ∷ rename frs es

pub self-once : (l : Link) (k : ℕ) → cond (same l l) 1 0 + k ≡ 1 + k
self-once l k = ap (λ b. cond b 1 0 + k) (same-refl l)

-- a tree of links that no change reached still fits
pub stays : (f g : Reading) (t : Tree) → ((l : Link) → 1 ≤ count l t → (x : Row) → f l ≡ Some x → g l ≡ Some x) → Fits f t → Fits g t
unfolding count
stays f g leaf h p = tt
stays f g (node l s x c t) h p = (h l (let e = self-once l (count l s + count l t) in omega (arith, e)) _ p.0, stays f g s (λ m o. h m (omega (arith, o))) p.1, stays f g t (λ m o. h m (omega (arith, o))) p.2)

pub top-node_at : (turn : Turn) (l : Link) (t : Tree) (x : ℕ) (c : Colour) (other : Tree) → top (node_at turn l t x c other) ≡ Some l
top-node_at Left l t x c other = refl
top-node_at Right l t x c other = refl

-- the two trees of a node fit
pub inner : (f : Reading) (turn : Turn) (l : Link) (t : Tree) (x : ℕ) (c : Colour) (other : Tree) → Fits f (node_at turn l t x c other) → Fits f t × Fits f other
inner f Left l t x c other p = (p.1, p.2)
inner f Right l t x c other p = (p.2, p.1)

-- a node under its new link, with a new child
pub replaced : (f g : Reading) (l r : Link) (turn : Turn) (x : ℕ) (c : Colour) (other s v : Tree) → ((y : Row) → f l ≡ Some y → g r ≡ Some (with_child turn (top v) y)) → Fits f (node_at turn l s x c other) → Fits g v → Fits g other → Fits g (node_at turn r v x c other)
replaced f g l r Left x c other s v k p q o = (k _ p.0, q, o)
replaced f g l r Right x c other s v k p q o = (k _ p.0, o, q)

-- how often a link stands in a list
unfoldable pub occurs : Link → List Link → ℕ
occurs l [] = 0
occurs l (k ∷ ks) = cond (same k l) 1 0 + occurs l ks

-- how often it stands beside the path
unfoldable pub sides : Link → List Frame → ℕ
sides m [] = 0
sides m (fr ∷ C) = count m fr.other + sides m C

-- the path under its new links, with another tree at its end
pub carried : (f g : Reading) (C : List Frame) (es : List (Link × Turn)) (t u : Tree) (r : Link) → ((l : Link) → 1 ≤ sides l C → (x : Row) → f l ≡ Some x → g l ≡ Some x)
    → Fits f (plug C t) → Carried f g (entries C) es r → top u ≡ Some r → Fits g u
    → Fits g (plug (rename C es) u) × (top (plug (rename C es) u) ≡ Some (next es r)) × (entries (rename C es) ≡ es) × SameButLinks C (rename C es)
unfolding sides
carried f g [] [] t u r h p k e q = (q, e, refl, tt)
carried f g [] (e' ∷ es) t u r h p k e q = absurd k
carried f g (fr ∷ C) [] t u r h p k e q = absurd k
carried f g (fr ∷ C) (e' ∷ es) t u r h p k e q =
    let parts = inner f fr.turn fr.link (plug C t) fr.item fr.colour fr.other p in
    let on = carried f g C es t u r (λ l o. h l (omega (arith, o))) parts.0 k.2 e q in (
      replaced f g fr.link e'.0 fr.turn fr.item fr.colour fr.other (plug C t) (plug (rename C es) u) (λ y z. k.1 y z ∙ ap (λ i. Some (with_child fr.turn i y)) (sym on.1)) p on.0 (stays f g fr.other (λ l o. h l (omega (arith, o))) parts.1),
      top-node_at fr.turn e'.0 (plug (rename C es) u) fr.item fr.colour fr.other,
      (λ i. (e'.0, sym k.0 i) ∷ on.2 i),
      (refl, refl, refl, refl, on.3),
    )

-- so does the tree at the end of a path
pub fits-end : (f : Reading) (C : List Frame) (t : Tree) → Fits f (plug C t) → Fits f t
fits-end f [] t p = p
fits-end f (fr ∷ C) t p = fits-end f C t (inner f fr.turn fr.link (plug C t) fr.item fr.colour fr.other p).0

-- what a change does to a tree: v hangs in the place of s
pub change-tree : (f g : Reading) (C : List Frame) (es : List (Link × Turn)) (at r : Link) (turn : Turn) (x : ℕ) (c : Colour) (other s v : Tree)
    → ((y : Row) → f at ≡ Some y → g r ≡ Some (with_child turn (top v) y)) → Carried f g (entries C) es r
    → ((l : Link) → 1 ≤ sides l C + (count l v + count l other) → (y : Row) → f l ≡ Some y → g l ≡ Some y)
    → Fits f (plug C (node_at turn at s x c other)) → Fits f v
    → Fits g (plug (rename C es) (node_at turn r v x c other)) × (top (plug (rename C es) (node_at turn r v x c other)) ≡ Some (next es r)) × (entries (rename C es) ≡ es) × SameButLinks C (rename C es)
change-tree f g C es at r turn x c other s v here above h p q =
    let T = node_at turn at s x c other in let start = fits-end f C T p in
    carried f g C es T (node_at turn r v x c other) r (λ l o. h l (omega (arith, o))) p above (top-node_at turn r v x c other)
    (replaced f g at r turn x c other s v here start (stays f g v (λ l o. h l (omega (arith, o))) q) (stays f g other (λ l o. h l (omega (arith, o))) (inner f turn at s x c other start).1))

-- the items of a node, by the side
pub items-node_at : (turn : Turn) (l : Link) (t : Tree) (x : ℕ) (c : Colour) (other : Tree) → items (node_at turn l t x c other) ≡ lower turn x other ++ (items t ++ higher turn x other)
items-node_at Left l t x c other = refl
items-node_at Right l t x c other = ap (λ ys. items other ++ x ∷ ys) (sym (append-nil (items t))) ∙ sym (append_assoc (items other) (x ∷ []) (items t ++ []))

-- the list of a tree, cut at the end of a path
pub items-plug : (C : List Frame) (t : Tree) → items (plug C t) ≡ before C ++ (items t ++ after C)
items-plug [] t = sym (append-nil (items t))
items-plug (fr ∷ C) t =
    let lo = lower fr.turn fr.item fr.other in let hi = higher fr.turn fr.item fr.other in
    items-node_at fr.turn fr.link (plug C t) fr.item fr.colour fr.other
    ∙ ap (λ ys. lo ++ (ys ++ hi)) (items-plug C t)
    ∙ ap (λ ys. lo ++ ys) (append_assoc (before C) (items t ++ after C) hi ∙ ap (λ ys. before C ++ ys) (append_assoc (items t) (after C) hi))
    ∙ sym (append_assoc lo (before C) (items t ++ (after C ++ hi)))

pub node-row : (f : Reading) (turn : Turn) (l : Link) (t : Tree) (x : ℕ) (c : Colour) (other : Tree) → Fits f (node_at turn l t x c other) → (y : Row) × (f l ≡ Some y)
node-row f Left l t x c other p = (_, p.0)
node-row f Right l t x c other p = (_, p.0)

pub count-leaf : (l : Link) → count l leaf ≡ 0
unfolding count
count-leaf l = refl

pub count-node_at : (m : Link) (turn : Turn) (l : Link) (t : Tree) (x : ℕ) (c : Colour) (other : Tree) → count m (node_at turn l t x c other) ≡ cond (same l m) 1 0 + (count m t + count m other)
unfolding count
count-node_at m Left l t x c other = refl
count-node_at m Right l t x c other = omega arith

-- a link stands in a tree as often as on the path, beside it and at its end
pub count-plug : (m : Link) (C : List Frame) (t : Tree) → count m (plug C t) ≡ occurs m (links_of (entries C)) + (sides m C + count m t)
unfolding occurs sides
count-plug m [] t = omega arith
count-plug m (fr ∷ C) t = let here = count-node_at m fr.turn fr.link (plug C t) fr.item fr.colour fr.other in let on = count-plug m C t in omega (arith, here, on)

-- the same, where a node hangs at its end
pub count-at : (l : Link) (C : List Frame) (turn : Turn) (at : Link) (t : Tree) (x : ℕ) (c : Colour) (other : Tree)
    → count l (plug C (node_at turn at t x c other)) ≡ occurs l (at ∷ links_of (entries C)) + (sides l C + (count l t + count l other))
unfolding occurs
count-at l C turn at t x c other = let p = count-plug l C (node_at turn at t x c other) in let q = count-node_at l turn at t x c other in omega (arith, p, q)

pub none-here : (l m : Link) (k : ℕ) → cond (same l m) 1 0 + k ≡ 0 → l ≢ m
none-here l m k e q = let s : same l m ≡ true = ap (λ n. same n m) q ∙ same-refl m in let z : 1 + k ≡ 0 = ap (λ b. cond b 1 0 + k) (sym s) ∙ e in omega (arith, z)

pub apart-all : (P Q : Link → Type 0) → ((m : Link) → P m → Q m) → (ls : List Link) → AllByRecursion P ls → AllByRecursion Q ls
apart-all P Q k [] h = tt
apart-all P Q k (m ∷ ls) h = (k m h.0, apart-all P Q k ls h.1)

-- a link that does not occur in a list is none of its links
pub absent : (l : Link) (ks : List Link) → occurs l ks ≡ 0 → AllByRecursion (λ k. l ≢ k) ks
unfolding occurs
absent l [] z = tt
absent l (k ∷ ks) z = ((λ q. none-here k l (occurs l ks) z (sym q)), absent l ks (omega (arith, z)))

-- frames that are some have a last one
last-of : (fr : Frame) (C : List Frame) → (D : List Frame) × (gr : Frame) × (fr ∷ C ≡ D ++ gr ∷ [])
last-of fr [] = ([], fr, refl)
last-of fr (gr ∷ C) = let k = last-of gr C in (fr ∷ k.0, k.1, ap (λ D. fr ∷ D) k.2)

pub entries-snoc : (C : List Frame) (fr : Frame) → entries (C ++ fr ∷ []) ≡ entries C ++ (fr.link, fr.turn) ∷ []
entries-snoc [] fr = refl
entries-snoc (gr ∷ C) fr = ap (λ z. (gr.link, gr.turn) ∷ z) (entries-snoc C fr)

-- frames of a path with a last entry have a last frame
pub split-last : (C : List Frame) (es : List (Link × Turn)) (e : Link × Turn) → entries C ≡ es ++ e ∷ [] → (D : List Frame) × (fr : Frame) × (C ≡ D ++ fr ∷ []) × ((fr.link, fr.turn) ≡ e) × (entries D ≡ es)
split-last [] [] e q = cc
split-last [] (x ∷ es) e q = cc
split-last (fr ∷ C) es e q =
    let k = last-of fr C in let p = same_from_push (entries k.0) es (k.1.link, k.1.turn) e (sym (entries-snoc k.0 k.1) ∙ sym (ap entries k.2) ∙ q) in (k.0, k.1, k.2, p.1, p.0)

pub plug-snoc : (C : List Frame) (fr : Frame) (t : Tree) → plug (C ++ fr ∷ []) t ≡ plug C (under fr t)
plug-snoc [] fr t = refl
plug-snoc (gr ∷ C) fr t = ap (under gr) (plug-snoc C fr t)
