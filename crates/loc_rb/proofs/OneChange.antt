-- What one change does to a tree that hangs at the newest root.
use Rattle.std.proofs.Common.{◌≡◌, ℕ, zero, suc, List, [], ◌∷◌, ◌++◌, refl, sym, ap, ◌∙◌, subst, Option, Some, None, ◌+◌, ◌≤◌, ◌<◌, cond, true, false, arith, ◌⊎◌, inl, inr, length}
use Rattle.std.specs.Prelude.{◌≢◌}
use Rattle.std.specs.List.{AllByRecursion}
use Rattle.loc_pool.specs.{declared.Link.Link, declared.Turn.Turn}
use Rattle.loc_pool.specs.{declared.Turn.TheVariants.Left, declared.Turn.TheVariants.Right, declared.Colour.Colour}
use Rattle.loc_pool.specs.Same.{same}
use Rattle.loc_pool.proofs.Same.{same-eq}
pub use Rattle.loc_pool.proofs.Same.{not-same, by-link, some-link}
use Rattle.loc_rb.specs.Trees.{Row, Reading, Tree, leaf, node, top, Fits, Frame, node_at, under, plug, entries, links_of, next, Carried, SameButLinks, count, IsApart, child_of, Once, Leads}
use Rattle.loc_rb.specs.Nodes.{Nodes, live, IsLive, IsLiveOrNone, HasRow, CanChange, Changes, Roots, StandFor}
use Rattle.loc_rb.specs.{Places.Spot, Steps.Replaced, Steps.CanTransplant}
use Rattle.loc_rb.proofs.Trees.{rename, change-tree, stays, fits-end, inner, top-node_at, node-row, occurs, sides, self-once, count-at, absent, split-last, plug-snoc}
pub use Rattle.loc_rb.proofs.Trees.{entries-snoc}

pub live-rows : (n : Nodes) (l : Link) (x : Row) → live n l ≡ Some x → (n.rows l ≡ Some x) × (n.current l ≡ true)
live-rows n l x e = (elim (n.current l) as (λ b. cond b (n.rows l) None ≡ Some x → (n.rows l ≡ Some x) × (b ≡ true)) [ true ↦ λ q. (q, refl) | false ↦ λ q. cc ]) e

pub is-live : (n : Nodes) (l : Link) (x : Row) → n.rows l ≡ Some x → n.current l ≡ true → live n l ≡ Some x
is-live n l x e c = ap (λ b. cond b (n.rows l) None) c ∙ e

pub has-row : (n : Nodes) (l : Link) → IsLive n l → HasRow n l
has-row n l h = (h.0, (live-rows n l h.0 h.1).0)

pub occurs-not : (l : Link) (ks : List Link) → AllByRecursion (λ k. l ≢ k) ks → occurs l ks ≡ 0
unfolding occurs
occurs-not l [] h = refl
occurs-not l (k ∷ ks) h = let e : ◌≡◌ {A = ℕ} (cond (same k l) 1 0) 0 = ap (λ b. cond b 1 0) (not-same k l (λ q. h.0 (sym q))) in let r = occurs-not l ks h.1 in omega (arith, e, r)

pub once-occurs : (l : Link) (ks : List Link) → Once ks → occurs l ks ≤ 1
unfolding occurs
once-occurs l [] o = omega arith
once-occurs l (k ∷ ks) o = (elim (same k l) as (λ b. same k l ≡ b → cond b 1 0 + occurs l ks ≤ 1) [
  | true ↦ λ e. let z = occurs-not l ks (subst (λ (m : Link). AllByRecursion (λ i. m ≢ i) ks) (same-eq k l e) o.0) in omega (arith, z)
  | false ↦ λ e. let r = once-occurs l ks o.1 in omega (arith, r)
]) refl

pub occurs-once : (ks : List Link) → ((l : Link) → occurs l ks ≤ 1) → Once ks
unfolding occurs
occurs-once [] h = tt
occurs-once (k ∷ ks) h = (
  absent k ks (let z : cond (same k k) 1 0 + occurs k ks ≤ 1 = h k in let e = self-once k (occurs k ks) in omega (arith, z, e)),
  occurs-once ks (λ l. let z : cond (same k l) 1 0 + occurs l ks ≤ 1 = h l in omega (arith, z)),
)

-- a link with a row stands no more often among those that stand for others
fewer : (n : Nodes) (l : Link) (x : Row) → n.rows l ≡ Some x → (ks ks' : List Link) → StandFor n ks ks' → occurs l ks' ≤ occurs l ks
unfolding occurs
fewer n l x e [] [] s = omega arith
fewer n l x e [] (k' ∷ ks') s = absurd s
fewer n l x e (k ∷ ks) [] s = absurd s
fewer n l x e (k ∷ ks) (k' ∷ ks') s = let r = fewer n l x e ks ks' s.1 in elim s.0 as (λ _. cond (same k' l) 1 0 + occurs l ks' ≤ cond (same k l) 1 0 + occurs l ks) [
  | inl i ↦ let q : ◌≡◌ {A = ℕ} (cond (same k' l) 1 0) (cond (same k l) 1 0) = ap (λ m. cond (same m l) 1 0) i in omega (arith, q, r)
  | inr i ↦ let q : ◌≡◌ {A = ℕ} (cond (same k' l) 1 0) 0 = ap (λ b. cond b 1 0) (not-same k' l (λ z. let r : None ≡ Some x = sym i ∙ ap n.rows z ∙ e in cc)) in omega (arith, q, r)
]

-- nor among them where it was none of the others
pub not-new : (n : Nodes) (l : Link) (x : Row) → n.rows l ≡ Some x → (ks ks' : List Link) → StandFor n ks ks' → AllByRecursion (λ k. l ≢ k) ks → AllByRecursion (λ k. l ≢ k) ks'
not-new n l x e ks ks' s a = absent l ks' (let z = occurs-not l ks a in let q = fewer n l x e ks ks' s in omega (arith, z, q))

pub none-or : (i : ℕ) → (i ≡ 0) ⊎ (1 ≤ i)
none-or zero = inl refl
none-or (suc i) = inr (omega arith)

pub either-one : (i j : ℕ) → 1 ≤ i + j → (1 ≤ i) ⊎ (1 ≤ j)
either-one zero j h = inr (omega (arith, h))
either-one (suc i) j h = inl (omega arith)

-- links that stood apart from the path and `at` stand apart from those that stand for them
pub apart-new : (n m : Nodes) (es es' : List (Link × Turn)) (at r : Link) (turn : Turn) (to : Option Link) (R : Link → ℕ) → Changes n m es es' at r turn to
    → ((l : Link) → 1 ≤ R l → IsLive n l) → ((l : Link) → occurs l (at ∷ links_of es) + R l ≤ 1) → (l : Link) → occurs l (r ∷ links_of es') + R l ≤ 1
apart-new n m es es' at r turn to R d live_R apart l = elim (none-or (R l)) as (λ _. occurs l (r ∷ links_of es') + R l ≤ 1) [
  | inl z ↦ let o = once-occurs l (r ∷ links_of es') d.rows.once in omega (arith, o, z)
  | inr z ↦ let h = has-row n l (live_R l z) in let q = fewer n l h.0 h.1 (at ∷ links_of es) (r ∷ links_of es') d.rows.stand_for in let a = apart l in omega (arith, q, a)
]

-- a link that stands in a tree has a row
pub in-row : (f : Reading) (l : Link) (t : Tree) → Fits f t → 1 ≤ count l t → (y : Row) × (f l ≡ Some y)
unfolding count
in-row f l leaf p h = let z : 1 ≤ 0 = h in absurd (let q : ⊥ = omega (arith, z) in q)
in-row f l (node k a x c b) p h =
    by-link ((y : Row) × (f l ≡ Some y)) k l (λ q. (_, ap f (sym q) ∙ p.0))
    (λ d. let z : ◌≡◌ {A = ℕ} (cond (same k l) 1 0) 0 = ap (λ i. cond i 1 0) (not-same k l d) in let o : 1 ≤ cond (same k l) 1 0 + (count l a + count l b) = h in
    elim (either-one (count l a) (count l b) (omega (arith, o, z))) as (λ _. (y : Row) × (f l ≡ Some y)) [ inl i ↦ in-row f l a p.1 i | inr i ↦ in-row f l b p.2 i ])

-- a live link that is not on the path stays live
pub others-live : (n m : Nodes) (es es' : List (Link × Turn)) (at r : Link) (turn : Turn) (to : Option Link) → Changes n m es es' at r turn to
    → (l : Link) → AllByRecursion (λ k. l ≢ k) (at ∷ links_of es) → (y : Row) → live n l ≡ Some y → live m l ≡ Some y
others-live n m es es' at r turn to d l a y e =
    let p = live-rows n l y e in
    is-live m l y (d.rows.others l (not-new n l y p.0 (at ∷ links_of es) (r ∷ links_of es') d.rows.stand_for a) y p.0) (d.rows.current l a p.1)

pub SameButLinks-refl : (C : List Frame) → SameButLinks C C
SameButLinks-refl [] = tt
SameButLinks-refl (fr ∷ C) = (refl, refl, refl, refl, SameButLinks-refl C)

pub SameButLinks-trans : (C D E : List Frame) → SameButLinks C D → SameButLinks D E → SameButLinks C E
SameButLinks-trans [] [] [] p q = tt
SameButLinks-trans [] [] (gr ∷ E) p q = absurd q
SameButLinks-trans [] (gr ∷ D) E p q = absurd p
SameButLinks-trans (fr ∷ C) [] E p q = absurd p
SameButLinks-trans (fr ∷ C) (gr ∷ D) [] p q = absurd q
SameButLinks-trans (fr ∷ C) (gr ∷ D) (hr ∷ E) p q = (q.0 ∙ p.0, q.1 ∙ p.1, q.2 ∙ p.2, q.3 ∙ p.3, SameButLinks-trans C D E p.4 q.4)

-- what holds of no frames, and of one pair more that is the same but for its links, holds of frames that are so
pub alike-induction : (P : List Frame → List Frame → Type 0) → P [] [] → ((fr gr : Frame) (C D : List Frame) → SameButLinks (fr ∷ C) (gr ∷ D) → P C D → P (fr ∷ C) (gr ∷ D)) → (C D : List Frame) → SameButLinks C D → P C D
alike-induction P z s [] [] p = z
alike-induction P z s [] (gr ∷ D) p = absurd p
alike-induction P z s (fr ∷ C) [] p = absurd p
alike-induction P z s (fr ∷ C) (gr ∷ D) p = s fr gr C D p (alike-induction P z s C D p.4)

pub SameButLinks-snoc : (C D : List Frame) (fr gr : Frame) → SameButLinks C D → SameButLinks (fr ∷ []) (gr ∷ []) → SameButLinks (C ++ fr ∷ []) (D ++ gr ∷ [])
SameButLinks-snoc C D fr gr p q = alike-induction (λ F G. SameButLinks (F ++ fr ∷ []) (G ++ gr ∷ [])) q (λ hr kr F G s h. (s.0, s.1, s.2, s.3, h)) C D p

pub sides-SameButLinks : (l : Link) (C D : List Frame) → SameButLinks C D → sides l D ≡ sides l C
unfolding sides
sides-SameButLinks l = alike-induction (λ C D. sides l D ≡ sides l C) refl (λ fr gr C D s h. (let a : count l gr.other ≡ count l fr.other = ap (count l) s.3 in omega (arith, a, h)))

pub top-plug : (C : List Frame) (t : Tree) (at : Link) → top t ≡ Some at → top (plug C t) ≡ Some (next (entries C) at)
top-plug [] t at e = e
top-plug (fr ∷ C) t at e = top-node_at fr.turn fr.link (plug C t) fr.item fr.colour fr.other

-- what one change does: v hangs in the place of s
pub child-replaced : (n m : Nodes) (es es' : List (Link × Turn)) (at r : Link) (turn : Turn) (to : Option Link) (C : List Frame) (x : ℕ) (c : Colour) (other s v : Tree)
    → Changes n m es es' at r turn to → Spot n es C (node_at turn at s x c other) → to ≡ top v → Fits (live n) v → IsApart (plug C (node_at turn at v x c other))
    → Replaced m es' C (node_at turn r v x c other)
child-replaced n m es es' at r turn to C x c other s v given sp e q apart =
    let d : Changes n m (entries C) es' at r turn (top v) = subst (λ (z : List (Link × Turn) × Option Link). Changes n m z.0 es' at r turn z.1) (λ i. (sym sp.path i, e i)) given in
    let D = rename C es' in let T = node_at turn at s x c other in
    let kept : (l : Link) → 1 ≤ sides l C + (count l v + count l other) → (y : Row) → live n l ≡ Some y → live m l ≡ Some y = λ l o.
    others-live n m (entries C) es' at r turn (top v) d l (absent l (at ∷ links_of (entries C)) (let k = count-at l C turn at v x c other in let a = apart l in omega (arith, k, a, o))) in
    let on = change-tree (live n) (live m) C es' at r turn x c other s v d.rows.here d.rows.above kept sp.fits q in
    let R : Link → ℕ = λ l. sides l C + (count l v + count l other) in
    let live_R : (l : Link) → 1 ≤ R l → IsLive n l = λ l h.
    elim (none-or (count l v)) as (λ _. IsLive n l) [
      | inl z ↦ let k = count-at l C turn at s x c other in in-row (live n) l (plug C T) sp.fits (let h' : 1 ≤ sides l C + (count l v + count l other) = h in omega (arith, z, k, h'))
      | inr z ↦ in-row (live n) l v q z
    ] in
    let A = apart-new n m (entries C) es' at r turn (top v) R d live_R (λ l. let k = count-at l C turn at v x c other in let a = apart l in omega (arith, k, a)) in (
      D,
      on.3,
      record {
        path = on.2;
        fits = on.0;
        apart = λ l. let k = count-at l D turn r v x c other in let a : occurs l (r ∷ links_of es') + (sides l C + (count l v + count l other)) ≤ 1 = A l in let i = sides-SameButLinks l C D on.3 in
            let j : occurs l (r ∷ links_of (entries D)) ≡ occurs l (r ∷ links_of es') = ap (λ (z : List (Link × Turn)). occurs l (r ∷ links_of z)) on.2 in omega (arith, k, a, i, j);
        root = d.rows.from_root (sp.root ∙ top-plug C T at (top-node_at turn at s x c other)) ∙ sym on.1;
      },
    )

pub node-child : (f : Reading) (turn : Turn) (l : Link) (t : Tree) (x : ℕ) (c : Colour) (other : Tree) → Fits f (node_at turn l t x c other) → (y : Row) × (f l ≡ Some y) × (child_of turn y ≡ top t)
node-child f Left l t x c other p = (_, p.0, refl)
node-child f Right l t x c other p = (_, p.0, refl)

pub leads-of : (f : Reading) (C : List Frame) (t : Tree) (at : Link) → Fits f (plug C t) → top t ≡ Some at → (y : Row) × (f at ≡ Some y) → Leads f (entries C) at
leads-of f [] t at p e h = h
leads-of f (fr ∷ C) t at p e h =
    let k = node-child f fr.turn fr.link (plug C t) fr.item fr.colour fr.other p in
    ((k.0, k.1, k.2 ∙ top-plug C t at e), leads-of f C t at (inner f fr.turn fr.link (plug C t) fr.item fr.colour fr.other p).0 e h)

-- a node of the tree can be changed
pub can-change : (n : Nodes) (es : List (Link × Turn)) (C : List Frame) (turn : Turn) (at : Link) (s : Tree) (x : ℕ) (c : Colour) (other : Tree) (o : Option Link)
    → Spot n es C (node_at turn at s x c other) → IsLiveOrNone n o → CanChange n es at o
can-change n es C turn at s x c other o sp t =
    let T = node_at turn at s x c other in let e = top-node_at turn at s x c other in
    subst (λ (z : List (Link × Turn)). CanChange n z at o) sp.path (record {
      leads = leads-of (live n) C T at sp.fits e (node-row (live n) turn at s x c other (fits-end (live n) C T sp.fits));
      once = occurs-once (at ∷ links_of (entries C)) (λ l. let k = count-at l C turn at s x c other in let a = sp.apart l in omega (arith, k, a));
      from = inl (sp.root ∙ top-plug C T at e);
      to = t;
    })

pub top-live : (n : Nodes) (v : Tree) (o : Option Link) → Fits (live n) v → o ≡ top v → IsLiveOrNone n o
top-live n leaf o p e = λ l q. let r : None ≡ Some l = sym e ∙ q in cc
top-live n (node k a x c b) o p e = λ l q. subst (λ (z : Link). (y : Row) × (live n z ≡ Some y)) (some-link k l (sym e ∙ q)) (_, p.0)

-- the frame of an entry
abbrev pub frame_of : Link × Turn → ℕ → Colour → Tree → Frame
frame_of e x c other = record { link = e.0; turn = e.1; item = x; colour = c; other = other }

-- a path without its last entry
pub record Popped (n : Nodes) (es : List (Link × Turn)) (e : Link × Turn) (C : List Frame) (t : Tree) : Type 0 where
  pub front : List Frame
  pub item : ℕ
  pub colour : Colour
  pub other : Tree
  pub is : C ≡ front ++ frame_of e item colour other ∷ []
  pub spot : Spot n es front (node_at e.1 e.0 t item colour other)

-- the same tree at the same root, by other frames
spot-by : (n : Nodes) (es ps : List (Link × Turn)) (C D : List Frame) (t u : Tree) → plug C t ≡ plug D u → entries D ≡ ps → Spot n es C t → Spot n ps D u
spot-by n es ps C D t u e q sp = record { path = q; fits = subst (λ (z : Tree). Fits (live n) z) e sp.fits; apart = subst (λ (z : Tree). IsApart z) e sp.apart; root = sp.root ∙ ap top e }

-- the last entry comes off, where its frame is known
pub unpushed : (n : Nodes) (ps es : List (Link × Turn)) (e : Link × Turn) (C : List Frame) (t : Tree) (x : ℕ) (c : Colour) (other : Tree) → Spot n ps (C ++ frame_of e x c other ∷ []) t → entries C ≡ es → Spot n es C (node_at e.1 e.0 t x c other)
unpushed n ps es e C t x c other sp q = let fr = frame_of e x c other in spot-by n ps es (C ++ fr ∷ []) C t (under fr t) (plug-snoc C fr t) q sp

-- the last entry comes off a path
pub popped : (n : Nodes) (ps es : List (Link × Turn)) (e : Link × Turn) (C : List Frame) (t : Tree) → Spot n ps C t → ps ≡ es ++ e ∷ [] → Popped n es e C t
popped n ps es e C t sp q =
    let k = split-last C es e (sp.path ∙ q) in let fr = k.1 in
    let F : Link × Turn → Type 0 = λ d. (C ≡ k.0 ++ frame_of d fr.item fr.colour fr.other ∷ []) × Spot n es k.0 (node_at d.1 d.0 t fr.item fr.colour fr.other) in
    let there : F (fr.link, fr.turn) = (k.2, spot-by n ps es C k.0 t (under fr t) (ap (λ D. plug D t) k.2 ∙ plug-snoc k.0 fr t) k.4 sp) in
    let r = subst F k.3 there in
    record { front = k.0; item = fr.item; colour = fr.colour; other = fr.other; is = r.0; spot = r.1 }

-- a path with one more entry
pub pushed : (n : Nodes) (es : List (Link × Turn)) (e : Link × Turn) (C : List Frame) (t : Tree) (x : ℕ) (c : Colour) (other : Tree) → Spot n es C (node_at e.1 e.0 t x c other) → Spot n (es ++ e ∷ []) (C ++ frame_of e x c other ∷ []) t
pushed n es e C t x c other sp =
    let fr = frame_of e x c other in spot-by n es (es ++ e ∷ []) C (C ++ fr ∷ []) (under fr t) t (sym (plug-snoc C fr t)) (entries-snoc C fr ∙ ap (λ z. z ++ e ∷ []) sp.path) sp

-- an entry goes back on a path that was replaced
pub pushed-replaced : (n : Nodes) (es : List (Link × Turn)) (l l' : Link) (turn : Turn) (C : List Frame) (t : Tree) (x : ℕ) (c : Colour) (other : Tree) → Replaced n es C (node_at turn l' t x c other) → Replaced n (es ++ (l', turn) ∷ []) (C ++ frame_of (l, turn) x c other ∷ []) t
pushed-replaced n es l l' turn C t x c other m =
    (m.0 ++ frame_of (l', turn) x c other ∷ [], SameButLinks-snoc C m.0 (frame_of (l, turn) x c other) (frame_of (l', turn) x c other) m.1 (refl, refl, refl, refl, tt), pushed n es (l', turn) m.0 t x c other m.2)

-- a path has as many entries under its new links
pub length-carried : (f g : Reading) (es es' : List (Link × Turn)) (r : Link) → Carried f g es es' r → length es' ≡ length es
length-carried f g [] [] r k = refl
length-carried f g [] (e' ∷ es') r k = absurd k
length-carried f g (e ∷ es) [] r k = absurd k
length-carried f g (e ∷ es) (e' ∷ es') r k = let q = length-carried f g es es' r k.2 in omega (arith, q)

pub no-frames : (C : List Frame) → entries C ≡ [] → C ≡ []
no-frames [] e = refl
no-frames (fr ∷ C) e = cc

-- the whole tree is exchanged
pub root-put : (n m : Nodes) (ps es : List (Link × Turn)) (C : List Frame) (s v : Tree) (o : Option Link) → ps ≡ [] → es ≡ [] → CanTransplant n ps C s v o → Roots n m o → Replaced m es C v
root-put n m ps es C s v o z w h d =
    let e = sym (no-frames C (h.spot.path ∙ z)) in let l : (k : Link) → live n k ≡ live m k = λ k i. cond (sym (d.current k) i) (sym (d.rows k) i) None in (
      C,
      SameButLinks-refl C,
      record {
        path = h.spot.path ∙ z ∙ sym w;
        fits = subst (λ (D : List Frame). Fits (live m) (plug D v)) e (stays (live n) (live m) v (λ k _ y q. sym (l k) ∙ q) h.fits);
        apart = h.apart;
        root = d.root ∙ h.to ∙ ap (λ (D : List Frame). top (plug D v)) e;
      },
    )

-- what hangs at the end of a path is exchanged
pub transplanted : (n m : Nodes) (ps es es' : List (Link × Turn)) (at r : Link) (turn : Turn) (o : Option Link) (C : List Frame) (s v : Tree)
    → ps ≡ es ++ (at, turn) ∷ [] → Changes n m es es' at r turn o → CanTransplant n ps C s v o → Replaced m (es' ++ (r, turn) ∷ []) C v
transplanted n m ps es es' at r turn o C s v q d h =
    let k = popped n ps es (at, turn) C s h.spot q in
    let fr = frame_of (at, turn) k.item k.colour k.other in
    let same_tree : plug C v ≡ plug k.front (under fr v) = ap (λ D. plug D v) k.is ∙ plug-snoc k.front fr v in
    let mv = child-replaced n m es es' at r turn o k.front k.item k.colour k.other s v d k.spot h.to h.fits (subst (λ (z : Tree). IsApart z) same_tree h.apart) in
    subst (λ (D : List Frame). Replaced m (es' ++ (r, turn) ∷ []) D v) (sym k.is) (pushed-replaced m es' at r turn k.front v k.item k.colour k.other mv)

-- a path from which nothing was taken
pub no-entries : (ps : List (Link × Turn)) → (0 < length ps → false ≡ true) → ps ≡ []
no-entries [] h = refl
no-entries (p ∷ ps) h = let e : false ≡ true = h (omega arith) in cc
