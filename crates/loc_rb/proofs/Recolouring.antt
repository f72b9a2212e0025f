-- A node takes another colour.
use Rattle.std.proofs.Common.{◌≡◌, ℕ, List, [], ◌∷◌, ◌++◌, refl, sym, ap, ◌∙◌, subst, Option, Some, ◌+◌, ◌≤◌, cond, arith}
use Rattle.std.specs.Prelude.{◌≢◌}
use Rattle.std.specs.List.{AllByRecursion}
use Rattle.loc_pool.specs.{declared.Link.Link, declared.Turn.Turn}
use Rattle.loc_pool.specs.{declared.Turn.TheVariants.Left, declared.Turn.TheVariants.Right, declared.Colour.Colour}
use Rattle.loc_pool.specs.Same.{same}
use Rattle.loc_rb.specs.Trees.{Row, Reading, Tree, Fits, Frame, node_at, plug, count, entries, flip, links_of, next, with_child, child_of, Leads, Carried}
use Rattle.loc_rb.specs.Nodes.{Nodes, live, IsLive, Colours, Within, IsOld}
use Rattle.loc_rb.specs.Places.{Spot}
use Rattle.loc_rb.proofs.Trees.{rename, carried, stays, fits-end, inner, top-node_at, node-row, occurs, sides, self-once, count-node_at, count-plug, count-at, absent}
use Rattle.loc_rb.proofs.OneChange.{live-rows, is-live, has-row, by-link, leads-of, top-plug, pushed, unpushed, frame_of}
use Rattle.loc_rb.proofs.Rotations.{node_at-flip}

pub some-row : (x y : Row) → Some x ≡ Some y → x ≡ y
some-row x y e = cc

child-same : (turn : Turn) (x : Row) (o : Option Link) → child_of turn x ≡ o → with_child turn o x ≡ x
child-same Left x o e = λ i. record x { left = sym e i }
child-same Right x o e = λ i. record x { right = sym e i }

-- a path above a row that changed is as it was
pub path-same : (f g : Reading) (at : Link) → ((l : Link) → l ≢ at → (x : Row) → f l ≡ Some x → g l ≡ Some x) → (es : List (Link × Turn)) → Leads f es at → AllByRecursion (λ m. at ≢ m) (links_of es) → Carried f g es es at
path-same f g at h [] l a = tt
path-same f g at h (e ∷ es) l a = (
  refl,
  (λ x q. let w = some-row (l.0.0) x (sym (l.0.1) ∙ q) in h e.0 (λ s. a.0 (sym s)) x q ∙ ap Some (sym (child-same e.1 x (Some (next es at)) (ap (child_of e.1) (sym w) ∙ l.0.2)))),
  path-same f g at h es l.1 a.1,
)

recolour-step : (f g : Reading) (turn : Turn) (l : Link) (s : Tree) (x : ℕ) (c c' : Colour) (other : Tree) → ((y : Row) → f l ≡ Some y → g l ≡ Some (record y { colour = c' })) → Fits g s → Fits g other → Fits f (node_at turn l s x c other) → Fits g (node_at turn l s x c' other)
recolour-step f g Left l s x c c' other k p o q = (k _ q.0, p, o)
recolour-step f g Right l s x c c' other k p o q = (k _ q.0, o, p)

pub colours-here : (n m : Nodes) (at : Link) (k : Colour) → Colours n m at k → (y : Row) → live n at ≡ Some y → live m at ≡ Some (record y { colour = k })
colours-here n m at k d y e = let p = live-rows n at y e in is-live m at _ (d.here y p.0) (d.current at ∙ p.1)

pub colours-others : (n m : Nodes) (at : Link) (k : Colour) → Colours n m at k → (l : Link) → l ≢ at → (y : Row) → live n l ≡ Some y → live m l ≡ Some y
colours-others n m at k d l o y e = let p = live-rows n l y e in is-live m l y (d.others l o ∙ p.0) (d.current l ∙ p.1)

-- what was live stays so
pub colours-live : (n m : Nodes) (at : Link) (k : Colour) → Colours n m at k → (l : Link) → IsLive n l → IsLive m l
colours-live n m at k d l h =
    by-link (IsLive m l) l at (λ q. subst (λ (i : Link). IsLive m i) (sym q) (_, colours-here n m at k d h.0 (ap (live n) (sym q) ∙ h.1))) (λ o. (h.0, colours-others n m at k d l o h.0 h.1))

pub within-colours : (n m : Nodes) (at : Link) (k : Colour) → Colours n m at k → IsLive n at → Within 0 0 n m
within-colours n m at k d h = record {
  made = d.made ∙ (let e : n.made ≡ n.made + 0 = omega arith in e);
  changed = (let e = d.changed in omega (arith, e));
  spare = (let e = d.spare in omega (arith, e));
  kept = d.kept;
  items = λ l x e. by-link (IsOld n x.item) l at
      (λ q. let r = has-row n at h in let z : Some x ≡ Some (record r.0 { colour = k }) = sym e ∙ ap m.rows q ∙ d.here r.0 r.1 in (at, r.0, r.1, (let w : (record r.0 { colour = k }) ≡ x = cc in ap (λ i. i.item) w)))
      (λ o. (l, x, sym (d.others l o) ∙ e, refl));
}

rename-self : (C : List Frame) → rename C (entries C) ≡ C
rename-self [] = refl
rename-self (fr ∷ C) = ap (λ D. fr ∷ D) (rename-self C)

-- the top of what hangs at the end of a path takes a colour
pub recolour-spot : (n m : Nodes) (es : List (Link × Turn)) (C : List Frame) (turn : Turn) (at : Link) (s : Tree) (x : ℕ) (c k : Colour) (other : Tree)
    → Colours n m at k → Spot n es C (node_at turn at s x c other) → Spot m es C (node_at turn at s x k other)
recolour-spot n m es C turn at s x c k other d sp =
    let f = live n in let g = live m in let T = node_at turn at s x c other in let U = node_at turn at s x k other in
    let start = fits-end f C T sp.fits in let parts = inner f turn at s x c other start in
    let once : (l : Link) → cond (same at l) 1 0 + (occurs l (links_of (entries C)) + (sides l C + (count l s + count l other))) ≤ 1 = λ l.
    let i = count-plug l C T in let j = count-node_at l turn at s x c other in let a = sp.apart l in omega (arith, i, j, a) in
    let none : occurs at (links_of (entries C)) + (sides at C + (count at s + count at other)) ≡ 0 = (let o = once at in let e = self-once at (occurs at (links_of (entries C)) + (sides at C + (count at s + count at other))) in omega (arith, o, e)) in
    let kept : (P : Link → ℕ) → P at ≡ 0 → (l : Link) → 1 ≤ P l → (y : Row) → f l ≡ Some y → g l ≡ Some y = λ P z l o. colours-others n m at k d l (λ q. let w = ap P q in let v : ⊥ = omega (arith, w, z, o) in v) in
    let above = path-same f g at (colours-others n m at k d) (entries C) (leads-of f C T at sp.fits (top-node_at turn at s x c other) (node-row f turn at s x c other start)) (absent at (links_of (entries C)) (omega (arith, none))) in
    let on = carried f g C (entries C) T U at (kept (λ l. sides l C) (omega (arith, none))) sp.fits above (top-node_at turn at s x k other)
    (recolour-step f g turn at s x c k other (colours-here n m at k d) (stays f g s (kept (λ l. count l s) (omega (arith, none))) parts.0) (stays f g other (kept (λ l. count l other) (omega (arith, none))) parts.1) start) in
    record {
      path = sp.path;
      fits = subst (λ (D : List Frame). Fits g (plug D U)) (rename-self C) on.0;
      apart = λ l. let i = count-at l C turn at s x c other in let j = count-at l C turn at s x k other in let a = sp.apart l in omega (arith, i, j, a);
      root = d.root ∙ sp.root ∙ top-plug C T at (top-node_at turn at s x c other) ∙ sym (top-plug C U at (top-node_at turn at s x k other));
    }

-- the child on one side takes a colour
pub recolour-child : (n m : Nodes) (es : List (Link × Turn)) (C : List Frame) (side : Turn) (up : Link) (turn : Turn) (at : Link) (s : Tree) (x : ℕ) (c k : Colour) (other : Tree) (y : ℕ) (cu : Colour) (o : Tree)
    → Colours n m at k → Spot n es C (node_at side up (node_at turn at s x c other) y cu o) → Spot m es C (node_at side up (node_at turn at s x k other) y cu o)
recolour-child n m es C side up turn at s x c k other y cu o d sp =
    let p = pushed n es (up, side) C (node_at turn at s x c other) y cu o sp in
    let q = recolour-spot n m (es ++ (up, side) ∷ []) (C ++ frame_of (up, side) y cu o ∷ []) turn at s x c k other d p in
    unpushed m (es ++ (up, side) ∷ []) es (up, side) C (node_at turn at s x k other) y cu o q sp.path

-- the same on the other side
pub recolour-other : (n m : Nodes) (es : List (Link × Turn)) (C : List Frame) (side : Turn) (up : Link) (turn : Turn) (at : Link) (s : Tree) (x : ℕ) (c k : Colour) (other : Tree) (y : ℕ) (cu : Colour) (t : Tree)
    → Colours n m at k → Spot n es C (node_at side up t y cu (node_at turn at s x c other)) → Spot m es C (node_at side up t y cu (node_at turn at s x k other))
recolour-other n m es C side up turn at s x c k other y cu t d sp =
    subst (λ (z : Tree). Spot m es C z) (node_at-flip side up (node_at turn at s x k other) y cu t)
    (recolour-child n m es C (flip side) up turn at s x c k other y cu t d (subst (λ (z : Tree). Spot n es C z) (sym (node_at-flip side up (node_at turn at s x c other) y cu t)) sp))
