-- How a store that copies nodes meets `change`: a pointer is written in place, or the node is copied and the pointer
-- above it is changed in the same way. These lemmas speak of `Nodes` alone, and serve any store.
use Rattle.std.proofs.Common.{◌≡◌, List, [], ◌∷◌, ◌++◌, refl, sym, ap, ◌∙◌, subst, Option, Some, None, cond, true, false, ◌⊎◌, inl, inr}
use Rattle.std.specs.Prelude.{◌≢◌}
use Rattle.std.specs.List.{AllByRecursion}
use Rattle.loc_pool.specs.{declared.Link.Link, declared.Turn.Turn}
use Rattle.loc_pool.specs.declared.Turn.TheVariants.{Left, Right}
use Rattle.loc_rb.specs.Trees.{Row, Reading, with_child, links_of, next, Once, Leads, Carried}
use Rattle.loc_rb.specs.Nodes.{Nodes, live, IsLive, IsOld, KeepsItems, StandsFor, StandFor, CanChange}
use Rattle.loc_rb.specs.Exchanges.{Exchanges, InPlace, Copies}
use Rattle.loc_rb.proofs.{Counts.keeps-trans, Trees.apart-all, Recolouring.some-row, Recolouring.path-same}
use Rattle.loc_rb.proofs.OneChange.{live-rows, is-live, some-link, not-new}
pub use Rattle.loc_rb.proofs.OneChange.{by-link}

item-same : (turn : Turn) (x : Row) (o : Option Link) → (with_child turn o x).item ≡ x.item
item-same Left x o = refl
item-same Right x o = refl

stand-refl : (n : Nodes) (ls : List Link) → StandFor n ls ls
stand-refl n [] = tt
stand-refl n (l ∷ ls) = (inl refl, stand-refl n ls)

pub leads-end : (f : Reading) (es : List (Link × Turn)) (at : Link) → Leads f es at → (x : Row) × (f at ≡ Some x)
leads-end f [] at l = l
leads-end f (e ∷ es) at l = leads-end f es at l.1

-- an item of a row that is another with one pointer changed
item-old : (n m : Nodes) (at r l : Link) (turn : Turn) (to : Option Link) (x y : Row) → n.rows at ≡ Some x → m.rows r ≡ Some (with_child turn to x) → l ≡ r → m.rows l ≡ Some y → IsOld n y.item
item-old n m at r l turn to x y p h s e = let w = some-row y (with_child turn to x) (sym e ∙ ap m.rows s ∙ h) in (at, x, p, sym (item-same turn x to) ∙ sym (ap (λ (z : Row). z.item) w))

-- a pointer written in place is such an exchange
pub in-place : (n m : Nodes) (es : List (Link × Turn)) (at : Link) (turn : Turn) (to : Option Link) → InPlace n m at turn to → CanChange n es at to → Exchanges n m es es at at turn to
in-place n m es at turn to d k =
    let row = leads-end (live n) es at k.leads in let p = live-rows n at row.0 row.1 in
    record {
      here = λ x q. let z = live-rows n at x q in is-live m at (with_child turn to x) (d.here x z.0) (d.current at ∙ z.1);
      above = path-same (live n) (live m) at (λ l o x q. let z = live-rows n l x q in is-live m l x (d.others l o ∙ z.0) (d.current l ∙ z.1)) es k.leads k.once.0;
      stand_for = stand-refl n (at ∷ links_of es);
      once = k.once;
      others = λ l a x q. d.others l a.0 ∙ q;
      current = λ l a q. d.current l ∙ q;
      from_root = λ q. d.root ∙ q;
      other_root = λ a. d.root;
      items = λ l y e. by-link (IsOld n y.item) l at (λ s. item-old n m at at l turn to row.0 y p.0 (d.here row.0 p.0) s e) (λ o. (l, y, sym (d.others l o) ∙ e, refl));
    }

-- what is live stays so, but for the node that was copied
copied-live : (n m : Nodes) (at r : Link) (turn : Turn) (to : Option Link) → Copies n m at r turn to → (l : Link) → l ≢ at → (x : Row) → live n l ≡ Some x → live m l ≡ Some x
copied-live n m at r turn to d l o x q =
    let z = live-rows n l x q in let f : l ≢ r = λ s. (let w : None ≡ Some x = sym d.fresh ∙ ap n.rows (sym s) ∙ z.0 in cc) in
    is-live m l x (d.others l f ∙ z.0) (d.current l o z.1)

copied-items : (n m : Nodes) (at r : Link) (turn : Turn) (to : Option Link) (x : Row) → Copies n m at r turn to → n.rows at ≡ Some x → KeepsItems n m
copied-items n m at r turn to x d p = λ l y e. by-link (IsOld n y.item) l r (λ s. item-old n m at r l turn to x y p (d.here x p) s e) (λ o. (l, y, sym (d.others l o) ∙ e, refl))

copied-here : (n m : Nodes) (at r : Link) (turn : Turn) (to : Option Link) → Copies n m at r turn to → (x : Row) → live n at ≡ Some x → live m r ≡ Some (with_child turn to x)
copied-here n m at r turn to d x q = is-live m r (with_child turn to x) (d.here x (live-rows n at x q).0) d.new

-- a copy of a node that hangs under no other, where o is the newest root afterwards
pub copied-top : (n m : Nodes) (at r : Link) (turn : Turn) (to o : Option Link) → Copies n m at r turn to → CanChange n [] at to → (n.root ≡ Some at → o ≡ Some r) → (n.root ≢ Some at → o ≡ n.root)
    → Exchanges n (record m { root = o }) [] [] at r turn to
copied-top n m at r turn to o d k was not = record {
  here = copied-here n m at r turn to d;
  above = tt;
  stand_for = (inr d.fresh, tt);
  once = (tt, tt);
  others = λ l a x q. d.others l a.0 ∙ q;
  current = λ l a q. d.current l a.0 q;
  from_root = was;
  other_root = λ a. not a.0;
  items = copied-items n m at r turn to k.leads.0 d (live-rows n at k.leads.0 k.leads.1).0;
}

next-snoc : (es : List (Link × Turn)) (e : Link × Turn) (r : Link) → next (es ++ e ∷ []) r ≡ next es e.0
next-snoc [] e r = refl
next-snoc (f ∷ es) e r = refl

-- what holds on a longer path holds of its last entry and on the rest, and the other way
all-up : (P : Link → Type 0) (es : List (Link × Turn)) (e : Link × Turn) → AllByRecursion P (links_of (es ++ e ∷ [])) → AllByRecursion P (e.0 ∷ links_of es)
all-up P [] e a = a
all-up P (f ∷ es) e a = let q = all-up P es e a.1 in (q.0, (a.0, q.1))

all-down : (P : Link → Type 0) (es : List (Link × Turn)) (e : Link × Turn) → AllByRecursion P (e.0 ∷ links_of es) → AllByRecursion P (links_of (es ++ e ∷ []))
all-down P [] e a = a
all-down P (f ∷ es) e a = (a.1.0, all-down P es e (a.0, a.1.1))

once-up : (es : List (Link × Turn)) (e : Link × Turn) → Once (links_of (es ++ e ∷ [])) → Once (e.0 ∷ links_of es)
once-up [] e o = o
once-up (f ∷ es) e o = let q = once-up es e o.1 in let a = all-up (λ m. f.0 ≢ m) es e o.0 in (((λ s. a.0 (sym s)), q.0), (a.1, q.1))

once-down : (es : List (Link × Turn)) (e : Link × Turn) → Once (e.0 ∷ links_of es) → Once (links_of (es ++ e ∷ []))
once-down [] e o = o
once-down (f ∷ es) e o = (all-down (λ m. f.0 ≢ m) es e ((λ s. o.0.0 (sym s)), o.1.0), once-down es e (o.0.1, o.1.1))

stand-down : (n : Nodes) (es es' : List (Link × Turn)) (e e' : Link × Turn) → StandFor n (e.0 ∷ links_of es) (e'.0 ∷ links_of es') → StandFor n (links_of (es ++ e ∷ [])) (links_of (es' ++ e' ∷ []))
stand-down n [] [] e e' h = h
stand-down n [] (f' ∷ es') e e' h = absurd h.1
stand-down n (f ∷ es) [] e e' h = absurd h.1
stand-down n (f ∷ es) (f' ∷ es') e e' h = (h.1.0, stand-down n es es' e e' (h.0, h.1.1))

stand-before : (n m : Nodes) → ((l : Link) → m.rows l ≡ None → n.rows l ≡ None) → (ls ls' : List Link) → StandFor m ls ls' → StandFor n ls ls'
stand-before n m k [] [] h = tt
stand-before n m k [] (l' ∷ ls') h = absurd h
stand-before n m k (l ∷ ls) [] h = absurd h
stand-before n m k (l ∷ ls) (l' ∷ ls') h = ((elim h.0 as (λ _. StandsFor n l l') [ inl e ↦ inl e | inr e ↦ inr (k l' e) ]), stand-before n m k ls ls' h.1)

leads-up : (f : Reading) (es : List (Link × Turn)) (e : Link × Turn) (at : Link) → Leads f (es ++ e ∷ []) at → Leads f es e.0
leads-up f [] e at l = (l.0.0, l.0.1)
leads-up f (g ∷ es) e at l = ((l.0.0, l.0.1, l.0.2 ∙ ap Some (next-snoc es e at)), leads-up f es e at l.1)

leads-kept : (f g : Reading) (es : List (Link × Turn)) (at : Link) → AllByRecursion (λ l. (x : Row) → f l ≡ Some x → g l ≡ Some x) (at ∷ links_of es) → Leads f es at → Leads g es at
leads-kept f g [] at k l = (l.0, k.0 l.0 l.1)
leads-kept f g (e ∷ es) at k l = ((l.0.0, k.1.0 l.0.0 l.0.1, l.0.2), leads-kept f g es at (k.0, k.1.1) l.1)

-- a link without a row is none of the path's
not-on : (f : Reading) (r : Link) (es : List (Link × Turn)) (at : Link) → f r ≡ None → Leads f es at → AllByRecursion (λ l. r ≢ l) (at ∷ links_of es)
not-on f r [] at z l = ((λ s. let w : None ≡ Some l.0 = sym z ∙ ap f s ∙ l.1 in cc), tt)
not-on f r (e ∷ es) at z l = let q = not-on f r es at z l.1 in (q.0, ((λ s. let w : None ≡ Some l.0.0 = sym z ∙ ap f s ∙ l.0.1 in cc), q.1))

-- the pointer above a copied node can be changed
pub can-go-up : (n m : Nodes) (es : List (Link × Turn)) (e : Link × Turn) (at r : Link) (turn : Turn) (to : Option Link) → Copies n m at r turn to → CanChange n (es ++ e ∷ []) at to → CanChange m es e.0 (Some r)
can-go-up n m es e at r turn to d k =
    let apart = all-up (λ l. at ≢ l) es e k.once.0 in let x = leads-end (live n) (es ++ e ∷ []) at k.leads in
    record {
      leads = leads-kept (live n) (live m) es e.0 (apart-all (λ l. at ≢ l) (λ l. (x : Row) → live n l ≡ Some x → live m l ≡ Some x) (λ l o y q. copied-live n m at r turn to d l (λ s. o (sym s)) y q) (e.0 ∷ links_of es) apart) (leads-up (live n) es e at k.leads);
      once = once-up es e k.once.1;
      from = elim k.from as (λ _. (m.root ≡ Some (next es e.0)) ⊎ AllByRecursion (λ l. m.root ≢ Some l) (e.0 ∷ links_of es)) [
        | inl q ↦ inl (d.root ∙ q ∙ ap Some (next-snoc es e at))
        | inr a ↦ inr (apart-all (λ l. n.root ≢ Some l) (λ l. m.root ≢ Some l) (λ l o q. o (sym d.root ∙ q)) (e.0 ∷ links_of es) (all-up (λ l. n.root ≢ Some l) es e a.1))
      ];
      to = λ l q. subst (λ (i : Link). IsLive m i) (some-link r l q) (_, copied-here n m at r turn to d x.0 x.1);
    }

carried-down : (f g h : Reading) (es es' : List (Link × Turn)) (up up' : Link) (side : Turn) (r : Link) → AllByRecursion (λ l. (x : Row) → f l ≡ Some x → g l ≡ Some x) (links_of es)
    → ((x : Row) → f up ≡ Some x → h up' ≡ Some (with_child side (Some r) x)) → Carried g h es es' up' → Carried f h (es ++ (up, side) ∷ []) (es' ++ (up', side) ∷ []) r
carried-down f g h [] [] up up' side r k here c = (refl, here, tt)
carried-down f g h [] (e' ∷ es') up up' side r k here c = absurd c
carried-down f g h (e ∷ es) [] up up' side r k here c = absurd c
carried-down f g h (e ∷ es) (e' ∷ es') up up' side r k here c = (
  c.0,
  (λ x q. c.1 x (k.0 x q) ∙ ap (λ z. Some (with_child e.1 (Some z) x)) (sym (next-snoc es' (up', side) r))),
  carried-down f g h es es' up up' side r k.1 here c.2,
)

-- a copy, and then a change of the pointer above it
pub copied-up : (n m p : Nodes) (es es' : List (Link × Turn)) (up up' : Link) (side : Turn) (at r : Link) (turn : Turn) (to : Option Link) → Copies n m at r turn to → CanChange n (es ++ (up, side) ∷ []) at to
    → Exchanges m p es es' up up' side (Some r) → Exchanges n p (es ++ (up, side) ∷ []) (es' ++ (up', side) ∷ []) at r turn to
copied-up n m p es es' up up' side at r turn to d k x =
    let e : Link × Turn = (up, side) in let e' : Link × Turn = (up', side) in
    let row = leads-end (live n) (es ++ e ∷ []) at k.leads in let at_row = live-rows n at row.0 row.1 in let r_row = d.here row.0 at_row.0 in
    let apart = all-up (λ l. at ≢ l) es e k.once.0 in
    let off = not-on (live n) r es up (elim (n.current r) as (λ b. cond b (n.rows r) None ≡ None) [ true ↦ d.fresh | false ↦ refl ]) (leads-up (live n) es e at k.leads) in
    let off' = not-new m r (with_child turn to row.0) r_row (up ∷ links_of es) (up' ∷ links_of es') x.stand_for off in
    let kept = apart-all (λ l. at ≢ l) (λ l. (y : Row) → live n l ≡ Some y → live m l ≡ Some y) (λ l o y q. copied-live n m at r turn to d l (λ s. o (sym s)) y q) (up ∷ links_of es) apart in
    let fresh : (l : Link) → m.rows l ≡ None → n.rows l ≡ None = λ l z. sym (d.others l (λ s. (let w : None ≡ Some (with_child turn to row.0) = sym z ∙ ap m.rows s ∙ r_row in cc))) ∙ z in
    record {
      here = λ y q. let z = live-rows m r (with_child turn to y) (copied-here n m at r turn to d y q) in is-live p r (with_child turn to y) (x.others r off' (with_child turn to y) z.0) (x.current r off z.1);
      above = carried-down (live n) (live m) (live p) es es' up up' side r kept.1 (λ y q. x.here y (kept.0 y q)) x.above;
      stand_for = (inr d.fresh, stand-down n es es' e e' (stand-before n m fresh (up ∷ links_of es) (up' ∷ links_of es') x.stand_for));
      once = (all-down (λ l. r ≢ l) es' e' off', once-down es' e' x.once);
      others = λ l a y q. x.others l (all-up (λ i. l ≢ i) es' e' a.1) y (d.others l a.0 ∙ q);
      current = λ l a q. x.current l (all-up (λ i. l ≢ i) es e a.1) (d.current l a.0 q);
      from_root = λ q. x.from_root (d.root ∙ q ∙ ap Some (next-snoc es e at)) ∙ ap Some (sym (next-snoc es' e' r));
      other_root = λ a. x.other_root (apart-all (λ l. n.root ≢ Some l) (λ l. m.root ≢ Some l) (λ l o q. o (sym d.root ∙ q)) (up ∷ links_of es) (all-up (λ l. n.root ≢ Some l) es e a.1)) ∙ d.root;
      items = keeps-trans n m p (copied-items n m at r turn to row.0 d at_row.0) x.items;
    }
