-- What stays where only links are exchanged, and where a rotation or a colour changes a tree.
use Rattle.std.proofs.Common.{◌≡◌, ℕ, List, [], ◌∷◌, ◌++◌, refl, sym, ap, ◌∙◌, subst, append_assoc}
use Rattle.loc_pool.specs.{declared.Link.Link, declared.Turn.Turn}
use Rattle.loc_pool.specs.{declared.Turn.TheVariants.Left, declared.Turn.TheVariants.Right, declared.Colour.Colour}
use Rattle.loc_rb.specs.Trees.{Tree, items, Frame, node_at, plug, entries, SameButLinks, before, after, lower, higher}
use Rattle.loc_rb.specs.{Nodes.Nodes, Places.Spot, Steps.Replaced}
use Rattle.loc_rb.proofs.{Trees.items-plug, Rotations.to_turn, Rotations.turned_tree}
use Rattle.loc_rb.proofs.OneChange.{alike-induction, frame_of, entries-snoc, unpushed}

-- links play no part in the items before
pub before-SameButLinks : (C D : List Frame) → SameButLinks C D → before D ≡ before C
before-SameButLinks = alike-induction (λ C D. before D ≡ before C) refl (λ fr gr C D s h i. lower (s.0 i) (s.1 i) (s.3 i) ++ h i)

-- nor in those after
pub after-SameButLinks : (C D : List Frame) → SameButLinks C D → after D ≡ after C
after-SameButLinks = alike-induction (λ C D. after D ≡ after C) refl (λ fr gr C D s h i. h i ++ higher (s.0 i) (s.1 i) (s.3 i))

-- the list depends on the items alone
pub items-alike : (C D : List Frame) (t u : Tree) → SameButLinks C D → items u ≡ items t → items (plug D u) ≡ items (plug C t)
items-alike C D t u s e = items-plug D u ∙ (λ i. before-SameButLinks C D s i ++ (e i ++ after-SameButLinks C D s i)) ∙ sym (items-plug C t)

-- nor do links and colours in the items of a node
pub items-under : (side : Turn) (l m : Link) (t u : Tree) (x : ℕ) (c d : Colour) (o p : Tree) → items u ≡ items t → items p ≡ items o → items (node_at side m u x d p) ≡ items (node_at side l t x c o)
items-under Left l m t u x c d o p e q = λ i. e i ++ x ∷ q i
items-under Right l m t u x c d o p e q = λ i. q i ++ x ∷ e i

-- a rotation leaves the items in their order
pub items-turned : (turn : Turn) (at child low high : Link) (x y : ℕ) (cx cy dx dy : Colour) (a b d : Tree) → items (turned_tree turn low high x y dx dy a b d) ≡ items (to_turn turn at child x y cx cy a b d)
items-turned Left at child low high x y cx cy dx dy a b d = sym (append_assoc (items d) (y ∷ items b) (x ∷ items a))
items-turned Right at child low high x y cx cy dx dy a b d = append_assoc (items a) (x ∷ items b) (y ∷ items d)

-- frames like others that end with a frame end with one like it
pub last-alike : (C : List Frame) (fr : Frame) (D : List Frame) → SameButLinks (C ++ fr ∷ []) D → (F : List Frame) × (gr : Frame) × (D ≡ F ++ gr ∷ []) × SameButLinks C F × SameButLinks (fr ∷ []) (gr ∷ [])
last-alike [] fr [] s = absurd s
last-alike [] fr (gr ∷ []) s = ([], gr, refl, tt, s)
last-alike [] fr (gr ∷ hr ∷ D) s = absurd s.4
last-alike (kr ∷ C) fr [] s = absurd s
last-alike (kr ∷ C) fr (gr ∷ D) s = let q = last-alike C fr D s.4 in (gr ∷ q.0, q.1, ap (λ z. gr ∷ z) q.2, (s.0, s.1, s.2, s.3, q.3), q.4)

-- a moved path, seen above its last entry
pub record ReplacedUp (n : Nodes) (ps : List (Link × Turn)) (C : List Frame) (side : Turn) (x : ℕ) (c : Colour) (other t : Tree) : Type 0 where
  pub above : List (Link × Turn)
  pub up : Link
  pub entry : ps ≡ above ++ (up, side) ∷ []
  pub frames : List Frame
  pub alike : SameButLinks C frames
  pub spot : Spot n above frames (node_at side up t x c other)

pub replaced-up : (n : Nodes) (ps : List (Link × Turn)) (C : List Frame) (l : Link) (side : Turn) (x : ℕ) (c : Colour) (other t : Tree) → Replaced n ps (C ++ frame_of (l, side) x c other ∷ []) t → ReplacedUp n ps C side x c other t
replaced-up n ps C l side x c other t m =
    let k = last-alike C (frame_of (l, side) x c other) m.0 m.1 in
    let gr = k.1 in
    let sp = subst (λ (D : List Frame). Spot n ps D t) k.2 m.2 in
    let low = unpushed n ps (entries k.0) (gr.link, gr.turn) k.0 t gr.item gr.colour gr.other sp refl in
    let at = subst (λ (z : Turn × ℕ × Colour × Tree). Spot n (entries k.0) k.0 (node_at z.0 gr.link t z.1 z.2 z.3)) (λ i. (k.4.0 i, k.4.1 i, k.4.2 i, k.4.3 i)) low in
    record {
      above = entries k.0;
      up = gr.link;
      entry = sym sp.path ∙ entries-snoc k.0 gr ∙ ap (λ z. entries k.0 ++ (gr.link, z) ∷ []) k.4.0;
      frames = k.0;
      alike = k.3;
      spot = at;
    }
