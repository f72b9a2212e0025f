use Rattle.std.proofs.Common.{◌≡◌, ℕ, true, ◌++◌, ◌∷◌, [], List, length, get_or, take, map, sym, ◌∙◌, ap, arith, Vec, Global}
use Rattle.std.proofs.lemmas.Bool.{both_ways, cond-true}
use Rattle.std.proofs.lemmas.List.{take_all, take_more, get_or_default, map-append}
use Rattle.loc_spec_plane.specs.{Points.Point, Points.Edge, Points.before, Lists.is_rising, Rings.segment_between}
use Rattle.loc_laws_order.proofs.{Sides.before-differ, TableOrder.rises, TableOrder.origin_point}
use Rattle.loc_edges.specs.Parts.{GoesUpBelow, edge_of_pair}
use Rattle.loc_edges.proofs.numbers.edges_between.Goals as goal
use Rattle.loc_edges.proofs.numbers.edges_between.Goals.{in-Some+in_ok-push, in_default}

module _ (corners : List Point) (up : is_rising before corners ≡ true) (pair : ℕ × ℕ) (goes_up : GoesUpBelow (length corners) pair) (a b : Point) (a_is : a ≡ get_or corners pair.0 a) (b_is : b ≡ get_or corners pair.1 b) where
  low : a ≡ get_or corners pair.0 origin_point
  low = a_is ∙ get_or_default corners pair.0 a origin_point (omega (arith, goes_up.0, goes_up.1))

  high : b ≡ get_or corners pair.1 origin_point
  high = b_is ∙ get_or_default corners pair.1 b origin_point goes_up.1

  -- the ends are in order
  in_order : before a b ≡ true
  in_order = ap (λ p. before p b) low ∙ (ap (before (get_or corners pair.0 origin_point)) high ∙ rises before origin_point corners pair.0 pair.1 up goes_up.0 goes_up.1)

  -- so the edge between them is the one of the pair
  edge_is : segment_between a b ≡ edge_of_pair corners pair
  edge_is = cond-true _ _ _ in_order ∙ (ap (λ (p : Point). record { lo = p; hi = b }) low ∙ ap (λ (p : Point). record { lo = get_or corners pair.0 origin_point; hi = p }) high)

pub loop-pair-preserved : goal.loop-pair-preserved
loop-pair-preserved c =
    let corners = c.args.corners.now in
    let ends = c.args.ends.now in
    let k = c.loop-pair.pair-index in
    let pair : ℕ × ℕ = get_or ends k (0, 0) in
    let goes_up = c.requires.go_up k (0, 0) c.loop-pair-test.true in
    let a = c.index-corners-pair.result in
    let b = c.index-corners-pair-in-loop-pair.result in
    elim c.match-new.branch [
      | in-Some+in_ok-push w ↦
          ap (λ (v : Vec Edge Global). v.items) w.edges-is
          ∙ (w.in_ok-push.ensures.items
          ∙ (ap (λ es. es ++ w.in-Some.edge ∷ []) c.loop-pair.invariant
          ∙ (ap (λ e. map (edge_of_pair corners) (take k ends) ++ e ∷ []) (w.in-Some.ensures.ends ∙ edge_is corners c.requires.in_order pair goes_up a b c.index-corners-pair.is c.index-corners-pair-in-loop-pair.is)
          ∙ sym (ap (map (edge_of_pair corners)) (take_more ends k (0, 0) c.loop-pair-test.true) ∙ map-append (edge_of_pair corners) (take k ends) (pair ∷ [])))))
      | in_default w ↦ absurd (both_ways _ (before-differ a b (in_order corners c.requires.in_order pair goes_up a b c.index-corners-pair.is c.index-corners-pair-in-loop-pair.is)) w.in_default.ensures.one_point)
    ]

pub returns : goal.returns
returns c = c.loop-pair.invariant ∙ ap (map (edge_of_pair c.args.corners.now)) (take_all c.loop-pair.pair-index c.args.ends.now c.loop-pair-test.false)
