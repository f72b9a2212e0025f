use Rattle.std.proofs.Common.{◌≡◌, ◌+◌, ◌-◌, ◌<◌, ◌++◌, ◌∷◌, [], filter, get_or, length, take, sym, ◌∙◌, ap, arith, ℤ}
use Rattle.std.proofs.lemmas.List.{get_or-map, length-map, take_all}
use Rattle.loc_spec_plane.specs.Points.{Point, lies_on}
use Rattle.loc_node.specs.Ways.{points_along}
use Rattle.loc_node.proofs.Skipping.{fail_all, pass_one}
use Rattle.loc_node.proofs.ways.gather.Goals as goal

pub loop-k-preserved : goal.loop-k-preserved
loop-k-preserved c =
    let order = c.args.order.now in
    let k = c.loop-k.k in
    let r = c.index-order-k.result in
    let f = lies_on c.args.edge in
    let at : get_or (points_along order) k r.1 ≡ (get_or order k r).1 = get_or-map (λ (x : ℤ × Point). x.1) order k r r.1 c.loop-k-test.true in
    let fits : c.loop-k.k < length (points_along c.args.order.now) = omega (arith, c.loop-k-test.true, length-map order (λ (x : ℤ × Point). x.1)) in
    c.in_ok-push.ensures.items
    ∙ (ap (λ ys. ys ++ (get_or order k r).1 ∷ []) c.loop-k.invariant
    ∙ (ap (λ p. filter f (take k (points_along order)) ++ p ∷ []) (sym at)
    ∙ sym (pass_one f (points_along order) k r.1 fits (ap f at ∙ (sym c.on.ensures ∙ c.if-not-on.false)))))

pub returns-then-not-on : goal.returns-then-not-on
returns-then-not-on c =
    let order = c.args.order.now in
    let ps = points_along c.args.order.now in
    let k = c.loop-k.k in
    let r = c.index-order-k.result in
    let f = lies_on c.args.edge in
    let many : length (points_along c.args.order.now) ≡ length c.args.order.now = length-map order (λ (x : ℤ × Point). x.1) in
    let all : c.loop-k.k + (length (points_along c.args.order.now) - c.loop-k.k) ≡ length (points_along c.args.order.now) = omega (arith, many, c.loop-k-test.true) in
    let none = fail_all f ps r.1 k (length ps - k) (omega (arith, all)) (λ j from to.
    (let fits : j < length c.args.order.now = omega (arith, to, all, many) in
    ap f (get_or-map (λ (x : ℤ × Point). x.1) order j r r.1 fits) ∙ c.requires.over k j r c.loop-k.auto.k from fits (sym c.on.ensures ∙ c.if-not-on.true))) in
    c.loop-k.invariant ∙ (sym none ∙ ap (filter f) (ap (λ n. take n ps) all ∙ take_all (length ps) ps (omega arith)))

pub returns : goal.returns
returns c =
    let ps = points_along c.args.order.now in
    c.loop-k.invariant ∙ ap (filter (lies_on c.args.edge)) (take_all c.loop-k.k ps (omega (arith, c.loop-k-test.false, length-map c.args.order.now (λ (x : ℤ × Point). x.1))))
