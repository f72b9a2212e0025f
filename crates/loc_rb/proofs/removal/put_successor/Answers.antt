-- Where two children hang, the successor is found, its item takes the node's place, and it is found again.
use Rattle.std.proofs.Common.{inl, inr, sym, ap, ◌∙◌, refl, arith, [], ◌∷◌, length, length-append}
use Rattle.loc_pool.specs.declared.Turn.TheVariants.{Left, Right}
use Rattle.loc_rb.specs.Trees.{node}
use Rattle.loc_rb.proofs.{Trees.fits-end, ReadCalls.child-is, Descent.no-tree}
use Rattle.loc_rb.proofs.Successor.{leads-short, leads-row, right-start, right-spot, right-short, cut-back, back-node, next-found, successor-put, one-child, splice-short}
use Rattle.loc_rb.proofs.removal.put_successor.Goals as goal

pub child-requires : goal.child-requires
child-requires g c = leads-row _ _ _ _ _ _ c.requires.place.3

pub child-requires-in-Some : goal.child-requires-in-Some
child-requires-in-Some g c = leads-row _ _ _ _ _ _ c.requires.place.3

pub push-requires : goal.push-requires
push-requires g c = let rs = right-short _ _ _ _ _ _ c.requires.place.3 c.requires.place.4 in omega (arith, rs)

pub minimum-next-requires : goal.minimum-next-requires
minimum-next-requires g c =
    let w = right-start _ _ _ _ _ _ _ _ _ c.requires.place.3 c.child-in-Some.ensures c.in-Some-child.is c.push.ensures in let rs = right-short _ _ _ _ _ _ c.requires.place.3 c.requires.place.4 in
    let l = ap length c.push.ensures in let i = length-append c.args.path.now.items ((c.args.at, Right) ∷ []) in record { place = (_, _, w.0, w.1, omega (arith, rs, l, i)) }

pub item-item-requires : goal.item-item-requires
item-item-requires g c = let d = next-found _ _ _ _ _ _ _ _ _ _ _ c.requires.place.3 c.child-in-Some.ensures c.in-Some-child.is c.push.ensures c.minimum-next.ensures.tree in (d.5, d.6)

pub replace_node-at-requires-clause-old : goal.replace_node-at-requires-clause-old
replace_node-at-requires-clause-old g c = let d = next-found _ _ _ _ _ _ _ _ _ _ _ c.requires.place.3 c.child-in-Some.ensures c.in-Some-child.is c.push.ensures c.minimum-next.ensures.tree in (_, d.5, d.6, sym (c.item-item.ensures d.5 d.6))

pub replace_node-at-requires-clause-place : goal.replace_node-at-requires-clause-place
replace_node-at-requires-clause-place g c = back-node _ _ _ _ _ _ _ c.requires.place.3 (cut-back _ _ _ _ _ _ c.push.ensures c.minimum-next.ensures.longer c.truncate.ensures.items c.len-depth.ensures.value)

pub push-requires-in-Some-child : goal.push-requires-in-Some-child
push-requires-in-Some-child g c = let rs = right-short _ _ _ _ _ _ c.requires.place.3 c.requires.place.4 in let l = ap length (cut-back _ _ _ _ _ _ c.push.ensures c.minimum-next.ensures.longer c.truncate.ensures.items c.len-depth.ensures.value) in let k = c.replace_node-at.ensures.length in omega (arith, rs, l, k)

pub minimum-requires : goal.minimum-requires
minimum-requires g c =
    let p = c.requires.place.3 in let w = right-start _ _ _ _ _ _ _ _ _ p c.child-in-Some.ensures c.in-Some-child.is c.push.ensures in let te = cut-back _ _ _ _ _ _ c.push.ensures c.minimum-next.ensures.longer c.truncate.ensures.items c.len-depth.ensures.value in
    let mv = c.replace_node-at.ensures.tree (back-node _ _ _ _ _ _ _ p te) in let rs = right-short _ _ _ _ _ _ c.requires.place.3 c.requires.place.4 in let l = ap length te in let k = c.replace_node-at.ensures.length in
    let i = ap length c.push-in-Some-child.ensures in let j = length-append c.replace_node-at.new.path.items ((c.replace_node-at.result, Right) ∷ []) in
    record { place = (_, _, right-spot _ _ _ _ _ _ _ _ _ mv.2 c.push-in-Some-child.ensures, w.1, omega (arith, rs, l, k, i, j)) }

pub returns-in-None-clause-tree : goal.returns-in-None-clause-tree
returns-in-None-clause-tree g c L x H p =
    one-child _ _ _ _ _ _ p (inl (no-tree p.left (sym (child-is (g.K.Links.nodes c.args.links.now) Left _ p.left x p.colour p.right _ (fits-end _ p.frames (node c.args.at p.left x p.colour p.right) p.spot.fits) c.child.ensures) ∙ c.in-None.is)))

pub returns-in-None-clause-short : goal.returns-in-None-clause-short
returns-in-None-clause-short g c = let s = leads-short _ _ _ _ _ _ c.requires.place.3 c.requires.place.4 in omega (arith, s)

pub returns-in-None-child-clause-tree : goal.returns-in-None-child-clause-tree
returns-in-None-child-clause-tree g c L x H p =
    one-child _ _ _ _ _ _ p (inr (no-tree p.right (sym (child-is (g.K.Links.nodes c.args.links.now) Right _ p.right x p.colour p.left _ (fits-end _ p.frames (node c.args.at p.left x p.colour p.right) p.spot.fits) c.child-in-Some.ensures) ∙ c.in-None-child.is)))

pub returns-in-None-child-clause-short : goal.returns-in-None-child-clause-short
returns-in-None-child-clause-short g c = let s = leads-short _ _ _ _ _ _ c.requires.place.3 c.requires.place.4 in omega (arith, s)

pub returns-in-Some-child-clause-tree : goal.returns-in-Some-child-clause-tree
returns-in-Some-child-clause-tree g c L x H p =
    let w = right-start _ _ _ _ _ _ _ _ _ p c.child-in-Some.ensures c.in-Some-child.is c.push.ensures in let d = next-found _ _ _ _ _ _ _ _ _ _ _ p c.child-in-Some.ensures c.in-Some-child.is c.push.ensures c.minimum-next.ensures.tree in
    let mv = c.replace_node-at.ensures.tree (back-node _ _ _ _ _ _ _ p (cut-back _ _ _ _ _ _ c.push.ensures c.minimum-next.ensures.longer c.truncate.ensures.items c.len-depth.ensures.value)) in
    let e = c.minimum.ensures.tree _ _ (right-spot _ _ _ _ _ _ _ _ _ mv.2 c.push-in-Some-child.ensures) w.1 in
    successor-put _ _ _ _ _ _ _ _ _ _ _ _ _ _ p mv d.0 d.1 d.2 d.3 d.4 (c.item-item.ensures d.5 d.6 ∙ d.7) e.0 e.1 e.2 e.3 e.4

pub returns-in-Some-child-clause-short : goal.returns-in-Some-child-clause-short
returns-in-Some-child-clause-short g c = let r = c.requires.place in splice-short _ _ _ _ _ _ (returns-in-Some-child-clause-tree g c r.0 r.1 r.2 r.3) refl r.4
