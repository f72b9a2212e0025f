-- One left child further at a time.
use Rattle.std.proofs.Common.{List, sym, ap, ◌∙◌, arith, append-nil, append_assoc, [], ◌∷◌, ◌++◌, length, length-append}
use Rattle.loc_pool.specs.declared.Turn.TheVariants.{Left}
use Rattle.loc_rb.specs.{Trees.Frame, Trees.Tree, Steps.LeftmostPath, Balance.depth}
use Rattle.loc_rb.proofs.ReadCalls.{node-has-row, child-is}
use Rattle.loc_rb.proofs.Descent.{leftmost-start, leftmost-step, leftmost-end, sided, sided-fits, depth-under}
use Rattle.loc_rb.proofs.removal.minimum.Goals as goal

pub down-init : goal.down-init
down-init g c =
    let p = c.requires.place in
    record { some = (p.0, p.1, leftmost-start _ _ _ _ _ p.2 p.3, p.4); all = λ C t sp e. leftmost-start _ _ _ _ _ sp e; longer = ([], sym (append-nil c.args.path.now.items)) }

pub child-requires : goal.child-requires
child-requires g c = let d = c.down.invariant.some.2 in node-has-row (g.K.Links.nodes c.args.links.now) Left _ _ _ _ _ (sided-fits _ _ _ _ _ _ d.spot (sided Left _ _ d.here))

pub down-preserved : goal.down-preserved
down-preserved g c =
    let i = c.down.invariant in let s = i.some in let es = c.down.path.items in let k = sided Left c.down.at s.2.tree s.2.here in
    let step : (C : List Frame) (t : Tree) → (d : LeftmostPath (g.K.Links.nodes c.args.links.now) es C t c.down.at) → LeftmostPath (g.K.Links.nodes c.args.links.now) c.push.new.path.items C t c.in-Some.next = λ C t d. let k = sided Left c.down.at d.tree d.here in
    leftmost-step _ _ _ _ _ _ _ d k (sym (child-is (g.K.Links.nodes c.args.links.now) Left _ _ _ _ _ _ (sided-fits _ _ _ _ _ _ d.spot k) c.child.ensures) ∙ c.in-Some.is) c.push.ensures in
    let u = depth-under Left c.down.at k.near k.item k.colour k.far in let e = ap depth k.is in let h = s.3 in let l = ap length c.push.ensures in let l2 = length-append es ((c.down.at, Left) ∷ []) in
    record {
      some = (s.0, s.1, step s.0 s.1 s.2, omega (arith, u, e, h, l, l2));
      all = λ C t sp h. step C t (i.all C t sp h);
      longer = (i.longer.0 ++ (c.down.at, Left) ∷ [], c.push.ensures ∙ ap (λ z. z ++ (c.down.at, Left) ∷ []) i.longer.1 ∙ append_assoc c.args.path.now.items i.longer.0 ((c.down.at, Left) ∷ []));
    }

pub returns-clause-tree : goal.returns-clause-tree
returns-clause-tree g c C t sp h =
    let d = c.down.invariant.all C t sp h in let k = sided Left c.down.at d.tree d.here in
    (d, k.item, k.colour, k.far, leftmost-end _ _ k (sym (child-is (g.K.Links.nodes c.args.links.now) Left _ _ _ _ _ _ (sided-fits _ _ _ _ _ _ d.spot k) c.child.ensures) ∙ c.in_default.is))
