-- At the root the root is put; else the last entry is changed and goes back on the path.
use Rattle.std.proofs.Common.{List, [], ◌∷◌, length, sym, ap, ◌∙◌, subst, arith, length-append}
use Rattle.loc_pool.specs.{declared.Link.Link, declared.Turn.Turn}
use Rattle.loc_rb.specs.Steps.{Replaced}
use Rattle.loc_rb.proofs.OneChange.{can-change, top-live, popped, root-put, length-carried, no-entries, transplanted}
use Rattle.loc_rb.proofs.steps.transplant.Goals as goal

pub put_root-requires : goal.put_root-requires
put_root-requires g c = let p = c.requires.place in top-live (g.K.Links.nodes c.args.links.now) _ _ p.3.fits p.3.to

pub change-at-requires-clause-place : goal.change-at-requires-clause-place
change-at-requires-clause-place g c =
    let p = c.requires.place in let k = popped _ _ _ _ _ _ p.3.spot c.in-Some.ensures.items in
    can-change _ _ _ _ _ _ _ _ _ _ k.spot (top-live (g.K.Links.nodes c.args.links.now) _ _ p.3.fits p.3.to)

pub push-requires : goal.push-requires
push-requires g c = let q = length-carried _ _ _ _ _ c.change-at.ensures.rows.above in let e = ap length c.in-Some.ensures.items in let a = length-append c.pop.new.self.items ((c.in-Some.at, c.in-Some.turn) ∷ []) in omega (arith, q, e, a)

pub returns-in-None-clause-tree : goal.returns-in-None-clause-tree
returns-in-None-clause-tree g c C s v h =
    let z = no-entries _ c.in-None.ensures.variant.1 in
    root-put _ _ _ _ _ _ _ _ z (ap (λ p. p.items) c.in-None.ensures.empty ∙ z) h c.put_root.ensures

pub returns-in-Some-clause-tree : goal.returns-in-Some-clause-tree
returns-in-Some-clause-tree g c C s v h =
    subst (λ (ps : List (Link × Turn)). Replaced (g.K.Links.nodes c.change-at.new.self) ps C v) (sym c.push.ensures) (transplanted _ _ _ _ _ _ _ _ _ _ _ _ c.in-Some.ensures.items c.change-at.ensures h)

pub returns-in-Some-clause-length : goal.returns-in-Some-clause-length
returns-in-Some-clause-length g c =
    let q = length-carried _ _ _ _ _ c.change-at.ensures.rows.above in let e = ap length c.in-Some.ensures.items in let a = length-append c.pop.new.self.items ((c.in-Some.at, c.in-Some.turn) ∷ []) in
    let f = ap length c.push.ensures in let b = length-append c.change-at.new.path.items ((c.change-at.result, c.in-Some.turn) ∷ []) in omega (arith, q, e, a, f, b)
