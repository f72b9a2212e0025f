use Rattle.std.proofs.Common.{[], ◌∷◌, ◌++◌, map, ◌∙◌, ap, ap₂}
use Rattle.std.proofs.lemmas.List.{map-append}
use Rattle.loc_rings.proofs.Cuts.{kept-ring, seen-ring}
use Rattle.loc_rings.proofs.cut.CutRings.take.Goals as goal

pub invariant_of-self-2 : goal.invariant_of-self-2
invariant_of-self-2 c =
    let pushed = ap (map (λ ring. ring.items)) (c.push_reserved.ensures.items ∙ ap₂ (λ vs v. vs ++ v ∷ []) c.in_ok-reserve.ensures.items c.replace.ensures.value) ∙ map-append (λ ring. ring.items) c.self.inside.rings.items (c.args.ring.now ∷ []) in
    kept-ring c.self.invariant c.self.view_is c.args.ring.now.items pushed c.requires.started c.requires.closed c.requires.room

pub returns-clause-ok : goal.returns-clause-ok
returns-clause-ok c =
    let pushed = ap (map (λ ring. ring.items)) (c.push_reserved.ensures.items ∙ ap₂ (λ vs v. vs ++ v ∷ []) c.in_ok-reserve.ensures.items c.replace.ensures.value) ∙ map-append (λ ring. ring.items) c.self.inside.rings.items (c.args.ring.now ∷ []) in
    seen-ring c.self.invariant c.self.view_is c.args.ring.now.items pushed c.requires.started
