use Rattle.std.proofs.lemmas.Result.{err_from_is_err_and}
use Rattle.loc_groups.proofs.Said.{follows_text}
use Rattle.loc_groups.proofs.dissolving.dissolve.Goals as goal

pub returns-in_err-groups : goal.returns-in_err-groups
returns-in_err-groups g c k =
    let p = err_from_is_err_and c.from_residual-in_err-groups.result c.from_residual-in_err-groups.ensures.1 in
    rw (p.1, p.2) (c.in_ok-layer.ensures _ _ _ _ _ (c.in_err-groups.ensures.goes_on _ _))

pub returns : goal.returns
returns g c k =
    c.in_ok-layer.ensures _ _ _ _ _ (c.in_ok-groups.ensures.goes_on _ _ _ _
    (follows_text c.args.scale c.in_ok-layer.layer c.in_ok-groups.groups c.in_ok-groups.ensures.groups (c.write_groups.ensures _ _)))
