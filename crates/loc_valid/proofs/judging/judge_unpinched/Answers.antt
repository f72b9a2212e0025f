use Rattle.std.proofs.Common.{List, length, sym, subst}
use Rattle.loc_spec_plane.specs.Rings.{Rings}
use Rattle.loc_valid.specs.Hits.{AreHomes}
use Rattle.loc_valid.proofs.Found.{laid_out}
use Rattle.loc_valid.proofs.judging.judge_unpinched.Goals as goal

pub judge_lists-requires-clause-laid_out : goal.judge_lists-requires-clause-laid_out
judge_lists-requires-clause-laid_out c =
    let polygons = c.args.feature.now.polygons in
    laid_out polygons c.deref.result.now c.args.table.now c.in_ok-legend.legend (length c.args.layer.now) c.requires.of_rings c.requires.unpinched
    (subst (AreHomes polygons) (sym c.deref.ensures.value) (subst (λ (ps : List Rings). AreHomes ps c.in_ok-homes.homes.items) c.rings.ensures c.in_ok-homes.ensures))
    c.requires.features c.requires.as_many c.in_ok-legend.ensures.named c.in_ok-legend.ensures.fits c.in_ok-legend.ensures.is_true
