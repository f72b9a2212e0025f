use Rattle.std.proofs.Common.{◌<◌, length, sym, subst}
use Rattle.std.proofs.lemmas.Result.{err_from_is_err_and}
use Rattle.loc_spec_plane.specs.HalfEdges.{half_edge_count, way_to}
use Rattle.loc_half.specs.HalfEdgeLists.{next_in}
use Rattle.loc_page.proofs.Pages.{put_same, stop}
use Rattle.loc_faces.proofs.CycleTexts.{IsPutTo, cycle_split, put_all, put_cut, put_first, put_more, way_shorter}
use Rattle.loc_faces.proofs.texts.put_cycle.Goals as goal

pub returns-in_err-put_corner : goal.returns-in_err-put_corner
returns-in_err-put_corner g c = put_same (sym (cycle_split c.args.scale c.args.table.now c.args.half.now c.args.leader)) (stop _ c.in_err-put_corner.was (err_from_is_err_and _ c.from_residual.ensures.1).1 c.put_corner.ensures)

pub round-init : goal.round-init
round-init g c = subst (IsPutTo c.args.scale c.args.table.now c.args.half.now c.args.leader (g.O.Sink.meaning c.args.sink.now) (g.O.Sink.meaning c.put_corner.new.sink) c.args.page.now c.put_corner.new.page) (sym c.next-h.ensures)
    (put_first c.args.scale c.args.table.now c.law.ensures.in_order c.args.half.now c.requires.half c.args.leader c.requires.in_range _ _ _ _ _ c.in_ok-put_corner.was c.put_corner.ensures)

pub returns-in_err-put_later : goal.returns-in_err-put_later
returns-in_err-put_later g c = put_cut c.args.scale c.args.table.now c.law.ensures.in_order c.args.half.now c.requires.half c.args.leader c.requires.in_range _ _ _ _ c.round.h c.round.invariant c.round-test.true c.in_err-put_later.was (err_from_is_err_and _ c.from_residual-in_err-put_later.ensures.1).1 c.put_later.ensures

pub round-smaller : goal.round-smaller
round-smaller g c = subst (λ h. length (way_to (next_in c.args.half.now) c.args.leader (half_edge_count c.args.table.now) h) < length (way_to (next_in c.args.half.now) c.args.leader (half_edge_count c.args.table.now) c.round.h)) (sym c.next-h-in-round.ensures)
    (way_shorter c.args.scale c.args.table.now c.law.ensures.in_order c.args.half.now c.requires.half c.args.leader c.requires.in_range _ _ _ _ c.round.h c.round.invariant c.round-test.true)

pub round-preserved : goal.round-preserved
round-preserved g c = subst (IsPutTo c.args.scale c.args.table.now c.args.half.now c.args.leader (g.O.Sink.meaning c.args.sink.now) (g.O.Sink.meaning c.put_later.new.sink) c.args.page.now c.put_later.new.page) (sym c.next-h-in-round.ensures)
    (put_more c.args.scale c.args.table.now c.law.ensures.in_order c.args.half.now c.requires.half c.args.leader c.requires.in_range _ _ _ _ c.round.h c.round.invariant _ _ _ c.round-test.true c.in_ok-put_later.was c.put_later.ensures)

pub returns : goal.returns
returns g c = put_all c.args.scale c.args.table.now c.law.ensures.in_order c.args.half.now c.requires.half c.args.leader c.requires.in_range _ _ _ _ c.round.h c.round.invariant c.round-test.false
