use Rattle.std.proofs.{Common.get_or, Common.refl, lemmas.Result.err_from_is_err_and}
use Rattle.std.specs.List.{flat_map}
use Rattle.loc_half.specs.HalfEdgeLists.{next_in}
use Rattle.loc_faces.specs.FaceTexts.{cycle_line}
use Rattle.loc_page.proofs.Pages.{goes_end, goes_more, goes_next, stop}
use Rattle.loc_faces.proofs.texts.put_lines.Goals as goal

pub loop-leader-init : goal.loop-leader-init
loop-leader-init g c = λ n k r p. p

pub returns-in_err-put_line : goal.returns-in_err-put_line
returns-in_err-put_line g c =
    let line = cycle_line c.args.scale c.args.table.now (next_in c.args.half.now) c.args.word.now in
    goes_next (flat_map line) c.args.leaders.now c.loop-leader.leader-index 0 (line (get_or c.args.leaders.now c.loop-leader.leader-index 0)) _ _ _ _ _ c.loop-leader-test.true refl c.loop-leader.invariant _ _ _
    (stop _ c.in_err-put_line.was (err_from_is_err_and _ c.from_residual.ensures.1).1 c.put_line.ensures)

pub loop-leader-preserved : goal.loop-leader-preserved
loop-leader-preserved g c =
    let line = cycle_line c.args.scale c.args.table.now (next_in c.args.half.now) c.args.word.now in
    goes_more _ (line (get_or c.args.leaders.now c.loop-leader.leader-index 0)) _ _ _ c.in_ok-put_line.was
    (goes_next (flat_map line) c.args.leaders.now c.loop-leader.leader-index 0 (line (get_or c.args.leaders.now c.loop-leader.leader-index 0)) _ _ _ _ _ c.loop-leader-test.true refl c.loop-leader.invariant) c.put_line.ensures

pub returns : goal.returns
returns g c = goes_end (λ xs. flat_map (cycle_line c.args.scale c.args.table.now (next_in c.args.half.now) c.args.word.now) xs) c.args.leaders.now c.loop-leader.leader-index _ _ _ _ _ _ c.loop-leader-test.false refl c.loop-leader.invariant
