use Rattle.loc_batch.proofs.Placed.{reads_more, reads_none}
use Rattle.loc_batch.proofs.desk.fill_block.Goals as goal

pub loop-front-init : goal.loop-front-init
loop-front-init g c = reads_none c.args.scale c.args.line.now.items c.args.text.now c.args.block.now c.requires.empty c.requires.unbroken

pub loop-front-preserved : goal.loop-front-preserved
loop-front-preserved g c = rw (c.read_line.ensures.block, c.read_line.ensures.line) (
    reads_more c.args.scale c.args.line.now.items c.args.text.now c.loop-front.line.items c.loop-front.rest.now c.in-Some.front.now c.in-Some.more.now c.loop-front.block
    c.loop-front.invariant c.in-Some.ensures.cuts.0 c.in-Some.ensures.cuts.1 c.in-Some.ensures.shorter)
