use Rattle.std.proofs.Common.{◌≡◌, ◌+◌, ◌-◌, ◌<◌, ◌++◌, length, take, replicate, ap, ◌∙◌, arith}
use Rattle.std.specs.Vec.{vec_len}
use Rattle.loc_edges.proofs.Firsts.{counted_more, counted_all}
use Rattle.loc_edges.proofs.ranges.first_edges.Goals as goal

pub loop-n-preserved : goal.loop-n-preserved
loop-n-preserved c = let fits : c.loop-n.n < length c.args.ends.now = omega arith in counted_more c.args.ends.now c.args.corners c.loop-n.n c.loop-n.firsts.items (vec_len c.loop-n.firsts) (omega arith) c.loop-n.invariant c.resize.new.self.items c.requires.in_order fits (c.requires.in_range c.loop-n.n fits) c.in_ok-resize.ensures.items

pub returns : goal.returns
returns c = let all : length c.args.ends.now ≡ c.loop-n.n = omega arith in counted_all c.args.ends.now c.args.corners c.loop-n.n c.loop-n.firsts.items (vec_len c.loop-n.firsts) (omega arith) c.loop-n.invariant c.resize-2.new.self.items (omega arith) (c.in_ok-resize-2.ensures.items ∙ ap (λ n. take (c.args.corners + 1) c.loop-n.firsts.items ++ replicate (c.args.corners + 1 - vec_len c.loop-n.firsts) n) all)
