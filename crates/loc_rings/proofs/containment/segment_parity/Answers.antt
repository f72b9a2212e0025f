use Rattle.std.proofs.lemmas.Bool.{not-true}
use Rattle.loc_rings.proofs.Crossings.{lone}
use Rattle.loc_rings.proofs.containment.segment_parity.Goals as goal

pub returns : goal.returns
returns c = lone c.args.a c.args.b c.args.p c.in-Some.segment c.crosses.result (not-true _ c.in-Some.ensures.two_points) c.in-Some.ensures.ends (cc (c.if-on.false, c.on.ensures)) c.crosses.ensures
