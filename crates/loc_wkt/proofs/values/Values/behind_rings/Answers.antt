use Rattle.std.proofs.Common.{◌∙◌, ap, Some, refl, arith}
use Rattle.loc_spec_text.specs.Geometry.{symbols}
use Rattle.loc_wkt.specs.{Lists.wide_ring_at, Passes.after_ring}
use Rattle.loc_wkt.proofs.{ListLemmas.ring_takes, LoopLemmas.list_breaks, LoopLemmas.list_ends, LoopLemmas.list_goes_on}
use Rattle.loc_wkt.proofs.PassLemmas.{less_room}
use Rattle.loc_wkt.proofs.values.Values.behind_rings.Goals as goal

pub returns-in_default-clause-err : goal.returns-in_default-clause-err
returns-in_default-clause-err c = λ h. (
  refl,
  list_breaks wide_ring_at after_ring c.args.self.now c.loop-more.self c.args.text.now c.loop-more.rest.now c.loop-more.invariant.list c.behind_ring.new.self c.in_ok-more.more.now c.in_ok-more.ensures.ok c.in_default.ensures.found,
)

pub returns-then-not-goes_on-clause-ok : goal.returns-then-not-goes_on-clause-ok
returns-then-not-goes_on-clause-ok c = list_ends wide_ring_at after_ring c.args.self.now c.loop-more.self c.args.text.now c.loop-more.rest.now c.loop-more.invariant.list c.behind_ring.new.self c.in_ok-more.more.now c.in_ok-more.ensures.ok ring_takes c.in-Some.behind.now
    (c.in-Some.ensures.found ∙ ap (λ b. Some (b, symbols c.in-Some.behind.now)) c.if-not-goes_on.true)

pub loop-more-preserved : goal.loop-more-preserved
loop-more-preserved c = record {
  list = list_goes_on wide_ring_at after_ring c.args.self.now c.loop-more.self c.args.text.now c.loop-more.rest.now c.loop-more.invariant.list c.behind_ring.new.self c.in_ok-more.more.now c.in_ok-more.ensures.ok ring_takes c.in-Some.behind.now
      (c.in-Some.ensures.found ∙ ap (λ b. Some (b, symbols c.in-Some.behind.now)) c.if-not-goes_on.false)
      (less_room c.behind_ring.new.self c.in_ok-more.more.now c.in-Some.behind.now c.in_ok-more.ensures.room (omega (arith, c.in-Some.ensures.shorter)))
      (omega (arith, c.in_ok-more.ensures.shorter, c.in-Some.ensures.shorter));
  started = c.in_ok-more.ensures.started;
}
