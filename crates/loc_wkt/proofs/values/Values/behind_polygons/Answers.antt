use Rattle.std.proofs.Common.{◌∙◌, ap, Some, refl, arith}
use Rattle.loc_spec_text.specs.Geometry.{symbols}
use Rattle.loc_wkt.specs.{Lists.wide_polygon_at, Passes.after_polygon}
use Rattle.loc_wkt.proofs.ListLemmas.{polygon_takes}
use Rattle.loc_wkt.proofs.{LoopLemmas.list_breaks, LoopLemmas.list_ends, LoopLemmas.list_goes_on, PassLemmas.less_room}
use Rattle.loc_wkt.proofs.values.Values.behind_polygons.Goals as goal

pub returns-in_default-clause-err : goal.returns-in_default-clause-err
returns-in_default-clause-err c = λ h. (
  refl,
  list_breaks wide_polygon_at after_polygon c.args.self.now c.loop-more.self c.args.text.now c.loop-more.rest.now c.loop-more.invariant c.behind_polygon.new.self c.in_ok-more.more.now c.in_ok-more.ensures.ok c.in_default.ensures.found,
)

pub returns-then-not-goes_on-clause-ok : goal.returns-then-not-goes_on-clause-ok
returns-then-not-goes_on-clause-ok c = list_ends wide_polygon_at after_polygon c.args.self.now c.loop-more.self c.args.text.now c.loop-more.rest.now c.loop-more.invariant c.behind_polygon.new.self c.in_ok-more.more.now c.in_ok-more.ensures.ok polygon_takes c.in-Some.behind.now
    (c.in-Some.ensures.found ∙ ap (λ b. Some (b, symbols c.in-Some.behind.now)) c.if-not-goes_on.true)

pub loop-more-preserved : goal.loop-more-preserved
loop-more-preserved c = list_goes_on wide_polygon_at after_polygon c.args.self.now c.loop-more.self c.args.text.now c.loop-more.rest.now c.loop-more.invariant c.behind_polygon.new.self c.in_ok-more.more.now c.in_ok-more.ensures.ok polygon_takes c.in-Some.behind.now
    (c.in-Some.ensures.found ∙ ap (λ b. Some (b, symbols c.in-Some.behind.now)) c.if-not-goes_on.false)
    (less_room c.behind_polygon.new.self c.in_ok-more.more.now c.in-Some.behind.now c.in_ok-more.ensures.room (omega (arith, c.in-Some.ensures.shorter)))
    (omega (arith, c.in_ok-more.ensures.shorter, c.in-Some.ensures.shorter))
