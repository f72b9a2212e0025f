use Rattle.std.proofs.Common.{◌≡◌, ◌+◌, ◌-◌, ◌/◌, true, length, subst, arith}
use Rattle.std.proofs.lemmas.Bool.{and_from, lt-ltb}
use Rattle.loc_spec_plane.specs.{Points.before, Tables.corner}
use Rattle.loc_place.proofs.Behind.{before_earlier, before_later, stands_behind}
use Rattle.loc_place.proofs.Halving.{no_more, step_halves, step_doubles}
use Rattle.loc_place.proofs.corners.search_corners.Goals as goal

pub loop-low-preserved-in-Less : goal.loop-low-preserved-in-Less
loop-low-preserved-in-Less g c =
    let t = c.args.views.now in
    let l = c.loop-low in
    let i = l.invariant in
    let order = i.in_order in
    let here : l.low + (l.high - l.low) / 2 ≡ l.low + (l.high - l.low) / 2 + 1 - 1 = omega arith in
    record {
      in_order = omega arith;
      within = i.within;
      passed = λ more. subst (λ k. before (corner t k) c.args.p ≡ true) here c.in-Less.ensures.value;
      ahead = i.ahead;
      counted = omega arith;
      halved = step_halves c.args.steps.now l.steps _ (l.high - l.low) (length t.corners) i.counted c.compare.ensures.counted i.halved _ (omega arith);
      halving = step_doubles c.args.steps.now l.steps _ (l.high - l.low) (length t.corners) i.counted c.compare.ensures.counted i.halved (omega arith);
    }

pub returns-in-Equal-clause-standing : goal.returns-in-Equal-clause-standing
returns-in-Equal-clause-standing g c = and_from _ _ (lt-ltb (c.loop-low.low + (c.loop-low.high - c.loop-low.low) / 2) (length c.args.views.now.corners) (omega arith)) c.in-Equal.ensures.value

pub returns-in-Equal-clause-halving : goal.returns-in-Equal-clause-halving
returns-in-Equal-clause-halving g c =
    let l = c.loop-low in
    let i = l.invariant in
    step_doubles c.args.steps.now l.steps _ (l.high - l.low) (length c.args.views.now.corners) i.counted c.compare.ensures.counted i.halved (omega arith)

pub loop-low-preserved : goal.loop-low-preserved
loop-low-preserved g c =
    let t = c.args.views.now in
    let l = c.loop-low in
    let i = l.invariant in
    let order = i.in_order in
    record {
      in_order = omega arith;
      within = omega arith;
      passed = i.passed;
      ahead = λ less. c.in-Greater.ensures.value;
      counted = omega arith;
      halved = step_halves c.args.steps.now l.steps _ (l.high - l.low) (length t.corners) i.counted c.compare.ensures.counted i.halved _ (omega arith);
      halving = step_doubles c.args.steps.now l.steps _ (l.high - l.low) (length t.corners) i.counted c.compare.ensures.counted i.halved (omega arith);
    }

pub returns-clause-standing : goal.returns-clause-standing
returns-clause-standing g c =
    let t = c.args.views.now in
    let p = c.args.p in
    let ok = c.law.ensures.in_order in
    let low = c.loop-low.low in
    let both : c.loop-low.high ≡ low = omega arith in
    stands_behind t ok p low (omega arith)
    (λ n less. before_earlier t ok p (low - 1) (omega arith) (c.loop-low.invariant.passed (omega arith)) n (omega arith))
    (λ n from fits. before_later t ok p low (subst (λ k. before p (corner t k) ≡ true) both (c.loop-low.invariant.ahead (omega arith))) n from fits)

pub returns-in-Equal-clause-few : goal.returns-in-Equal-clause-few
returns-in-Equal-clause-few g c =
    let l = c.loop-low in
    let i = l.invariant in
    let few = no_more _ (length c.args.views.now.corners) (step_doubles c.args.steps.now l.steps _ (l.high - l.low) (length c.args.views.now.corners) i.counted c.compare.ensures.counted i.halved (omega arith)) in
    omega (arith, c.compare.ensures.counted, i.counted)

pub returns-clause-few : goal.returns-clause-few
returns-clause-few g c = let few = no_more _ (length c.args.views.now.corners) c.loop-low.invariant.halving in omega (arith, c.loop-low.invariant.counted)
