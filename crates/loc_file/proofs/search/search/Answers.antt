use Rattle.std.proofs.Common.{◌-◌, sym, ◌∙◌, arith}
use Rattle.loc_file.proofs.{Deep.most-corner, Deep.most-walk, TrueSteps.true-corner, TrueSteps.true-walk}
use Rattle.loc_file.proofs.Walked.{corners-there, edges-there}
use Rattle.loc_file.proofs.Searched.{search-corner, search-none, search-behind}
use Rattle.loc_file.proofs.search.search.Goals as goal

pub walk_version-requires-clause-version : goal.walk_version-requires-clause-version
walk_version-requires-clause-version g c =
    let e = corners-there c.args.held.now.content c.args.views.now c.requires in
    let some = c.in-Behind.passed-test.1 in
    omega (arith, e, c.in-Behind.ensures.standing.within, some)

pub returns-in-OnCorner-clause-found : goal.returns-in-OnCorner-clause-found
returns-in-OnCorner-clause-found g c = sym (search-corner c.args.views.now c.law.ensures.in_order c.args.p c.args.held.now.content.nodes c.args.held.now.content.roots c.in-OnCorner.corner c.in-OnCorner.ensures.standing)

pub returns-in-Behind-eq0-clause-found : goal.returns-in-Behind-eq0-clause-found
returns-in-Behind-eq0-clause-found g c = sym (search-none c.args.views.now c.law.ensures.in_order c.args.p c.args.held.now.content.nodes c.args.held.now.content.roots _ c.in-Behind-eq0.ensures.standing c.in-Behind-eq0.field-0-test)

pub returns-in-Behind-clause-found : goal.returns-in-Behind-clause-found
returns-in-Behind-clause-found g c = c.walk_version.ensures.found ∙ sym (search-behind c.args.views.now c.law.ensures.in_order c.args.p c.args.held.now.content.nodes c.args.held.now.content.roots c.in-Behind.passed c.in-Behind.ensures.standing c.in-Behind.passed-test.1)

pub returns-in-OnCorner-clause-within : goal.returns-in-OnCorner-clause-within
returns-in-OnCorner-clause-within g c = most-corner c.args.held.now.content c.args.views.now c.args.steps.now c.search_corners.new.steps c.search_corners.new.steps (edges-there c.args.held.now.content c.args.views.now c.requires) c.search_corners.ensures.counted c.search_corners.ensures.halving c.search_corners.ensures.few

pub returns-in-Behind-eq0-clause-within : goal.returns-in-Behind-eq0-clause-within
returns-in-Behind-eq0-clause-within g c = most-corner c.args.held.now.content c.args.views.now c.args.steps.now c.search_corners.new.steps c.search_corners.new.steps (edges-there c.args.held.now.content c.args.views.now c.requires) c.search_corners.ensures.counted c.search_corners.ensures.halving c.search_corners.ensures.few

pub returns-in-Behind-clause-within : goal.returns-in-Behind-clause-within
returns-in-Behind-clause-within g c =
    let e = corners-there c.args.held.now.content c.args.views.now c.requires in
    let some = c.in-Behind.passed-test.1 in
    most-walk c.args.held.now.content c.args.views.now c.args.steps.now c.search_corners.new.steps c.walk_version.new.steps (edges-there c.args.held.now.content c.args.views.now c.requires) c.search_corners.ensures.counted c.search_corners.ensures.halving c.search_corners.ensures.few (c.in-Behind.passed - 1) (omega (arith, e, c.in-Behind.ensures.standing.within, some)) c.walk_version.ensures.counted c.walk_version.ensures.within

pub returns-in-OnCorner-clause-few : goal.returns-in-OnCorner-clause-few
returns-in-OnCorner-clause-few g c = λ index. true-corner c.args.held.now.content c.args.views.now index c.args.p c.args.steps.now c.search_corners.new.steps c.search_corners.new.steps c.search_corners.ensures.counted c.search_corners.ensures.halving

pub returns-in-Behind-eq0-clause-few : goal.returns-in-Behind-eq0-clause-few
returns-in-Behind-eq0-clause-few g c = λ index. true-corner c.args.held.now.content c.args.views.now index c.args.p c.args.steps.now c.search_corners.new.steps c.search_corners.new.steps c.search_corners.ensures.counted c.search_corners.ensures.halving

pub returns-in-Behind-clause-few : goal.returns-in-Behind-clause-few
returns-in-Behind-clause-few g c = λ index.
    true-walk c.args.held.now.content c.args.views.now index c.args.p c.args.steps.now c.search_corners.new.steps c.walk_version.new.steps c.search_corners.ensures.counted c.search_corners.ensures.halving c.in-Behind.passed c.in-Behind.ensures.standing c.in-Behind.passed-test.1 c.walk_version.ensures.counted c.walk_version.ensures.within
