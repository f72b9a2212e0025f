use Rattle.std.proofs.Common.{[], ◌-◌, length, get_or, arith}
use Rattle.loc_place.specs.Steps.{alive_count}
use Rattle.loc_treeidx.proofs.Standing.{version_behind}
use Rattle.loc_place.proofs.ListCounts.{listed_count, square_rises}
use Rattle.loc_treeidx.proofs.version.search_behind.Goals as goal

pub search_version-requires-clause-alive : goal.search_version-requires-clause-alive
search_version-requires-clause-alive g c = version_behind c.args.views.now c.args.versions.now c.args.p c.args.passed c.requires.stands c.requires.behind (omega arith)

pub returns-clause-few : goal.returns-clause-few
returns-clause-few g c =
    let t = c.args.views.now in
    let list = get_or c.args.versions.now.sealed_lists (c.args.passed - 1) [] in
    let count = listed_count t c.args.p list (version_behind t c.args.versions.now c.args.p c.args.passed c.requires.stands c.requires.behind (omega arith)) in
    omega (arith, square_rises (length list) (alive_count t c.args.p) count, c.search_version.ensures.few)
