use Rattle.std.proofs.Common.{ap, map, string_bytes}
use Rattle.std.specs.Prelude.{option_map}
use Rattle.loc_words.specs.Words.{build, command_of, edges, upgrade, verify}
use Rattle.loc_indexed.specs.{Building.build_course, IndexedCourses.ask_course, Verifying.verify_course}
use Rattle.loc_indexed.proofs.{BuildRows.builds, Outcomes.asks, VerifyRows.verifies}
use Rattle.loc_query.specs.QueryCourses.{query_course}
use Rattle.loc_query.proofs.Headlines.{headline}
use Rattle.loc_features.specs.FeatureCourses.{features_course}
use Rattle.loc_features.proofs.Ended.{features_told}
use Rattle.loc_breaches.specs.BreachCourses.{valid_course}
use Rattle.loc_breaches.proofs.Answered.{judges}
use Rattle.loc_groups.specs.GroupCourses.{dissolve_course}
use Rattle.loc_groups.proofs.Dissolved.{dissolves}
use Rattle.loc_reach.specs.SpanCourses.{stab_course}
use Rattle.loc_reach.proofs.Stabbed.{stabs}
use Rattle.loc_upgrade.specs.UpgradeCourses.{edges_course, upgrade_course}
use Rattle.loc_upgrade.proofs.{EdgesTold.tells, Upgraded.upgrades}
use Rattle.loc_top.specs.Run.{course_by, file_of}
use Rattle.loc_top.proofs.Runs.{beside_of, ended_of, files_of, range, refuses_words, sentences_hold, sentences_of}
use Rattle.loc_top.proofs.top.run.Goals as goal

pub returns-clause-headline : goal.returns-clause-headline
returns-clause-headline g c asked is =
    let file = file_of asked.layer in
    let course = query_course asked.index asked.order asked.faces file asked.points in
    headline asked.index asked.order asked.faces file asked.points _ _ _ _ _ (sentences_of _ _ _ _ c.run_course.result _ c.run_course.ensures.ran course (ap (option_map course_by) is))

pub returns-clause-features : goal.returns-clause-features
returns-clause-features g c asked is =
    let file = file_of asked.layer in
    features_told file asked.points _ _ _ _ _ (sentences_of _ _ _ _ c.run_course.result _ c.run_course.ensures.ran (features_course file asked.points) (ap (option_map course_by) is))

pub returns-clause-asks : goal.returns-clause-asks
returns-clause-asks g c asked is =
    asks asked.index asked.points _ _ _ _ _ (sentences_of _ _ _ _ c.run_course.result _ c.run_course.ensures.ran (ask_course asked.index asked.points) (ap (option_map course_by) is))

pub returns-clause-builds : goal.returns-clause-builds
returns-clause-builds g c asked is =
    let file = file_of asked.layer in
    builds file asked.index _ _ _ _ _ (ended_of _ _ _ _ c.run_course.result _ c.run_course.ensures.ran (build_course file asked.index) (ap (option_map course_by) is)) (beside_of _ (build asked) (g.F.Shelf.meaning c.args.shelf.now) (g.F.Shelf.meaning c.run_course.new.shelf) c.run_course.result c.run_course.ensures.beside is)

pub returns-clause-verifies : goal.returns-clause-verifies
returns-clause-verifies g c asked is =
    verifies asked.index _ _ _ _ _ (sentences_of _ _ _ _ c.run_course.result _ c.run_course.ensures.ran (verify_course asked.index) (ap (option_map course_by) is)) (beside_of _ (verify asked) (g.F.Shelf.meaning c.args.shelf.now) (g.F.Shelf.meaning c.run_course.new.shelf) c.run_course.result c.run_course.ensures.beside is)

pub returns-clause-upgrades : goal.returns-clause-upgrades
returns-clause-upgrades g c asked is =
    upgrades asked.old asked.new _ _ _ _ _ (ended_of _ _ _ _ c.run_course.result _ c.run_course.ensures.ran (upgrade_course asked.old asked.new) (ap (option_map course_by) is)) (beside_of _ (upgrade asked) (g.F.Shelf.meaning c.args.shelf.now) (g.F.Shelf.meaning c.run_course.new.shelf) c.run_course.result c.run_course.ensures.beside is)

pub returns-clause-edges : goal.returns-clause-edges
returns-clause-edges g c asked is =
    tells asked.index _ _ _ _ _ (sentences_of _ _ _ _ c.run_course.result _ c.run_course.ensures.ran (edges_course asked.index) (ap (option_map course_by) is)) (beside_of _ (edges asked) (g.F.Shelf.meaning c.args.shelf.now) (g.F.Shelf.meaning c.run_course.new.shelf) c.run_course.result c.run_course.ensures.beside is)

pub returns-clause-stabs : goal.returns-clause-stabs
returns-clause-stabs g c asked is =
    let file = file_of asked.layer in
    stabs file asked.spans _ _ _ _ _ (sentences_of _ _ _ _ c.run_course.result _ c.run_course.ensures.ran (stab_course file asked.spans) (ap (option_map course_by) is))

pub returns-clause-judges : goal.returns-clause-judges
returns-clause-judges g c asked is =
    let file = file_of asked in
    judges file _ _ _ _ _ (sentences_of _ _ _ _ c.run_course.result _ c.run_course.ensures.ran (valid_course file) (ap (option_map course_by) is))

pub returns-clause-dissolves : goal.returns-clause-dissolves
returns-clause-dissolves g c asked is =
    let file = file_of asked in
    dissolves file _ _ _ _ _ (sentences_of _ _ _ _ c.run_course.result _ c.run_course.ensures.ran (dissolve_course file) (ap (option_map course_by) is))

pub returns-clause-sentences : goal.returns-clause-sentences
returns-clause-sentences g c = sentences_hold _ _ _ _ c.run_course.result (command_of (map string_bytes c.args.words.now)) c.run_course.ensures.ran c.run_course.ensures.notes_in_time

pub returns-clause-refuses_words : goal.returns-clause-refuses_words
returns-clause-refuses_words g c = refuses_words _ _ _ _ c.run_course.result _ c.run_course.ensures.ran

pub returns-clause-range : goal.returns-clause-range
returns-clause-range g c = range _ _ _ _ c.run_course.result _ c.run_course.ensures.ran

pub returns-clause-files : goal.returns-clause-files
returns-clause-files g c = files_of _ _ _ _ c.run_course.result (command_of (map string_bytes c.args.words.now)) c.run_course.ensures.ran
