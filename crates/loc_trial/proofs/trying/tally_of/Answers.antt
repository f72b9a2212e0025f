use Rattle.std.proofs.Common.{◌≡◌, ◌≤◌, ◌+◌, ◌*◌, ◌∙◌, List, None, ap, length, refl, arith}
use Rattle.std.specs.Prelude.{ℕ}
use Rattle.std.proofs.{lemmas.List.length-map, lemmas.List.FromFn.length-range_with_len}
use Rattle.std.proofs.{lemmas.List.Sums.count_by-le-length, Math.Nat.mul-le-mul_right}
use Rattle.loc_spec_plane.specs.Lists.{numbers}
use Rattle.loc_spec_text.specs.{Answered.answered, Bytes.ended_lines}
use Rattle.loc_batch.specs.{Answering.answer_by, Batches.lines_ended, Batches.no_tally, Faces.unnumbered}
use Rattle.loc_io.specs.Streams.{Stream, stream}
use Rattle.loc_batch.specs.PointLines.{is_point_line, point_count}
use Rattle.loc_batch.specs.Streams.{tally_of as tally_of_answers}
use Rattle.loc_trial.specs.Generated.{point_line}
use Rattle.loc_trial.proofs.Feeding.{counted, lines_fed, no_fault}
use Rattle.loc_trial.proofs.PointTexts.{points_cut, points_short}
use Rattle.loc_trial.proofs.trying.tally_of.Goals as goal

abbrev none_written : Stream
none_written = stream None 0 0

pub unreachable-requires : goal.unreachable-requires
unreachable-requires g c =
    let piece = c.deref.ensures.value ∙ c.in_ok-points.ensures in
    let fits : length c.deref.result.now ≤ c.in_ok-batch.batch.limit = omega (arith, ap length piece, points_short c.args.n c.args.shift c.requires.size, c.in_ok-batch.ensures.limit) in
    no_fault (g.I.Locator.finds c.args.index.now c.args.table.now) c.args.legend.now c.requires.always c.in_ok-batch.batch c.feed.new.self c.deref.result.now none_written none_written c.in_ok-batch.ensures.fresh c.in_ok-batch.ensures.scale fits refl refl c.in-Err.field-0 c.in-Err.ensures.feeds

pub returns-clause-tally : goal.returns-clause-tally
returns-clause-tally g c =
    let finds = g.I.Locator.finds c.args.index.now c.args.table.now in
    let piece = c.deref.ensures.value ∙ c.in_ok-points.ensures in
    let fits : length c.deref.result.now ≤ c.in_ok-batch.batch.limit = omega (arith, ap length piece, points_short c.args.n c.args.shift c.requires.size, c.in_ok-batch.ensures.limit) in
    c.tally.ensures
    ∙ counted finds c.args.legend.now c.requires.always c.in_ok-batch.batch c.feed.new.self c.deref.result.now none_written none_written c.in_ok-batch.ensures.fresh c.in_ok-batch.ensures.scale fits c.in-Ok.field-0 c.in-Ok.ensures.feeds
    ∙ ap (λ (ls : List (List ℕ)). tally_of_answers no_tally (answered (answer_by 0 finds unnumbered c.args.legend.now) ls).answers) (ap ended_lines piece ∙ points_cut c.args.n c.args.shift c.requires.size)

pub returns-clause-within : goal.returns-clause-within
returns-clause-within g c =
    let piece = c.deref.ensures.value ∙ c.in_ok-points.ensures in
    let fits : length c.deref.result.now ≤ c.in_ok-batch.batch.limit = omega (arith, ap length piece, points_short c.args.n c.args.shift c.requires.size, c.in_ok-batch.ensures.limit) in
    let lines = lines_fed (g.I.Locator.finds c.args.index.now c.args.table.now) c.args.legend.now c.requires.always c.in_ok-batch.batch c.feed.new.self c.deref.result.now none_written none_written c.in_ok-batch.ensures.fresh c.in_ok-batch.ensures.scale fits ∙ ap ended_lines piece ∙ points_cut c.args.n c.args.shift c.requires.size in
    let count = ap length lines ∙ length-map (numbers c.args.n) (point_line c.args.n c.args.shift) ∙ length-range_with_len 0 c.args.n in
    let each = g.I.Locator.most c.args.index.now c.args.table.now in
    let batch = c.in_ok-batch.batch in
    let points = point_count batch.scale (lines_ended batch c.deref.result.now) in
    let few : points ≤ c.args.n = omega (arith, count_by-le-length (is_point_line batch.scale) (lines_ended batch c.deref.result.now), count) in
    let alone : each + 0 ≡ each = omega arith in
    omega (arith, c.feed.ensures.within, ap (λ (k : ℕ). points * k) alone, mul-le-mul_right each few)
