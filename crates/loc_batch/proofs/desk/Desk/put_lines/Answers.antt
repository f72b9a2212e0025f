use Rattle.std.proofs.Common.{◌++◌, ◌+◌, Ok, arith, sym, ◌∙◌, ap, map, refl}
use Rattle.std.proofs.lemmas.Result.{err_from_is_err_and}
use Rattle.loc_spec_text.specs.{Answered.answered, Bytes.ended_lines, Points.point_of}
use Rattle.loc_batch.specs.{Told.told_by, Told.told_found, Kept.kept}
use Rattle.loc_batch.proofs.Cutting.{split_none, unbroken_both, unbroken_front}
use Rattle.loc_batch.proofs.Counting.{fewer, sought_and_put}
use Rattle.loc_batch.proofs.Lines.{answered_found, cut_answered, goes_off, goes_on, no_line}
use Rattle.loc_batch.proofs.desk.Desk.put_lines.Goals as goal

pub loop-more-init : goal.loop-more-init
loop-more-init g c = record { goes = λ t n k r p. p; unbroken = c.requires.unbroken; left = refl; up = omega arith; few = omega arith }

pub put_block-requires-clause-known : goal.put_block-requires-clause-known
put_block-requires-clause-known g c = c.search.ensures.known

pub loop-more-smaller : goal.loop-more-smaller
loop-more-smaller g c = c.in-Some.ensures.shorter

pub search-requires-clause-held : goal.search-requires-clause-held
search-requires-clause-held g c = (map (point_of c.args.scale) c.in-Some.ensures.reads.lines, c.in-Some.ensures.reads.holds)

pub returns-in_err-put_block-clause-answers : goal.returns-in_err-put_block-clause-answers
returns-in_err-put_block-clause-answers g c =
    let finds = g.D.Answerer.finds c.args.by.now in
    let tells = g.D.Answerer.tells c.args.by.now in
    let r = c.in-Some.ensures.reads in
    let same = ap (answered (told_found tells)) (c.search.ensures.found (map (point_of c.args.scale) r.lines) r.holds) ∙ answered_found c.args.scale finds tells r.lines in
    let p = err_from_is_err_and c.from_residual.result c.from_residual.ensures.1 in
    let answer = told_by c.args.scale finds tells in
    let is = cut_answered answer (ended_lines (c.loop-more.self.line.items ++ c.loop-more.rest.now)) r.lines (ended_lines (c.read_lines.new.line.items ++ c.in-Some.more.now)) (answered (told_found tells) c.search.new.self.found) (ap (λ s. s.0) r.split) same in
    rw (p.1, p.2) (goes_off (answered answer (ended_lines (c.args.self.now.line.items ++ c.args.text.now))) (answered (told_found tells) c.search.new.self.found) (answered answer (ended_lines (c.read_lines.new.line.items ++ c.in-Some.more.now))) c.args.self.now.tally c.loop-more.self.tally c.put_block.new.tally (g.O.Sink.meaning c.args.sink.now) (g.O.Sink.meaning c.loop-more.sink) (g.O.Sink.meaning c.put_block.new.sink) c.args.self.now.page c.loop-more.self.page c.put_block.new.page _ c.put_block.result c.in_err-put_block.was (rw is at c.loop-more.invariant.goes) c.put_block.ensures.answers)

pub returns-in_err-put_block-clause-within : goal.returns-in_err-put_block-clause-within
returns-in_err-put_block-clause-within g c =
    let r = c.in-Some.ensures.reads in
    let found = g.D.Answerer.most_found c.args.by.now in
    let put = g.D.Answerer.most_put c.args.by.now in
    let both = sought_and_put c.args.scale c.loop-more.steps _ _ _ found put (g.D.Answerer.finds c.args.by.now) r.lines c.search.new.self.found c.search.ensures.within r.holds.few c.put_block.ensures.within (c.search.ensures.found (map (point_of c.args.scale) r.lines) r.holds) in
    omega (arith, fewer c.loop-more.steps _ (found + put) _ c.args.scale (ended_lines (c.loop-more.self.line.items ++ c.loop-more.rest.now)) r.lines (ended_lines (c.read_lines.new.line.items ++ c.in-Some.more.now)) (ap (λ s. s.0) r.split) both c.loop-more.invariant.few)

pub loop-more-preserved : goal.loop-more-preserved
loop-more-preserved g c =
    let finds = g.D.Answerer.finds c.args.by.now in
    let tells = g.D.Answerer.tells c.args.by.now in
    let r = c.in-Some.ensures.reads in
    let same = ap (answered (told_found tells)) (c.search.ensures.found (map (point_of c.args.scale) r.lines) r.holds) ∙ answered_found c.args.scale finds tells r.lines in
    let found = g.D.Answerer.most_found c.args.by.now in
    let put = g.D.Answerer.most_put c.args.by.now in
    let both = sought_and_put c.args.scale c.loop-more.steps _ _ _ found put finds r.lines c.search.new.self.found c.search.ensures.within r.holds.few c.put_block.ensures.within (c.search.ensures.found (map (point_of c.args.scale) r.lines) r.holds) in
    let answer = told_by c.args.scale finds tells in
    let is = cut_answered answer (ended_lines (c.loop-more.self.line.items ++ c.loop-more.rest.now)) r.lines (ended_lines (c.read_lines.new.line.items ++ c.in-Some.more.now)) (answered (told_found tells) c.search.new.self.found) (ap (λ s. s.0) r.split) same in
    record {
      goes = goes_on (answered answer (ended_lines (c.args.self.now.line.items ++ c.args.text.now))) (answered (told_found tells) c.search.new.self.found) (answered answer (ended_lines (c.read_lines.new.line.items ++ c.in-Some.more.now))) c.args.self.now.tally c.loop-more.self.tally c.put_block.new.tally (g.O.Sink.meaning c.args.sink.now) (g.O.Sink.meaning c.loop-more.sink) (g.O.Sink.meaning c.put_block.new.sink) c.args.self.now.page c.loop-more.self.page c.put_block.new.page _ c.put_block.result c.in_ok-put_block.was (rw is at c.loop-more.invariant.goes) c.put_block.ensures.answers;
      unbroken = r.unbroken;
      left = sym (ap (λ s. s.1) r.split) ∙ c.loop-more.invariant.left;
      up = omega (arith, c.loop-more.invariant.up, c.search.ensures.counted, c.put_block.ensures.counted);
      few = fewer c.loop-more.steps _ (found + put) _ c.args.scale (ended_lines (c.loop-more.self.line.items ++ c.loop-more.rest.now)) r.lines (ended_lines (c.read_lines.new.line.items ++ c.in-Some.more.now)) (ap (λ s. s.0) r.split) both c.loop-more.invariant.few;
    }

pub returns-clause-answers : goal.returns-clause-answers
returns-clause-answers g c =
    let line = c.loop-more.self.line.items in
    let none = split_none (line ++ c.loop-more.rest.now) (unbroken_both line c.loop-more.rest.now c.loop-more.invariant.unbroken c.in_default.ensures.reads.0) in
    (rw (ap (λ s. s.0) none) at c.loop-more.invariant.goes) _ _ _ (Ok tt) (no_line _ _ _ tt)

pub returns-clause-line : goal.returns-clause-line
returns-clause-line g c =
    let line = c.loop-more.self.line.items in
    let none = split_none (line ++ c.loop-more.rest.now) (unbroken_both line c.loop-more.rest.now c.loop-more.invariant.unbroken c.in_default.ensures.reads.0) in
    c.keep.ensures ∙ ap kept (ap (λ l. l ++ c.loop-more.rest.now) c.in_default.ensures.reads.1 ∙ (sym (ap (λ s. s.1) none) ∙ c.loop-more.invariant.left))

pub returns-clause-unbroken : goal.returns-clause-unbroken
returns-clause-unbroken g c =
    let line = c.loop-more.self.line.items in
    rw (c.keep.ensures, c.in_default.ensures.reads.1) (unbroken_front 4097 (line ++ c.loop-more.rest.now) (unbroken_both line c.loop-more.rest.now c.loop-more.invariant.unbroken c.in_default.ensures.reads.0))
