use Rattle.std.proofs.{Common.None, Common.refl, lemmas.Result.err_from_is_err_and}
use Rattle.loc_io.specs.{Meaning.Meaning, Streams.stream}
use Rattle.loc_spec_index.specs.IndexFile.{bytes_of}
use Rattle.loc_course.specs.Following.{Moment, makes_by, moment}
use Rattle.loc_course.proofs.Told.{exactly_it}
use Rattle.loc_upgrade.proofs.Along.{remaking}
use Rattle.loc_upgrade.proofs.Making.{not_upgraded, read_keeps, stopped_keeps, upgraded_by}
use Rattle.loc_upgrade.proofs.upgrading.upgrade.Goals as goal

pub returns-in_err-held-clause-follows : goal.returns-in_err-held-clause-follows
returns-in_err-held-clause-follows g c o k = let p = err_from_is_err_and c.from_residual.result c.from_residual.ensures.1 in rw (p.1, p.2) (c.in_err-held.ensures.goes_on (remaking c.args.new_name.now) o k)

pub returns-in_err-held-clause-upgraded : goal.returns-in_err-held-clause-upgraded
returns-in_err-held-clause-upgraded g c =
    let p = err_from_is_err_and c.from_residual.result c.from_residual.ensures.1 in
    let at : Meaning → Moment = λ shelf. moment shelf (stream None 0 0) 0 in
    let old = g.F.Shelf.meaning c.args.shelf.now in
    let new = g.F.Shelf.meaning c.read_index_file.new.shelf in
    rw (p.1, p.2) (not_upgraded c.args.old_name.now c.args.new_name.now old new _ (stopped_keeps c.args.old_name.now (at old) (at new) _ (λ next. c.in_err-held.ensures.goes_on next (stream None 0 0) 0)))

pub returns-clause-follows : goal.returns-clause-follows
returns-clause-follows g c o k =
    let text = bytes_of 2 c.in_ok-held.held.content in
    c.in_ok-held.ensures.goes_on (remaking c.args.new_name.now) o k _ _ (makes_by text _ (exactly_it text text refl) c.make_upgrade-outcome.ensures)

pub returns-clause-upgraded : goal.returns-clause-upgraded
returns-clause-upgraded g c =
    let at : Meaning → Moment = λ shelf. moment shelf (stream None 0 0) 0 in
    let old = g.F.Shelf.meaning c.args.shelf.now in
    let mid = g.F.Shelf.meaning c.read_index_file.new.shelf in
    let keeps = read_keeps c.args.old_name.now (at old) (at mid) c.in_ok-held.held.content (λ next last end follows. c.in_ok-held.ensures.goes_on next (stream None 0 0) 0 last end follows) in
    upgraded_by c.args.old_name.now c.args.new_name.now old _ c.in_ok-held.held.content mid c.in_ok-held.ensures.told keeps _ c.make_upgrade-outcome.ensures
