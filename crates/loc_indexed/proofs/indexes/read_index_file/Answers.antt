use Rattle.std.proofs.{Common.None, lemmas.Result.err_from_is_err_and}
use Rattle.loc_spec_text.specs.{Bytes.Text, Limits.most_index}
use Rattle.loc_io.specs.{Meaning.Meaning, Streams.stream}
use Rattle.loc_laws_index.specs.IndexReading.{reading}
use Rattle.loc_course.specs.{Courses.Course, Following.Moment, Following.moment, Stops.source}
use Rattle.loc_course.proofs.Going.{goes_further}
use Rattle.loc_indexed.specs.IndexedCourses.{index_in}
use Rattle.loc_indexed.proofs.ToldFiles.{told_file, told_of}
use Rattle.loc_indexed.proofs.indexes.read_index_file.Goals as goal

pub returns-in_err-bytes-clause-goes_on : goal.returns-in_err-bytes-clause-goes_on
returns-in_err-bytes-clause-goes_on g c next o k = let p = err_from_is_err_and c.from_residual.result c.from_residual.ensures.1 in rw (p.1, p.2) (c.in_err-bytes.ensures.goes_on _ o k)

pub returns-clause-goes_on : goal.returns-clause-goes_on
returns-clause-goes_on g c next o k =
    let mid = moment (g.F.Shelf.meaning c.read_source.new.shelf) o k in
    let behind : Text → Course = λ bytes. index_in (reading bytes) next in
    goes_further _ _ mid mid (λ v. behind v.items) c.in_ok-bytes.bytes (λ held. next held.content) c.read_index_in.result (c.in_ok-bytes.ensures.goes_on behind o k) (rw c.deref.ensures.value at (c.read_index_in.ensures.goes_on next mid))

pub returns-clause-told : goal.returns-clause-told
returns-clause-told g c =
    let at : Meaning → Moment = λ shelf. moment shelf (stream None 0 0) 0 in
    let told = told_of (source c.args.name.now most_index _) (at (g.F.Shelf.meaning c.args.shelf.now)) (at (g.F.Shelf.meaning c.read_source.new.shelf)) c.in_ok-bytes.bytes.items
    (λ next end follows. c.in_ok-bytes.ensures.goes_on next (stream None 0 0) 0 _ end follows) in
    told_file _ _ c.read_index_in.result told (rw c.deref.ensures.value at c.read_index_in.ensures.small) (rw c.deref.ensures.value at c.read_index_in.ensures.file)
