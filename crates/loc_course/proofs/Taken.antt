-- A text that out took, or of which a write failed, as the end of a command that writes exactly it.
use Rattle.std.proofs.Common.{◌≡◌, ℕ, Some, None, Result, Ok, Err, refl, subst}
use Rattle.loc_spec_text.specs.Bytes.{Text}
use Rattle.loc_io.specs.{Meaning.Meaning, Streams.Stream, Streams.TakesAll}
use Rattle.loc_course.specs.Courses.{unwritten, writes}
use Rattle.loc_course.specs.{Following.Follows, Following.moment, Following.writes_by, Outcomes.exactly}
use Rattle.loc_course.proofs.Told.{exactly_it}

-- a text that was written
pub done : {T E : Type 0} (text : Text) (shelf : Meaning) (k : ℕ) (o m : Stream) (r : Result T E) (x : T) → r ≡ Ok x → TakesAll text o m r → Follows (writes (exactly text)) (moment shelf o k) (moment shelf m k) None
done text shelf k o m r x is takes =
    let took = subst (λ r. TakesAll text o m r) is takes in
    writes_by text m (exactly_it text text refl) (record { wrote = (took.ok, took.cause.steady); in_time = took.in_time })

-- a text of which a write failed
pub cut : {T E : Type 0} (text : Text) (shelf : Meaning) (k : ℕ) (o m : Stream) (r : Result T E) (e : E) → r ≡ Err e → TakesAll text o m r → Follows (writes (exactly text)) (moment shelf o k) (moment shelf m k) (Some unwritten)
cut text shelf k o m r e is takes =
    let failed = subst (λ r. TakesAll text o m r) is takes in
    writes_by text m (exactly_it text text refl) (record { wrote = (failed.err, failed.cause.failed); in_time = failed.in_time })

-- the same text, written otherwise
pub takes_same : {T E : Type 0} (a b : Text) (o m : Stream) (r : Result T E) → a ≡ b → TakesAll a o m r → TakesAll b o m r
takes_same a b o m r is takes = subst (λ l. TakesAll l o m r) is takes
