-- What comes of a source whose text is told: a text that is too long, and one that is within the limit.
use Rattle.std.proofs.Common.{◌≡◌, ◌<◌, ◌≤◌, length, ◌∙◌, ap, arith}
use Rattle.std.specs.Prelude.{nat_lt}
use Rattle.std.proofs.lemmas.Bool.{cond-true, cond-false, false_from_ne_true}
use Rattle.std.proofs.lemmas.Bool.Decides.{Decides-ltb}
use Rattle.loc_io.specs.Meaning.{Told, holds}
use Rattle.loc_spec_text.specs.Bytes.{Text}
use Rattle.loc_course.specs.Courses.{Source}
use Rattle.loc_course.specs.Outcomes.{Outcome, refusal, by_text, exactly}

pub long : (s : Source) (o : Text → Outcome) (told : Told) (text : Text) → told ≡ holds text → s.limit < length text → by_text s o told ≡ refusal (exactly s.too_long)
long s o told text is more = ap (by_text s o) is ∙ cond-true (nat_lt s.limit (length text)) (refusal (exactly s.too_long)) (o text) ((Decides-ltb s.limit (length text)).1 more)

pub short : (s : Source) (o : Text → Outcome) (told : Told) (text : Text) → told ≡ holds text → length text ≤ s.limit → by_text s o told ≡ o text
short s o told text is few = ap (by_text s o) is
    ∙ cond-false (nat_lt s.limit (length text)) (refusal (exactly s.too_long)) (o text) (false_from_ne_true (nat_lt s.limit (length text)) (λ e. omega (arith, (Decides-ltb s.limit (length text)).0 e, few)))
