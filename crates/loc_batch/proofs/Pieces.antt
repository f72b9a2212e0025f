-- A piece fed behind another is both fed together.
use Rattle.std.proofs.Common.{◌≡◌, ℕ, ◌+◌, ◌-◌, List, ◌++◌, length, take, Some, None, Result, Ok, Err, sym, ◌∙◌, ap, subst, arith, append_assoc, length-append}
use Rattle.std.proofs.{lemmas.List.take_all, Math.Seq.take-append-add}
use Rattle.loc_io.specs.Streams.{Stream}
use Rattle.loc_spec_text.specs.Bytes.{ended_lines, unfinished}
use Rattle.loc_spec_text.proofs.LineLaws.{ended_lines-append, unfinished-append}
use Rattle.loc_batch.specs.Batches.{BatchState, FeedsBy, StaysSo, lines_ended, within_limit}
use Rattle.loc_batch.specs.{Kept.kept, Pieces.FeedsBoth, Pieces.MeetsKept, Told.Telling}
use Rattle.loc_batch.specs.declared.faults.FeedFault.{FeedFault}
use Rattle.loc_batch.specs.declared.faults.FeedFault.TheVariants as f
use Rattle.loc_batch.proofs.Streamed.{Behind, SameLines, behind, behind_kept, unfinished_unbroken}

module _ (answer : Telling) (same : MeetsKept answer) (s s1 s2 : BatchState) (p q : List ℕ) (o o1 o2 : Stream) (u : Unit {0}) (stays : StaysSo s s1) (first : FeedsBy answer s s1 p o o1 (Ok u)) where
  abbrev left : List ℕ
  left = unfinished (s.line ++ p)

  abbrev more : List ℕ
  more = within_limit s1 q

  -- behind what is kept the same lines end as behind the unfinished line
  same_at : (l : List ℕ) → SameLines answer (s1.line ++ l) (left ++ l)
  same_at l = subst (λ (line : List ℕ). SameLines answer (line ++ l) (left ++ l)) (sym first.4) (behind_kept answer same left l (unfinished_unbroken (s.line ++ p)))

  within : within_limit s (p ++ q) ≡ p ++ more
  within =
      let room : s.limit - s.fed ≡ length p + (s1.limit - s1.fed) = omega (arith, stays.limit, first.3, first.0) in
      ap (λ (k : ℕ). take k (p ++ q)) room ∙ take-append-add p q (s1.limit - s1.fed)

  lines_both : lines_ended s (p ++ q) ≡ lines_ended s p ++ ended_lines (left ++ more)
  lines_both =
      let all : within_limit s p ≡ p = take_all (s.limit - s.fed) p (omega (arith, first.0)) in
      ap (λ (l : List ℕ). ended_lines (s.line ++ l)) within ∙ (ap ended_lines (sym (append_assoc s.line p more))
      ∙ (ended_lines-append (s.line ++ p) more ∙ ap (λ (l : List ℕ). ended_lines (s.line ++ l) ++ ended_lines (left ++ more)) (sym all)))

  more_behind : Behind answer (lines_ended s (p ++ q)) (lines_ended s1 q) s.tally s1.tally o o1
  more_behind = behind answer (lines_ended s p) (ended_lines (left ++ more)) lines_both (same_at more).answers first.1 first.2

  both : (result : Result (Unit {0}) FeedFault) → FeedsBy answer s1 s2 q o1 o2 result → FeedsBy answer s s2 (p ++ q) o o2 result
  both (Ok v) second = (
    omega (arith, second.0, first.3, stays.limit, length-append p q),
    more_behind.refusal None second.1,
    more_behind.answers s2.tally o2 second.2,
    omega (arith, second.3, first.3, length-append p q),
    second.4 ∙ ((same_at q).rest ∙ ap kept (sym (unfinished-append (s.line ++ p) q) ∙ ap unfinished (append_assoc s.line p q))),
  )
  both (Err (f.Deep version)) second = (more_behind.refusal (Some (record { version = version })) second.0, more_behind.answers s2.tally o2 second.1)
  both (Err f.PointsLong) second = (omega (arith, second.0, first.3, stays.limit, length-append p q), more_behind.refusal None second.1, more_behind.answers s2.tally o2 second.2)
  both (Err f.WriteFault) second = more_behind.cut o2 second

pub feeds_both : (answer : Telling) → MeetsKept answer → FeedsBoth answer
feeds_both answer same s s1 s2 p q o o1 o2 u result stays first second = both answer same s s1 s2 p q o o1 o2 u stays first result second
