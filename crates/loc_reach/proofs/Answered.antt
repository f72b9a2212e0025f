-- The answers to the lines of a spans text, one line after the other, and their steps.
use Rattle.std.proofs.Common.{◌≡◌, ℕ, ◌+◌, ◌^◌, ◌≤◌, List, [], ◌∷◌, ◌++◌, length, sym, ◌∙◌, ap, subst, arith, append_assoc, Result, Ok, Err}
use Rattle.std.specs.{Prelude.codes, List.flat_map, List.sum_by}
use Rattle.std.proofs.lemmas.List.Sums.{sum_by-cons}
use Rattle.loc_io.specs.{declared.sink.WriteFault.WriteFault, Streams.Stream}
use Rattle.loc_page.specs.Puts.{PutsText}
use Rattle.loc_page.proofs.Pages.{Goes, goes_more, stop}
use Rattle.loc_spec_plane.specs.{Points.Point, Tables.Table}
use Rattle.loc_spec_text.specs.{Bytes.Text, Bytes.lines, Points.ended, Spans.met_text, Spans.numbered}
use Rattle.loc_place.proofs.SearchBounds.{greatest_is}
use Rattle.loc_stab.specs.Runs.{run_at}
use Rattle.loc_stab.proofs.Ranges.{goes_stop}
use Rattle.loc_reach.specs.SpanCourses.{line_answer, line_steps, met_output, seek_bound, span_steps, text_steps}

-- the parts of an answer line
pub edges_line : (es : List ℕ) → codes "edges" ++ (flat_map numbered es ++ codes "\n") ≡ ended (met_text es)
edges_line es = sym (append_assoc (codes "edges") (flat_map numbered es) (codes "\n"))

-- the steps of a span are within its bound
pub within_span : (t : Table) (low high : Point) (before after : ℕ) → (s : ℕ) × (after ≤ before + s + length (run_at t low high) + 1) × (2 ^ s ≤ seek_bound t low) → after ≤ before + span_steps t (low, high)
within_span t low high before after few = let took = few.1 in let most = greatest_is (seek_bound t low) few.0 few.2 in omega (arith, took, most)

module _ (scale : ℕ) (t : Table) where
  -- one line more
  output_next : (rest line more : Text) → lines rest ≡ line ∷ lines more → met_output scale t rest ≡ ended (line_answer scale t line) ++ met_output scale t more
  unfolding met_output
  output_next rest line more is = ap (flat_map (λ l. ended (line_answer scale t l))) is

  steps_next : (rest line more : Text) → lines rest ≡ line ∷ lines more → text_steps scale t rest ≡ line_steps scale t line + text_steps scale t more
  unfolding text_steps
  steps_next rest line more is = ap (sum_by (line_steps scale t)) is ∙ sum_by-cons (line_steps scale t) line (lines more)

  -- no line
  output_none : (rest : Text) → rest ≡ [] → met_output scale t rest ≡ []
  unfolding met_output
  output_none rest none = ap (λ l. flat_map (λ l. ended (line_answer scale t l)) (lines l)) none

  -- the lines of a text are answered up to those of its rest
  pub record AreAnswered (text : Text) (o : Stream) (h : List ℕ) (started : ℕ) (rest : Text) (m : Stream) (k : List ℕ) (steps : ℕ) : Type 0 where
    pub goes : Goes (met_output scale t text) (met_output scale t rest) o m h k
    pub counted : started ≤ steps
    pub within : steps + text_steps scale t rest ≤ started + text_steps scale t text

  module _ (text : Text) (o : Stream) (h : List ℕ) (started : ℕ) where
    pub answered_none : AreAnswered text o h started text o h started
    answered_none = record { goes = λ n i r p. p; counted = omega arith; within = omega arith }

    module _ (rest : Text) (m : Stream) (k : List ℕ) (steps : ℕ) (a : AreAnswered text o h started rest m k steps) where
      module _ (line more : Text) (is : lines rest ≡ line ∷ lines more) where
        goes : Goes (met_output scale t text) (ended (line_answer scale t line) ++ met_output scale t more) o m h k
        goes = subst (λ l. Goes (met_output scale t text) l o m h k) (output_next rest line more is) a.goes

        pub answered_more : {n : Stream} {i : List ℕ} {r : Result (Unit {0}) WriteFault} {x : Unit {0}} (after : ℕ) → r ≡ Ok x → PutsText (ended (line_answer scale t line)) m n k i r → steps ≤ after → after ≤ steps + line_steps scale t line → AreAnswered text o h started more n i after
        answered_more after done p up few = record {
          goes = goes_more (met_output scale t text) (ended (line_answer scale t line)) (met_output scale t more) o h done goes p;
          counted = (let c = a.counted in omega (arith, c, up));
          within = (let w = a.within in let s = steps_next rest line more is in omega (arith, w, s, few));
        }

        -- a write of its answer failed
        pub answered_fail : {n : Stream} {i : List ℕ} {r second : Result (Unit {0}) WriteFault} {e d : WriteFault} → r ≡ Err e → second ≡ Err d → PutsText (ended (line_answer scale t line)) m n k i r → PutsText (met_output scale t text) o n h i second
        answered_fail {n = n} {i = i} {second = second} failed fails p = goes n i second (stop (met_output scale t more) failed fails p)

        pub fail_within : (after : ℕ) → steps ≤ after → after ≤ steps + line_steps scale t line → (started ≤ after) × (after ≤ started + text_steps scale t text)
        fail_within after up few = (let c = a.counted in omega (arith, c, up), let w = a.within in let s = steps_next rest line more is in omega (arith, w, s, few))

      -- all lines are answered
      pub answered_all : (x : Unit {0}) → rest ≡ [] → PutsText {T = Unit {0}} {E = WriteFault} (met_output scale t text) o m h k (Ok x)
      answered_all x none = goes_stop (met_output scale t text) (met_output scale t rest) o m h k x (output_none rest none) a.goes

      pub all_within : (started ≤ steps) × (steps ≤ started + text_steps scale t text)
      all_within = (a.counted, let w = a.within in omega (arith, w))
