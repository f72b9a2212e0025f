-- A size within the limit of its kind, or past it, by what the making of the layer answers.
use Rattle.std.proofs.Common.{◌≡◌, ℕ, ◌<◌, ◌≤◌, Option, Some, Result, Ok, Err, refl, sym, subst, inl, inr, arith}
use Rattle.std.specs.Prelude.{IfErr, nat_lt}
use Rattle.std.proofs.lemmas.Bool.{cases_lt, cond-true, cond-false, false_from_ne_true}
use Rattle.std.proofs.lemmas.Bool.Decides.{Decides-ltb}
use Rattle.loc_spec_text.specs.{Bytes.Text, Points.ended}
use Rattle.loc_io.specs.{Meaning.Meaning, Streams.Stream}
use Rattle.loc_gen.specs.{declared.kinds.Kind.Kind, Layers.layer_text, Layers.limit_of}
use Rattle.loc_gen.specs.declared.layers.GenFault.{GenFault}
use Rattle.loc_gen.specs.declared.layers.GenFault.TheVariants.{TooMany, WriteFault}
use Rattle.loc_course.specs.Courses.{Course, refuses, writes, Stopped, refused}
use Rattle.loc_course.specs.Following.{Follows, Moment, moment, WritesText, refuses_by, writes_by}
use Rattle.loc_course.specs.Outcomes.{exactly}
use Rattle.loc_course.proofs.Told.{exactly_it}
use Rattle.loc_trial.specs.TrialCourses.{gen_course, past_text, sized_course}

-- a course behind a size within the limit
pub on_within : (kind : Kind) (n : ℕ) (next : Course) → n ≤ limit_of kind → sized_course kind n next ≡ next
on_within kind n next few = cond-false (nat_lt (limit_of kind) n) (refuses (exactly (ended (past_text n (limit_of kind))))) next (false_from_ne_true (nat_lt (limit_of kind) n) (λ e. omega (arith, (Decides-ltb (limit_of kind) n).0 e, few)))

-- one past it is refused by its line
pub on_past : (kind : Kind) (n : ℕ) (next : Course) (m : Moment) (line : Text) → limit_of kind < n → line ≡ ended (past_text n (limit_of kind)) → Follows (sized_course kind n next) m m (Some (refused line))
on_past kind n next m line past is =
    let it = ended (past_text n (limit_of kind)) in
    subst (λ (c : Course). Follows c m m (Some (refused line))) (sym (cond-true (nat_lt (limit_of kind) n) (refuses (exactly it)) next ((Decides-ltb (limit_of kind) n).1 past))) (refuses_by line (exactly_it it line is))

module _ (kind : Kind) (n shift : ℕ) (old new : Stream) (shelf : Meaning) (k : ℕ) where
  -- the text of a layer within the limit was written, or a front of it
  pub wrote_layer : (came : Option Stopped) → n ≤ limit_of kind → WritesText (layer_text kind n shift) old new came → Follows (gen_course kind n shift) (moment shelf old k) (moment shelf new k) came
  wrote_layer came within wrote =
      let text = layer_text kind n shift in
      subst (λ (c : Course). Follows c (moment shelf old k) (moment shelf new k) came) (sym (on_within kind n (writes (exactly text)) within)) (writes_by text new (exactly_it text text refl) wrote)

  -- one past it was refused, and nothing was written
  pub refused_layer : (line : Text) → limit_of kind < n → new ≡ old → line ≡ ended (past_text n (limit_of kind)) → Follows (gen_course kind n shift) (moment shelf old k) (moment shelf new k) (Some (refused line))
  refused_layer line past same is =
      subst (λ (o : Stream). Follows (gen_course kind n shift) (moment shelf old k) (moment shelf o k) (Some (refused line))) (sym same) (on_past kind n (writes (exactly (layer_text kind n shift))) (moment shelf old k) line past is)

module _ (kind : Kind) (n : ℕ) (r : Result (Unit {0}) GenFault) (too_many : limit_of kind < n → r ≡ Err (TooMany n (limit_of kind))) (fault : n ≤ limit_of kind → IfErr r (λ e. e ≡ WriteFault)) where
  -- what was made was within the limit
  pub was_within : (u : Unit {0}) → r ≡ Ok u → n ≤ limit_of kind
  was_within u is = elim (cases_lt (limit_of kind) n) [
    | inl past ↦ absurd (let e = rw is at (too_many past) in cc e)
    | inr within ↦ within
  ]

  -- and where a write failed
  pub failed_within : r ≡ Err WriteFault → n ≤ limit_of kind
  failed_within is = elim (cases_lt (limit_of kind) n) [
    | inl past ↦ absurd (let e = rw is at (too_many past) in cc e)
    | inr within ↦ within
  ]

  -- what was told as too many is past it
  pub was_past : (asked limit : ℕ) → r ≡ Err (TooMany asked limit) → (limit_of kind < n) × (asked ≡ n) × (limit ≡ limit_of kind)
  was_past asked limit is = elim (cases_lt (limit_of kind) n) [
    | inl past ↦ (let e = rw is at (too_many past) in (past, cc e, cc e))
    | inr within ↦ absurd (let e = rw is at (fault within) in cc e)
  ]
