-- The courses of the commands on generated layers: what they come to, that they write at once and make no file, and their steps.
use Rattle.std.proofs.Common.{◌≡◌, ℕ, ◌*◌, ◌<◌, ◌≤◌, Bool, ap, arith}
use Rattle.std.specs.Prelude.{nat_lt}
use Rattle.std.proofs.{lemmas.Bool.cond-true, lemmas.Bool.cond_both, lemmas.Bool.Decides.Decides-ltb}
use Rattle.loc_spec_text.specs.{Bytes.Text, Points.ended}
use Rattle.loc_io.specs.Meaning.{Told}
use Rattle.loc_spec_asked.specs.declared.Index.{Index}
use Rattle.loc_gen.specs.{declared.kinds.Kind.Kind, Layers.layer_text, Layers.limit_of}
use Rattle.loc_course.specs.Courses.{Course, refuses, writes}
use Rattle.loc_course.specs.Outcomes.{exactly, outcome, output, refusal}
use Rattle.loc_course.specs.Sentences.{IsPlain, SearchesNothing, WithinSteps}
use Rattle.loc_course.proofs.Plain.{plain_refuses, plain_searches, plain_writes}
use Rattle.loc_maps.specs.{Located.table_in, MapCourses.accepted_course, MapCourses.pieces_course}
use Rattle.loc_maps.proofs.Judged.{accepted_all, pieces_all}
use Rattle.loc_query.specs.QueryCourses.{steps_by}
use Rattle.loc_trial.specs.{Generated.generated, Trials.is_trial_line}
use Rattle.loc_trial.specs.TrialCourses.{gen_course, past_text, sized_course, trial_course, tried_course}
use Rattle.loc_trial.proofs.Sized.{on_within}

-- what holds of refusals and behind a size holds of the course that judges it
sized_all : (P : Course → Type 0) → ((passes : Text → Bool) → P (refuses passes)) → (kind : Kind) (n : ℕ) (next : Course) → P next → P (sized_course kind n next)
sized_all P refused_so kind n next behind =
    let past = exactly (ended (past_text n (limit_of kind))) in
    cond_both (nat_lt (limit_of kind) n) (refuses past) next P (λ _. refused_so past) (λ _. behind)

-- what holds of refusals and of what is written behind a search holds of a trial
trial_all : (P : Course → Type 0) → ((passes : Text → Bool) → P (refuses passes)) → (index : Index) (kind : Kind) (n shift : ℕ) → P (tried_course index kind n shift (generated kind n shift)) → P (trial_course index kind n shift)
trial_all P refused_so index kind n shift behind =
    let layer = generated kind n shift in
    let tried = tried_course index kind n shift layer in
    sized_all P refused_so kind n (pieces_course layer (accepted_course 0 layer tried)) (pieces_all P refused_so layer (accepted_course 0 layer tried) (accepted_all P refused_so 0 layer tried behind))

pub gen_plain : (kind : Kind) (n shift : ℕ) → IsPlain (gen_course kind n shift)
gen_plain kind n shift = sized_all IsPlain plain_refuses kind n (writes (exactly (layer_text kind n shift))) (plain_writes (exactly (layer_text kind n shift)))

pub trial_plain : (index : Index) (kind : Kind) (n shift : ℕ) → IsPlain (trial_course index kind n shift)
trial_plain index kind n shift =
    let line = is_trial_line index kind n shift (generated kind n shift) in
    trial_all IsPlain plain_refuses index kind n shift (plain_searches (n * steps_by index (table_in (generated kind n shift))) (writes line) (plain_writes line))

pub gen_searches_nothing : (kind : Kind) (n shift : ℕ) → SearchesNothing (gen_course kind n shift)
gen_searches_nothing kind n shift = sized_all SearchesNothing (λ passes. tt) kind n (writes (exactly (layer_text kind n shift))) tt

-- a trial counts at most so many steps for each point
pub trial_steps : (told : Text → Told) (index : Index) (kind : Kind) (n shift : ℕ) → WithinSteps told (trial_course index kind n shift) (n * steps_by index (table_in (generated kind n shift)))
trial_steps told index kind n shift =
    let most = n * steps_by index (table_in (generated kind n shift)) in
    trial_all (λ (c : Course). WithinSteps told c most) (λ passes. tt) index kind n shift (0, omega arith, tt)

-- a layer within its limit is written, and one past it is refused by its line
pub gen_within : (told : Text → Told) (kind : Kind) (n shift : ℕ) → n ≤ limit_of kind → outcome told (gen_course kind n shift) ≡ output (exactly (layer_text kind n shift))
gen_within told kind n shift within = ap (outcome told) (on_within kind n (writes (exactly (layer_text kind n shift))) within)

past : (told : Text → Told) (kind : Kind) (n : ℕ) (next : Course) → limit_of kind < n → outcome told (sized_course kind n next) ≡ refusal (exactly (ended (past_text n (limit_of kind))))
past told kind n next many = ap (outcome told) (cond-true (nat_lt (limit_of kind) n) (refuses (exactly (ended (past_text n (limit_of kind))))) next ((Decides-ltb (limit_of kind) n).1 many))

pub gen_past : (told : Text → Told) (kind : Kind) (n shift : ℕ) → limit_of kind < n → outcome told (gen_course kind n shift) ≡ refusal (exactly (ended (past_text n (limit_of kind))))
gen_past told kind n shift many = past told kind n (writes (exactly (layer_text kind n shift))) many

pub trial_past : (told : Text → Told) (index : Index) (kind : Kind) (n shift : ℕ) → limit_of kind < n → outcome told (trial_course index kind n shift) ≡ refusal (exactly (ended (past_text n (limit_of kind))))
trial_past told index kind n shift many = past told kind n (pieces_course (generated kind n shift) (accepted_course 0 (generated kind n shift) (tried_course index kind n shift (generated kind n shift)))) many
