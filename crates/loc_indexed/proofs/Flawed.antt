-- An index goes along the course of its judgement as a judge says.
use Rattle.std.proofs.Common.{◌≡◌, ℕ, ◌<◌, Bool, true, not, length, Option, Some, None, refl, sym, ◌∙◌, subst, arith}
use Rattle.std.specs.Prelude.{IsTrue, ◌&&◌, nat_lt}
use Rattle.std.specs.List.{list_any}
use Rattle.std.proofs.lemmas.Bool.{and_from, or_left, or_right, not-true, true≢false}
use Rattle.std.proofs.{lemmas.Bool.Decides.Decides-ltb, lemmas.List.length-map}
use Rattle.loc_spec_text.specs.{Bytes.Text, Points.ended}
use Rattle.loc_spec_plane.specs.{Lists.is_in, Points.conflict, Points.cross, Points.touch}
use Rattle.loc_spec_plane.specs.Tables.{Table, edge, edge_numbers}
use Rattle.loc_geom.specs.{Answers.IsMeeting, declared.kinds.Meeting.Meeting}
use Rattle.loc_geom.specs.declared.kinds.Meeting.TheVariants as m
use Rattle.loc_spec_index.specs.Content.{Content, EdgeRow, table_in}
use Rattle.loc_spec_index.specs.Flaws.{Flaw, HasFlaw, IsFirst, bare, conflicting, deep, lone, spare_cover, uneven, wrong_cover, wrong_floor, wrong_list, wrong_source}
use Rattle.loc_laws_judge.specs.FirstFlaw.{FirstIsFound, IsOneOf, IsReadable, first_flaw}
use Rattle.loc_laws_rays.proofs.{Members.in_numbers, Covering.any-found}
use Rattle.loc_verify.specs.{Judged.IsJudged, declared.fault.VerifyFault.VerifyFault}
use Rattle.loc_verify.specs.declared.fault.VerifyFault.TheVariants as v
use Rattle.loc_course.specs.{Courses.refused, Courses.writes, Outcomes.exactly}
use Rattle.loc_course.specs.Following.{Follows, Moment, lacks, refuses_by}
use Rattle.loc_course.proofs.Told.{exactly_it}
use Rattle.loc_indexed.specs.FlawTexts.{clash_text, flaw_stop, flaw_text, index_text, is_clash, names_clash, names_pair, says}
use Rattle.loc_indexed.specs.Verifying.{judged_course}

-- ---- the line of two edges that conflict

-- an edge that is there is one of the numbers
numbered : (c : Content) (e : ℕ) → e < length c.edges → is_in e (edge_numbers (table_in c)) ≡ true
unfolding table_in
numbered c e fits = in_numbers e _ (let many = length-map c.edges (λ (row : EdgeRow). row.ends) in omega (arith, fits, many))

pair_named : (t : Table) (a b : ℕ) (meeting : Meeting) → nat_lt a b ≡ true → conflict (edge t a) (edge t b) ≡ true → IsMeeting (edge t a) (edge t b) meeting → IsTrue (names_pair t (ended (clash_text a b meeting)) a b)
pair_named t a b m.Apart less there meets = absurd (true≢false (sym there ∙ not-true (conflict (edge t a) (edge t b)) meets))
pair_named t a b m.Touch less there meets =
    let line = ended (clash_text a b m.Touch) in
    and_from (nat_lt a b && conflict (edge t a) (edge t b)) _ (and_from (nat_lt a b) _ less there)
    (or_left _ _ (and_from (touch (edge t a) (edge t b)) _ meets.1 (exactly_it line line refl)))
pair_named t a b m.Cross less there meets =
    let line = ended (clash_text a b m.Cross) in
    and_from (nat_lt a b && conflict (edge t a) (edge t b)) _ (and_from (nat_lt a b) _ less there)
    (or_right _ _ (and_from (cross (edge t a) (edge t b)) _ meets.1 (exactly_it line line refl)))

-- it names two edges that conflict
clash_named : (c : Content) (a b : ℕ) (meeting : Meeting) → HasFlaw c (conflicting a b) → IsMeeting (edge (table_in c) a) (edge (table_in c) b) meeting → IsTrue (names_clash c (ended (clash_text a b meeting)))
clash_named c a b meeting has meets =
    let t = table_in c in
    let line = ended (clash_text a b meeting) in
    let less : a < length c.edges = (let first = has.0 in let second = has.1 in omega (arith, first, second)) in
    any-found (λ x. list_any (names_pair t line x) (edge_numbers t)) (edge_numbers t) a (numbered c a less)
    (any-found (names_pair t line a) (edge_numbers t) b (numbered c b has.1) (pair_named t a b meeting ((Decides-ltb a b).1 has.0) has.2 meets))

-- ---- the line of a flaw

-- where edges do not conflict, the first flaw is the computed one, and its line is its text
pub one_of : (flaw : Flaw) (o : Option Flaw) → IsTrue (not (is_clash flaw)) → IsOneOf flaw o → o ≡ Some flaw
one_of (lone n) o other is = is
one_of (bare e) o other is = is
one_of (uneven n f) o other is = is
one_of (conflicting a b) o other is = absurd (true≢false (sym other))
one_of (wrong_floor n) o other is = is
one_of (wrong_cover e) o other is = is
one_of (spare_cover n) o other is = is
one_of (wrong_source e) o other is = is
one_of (deep i) o other is = is
one_of (wrong_list i p) o other is = is

pub says_exactly : (c : Content) (flaw : Flaw) → IsTrue (not (is_clash flaw)) → says c flaw ≡ exactly (ended (flaw_text flaw))
says_exactly c (lone n) other = refl
says_exactly c (bare e) other = refl
says_exactly c (uneven n f) other = refl
says_exactly c (conflicting a b) other = absurd (true≢false (sym other))
says_exactly c (wrong_floor n) other = refl
says_exactly c (wrong_cover e) other = refl
says_exactly c (spare_cover n) other = refl
says_exactly c (wrong_source e) other = refl
says_exactly c (deep i) other = refl
says_exactly c (wrong_list i p) other = refl

-- ---- along the course

-- an index without a flaw goes on
pub goes_unflawed : (c : Content) (m last : Moment) → first_flaw c ≡ None → {end : _} → Follows (writes (exactly (ended (index_text c)))) m last end → Follows (judged_course c (first_flaw c)) m last end
goes_unflawed c m last none {end} follows = subst (λ (o : Option Flaw). Follows (judged_course c o) m last end) (sym none) follows

refused_by : (c : Content) (m : Moment) (flaw : Flaw) (line : Text) → first_flaw c ≡ Some flaw → IsTrue (says c flaw line) → Follows (judged_course c (first_flaw c)) m m (Some (refused line))
refused_by c m flaw line is passes = subst (λ (o : Option Flaw). Follows (judged_course c o) m m (Some (refused line))) (sym is) (refuses_by line passes)

module _ (same : FirstIsFound) (c : Content) (m : Moment) (readable : IsReadable c) where
  flawed : (flaw : Flaw) → IsTrue (not (is_clash flaw)) → IsFirst c flaw → Follows (judged_course c (first_flaw c)) m m (Some (refused (ended (flaw_text flaw))))
  flawed flaw other first =
      let line = ended (flaw_text flaw) in
      refused_by c m flaw line (one_of flaw (first_flaw c) other (same c flaw readable first)) (subst (λ (f : Text → Bool). IsTrue (f line)) (sym (says_exactly c flaw other)) (exactly_it line line refl))

  -- an index is refused by the line of what a judge found
  pub goes_flawed : (fault : VerifyFault) → IsJudged c fault → Follows (judged_course c (first_flaw c)) m m (Some (flaw_stop fault))
  goes_flawed (v.Lone n) judged = flawed (lone n) refl judged
  goes_flawed (v.Bare e) judged = flawed (bare e) refl judged
  goes_flawed (v.Uneven n f) judged = flawed (uneven n f) refl judged
  goes_flawed (v.Conflict a b meeting) judged =
      let found = same c (conflicting a b) readable judged.0 in
      refused_by c m (conflicting found.0 found.1) (ended (clash_text a b meeting)) found.2 (clash_named c a b meeting judged.0.0 judged.1)
  goes_flawed (v.WrongFloor n) judged = flawed (wrong_floor n) refl judged
  goes_flawed (v.WrongCover e) judged = flawed (wrong_cover e) refl judged
  goes_flawed (v.SpareCover n) judged = flawed (spare_cover n) refl judged
  goes_flawed (v.WrongSource e) judged = flawed (wrong_source e) refl judged
  goes_flawed (v.Deep i) judged = flawed (deep i) refl judged
  goes_flawed (v.WrongList i p) judged = flawed (wrong_list i p) refl judged
  goes_flawed v.NoMemory judged = lacks
