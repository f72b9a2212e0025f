use Rattle.std.proofs.Common.{ℕ, ◌≡◌, List, map, sym, ◌∙◌, ap, subst}
use Rattle.std.specs.Prelude.{◌<◌, All, IfOk}
use Rattle.std.specs.List.Sorted.{IsNonDecreasingBy}
use Rattle.loc_spec_plane.specs.Lists.{numbers}
use Rattle.loc_edges.specs.Ending.{row_of}
use Rattle.loc_faces.proofs.nesting.hanging_rows.Goals as goal

pub hanging_by_face-requires-clause-half : goal.hanging_by_face-requires-clause-half
hanging_by_face-requires-clause-half c = c.requires.half

pub hanging_by_face-requires-clause-hanging : goal.hanging_by_face-requires-clause-hanging
hanging_by_face-requires-clause-hanging c = c.requires.hanging

pub hanging_by_face-requires-clause-as_many : goal.hanging_by_face-requires-clause-as_many
hanging_by_face-requires-clause-as_many c = c.requires.as_many

pub by_key-requires-clause-in_order : goal.by_key-requires-clause-in_order
by_key-requires-clause-in_order c = subst (IsNonDecreasingBy (λ (pair : ℕ × ℕ). pair.0)) (sym c.deref.ensures.value) c.in_ok-keyed.ensures.sorted

pub by_key-requires-clause-in_range : goal.by_key-requires-clause-in_range
by_key-requires-clause-in_range c = subst (All (λ (pair : ℕ × ℕ). pair.0 < c.args.count)) (sym c.deref.ensures.value) (c.in_ok-keyed.ensures.in_range c.args.count c.requires.within)

pub returns : goal.returns
returns c = subst (λ made. IfOk c.by_key.result (λ rows. rows ≡ made)) (ap (λ (keyed : List (ℕ × ℕ)). map (row_of keyed) (numbers c.args.count)) c.deref.ensures.value ∙ (λ i. map (λ f. c.in_ok-keyed.ensures.rows f i) (numbers c.args.count))) c.by_key.ensures
