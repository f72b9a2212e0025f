use Rattle.std.proofs.Common.{◌≡◌, ℕ, ◌++◌, ◌∷◌, [], length, get_or, map, filter, sym, ◌∙◌, ap, subst, arith, rules}
use Rattle.std.specs.Prelude.{◌==◌, ◌&&◌, ◌<◌, All}
use Rattle.std.proofs.lemmas.List.Sorted.{All-permutation, IsNonDecreasingBy-from_sort_by_key, answers_always}
use Rattle.loc_spec_plane.specs.Lists.{numbers}
use Rattle.loc_edges.specs.Ending.{row_of}
use Rattle.loc_edges.proofs.EndingRows.{row_of-numbered, row_of-stable}
use Rattle.loc_half.specs.HalfEdgeLists.{next_in}
use Rattle.loc_faces.specs.Boundaries.{leads_hanging}
use Rattle.loc_faces.proofs.{Numbering.filter_past, Keyed.filter-filter, Keyed.keyed_more, Keyed.keyed_within}
use Rattle.loc_faces.proofs.nesting.hanging_by_face.Goals as goal
use Rattle.loc_faces.proofs.nesting.hanging_by_face.Goals.{In_ok-sort_by_key, then-leads_hanging+in_ok-push, else-leads_hanging}

pub loop-h-preserved : goal.loop-h-preserved
loop-h-preserved c = elim c.if-leads_hanging.branch [
  | then-leads_hanging+in_ok-push w ↦ ap (λ v. v.items) w.keyed-is ∙ (w.in_ok-push.ensures.items ∙ (ap (λ l. l ++ (get_or c.args.faces.now c.loop-h.h 0, c.loop-h.h) ∷ []) c.loop-h.invariant
      ∙ keyed_more (λ h. (get_or c.args.faces.now h 0, h)) (leads_hanging c.args.table.now (next_in c.args.half.now)) c.loop-h.h (sym c.leads_hanging.ensures ∙ w.if-leads_hanging.true)))
  | else-leads_hanging w ↦ ap (λ v. v.items) w.keyed-is ∙ (c.loop-h.invariant ∙ ap (map (λ h. (get_or c.args.faces.now h 0, h))) (sym (filter_past (leads_hanging c.args.table.now (next_in c.args.half.now)) c.loop-h.h (sym c.leads_hanging.ensures ∙ w.if-leads_hanging.false))))
]

-- all leaders of hanging cycles stand there
all : (c : In_ok-sort_by_key) → c.loop-h.keyed.items ≡ map (λ h. (get_or c.args.faces.now h 0, h)) (filter (leads_hanging c.args.table.now (next_in c.args.half.now)) (numbers (length c.args.faces.now)))
all c = c.loop-h.invariant ∙ (let count : c.loop-h.h ≡ length c.args.faces.now = omega (arith, c.loop-h-test.false, c.loop-h.auto.h-end) in ap (λ n. map (λ h. (get_or c.args.faces.now h 0, h)) (filter (leads_hanging c.args.table.now (next_in c.args.half.now)) (numbers n))) count)

pub returns-clause-sorted : goal.returns-clause-sorted
returns-clause-sorted c = IsNonDecreasingBy-from_sort_by_key (λ pair. pair.0) _ c.in_ok-sort_by_key.ensures.sorted (λ a r q k. search rules)

pub returns-clause-rows : goal.returns-clause-rows
returns-clause-rows c = λ f.
    row_of-stable _ _ (c.in_ok-sort_by_key.ensures.stable (λ pair. pair.0) (answers_always _ _ _ (λ f a r g h. search rules))) f
    ∙ (ap (λ keyed. row_of keyed f) (all c) ∙ (row_of-numbered (λ h. get_or c.args.faces.now h 0) (filter (leads_hanging c.args.table.now (next_in c.args.half.now)) (numbers (length c.args.faces.now))) f
    ∙ (filter-filter (leads_hanging c.args.table.now (next_in c.args.half.now)) (λ h. get_or c.args.faces.now h 0 == f) (numbers (length c.args.faces.now)) ∙ ap (λ n. filter (λ h. leads_hanging c.args.table.now (next_in c.args.half.now) h && (get_or c.args.faces.now h 0 == f)) (numbers n)) c.requires.as_many)))

pub returns-clause-in_range : goal.returns-clause-in_range
returns-clause-in_range c = λ count fits. All-permutation (λ (pair : ℕ × ℕ). pair.0 < count) _ _ c.in_ok-sort_by_key.ensures.permutation
    (subst (All (λ (pair : ℕ × ℕ). pair.0 < count)) (sym (all c)) (keyed_within (λ h. get_or c.args.faces.now h 0) (leads_hanging c.args.table.now (next_in c.args.half.now)) count (length c.args.faces.now) fits))

pub loop-h-init : goal.loop-h-init
loop-h-init c = c.new-keyed.ensures.items

pub leads_hanging-requires-clause-half : goal.leads_hanging-requires-clause-half
leads_hanging-requires-clause-half c = c.requires.half

pub leads_hanging-requires-clause-hanging : goal.leads_hanging-requires-clause-hanging
leads_hanging-requires-clause-hanging c = c.requires.hanging

pub leads_hanging-requires-clause-in_range : goal.leads_hanging-requires-clause-in_range
leads_hanging-requires-clause-in_range c = omega (arith, c.loop-h-test.true, c.edge_count-h-end.ensures.value)

pub bounds-faces-h : goal.bounds-faces-h
bounds-faces-h c = omega (arith, c.loop-h-test.true, c.edge_count-h-end.ensures.value, c.requires.as_many)
