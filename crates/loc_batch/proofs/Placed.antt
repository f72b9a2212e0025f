-- What is found for the queries of a block, in any order, is what is found for each of its points.
use Rattle.std.proofs.Common.{◌≡◌, ◌≢◌, ℕ, zero, suc, ◌<◌, ◌≤◌, ◌⊎◌, inl, inr, List, [], ◌∷◌, ◌++◌, length, get_or, map, Option, Some, None, refl, sym, ◌∙◌, ap, subst, arith, take, true, false, ap₂, append_assoc, cond, count_by, length-append}
use Rattle.std.specs.Prelude.{set, option_map, slice_index_or, ◌==◌, if◌then◌else◌, is_ok, IsOk, Result, Ok, Err}
use Rattle.std.specs.{Option.is_some, List.All, List.Contains, List.Sorted.IsPermutation}
use Rattle.std.proofs.{lemmas.List.Sums.sum_by_push, lemmas.Bool.Decides.eqb_tells}
use Rattle.std.proofs.lemmas.List.Elements.{All-push, All-tail, Contains-append_left, Contains-push}
use Rattle.std.proofs.lemmas.List.{map-append, ext_get_or, get_or_append_left, get_or-map, get_or_push, get_or-set_same, get_or-set_other, length-set, length-map, take-append-le, take_all}
use Rattle.loc_spec_text.specs.{Bytes.ended_lines, Bytes.unfinished, Points.point_of}
use Rattle.loc_batch.specs.{Kept.IsUnbroken, declared.block.Query.Query}
use Rattle.loc_batch.proofs.Cutting.{lines_cut}
use Rattle.std.proofs.lemmas.List.Sorted.{All-permutation, Contains-permutation, length_permutation}
use Rattle.loc_spec_plane.specs.Points.{Point}
use Rattle.loc_batch.specs.Blocks.{BlockState, Holds, ReadsLines, no_lines, placed, with_line}

-- another order of the queries holds the same lines
pub held_again : {F : Type 0} (points : List (Option Point)) (b : BlockState F) (queries : List Query) → IsPermutation b.queries queries → Holds points b → Holds points (record b { queries = queries })
held_again points b queries order h = record {
  as_many = h.as_many;
  empty = h.empty;
  right = All-permutation (λ (q : Query). get_or points q.line None ≡ Some q.point) b.queries queries order h.right;
  asked = λ i p is. Contains-permutation b.queries queries (record { point = p; line = i }) order (h.asked i p is);
  few = subst (λ n. n ≤ count_by is_some points) (sym (length_permutation b.queries queries order)) h.few;
}

-- a query of the line is among them
Names : ℕ → List Query → Type 0
Names i [] = ⊥
Names i (q ∷ queries) = (q.line ≡ i) ⊎ Names i queries

named : (queries : List Query) (q : Query) (k : ℕ) → k < length queries → get_or queries k q ≡ q → Names q.line queries
unfolding Names
named [] q k few is = absurd (omega arith)
named (first ∷ queries) q zero few is = inl (ap (λ (r : Query). r.line) is)
named (first ∷ queries) q (suc k) few is = inr (named queries q k (omega arith) is)

-- beyond a list there is none
pub within_list : {X : Type 0} (xs : List (Option X)) (i : ℕ) (x : X) → get_or xs i None ≡ Some x → i < length xs
within_list [] i x is = absurd (cc is)
within_list (first ∷ xs) zero x is = omega arith
within_list (first ∷ xs) (suc i) x is = let less = within_list xs i x is in omega (arith, less)

-- what is found for one of the points, or for none
found_at : {F : Type 0} (finds : Point → F) (points : List (Option Point)) (i : ℕ) (p : Option Point) → i < length points → get_or points i None ≡ p → get_or (map (option_map finds) points) i None ≡ option_map finds p
found_at finds points i p less is = get_or-map (option_map finds) points i None None less ∙ ap (option_map finds) is

-- a slot is right, or a query of its line is still to come
abbrev IsRightOrNamed : {F : Type 0} → List (Option F) → List (Option F) → List Query → ℕ → Type 0
IsRightOrNamed target found queries i = (get_or found i None ≡ get_or target i None) ⊎ Names i queries

placed_step : {F : Type 0} (finds : Point → F) (target found : List (Option F)) (q : Query) (queries : List Query) (i : ℕ) → q.line < length found → get_or target q.line None ≡ Some (finds q.point)
    → IsRightOrNamed target found (q ∷ queries) i → IsRightOrNamed target (set found q.line (Some (finds q.point))) queries i
unfolding Names
placed_step finds target found q queries i within is left = by (eqb_tells i q.line) left
  where
    by : ((i == q.line) ≡ true × (i ≡ q.line)) ⊎ ((i == q.line) ≡ false × (i ≢ q.line)) → IsRightOrNamed target found (q ∷ queries) i → IsRightOrNamed target (set found q.line (Some (finds q.point))) queries i
    by (inl same) left = inl (ap (λ k. get_or (set found q.line (Some (finds q.point))) k None) same.1 ∙ (get_or-set_same found q.line (Some (finds q.point)) None within ∙ (sym is ∙ ap (λ k. get_or target k None) (sym same.1))))
    by (inr other) (inl right) = inl (get_or-set_other found q.line i (Some (finds q.point)) None other.1 ∙ right)
    by (inr other) (inr (inl here)) = absurd (other.1 (sym here))
    by (inr other) (inr (inr more)) = inr more

placed_target : {F : Type 0} (finds : Point → F) (target : List (Option F)) (queries : List Query) (found : List (Option F)) → length found ≡ length target
    → All (λ (q : Query). get_or target q.line None ≡ Some (finds q.point)) queries → ((i : ℕ) → i < length target → IsRightOrNamed target found queries i) → placed finds queries found ≡ target
unfolding Names
placed_target finds target [] found many right left = ext_get_or None found target many (λ i less. elim (left i (omega (arith, less, many))) [ inl same ↦ same | inr none ↦ absurd none ])
placed_target finds target (q ∷ queries) found many right left =
    let is = right 0 q (omega arith) in
    let within = within_list target q.line (finds q.point) is in
    placed_target finds target queries (set found q.line (Some (finds q.point))) (length-set found q.line (Some (finds q.point)) ∙ many)
    (All-tail (λ (r : Query). get_or target r.line None ≡ Some (finds r.point)) q queries right)
    (λ i less. placed_step finds target found q queries i (omega (arith, within, many)) is (left i less))

-- what is found for the queries that hold some points
pub placed_is : {F : Type 0} (finds : Point → F) (points : List (Option Point)) (b : BlockState F) → Holds points b → placed finds b.queries b.found ≡ map (option_map finds) points
placed_is finds points b h = placed_target finds (map (option_map finds) points) b.queries b.found (h.as_many ∙ sym (length-map points (option_map finds)))
    (λ k q less. let r = slice_index_or b.queries k q in found_at finds points r.line (Some r.point) (within_list points r.line r.point (h.right k q less)) (h.right k q less))
    (λ i less. by i (omega (arith, less, length-map points (option_map finds), h.as_many)) (get_or points i None) refl)
  where
    by : (i : ℕ) → i < length b.found → (p : Option Point) → get_or points i None ≡ p → IsRightOrNamed (map (option_map finds) points) b.found b.queries i
    by i less None is = inl (h.empty i None less ∙ sym (found_at finds points i None (omega (arith, less, h.as_many)) is))
    by i less (Some p) is = let asked = h.asked i p is in inr (named b.queries (record { point = p; line = i }) asked.0 asked.1 asked.2)

-- a slice that was written back whole
pub written_back : {X : Type 0} (n : ℕ) (xs ys : List X) → n ≡ length xs → take n (xs ++ ys) ≡ xs
written_back n xs ys is = take-append-le n xs ys (omega (arith, is)) ∙ take_all n xs (omega (arith, is))

-- what was pushed stands behind
pub pushed : {X E : Type 0} (r : Result (Unit {0}) E) (old new : List X) (x : X) → new ≡ (if is_ok r then old ++ x ∷ [] else old) → IsOk r → new ≡ old ++ x ∷ []
pushed (Ok u) old new x is ok = is
pushed (Err e) old new x is ok = absurd (cc ok)

-- a line that reads as a point was noted
pub line_noted : {F : Type 0} (b now : BlockState F) (queries : List Query) (found : List (Option F)) (p : Point) (point : Option Point) (line : ℕ) → b ≡ now → point ≡ Some p → line ≡ length b.found
    → found ≡ b.found ++ None ∷ [] → queries ≡ b.queries ++ record { point = p; line = line } ∷ [] → record { queries = queries; found = found } ≡ with_line now point
line_noted b now queries found p point line is some last noted asked = rw (sym is, some, noted, asked, last) refl

-- a block without lines holds none
pub holds_none : {F : Type 0} → Holds {F = F} [] no_lines
holds_none = record { as_many = refl; empty = λ k d less. absurd (omega arith); right = λ k d less. absurd (omega arith); asked = λ i p is. absurd (cc is); few = omega arith }

at_front : {X : Type 0} (xs : List X) (x : X) (i : ℕ) (d r : X) → i < length xs → get_or xs i d ≡ r → get_or (xs ++ x ∷ []) i d ≡ r
at_front xs x i d r less is = get_or_append_left xs (x ∷ []) d i less ∙ is

-- the point at a place of a longer list is one of before, or the new one
at_last : (points : List (Option Point)) (last : Option Point) (i : ℕ) (p : Point) → get_or (points ++ last ∷ []) i None ≡ Some p → (get_or points i None ≡ Some p) ⊎ ((i ≡ length points) × (last ≡ Some p))
at_last [] last zero p is = inr (refl, is)
at_last [] last (suc i) p is = absurd (cc is)
at_last (q ∷ points) last zero p is = inl is
at_last (q ∷ points) last (suc i) p is = by (at_last points last i p is)
  where
    by : (get_or points i None ≡ Some p) ⊎ ((i ≡ length points) × (last ≡ Some p)) → (get_or (q ∷ points) (suc i) None ≡ Some p) ⊎ ((suc i ≡ length (q ∷ points)) × (last ≡ Some p))
    by (inl h) = inl h
    by (inr h) = inr (omega (arith, h.0), h.1)

right_more : (points : List (Option Point)) (last : Option Point) (queries : List Query) → All (λ (q : Query). get_or points q.line None ≡ Some q.point) queries → All (λ (q : Query). get_or (points ++ last ∷ []) q.line None ≡ Some q.point) queries
right_more points last queries all = λ k d less. let q = slice_index_or queries k d in
    at_front points last q.line None (Some q.point) (within_list points q.line q.point (all k d less)) (all k d less)

-- one line more
pub holds_more : {F : Type 0} (points : List (Option Point)) (last : Option Point) (b : BlockState F) → Holds points b → Holds (points ++ last ∷ []) (with_line b last)
holds_more points None b h = record {
  as_many = omega (arith, h.as_many, length-append b.found (None ∷ []), length-append points (None ∷ []));
  empty = All-push (λ f. f ≡ None) b.found None h.empty refl;
  right = right_more points None b.queries h.right;
  asked = λ i p is. elim (at_last points None i p is) [ inl old ↦ h.asked i p old | inr new ↦ absurd (cc (new.1)) ];
  few = omega (arith, h.few, sum_by_push (λ (p : Option Point). cond (is_some p) 1 0) points None);
}
holds_more points (Some last) b h = record {
  as_many = omega (arith, h.as_many, length-append b.found (None ∷ []), length-append points (Some last ∷ []));
  empty = All-push (λ f. f ≡ None) b.found None h.empty refl;
  right = All-push (λ (q : Query). get_or (points ++ Some last ∷ []) q.line None ≡ Some q.point) b.queries query (right_more points (Some last) b.queries h.right) (get_or_push points (Some last) None (length b.found) (sym h.as_many));
  asked = λ i p is. elim (at_last points (Some last) i p is) as (λ _. Contains (b.queries ++ query ∷ []) (record { point = p; line = i })) [
    | inl old ↦ Contains-append_left b.queries (query ∷ []) (record { point = p; line = i }) (h.asked i p old)
    | inr new ↦ subst (λ (q : Query). Contains (b.queries ++ query ∷ []) q) (ap₂ (λ (x : Point) (n : ℕ). record { point = x; line = n }) (cc (new.1)) (h.as_many ∙ sym new.0)) (Contains-push b.queries query)
  ];
  few = omega (arith, h.few, length-append b.queries (query ∷ []), sum_by_push (λ (p : Option Point). cond (is_some p) 1 0) points (Some last));
}
  where
    query : Query
    query = record { point = last; line = length b.found }

-- the lines of a block, one more line read behind them
pub reads_more : {F : Type 0} (scale : ℕ) (line text line' rest front more : List ℕ) (b : BlockState F) → ReadsLines scale line text line' rest b → rest ≡ front ++ 10 ∷ more → IsUnbroken front → length more < length rest
    → ReadsLines scale line text [] more (with_line b (point_of scale (line' ++ front)))
reads_more scale line text line' rest front more b r cuts whole less =
    let split = lines_cut line' front more rest cuts r.unbroken whole in
    record {
      lines = r.lines ++ (line' ++ front) ∷ [];
      holds = subst (λ ps. Holds ps (with_line b (point_of scale (line' ++ front)))) (sym (map-append (point_of scale) r.lines ((line' ++ front) ∷ []))) (holds_more (map (point_of scale) r.lines) (point_of scale (line' ++ front)) b r.holds);
      split = r.split ∙ (ap₂ (λ (ls : List (List ℕ)) (u : List ℕ). (r.lines ++ ls, u)) (ap (λ s. s.0) split) (ap (λ s. s.1) split) ∙ ap (λ ls. (ls, unfinished more)) (sym (append_assoc r.lines ((line' ++ front) ∷ []) (ended_lines more))));
      unbroken = tt;
      shorter = omega (arith, r.shorter, less, length-append r.lines ((line' ++ front) ∷ []));
      none = λ is. absurd (omega (arith, ap length is, length-append r.lines ((line' ++ front) ∷ [])));
    }

-- at the start none is read
pub reads_none : {F : Type 0} (scale : ℕ) (line text : List ℕ) (b : BlockState F) → b ≡ no_lines → IsUnbroken line → ReadsLines scale line text line text b
reads_none scale line text b is whole = record { lines = []; holds = subst (λ c. Holds [] c) (sym is) holds_none; split = refl; unbroken = whole; shorter = omega arith; none = λ e. (refl, refl) }
