-- How many marks the table of a layer has whose segments are cut: no more than pieces; and each edge has one.
use Rattle.std.proofs.Common.{◌≡◌, ◌≢◌, ℕ, ◌+◌, ◌<◌, ◌≤◌, Bool, true, false, cond, ◌||◌, List, [], ◌∷◌, length, get_or, map, refl, sym, ◌∙◌, ap, subst, inl, inr, arith, length-append}
use Rattle.std.specs.Prelude.{sum_by}
use Rattle.std.specs.List.{list_all, list_any, cons_option, flat_map}
use Rattle.std.proofs.lemmas.Bool.{and_parts, both_ways, cases_Bool, cond-true, cond-false, false_from_ne_true, true≢false}
use Rattle.std.proofs.{lemmas.List.get_or-map, lemmas.List.Concat.flat_map-append}
use Rattle.std.proofs.{lemmas.List.Folds.list_any-append, lemmas.List.Folds.list_any_at, lemmas.List.Sums.sum_by-cons}
use Rattle.loc_spec_plane.specs.{declared.Mark.Mark, Lists.is_rising, Points.Edge, Points.edge_before, Points.same_edge}
use Rattle.loc_spec_plane.specs.{Rings.Rings, Rings.segments, Tables.edge_marks, Tables.layer_segments, Tables.table_by}
use Rattle.loc_laws_order.proofs.{Tests.same_edge_decides, TableOrder.origin_point}
use Rattle.loc_laws_noding.proofs.{Marks.is_hit, Marks.marks_from, Orders.edges_by_before, SortedSet.irrefl}
use Rattle.loc_laws_noding.proofs.Tables.{any_flat, any_of_pieces, as_many_ends, pieces, pieces_rise}

-- ---- sums over edges

-- 1 where a test passes
abbrev bit : Bool → ℕ
bit b = cond b 1 0

-- how many edges pass a test
abbrev hits : (Edge → Bool) → List Edge → ℕ
hits p es = sum_by (λ e. bit (p e)) es

no_sum : (es : List Edge) → sum_by (λ (e : Edge). 0) es ≡ 0
no_sum [] = refl
no_sum (e ∷ es) = let a = sum_by-cons (λ (e : Edge). 0) e es in let rest = no_sum es in omega (arith, a, rest)

sum_both : (f g h : Edge → ℕ) → ((e : Edge) → f e ≡ g e + h e) → (es : List Edge) → sum_by f es ≡ sum_by g es + sum_by h es
sum_both f g h each [] = refl
sum_both f g h each (e ∷ es) =
    let here = each e in
    let rest = sum_both f g h each es in
    let a = sum_by-cons f e es in
    let b = sum_by-cons g e es in
    let c = sum_by-cons h e es in
    omega (arith, here, rest, a, b, c)

sum_mapped : {X : Type 0} (f : Edge → List X) (es : List Edge) → sum_by length (map f es) ≡ sum_by (λ e. length (f e)) es
sum_mapped f [] = refl
sum_mapped f (e ∷ es) = sum_by-cons length (f e) (map f es) ∙ (ap (λ n. length (f e) + n) (sum_mapped f es) ∙ sym (sum_by-cons (λ x. length (f x)) e es))

either_bit : (a b : Bool) → bit (a || b) ≤ bit a + bit b
either_bit true true = omega arith
either_bit true false = omega arith
either_bit false true = omega arith
either_bit false false = omega arith

either_hits : (p q : Edge → Bool) (es : List Edge) → hits (λ e. p e || q e) es ≤ hits p es + hits q es
either_hits p q [] = omega arith
either_hits p q (e ∷ es) =
    let here = either_bit (p e) (q e) in
    let rest = either_hits p q es in
    let a = sum_by-cons (λ (x : Edge). bit (p x || q x)) e es in
    let b = sum_by-cons (λ (x : Edge). bit (p x)) e es in
    let c = sum_by-cons (λ (x : Edge). bit (q x)) e es in
    omega (arith, here, rest, a, b, c)

-- ---- each piece is one edge
-- behind an edge it does not come again
none_behind : (s : Edge) (es : List Edge) → list_all (edge_before s) es ≡ true → hits (λ e. same_edge e s) es ≡ 0
none_behind s [] all = refl
none_behind s (e ∷ es) all =
    let parts = and_parts (edge_before s e) (list_all (edge_before s) es) all in
    let miss : same_edge e s ≡ false = false_from_ne_true (same_edge e s) (λ hit. both_ways (edge_before s s) (irrefl edges_by_before s) (subst (λ (x : Edge). edge_before s x ≡ true) ((same_edge_decides e s).0 hit) parts.0)) in
    let one : bit (same_edge e s) ≡ 0 = ap bit miss in
    let rest = none_behind s es parts.1 in
    let a = sum_by-cons (λ (x : Edge). bit (same_edge x s)) e es in
    omega (arith, one, rest, a)

once : (s : Edge) (es : List Edge) → is_rising edge_before es ≡ true → hits (λ e. same_edge e s) es ≤ 1
once s [] rise = omega arith
once s (e ∷ es) rise =
    let parts = and_parts (list_all (edge_before e) es) (is_rising edge_before es) rise in
    let a = sum_by-cons (λ (x : Edge). bit (same_edge x s)) e es in
    elim (cases_Bool (same_edge e s)) [
      | inl hit ↦ (let one : bit (same_edge e s) ≡ 1 = ap bit hit in
          let none = none_behind s es (subst (λ (x : Edge). list_all (edge_before x) es ≡ true) ((same_edge_decides e s).0 hit) parts.0) in omega (arith, a, one, none))
      | inr miss ↦ (let one : bit (same_edge e s) ≡ 0 = ap bit miss in let rest = once s es parts.1 in omega (arith, a, one, rest))
    ]

pub few_hits : (ss es : List Edge) → is_rising edge_before es ≡ true → hits (λ e. list_any (same_edge e) ss) es ≤ length ss
few_hits [] es rise = let none = no_sum es in omega (arith, none)
few_hits (s ∷ ss) es rise =
    let both = either_hits (λ e. same_edge e s) (λ e. list_any (same_edge e) ss) es in
    let one = once s es rise in
    let rest = few_hits ss es rise in
    omega (arith, both, one, rest)

-- a list with a first member is not empty
not_empty : {X : Type 0} (x : X) (xs ys : List X) → ys ≡ x ∷ xs → ys ≢ []
not_empty x xs ys is none = absurd (cc (sym is ∙ none))

module _ (cut : Edge → List Edge) where
  -- ---- marks
  one_mark_more : (e : Edge) (a : ℕ) (rings : Rings) (layer : List Rings) → length (marks_from cut e a (rings ∷ layer)) ≡ bit (list_any (same_edge e) (flat_map cut (segments rings))) + length (marks_from cut e (a + 1) layer)
  one_mark_more e a rings layer =
      let rest = marks_from cut e (a + 1) layer in
      let same = any_flat (same_edge e) cut (segments rings) in
      elim (cases_Bool (list_any (is_hit cut e) (segments rings))) [
        | inl some ↦ ap (λ o. length (cons_option o rest)) (cond-true _ _ _ some) ∙ (let one : bit (list_any (same_edge e) (flat_map cut (segments rings))) ≡ 1 = ap bit (same ∙ some) in omega (arith, one))
        | inr none ↦ ap (λ o. length (cons_option o rest)) (cond-false _ _ _ none) ∙ (let one : bit (list_any (same_edge e) (flat_map cut (segments rings))) ≡ 0 = ap bit (same ∙ none) in omega (arith, one))
      ]

  marks_counted : (a : ℕ) (layer : List Rings) (es : List Edge) → is_rising edge_before es ≡ true → sum_by (λ e. length (marks_from cut e a layer)) es ≤ length (flat_map cut (layer_segments layer))
  marks_counted a [] es rise = let none = no_sum es in omega (arith, none)
  marks_counted a (rings ∷ layer) es rise =
      let split = sum_both (λ e. length (marks_from cut e a (rings ∷ layer))) (λ e. bit (list_any (same_edge e) (flat_map cut (segments rings)))) (λ e. length (marks_from cut e (a + 1) layer)) (λ e. one_mark_more e a rings layer) es in
      let here = few_hits (flat_map cut (segments rings)) es rise in
      let rest = marks_counted (a + 1) layer es rise in
      let all = ap length (flat_map-append cut (segments rings) (layer_segments layer)) in
      let long = length-append (flat_map cut (segments rings)) (flat_map cut (layer_segments layer)) in
      omega (arith, split, here, rest, all, long)

  -- there are no more marks than pieces of all segments
  pub few_marks : (layer : List Rings) → sum_by length (table_by cut layer).marks ≤ length (flat_map cut (layer_segments layer))
  unfolding table_by
  few_marks layer =
      let mapped = sum_mapped (edge_marks cut layer) (pieces cut layer) in
      let few = marks_counted 0 layer (pieces cut layer) (pieces_rise cut layer) in
      omega (arith, mapped, few)

  -- an edge that is a piece of a segment has a mark
  has_mark : (e : Edge) (a : ℕ) (layer : List Rings) → list_any (is_hit cut e) (layer_segments layer) ≡ true → marks_from cut e a layer ≢ []
  has_mark e a [] hit = absurd (true≢false (sym hit))
  has_mark e a (rings ∷ layer) hit = elim (cases_Bool (list_any (is_hit cut e) (segments rings))) [
    | inl here ↦ not_empty _ _ _ (ap (λ o. cons_option o (marks_from cut e (a + 1) layer)) (cond-true _ _ _ here))
    | inr not_here ↦
        (let later = sym (ap (λ b. b || list_any (is_hit cut e) (layer_segments layer)) not_here) ∙ (sym (list_any-append (is_hit cut e) (segments rings) (layer_segments layer)) ∙ hit) in
        subst (λ (ms : List Mark). ms ≢ []) (sym (ap (λ o. cons_option o (marks_from cut e (a + 1) layer)) (cond-false _ _ _ not_here))) (has_mark e (a + 1) layer later))
  ]

  -- an edge is a piece of a segment
  is_piece : (layer : List Rings) (n : ℕ) (d : Edge) → n < length (pieces cut layer) → list_any (is_hit cut (get_or (pieces cut layer) n d)) (layer_segments layer) ≡ true
  is_piece layer n d fits =
      let e = get_or (pieces cut layer) n d in
      sym (any_of_pieces cut layer (same_edge e)) ∙ list_any_at (same_edge e) (pieces cut layer) n d fits ((same_edge_decides e e).1 refl)

  -- every edge has a mark
  pub every_marked : (layer : List Rings) (e : ℕ) → e < length (table_by cut layer).ends → get_or (table_by cut layer).marks e [] ≢ []
  unfolding table_by
  every_marked layer e short =
      let fits : e < length (pieces cut layer) = omega (arith, short, as_many_ends cut layer) in
      let d : Edge = record { lo = origin_point; hi = origin_point } in
      subst (λ (ms : List Mark). ms ≢ []) (sym (get_or-map (edge_marks cut layer) (pieces cut layer) e d [] fits)) (has_mark (get_or (pieces cut layer) e d) 0 layer (is_piece layer e d fits))
