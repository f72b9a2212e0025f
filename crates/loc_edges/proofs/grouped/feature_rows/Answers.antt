use Rattle.std.proofs.Common.{◌≡◌, ◌+◌, ◌-◌, ◌<◌, ◌≤◌, true, false, [], ◌∷◌, ◌++◌, length, get_or, map, replicate, ◌∙◌, ap, subst, inl, inr, arith}
use Rattle.std.proofs.lemmas.Bool.{both_ways, cases_Bool, cases_eq}
use Rattle.std.proofs.lemmas.List.{length-set, length-append, take_all}
use Rattle.loc_edges.specs.Tagged.{features_of}
use Rattle.loc_edges.proofs.EdgeRows.{IsGrouped, edges_left, grouped_more}
use Rattle.loc_edges.proofs.grouped.feature_rows.Goals as goal
use Rattle.loc_edges.proofs.grouped.feature_rows.Goals.{In_ok-extend, then-is_new+in_ok-start, else-is_new}

pub extend-requires : goal.extend-requires
extend-requires c = elim c.if-is_new.branch [
  | then-is_new+in_ok-start w ↦ (let one : (w.len.result + 1) - length c.loop-n.rows ≡ 1 = omega (arith, w.len.ensures) in let rows : c.if-is_new.rows ≡ c.loop-n.rows ++ [] ∷ [] = w.rows-is ∙ (w.in_ok-start.ensures ∙ ap (λ k. c.loop-n.rows ++ replicate k []) one) in omega (arith, ap length rows, length-append c.loop-n.rows ([] ∷ [])))
  | else-is_new w ↦ elim (cases_eq c.loop-n.n 0) [
    | inl zero_is ↦ absurd (both_ways _ w.if-is_new.false (c.is_new.ensures.first zero_is))
    | inr some ↦ omega (arith, ap length w.rows-is, c.loop-n.invariant.some (omega (arith, some)))
  ]
]

-- a row for an edge that is new
started : (c : In_ok-extend) → (c.is_new.result ≡ true → c.if-is_new.rows ≡ c.loop-n.rows ++ [] ∷ []) × (c.is_new.result ≡ false → c.if-is_new.rows ≡ c.loop-n.rows)
started c = elim c.if-is_new.branch [
  | then-is_new+in_ok-start w ↦ (let one : (w.len.result + 1) - length c.loop-n.rows ≡ 1 = omega (arith, w.len.ensures) in (λ _. w.rows-is ∙ (w.in_ok-start.ensures ∙ ap (λ k. c.loop-n.rows ++ replicate k []) one), λ no. absurd (both_ways _ no w.if-is_new.true)))
  | else-is_new w ↦ (λ yes. absurd (both_ways _ w.if-is_new.false yes), λ _. w.rows-is)
]

-- there is a row then, and no more rows than segments
bounds : (c : In_ok-extend) → (0 < length c.if-is_new.rows) × (length c.if-is_new.rows ≤ c.loop-n.n + 1)
bounds c = elim (cases_Bool c.is_new.result) [
  | inl new ↦ (let many = length-append c.loop-n.rows ([] ∷ []) in let same = ap length ((started c).0 new) in (omega (arith, same, many), omega (arith, same, many, c.loop-n.invariant.few)))
  | inr old ↦ (let same = ap length ((started c).1 old) in elim (cases_eq c.loop-n.n 0) [
    | inl zero_is ↦ absurd (both_ways _ old (c.is_new.ensures.first zero_is))
    | inr some ↦ (omega (arith, same, c.loop-n.invariant.some (omega (arith, some))), omega (arith, same, c.loop-n.invariant.few))
  ])
]

pub loop-n-preserved : goal.loop-n-preserved
loop-n-preserved c =
    let tagged = c.args.tagged.now in
    let n = c.loop-n.n in
    let t = c.index-tagged-n.result in
    let size = length-set c.if-is_new.rows (length c.if-is_new.rows - 1) (get_or c.if-is_new.rows (length c.if-is_new.rows - 1) [] ++ (get_or tagged n t).1 ∷ []) in
    let many : length c.extend.new.self ≡ length c.if-is_new.rows = ap length c.in_ok-extend.ensures ∙ size in
    record {
      grouped = grouped_more tagged n t c.is_new.result c.loop-n.rows c.if-is_new.rows c.extend.new.self c.requires.in_order c.loop-n-test.true c.loop-n.invariant.grouped c.is_new.ensures.first (λ lt. c.is_new.ensures.later lt t) (started c).0 (started c).1 c.in_ok-extend.ensures;
      few = omega (arith, many, (bounds c).1);
      some = λ _. omega (arith, many, (bounds c).0);
    }

pub returns : goal.returns
returns c = (let all = take_all c.loop-n.n c.args.tagged.now c.loop-n-test.false in subst (λ ts. IsGrouped ts c.loop-n.rows) all c.loop-n.invariant.grouped) ∙ ap (map (features_of c.args.tagged.now)) (edges_left c.args.tagged.now c.requires.in_order)
