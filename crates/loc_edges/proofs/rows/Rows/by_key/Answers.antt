use Rattle.std.proofs.Common.{◌≡◌, ℕ, ◌+◌, ◌-◌, ◌++◌, ◌∷◌, [], List, length, get_or, take, replicate, map, refl, sym, ◌∙◌, ap, subst, arith}
use Rattle.std.proofs.lemmas.List.{length-append, length-replicate, take_more, take_all, get_or_default}
use Rattle.loc_spec_plane.specs.Lists.{numbers}
use Rattle.loc_edges.specs.Ending.{row_of}
use Rattle.loc_edges.proofs.EndingRows.{IsGrown, grown_more, rows_behind}
use Rattle.loc_edges.proofs.rows.Rows.by_key.Goals as goal

pub loop-pair-preserved : goal.loop-pair-preserved
loop-pair-preserved g c =
    let pairs : List (ℕ × g.row.T.Denot) = c.args.keyed.now in
    let k = c.loop-pair.pair-index in
    let pair : ℕ × g.row.T.Denot = c.pair-item.result in
    let more = take_more pairs k pair c.loop-pair-test.true ∙ ap (λ p. take k pairs ++ p ∷ []) (sym c.pair-item.is) in
    let key : pair.0 ≡ (get_or pairs k pair).0 = ap (λ (p : ℕ × g.row.T.Denot). p.0) c.pair-item.is in
    let step = grown_more (take k pairs) pair.0 pair.1 c.loop-pair.rows c.start.new.self c.extend.new.self c.loop-pair.invariant.grown (omega (arith, key, c.loop-pair.invariant.next k pair (omega arith) c.loop-pair-test.true)) c.in_ok-start.ensures c.in_ok-extend.ensures in
    record {
      grown = subst (λ ps. IsGrown ps c.extend.new.self) (sym more) step.0;
      next = λ j d le lt. omega (arith, step.1, key, ap (λ (p : ℕ × g.row.T.Denot). p.0) (get_or_default pairs j d pair lt), c.requires.in_order k j pair (omega arith) lt);
      within = omega (arith, step.1, key, c.requires.in_range k pair c.loop-pair-test.true);
    }

pub returns : goal.returns
returns g c =
    let pairs : List (ℕ × g.row.T.Denot) = c.args.keyed.now in
    let k = c.loop-pair.pair-index in
    c.in_ok-start-2.ensures
    ∙ (rows_behind (take k pairs) c.loop-pair.rows c.args.count c.loop-pair.invariant.grown c.loop-pair.invariant.within
    ∙ ap (λ keyed. map (row_of keyed) (numbers c.args.count)) (take_all k pairs c.loop-pair-test.false))

pub extend-requires : goal.extend-requires
extend-requires g c =
    let rows = c.loop-pair.rows in
    let some : ℕ = (c.pair-item.result.0 + 1) - length rows in
    omega (arith, ap length c.in_ok-start.ensures, length-append rows (replicate some []), length-replicate {A = List g.row.T.Denot} some [])

pub loop-pair-init : goal.loop-pair-init
loop-pair-init g c =
    let none : List (ℕ × g.row.T.Denot) = [] in
    let no_rows : length c.new-rows.result ≡ 0 = ap length c.new-rows.ensures in
    record {
      grown = subst (IsGrown none) (sym c.new-rows.ensures) (record { rows_are = refl; none_behind = λ _ _. refl });
      next = λ j d le lt. omega (arith, no_rows);
      within = omega (arith, no_rows);
    }
