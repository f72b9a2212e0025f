use Rattle.std.proofs.Common.{ℕ, ◌<◌, ◌≤◌, ◌∙◌, length, get_or, arith, subst, sym}
use Rattle.std.proofs.lemmas.Grind.{get_or_default_zero}
use Rattle.loc_verify.proofs.Exchanged.{inserted, removed}
use Rattle.loc_verify.proofs.covers.exchange.Goals as goal
use Rattle.loc_verify.proofs.covers.exchange.Goals.{else-place-len-via-then-place-len+else-index-feature, else-place-len-via-else-place-len}

pub returns-then-index-feature : goal.returns-then-index-feature
returns-then-index-feature c =
    let fits : c.first_from-place.result < length c.args.list.now.items = omega (arith, c.if-place-len.true, c.len.ensures) in
    rw c.remove.ensures.items (removed c.args.list.now.items c.args.feature c.first_from-place.result c.requires (subst (λ xs. (k : ℕ) → k < c.first_from-place.result → get_or xs k 0 < c.args.feature) c.deref.ensures.value c.first_from-place.ensures.before)
    (subst (λ xs. (k : ℕ) → c.first_from-place.result ≤ k → k < length xs → c.args.feature ≤ get_or xs k 0) c.deref.ensures.value c.first_from-place.ensures.from) fits
    (sym (get_or_default_zero c.args.list.now.items c.first_from-place.result c.index.result.now fits) ∙ (sym c.index.ensures ∙ c.if-index-feature.true)))

pub returns-in_ok-insert : goal.returns-in_ok-insert
returns-in_ok-insert c = rw c.in_ok-insert.ensures.items (inserted c.args.list.now.items c.args.feature c.first_from-place.result c.requires (subst (λ xs. (k : ℕ) → k < c.first_from-place.result → get_or xs k 0 < c.args.feature) c.deref.ensures.value c.first_from-place.ensures.before)
    (subst (λ xs. (k : ℕ) → c.first_from-place.result ≤ k → k < length xs → c.args.feature ≤ get_or xs k 0) c.deref.ensures.value c.first_from-place.ensures.from)
    (λ fits same. elim c.else-place-len.branch [
      | else-place-len-via-then-place-len+else-index-feature w ↦ w.if-index-feature.false (w.index.ensures ∙ (get_or_default_zero c.args.list.now.items c.first_from-place.result w.index.result.now fits ∙ same))
      | else-place-len-via-else-place-len w ↦ omega (arith, fits, w.if-place-len.false, c.len.ensures)
    ]))
