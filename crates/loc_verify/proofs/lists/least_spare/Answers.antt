use Rattle.std.proofs.Common.{◌≡◌, ◌<◌, ◌≢◌, ◌∙◌, get_or, length, sym, subst, inl, inr, arith, IsTrue, false}
use Rattle.std.proofs.{lemmas.Result.IfOk-from_err, lemmas.Bool.cases_eq, lemmas.Bool.true≢false}
use Rattle.std.proofs.lemmas.List.{get_or_default}
use Rattle.loc_spec_plane.specs.Lists.{is_in}
use Rattle.loc_verify.proofs.lists.least_spare.Goals as goal

pub named_lists-requires : goal.named_lists-requires
named_lists-requires c = c.requires

pub returns-in_err-named : goal.returns-in_err-named
returns-in_err-named c = IfOk-from_err _ _ c.from_residual.ensures.0

pub loop-list-init : goal.loop-list-init
loop-list-init c = λ n less. absurd (omega (arith, less))

pub index-requires : goal.index-requires
index-requires c = omega (arith, c.in_ok-named.named.ok.0, c.in_ok-named.ensures.as_many, c.loop-list-test.true, c.covers-list-end.ensures)

pub returns-then-not-index : goal.returns-then-not-index
returns-then-not-index c =
    let fits : c.loop-list.list < length c.args.legend.now.lists = omega (arith, c.loop-list-test.true, c.covers-list-end.ensures) in
    let unset = subst (λ b. b ≡ get_or c.in_ok-named.named.items c.loop-list.list b) c.if-not-index.true c.index.ensures in (
      fits,
      λ named. true≢false (sym named ∙ (sym (c.in_ok-named.ensures.exact c.loop-list.list fits) ∙ sym unset)),
      c.loop-list.invariant,
    )

pub returns : goal.returns
returns c = λ n fits. c.loop-list.invariant n (omega (arith, fits, c.loop-list-test.false, c.covers-list-end.ensures))

pub loop-list-preserved : goal.loop-list-preserved
loop-list-preserved c = λ m less. elim (cases_eq m c.loop-list.list) [
  | inl same ↦ (let fits : c.loop-list.list < length c.args.legend.now.lists = omega (arith, c.loop-list-test.true, c.covers-list-end.ensures) in
      subst (λ k. IsTrue (is_in k c.args.legend.now.above)) (sym same) (sym (c.in_ok-named.ensures.exact c.loop-list.list fits) ∙ (get_or_default c.in_ok-named.named.items c.loop-list.list false c.index.result.now (omega (arith, fits, c.in_ok-named.ensures.as_many)) ∙ (sym c.index.ensures ∙ c.if-not-index.false))))
  | inr other ↦ c.loop-list.invariant m (let differ : m ≢ c.loop-list.list = other in omega (arith, less, differ))
]
