use Rattle.std.proofs.Common.{◌<◌, ◌∙◌, sym, subst, true, arith, ap, length, false}
use Rattle.std.proofs.lemmas.Result.{IfOk-from_err}
use Rattle.std.proofs.lemmas.List.{length-set, length-replicate, take_all}
use Rattle.loc_spec_plane.specs.Lists.{is_in}
use Rattle.loc_verify.proofs.{LevelSteps.none_set, Named.named_more}
use Rattle.loc_verify.proofs.lists.named_lists.Goals as goal

pub loop-edge-preserved : goal.loop-edge-preserved
loop-edge-preserved c = record {
  as_many = length-set c.loop-edge.named.items c.cover_of.result true ∙ c.loop-edge.invariant.as_many;
  exact = λ n fits. named_more c.loop-edge.named.items c.args.legend.now.above c.loop-edge.edge c.cover_of.result n c.cover_of.ensures.value (subst (λ k. n < k) (sym c.loop-edge.invariant.as_many) fits) (c.loop-edge.invariant.exact n fits);
}

pub returns-in_err-named-clause-as_many : goal.returns-in_err-named-clause-as_many
returns-in_err-named-clause-as_many c = IfOk-from_err _ _ c.from_residual.ensures.0

pub returns-in_err-named-clause-exact : goal.returns-in_err-named-clause-exact
returns-in_err-named-clause-exact c = IfOk-from_err _ _ c.from_residual.ensures.0

pub loop-edge-init : goal.loop-edge-init
loop-edge-init c = let made = c.in_ok-named.ensures.items_if_clones_equal (λ y same. same) in record {
  as_many = ap length made ∙ (length-replicate c.covers.result false ∙ c.covers.ensures);
  exact = λ n fits. none_set c.in_ok-named.named.items c.covers.result n made;
}

pub cover_of-requires : goal.cover_of-requires
cover_of-requires c = subst (λ n. c.loop-edge.edge < n) c.requires c.loop-edge-test.true

pub index_mut-requires : goal.index_mut-requires
index_mut-requires c = omega (arith, c.cover_of.ensures.in_range, c.loop-edge.named.ok.0, c.loop-edge.invariant.as_many)

pub returns-clause-as_many : goal.returns-clause-as_many
returns-clause-as_many c = c.loop-edge.invariant.as_many

pub returns-clause-exact : goal.returns-clause-exact
returns-clause-exact c = λ n fits. c.loop-edge.invariant.exact n fits ∙ ap (is_in n) (take_all c.loop-edge.edge c.args.legend.now.above (omega (arith, c.requires, c.loop-edge-test.false)))
