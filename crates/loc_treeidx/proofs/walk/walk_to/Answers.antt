use Rattle.std.proofs.Common.{◌≡◌, ◌<◌, ◌∙◌, List, [], sym, subst, arith, length, Option, None, Some}
use Rattle.std.proofs.lemmas.Bool.{both_ways}
use Rattle.loc_pool.specs.{declared.Link.Link, declared.Turn.Turn}
use Rattle.loc_pool.specs.declared.Turn.TheVariants.{Left, Right}
use Rattle.loc_persist.specs.Meaning.{present_nodes}
use Rattle.loc_treeidx.specs.Gaps.{IsDescent}
use Rattle.loc_treeidx.proofs.Descents.{descent-start, here_row, here_short, here_all, here_right, here_left, nearer}
use Rattle.loc_treeidx.proofs.walk.walk_to.Goals as goal

pub down-init : goal.down-init
down-init c =
    let n = present_nodes c.args.versions.now in
    let list = c.args.versions.now.list in
    record {
      descent = subst (λ (z : List (Link × Turn)). IsDescent n list z c.newest_root.result None None) (sym c.requires.empty) (subst (λ (o : Option Link). IsDescent n list [] o None None) (sym c.newest_root.ensures) (descent-start n list c.sealed-sealed.ensures.facts.present));
      passed = tt;
      reached = tt;
      apart = λ item stop above. (let clash : None ≡ Some item = above in cc);
    }

pub item-edge-requires : goal.item-edge-requires
item-edge-requires c = here_row c.args.versions.now _ _ c.in-Some.at _ _ c.down.invariant.descent c.in-Some.is

pub passes-requires-clause-edge_in_range : goal.passes-requires-clause-edge_in_range
passes-requires-clause-edge_in_range c = here_all c.args.versions.now _ _ c.in-Some.at _ _ c.down.invariant.descent c.in-Some.is c.item-edge.result c.item-edge.ensures (λ e. e < length c.args.ranks.now.ends) c.requires.in_range

pub newest_child-way-requires : goal.newest_child-way-requires
newest_child-way-requires c = here_row c.args.versions.now _ _ c.in-Some.at _ _ c.down.invariant.descent c.in-Some.is

pub newest_child-way-requires-else-passes : goal.newest_child-way-requires-else-passes
newest_child-way-requires-else-passes c = here_row c.args.versions.now _ _ c.in-Some.at _ _ c.down.invariant.descent c.in-Some.is

pub push-requires : goal.push-requires
push-requires c = let short = here_short c.args.versions.now _ _ c.in-Some.at _ _ c.down.invariant.descent c.in-Some.is c.sealed-sealed.ensures.facts in omega (arith, short)

pub push-requires-else-passes : goal.push-requires-else-passes
push-requires-else-passes c = let short = here_short c.args.versions.now _ _ c.in-Some.at _ _ c.down.invariant.descent c.in-Some.is c.sealed-sealed.ensures.facts in omega (arith, short)

pub down-smaller-then-passes : goal.down-smaller-then-passes
down-smaller-then-passes c = nearer c.down.path.items _ (c.in-Some.at, Right) c.push.ensures (here_short c.args.versions.now _ _ c.in-Some.at _ _ c.down.invariant.descent c.in-Some.is c.sealed-sealed.ensures.facts)

pub down-smaller : goal.down-smaller
down-smaller c = nearer c.down.path.items _ (c.in-Some.at, Left) c.push-else-passes.ensures (here_short c.args.versions.now _ _ c.in-Some.at _ _ c.down.invariant.descent c.in-Some.is c.sealed-sealed.ensures.facts)

pub down-preserved-then-passes : goal.down-preserved-then-passes
down-preserved-then-passes c = record {
  descent = here_right c.args.versions.now _ _ c.in-Some.at _ _ c.down.invariant.descent c.in-Some.is c.item-edge.result c.item-edge.ensures _ c.newest_child-way.result c.newest_child-way.ensures c.push.ensures;
  passed = sym c.passes.ensures ∙ c.if-passes.true;
  reached = c.down.invariant.reached;
  apart = c.down.invariant.apart;
}

pub down-preserved : goal.down-preserved
down-preserved c = record {
  descent = here_left c.args.versions.now _ _ c.in-Some.at _ _ c.down.invariant.descent c.in-Some.is c.item-edge.result c.item-edge.ensures _ c.newest_child-way-else-passes.result c.newest_child-way-else-passes.ensures c.push-else-passes.ensures;
  passed = c.down.invariant.passed;
  reached = sym c.passes.ensures ∙ c.if-passes.false;
  apart = λ item stop above. both_ways c.is_stop.result c.if-is_stop.false (c.is_stop.ensures.no (stop ∙ sym above));
}
