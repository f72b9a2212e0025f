use Rattle.std.proofs.Common.{◌≡◌, length, map, ◌∙◌, ap, subst, arith}
use Rattle.loc_spec_plane.specs.Lists.{numbers}
use Rattle.loc_edges.specs.Ending.{AreFirsts, ending_among}
use Rattle.loc_edges.proofs.table.EdgeTable.assemble.Goals as goal

pub invariant_of-result : goal.invariant_of-result
invariant_of-result c =
    let count : c.len-count.result ≡ length c.args.corners.items = omega (arith, c.len-count.ensures) in
    record {
      small = c.requires.small;
      is_table = c.requires.in_order;
      edges_are = c.requires.edges;
      firsts_are = subst (λ ends. AreFirsts ends (length c.args.corners.items) c.in_ok-firsts.firsts.items) c.deref.ensures.value (subst (λ n. AreFirsts c.deref.result.now n c.in_ok-firsts.firsts.items) count c.in_ok-firsts.ensures);
      ending_are = c.in_ok-ending.ensures ∙ (ap (λ ends. map (ending_among ends (length ends)) (numbers c.len-count.result)) c.deref-2.ensures.value ∙ ap (λ n. map (ending_among c.args.ends.items (length c.args.ends.items)) (numbers n)) count);
    }
