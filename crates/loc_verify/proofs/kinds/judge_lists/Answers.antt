use Rattle.std.proofs.Common.{◌∙◌, length, ap, sym, subst}
use Rattle.std.specs.Prelude.{IsTrue}
use Rattle.std.proofs.lemmas.List.{length-map}
use Rattle.loc_spec_plane.specs.{Lists.is_in, Tables.Table}
use Rattle.loc_spec_index.specs.Content.{EdgeRow}
use Rattle.loc_verify.specs.Least.{IsLeastFailing}
use Rattle.loc_verify.proofs.KindLaws.{list_there, lists_right}
use Rattle.loc_laws_index.proofs.FlawKinds.{as_many}
use Rattle.loc_verify.proofs.kinds.judge_lists.Goals as goal

pub least_spare-requires : goal.least_spare-requires
least_spare-requires c = c.edge_count.ensures.value ∙ (ap (λ (t : Table). length t.ends) c.table.ensures ∙ (as_many c.args.held.now.content ∙ (sym (length-map c.args.held.now.content.edges (λ (e : EdgeRow). e.cover)) ∙ ap length (sym c.legend.ensures.cover_of))))

pub returns-in-None-clause-ok : goal.returns-in-None-clause-ok
returns-in-None-clause-ok c = lists_right c.args.held.now.content c.legend.result.now.lists c.legend.result.now.above c.legend.ensures.covers c.legend.ensures.cover_of
    (subst (IsLeastFailing (length c.legend.result.now.lists) (λ n. IsTrue (is_in n c.legend.result.now.above))) c.in-None.is c.in_ok-least_spare.ensures)

pub returns-in-Some-clause-fault : goal.returns-in-Some-clause-fault
returns-in-Some-clause-fault c = list_there c.args.held.now.content c.legend.result.now.lists c.legend.result.now.above c.legend.ensures.covers c.legend.ensures.cover_of c.in-Some.list
    (subst (IsLeastFailing (length c.legend.result.now.lists) (λ n. IsTrue (is_in n c.legend.result.now.above))) c.in-Some.is c.in_ok-least_spare.ensures)
