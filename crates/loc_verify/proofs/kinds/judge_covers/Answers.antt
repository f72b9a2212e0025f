use Rattle.std.proofs.Common.{◌≡◌, ◌∙◌, length, ap, sym, subst}
use Rattle.std.specs.Prelude.{None, Some}
use Rattle.std.proofs.lemmas.List.{length-map}
use Rattle.loc_spec_plane.specs.{Tables.Table, Covers.cover_above}
use Rattle.loc_spec_index.specs.Content.{EdgeRow}
use Rattle.loc_cover.specs.Legends.{list_above}
use Rattle.loc_laws_index.proofs.FlawKinds.{as_many}
use Rattle.loc_verify.specs.Least.{IsLeastFailing}
use Rattle.loc_verify.proofs.KindLaws.{cover_there, covers_right}
use Rattle.loc_verify.proofs.kinds.judge_covers.Goals as goal

pub least_wrong_cover-requires-clause-as_many : goal.least_wrong_cover-requires-clause-as_many
least_wrong_cover-requires-clause-as_many c = ap length c.legend.ensures.cover_of ∙ (length-map c.args.held.now.content.edges (λ (e : EdgeRow). e.cover) ∙ (sym (as_many c.args.held.now.content) ∙ ap (λ (t : Table). length t.ends) (sym c.table.ensures)))

pub returns-in-None-clause-ok : goal.returns-in-None-clause-ok
returns-in-None-clause-ok c = covers_right c.args.held.now.content c.legend.result.now.lists c.legend.result.now.above c.legend.ensures.covers c.legend.ensures.cover_of _ c.law.ensures
    (subst (λ (t : Table). IsLeastFailing (length t.ends) (λ e. list_above c.legend.result.now e ≡ cover_above t e) None) c.table.ensures (subst (IsLeastFailing (length c.table.result.now.ends) (λ e. list_above c.legend.result.now e ≡ cover_above c.table.result.now e)) c.in-None.is c.in_ok-least_wrong_cover.ensures))

pub returns-in-Some-clause-fault : goal.returns-in-Some-clause-fault
returns-in-Some-clause-fault c = cover_there c.args.held.now.content c.legend.result.now.lists c.legend.result.now.above c.legend.ensures.covers c.legend.ensures.cover_of _ c.law.ensures c.in-Some.edge
    (subst (λ (t : Table). IsLeastFailing (length t.ends) (λ e. list_above c.legend.result.now e ≡ cover_above t e) (Some c.in-Some.edge)) c.table.ensures (subst (IsLeastFailing (length c.table.result.now.ends) (λ e. list_above c.legend.result.now e ≡ cover_above c.table.result.now e)) c.in-Some.is c.in_ok-least_wrong_cover.ensures))
