use Rattle.std.proofs.Common.{subst, ◌∙◌, sym}
use Rattle.loc_edges.specs.Floors.{AreFloors}
use Rattle.loc_treeidx.specs.Standing.{AreVersionsOf}
use Rattle.loc_spec_plane.specs.Tables.{NoConflict}
use Rattle.loc_sweep.specs.Swept.{AreInConflict, IsShown}
use Rattle.loc_verify.proofs.KindLaws.{conflict_there}
use Rattle.loc_verify.proofs.kinds.judge_crossings.Goals as goal

pub returns-in-Err-Conflict-clause-fault : goal.returns-in-Err-Conflict-clause-fault
returns-in-Err-Conflict-clause-fault c = conflict_there c.args.held.now.content _ c.law.ensures c.in-Err-Conflict.a c.in-Err-Conflict.b c.in-Err-Conflict.meeting (subst (λ t. AreInConflict t c.in-Err-Conflict.a c.in-Err-Conflict.b c.in-Err-Conflict.meeting) c.table.ensures (subst (IsShown c.table.result.now) c.in-Err-Conflict.field-0-is c.in-Err-Conflict.ensures.shown))

pub sweep-requires : goal.sweep-requires
sweep-requires c = record { fresh = c.new.ensures.fresh }

pub swept_stands-requires-clause-apart : goal.swept_stands-requires-clause-apart
swept_stands-requires-clause-apart c = subst NoConflict (c.table.ensures ∙ sym c.table-in-Ok.ensures) c.in-Ok.ensures.apart

pub swept_stands-requires-clause-swept : goal.swept_stands-requires-clause-swept
swept_stands-requires-clause-swept c = rw (c.table.ensures ∙ sym c.table-in-Ok.ensures) at c.in-Ok.ensures.swept

pub returns-in-Ok-clause-ok : goal.returns-in-Ok-clause-ok
returns-in-Ok-clause-ok c = subst NoConflict c.table.ensures c.in-Ok.ensures.apart

pub returns-in-Ok-clause-stands : goal.returns-in-Ok-clause-stands
returns-in-Ok-clause-stands c = subst (λ t. AreVersionsOf t c.in-Ok.index) c.table-in-Ok.ensures c.swept_stands.ensures.stands

pub returns-in-Ok-clause-floors : goal.returns-in-Ok-clause-floors
returns-in-Ok-clause-floors c = subst (λ t. AreFloors t c.in-Ok.floors) c.table.ensures c.in-Ok.ensures.floors
