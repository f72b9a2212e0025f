use Rattle.std.proofs.Common.{[], ◌∷◌, sym, append_assoc}
use Rattle.std.proofs.lemmas.Result.{err_from_is_err_and}
use Rattle.loc_half.specs.HalfEdgeLists.{next_in}
use Rattle.loc_faces.specs.FaceTexts.{cycle_text}
use Rattle.loc_page.proofs.Pages.{both, put_same, stop}
use Rattle.loc_faces.proofs.texts.put_line.Goals as goal

pub returns-in_err-put : goal.returns-in_err-put
returns-in_err-put g c = put_same (sym (append_assoc c.args.word.now (cycle_text c.args.scale c.args.table.now (next_in c.args.half.now) c.args.leader) (10 ∷ []))) (stop _ c.in_err-put.was (err_from_is_err_and _ c.from_residual.ensures.1).1 c.put.ensures)

pub returns-in_err-put_cycle : goal.returns-in_err-put_cycle
returns-in_err-put_cycle g c = put_same (sym (append_assoc c.args.word.now (cycle_text c.args.scale c.args.table.now (next_in c.args.half.now) c.args.leader) (10 ∷ []))) (both c.in_ok-put.was c.put.ensures (stop _ c.in_err-put_cycle.was (err_from_is_err_and _ c.from_residual-in_err-put_cycle.ensures.1).1 c.put_cycle.ensures))

pub returns : goal.returns
returns g c = put_same (sym (append_assoc c.args.word.now (cycle_text c.args.scale c.args.table.now (next_in c.args.half.now) c.args.leader) (10 ∷ []))) (both c.in_ok-put.was c.put.ensures (both c.in_ok-put_cycle.was c.put_cycle.ensures c.put-2.ensures))
