use Rattle.std.proofs.{Common.arith, lemmas.Result.err_from_is_err_and}
use Rattle.loc_page.proofs.Growing.{both, stop}
use Rattle.loc_write.proofs.Ranges.{floor-within}
use Rattle.loc_write.proofs.writer.put_lists.Goals as goal

pub put_floors-requires-clause-small : goal.put_floors-requires-clause-small
put_floors-requires-clause-small g c k d lt = let few = floor-within c.args.legend.now c.requires.sound k d lt in let most = c.requires.sound.few_edges in omega (arith, few, most)

pub returns-in_err-put_covers-clause-put : goal.returns-in_err-put_covers-clause-put
returns-in_err-put_covers-clause-put g c =
    stop _ c.in_err-put_covers.was (err_from_is_err_and _ c.from_residual.ensures.1).1 c.put_covers.ensures.put

pub returns-clause-put : goal.returns-clause-put
returns-clause-put g c =
    both c.in_ok-put_covers.was c.put_covers.ensures.put c.put_floors.ensures.put
