use Rattle.std.proofs.Common.{◌-◌, length, drop, arith, length-drop}
use Rattle.std.proofs.lemmas.List.{take_all}
use Rattle.loc_page.proofs.Growing.{wrote-more, grew-one}
use Rattle.loc_page.proofs.file_page.write_whole.Goals as goal

pub loop-rest-preserved : goal.loop-rest-preserved
loop-rest-preserved g c =
    let rest = c.loop-rest.rest.now in
    let n = c.in_ok-n.n in
    record {
      wrote = rw (take_all (length rest - n) (drop n rest) (omega (arith, length-drop n rest))) (wrote-more n c.loop-rest.invariant.wrote c.in_ok-n.ensures);
      making = (grew-one c.in_ok-n.ensures).is_making;
    }
