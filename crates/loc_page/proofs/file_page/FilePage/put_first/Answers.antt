use Rattle.loc_page.proofs.file_page.FilePage.put_first.Goals as goal
use Rattle.loc_page.proofs.file_page.FilePage.put_first.Goals.{in-Ok, in-Err}

pub returns-clause-making : goal.returns-clause-making
returns-clause-making g c = elim c.match-try_extend_from_slice.branch [ in-Ok w ↦ rw (w.result-is, w.shelf-is) c.requires.making | in-Err w ↦ rw (w.result-is, w.shelf-is) w.write_whole.ensures.making ]
