use Rattle.loc_page.proofs.Pages.{whole_page}
use Rattle.loc_reach.proofs.answering.write_answers.Goals as goal

pub returns-clause-written : goal.returns-clause-written
returns-clause-written g c = whole_page c.in_ok-put_answers.was c.new-page.ensures c.put_answers.ensures.written c.flush.ensures.put c.flush.ensures.empty
