use Rattle.loc_page.proofs.Pages.{whole_page}
use Rattle.loc_upgrade.proofs.lines.write_edges.Goals as goal

pub returns : goal.returns
returns g c = whole_page c.in_ok-put_edges.was c.new-page.ensures c.put_edges.ensures c.flush.ensures.put c.flush.ensures.empty
