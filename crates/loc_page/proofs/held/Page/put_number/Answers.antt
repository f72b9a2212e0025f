use Rattle.std.proofs.Common.{◌∙◌}
use Rattle.loc_page.proofs.Pages.{put_same}
use Rattle.loc_page.proofs.held.Page.put_number.Goals as goal

pub returns : goal.returns
returns g c = put_same (c.as_bytes.ensures.value ∙ c.format.ensures.text) c.put.ensures
