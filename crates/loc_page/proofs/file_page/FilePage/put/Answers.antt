use Rattle.std.proofs.Common.{◌++◌, ◌∙◌, ap, subst}
use Rattle.loc_page.specs.Making.{PutsBytes}
use Rattle.loc_page.proofs.Growing.{passes-held}
use Rattle.loc_page.proofs.file_page.FilePage.put.Goals as goal

pub returns-in-Err-clause-put : goal.returns-in-Err-clause-put
returns-in-Err-clause-put g c = subst (λ l. PutsBytes c.args.text.now (g.F.Shelf.meaning c.args.shelf.now) (g.F.Shelf.meaning c.put_anew.new.shelf) l c.put_anew.new.self c.put_anew.result) (ap (λ h. h.items) c.in-Err.ensures.err ∙ c.self.view_is) c.put_anew.ensures.put

pub returns-in-Ok-clause-put : goal.returns-in-Ok-clause-put
returns-in-Ok-clause-put g c = record { ok = passes-held c.requires.making (c.in-Ok.ensures.ok ∙ ap (λ l. l ++ c.args.text.now) c.self.view_is); err = tt }
