use Rattle.std.proofs.Common.{◌++◌, subst, rules}
use Rattle.std.proofs.lemmas.Result.{err_from_is_err_and}
use Rattle.loc_page.proofs.Files.{broken, not-begun, not-over, over}
use Rattle.loc_page.proofs.Growing.{page-cut, page-whole}
use Rattle.loc_page.specs.Making.{Broke}
use Rattle.loc_spec_index.specs.IndexFile.{bytes_of}
use Rattle.loc_write.proofs.writer.make_file.Goals as goal

pub returns-in_err-flush : goal.returns-in_err-flush
returns-in_err-flush g c k is =
    broken (err_from_is_err_and _ c.from_residual-in_err-flush.ensures.1).1 c.in_ok-create.ensures (page-cut c.in_ok-put_parts.was c.in_err-flush.was c.new-page.ensures (c.put_parts.ensures.put k is) c.flush.ensures.put)

pub returns-in_err-create : goal.returns-in_err-create
returns-in_err-create g c k is = not-begun _ (err_from_is_err_and _ c.from_residual.ensures.1).1 c.in_err-create.ensures

pub put_parts-requires-clause-making : goal.put_parts-requires-clause-making
put_parts-requires-clause-making g c = c.in_ok-create.ensures.file.0

pub returns-in_err-put_parts : goal.returns-in_err-put_parts
returns-in_err-put_parts g c k is = broken (err_from_is_err_and _ c.from_residual-in_err-put_parts.ensures.1).1 c.in_ok-create.ensures (subst (λ h. Broke (h ++ bytes_of 2 k) (g.F.Shelf.meaning c.create.new.self) (g.F.Shelf.meaning c.put_parts.new.shelf)) c.new-page.ensures (c.in_err-put_parts.ensures.put k is).err)

pub returns-in_err-finish : goal.returns-in_err-finish
returns-in_err-finish g c k is = not-over (err_from_is_err_and _ c.from_residual-in_err-finish.ensures.1).1 c.in_ok-create.ensures (page-whole c.in_ok-put_parts.was c.in_ok-flush.was c.new-page.ensures c.in_ok-flush.ensures.empty (c.put_parts.ensures.put k is) c.flush.ensures.put) c.in_err-finish.ensures

pub returns : goal.returns
returns g c k is = over _ c.in_ok-create.ensures (page-whole c.in_ok-put_parts.was c.in_ok-flush.was c.new-page.ensures c.in_ok-flush.ensures.empty (c.put_parts.ensures.put k is) c.flush.ensures.put) (search rules)
