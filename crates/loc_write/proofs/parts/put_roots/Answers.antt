use Rattle.std.proofs.Common.{◌∙◌, ap, arith}
use Rattle.std.proofs.lemmas.Result.{err_from_is_err_and}
use Rattle.loc_page.proofs.Growing.{goes-more, goes-stop, goes-end}
use Rattle.loc_write.specs.Bytes.{number_bytes}
use Rattle.loc_write.proofs.{Lists.cut-at, Lists.cut-end, Numbering.root-is}
use Rattle.loc_write.proofs.parts.put_roots.Goals as goal

pub returns-in_err-put-clause-put : goal.returns-in_err-put-clause-put
returns-in_err-put-clause-put g c roots are many =
    goes-stop _ _ _ _ _ c.in_err-put.was (err_from_is_err_and _ c.from_residual.ensures.1).1 (cut-at number_bytes roots c.loop-version.version 0 _ (omega (arith, many)) (c.as_slice.ensures.value ∙ (c.number_row-row.ensures ∙ ap number_bytes (root-is c.args.versions.now.rows c.args.versions.now.roots roots c.loop-version.version c.root_number.result c.nodes-nodes.ensures.names are c.root_number.ensures.number))))
    (c.loop-version.invariant.goes roots are many) c.put.ensures.put

pub loop-version-preserved : goal.loop-version-preserved
loop-version-preserved g c = record {
  making = c.in_ok-put.ensures.making;
  goes = λ roots are many. goes-more _ _ _ _ _ c.in_ok-put.was (cut-at number_bytes roots c.loop-version.version 0 _ (omega (arith, many)) (c.as_slice.ensures.value ∙ (c.number_row-row.ensures ∙ ap number_bytes (root-is c.args.versions.now.rows c.args.versions.now.roots roots c.loop-version.version c.root_number.result c.nodes-nodes.ensures.names are c.root_number.ensures.number)))) (c.loop-version.invariant.goes roots are many) c.put.ensures.put;
}

pub returns-clause-put : goal.returns-clause-put
returns-clause-put g c roots are many = goes-end _ _ _ _ c.loop-version.invariant.making (cut-end number_bytes roots c.loop-version.version (omega (arith, many))) (c.loop-version.invariant.goes roots are many)
