use Rattle.std.proofs.Common.{length, ap, subst, arith}
use Rattle.loc_spec_index.specs.IndexFile.{IsFileOf, bytes_of}
use Rattle.loc_laws_index.proofs.{FileFacts.facts, Renewed.renewed, AgreeTable.most-small}
use Rattle.loc_write.proofs.Spelling.{length-marks}
use Rattle.loc_file.specs.Keeping.{FileOf}
use Rattle.loc_file.proofs.held.write_held.Goals as goal

pub write_rows-requires-clause-short_ids : goal.write_rows-requires-clause-short_ids
write_rows-requires-clause-short_ids g c = (facts _ _ c.held.invariant.file).short_ids

pub write_rows-requires-clause-few_marks : goal.write_rows-requires-clause-few_marks
write_rows-requires-clause-few_marks g c = let f = facts _ _ c.held.invariant.file in omega (arith, f.few_marks, most-small c.held.inside.version, length-marks 0 c.held.inside.table.marks)

pub write_rows-requires-clause-few_nodes : goal.write_rows-requires-clause-few_nodes
write_rows-requires-clause-few_nodes g c = let f = facts _ _ c.held.invariant.file in omega (arith, f.few_nodes, f.few_edges, most-small c.held.inside.version, ap length c.as_slice-2.ensures.value)

pub returns-clause-file : goal.returns-clause-file
returns-clause-file g c = subst (λ (k : FileOf). IsFileOf 2 k.content (bytes_of 2 k.content)) c.held.view_is (renewed _ _ _ c.held.invariant.file)
