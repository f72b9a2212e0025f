use Rattle.std.proofs.Common.{◌++◌, ap, ◌∙◌}
use Rattle.loc_write.proofs.rows.add_number.Goals as goal

pub returns-clause-bytes : goal.returns-clause-bytes
returns-clause-bytes c = c.add.ensures.bytes ∙ ap (λ bytes. c.args.row.now.items ++ bytes) c.write_u32.ensures
