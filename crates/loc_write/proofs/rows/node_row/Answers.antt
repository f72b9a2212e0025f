use Rattle.std.proofs.Common.{refl}
use Rattle.loc_write.proofs.rows.node_row.Goals as goal

pub returns : goal.returns
returns c = rw (c.add_number-5.ensures.bytes, c.add_number-4.ensures.bytes, c.add_byte.ensures.bytes, c.add_number-3.ensures.bytes, c.add_number-2.ensures.bytes, c.add_number.ensures.bytes, c.new-row.ensures) refl
