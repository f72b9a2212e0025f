use Rattle.std.proofs.Common.{sym, ap}
use Rattle.std.specs.Prelude.{if◌then◌else◌, nat_le, ◌==◌}
use Rattle.std.proofs.lemmas.Bool.{and_left, and_right, lt-leb, ne_eqb}
use Rattle.loc_file.proofs.search.left_of.Goals as goal
use Rattle.loc_file.proofs.search.left_of.Goals.{else-row-eq1-via-then-row-eq1+else-row-version, else-row-eq1-via-else-row-eq1}

pub returns-else-row-eq1 : goal.returns-else-row-eq1
returns-else-row-eq1 c = ap (λ b. if b then c.args.row.extra else c.args.row.left) (sym (elim c.else-row-eq1.branch [
  | else-row-eq1-via-then-row-eq1+else-row-version w ↦ and_right (c.args.row.side == 1) (nat_le c.args.row.stamp c.args.version) (lt-leb c.args.row.stamp c.args.version w.if-row-version.false)
  | else-row-eq1-via-else-row-eq1 w ↦ and_left (c.args.row.side == 1) (nat_le c.args.row.stamp c.args.version) (ne_eqb c.args.row.side 1 w.if-row-eq1.false)
]))
