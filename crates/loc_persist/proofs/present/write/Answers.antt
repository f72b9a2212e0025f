-- In place, or as a stamp.
use Rattle.std.proofs.Common.{refl, sym, ap, subst}
use Rattle.loc_pool.specs.{Maps.Map, Rows.Row}
use Rattle.loc_persist.specs.Written.{IsWritten}
use Rattle.loc_persist.proofs.Writing.{written-child, written-stamp, free-of}
use Rattle.loc_persist.proofs.present.write.Goals as goal

pub returns-then-is_fresh-clause-written : goal.returns-then-is_fresh-clause-written
returns-then-is_fresh-clause-written c =
    let v = c.args.sealed.versions in let n = c.args.sealed.nodes in let rows = c.args.pool.now.rows in
    subst (λ (M : Map Row). IsWritten v n rows M c.args.at c.args.turn c.args.to) (sym (ap (λ p. p.rows) c.set_plain.ensures))
    (written-child v n rows c.args.at c.args.turn c.args.to c.requires.row c.requires.to c.requires.fresh (c.if-is_fresh.ensures.fresh refl))

pub returns-else-is_fresh-clause-written : goal.returns-else-is_fresh-clause-written
returns-else-is_fresh-clause-written c =
    let v = c.args.sealed.versions in let n = c.args.sealed.nodes in let rows = c.args.pool.now.rows in let old = c.if-is_fresh.ensures.old refl in
    subst (λ (M : Map Row). IsWritten v n rows M c.args.at c.args.turn c.args.to) (sym (ap (λ p. p.rows) c.stamp.ensures))
    (written-stamp v n rows c.args.at c.args.turn c.args.to c.requires.row c.requires.to c.requires.fresh old (free-of v n rows c.args.at c.args.turn c.requires.room old))
