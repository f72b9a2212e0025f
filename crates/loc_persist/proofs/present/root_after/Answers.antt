-- The node of the root has one number.
use Rattle.std.proofs.Common.{sym, subst, ◌∙◌}
use Rattle.loc_pool.specs.{declared.Link.Link, Maps.links, Rows.IsPlace}
use Rattle.loc_rb.proofs.OneChange.{some-link}
use Rattle.loc_persist.proofs.Places.{place-once}
use Rattle.loc_persist.proofs.present.root_after.Goals as goal

pub returns-else-number-clause-was : goal.returns-else-number-clause-was
returns-else-number-clause-was c e =
    let ls = links c.args.pool.now.rows in let s = some-link c.in-Some.link c.args.at (sym c.in-Some.is ∙ e) in
    absurd (c.if-number.false (place-once ls c.args.at c.number.result c.number-in-Some.result c.len-count.ensures.names (subst (λ (l : Link). IsPlace ls l c.number.result) s c.number.ensures) c.number-in-Some.ensures))
