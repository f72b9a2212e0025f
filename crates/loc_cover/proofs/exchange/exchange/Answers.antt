use Rattle.std.proofs.Common.{arith}
use Rattle.loc_cover.proofs.Exchanging.{gained_up_to, gains, leaves, low_up_to, rising_later}
use Rattle.loc_cover.proofs.exchange.exchange.Goals as goal
use Rattle.loc_cover.proofs.exchange.exchange.Goals.{else-past-rest-via-then-past-rest+else-rest-past, else-past-rest-via-else-past-rest}

pub first_from-past-requires : goal.first_from-past-requires
first_from-past-requires c = record { in_order = rising_later c.args.made.now.items c.args.rest.now c.requires.in_order }

pub returns-then-rest-past-clause-behind : goal.returns-then-rest-past-clause-behind
returns-then-rest-past-clause-behind c = rw c.in_ok-extend_from_slice.ensures.items (low_up_to c.args.made.now.items c.args.rest.now c.args.feature c.first_from-past.result c.requires.in_order c.requires.behind c.first_from-past.ensures.before c.first_from-past.ensures.from)

pub returns-then-rest-past-clause-exchanged : goal.returns-then-rest-past-clause-exchanged
returns-then-rest-past-clause-exchanged c = rw c.in_ok-extend_from_slice.ensures.items (leaves c.args.made.now.items c.args.rest.now c.args.feature c.first_from-past.result c.requires.in_order c.requires.behind c.first_from-past.ensures.before c.first_from-past.ensures.from c.if-past-rest.true c.if-rest-past.true)

pub returns-clause-behind : goal.returns-clause-behind
returns-clause-behind c = rw (c.in_ok-push.ensures.items, c.in_ok-extend_from_slice.ensures.items) (gained_up_to c.args.made.now.items c.args.rest.now c.args.feature c.first_from-past.result c.requires.in_order c.requires.behind c.first_from-past.ensures.before c.first_from-past.ensures.from)

pub returns-clause-exchanged : goal.returns-clause-exchanged
returns-clause-exchanged c = rw (c.in_ok-push.ensures.items, c.in_ok-extend_from_slice.ensures.items) (gains c.args.made.now.items c.args.rest.now c.args.feature c.first_from-past.result c.requires.in_order c.requires.behind c.first_from-past.ensures.before c.first_from-past.ensures.from
    (λ fits same. elim c.else-past-rest.branch [
      | else-past-rest-via-then-past-rest+else-rest-past w ↦ w.if-rest-past.false same
      | else-past-rest-via-else-past-rest w ↦ omega (arith, fits, w.if-past-rest.false)
    ]))
