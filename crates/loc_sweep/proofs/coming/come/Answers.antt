use Rattle.std.proofs.{Common.subst, lemmas.Bool.not-true}
use Rattle.loc_spec_plane.specs.Lists.{is_in}
use Rattle.loc_status.specs.{Lists.IsInserted, Meaning.Inserts}
use Rattle.loc_sweep.proofs.{Chains.inserted, Chains.inserted_neighbours, EdgesComing.hit_touches}
use Rattle.loc_sweep.proofs.coming.come.Goals as goal

pub test_both-requires-clause-below_in_range : goal.test_both-requires-clause-below_in_range
test_both-requires-clause-below_in_range g c =
    let t = c.args.table.now in
    let old = (g.S.Status.meaning c.args.status.now).list in
    let new = (g.S.Status.meaning c.insert.new.self).list in
    (inserted_neighbours t c.args.edge old new c.in-Ok.beside c.requires.in_range c.requires.chain (subst (λ r. IsInserted r c.args.edge old new) c.ranks.ensures c.in-Ok.ensures.ok.list) c.in-Ok.ensures.beside).0

pub test_both-requires-in-Ok-clause-above_in_range : goal.test_both-requires-in-Ok-clause-above_in_range
test_both-requires-in-Ok-clause-above_in_range g c =
    let t = c.args.table.now in
    let old = (g.S.Status.meaning c.args.status.now).list in
    let new = (g.S.Status.meaning c.insert.new.self).list in
    (inserted_neighbours t c.args.edge old new c.in-Ok.beside c.requires.in_range c.requires.chain (subst (λ r. IsInserted r c.args.edge old new) c.ranks.ensures c.in-Ok.ensures.ok.list) c.in-Ok.ensures.beside).1

pub touching-requires-clause-first_in_range : goal.touching-requires-clause-first_in_range
touching-requires-clause-first_in_range g c = rw (c.in-Err-Hits.hit-is) (hit_touches c.ranks.result c.args.table.now c.ranks.ensures c.law.ensures.in_order c.args.edge c.requires.in_range (g.S.Status.meaning c.args.status.now).list c.requires.chain c.requires.is_new c.in-Err-Hits.field-0 c.in-Err-Hits.hit c.in-Err-Hits.field-0-is c.in-Err-Hits.ensures.cause).0

pub touching-requires-clause-touching : goal.touching-requires-clause-touching
touching-requires-clause-touching g c = rw (c.in-Err-Hits.hit-is) (hit_touches c.ranks.result c.args.table.now c.ranks.ensures c.law.ensures.in_order c.args.edge c.requires.in_range (g.S.Status.meaning c.args.status.now).list c.requires.chain c.requires.is_new c.in-Err-Hits.field-0 c.in-Err-Hits.hit c.in-Err-Hits.field-0-is c.in-Err-Hits.ensures.cause).1

pub returns-in_ok-test_both-in-Ok-2 : goal.returns-in_ok-test_both-in-Ok-2
returns-in_ok-test_both-in-Ok-2 g c =
    let t = c.args.table.now in
    let old = (g.S.Status.meaning c.args.status.now).list in
    let new = (g.S.Status.meaning c.insert.new.self).list in
    let come = subst (λ r. IsInserted r c.args.edge old new) c.ranks.ensures c.in-Ok.ensures.ok.list in
    let whole = inserted t c.args.edge old new c.in-Ok.beside c.law.ensures.in_order c.requires.in_range c.requires.chain (not-true (is_in c.args.edge old) c.requires.is_new) come c.in-Ok.ensures.beside c.in_ok-test_both-in-Ok.ensures.apart c.in_ok-test_both-in-Ok-2.ensures.apart in
    record {
      here = subst (λ r. Inserts r c.args.edge (g.S.Status.meaning c.args.status.now) (g.S.Status.meaning c.insert.new.self)) c.ranks.ensures c.in-Ok.ensures.ok;
      chain = whole.0;
      others = whole.1;
      beside = c.in-Ok.ensures.beside;
      in_range = (inserted_neighbours t c.args.edge old new c.in-Ok.beside c.requires.in_range c.requires.chain come c.in-Ok.ensures.beside).1;
      shown = tt;
    }

pub returns-in-Err-Hits-clause-here : goal.returns-in-Err-Hits-clause-here
returns-in-Err-Hits-clause-here g c = tt

pub returns-in-Err-Hits-clause-others : goal.returns-in-Err-Hits-clause-others
returns-in-Err-Hits-clause-others g c = tt

pub returns-in-Err-Hits-clause-chain : goal.returns-in-Err-Hits-clause-chain
returns-in-Err-Hits-clause-chain g c = tt

pub returns-in-Err-Hits-clause-beside : goal.returns-in-Err-Hits-clause-beside
returns-in-Err-Hits-clause-beside g c = tt

pub returns-in-Err-Hits-clause-in_range : goal.returns-in-Err-Hits-clause-in_range
returns-in-Err-Hits-clause-in_range g c = tt
