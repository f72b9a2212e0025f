-- A stamp, or a copy and then the root or the pointer above.
use Rattle.std.proofs.Common.{◌≡◌, List, [], refl, sym, ap, ◌∙◌, subst, arith, length}
use Rattle.loc_pool.specs.{declared.Link.Link, declared.Turn.Turn}
use Rattle.loc_rb.specs.{Nodes.CanChange, Exchanges.Exchanges}
use Rattle.loc_rb.proofs.OneChange.{no-entries}
use Rattle.loc_persist.specs.Present.{nodes_at}
use Rattle.loc_persist.proofs.Keeping.{keeps-trans}
use Rattle.loc_persist.proofs.Exchanges.{at-row, to-has, written-of, top-of, up-can, up-of, present-of, paid-of, keeps-of, fresh-of, has-of, rooted-of, length-copy}
use Rattle.loc_persist.proofs.present.Present.+exchange.Goals as goal

pub has_room-requires : goal.has_room-requires
has_room-requires t c = (at-row _ _ _ _ _ _ _ c.requires.place).0

pub write-requires-clause-row : goal.write-requires-clause-row
write-requires-clause-row t c = (at-row _ _ _ _ _ _ _ c.requires.place).0

pub write-requires-clause-to : goal.write-requires-clause-to
write-requires-clause-to t c = to-has _ _ _ _ _ _ _ c.requires.place

pub returns-then-has_room-clause-exchanges : goal.returns-then-has_room-clause-exchanges
returns-then-has_room-clause-exchanges t c = written-of _ _ _ _ _ _ _ _ _ _ c.requires.place c.write.ensures.written

pub returns-then-has_room-clause-present : goal.returns-then-has_room-clause-present
returns-then-has_room-clause-present t c = let s = c.args.self.now in let w = c.write.ensures.written in (w.present s.root s.copied.links c.requires.present.0, w.fresh)

pub returns-then-has_room-clause-paid : goal.returns-then-has_room-clause-paid
returns-then-has_room-clause-paid t c = c.write.ensures.written.paid c.args.self.now.copied.links

pub returns-then-has_room-clause-more : goal.returns-then-has_room-clause-more
returns-then-has_room-clause-more t c = let l = c.write.ensures.written.as_many in omega (arith, l)

pub copy-new-requires-clause-row : goal.copy-new-requires-clause-row
copy-new-requires-clause-row t c = (at-row _ _ _ _ _ _ _ c.requires.place).0

pub root_after-self-requires-clause-row : goal.root_after-self-requires-clause-row
root_after-self-requires-clause-row t c = has-of _ _ _ _ _ _ _ _ c.copy-new.ensures.new c.copy-new.ensures.rows (at-row _ _ _ _ _ _ _ c.requires.place).0

pub root_after-self-requires-clause-rooted : goal.root_after-self-requires-clause-rooted
root_after-self-requires-clause-rooted t c l e = has-of _ _ _ _ _ _ _ _ c.copy-new.ensures.new c.copy-new.ensures.rows (c.requires.present.0.rooted l e)

pub exchange-up-requires : goal.exchange-up-requires
exchange-up-requires t c =
    let s = c.args.self.now in let n = c.args.sealed.versions in let w = c.requires.place in
    let k = subst (λ (z : List (Link × Turn)). CanChange (nodes_at n s.pool.rows s.root s.copied.links) z c.args.at c.args.to) c.in-Some.ensures.items w in
    let up = up-can _ _ _ _ _ _ _ _ _ _ _ _ k c.requires.present.0.known c.copy-new.ensures.new c.copy-new.ensures.rows c.and-self.ensures in
    let p = present-of _ _ _ _ _ _ _ _ _ _ c.requires.present.0 (to-has _ _ _ _ _ _ _ w) (at-row _ _ _ _ _ _ _ w).0 c.copy-new.ensures.new c.copy-new.ensures.rows c.and-self.ensures in
    let l = c.in-Some.ensures.len in let a = c.copy-new.ensures.room in let q = c.requires.room in let f = c.requires.few in let b = c.requires.short in
    let m = ap length c.copy-new.ensures.rows in let g = length-copy n s.pool.rows c.args.at c.copy-new.result c.args.turn c.args.to in
    (omega (arith, l), (omega (arith, l, a, q), (omega (arith, l, f, m, g), (omega (arith, l, b), ((p, fresh-of _ _ _ _ _ _ _ _ c.requires.present.1 c.copy-new.ensures.new c.copy-new.ensures.rows), up)))))

pub returns-in-None-clause-exchanges : goal.returns-in-None-clause-exchanges
returns-in-None-clause-exchanges t c =
    let s = c.args.self.now in let n = c.args.sealed.versions in let old = nodes_at n s.pool.rows s.root s.copied.links in
    let z = no-entries c.args.path.now.items c.in-None.ensures.variant.1 in let e : c.pop.new.self.items ≡ [] = ap (λ p. p.items) c.in-None.ensures.empty ∙ z in
    let k = subst (λ (y : List (Link × Turn)). CanChange old y c.args.at c.args.to) z c.requires.place in
    subst (λ (q : List (Link × Turn) × List (Link × Turn)). Exchanges old (nodes_at n c.copy-new.new.pool.rows c.root_after-self.result c.and-self.result.links) q.0 q.1 c.args.at c.copy-new.result c.args.turn c.args.to) (λ i. (sym z i, sym e i))
    (top-of _ _ _ _ _ _ _ _ _ _ _ k c.requires.present.0.known c.copy-new.ensures.new c.copy-new.ensures.rows c.and-self.ensures c.root_after-self.ensures.was c.root_after-self.ensures.not)

pub returns-in-None-clause-keeps : goal.returns-in-None-clause-keeps
returns-in-None-clause-keeps t c = keeps-of _ _ _ _ _ _ _ _ c.requires.present.1 c.copy-new.ensures.rows

pub returns-in-None-clause-present : goal.returns-in-None-clause-present
returns-in-None-clause-present t c =
    let w = c.requires.place in
    (rooted-of _ _ _ _ _ _ _ _ _ _ _ c.requires.present.0 (to-has _ _ _ _ _ _ _ w) (at-row _ _ _ _ _ _ _ w).0 c.copy-new.ensures.new c.copy-new.ensures.rows c.and-self.ensures c.root_after-self.ensures.was c.root_after-self.ensures.not, fresh-of _ _ _ _ _ _ _ _ c.requires.present.1 c.copy-new.ensures.new c.copy-new.ensures.rows)

pub returns-in-None-clause-paid : goal.returns-in-None-clause-paid
returns-in-None-clause-paid t c = let h = (at-row _ _ _ _ _ _ _ c.requires.place) in let p = paid-of _ _ _ _ _ _ _ _ _ h.0 (c.if-has_room.ensures.used refl) h.1 c.copy-new.ensures.rows c.and-self.ensures in omega (arith, p)

pub returns-in-Some-clause-exchanges : goal.returns-in-Some-clause-exchanges
returns-in-Some-clause-exchanges t c =
    let s = c.args.self.now in let n = c.args.sealed.versions in let N = c.exchange-up.new.self in let old = nodes_at n s.pool.rows s.root s.copied.links in
    let k = subst (λ (z : List (Link × Turn)). CanChange old z c.args.at c.args.to) c.in-Some.ensures.items c.requires.place in
    subst (λ (q : List (Link × Turn) × List (Link × Turn)). Exchanges old (nodes_at n N.pool.rows N.root N.copied.links) q.0 q.1 c.args.at c.copy-new.result c.args.turn c.args.to) (λ i. (sym c.in-Some.ensures.items i, sym c.push.ensures i))
    (up-of _ _ _ _ _ _ _ _ _ _ _ _ _ _ _ _ _ _ k c.requires.present.0.known c.copy-new.ensures.new c.copy-new.ensures.rows c.and-self.ensures c.exchange-up.ensures.exchanges)

pub returns-in-Some-clause-keeps : goal.returns-in-Some-clause-keeps
returns-in-Some-clause-keeps t c = keeps-trans _ _ _ _ (keeps-of _ _ _ _ _ _ _ _ c.requires.present.1 c.copy-new.ensures.rows) c.exchange-up.ensures.keeps

pub returns-in-Some-clause-paid : goal.returns-in-Some-clause-paid
returns-in-Some-clause-paid t c =
    let h = (at-row _ _ _ _ _ _ _ c.requires.place) in let p = paid-of _ _ _ _ _ _ _ _ _ h.0 (c.if-has_room.ensures.used refl) h.1 c.copy-new.ensures.rows c.and-self.ensures in
    let q = c.exchange-up.ensures.paid in omega (arith, p, q)
