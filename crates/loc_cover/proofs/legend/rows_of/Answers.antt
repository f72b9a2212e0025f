use Rattle.std.proofs.lemmas.List.{map_more}
use Rattle.loc_cover.proofs.legend.rows_of.Goals as goal

pub loop-list-preserved : goal.loop-list-preserved
loop-list-preserved g c = cc (map_more (λ list. list.items) c.args.lists.now c.loop-list.list-index c.list-item.result c.loop-list-test.true, c.list-item.is, c.deref.ensures.value, c.in_ok-push.ensures, c.loop-list.invariant)
