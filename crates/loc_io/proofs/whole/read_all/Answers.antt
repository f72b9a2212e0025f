use Rattle.std.proofs.Common.{◌≡◌, ◌++◌, take, rules, arith, refl, ◌∙◌}
use Rattle.std.proofs.{lemmas.List.with_items_is, lemmas.Result.err_from_is_err_and}
use Rattle.loc_io.proofs.Reading.{reads_more, reads_end, reads_long, reads_no_memory}
use Rattle.loc_io.proofs.whole.read_all.Goals as goal

pub returns-then-n-eq0 : goal.returns-then-n-eq0
returns-then-n-eq0 g c = reads_end _ _ _ _ _ _ _ _ c.pieces.invariant.hand c.in_ok-n.ensures c.if-n-eq0.true (search rules) c.pieces.all refl

pub returns-then-n-limit : goal.returns-then-n-limit
returns-then-n-limit g c = reads_long _ _ _ _ _ _ _ _ c.pieces.invariant.hand c.in_ok-n.ensures (omega arith)

pub pieces-preserved : goal.pieces-preserved
pieces-preserved g c =
    let few = c.pieces.invariant.hand.few in
    let more = reads_more _ _ _ _ _ _ _ _ c.pieces.invariant.hand c.in_ok-n.ensures (omega (arith, few)) in
    let whole : c.deref.result.now ≡ c.read.new.into = c.deref.ensures.value ∙ with_items_is c.pieces.piece c.read.new.into (search rules) in
    let items : c.extend_from_slice.new.self.items ≡ c.pieces.all.items ++ take c.in_ok-n.n c.read.new.into = rw whole at c.in_ok-extend_from_slice.ensures.items in
    record { hand = rw items more; room = search rules }

pub returns-in_err-extend_from_slice : goal.returns-in_err-extend_from_slice
returns-in_err-extend_from_slice g c =
    let few = c.pieces.invariant.hand.few in
    let more = reads_more _ _ _ _ _ _ _ _ c.pieces.invariant.hand c.in_ok-n.ensures (omega (arith, few)) in
    let p = err_from_is_err_and c.from_residual-in_err-extend_from_slice.result c.from_residual-in_err-extend_from_slice.ensures.1 in
    rw (p.1, p.2) (reads_no_memory _ _ _ _ _ more)
