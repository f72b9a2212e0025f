use Rattle.std.proofs.Common.{◌∙◌, sym, arith, subst}
use Rattle.std.specs.Prelude.{slice_index_or, IfSome}
use Rattle.loc_batch.specs.Blocks.{AreKnown, Holds}
use Rattle.loc_batch.proofs.Placed.{held_again, placed_is, written_back, within_list}
use Rattle.loc_batch.proofs.block.Block.search.Goals as goal

pub seek-requires-clause-lines : goal.seek-requires-clause-lines
seek-requires-clause-lines g c =
    let points = c.requires.held.0 in
    let held : Holds points (record { queries = c.deref.result.now; found = c.deref_mut.result.now }) =
    rw (c.deref.ensures.value, c.deref_mut.ensures.value) (held_again points _ c.sort_unstable.new.self.items c.sort_unstable.ensures.permutation (subst (Holds points) (sym c.self.view_is) c.requires.held.1)) in
    λ k d less. let within = within_list points (slice_index_or c.deref.result.now k d).line (slice_index_or c.deref.result.now k d).point (held.right k d less) in
    omega (arith, within, held.as_many)

pub seek-requires-clause-known : goal.seek-requires-clause-known
seek-requires-clause-known g c =
    let held = subst (Holds c.requires.held.0) (sym c.self.view_is) c.requires.held.1 in
    rw c.deref_mut.ensures.value (λ k d less. subst (λ f. IfSome f (g.D.Answerer.knows c.args.by.now)) (sym (held.empty k d less)) tt)

pub returns-clause-known : goal.returns-clause-known
returns-clause-known g c = subst (AreKnown (g.D.Answerer.knows c.args.by.now)) (sym (written_back _ _ _ (sym (c.seek.auto.found ∙ c.deref_mut.ensures.len)))) c.seek.ensures.known

pub returns-clause-found : goal.returns-clause-found
returns-clause-found g c = λ points h.
    let finds = g.D.Answerer.finds c.args.by.now in
    let held : Holds points (record { queries = c.deref.result.now; found = c.deref_mut.result.now }) =
    rw (c.deref.ensures.value, c.deref_mut.ensures.value) (held_again points _ c.sort_unstable.new.self.items c.sort_unstable.ensures.permutation (subst (Holds points) (sym c.self.view_is) h)) in
    written_back _ _ _ (sym (c.seek.auto.found ∙ c.deref_mut.ensures.len)) ∙ (c.seek.ensures.placed ∙ placed_is finds points _ held)
