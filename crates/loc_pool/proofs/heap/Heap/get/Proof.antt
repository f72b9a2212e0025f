-- `get` follows the pointer to a slab that the heap lends. Assumes `Logic`.
use Rattle.loc_pool.proofs.Steps.{List, [], ◌∷◌, refl, proved, ftrue, flft, tables, ‵, raw, ◌⊛◌, prop, at_ret, ◌$◌, ◌∵◌, !, qed, done, move, keep, drop, use1, split, join, fsplit, fjoin, feq_i, rewrite, regoal, suffices, enter, of_opd, addr, stop, fld, hop, first, blocks, exec, returns, alloc_all, pass_all, free_all, look_at, get, sets, env, named, fact, Ptr, in_a_block, nothing, heard, Stays, walk_of, says, stay_dropped, Goes-dropped, ends_at}
use mir.Syntax.{w64}
use mir.Val.{Val, vint, vptr, vstruct, vcons, vnil}
use base.Logic.{never, fst∗}
use prog.Wp.{WpFn}
use types.Logic.{sem}
use types.Part.{whole, sub}
use types.Run.{from}
use types.ByLocal.{sets_last, look_in_at}
use denote.RattleType.{owns, Valss}
use denote.RawPtr.{ptr_val}
use denote.Memory.{shared_of}
use denote.Signature.{types_at}
use denote.Opens.{hide, unhide}
use denote.Ref.{shr_vals, shr_Tells, Bor}
use denote.Struct.Lending.{lent_at}
use Rattle.std_alloc.proofs.VecSteps.Shapes.{after}
use denote.Plain.{uint_vals, uint_Tells}
use Rattle.loc_pool.specs.{Cells.Cell, Ownership.cells_lent, declared.node.Slab.Slab}
use Rattle.loc_pool.specs.contracts.heap.Heap.{the_row as Hp}
use Rattle.loc_pool.specs.contracts.node.Slab.{the_row as R}
use Rattle.loc_pool.specs.contracts.heap.Heap.get as f
use Rattle.loc_pool.proofs.{heap.Address.TheLaws.lowers, heap.Heap.get.Statement.statement, Cells.cut-here}
use Rattle.loc_pool.proofs.heap.Heap.get.Code as code
use Rattle.std.specs.Prelude.{◌≡◌, Some, slice_get, take, drop as past, ◌+◌}
use Rattle.loc_pool.proofs.Memory.{slot_at, cell_seen}

abbrev stayed : Stays f.ended.signature.params f.ended.kept
stayed = (stay_dropped _ _, (stay_dropped _ _, (stay_dropped _ _, tt)))

pub get_spec : {M : Type 1} → statement M
get_spec 𝓤 𝓛 𝓜 𝓡 wired =
    let Ps = f.ended.signature.params in let c = f.clauses 𝓛 𝓜.mem 𝓡.returns in let W = walk_of 𝓛 f.ended stayed c in let 𝓣 = tables 𝓤 𝓛.H 𝓜 𝓡 𝓡.env in
    proved 𝓛 f.ended stayed c 𝓜 𝓡 (Goes-dropped 𝓛 1 (slot_at 0 Ps) f.ended.kept.0 (λ κs x w. refl), (Goes-dropped 𝓛 1 (slot_at 1 Ps) f.ended.kept.1.0 (λ κs x w. refl), (Goes-dropped 𝓛 1 (slot_at 2 Ps) f.ended.kept.1.1.0 (λ κs x w. refl), tt))) f.Key.name code.function (code.unfolded 𝓤 𝓛.H 𝓜 𝓡 wired)
    (λ κs. (shr_vals, ((λ d. lowers.lowered d ∷ []), (uint_vals w64, tt)))) (λ κs. (shr_Tells (named 0) κs.0 Hp, (lowers.val_is, (uint_Tells w64, tt)))) (λ κs qs bounds a g are.
    let κ = κs.0 in let q = qs.0 in let rb = a.0.ref_ptr.0 in let ro = a.0.ref_ptr.1 in let d = a.0.now in let at = a.1.0 in let index = a.1.1.0 in let fits = are.1.1.0.1 in
    let vss : Valss (types_at f.ended.signature.params κs) = (shr_vals a.0, (lowers.lowered at ∷ [], (vint w64 index ∷ [], tt))) in
    let Asked : Type 0 = (slab : Slab) × (slice_get d.cells index ≡ Some (at, slab)) in
    let y : W.Ghost = ((κs, qs, bounds, a, vss), g) in
    qed 𝓛 (((‵ (flft κ q) ⊛ ‵ ftrue) ⊛ ‵ (owns (types_at f.ended.signature.params κs) a vss)) ∷ raw (fact 𝓤 Asked) ∷ []) ∵ move ! (1 ∷ []) $
    heard ! Asked (λ asked. let x = asked.0 in split ! $ split ! $ move ! (2 ∷ []) $ fsplit ! $ fsplit ! $ drop ! $ keep ! (0 ∷ 2 ∷ []) $
    unhide ! $ fsplit ! $ drop ! $
    rewrite ! 0 (λ (cs : List Cell). ‵ (cells_lent cs κ)) (cut-here d.cells index (at, x) asked.1) refl $
    use1 𝓛 (‵ (lent_at R at.at x κ)) (cell_seen 𝓛 κ (take index d.cells) (at, x) (past (index + 1) d.cells)) $
    in_a_block ! at.at (λ p. lent_at R p x κ) (fst∗ 𝓤 (never 𝓤) (sem 𝓛 (shared_of R x 0 0 κ))) (λ b o e. fsplit ! $ drop ! $ hide ! $
    regoal ! (λ (p : Ptr). prop (WpFn 𝓤 𝓛.H 𝓣.C 𝓣.Λ code.function (vptr rb ro ∷ vstruct (vcons (ptr_val p) vnil) ∷ vint w64 index ∷ []) (W.post y))) e refl $
    enter ! _ _ _ _ _ $ alloc_all ! (λ l. pass_all ! refl ((tt, tt), ((tt, (tt, tt)), ((tt, record { fits = fits }), tt))) $
    let En = env code.function.locals l in
    first ! $ blocks ! $ sets_last ! (addr ! (from ! (fld ! refl (hop ! (look_in_at ! 2 (sub ! 0 refl (whole !))) (stop !))))) refl (tt, tt) $
    exec ! 𝓣.C 𝓣.Λ En (after 1 (code.function).body) (at_ret En (W.post y)) $ sets ! (of_opd ! (get ! refl)) refl (tt, tt) $
    returns ! (look_at ! 0 refl) $ free_all ! refl $
    let r : Bor Slab = record { ref_ptr = (b, o); now = x } in
    suffices ! _ (ends_at 𝓛 f.ended stayed c y (vptr b o) r (tt, (tt, (tt, tt))) (tt, (tt, (tt, tt)))) $
    says ! asked.1 $
    feq_i ! (List Val) (vptr b o ∷ []) (vptr b o ∷ []) refl $ fjoin ! $ nothing ! $ nothing ! $ fjoin ! $ nothing ! $ fjoin ! $ nothing ! $ fjoin ! $
    nothing ! $ move ! (3 ∷ 0 ∷ []) $ join ! $ done !))))
