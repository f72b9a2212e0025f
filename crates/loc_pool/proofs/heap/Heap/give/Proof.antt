-- `give` hands out a slab and the right to its block. Assumes `Logic`.
use Rattle.loc_pool.proofs.Steps.{List, [], ◌∷◌, refl, full_share, ftrue, fat, flft, tables, ‵, raw, ◌⊛◌, prop, ◌$◌, ◌∵◌, !, qed, done, move, keep, use1, split, join, fsplit, fsplit3, fjoin, rewrite, regoal, suffices, frame, group, enter, stop, fld, no_more, and_then, returns, alloc_all, pass_all, free_all, look_at, get, sets, named, fact, Ptr, block_ptr, in_a_block, mut_Tells, plain, nothing, opens, closes, heard, Stays, walk_of, stay_ref, Goes-ref, stay_dropped, Goes-dropped, ends_at}
use mathlib.Core.List.{◌++◌}
use mathlib.Core.Path.{subst}
use mir.Syntax.{impl, tnil, dnil, w64}
use mir.Val.{Val, vptr, vstruct, vcons, vnil}
use base.Logic.{SProp, never, fst∗}
use prog.Wp.{WpFn}
use types.Logic.{sem}
use types.Part.{agg, whole, sub}
use types.ByLocal.{get_in, take_at, give_at}
use denote.RattleType.{owns}
use denote.RawPtr.{ptr_val, null_ptr}
use denote.Laws.{Is}
use denote.Memory.{lone}
use denote.Signature.{types_at}
use Rattle.core.proofs.alloc.Calls.{Al, handle_tells}
use Rattle.std.proofs.raw_atomic.Walks.{proved_at}
use Rattle.std.specs.contracts.alloc.Global.{the_row as Z}
use Rattle.std.proofs.alloc.Global.TheLaws.{the_row_laws as LZ}
use Rattle.std.specs.contracts.impls.GlobalAllocator.TheImpl.{ghosts}
use denote.Plain.{uint_Tells}
use Rattle.loc_pool.specs.{Cells.Cell, declared.node.Slab.Slab, Ownership.cell_own, Ownership.cells_own}
use Rattle.loc_pool.specs.contracts.heap.Heap.{the_row as Hp}
use Rattle.loc_pool.specs.contracts.node.Slab.{the_row as R}
use Rattle.loc_pool.specs.contracts.heap.Address.{the_row as Ad}
use Rattle.loc_pool.specs.contracts.heap.Heap.give as f
use Rattle.loc_pool.proofs.heap.Address.TheLaws.{lowers, the_row_laws as LL}
use Rattle.loc_pool.proofs.{heap.Heap.give.Statement.statement, Cells.cut-here}
use Rattle.loc_pool.proofs.heap.Heap.give.Code as code
use Rattle.std.specs.Prelude.{◌≡◌, ◌+◌, Some, slice_get, take, drop as past}
use Rattle.std_alloc.specs.Box.Ownership.{box_owns}
use Rattle.loc_pool.proofs.Values.{both, loose_good, loose_in}
use Rattle.loc_pool.proofs.Memory.{handle, slot_at, cells_cut, says_both}

abbrev stayed : Stays f.ended.signature.params f.ended.kept
stayed = (stay_ref (0 ∷ []) tt (plain (λ _. Hp)), (stay_dropped _ _, (stay_dropped _ _, (stay_dropped _ _, tt))))

pub give_spec : {M : Type 1} → statement M
give_spec 𝓤 𝓛 𝓜 𝓡 wired =
    let Ps = f.ended.signature.params in let c = f.clauses 𝓛 𝓜.mem 𝓡.returns in let 𝓣 = tables 𝓤 𝓛.H 𝓜 𝓡 𝓡.env in
    let al : Al = record { row = Z; laws = LZ; g = ghosts; d = impl [] tnil dnil; drops = impl [] tnil dnil } in
    proved_at 𝓛 f.ended stayed c 𝓜 𝓡 (Goes-ref 𝓛 1 0 tt (plain (λ _. Hp)), (Goes-dropped 𝓛 1 (slot_at 1 Ps) f.ended.kept.1.0 (λ κs x w. refl), (Goes-dropped 𝓛 1 (slot_at 2 Ps) f.ended.kept.1.1.0 (λ κs x w. refl), (Goes-dropped 𝓛 1 (slot_at 3 Ps) f.ended.kept.1.1.1.0 (λ κs x w. refl), tt))))
    f.Key.name code.function (code.unfolded 𝓤 𝓛.H 𝓜 𝓡 wired) (λ z are.
    let κs = z.0.0 in let κ = κs.0 in let q = z.0.1.0 in let a = z.0.3 in let vss = z.0.4 in let rb = a.0.ref_ptr.0 in let ro = a.0.ref_ptr.1 in let h = a.0.now in let alloc = a.1.0 in let at = a.1.1.0 in let index = a.1.1.1.0 in
    let Post : Val → SProp 𝓤 = (walk_of 𝓛 f.ended stayed c).post z in
    let told = lowers.val_is at vss.1.1.0 are.1.1.0 in let Asked : Type 0 = (slab : Slab) × (slice_get h.cells index ≡ Some (at, slab)) in
    qed 𝓛 (((‵ (flft κ q) ⊛ ‵ ftrue) ⊛ ‵ (owns (types_at f.ended.signature.params κs) a vss)) ∷ raw (fact 𝓤 Asked) ∷ []) ∵ move ! (1 ∷ []) $
    heard ! Asked (λ asked. split ! $ split ! $ move ! (2 ∷ []) $ fsplit ! $ move ! (1 ∷ []) $ fsplit ! $ handle_tells al ! alloc vss.1.0 (λ hv eh fits. keep ! (2 ∷ 3 ∷ 0 ∷ []) $
    -- [self; the token; the handle]
    let xs = take index h.cells in let x = asked.0 in let ys = past (index + 1) h.cells in
    regoal ! (λ (us : List Val). prop (WpFn 𝓤 𝓛.H 𝓣.C 𝓣.Λ code.function us Post)) (λ i. mut_Tells (named 0) κ Hp a.0 vss.0 are.0 i ++ (eh i ++ (told i ++ (uint_Tells w64 index vss.1.1.1.0 are.1.1.1.0 i ++ [])))) refl $
    enter ! _ _ _ _ _ $ alloc_all ! (λ l. pass_all ! refl ((tt, tt), (fits, (((LL.lawful 𝓛).typed at (lowers.lowered at ∷ []) (subst (λ (us : List Val). Is Ad at us) told are.1.1.0)).0, ((tt, record { fits = are.1.1.1.0.1 }), tt)))) $
    fsplit3 ! $ move ! (1 ∷ 2 ∷ 3 ∷ []) $ opens ! tt Hp rb ro (λ us. move ! (1 ∷ []) $ fsplit ! $ move ! (1 ∷ []) $
    rewrite ! 0 (λ (cs : List Cell). ‵ (cells_own handle cs)) (cut-here h.cells index (at, x) asked.1) refl $ use1 𝓛 (‵ (cell_own handle (at, x)) ⊛ ‵ (cells_own handle (xs ++ ys))) (cells_cut 𝓛 xs (at, x) ys) $ split ! $
    in_a_block ! at.at (λ p. box_owns (ghosts.dealloc_token handle) R p x) (fst∗ 𝓤 (never 𝓤) (sem 𝓛 (ghosts.dealloc_token handle (mir.Raw.raw (lone R.mir)) null_ptr))) (λ b o e.
    take_at ! 3 $ rewrite ! 0 (λ (p : Ptr). ‵ (fat full_share (lone Ad.mir) (l 3) 0 (vstruct (vcons (ptr_val p) vnil)))) e refl $ give_at ! 3 $
    -- [the cell; the other slabs; what the fields own; the heap's cell; the open borrow, in three entries; self's first part; the handle]
    sets ! (agg ! (and_then ! (get_in ! (fld ! refl (stop !)) (sub ! 0 refl (whole !))) (and_then ! (get ! refl) (no_more !)))) refl (loose_good R Z LZ ghosts b o hv fits) $
    move ! (0 ∷ 8 ∷ []) $ loose_in R Z LZ ghosts ! b o hv alloc x $
    let new : Hp.Denot = record { mark = h.mark; alloc = h.alloc; cells = xs ++ ys } in
    move ! (2 ∷ 1 ∷ []) $ fjoin ! $ move ! (2 ∷ 0 ∷ 3 ∷ 4 ∷ 5 ∷ []) $ closes ! tt Hp new us rb ro $
    returns ! (look_at ! 0 refl) $ free_all ! refl $ keep ! (4 ∷ 0 ∷ 1 ∷ 2 ∷ 3 ∷ []) $
    let v : Val = both (vptr b o) hv in
    suffices ! _ (ends_at 𝓛 f.ended stayed c z v (record { at = block_ptr b o; alloc = alloc; value = x }) (new, (tt, (tt, (tt, tt)))) (tt, (tt, (tt, (tt, tt))))) $
    says_both ! refl asked.1 $
    group ! 3 $ nothing ! $ nothing ! $ fjoin ! $ nothing ! $ fjoin ! $ nothing ! $ fjoin ! $ move ! (1 ∷ 0 ∷ []) $ join ! $ nothing ! $ move ! (2 ∷ 0 ∷ []) $ join ! $ frame ! $ frame ! $ done !))))))
