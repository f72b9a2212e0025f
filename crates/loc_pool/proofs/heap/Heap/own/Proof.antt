-- `own` takes a slab and the right to its block. Assumes `Logic`.
use Rattle.loc_pool.proofs.Steps.{List, [], ◌∷◌, refl, sym, ftrue, flft, tables, ‵, ◌⊛◌, prop, ◌$◌, ◌∵◌, !, qed, done, move, keep, drop, use2, split, join, fsplit, fsplit3, fjoin, rewrite, regoal, suffices, frame, group, enter, of_opd, stop, fld, no_more, and_then, returns, alloc_all, pass_all, free_all, look_at, get, sets, named, Ptr, block_ptr, mut_Tells, plain, nothing, opens, closes, Stays, walk_of, stay_ref, Goes-ref, stay_dropped, Goes-dropped, says, ends_at}
use mathlib.Core.List.{◌++◌}
use mir.Syntax.{w64}
use mir.Val.{Val, vptr, vstruct, vcons, vnil}
use base.Logic.{SProp}
use prog.Wp.{WpFn}
use types.Kit.{use0}
use types.Part.{agg, whole, sub}
use types.ByLocal.{get_in}
use denote.RattleType.{owns}
use denote.Signature.{types_at}
use Rattle.std.specs.Prelude.{take, drop as past}
use Rattle.std.proofs.{lemmas.List.take-append-drop, raw_atomic.Walks.proved_at}
use denote.Plain.{uint_Tells}
use Rattle.core.proofs.alloc.Calls.{Goes-blank}
use Rattle.std.specs.contracts.alloc.Global.{the_row as Z}
use Rattle.std.proofs.alloc.Global.TheLaws.{the_row_laws as LZ}
use Rattle.std.specs.contracts.impls.GlobalAllocator.TheImpl.{ghosts}
use Rattle.loc_pool.specs.{Cells.Cell, Ownership.cells_own}
use Rattle.loc_pool.specs.contracts.heap.Heap.{the_row as Hp}
use Rattle.loc_pool.specs.contracts.node.Slab.{the_row as R}
use Rattle.loc_pool.specs.contracts.heap.Address.{the_row as Ad}
use Rattle.loc_pool.specs.contracts.heap.Heap.own as f
use Rattle.loc_pool.proofs.{heap.Heap.own.Statement.statement, Values.loose_good, Values.loose_out}
use Rattle.loc_pool.proofs.heap.Heap.own.Code as code
use Rattle.loc_pool.proofs.Memory.{handle, slot_at, cells_glue, address_made}

abbrev stayed : Stays f.ended.signature.params f.ended.kept
stayed = (stay_ref (0 ∷ []) tt (plain (λ _. Hp)), (stay_dropped _ _, (stay_dropped _ _, tt)))

pub own_spec : {M : Type 1} → statement M
own_spec 𝓤 𝓛 𝓜 𝓡 wired =
    let Ps = f.ended.signature.params in let c = f.clauses 𝓛 𝓜.mem 𝓡.returns in let 𝓣 = tables 𝓤 𝓛.H 𝓜 𝓡 𝓡.env in
    proved_at 𝓛 f.ended stayed c 𝓜 𝓡 (Goes-ref 𝓛 1 0 tt (plain (λ _. Hp)), (Goes-blank 𝓛 1 (slot_at 1 Ps) f.ended.kept.1.0 (λ κs x f. tt), (Goes-dropped 𝓛 1 (slot_at 2 Ps) f.ended.kept.1.1.0 (λ κs x w. refl), tt)))
    f.Key.name code.function (code.unfolded 𝓤 𝓛.H 𝓜 𝓡 wired) (λ z are.
    let κs = z.0.0 in let κ = κs.0 in let q = z.0.1.0 in let a = z.0.3 in let vss = z.0.4 in let rb = a.0.ref_ptr.0 in let ro = a.0.ref_ptr.1 in let h = a.0.now in let slab = a.1.0 in let index = a.1.1.0 in let cells = h.cells in
    let Post : Val → SProp 𝓤 = (walk_of 𝓛 f.ended stayed c).post z in
    qed 𝓛 (((‵ (flft κ q) ⊛ ‵ ftrue) ⊛ ‵ (owns (types_at f.ended.signature.params κs) a vss)) ∷ ‵ ftrue ∷ []) ∵ move ! (1 ∷ []) $ drop ! $ split ! $ split ! $ move ! (2 ∷ []) $ fsplit ! $ move ! (1 ∷ []) $ fsplit ! $
    loose_out R Z LZ ghosts ! slab vss.1.0 (λ b o hv e ws fits. keep ! (3 ∷ 4 ∷ 0 ∷ []) $
    let p : Ptr = block_ptr b o in let at : Ad.Denot = record { at = p } in let x = slab.value in
    -- [self; the token; the new slab with its block]
    regoal ! (λ (us : List Val). prop (WpFn 𝓤 𝓛.H 𝓣.C 𝓣.Λ code.function us Post)) (λ i. mut_Tells (named 0) κ Hp a.0 vss.0 are.0 i ++ (ws i ++ (uint_Tells w64 index vss.1.1.0 are.1.1.0 i ++ []))) refl $
    enter ! _ _ _ _ _ $ alloc_all ! (λ l. pass_all ! refl ((tt, tt), (loose_good R Z LZ ghosts b o hv fits, ((tt, record { fits = are.1.1.0.1 }), tt))) $
    fsplit3 ! $ move ! (1 ∷ 2 ∷ 3 ∷ []) $ opens ! tt Hp rb ro (λ us. move ! (1 ∷ []) $ fsplit ! $ move ! (7 ∷ 1 ∷ []) $
    rewrite ! 1 (λ (cs : List Cell). ‵ (cells_own handle cs)) (sym (take-append-drop index cells)) refl $
    use2 𝓛 (‵ (cells_own handle (take index cells ++ (at, x) ∷ past index cells))) (cells_glue 𝓛 (take index cells) (at, x) (past index cells)) $
    sets ! (of_opd ! (get_in ! (fld ! refl (stop !)) (sub ! 0 refl (whole !)))) refl (tt, tt) $ sets ! (agg ! (and_then ! (get ! refl) (no_more !))) refl (tt, (tt, tt)) $
    let new : Hp.Denot = record { mark = h.mark; alloc = h.alloc; cells = take index cells ++ (at, x) ∷ past index cells } in
    move ! (1 ∷ []) $ fjoin ! $ move ! (1 ∷ []) $ closes ! tt Hp new us rb ro $
    returns ! (look_at ! 0 refl) $ free_all ! refl $ keep ! (3 ∷ 0 ∷ 1 ∷ 2 ∷ []) $
    let w : Val = vstruct (vcons (vptr b o) vnil) in
    suffices ! _ (ends_at 𝓛 f.ended stayed c z w at (new, (tt, (tt, tt))) (tt, (tt, (tt, tt)))) $
    says ! refl $
    group ! 3 $ nothing ! $ nothing ! $ fjoin ! $ nothing ! $ fjoin ! $ move ! (1 ∷ 0 ∷ []) $ join ! $ nothing ! $ move ! (2 ∷ 0 ∷ []) $ join ! $ frame ! $ frame ! $
    use0 𝓛 (‵ (Ad.own_val at (w ∷ []))) (address_made 𝓛 p) $ done !))))
