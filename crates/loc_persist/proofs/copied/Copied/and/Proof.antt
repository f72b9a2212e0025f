-- `and` makes the struct of no bytes anew, with the links that its clause names. Assumes `Logic`.
use Rattle.loc_persist.proofs.Steps.{[], ◌∷◌, refl, proved, ftrue, flft, named, ‵, ◌⊛◌, ◌$◌, ◌∵◌, !, qed, done, move, keep, use0, split, fjoin, suffices, enter, no_more, and_then, returns, agg, alloc_all, pass_all, free_all, look_at, get, sets, types_at, nothing, Stays, walk_of, says, stay_dropped, Goes-dropped, ends_at}
use denote.RattleType.{owns, Valss}
use denote.Ref.{shr_vals, shr_Tells}
use Rattle.loc_persist.specs.contracts.copied.Copied as C
use Rattle.loc_persist.specs.contracts.copied.Copied.and as f
use Rattle.loc_persist.proofs.{copied.Copied.and.Statement.statement, Marks.Mark, Marks.mark, Marks.mark_made}
use Rattle.loc_persist.proofs.copied.Copied.and.Code as code
use Rattle.loc_pool.proofs.Link.TheLaws.{lowers, the_row_laws as LL}
use Rattle.loc_pool.proofs.Memory.{slot_at}

abbrev stayed : Stays f.ended.signature.params f.ended.kept
stayed = (stay_dropped _ _, (stay_dropped _ _, tt))

pub and_spec : {M : Type 1} → statement M
and_spec 𝓤 𝓛 𝓜 𝓡 wired =
    let Ps = f.ended.signature.params in let c = f.clauses 𝓛 𝓜.mem 𝓡.returns in let W = walk_of 𝓛 f.ended stayed c in
    proved 𝓛 f.ended stayed c 𝓜 𝓡 (Goes-dropped 𝓛 1 (slot_at 0 Ps) f.ended.kept.0 (λ κs x w. refl), (Goes-dropped 𝓛 1 (slot_at 1 Ps) f.ended.kept.1.0 (λ κs x w. refl), tt)) f.Key.name code.function (code.unfolded 𝓤 𝓛.H 𝓜 𝓡 wired)
    (λ κs. (shr_vals, ((λ d. lowers.lowered d ∷ []), tt))) (λ κs. (shr_Tells (named 0) κs.0 C.the_row, (lowers.val_is, tt))) (λ κs qs bounds a g are.
    let κ = κs.0 in let q = qs.0 in let link = a.1.0 in
    let vss : Valss (types_at f.ended.signature.params κs) = (shr_vals a.0, (lowers.lowered link ∷ [], tt)) in
    let y : W.Ghost = ((κs, qs, bounds, a, vss), g) in
    let out : (C.the_row).Denot = record { mark = record {}; links = link ∷ a.0.now.links } in
    qed 𝓛 (((‵ (flft κ q) ⊛ ‵ ftrue) ⊛ ‵ (owns (types_at f.ended.signature.params κs) a vss)) ∷ ‵ ftrue ∷ []) ∵
    split ! $ keep ! (0 ∷ []) $
    enter ! _ _ _ _ _ $ alloc_all ! (λ l. pass_all ! refl ((tt, tt), (((LL.lawful 𝓛).typed link _ are.1.0).0, tt)) $
    sets ! (agg ! (no_more !)) refl (tt, tt) $ sets ! (agg ! (and_then ! (get ! refl) (no_more !))) refl (tt, (tt, tt)) $
    returns ! (look_at ! 0 refl) $ free_all ! refl $
    suffices ! _ (ends_at 𝓛 f.ended stayed c y mark out (tt, (tt, tt)) (tt, (tt, tt))) $ says ! refl $
    nothing ! $ use0 𝓛 (‵ (Mark.own_val (tt, tt) (mark ∷ []))) (mark_made 𝓛) $ fjoin ! $ nothing ! $ nothing ! $ fjoin ! $ nothing ! $ fjoin ! $ move ! (2 ∷ 0 ∷ 1 ∷ []) $ done !))
