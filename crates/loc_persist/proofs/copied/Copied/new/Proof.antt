-- `new` owns nothing. Assumes `Logic`.
use Rattle.loc_persist.proofs.Steps.{[], ◌∷◌, refl, proved, ftrue, ‵, raw, ◌$◌, ◌∵◌, !, qed, done, drop, use0, fjoin, suffices, enter, no_more, and_then, returns, agg, alloc_all, pass_all, free_all, look_at, get, sets, nothing, on_entry, Stays, walk_of, says, ends_at}
use Rattle.loc_persist.specs.contracts.copied.Copied as C
use Rattle.loc_persist.specs.contracts.copied.Copied.new as f
use Rattle.loc_persist.proofs.{copied.Copied.new.Statement.statement, Marks.Mark, Marks.mark, Marks.mark_made}
use Rattle.loc_persist.proofs.copied.Copied.new.Code as code

abbrev stayed : Stays f.ended.signature.params f.ended.kept
stayed = tt

pub new_spec : {M : Type 1} → statement M
new_spec 𝓤 𝓛 𝓜 𝓡 wired =
    let c = f.clauses 𝓛 𝓜.mem 𝓡.returns in let W = walk_of 𝓛 f.ended stayed c in
    proved 𝓛 f.ended stayed c 𝓜 𝓡 tt f.Key.name code.function (code.unfolded 𝓤 𝓛.H 𝓜 𝓡 wired) (λ κs. tt) (λ κs. tt) (λ κs qs bounds a g are.
    let y : W.Ghost = ((κs, qs, bounds, a, tt), g) in
    let out : (C.the_row).Denot = record { mark = record {}; links = [] } in
    qed 𝓛 (raw (on_entry 𝓛 f.signature κs qs a tt) ∷ ‵ ftrue ∷ []) ∵ drop ! $ drop ! $
    enter ! _ _ _ _ _ $ alloc_all ! (λ l. pass_all ! refl tt $
    sets ! (agg ! (no_more !)) refl (tt, tt) $ sets ! (agg ! (and_then ! (get ! refl) (no_more !))) refl (tt, (tt, tt)) $
    returns ! (look_at ! 0 refl) $ free_all ! refl $
    suffices ! _ (ends_at 𝓛 f.ended stayed c y mark out tt tt) $ says ! refl $
    nothing ! $ use0 𝓛 (‵ (Mark.own_val (tt, tt) (mark ∷ []))) (mark_made 𝓛) $ fjoin ! $ nothing ! $ nothing ! $ done !))
