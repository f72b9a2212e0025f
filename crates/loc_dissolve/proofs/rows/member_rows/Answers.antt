use Rattle.std.proofs.Common.{◌≡◌, [], ◌∷◌, ◌++◌, length, get_or, sym, ◌∙◌, ap, subst, inl, inr, arith, length-append}
use Rattle.std.proofs.{Math.Seq.get_or-append_seam, lemmas.Bool.cases_eq, lemmas.List.get_or_append_left}
use Rattle.std.proofs.lemmas.Option.{get_or_from_slice_get}
use Rattle.loc_dissolve.specs.Grouping.{IsGroupRow}
use Rattle.loc_dissolve.proofs.rows.member_rows.Goals as goal

pub loop-n-preserved : goal.loop-n-preserved
loop-n-preserved c =
    let rows = c.loop-n.rows in
    let row = c.put_groups.new.row.items in
    let n = c.loop-n.n in
    let groups = c.args.groups.now in
    let is : c.push.new.self ≡ c.loop-n.rows ++ c.put_groups.new.row.items ∷ [] = c.in_ok-push.ensures ∙ ap (λ r. c.loop-n.rows ++ r ∷ []) c.deref.ensures.value in
    let many = c.loop-n.invariant.as_many in
    record {
      as_many = ap length is ∙ omega (arith, length-append rows (row ∷ []), many);
      each = λ k lt. elim (cases_eq k n) [
        | inl same ↦ subst (λ fs. IsGroupRow groups fs (get_or c.push.new.self k [])) (sym (get_or_from_slice_get c.args.legend.now.lists n c.cover.result.now [] c.cover.ensures) ∙ ap (λ m. get_or c.args.legend.now.lists m []) (sym same))
            (subst (λ r. IsGroupRow groups c.cover.result.now r) (sym (ap (λ l. get_or l k []) is ∙ ap (λ m. get_or (rows ++ row ∷ []) m []) (let place : k ≡ length c.loop-n.rows = omega (arith, same, many) in place) ∙ get_or-append_seam rows row [] [])) c.in_ok-put_groups.ensures)
        | inr other ↦ subst (λ r. IsGroupRow groups (get_or c.args.legend.now.lists k []) r) (sym (ap (λ l. get_or l k []) is ∙ get_or_append_left rows (row ∷ []) [] k (omega (arith, lt, other, many)))) (c.loop-n.invariant.each k (omega (arith, lt, other)))
      ];
    }
