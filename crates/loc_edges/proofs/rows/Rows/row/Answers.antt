use Rattle.std.proofs.Common.{◌≡◌, ◌+◌, ◌-◌, ◌<◌, Some, length, take, drop, sym, ◌∙◌, ap, arith}
use Rattle.std.specs.List.{slice_get}
use Rattle.loc_edges.specs.RowLists.{start_of}
use Rattle.loc_edges.proofs.RowLists.{length-rows_of, slice_get-rows_of}
use Rattle.loc_edges.proofs.rows.Rows.row.Goals as goal

pub overflow_add-n : goal.overflow_add-n
overflow_add-n g c = omega (arith, c.requires, length-rows_of c.self.inside.items.items c.self.inside.starts.items, ap length c.self.view_is, ap length c.deref-2.ensures.value, c.deref-2.type_inv.1)

pub returns : goal.returns
returns g c =
    let items = c.self.inside.items.items in
    let starts = c.self.inside.starts.items in
    let n = c.args.n in
    let fits : c.args.n < length c.self.inside.starts.items = omega (arith, c.requires, length-rows_of items starts, ap length c.self.view_is) in
    let start : c.start_at-start.result ≡ start_of c.self.inside.items.items c.self.inside.starts.items c.args.n = c.start_at-start.ensures ∙ (ap (λ xs. start_of xs c.deref-2.result.now n) c.deref.ensures.value ∙ ap (λ ns. start_of items ns n) c.deref-2.ensures.value) in
    let end : c.start_at-end.result ≡ start_of c.self.inside.items.items c.self.inside.starts.items (c.args.n + 1) = c.start_at-end.ensures ∙ (ap (λ xs. start_of xs c.deref-4.result.now (n + 1)) c.deref-3.ensures.value ∙ ap (λ ns. start_of items ns (n + 1)) c.deref-4.ensures.value) in
    ap (λ rows. slice_get rows n) (sym c.self.view_is)
    ∙ (slice_get-rows_of items starts n fits
    ∙ (ap (λ i. Some (take (start_of items starts (n + 1) - i) (drop i items))) (sym start)
    ∙ (ap (λ i. Some (take (i - c.start_at-start.result) (drop c.start_at-start.result items))) (sym end)
    ∙ ap (λ xs. Some (take (c.start_at-end.result - c.start_at-start.result) (drop c.start_at-start.result xs))) (sym c.deref-5.ensures.value))))
