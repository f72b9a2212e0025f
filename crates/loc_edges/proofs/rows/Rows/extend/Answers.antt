use Rattle.std.proofs.Common.{◌≡◌, ◌+◌, ◌-◌, ◌++◌, [], length, get_or, set, ◌∙◌, ap, arith}
use Rattle.loc_edges.specs.RowLists.{AreStarts, rows_of}
use Rattle.loc_edges.proofs.RowLists.{length-rows_of, on_ok, is_changed, in_both, are_starts-extended, rows-extended}
use Rattle.loc_edges.proofs.rows.Rows.extend.Goals as goal

pub invariant_of-self : goal.invariant_of-self
invariant_of-self g c =
    let items = c.self.inside.items.items in
    let starts = c.self.inside.starts.items in
    in_both (λ xs. AreStarts xs starts) c.extend_from_slice.result c.extend_from_slice.new.self.items (items ++ c.args.more.now) items c.extend_from_slice.ensures.items (are_starts-extended items starts c.args.more.now c.self.invariant) c.self.invariant

pub returns : goal.returns
returns g c =
    let items = c.self.inside.items.items in
    let starts = c.self.inside.starts.items in
    let more = c.args.more.now in
    let last : (length c.args.self.now - 1) + 1 ≡ length c.self.inside.starts.items = omega (arith, c.requires, length-rows_of items starts, ap length c.self.view_is) in
    let grown = rows-extended items starts more c.self.invariant (length c.args.self.now - 1) last ∙ ap (λ rows. set rows (length c.args.self.now - 1) (get_or rows (length c.args.self.now - 1) [] ++ more)) c.self.view_is in
    on_ok c.extend_from_slice.result (λ is. ap (λ xs. rows_of xs starts) is ∙ grown) (is_changed c.extend_from_slice.result c.extend_from_slice.new.self.items (items ++ more) items c.extend_from_slice.ensures.items)
