use Rattle.std.proofs.Common.{◌≡◌, ◌-◌, ◌≤◌, ◌++◌, [], length, replicate, ◌∙◌, ap, sym, arith}
use Rattle.std.proofs.lemmas.List.{take_all}
use Rattle.std.specs.Prelude.{is_ok, if◌then◌else◌}
use Rattle.std.specs.Vec.{vec_len}
use Rattle.loc_edges.specs.RowLists.{AreStarts, rows_of}
use Rattle.loc_edges.proofs.RowLists.{length-rows_of, on_ok, is_changed, in_both, are_starts-started, rows-started}
use Rattle.loc_edges.proofs.rows.Rows.start.Goals as goal
use Rattle.loc_edges.proofs.rows.Rows.start.Goals.{After-resize}

-- the starts of the new rows
more : (g : _) (c : After-resize g) → c.resize.new.self.items ≡ (if is_ok c.resize.result then c.self.inside.starts.items ++ replicate (c.args.count - length c.args.self.now) (length c.self.inside.items.items) else c.self.inside.starts.items)
more g c =
    let starts = c.self.inside.starts.items in
    let many : length c.self.inside.starts.items ≡ length c.args.self.now = sym (length-rows_of c.self.inside.items.items c.self.inside.starts.items) ∙ ap length c.self.view_is in
    let fits : length c.self.inside.starts.items ≤ c.args.count = omega (arith, c.requires, many) in
    let count : vec_len c.self.inside.starts ≡ length c.args.self.now = omega (arith, many) in
    let size : c.len.result ≡ length c.self.inside.items.items = omega (arith, c.len.ensures) in
    c.resize.ensures.items
    ∙ ap (λ ns. if is_ok c.resize.result then ns else starts) (ap (λ xs. xs ++ replicate (c.args.count - vec_len c.self.inside.starts) c.len.result) (take_all c.args.count starts fits)
    ∙ (ap (λ n. starts ++ replicate (c.args.count - n) c.len.result) count
    ∙ ap (λ n. starts ++ replicate (c.args.count - length c.args.self.now) n) size))

pub invariant_of-self : goal.invariant_of-self
invariant_of-self g c =
    let items = c.self.inside.items.items in
    let starts = c.self.inside.starts.items in
    let count = c.args.count - length c.args.self.now in
    in_both (AreStarts items) c.resize.result c.resize.new.self.items (starts ++ replicate count (length items)) starts (more g c) (are_starts-started items starts count c.self.invariant) c.self.invariant

pub returns : goal.returns
returns g c =
    let items = c.self.inside.items.items in
    let starts = c.self.inside.starts.items in
    let count = c.args.count - length c.args.self.now in
    on_ok c.resize.result (λ is. ap (rows_of items) is ∙ (rows-started items starts count ∙ ap (λ rows. rows ++ replicate count []) c.self.view_is)) (is_changed c.resize.result c.resize.new.self.items (starts ++ replicate count (length items)) starts (more g c))
