use Rattle.std.proofs.Common.{◌≡◌, ◌+◌, ◌-◌, ◌++◌, [], length, replicate, sym, ◌∙◌, ap, arith}
use Rattle.loc_edges.proofs.RowLists.{length-rows_of, on_ok, rows_put}
use Rattle.loc_edges.proofs.rows.Rows.push.Goals as goal

pub start-requires : goal.start-requires
start-requires g c =
    let many = sym (length-rows_of c.self.inside.items.items c.self.inside.starts.items) ∙ ap length c.self.view_is in
    omega (arith, many)

pub returns : goal.returns
returns g c =
    let many = sym (length-rows_of c.self.inside.items.items c.self.inside.starts.items) ∙ ap length c.self.view_is in
    let one : (c.len-count.result + 1) - length c.args.self.now ≡ 1 = omega (arith, many, c.len-count.ensures) in
    on_ok c.extend.result (rows_put c.args.self.now c.start.new.self c.extend.new.self c.args.row.now (c.in_ok-start.ensures ∙ ap (λ k. c.args.self.now ++ replicate k []) one)) c.extend.ensures
