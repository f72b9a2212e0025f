use Rattle.std.proofs.Common.{ℕ, ◌+◌, List, get_or, refl, subst, sym, ◌∙◌, arith}
use Rattle.std.specs.Prelude.{Result, Ok, Err, OnOk, IfErr}
use Rattle.loc_trapdag.specs.Orders.{Row, rows_from, line_number, IsFaultOf, order_from}
use Rattle.loc_trapdag.proofs.Readings.{IsRead, rows_next, rows_blank, read_more, twice, missing, whole_order, is_order}
use Rattle.loc_trapdag.proofs.reading.read_lines.Goals as goal

-- what follows on a success, and from a fault
on_ok : {A B P Q : Type 0} (r : Result A B) → (P → Q) → OnOk r P → OnOk r Q
on_ok (Ok x) f h = f h
on_ok (Err e) f h = tt

on_err : {A B : Type 0} {P Q : B → Type 0} (r : Result A B) → ((b : B) → P b → Q b) → IfErr r P → IfErr r Q
on_err (Ok x) f h = tt
on_err (Err e) f h = f e h

pub returns-then-earlier-ne0-clause-err : goal.returns-then-earlier-ne0-clause-err
returns-then-earlier-ne0-clause-err c =
    let edges = c.args.edges in
    let all = rows_from 1 c.args.text.now in
    let n = c.loop-line.number + 1 in
    let read = subst (λ (rest : List Row). IsRead edges all rest c.loop-line.line_of c.loop-line.order.items) (rows_next n c.loop-line.rest.now c.in-Some.line.now c.in-Some.more.now c.in-Some.ensures.found (sym c.is_blank.ensures ∙ c.if-not-is_blank.true)) c.loop-line.invariant.read in
    twice edges all c.loop-line.line_of c.loop-line.order.items (rows_from (n + 1) c.in-Some.more.now) n (line_number c.in-Some.line.now) read c.in_ok-edge.edge c.in_ok-edge.ensures.value c.in_ok-edge.ensures.in_range (get_or c.loop-line.line_of c.in_ok-edge.edge 0) refl c.if-earlier-ne0.true

pub loop-line-preserved-in_ok-put : goal.loop-line-preserved-in_ok-put
loop-line-preserved-in_ok-put c =
    let edges = c.args.edges in
    let all = rows_from 1 c.args.text.now in
    let n = c.loop-line.number + 1 in
    let read = subst (λ (rest : List Row). IsRead edges all rest c.loop-line.line_of c.loop-line.order.items) (rows_next n c.loop-line.rest.now c.in-Some.line.now c.in-Some.more.now c.in-Some.ensures.found (sym c.is_blank.ensures ∙ c.if-not-is_blank.true)) c.loop-line.invariant.read in
    let shorter = c.in-Some.ensures.shorter in
    let lines = c.loop-line.invariant.lines in
    record {
      read = read_more edges all c.loop-line.line_of c.loop-line.order.items (rows_from (n + 1) c.in-Some.more.now) n (line_number c.in-Some.line.now) read c.in_ok-edge.edge c.in_ok-edge.ensures.value c.in_ok-edge.ensures.in_range (omega arith) (sym c.if-earlier-ne0.false) c.put.new.order.items c.in_ok-put.ensures;
      lines = omega arith;
      small = c.requires.size;
    }

pub loop-line-preserved : goal.loop-line-preserved
loop-line-preserved c =
    let shorter = c.in-Some.ensures.shorter in
    let lines = c.loop-line.invariant.lines in
    record {
      read = subst (λ (rest : List Row). IsRead c.args.edges (rows_from 1 c.args.text.now) rest c.loop-line.line_of c.loop-line.order.items) (rows_blank (c.loop-line.number + 1) c.loop-line.rest.now c.in-Some.line.now c.in-Some.more.now c.in-Some.ensures.found (sym c.is_blank.ensures ∙ c.if-not-is_blank.false)) c.loop-line.invariant.read;
      lines = omega arith;
      small = c.requires.size;
    }

pub returns-clause-ok : goal.returns-clause-ok
returns-clause-ok c =
    let read = subst (λ (text : List ℕ). IsRead c.args.edges (rows_from 1 c.args.text.now) (rows_from (c.loop-line.number + 1) text) c.loop-line.line_of c.loop-line.order.items) c.in_default.ensures.found c.loop-line.invariant.read in
    on_ok c.find_missing.result (λ full. whole_order c.args.edges (rows_from 1 c.args.text.now) c.loop-line.line_of c.loop-line.order.items read full) c.find_missing.ensures.ok

pub returns-clause-permutation : goal.returns-clause-permutation
returns-clause-permutation c =
    let read = subst (λ (text : List ℕ). IsRead c.args.edges (rows_from 1 c.args.text.now) (rows_from (c.loop-line.number + 1) text) c.loop-line.line_of c.loop-line.order.items) c.in_default.ensures.found c.loop-line.invariant.read in
    on_ok c.find_missing.result (λ full. is_order c.args.edges (rows_from 1 c.args.text.now) c.loop-line.line_of c.loop-line.order.items read full) c.find_missing.ensures.ok

pub returns-clause-err : goal.returns-clause-err
returns-clause-err c =
    let all = rows_from 1 c.args.text.now in
    let read = subst (λ (text : List ℕ). IsRead c.args.edges (rows_from 1 c.args.text.now) (rows_from (c.loop-line.number + 1) text) c.loop-line.line_of c.loop-line.order.items) c.in_default.ensures.found c.loop-line.invariant.read in
    on_err c.find_missing.result (λ fault free. subst (IsFaultOf (order_from c.args.edges all)) (sym free.1) (missing c.args.edges all c.loop-line.line_of c.loop-line.order.items read free.0 free.2 free.3 free.4)) c.find_missing.ensures.err
