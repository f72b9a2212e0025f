use Rattle.std.proofs.Common.{◌≡◌, ℕ, ◌+◌, ◌<◌, List, length, ap, ◌∙◌, sym, refl, subst, arith}
use Rattle.std.specs.Prelude.{Option, IfSome}
use Rattle.loc_laws_traps.specs.Maps.{Renames}
use Rattle.loc_traps.specs.{Meaning.row_of, Meaning.named_of, Names.is_kind, Names.starts_apart}
use Rattle.loc_traps.proofs.Naming.{renames_none, renames_more, renames_same, none_without_left, none_that_begins}
use Rattle.loc_traps.proofs.names.rename.Goals as goal
use Rattle.loc_traps.proofs.names.rename.Goals.{in-Some+then-begins_elsewhere, in-Some+else-begins_elsewhere, in_default}

pub new-init : goal.new-init
new-init c = record { same_length = refl; renames = renames_none c.args.ranks.now c.args.kind c.args.from 0 0 c.args.rows.now c.args.names.now }

pub new-preserved : goal.new-preserved
new-preserved c =
    let t = c.args.ranks.now in
    let rows = c.args.rows.now in
    let i = c.new.i in
    let many = length rows in
    let real = c.requires.in_range i c.new.auto.i c.new-test.true in
    let so_far = c.new.invariant.renames in
    let same_length = c.new.invariant.same_length in
    elim c.match-row.branch [
      | in-Some+then-begins_elsewhere w ↦ record {
        same_length = omega arith;
        renames = renames_more t c.args.kind c.args.from i many rows c.args.names.now c.new.names so_far w.in-Some.left c.new.auto.i c.new-test.true
            (let less : w.in-Some.left < length c.args.names.now = subst (λ (o : Option ℕ). IfSome o (λ n. n < length c.args.names.now)) w.in-Some.is real.left in omega arith) c.requires.one w.in-Some.is
            (ap (starts_apart t w.in-Some.left) (sym w.bound.ensures) ∙ (sym w.begins_elsewhere.ensures ∙ w.if-begins_elsewhere.true)) c.match-row.names w.names-is;
      }
      | in-Some+else-begins_elsewhere w ↦ record {
        same_length = omega arith;
        renames = subst (λ (names : List (Option ℕ)). Renames c.args.from (i + 1) (row_of rows) (is_kind c.args.kind t) (named_of c.args.names.now) (named_of names)) (sym w.names-is)
            (renames_same t c.args.kind c.args.from i many rows c.args.names.now c.new.names so_far (none_that_begins t c.args.kind c.args.from i many rows c.args.names.now c.new.names so_far w.in-Some.left w.in-Some.is
            (ap (starts_apart t w.in-Some.left) (sym w.bound.ensures) ∙ (sym w.begins_elsewhere.ensures ∙ w.if-begins_elsewhere.false))));
      }
      | in_default w ↦ record {
        same_length = omega arith;
        renames = subst (λ (names : List (Option ℕ)). Renames c.args.from (i + 1) (row_of rows) (is_kind c.args.kind t) (named_of c.args.names.now) (named_of names)) (sym w.names-is)
            (renames_same t c.args.kind c.args.from i many rows c.args.names.now c.new.names so_far (none_without_left t c.args.kind c.args.from i many rows c.args.names.now c.new.names so_far w.in_default.is));
      }
    ]

pub returns : goal.returns
returns c = let at : c.new.i ≡ length c.args.rows.now = (let w = c.requires.within in omega arith) in subst (λ n. Renames c.args.from n (row_of c.args.rows.now) (is_kind c.args.kind c.args.ranks.now) (named_of c.args.names.now) (named_of c.new.names)) at c.new.invariant.renames
