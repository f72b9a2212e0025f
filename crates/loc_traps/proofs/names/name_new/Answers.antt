use Rattle.std.proofs.Common.{◌≡◌, ℕ, ◌-◌, ◌≤◌, ◌++◌, List, length, take, replicate, sym, refl, ◌∙◌, ap, subst, arith}
use Rattle.std.specs.Prelude.{Option, None, if◌then◌else◌, is_ok, vec_len, Bool}
use Rattle.loc_laws_traps.specs.Maps.{Renames}
use Rattle.loc_traps.specs.{Meaning.row_of, Meaning.named_of, Names.is_kind}
use Rattle.loc_traps.proofs.Burying.{grown, written_back, renames_from}
use Rattle.loc_traps.proofs.names.name_new.Goals as goal

-- a list that has grown and is lent has the names that it had
same_names : (old names lent resized : List (Option ℕ)) (ok : Bool) (n many : ℕ) → lent ≡ resized → resized ≡ (if ok then take n names ++ replicate (n - many) None else names) → many ≡ length names → many ≤ n → names ≡ old → (d : ℕ) → named_of lent d ≡ named_of old d
same_names old names lent resized ok n many is_lent is_resized is_many le same d =
    ap (λ (xs : List (Option ℕ)). named_of xs d) is_lent ∙ (ap (λ (xs : List (Option ℕ)). named_of xs d) is_resized ∙ (grown ok names n many is_many le d ∙ ap (λ (xs : List (Option ℕ)). named_of xs d) same))

pub returns : goal.returns
returns c =
    let rows = c.args.rows.now in
    let old = c.args.names.now.items in
    let lent = c.deref_mut.result.now in
    let names = c.rename.new.names in
    let kind = is_kind c.args.kind c.args.ranks.now in
    subst (λ (ns : List (Option ℕ)). Renames c.args.from (length rows) (row_of rows) kind (named_of old) (named_of ns)) (sym (written_back c.resize.new.self.len names c.resize.new.self.items (let a = c.rename.auto.names in let b = ap length c.deref_mut.ensures.value in omega arith)))
    (renames_from c.args.from (length rows) (row_of rows) kind (named_of old) (named_of lent) (named_of names)
    (same_names old old lent c.resize.new.self.items (is_ok c.resize.result) c.max-many.result (vec_len c.args.names.now) c.deref_mut.ensures.value c.resize.ensures.items (omega arith) (omega arith) refl) c.rename.ensures)
