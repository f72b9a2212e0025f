use Rattle.std.proofs.Common.{sym, ◌∙◌, subst, Result, Ok, Err}
use Rattle.std.specs.{Prelude.IfErr, Result.IsErrAnd}
use Rattle.loc_cover.specs.Legends.{IsRefused}
use Rattle.loc_cover.proofs.Numbering.{numbered_more, refused_is}
use Rattle.loc_cover.proofs.covers.number_edge.Goals as goal

-- what is so of the value in an `Err` is so where there is one
shown : {A E : Type 0} (P Q : E → Type 0) (r : Result A E) → ((e : E) → P e → Q e) → IsErrAnd r P → IfErr r Q
shown P Q (Ok a) f h = tt
shown P Q (Err e) f h = f e h

pub returns-in_err-number-clause-refused : goal.returns-in_err-number-clause-refused
returns-in_err-number-clause-refused c = shown _ (IsRefused c.args.table.now) c.from_residual-in_err-number.result
    (λ fault is. subst (IsRefused c.args.table.now) (sym is) (refused_is c.args.table.now c.args.store.now c.args.numbers.now.items c.args.edge c.as_slice.result.now c.in_err-number.field-0.0 c.requires.stands c.requires.numbered c.requires.in_range (c.as_slice.ensures.value ∙ c.in_ok-list_above.ensures) c.in_err-number.ensures.refused))
    c.from_residual-in_err-number.ensures.1

pub returns-clause-numbered : goal.returns-clause-numbered
returns-clause-numbered c = numbered_more c.args.table.now c.args.store.now.rows c.args.numbers.now.items c.requires.numbered c.args.edge c.requires.in_range c.as_slice.result.now (c.as_slice.ensures.value ∙ c.in_ok-list_above.ensures) c.number_of.new.self.rows c.in_ok-number.number c.in_ok-number.ensures.kept c.in_ok-number.ensures.within c.in_ok-number.ensures.found
