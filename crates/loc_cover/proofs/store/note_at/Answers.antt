use Rattle.std.proofs.Common.{◌≡◌, ◌+◌, ◌-◌, ◌<◌, ◌++◌, length, replicate, take, Vec, Global, ℕ, Option, Some, None, sym, ◌∙◌, ap, subst, arith, get_or, get_or-set_same, get_or-set_other}
use Rattle.std.specs.Vec.{vec_len}
use Rattle.loc_cover.proofs.ShortLists.{none_more}
use Rattle.loc_cover.proofs.store.note_at.Goals.{then-place-len+in_ok-resize, else-place-len}
use Rattle.loc_cover.proofs.store.note_at.Goals as goal

pub index_mut-requires : goal.index_mut-requires
index_mut-requires c = elim c.if-place-len.branch [
  | then-place-len+in_ok-resize w ↦ subst (λ (numbers : Vec (Option ℕ) Global). c.args.place < vec_len numbers) (sym w.numbers-is) (omega (arith, w.in_ok-resize.ensures.len))
  | else-place-len w ↦ subst (λ (numbers : Vec (Option ℕ) Global). c.args.place < vec_len numbers) (sym w.numbers-is) (omega (arith, c.len.ensures, w.if-place-len.false))
]

pub returns-clause-here : goal.returns-clause-here
returns-clause-here c =
    let fits : c.args.place < length c.if-place-len.numbers.items = elim c.if-place-len.branch [
      | then-place-len+in_ok-resize w ↦ subst (λ (numbers : Vec (Option ℕ) Global). c.args.place < length numbers.items) (sym w.numbers-is) (omega (arith, w.in_ok-resize.ensures.len, w.resize.new.self.ok.0))
      | else-place-len w ↦ subst (λ (numbers : Vec (Option ℕ) Global). c.args.place < length numbers.items) (sym w.numbers-is) (omega (arith, c.len.ensures, c.args.numbers.now.ok.0, w.if-place-len.false))
    ] in
    get_or-set_same c.if-place-len.numbers.items c.args.place (Some c.args.number) None fits

pub returns-clause-others : goal.returns-clause-others
returns-clause-others c = λ k other. get_or-set_other c.if-place-len.numbers.items c.args.place k (Some c.args.number) None other ∙ elim c.if-place-len.branch [
  | then-place-len+in_ok-resize w ↦ ap (λ (numbers : Vec (Option ℕ) Global). get_or numbers.items k None) w.numbers-is ∙ none_more c.args.numbers.now.items w.resize.new.self.items (c.args.place + 1) k (omega (arith, c.len.ensures, c.args.numbers.now.ok.0, w.if-place-len.true)) (subst (λ n. w.resize.new.self.items ≡ take (c.args.place + 1) c.args.numbers.now.items ++ replicate (c.args.place + 1 - n) None) c.args.numbers.now.ok.0 w.in_ok-resize.ensures.items)
  | else-place-len w ↦ ap (λ (numbers : Vec (Option ℕ) Global). get_or numbers.items k None) w.numbers-is
]

pub returns-clause-err : goal.returns-clause-err
returns-clause-err c = tt
