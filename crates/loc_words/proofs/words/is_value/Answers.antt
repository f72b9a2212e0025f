use Rattle.std.proofs.Common.{◌≡◌, ◌==◌, ◌∙◌, [], ◌∷◌, not, ap, sym, slice_get, Some}
use Rattle.std.specs.Option.{option_copied}
use Rattle.loc_words.specs.Rows.{is_value}
use Rattle.loc_words.proofs.words.is_value.Goals as goal

pub returns-in-Some : goal.returns-in-Some
returns-in-Some c =
    let first : slice_get c.args.word.now 0 ≡ Some c.in-Some.first.now = sym (c.first.ensures.value ∙ ap (λ l. slice_get l 0) c.as_bytes.ensures.value) ∙ ap option_copied c.in-Some.is in
    (elim c.args.word.now as (λ word. slice_get word 0 ≡ Some c.in-Some.first.now → not (c.in-Some.first.now == 45) ≡ is_value word) [ [] ↦ λ is. cc | b ∷ rest ↦ λ is. cc ]) first
