-- The command of `clap` that is made rule by rule.
use Rattle.std.proofs.Common.{◌≡◌, ◌+◌, ◌<◌, ℕ, List, [], ◌∷◌, map, take, length, get_or, sym, ◌∙◌, ap, append_assoc}
use Rattle.std.proofs.lemmas.List.{map-append, take_more}
use Rattle.clap.specs.{Walk.Rule, Simple.App, Simple.on_top, Simple.with_rule}
use Rattle.loc_words.specs.Apps.{with_rules}

-- one rule more
pub one_rule : {X : Type 0} (rule : X → Rule) (base now after : App) (xs : List X) (i : ℕ) (d : X) → i < length xs → now ≡ with_rules base (map rule (take i xs)) → after ≡ with_rule now (rule (get_or xs i d))
    → after ≡ with_rules base (map rule (take (i + 1) xs))
one_rule rule base now after xs i d h now_is after_is =
    after_is ∙ ap (λ a. with_rule a (rule (get_or xs i d))) now_is ∙ ap (λ l. on_top (λ s. record s { rules = l }) base) (append_assoc base.top.rules (map rule (take i xs)) (rule (get_or xs i d) ∷ []))
    ∙ ap (with_rules base) (sym (ap (map rule) (take_more xs i d h) ∙ map-append rule (take i xs) (get_or xs i d ∷ [])))
