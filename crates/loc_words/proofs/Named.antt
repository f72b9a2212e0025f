-- The first word names the command.
use Rattle.std.proofs.Common.{◌≡◌, ◌∙◌, List, [], ◌∷◌, map, length, Option, Some, None, String, string_bytes, option_map, ok_or, Result, Ok, Err, IfErr, refl, sym, ap, arith}
use Rattle.loc_spec_text.specs.Bytes.{Text}
use Rattle.loc_words.specs.Words.{Asked, asked_by, command_of, commands, named_in}
use Rattle.loc_words.specs.{declared.command.Command.Command, declared.fault.WordsFault.WordsFault}
use Rattle.loc_words.specs.declared.fault.WordsFault.TheVariants.{Refused}

pub no_words : {Z : Type 0} (words : List (String Z)) → length words ≡ 0 → command_of (map string_bytes words) ≡ None
unfolding command_of
no_words [] none = refl
no_words (w ∷ words) none = absurd (omega (arith, none))

pub first_named : {Z : Type 0} (words rest : List (String Z)) (first : String Z) (name : Text) → words ≡ first ∷ rest → name ≡ string_bytes first → command_of (map string_bytes words) ≡ named_in commands name (map string_bytes rest)
unfolding command_of
first_named words rest first name is named = ap (λ (l : List (String _)). command_of (map string_bytes l)) is ∙ ap (λ t. named_in commands t (map string_bytes rest)) (sym named)

-- nothing is refused that is a command
pub refused_none : (answer : Result Command WordsFault) (found : Option Command) (defined : Option Asked) → answer ≡ ok_or found Refused → defined ≡ option_map asked_by found → IfErr answer (λ e. e ≡ Refused → defined ≡ None)
refused_none (Ok command) found defined e is = tt
refused_none (Err fault) None defined e is = λ _. is
refused_none (Err fault) (Some command) defined e is = absurd (cc e)
