use Rattle.std.proofs.Common.{◌≡◌, map, take}
use Rattle.clap.specs.Words.{app_of}
use Rattle.loc_words.specs.{Apps.option_rule, Apps.with_rules, Words.option_of}
use Rattle.loc_words.proofs.parser.add_options.Given as goal

abbrev pub invariant-loop-option : goal.invariant-loop-option
invariant-loop-option l = app_of l.command ≡ with_rules (app_of l.initial.command) (map (λ option. option_rule (option_of option)) (take l.option-index l.options))
