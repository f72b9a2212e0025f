use Rattle.std.proofs.Common.{◌∙◌, ap}
use Rattle.clap.specs.Words.{app_of, with_rule}
use Rattle.loc_words.specs.{Apps.option_rule, Words.option_of}
use Rattle.loc_words.proofs.Made.{one_rule}
use Rattle.loc_words.proofs.parser.add_options.Goals as goal

pub loop-option-preserved : goal.loop-option-preserved
loop-option-preserved c =
    one_rule (λ option. option_rule (option_of option)) (app_of c.args.command) (app_of c.loop-option.command) (app_of c.in_ok-command.command) c.args.options.now c.loop-option.option-index _ c.loop-option-test.true
    c.loop-option.invariant (c.in_ok-command.ensures.shape c.option_arg.ensures.local ∙ ap (with_rule (app_of c.loop-option.command)) c.option_arg.ensures.rule)
