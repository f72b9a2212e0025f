use Rattle.std.proofs.Common.{◌∙◌, ap, true}
use Rattle.clap.specs.Words.{Rule, app_of, rule_of, with_rule}
use Rattle.clap.specs.declared.builder.arg.Arg.{Arg}
use Rattle.loc_words.specs.Apps.{place_rule}
use Rattle.loc_words.proofs.Made.{one_rule}
use Rattle.loc_words.proofs.parser.add_places.Goals as goal

pub loop-place-preserved : goal.loop-place-preserved
loop-place-preserved c =
    let rule = ap rule_of c.required.ensures ∙ ap (λ (r : Rule). record r { required = true }) c.new.ensures.rule in
    let local = ap (λ (a : Arg). a.global) c.required.ensures ∙ c.new.ensures.optional.1 in
    one_rule (λ place. place_rule place.now) (app_of c.args.command) (app_of c.loop-place.command) (app_of c.in_ok-command.command) c.args.places.now c.loop-place.place-index _ c.loop-place-test.true
    c.loop-place.invariant (c.in_ok-command.ensures.shape local ∙ ap (with_rule (app_of c.loop-place.command)) rule)
