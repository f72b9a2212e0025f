use Rattle.std.proofs.Common.{◌∙◌, rules, sym}
use Rattle.loc_words.specs.Words.{command_of}
use Rattle.loc_words.proofs.Named.{no_words, first_named, refused_none}
use Rattle.loc_words.proofs.command.command_of.Goals as goal

pub returns-in_default-clause-refused : goal.returns-in_default-clause-refused
returns-in_default-clause-refused c = λ _. no_words c.args.words.now c.in_default.ensures.cases

pub returns-clause-ok : goal.returns-clause-ok
unfolding command_of
returns-clause-ok c = search rules

pub returns-clause-refused : goal.returns-clause-refused
returns-clause-refused c =
    let named = first_named c.args.words.now c.in-Some.rest.now c.in-Some.name.now c.deref.result.now c.in-Some.ensures.cases.0 c.deref.ensures in
    refused_none c.ok_or.result c.in_ok-command_named.field-0 _ c.ok_or.ensures.value (named ∙ sym c.in_ok-command_named.ensures.value)
