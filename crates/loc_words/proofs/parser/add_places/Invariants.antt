use Rattle.std.proofs.Common.{◌≡◌, map, take}
use Rattle.clap.specs.Words.{app_of}
use Rattle.loc_words.specs.Apps.{place_rule, with_rules}
use Rattle.loc_words.proofs.parser.add_places.Given as goal

abbrev pub invariant-loop-place : goal.invariant-loop-place
invariant-loop-place l = app_of l.command ≡ with_rules (app_of l.initial.command) (map (λ place. place_rule place.now) (take l.place-index l.places))
