use Rattle.loc_spec_index.specs.Content.{root_of}
use Rattle.loc_verify.specs.Readings.{AreReached}
use Rattle.loc_verify.proofs.levels.has_path.Given as goal

abbrev pub invariant-loop-turn : goal.invariant-loop-turn
invariant-loop-turn l = AreReached l.held.content.nodes l.version (root_of l.held.content l.version) l._turn l.level.items
