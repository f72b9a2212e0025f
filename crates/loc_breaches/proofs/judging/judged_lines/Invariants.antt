use Rattle.std.proofs.Common.{◌≡◌, None, take}
use Rattle.loc_breaches.specs.BreachCourses.{AreLines, first_refusal}
use Rattle.loc_breaches.proofs.judging.judged_lines.Given as goal

-- the features before have their lines, and none of them is refused
abbrev pub invariant-loop-feature : goal.invariant-loop-feature
invariant-loop-feature l = AreLines l.scale (take l.feature-index l.feature-items) l.text.items × (first_refusal (take l.feature-index l.feature-items) ≡ None)
