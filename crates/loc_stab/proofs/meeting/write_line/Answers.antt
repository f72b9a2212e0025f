use Rattle.std.proofs.Common.{◌∙◌, ap, sym, subst, length, arith}
use Rattle.std.specs.List.{flat_map}
use Rattle.loc_place.specs.{declared.corners.Standing.Standing, declared.corners.Standing.TheVariants.Behind}
use Rattle.loc_place.specs.Standing.{IsStanding}
use Rattle.loc_spec_text.specs.Spans.{numbered}
use Rattle.loc_treeidx.proofs.Standing.{version_behind}
use Rattle.loc_stab.proofs.{Ranges.put_nothing, Standings.run_none, Standings.version_on}
use Rattle.loc_stab.proofs.meeting.write_line.Goals as goal

pub write_alive-requires-clause-alive : goal.write_alive-requires-clause-alive
write_alive-requires-clause-alive g c =
    version_on c.args.views.now c.args.low c.args.versions.now c.requires.stands c.in-OnCorner.corner (subst (λ (s : Standing). IsStanding c.args.views.now c.args.low s) c.in-OnCorner.is c.requires.standing)

pub returns-then-passed-eq0-clause-written : goal.returns-then-passed-eq0-clause-written
returns-then-passed-eq0-clause-written g c =
    put_nothing _ _ _ (ap (flat_map numbered) (run_none c.args.views.now c.args.low c.args.high c.requires.span c.args.versions.now c.requires.stands
    (subst (λ (s : Standing). IsStanding c.args.views.now c.args.low s) (c.in-Behind.is ∙ ap Behind c.if-passed-eq0.true) c.requires.standing)))

pub returns-then-passed-eq0-clause-count : goal.returns-then-passed-eq0-clause-count
returns-then-passed-eq0-clause-count g c =
    sym (ap length (run_none c.args.views.now c.args.low c.args.high c.requires.span c.args.versions.now c.requires.stands
    (subst (λ (s : Standing). IsStanding c.args.views.now c.args.low s) (c.in-Behind.is ∙ ap Behind c.if-passed-eq0.true) c.requires.standing)))

pub write_alive-requires-in-Behind-clause-alive : goal.write_alive-requires-in-Behind-clause-alive
write_alive-requires-in-Behind-clause-alive g c =
    version_behind c.args.views.now c.args.versions.now c.args.low c.in-Behind.passed c.requires.stands
    (subst (λ (s : Standing). IsStanding c.args.views.now c.args.low s) c.in-Behind.is c.requires.standing) (omega arith)
