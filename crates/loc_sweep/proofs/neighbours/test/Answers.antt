use Rattle.std.proofs.Common.{◌≡◌, ◌∙◌, ap, subst, min, max}
use Rattle.loc_spec_plane.specs.Tables.{edge}
use Rattle.loc_geom.specs.{Answers.IsMeeting, declared.kinds.Meeting.TheVariants.Apart}
use Rattle.loc_sweep.proofs.Pairs.{apart_in_order, in_conflict, meeting_conflicts}
use Rattle.loc_sweep.proofs.neighbours.test.Goals as goal

pub returns-in-Apart-clause-apart : goal.returns-in-Apart-clause-apart
returns-in-Apart-clause-apart c =
    let t = c.args.table.now in
    let first : c.edge.result ≡ edge t (min c.args.first c.args.second) = c.edge.ensures ∙ ap (edge t) c.min-a.ensures in
    let second : c.edge-2.result ≡ edge t (max c.args.first c.args.second) = c.edge-2.ensures ∙ ap (edge t) c.max-b.ensures in
    apart_in_order t c.args.first c.args.second (subst (λ e. IsMeeting (edge t (min c.args.first c.args.second)) e Apart) second (subst (λ e. IsMeeting e c.edge-2.result Apart) first c.in-Apart.ensures))

pub returns-in_default : goal.returns-in_default
returns-in_default c =
    let t = c.args.table.now in
    let first : c.edge.result ≡ edge t (min c.args.first c.args.second) = c.edge.ensures ∙ ap (edge t) c.min-a.ensures in
    let second : c.edge-2.result ≡ edge t (max c.args.first c.args.second) = c.edge-2.ensures ∙ ap (edge t) c.max-b.ensures in
    let meets = subst (λ e. IsMeeting (edge t (min c.args.first c.args.second)) e c.conflict.result) second (subst (λ e. IsMeeting e c.edge-2.result c.conflict.result) first c.conflict.ensures) in
    record {
      apart = tt;
      shown = rw (c.min-a.ensures, c.max-b.ensures) (in_conflict t c.args.first c.args.second c.conflict.result c.requires.first_in_range c.requires.second_in_range
          (meeting_conflicts (edge t (min c.args.first c.args.second)) (edge t (max c.args.first c.args.second)) c.conflict.result meets c.in_default.not-Apart) meets);
    }

pub returns-in-Apart-clause-shown : goal.returns-in-Apart-clause-shown
returns-in-Apart-clause-shown c = tt
