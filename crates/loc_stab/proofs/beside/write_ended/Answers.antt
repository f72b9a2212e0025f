use Rattle.std.proofs.Common.{ap}
use Rattle.std.specs.List.{flat_map}
use Rattle.loc_spec_text.specs.Spans.{numbered}
use Rattle.loc_stab.specs.Ended.{ended_at}
use Rattle.loc_stab.proofs.Ranges.{put_nothing}
use Rattle.loc_stab.proofs.beside.write_ended.Goals as goal

pub returns-in-Behind-clause-written : goal.returns-in-Behind-clause-written
returns-in-Behind-clause-written g c = put_nothing _ _ _ (ap (λ s. flat_map numbered (ended_at c.args.views.now s)) c.in-Behind.is)
