use Rattle.std.proofs.Common.{inl, refl, rules}
use Rattle.loc_top.proofs.Runs.{lacks_words}
use Rattle.loc_top.proofs.top.run_course.Goals as goal

pub returns-in-Err-NoMemory-clause-ran : goal.returns-in-Err-NoMemory-clause-ran
returns-in-Err-NoMemory-clause-ran g c = lacks_words _ _ _ _ c.report-in-Err-NoMemory.result c.report-in-Err-NoMemory.ensures.status c.report-in-Err-NoMemory.ensures.noted

pub returns-in-Err-Refused-clause-ran : goal.returns-in-Err-Refused-clause-ran
returns-in-Err-Refused-clause-ran g c = rw (c.in-Err-Refused.ensures.refused c.in-Err-Refused.field-0-is) (record { same = refl; noted = inl (refl, search rules) })

pub returns-in-Ok-clause-ran : goal.returns-in-Ok-clause-ran
returns-in-Ok-clause-ran g c = rw c.in-Ok.ensures.ok (record { end = _; follows = c.run_command-outcome.ensures.follows; noted = c.report.ensures.noted; status_is = c.report.ensures.status })

pub returns-in-Ok-clause-notes_in_time : goal.returns-in-Ok-clause-notes_in_time
returns-in-Ok-clause-notes_in_time g c = c.report.ensures.in_time
