-- What an index means as a status: `meaning_of`.
use Rattle.std.specs.Prelude.{length, Some}
use Rattle.loc_persist.specs.Meaning.{VersionsMeaning}
use Rattle.loc_status.specs.Meaning.{StatusMeaning}

-- the present list and the counts of the versions, with their sealed lists told
abbrev pub meaning_of : VersionsMeaning → StatusMeaning
meaning_of m = record { list = m.list; sealed_lists = Some m.sealed_lists; sealed = length m.roots; inserted = m.inserted; removed = m.removed; past_greatest = m.past_greatest; is_changed = m.is_changed }
