use Rattle.std.proofs.Common.{rules}
use Rattle.loc_course.proofs.outside.read_text.Goals as goal

pub returns-in-Err-ReadFault : goal.returns-in-Err-ReadFault
returns-in-Err-ReadFault g c = let e = c.in-Err-ReadFault.ensures in
    record { files = e.files; making = e.making; taken = e.taken; entries = e.entries; comes = search rules; counts = search rules; in_time = e.in_time }

pub returns-in-Err-NoMemory : goal.returns-in-Err-NoMemory
returns-in-Err-NoMemory g c = let e = c.in-Err-NoMemory.ensures in
    record { files = e.files; making = e.making; taken = e.taken; entries = e.entries; comes = search rules; counts = search rules; in_time = e.in_time }

pub returns-in-Err-TooLong : goal.returns-in-Err-TooLong
returns-in-Err-TooLong g c = let e = c.in-Err-TooLong.ensures in
    record { files = e.files; making = e.making; taken = e.taken; entries = e.entries; comes = search rules; counts = search rules; in_time = e.in_time }
