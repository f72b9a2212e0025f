-- The lines that name what is wrong with the bytes of an index file. The words: `part_name`, `index_fault_text`, `index_stop`.
use Rattle.std.specs.Prelude.{List, ℕ, ◌++◌, codes}
use Rattle.std.specs.Fmt.{decimal}
use Rattle.loc_spec_text.specs.Points.{ended}
use Rattle.loc_spec_index.specs.{declared.Part.Part, declared.IndexFault.IndexFault}
use Rattle.loc_spec_index.specs.declared.Part.TheVariants as p
use Rattle.loc_spec_index.specs.declared.IndexFault.TheVariants as f
use Rattle.loc_course.specs.Courses.{Stopped, refused, no_memory}

-- a part of a file
abbrev pub part_name : Part → List ℕ
part_name p.Corners = codes "corners"
part_name p.Edges = codes "edges"
part_name p.Marks = codes "marks"
part_name p.Covers = codes "covers"

-- what is wrong with the bytes
abbrev pub index_fault_text : IndexFault → List ℕ
index_fault_text (f.Short need) = codes "index: short, " ++ decimal need ++ codes " bytes needed"
index_fault_text f.Magic = codes "index: bad magic"
index_fault_text (f.Version found) = codes "index: version " ++ decimal found
index_fault_text (f.Field offset value bound) = codes "index: field at " ++ decimal offset ++ codes " holds " ++ decimal value ++ codes ", bound " ++ decimal bound
index_fault_text (f.NotSorted part row) = codes "index: " ++ part_name part ++ codes " row " ++ decimal row ++ codes " not in order"
index_fault_text (f.Long rest) = codes "index: " ++ decimal rest ++ codes " bytes too many"
index_fault_text f.NoMemory = codes "out of memory"

-- why a command stops where the bytes are at fault
abbrev pub index_stop : IndexFault → Stopped
index_stop f.NoMemory = no_memory
index_stop fault = refused (ended (index_fault_text fault))
