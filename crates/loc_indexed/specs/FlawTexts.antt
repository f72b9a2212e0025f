-- The lines of a judgement of an index. The words:
--   index_text   of how many features, corners, edges and nodes an index is
--   flaw_text    what is wrong with an index; of two edges that conflict, without how they meet
--   clash_text   which two edges conflict, and how
--   names_pair   a line names these two edges, the lesser first, and how they conflict
--   names_clash  a line names two edges of an index that conflict, and how
--   is_clash     a flaw is that two edges conflict
--   says         a line says a flaw; where two edges conflict, it names any two that do
--   flaw_stop    why a command stops where a judge found a fault
use Rattle.std.specs.Prelude.{ℕ, Bool, true, false, ◌&&◌, ◌||◌, List, ◌++◌, codes, length, nat_lt}
use Rattle.std.specs.{Fmt.decimal, List.list_any}
use Rattle.loc_spec_text.specs.{Bytes.Text, Points.ended}
use Rattle.loc_spec_plane.specs.Points.{conflict, cross, touch}
use Rattle.loc_spec_plane.specs.Tables.{Table, edge, edge_numbers}
use Rattle.loc_spec_index.specs.Content.{Content, table_in}
use Rattle.loc_spec_index.specs.Flaws.{Flaw, bare, conflicting, deep, lone, spare_cover, uneven, wrong_cover, wrong_floor, wrong_list, wrong_source}
use Rattle.loc_geom.specs.declared.kinds.Meeting.{Meeting}
use Rattle.loc_geom.specs.declared.kinds.Meeting.TheVariants as m
use Rattle.loc_verify.specs.declared.fault.VerifyFault.{VerifyFault}
use Rattle.loc_verify.specs.declared.fault.VerifyFault.TheVariants as v
use Rattle.loc_course.specs.{Courses.Stopped, Courses.refused, Courses.no_memory, Outcomes.exactly}
use Rattle.loc_maps.specs.LineTexts.{meeting_text}

-- of how many features, corners, edges and nodes an index is
abbrev pub index_text : Content → List ℕ
index_text c = codes "index of " ++ decimal (length c.ids) ++ codes " features, " ++ decimal (length c.corners) ++ codes " corners, " ++ decimal (length c.edges) ++ codes " edges, " ++ decimal (length c.nodes) ++ codes " nodes"

-- what is wrong with an index; of two edges that conflict, without how they meet
abbrev pub flaw_text : Flaw → List ℕ
flaw_text (lone n) = codes "verify: corner " ++ decimal n ++ codes " lone"
flaw_text (bare e) = codes "verify: edge " ++ decimal e ++ codes " bare"
flaw_text (uneven n f) = codes "verify: feature " ++ decimal f ++ codes " uneven at corner " ++ decimal n
flaw_text (conflicting a b) = codes "verify: edges " ++ decimal a ++ codes " and " ++ decimal b
flaw_text (wrong_floor n) = codes "verify: floor of corner " ++ decimal n
flaw_text (wrong_cover e) = codes "verify: cover of edge " ++ decimal e
flaw_text (spare_cover n) = codes "verify: list " ++ decimal n ++ codes " spare"
flaw_text (wrong_source e) = codes "verify: source of edge " ++ decimal e
flaw_text (deep i) = codes "verify: version " ++ decimal i ++ codes " deep"
flaw_text (wrong_list i p) = codes "verify: version " ++ decimal i ++ codes " wrong at " ++ decimal p

-- which two edges conflict, and how
abbrev pub clash_text : ℕ → ℕ → Meeting → List ℕ
clash_text a b meeting = flaw_text (conflicting a b) ++ meeting_text meeting

-- the line names these two edges, the lesser first, and how they conflict
abbrev pub names_pair : Table → Text → ℕ → ℕ → Bool
names_pair t line a b = (nat_lt a b && conflict (edge t a) (edge t b))
    && ((touch (edge t a) (edge t b) && exactly (ended (clash_text a b m.Touch)) line) || (cross (edge t a) (edge t b) && exactly (ended (clash_text a b m.Cross)) line))

-- the line names two edges of the index that conflict, and how
abbrev pub names_clash : Content → Text → Bool
names_clash c line = list_any (λ a. list_any (names_pair (table_in c) line a) (edge_numbers (table_in c))) (edge_numbers (table_in c))

-- the flaw is that two edges conflict
abbrev pub is_clash : Flaw → Bool
is_clash (conflicting a b) = true
is_clash flaw = false

-- the line says the flaw; where two edges conflict, it names any two that do
abbrev pub says : Content → Flaw → Text → Bool
says c (conflicting a b) = names_clash c
says c flaw = exactly (ended (flaw_text flaw))

-- why a command stops where a judge found a fault
abbrev pub flaw_stop : VerifyFault → Stopped
flaw_stop (v.Lone n) = refused (ended (flaw_text (lone n)))
flaw_stop (v.Bare e) = refused (ended (flaw_text (bare e)))
flaw_stop (v.Uneven n f) = refused (ended (flaw_text (uneven n f)))
flaw_stop (v.Conflict a b meeting) = refused (ended (clash_text a b meeting))
flaw_stop (v.WrongFloor n) = refused (ended (flaw_text (wrong_floor n)))
flaw_stop (v.WrongCover e) = refused (ended (flaw_text (wrong_cover e)))
flaw_stop (v.SpareCover n) = refused (ended (flaw_text (spare_cover n)))
flaw_stop (v.WrongSource e) = refused (ended (flaw_text (wrong_source e)))
flaw_stop (v.Deep i) = refused (ended (flaw_text (deep i)))
flaw_stop (v.WrongList i p) = refused (ended (flaw_text (wrong_list i p)))
flaw_stop v.NoMemory = no_memory
