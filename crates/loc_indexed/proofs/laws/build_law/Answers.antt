use Rattle.loc_indexed.specs.Building.{is_index_text}
use Rattle.loc_indexed.proofs.BuildRows.{builds}
use Rattle.loc_indexed.proofs.MadeCourses.{makes_one, writes_at_once, searches_none}
use Rattle.loc_indexed.proofs.laws.build_law.Goals as goal

pub returns-clause-builds : goal.returns-clause-builds
returns-clause-builds c = builds

pub returns-clause-at_once : goal.returns-clause-at_once
returns-clause-at_once c file index = writes_at_once (is_index_text file.scale) file index

pub returns-clause-makes_one : goal.returns-clause-makes_one
returns-clause-makes_one c file index = makes_one (is_index_text file.scale) file index

pub returns-clause-searches_nothing : goal.returns-clause-searches_nothing
returns-clause-searches_nothing c file index = searches_none (is_index_text file.scale) file index
