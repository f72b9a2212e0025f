use Rattle.loc_laws_order.proofs.{Floors.floor_of_list, ListLaws.list_is_chain, ListLaws.list_from_chain}
use Rattle.loc_laws_order.proofs.Unique.{list-unique}
use Rattle.loc_laws_order.proofs.list_law.Goals as goal

pub returns-clause-is_chain : goal.returns-clause-is_chain
returns-clause-is_chain c = list_is_chain

pub returns-clause-from_chain : goal.returns-clause-from_chain
returns-clause-from_chain c = list_from_chain

pub returns-clause-one : goal.returns-clause-one
returns-clause-one c = list-unique

pub returns-clause-floor : goal.returns-clause-floor
returns-clause-floor c = floor_of_list
