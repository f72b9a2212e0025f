-- The order of edges that is asked for. The words: `AskedOrder`, `asked_order`.
use Rattle.std.specs.Prelude.{ℕ, List}
use Rattle.loc_spec_asked.specs.declared.EdgeOrder.{EdgeOrder}
use Rattle.loc_spec_asked.specs.declared.EdgeOrder.TheVariants.{File, Shuffled}

-- the order of the file of a name, or one that is shuffled from a number
pub data AskedOrder : Type 0 where
  in_file : List ℕ → AskedOrder
  shuffled_from : ℕ → AskedOrder

-- as the program has it
abbrev pub asked_order : EdgeOrder → AskedOrder
asked_order (File name) = in_file name.now
asked_order (Shuffled number) = shuffled_from number
