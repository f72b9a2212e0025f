-- How the groups of a layer are dissolved: what their rings are (Dissolving), numbers in place of ids (Grouping), the kept edges of each (Keeping), and the written text (Writing).
pub mod Dissolving
pub mod Grouping
pub mod Keeping
pub mod Writing
