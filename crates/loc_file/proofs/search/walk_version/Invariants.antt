use Rattle.std.proofs.Common.{◌≡◌, ◌+◌, ◌-◌, ◌≤◌, length}
use Rattle.std.specs.Prelude.{None}
use Rattle.loc_spec_index.specs.{Content.root_of, Search.walk}
use Rattle.loc_file.specs.Depths.{depth_from}
use Rattle.loc_file.proofs.search.walk_version.Given as goal

-- what is left to walk finds what the whole walk finds
abbrev pub invariant-loop-walked : goal.invariant-loop-walked
invariant-loop-walked g l = record {
  found : walk l.views l.held.content.nodes l.p l.version 42 (root_of l.held.content l.version) None ≡ walk l.views l.held.content.nodes l.p l.version (42 - l.walked) l.at l.floor;
  within : l.at ≤ length l.held.content.nodes;
  counted : l.initial.steps ≤ l.steps;
  few : l.steps + depth_from l.held.content.nodes l.version (42 - l.walked) l.at ≤ l.initial.steps + depth_from l.held.content.nodes l.version 42 (root_of l.held.content l.version);
}
