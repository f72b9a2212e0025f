-- What was read, as the content of a file: `content_in`.
use Rattle.std.specs.Prelude.{map}
use Rattle.loc_spec_index.specs.Content.{Content}
use Rattle.loc_file.specs.{declared.parts.Parts.Parts, Told.told}

-- the content of all parts that were read
abbrev pub content_in : Parts → Content
content_in p = record {
  scale = p.scale;
  ids = map (λ id. id.items) p.ids.items;
  corners = p.corners.items;
  edges = map (told p.version) p.edges.items;
  marks = p.marks.items;
  covers = map (λ list. list.items) p.covers.items;
  floors = p.floors.items;
  roots = p.roots.items;
  nodes = p.nodes.items;
}
