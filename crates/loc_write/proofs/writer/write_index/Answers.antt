use Rattle.std.proofs.Common.{refl}
use Rattle.loc_write.specs.Written.{content_of, IsContentOf}
use Rattle.loc_write.proofs.Filed.{filed}
use Rattle.loc_write.proofs.writer.write_index.Goals as goal

pub returns : goal.returns
returns g c =
    let t = c.args.table.now in
    let l = c.args.legend.now in
    let m = c.args.versions.now in
    let nodes = c.nodes_numbered.ensures in
    let roots = c.roots_numbered.ensures in
    let is : IsContentOf c.args.scale t l m (content_of c.args.scale t l roots.0 nodes.0) = record { parts = refl; nodes = nodes.1; roots = roots.1; as_many = roots.2 } in (
      content_of c.args.scale t l roots.0 nodes.0,
      is,
      filed c.args.scale t l m
          (record {
            scale_fits = c.requires.scale;
            in_order = c.law.ensures.in_order;
            small = c.law.ensures.small;
            on_grid = c.corners_on_grid.ensures;
            sound = c.law-2.ensures;
            fits = c.requires.fits;
            short = c.requires.short_ids;
            features = c.requires.features;
            few_edges = c.requires.few_edges;
            few_marks = c.requires.few_marks;
            as_many = c.requires.as_many_versions;
            settled = c.requires.settled;
            items = c.requires.items;
            few_nodes = c.requires.few_nodes;
          })
          roots.0 nodes.0 roots.2 nodes.1.as_many roots.3 nodes.2,
      c.make_file.ensures (content_of c.args.scale t l roots.0 nodes.0) is,
    )
