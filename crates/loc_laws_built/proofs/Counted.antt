-- How many edges and marks the table of a layer has: no more of either than there are pieces.
use Rattle.std.proofs.Common.{arith}
use Rattle.loc_spec_plane.specs.Tables.{cut_at, layer_corners}
use Rattle.loc_laws_noding.proofs.{Counted.few_marks, Tables.few_ends}
use Rattle.loc_edges.specs.Layers.{layer_rings}
use Rattle.loc_laws_built.specs.Built.{LayerFits}

-- a layer of few pieces has few edges and few marks
pub layer_fits : LayerFits
layer_fits features few =
    let layer = layer_rings features in
    let cut = cut_at (layer_corners layer) in
    (omega (arith, few, few_ends cut layer), omega (arith, few, few_marks cut layer))
