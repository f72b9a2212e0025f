use Rattle.loc_laws_rays.proofs.{RayLaw.segment_law, RayRings.ring_law, RayEdges.edges_law}
use Rattle.loc_laws_rays.proofs.ray_law.Goals as goal

pub returns-clause-segment : goal.returns-clause-segment
returns-clause-segment c = segment_law

pub returns-clause-ring : goal.returns-clause-ring
returns-clause-ring c = ring_law

pub returns-clause-edges : goal.returns-clause-edges
returns-clause-edges c = edges_law
