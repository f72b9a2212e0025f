use Rattle.std.proofs.Common.{subst}
use Rattle.loc_valid.specs.Judged.{IsRefusedFeature}
use Rattle.loc_maps.specs.LineTexts.{covers_text, pieces_text}
use Rattle.loc_breaches.proofs.Refusals.{covers_refused, not_refused, pieces_refused}
use Rattle.loc_breaches.proofs.judging.judged.Goals as goal

pub returns-in-Ok-clause-judged : goal.returns-in-Ok-clause-judged
returns-in-Ok-clause-judged c = not_refused c.args.feature.now.polygons c.in-Ok.ensures.few_pieces c.in-Ok.ensures.few_covers

pub returns-in-Err-ManyPieces-clause-refused : goal.returns-in-Err-ManyPieces-clause-refused
returns-in-Err-ManyPieces-clause-refused c = (pieces_text, pieces_refused c.args.feature.now.polygons (subst (IsRefusedFeature c.args.feature.now.polygons) c.in-Err-ManyPieces.field-0-is c.in-Err-ManyPieces.ensures.refused), c.pieces_line.ensures)

pub returns-in-Err-ManyCovers-clause-refused : goal.returns-in-Err-ManyCovers-clause-refused
returns-in-Err-ManyCovers-clause-refused c = (covers_text, covers_refused c.args.feature.now.polygons (subst (IsRefusedFeature c.args.feature.now.polygons) c.in-Err-ManyCovers.field-0-is c.in-Err-ManyCovers.ensures.refused), c.covers_line.ensures)
