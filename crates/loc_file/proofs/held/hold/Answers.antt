use Rattle.std.proofs.Common.{sym, ◌∙◌, ap, map, arith, refl, length}
use Rattle.std.proofs.lemmas.List.{length-map}
use Rattle.loc_spec_plane.specs.Tables.{Table}
use Rattle.loc_file.specs.{declared.edges.EdgeOf.EdgeOf, Contents.content_in, Told.told_source}
use Rattle.loc_file.proofs.Holding.{as_many_sources, corners-go-up, ends-go-up, sources-fit, ends-fit, few_ends, marks-on-ends, marks-named, lists-are, lists-named, above-fit, floors-fit, content-is, held-is}
use Rattle.loc_laws_index.proofs.FileFacts.{facts}
use Rattle.loc_file.proofs.held.hold.Goals as goal

pub of_parts-requires-clause-corners_rise : goal.of_parts-requires-clause-corners_rise
of_parts-requires-clause-corners_rise c = corners-go-up c.args.parts.version (content_in c.args.parts) c.args.parts.edges.items c.in_ok-ends.ends.items c.in_ok-sources.sources.items c.in_ok-cover_of.cover_of.items c.requires refl (c.in_ok-ends.ensures ∙ ap (map (λ (e : EdgeOf). e.ends)) c.as_slice.ensures.value) (c.in_ok-sources.ensures ∙ ap (map (told_source c.args.parts.version)) c.as_slice-3.ensures.value) (c.in_ok-cover_of.ensures ∙ ap (map (λ (e : EdgeOf). e.cover)) c.as_slice-2.ensures.value)

pub of_parts-requires-clause-few_corners : goal.of_parts-requires-clause-few_corners
of_parts-requires-clause-few_corners c = let f = facts _ _ c.requires in f.few_corners

pub of_parts-requires-clause-edges_rise : goal.of_parts-requires-clause-edges_rise
of_parts-requires-clause-edges_rise c = ends-go-up c.args.parts.version (content_in c.args.parts) c.args.parts.edges.items c.in_ok-ends.ends.items c.in_ok-sources.sources.items c.in_ok-cover_of.cover_of.items c.requires refl (c.in_ok-ends.ensures ∙ ap (map (λ (e : EdgeOf). e.ends)) c.as_slice.ensures.value) (c.in_ok-sources.ensures ∙ ap (map (told_source c.args.parts.version)) c.as_slice-3.ensures.value) (c.in_ok-cover_of.ensures ∙ ap (map (λ (e : EdgeOf). e.cover)) c.as_slice-2.ensures.value)

pub of_parts-requires-clause-edges_go_up : goal.of_parts-requires-clause-edges_go_up
of_parts-requires-clause-edges_go_up c = ends-fit c.args.parts.version (content_in c.args.parts) c.args.parts.edges.items c.in_ok-ends.ends.items c.in_ok-sources.sources.items c.in_ok-cover_of.cover_of.items c.requires refl (c.in_ok-ends.ensures ∙ ap (map (λ (e : EdgeOf). e.ends)) c.as_slice.ensures.value) (c.in_ok-sources.ensures ∙ ap (map (told_source c.args.parts.version)) c.as_slice-3.ensures.value) (c.in_ok-cover_of.ensures ∙ ap (map (λ (e : EdgeOf). e.cover)) c.as_slice-2.ensures.value)

pub of_parts-requires-clause-few_edges : goal.of_parts-requires-clause-few_edges
of_parts-requires-clause-few_edges c = few_ends c.args.parts.version (content_in c.args.parts) c.args.parts.edges.items c.in_ok-ends.ends.items c.in_ok-sources.sources.items c.in_ok-cover_of.cover_of.items c.requires refl (c.in_ok-ends.ensures ∙ ap (map (λ (e : EdgeOf). e.ends)) c.as_slice.ensures.value) (c.in_ok-sources.ensures ∙ ap (map (told_source c.args.parts.version)) c.as_slice-3.ensures.value) (c.in_ok-cover_of.ensures ∙ ap (map (λ (e : EdgeOf). e.cover)) c.as_slice-2.ensures.value)

pub of_parts-requires-clause-marks_rise : goal.of_parts-requires-clause-marks_rise
of_parts-requires-clause-marks_rise c = let f = facts _ _ c.requires in f.marks_go_up

pub of_parts-requires-clause-marks_on_edges : goal.of_parts-requires-clause-marks_on_edges
of_parts-requires-clause-marks_on_edges c = marks-on-ends c.args.parts.version (content_in c.args.parts) c.args.parts.edges.items c.in_ok-ends.ends.items c.in_ok-sources.sources.items c.in_ok-cover_of.cover_of.items c.requires refl (c.in_ok-ends.ensures ∙ ap (map (λ (e : EdgeOf). e.ends)) c.as_slice.ensures.value) (c.in_ok-sources.ensures ∙ ap (map (told_source c.args.parts.version)) c.as_slice-3.ensures.value) (c.in_ok-cover_of.ensures ∙ ap (map (λ (e : EdgeOf). e.cover)) c.as_slice-2.ensures.value)

pub of_parts-requires-clause-sources_fit : goal.of_parts-requires-clause-sources_fit
of_parts-requires-clause-sources_fit c = as_many_sources c.args.parts.version (content_in c.args.parts) c.args.parts.edges.items c.in_ok-ends.ends.items c.in_ok-sources.sources.items c.in_ok-cover_of.cover_of.items c.requires refl (c.in_ok-ends.ensures ∙ ap (map (λ (e : EdgeOf). e.ends)) c.as_slice.ensures.value) (c.in_ok-sources.ensures ∙ ap (map (told_source c.args.parts.version)) c.as_slice-3.ensures.value) (c.in_ok-cover_of.ensures ∙ ap (map (λ (e : EdgeOf). e.cover)) c.as_slice-2.ensures.value)

pub of_parts-requires-clause-sources_go_up : goal.of_parts-requires-clause-sources_go_up
of_parts-requires-clause-sources_go_up c = sources-fit c.args.parts.version (content_in c.args.parts) c.args.parts.edges.items c.in_ok-ends.ends.items c.in_ok-sources.sources.items c.in_ok-cover_of.cover_of.items c.requires refl (c.in_ok-ends.ensures ∙ ap (map (λ (e : EdgeOf). e.ends)) c.as_slice.ensures.value) (c.in_ok-sources.ensures ∙ ap (map (told_source c.args.parts.version)) c.as_slice-3.ensures.value) (c.in_ok-cover_of.ensures ∙ ap (map (λ (e : EdgeOf). e.cover)) c.as_slice-2.ensures.value)

pub of_parts-requires-2-clause-few_features : goal.of_parts-requires-2-clause-few_features
of_parts-requires-2-clause-few_features c = let f = facts _ _ c.requires in omega (arith, f.few_ids, length-map c.args.parts.ids.items (λ id. id.items))

pub of_parts-requires-2-clause-features : goal.of_parts-requires-2-clause-features
of_parts-requires-2-clause-features c = c.in_ok-table.ensures.features (length c.args.parts.ids.items) (marks-named c.args.parts.version (content_in c.args.parts) c.args.parts.edges.items c.in_ok-ends.ends.items c.in_ok-sources.sources.items c.in_ok-cover_of.cover_of.items c.requires refl (c.in_ok-ends.ensures ∙ ap (map (λ (e : EdgeOf). e.ends)) c.as_slice.ensures.value) (c.in_ok-sources.ensures ∙ ap (map (told_source c.args.parts.version)) c.as_slice-3.ensures.value) (c.in_ok-cover_of.ensures ∙ ap (map (λ (e : EdgeOf). e.cover)) c.as_slice-2.ensures.value) _ (sym (length-map c.args.parts.ids.items (λ id. id.items))))

pub of_parts-requires-2-clause-covers : goal.of_parts-requires-2-clause-covers
of_parts-requires-2-clause-covers c = lists-are c.args.parts.version (content_in c.args.parts) c.args.parts.edges.items c.in_ok-ends.ends.items c.in_ok-sources.sources.items c.in_ok-cover_of.cover_of.items c.requires refl (c.in_ok-ends.ensures ∙ ap (map (λ (e : EdgeOf). e.ends)) c.as_slice.ensures.value) (c.in_ok-sources.ensures ∙ ap (map (told_source c.args.parts.version)) c.as_slice-3.ensures.value) (c.in_ok-cover_of.ensures ∙ ap (map (λ (e : EdgeOf). e.cover)) c.as_slice-2.ensures.value) _ (ap (λ (k : Table). length k.ends) c.in_ok-table.ensures.table)

pub of_parts-requires-2-clause-covers_named : goal.of_parts-requires-2-clause-covers_named
of_parts-requires-2-clause-covers_named c = lists-named c.args.parts.version (content_in c.args.parts) c.args.parts.edges.items c.in_ok-ends.ends.items c.in_ok-sources.sources.items c.in_ok-cover_of.cover_of.items c.requires refl (c.in_ok-ends.ensures ∙ ap (map (λ (e : EdgeOf). e.ends)) c.as_slice.ensures.value) (c.in_ok-sources.ensures ∙ ap (map (told_source c.args.parts.version)) c.as_slice-3.ensures.value) (c.in_ok-cover_of.ensures ∙ ap (map (λ (e : EdgeOf). e.cover)) c.as_slice-2.ensures.value) _ (sym (length-map c.args.parts.ids.items (λ id. id.items)))

pub of_parts-requires-2-clause-cover_in_range : goal.of_parts-requires-2-clause-cover_in_range
of_parts-requires-2-clause-cover_in_range c = above-fit c.args.parts.version (content_in c.args.parts) c.args.parts.edges.items c.in_ok-ends.ends.items c.in_ok-sources.sources.items c.in_ok-cover_of.cover_of.items c.requires refl (c.in_ok-ends.ensures ∙ ap (map (λ (e : EdgeOf). e.ends)) c.as_slice.ensures.value) (c.in_ok-sources.ensures ∙ ap (map (told_source c.args.parts.version)) c.as_slice-3.ensures.value) (c.in_ok-cover_of.ensures ∙ ap (map (λ (e : EdgeOf). e.cover)) c.as_slice-2.ensures.value) _ (sym (length-map c.args.parts.covers.items (λ list. list.items)))

pub of_parts-requires-2-clause-floors_in_range : goal.of_parts-requires-2-clause-floors_in_range
of_parts-requires-2-clause-floors_in_range c = floors-fit c.args.parts.version (content_in c.args.parts) c.args.parts.edges.items c.in_ok-ends.ends.items c.in_ok-sources.sources.items c.in_ok-cover_of.cover_of.items c.requires refl (c.in_ok-ends.ensures ∙ ap (map (λ (e : EdgeOf). e.ends)) c.as_slice.ensures.value) (c.in_ok-sources.ensures ∙ ap (map (told_source c.args.parts.version)) c.as_slice-3.ensures.value) (c.in_ok-cover_of.ensures ∙ ap (map (λ (e : EdgeOf). e.cover)) c.as_slice-2.ensures.value) _ (ap (λ (k : Table). length k.ends) c.in_ok-table.ensures.table)

pub overflow_cast-result : goal.overflow_cast-result
overflow_cast-result c = let f = facts _ _ c.requires in record { fits = omega (arith, f.scale) }

pub returns : goal.returns
returns c = ap (λ k. record { version = c.args.parts.version; content = k }) (content-is c.args.parts.version (content_in c.args.parts) c.args.parts.edges.items c.in_ok-ends.ends.items c.in_ok-sources.sources.items c.in_ok-cover_of.cover_of.items c.requires refl (c.in_ok-ends.ensures ∙ ap (map (λ (e : EdgeOf). e.ends)) c.as_slice.ensures.value) (c.in_ok-sources.ensures ∙ ap (map (told_source c.args.parts.version)) c.as_slice-3.ensures.value) (c.in_ok-cover_of.ensures ∙ ap (map (λ (e : EdgeOf). e.cover)) c.as_slice-2.ensures.value) c.in_ok-table.table c.in_ok-legend.legend _ c.in_ok-table.ensures.table c.in_ok-legend.ensures.ids c.in_ok-legend.ensures.covers c.in_ok-legend.ensures.cover_of c.in_ok-legend.ensures.floors refl)

pub invariant_of-result : goal.invariant_of-result
invariant_of-result c = held-is c.args.parts.version (content_in c.args.parts) c.args.parts.edges.items c.in_ok-ends.ends.items c.in_ok-sources.sources.items c.in_ok-cover_of.cover_of.items c.requires refl (c.in_ok-ends.ensures ∙ ap (map (λ (e : EdgeOf). e.ends)) c.as_slice.ensures.value) (c.in_ok-sources.ensures ∙ ap (map (told_source c.args.parts.version)) c.as_slice-3.ensures.value) (c.in_ok-cover_of.ensures ∙ ap (map (λ (e : EdgeOf). e.cover)) c.as_slice-2.ensures.value) c.in_ok-table.table c.in_ok-legend.legend _ (content-is c.args.parts.version (content_in c.args.parts) c.args.parts.edges.items c.in_ok-ends.ends.items c.in_ok-sources.sources.items c.in_ok-cover_of.cover_of.items c.requires refl (c.in_ok-ends.ensures ∙ ap (map (λ (e : EdgeOf). e.ends)) c.as_slice.ensures.value) (c.in_ok-sources.ensures ∙ ap (map (told_source c.args.parts.version)) c.as_slice-3.ensures.value) (c.in_ok-cover_of.ensures ∙ ap (map (λ (e : EdgeOf). e.cover)) c.as_slice-2.ensures.value) c.in_ok-table.table c.in_ok-legend.legend _ c.in_ok-table.ensures.table c.in_ok-legend.ensures.ids c.in_ok-legend.ensures.covers c.in_ok-legend.ensures.cover_of c.in_ok-legend.ensures.floors refl) c.in_ok-table.ensures.table c.in_ok-legend.ensures.fits c.in_ok-legend.ensures.cover_of
