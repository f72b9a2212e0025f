use Rattle.std.proofs.Common.{sym, ◌∙◌, subst}
use Rattle.loc_spec_index.specs.IndexFile.{bytes_of}
use Rattle.loc_status.specs.Versions.{AreVersions}
use Rattle.loc_persist.specs.Meaning.{VersionsMeaning}
use Rattle.loc_indexed.specs.Builds.{IsIndexFileOf}
use Rattle.loc_indexed.proofs.WrittenIndex.{cut_file, features_within, few_edges, few_marks, index_written, made_file, short_ids}
use Rattle.loc_indexed.proofs.building.write_plane.Goals as goal

pub write_index-requires-clause-short_ids : goal.write_index-requires-clause-short_ids
write_index-requires-clause-short_ids g c = short_ids _ _ _ c.requires.laid_out.1

pub write_index-requires-clause-features : goal.write_index-requires-clause-features
write_index-requires-clause-features g c = features_within _ _ _ c.requires.laid_out.1

pub write_index-requires-clause-few_edges : goal.write_index-requires-clause-few_edges
write_index-requires-clause-few_edges g c = few_edges _ _ _ c.requires.laid_out.1

pub write_index-requires-clause-few_marks : goal.write_index-requires-clause-few_marks
write_index-requires-clause-few_marks g c = few_marks _ _ _ c.requires.laid_out.1

pub returns-in-Ok : goal.returns-in-Ok
returns-in-Ok g c layer laid =
    let t = c.args.plane.now.table in
    let rows = c.args.plane.now.legend in
    let m = c.versions-versions.result.now in
    let w = c.in-Ok.ensures in
    let holds = c.content_holds_parts.ensures c.decimals.result t rows m w.0 c.law.ensures.in_order (c.law-2.ensures.as_many_above ∙ laid.map.fits.as_many_edges) w.1 in
    let versions = subst (λ (x : VersionsMeaning). AreVersions t x.sealed_lists) (sym c.versions-versions.ensures) c.swept_stands.ensures.stands.versions in
    record {
      text = bytes_of 2 w.0;
      is = subst (λ s. IsIndexFileOf s layer (bytes_of 2 w.0)) c.decimals.ensures.value (index_written layer t rows laid m c.law-2.ensures c.sealed-sealed.ensures.facts versions c.decimals.result w.0 w.1 holds w.2);
      makes = made_file _ _ _ _ _ w.3;
    }

pub returns-in-Err : goal.returns-in-Err
returns-in-Err g c layer laid =
    let t = c.args.plane.now.table in
    let rows = c.args.plane.now.legend in
    let m = c.versions-versions.result.now in
    let w = c.in-Err.ensures in
    let holds = c.content_holds_parts.ensures c.decimals.result t rows m w.0 c.law.ensures.in_order (c.law-2.ensures.as_many_above ∙ laid.map.fits.as_many_edges) w.1 in
    let versions = subst (λ (x : VersionsMeaning). AreVersions t x.sealed_lists) (sym c.versions-versions.ensures) c.swept_stands.ensures.stands.versions in
    record {
      text = bytes_of 2 w.0;
      is = subst (λ s. IsIndexFileOf s layer (bytes_of 2 w.0)) c.decimals.ensures.value (index_written layer t rows laid m c.law-2.ensures c.sealed-sealed.ensures.facts versions c.decimals.result w.0 w.1 holds w.2);
      makes = cut_file _ _ _ _ _ w.3;
    }
