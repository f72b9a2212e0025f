use Rattle.std.proofs.Common.{length, refl, sym, ap, subst, arith}
use Rattle.loc_persist.specs.Meaning.{VersionsMeaning}
use Rattle.loc_status.specs.Versions.{AreVersions}
use Rattle.loc_spec_index.specs.Content.{table_in}
use Rattle.loc_laws_index.proofs.FlawKinds.{as_many_corners}
use Rattle.loc_laws_built.proofs.True.{versions_true}
use Rattle.loc_verify.proofs.versions.judge_versions.Goals as goal

pub has_roots-requires : goal.has_roots-requires
has_roots-requires c =
    let h = c.args.held.now.content in
    let lists = c.requires.stands.versions.as_many in
    let same = ap (λ (m : VersionsMeaning). length m.sealed_lists) c.versions-tree.ensures in
    let many = c.sealed-sealed.ensures.facts.as_many in
    let corners = as_many_corners h in
    record { as_many = omega (arith, lists, same, many, corners) }

pub returns-then-has_roots-clause-ok : goal.returns-then-has_roots-clause-ok
returns-then-has_roots-clause-ok c =
    let h = c.args.held.now.content in
    versions_true (table_in h) c.versions-tree.result.now h refl c.sealed-sealed.ensures.facts
    (subst (λ (m : VersionsMeaning). AreVersions (table_in h) m.sealed_lists) (sym c.versions-tree.ensures) c.requires.stands.versions)
    (c.if-has_nodes.ensures refl) (c.if-has_roots.ensures refl)
