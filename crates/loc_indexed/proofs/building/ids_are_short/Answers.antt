use Rattle.std.proofs.Common.{◌≤◌, length, List, ℕ, subst}
use Rattle.loc_laws_index.specs.IndexReading.{AreBytes}
use Rattle.loc_rings.specs.Values.{Feature}
use Rattle.loc_spec_text.specs.Limits.{most_id_bytes}
use Rattle.loc_indexed.specs.Followed.{AreShort}
use Rattle.loc_indexed.proofs.WrittenIndex.{all_more, all_taken}
use Rattle.loc_indexed.proofs.building.ids_are_short.Goals as goal

pub loop-feature-preserved : goal.loop-feature-preserved
loop-feature-preserved c =
    all_more (λ (f : Feature). (length f.id ≤ most_id_bytes) × AreBytes f.id) _ _ c.feature-item.result c.feature-item.is c.loop-feature-test.true c.loop-feature.invariant
    (subst (λ (id : List ℕ). (length id ≤ most_id_bytes) × AreBytes id) c.id.ensures.value (c.id.ensures.short, c.is_of_bytes.ensures))

pub returns : goal.returns
returns c =
    let all = all_taken (λ (f : Feature). (length f.id ≤ most_id_bytes) × AreBytes f.id) c.features-feature-items.result.now c.loop-feature.feature-index c.loop-feature-test.false c.loop-feature.invariant in
    let within = c.features-feature-items.ensures.within in
    subst AreShort c.features-feature-items.ensures.value (record { within = within; short = λ i d less. (all i d less).0; bytes = λ i d less. (all i d less).1 })
