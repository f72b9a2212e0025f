use Rattle.std.proofs.Common.{◌≡◌, ℕ, not, ◌∷◌, length, ap, sym, ◌∙◌}
use Rattle.std.specs.List.{list_any, sum_by}
use Rattle.loc_spec_plane.specs.Lists.{is_in}
use Rattle.loc_rings.specs.Flags.{unflagged}
use Rattle.loc_parts.proofs.{Flagged.chosen-length, Settled.but_told, Settled.in_three, Settled.sum_three}
use Rattle.loc_parts.proofs.parting.pass.Goals as goal

pub parted-requires-2-clause-as_many : goal.parted-requires-2-clause-as_many
parted-requires-2-clause-as_many c =
    let ns = c.args.rest.numbers.items in
    let as_many : length c.deref-3.result.now ≡ length ns = ap length c.deref-3.ensures.value ∙ (c.in_ok-fates.ensures ∙ sym c.requires) in
    let flags : length c.deref-6.result.now ≡ length c.in_ok-fates-2.fates.items = ap length c.deref-6.ensures.value ∙ (c.in_ok-crossed.ensures ∙ ap length c.deref-5.ensures.value) in
    flags
    ∙ (ap length c.in_ok-fates-2.ensures.others
    ∙ (chosen-length not c.deref-4.result.now c.deref-3.result.now ns as_many
    ∙ (ap (λ ks. length (unflagged {X = ℕ} ks ns)) (c.deref-4.ensures.value ∙ sym c.deref-2.ensures.value)
    ∙ (sym (ap length c.in_ok-kept.ensures.numbers) ∙ c.in_ok-kept.ensures.others_numbered))))

pub returns-clause-parted : goal.returns-clause-parted
returns-clause-parted c layer rests rest but =
    let kept = c.in_ok-kept.kept.numbers.items in
    let others = c.in_ok-kept.others.numbers.items in
    let crossed = c.in_ok-crossed-2.crossed.numbers.items in
    let later = c.in_ok-crossed-2.later.numbers.items in
    let three = but_told layer (c.args.rest.numbers.items ∷ rests) (kept ∷ crossed ∷ later ∷ rests) c.args.parts.now.items c.args.left.now.items but
    (λ n. in_three (is_in n kept) (is_in n crossed) (is_in n later) (is_in n others) (is_in n c.args.rest.numbers.items) (c.in_ok-crossed-2.ensures.all n) (c.in_ok-kept.ensures.all n) (list_any (is_in n) rests))
    (λ f. sum_three (sum_by f) kept crossed later others c.args.rest.numbers.items rests (c.in_ok-crossed-2.ensures.once f) (c.in_ok-kept.ensures.once f)) in
    let settled = c.in_ok-settle.ensures.settled layer (crossed ∷ later ∷ rests) (c.in_ok-kept.ensures.kept layer rest) three in
    c.in_ok-leave.ensures layer (later ∷ rests) c.settle.new.parts.items (c.in_ok-crossed-2.ensures.kept layer (c.in_ok-kept.ensures.others layer rest)) settled
