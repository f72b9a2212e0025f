use Rattle.std.proofs.Common.{ℕ, ◌||◌, not, length, sym, ◌∙◌, ap, ap₂, arith, ◌≤◌}
use Rattle.std.specs.Prelude.{◌==◌}
use Rattle.loc_spec_plane.specs.Lists.{is_in}
use Rattle.std.specs.List.{sum_by}
use Rattle.loc_rings.proofs.Flags.{flags-sum}
use Rattle.loc_rings.specs.Flags.{flagged, unflagged}
use Rattle.loc_parts.proofs.{Flagged.chosen-length, Flagged.flags-any, Resting.rest_chosen}
use Rattle.loc_parts.proofs.rest.Rest.parted.Goals as goal

pub returns-clause-kept : goal.returns-clause-kept
returns-clause-kept c layer rest = rest_chosen layer (λ b. b) c.args.keep.now c.args.self.numbers.items c.args.self.features _ _ rest (c.in_ok-kept_numbers.ensures.kept ∙ ap (flagged {X = ℕ} c.args.keep.now) c.deref.ensures.value) c.in_ok-kept.ensures.kept

pub returns-clause-others : goal.returns-clause-others
returns-clause-others c layer rest = rest_chosen layer not c.args.keep.now c.args.self.numbers.items c.args.self.features _ _ rest (c.in_ok-kept_numbers.ensures.others ∙ ap (unflagged {X = ℕ} c.args.keep.now) c.deref.ensures.value) c.in_ok-kept.ensures.others

pub returns-clause-all : goal.returns-clause-all
returns-clause-all c n =
    ap₂ (λ ks os. is_in n ks || is_in n os) (c.in_ok-kept_numbers.ensures.kept ∙ ap (flagged {X = ℕ} c.args.keep.now) c.deref.ensures.value) (c.in_ok-kept_numbers.ensures.others ∙ ap (unflagged {X = ℕ} c.args.keep.now) c.deref.ensures.value)
    ∙ flags-any (λ m. m == n) c.args.keep.now c.args.self.numbers.items (omega (arith, c.requires.as_many, c.requires.numbered))

pub returns-clause-others_numbered : goal.returns-clause-others_numbered
returns-clause-others_numbered c =
    ap length (c.in_ok-kept_numbers.ensures.others ∙ ap (unflagged {X = ℕ} c.args.keep.now) c.deref.ensures.value)
    ∙ (chosen-length not c.args.keep.now c.args.self.numbers.items c.args.self.features c.requires.numbered ∙ ap length (sym c.in_ok-kept.ensures.others))

pub returns-clause-once : goal.returns-clause-once
returns-clause-once c f =
    let kept = c.in_ok-kept_numbers.ensures.kept ∙ ap (flagged {X = ℕ} c.args.keep.now) c.deref.ensures.value in
    let others = c.in_ok-kept_numbers.ensures.others ∙ ap (unflagged {X = ℕ} c.args.keep.now) c.deref.ensures.value in
    let fits : length c.args.self.numbers.items ≤ length c.args.keep.now = omega (arith, c.requires.as_many, c.requires.numbered) in
    omega (arith, ap (sum_by f) kept, ap (sum_by f) others, flags-sum f c.args.keep.now c.args.self.numbers.items fits)
