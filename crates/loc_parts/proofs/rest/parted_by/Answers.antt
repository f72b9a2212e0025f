use Rattle.std.proofs.Common.{◌<◌, true, false, not, length, refl, sym, ◌∙◌, ap, append-nil, arith}
use Rattle.loc_rings.proofs.Flags.{none}
use Rattle.loc_parts.proofs.Flagged.{chosen-take}
use Rattle.loc_parts.proofs.rest.parted_by.Goals as goal
use Rattle.loc_parts.proofs.rest.parted_by.Goals.{then-keep-k+in_ok-push, else-keep-k+in_ok-push-2}

pub loop-k-init : goal.loop-k-init
loop-k-init g c = record {
  kept = c.new-kept.ensures.items ∙ sym (none (λ b. b) c.args.keep.now);
  others = c.new-others.ensures.items ∙ sym (none not c.args.keep.now);
}

pub loop-k-preserved : goal.loop-k-preserved
loop-k-preserved g c =
    let xs = c.args.members.now in
    let keep = c.args.keep.now in
    let k = c.loop-k.k in
    let x = c.index-members-k.result in
    let within : k < length xs = omega arith in
    elim c.if-keep-k.branch [
      | then-keep-k+in_ok-push w ↦ record {
        kept = chosen-take (λ b. b) keep xs k x true true c.loop-k.kept.items c.if-keep-k.kept.items within c.requires (sym w.if-keep-k.true) refl c.index-members-k.is c.loop-k.invariant.kept (ap (λ v. v.items) w.kept-is ∙ w.in_ok-push.ensures.items);
        others = chosen-take not keep xs k x true false c.loop-k.others.items c.if-keep-k.others.items within c.requires (sym w.if-keep-k.true) refl c.index-members-k.is c.loop-k.invariant.others (ap (λ v. v.items) w.others-is ∙ sym (append-nil c.loop-k.others.items));
      }
      | else-keep-k+in_ok-push-2 w ↦ record {
        kept = chosen-take (λ b. b) keep xs k x false false c.loop-k.kept.items c.if-keep-k.kept.items within c.requires (sym w.if-keep-k.false) refl c.index-members-k.is c.loop-k.invariant.kept (ap (λ v. v.items) w.kept-is ∙ sym (append-nil c.loop-k.kept.items));
        others = chosen-take not keep xs k x false true c.loop-k.others.items c.if-keep-k.others.items within c.requires (sym w.if-keep-k.false) refl c.index-members-k.is c.loop-k.invariant.others (ap (λ v. v.items) w.others-is ∙ w.in_ok-push-2.ensures.items);
      }
    ]
