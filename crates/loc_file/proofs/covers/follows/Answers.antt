use Rattle.std.proofs.Common.{◌∙◌, ap}
use Rattle.std.specs.{Ordering.is_lt, Ordering.nat_cmp, Cmp.Lexicographic.slice_cmp}
use Rattle.loc_file.proofs.Orders.{list-test, follows-last}
use Rattle.loc_file.proofs.covers.follows.Goals as goal

pub returns-in-Some : goal.returns-in-Some
returns-in-Some c = follows-last (λ v. v.items) c.args.others.now c.in-Some.other.now c.args.list.now _ c.in-Some.ensures.value (c.is_lt.ensures ∙ (ap is_lt c.cmp.ensures ∙ (ap (λ s. is_lt (slice_cmp nat_cmp s c.args.list.now)) c.as_slice.ensures.value ∙ list-test c.in-Some.other.now.items c.args.list.now)))
