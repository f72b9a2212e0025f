use Rattle.std.proofs.Common.{ℕ, ◌≡◌, take}
use Rattle.loc_spec_plane.specs.Lists.{exactly_one, odd_many}
use Rattle.loc_verify.specs.Least.{is_odd_in}
use Rattle.loc_verify.proofs.Odd.{is_of}
use Rattle.loc_verify.proofs.features.add_odd.Given as goal

abbrev pub invariant-loop-mark : goal.invariant-loop-mark
invariant-loop-mark l = (f : ℕ) → is_odd_in f l.row.items ≡ exactly_one (is_odd_in f l.fn.row.items) (odd_many (is_of f) (take l.mark-index l.marks))
