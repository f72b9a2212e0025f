use Rattle.std.proofs.Common.{◌≡◌, ◌∙◌, ◌<◌, ◌≤◌, ◌+◌, ℕ, nat_le, true, false, Option, Some, None, length, ap, ap₂, arith}
use Rattle.std.specs.{List.sum_by, Option.is_some, Prelude.IfSome, Prelude.MatchOption}
use Rattle.loc_spec_text.specs.{Limits.most_points, Reading.all_rings}
use Rattle.loc_rings.specs.Layers.{layer_points}
use Rattle.loc_rings.proofs.layers.Layer.has_room.Goals as goal

room : (r : Option ℕ) (n : ℕ) → MatchOption r (most_points < n) (λ k. k ≡ n) → IfSome r (λ k. k ≤ most_points) → is_some r ≡ nat_le n most_points
room None n past within = let no : false ≡ nat_le n most_points = grind (arith, past) in no
room (Some k) n same within = let yes : true ≡ nat_le n most_points = grind (arith, same, within) in yes

pub returns : goal.returns
returns c = c.is_some.ensures ∙ (room _ _ c.points_with.ensures.count c.points_with.ensures.within ∙ ap₂ (λ n ps. nat_le (n + sum_by length (all_rings ps)) most_points) (c.self.invariant.1 ∙ ap layer_points c.self.view_is) c.rings.ensures)
