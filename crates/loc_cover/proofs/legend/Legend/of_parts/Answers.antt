use Rattle.std.proofs.Common.{◌≡◌, ◌<◌, ◌≤◌, ◌∙◌, ℕ, Vec, Global, length, map, ap, sym, subst}
use Rattle.std.specs.{Prelude.IfOk, List.All}
use Rattle.std.proofs.lemmas.List.{length-map}
use Rattle.loc_spec_plane.specs.Covers.{feature_count}
use Rattle.loc_spec_text.specs.Limits.{most_features}
use Rattle.loc_cover.specs.Legends.{AreLists}
use Rattle.loc_cover.proofs.legend.Legend.of_parts.Goals as goal
use Rattle.loc_cover.proofs.legend.Legend.of_parts.Goals.{In_ok-lists}

-- there are as many rows as there were lists
as_many_ids : (c : In_ok-lists) → length c.in_ok-ids.ids ≡ length c.args.ids.items
as_many_ids c = ap length c.in_ok-ids.ensures ∙ length-map c.args.ids.items (λ (v : Vec ℕ Global). v.items)

as_many_lists : (c : In_ok-lists) → length c.in_ok-lists.lists ≡ length c.args.covers.items
as_many_lists c = ap length c.in_ok-lists.ensures ∙ length-map c.args.covers.items (λ (v : Vec ℕ Global). v.items)

pub assemble-requires-clause-few_features : goal.assemble-requires-clause-few_features
assemble-requires-clause-few_features c = subst (λ n. n ≤ most_features) (sym (as_many_ids c)) c.requires.few_features

pub assemble-requires-clause-features : goal.assemble-requires-clause-features
assemble-requires-clause-features c = subst (λ n. feature_count c.args.table.now ≤ n) (sym (as_many_ids c)) c.requires.features

pub assemble-requires-clause-lists : goal.assemble-requires-clause-lists
assemble-requires-clause-lists c = subst (AreLists (length c.args.table.now.ends)) (sym c.in_ok-lists.ensures) c.requires.covers

pub assemble-requires-clause-lists_named : goal.assemble-requires-clause-lists_named
assemble-requires-clause-lists_named c =
    subst (All (All (λ f. f < length c.in_ok-ids.ids))) (sym c.in_ok-lists.ensures)
    (subst (λ n. All (All (λ f. f < n)) (map (λ (v : Vec ℕ Global). v.items) c.args.covers.items)) (sym (as_many_ids c)) c.requires.covers_named)

pub assemble-requires-clause-above_in_range : goal.assemble-requires-clause-above_in_range
assemble-requires-clause-above_in_range c = subst (λ n. All (λ k. k < n) c.args.cover_of.items) (sym (as_many_lists c)) c.requires.cover_in_range

pub assemble-requires-clause-floors_in_range : goal.assemble-requires-clause-floors_in_range
assemble-requires-clause-floors_in_range c = c.requires.floors_in_range

pub returns-clause-ids : goal.returns-clause-ids
returns-clause-ids c = subst (λ ids. IfOk c.assemble.result (λ rows. rows.ids ≡ ids)) c.in_ok-ids.ensures c.assemble.ensures.ids

pub returns-clause-covers : goal.returns-clause-covers
returns-clause-covers c = subst (λ lists. IfOk c.assemble.result (λ rows. rows.lists ≡ lists)) c.in_ok-lists.ensures c.assemble.ensures.lists
