use Rattle.std.proofs.Common.{◌<◌, ℕ, List, length, filter, sym, ◌∙◌, ap, subst}
use Rattle.std.specs.Prelude.{All, nat_lt}
use Rattle.std.proofs.lemmas.List.Elements.{All-filter}
use Rattle.loc_spec_plane.specs.Lists.{is_in, IsRisingListOf}
use Rattle.loc_dissolve.specs.{Grouping.IsGroupRow, Keeping.odd_features}
use Rattle.loc_dissolve.proofs.crossing.Crossing.note.Goals as goal

pub put_groups-requires-2 : goal.put_groups-requires-2
put_groups-requires-2 c = record {
  named = subst (All (λ f. f < length c.args.groups.now)) (sym (c.deref-3.ensures.value ∙ (c.in_ok-put_listed.ensures ∙ ap (filter (λ f. is_in f c.args.above.now)) (c.deref.ensures.value ∙ c.in_ok-put_odd.ensures))))
      (All-filter (λ f. is_in f c.args.above.now) (λ f. f < length c.args.groups.now) (odd_features c.args.marks.now) c.requires.named);
}

pub returns : goal.returns
returns c = record {
  odd = subst (λ (fs : List ℕ). IsGroupRow c.args.groups.now fs c.put_groups.new.row.items) (c.deref-2.ensures.value ∙ c.in_ok-put_odd.ensures) c.in_ok-put_groups.ensures;
  inside = subst (λ (fs : List ℕ). IsGroupRow c.args.groups.now fs c.put_groups-2.new.row.items) (c.deref-3.ensures.value ∙ (c.in_ok-put_listed.ensures ∙ ap (filter (λ f. is_in f c.args.above.now)) (c.deref.ensures.value ∙ c.in_ok-put_odd.ensures))) c.in_ok-put_groups-2.ensures;
  distinct = subst (λ (ns : List ℕ). IsRisingListOf nat_lt (λ n. is_in n ns) c.put_distinct.new.row.items) c.deref-4.ensures.value c.in_ok-put_distinct.ensures;
}
