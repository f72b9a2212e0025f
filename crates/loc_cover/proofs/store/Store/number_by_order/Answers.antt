use Rattle.std.proofs.Common.{◌≡◌, ◌<◌, ◌≤◌, false, [], ◌∷◌, length, get_or, map, refl, sym, ◌∙◌, ap, subst, inl, inr, arith}
use Rattle.std.proofs.lemmas.List.{get_or_push, length-append}
use Rattle.std.specs.Prelude.{sum_by}
use Rattle.loc_spec_plane.specs.{Lists.sorted_set, Covers.list_before}
use Rattle.loc_spec_text.specs.Limits.{most_members}
use Rattle.loc_cover.specs.Stores.{StoreRows, IsStore, is_among, lists_of}
use Rattle.loc_cover.proofs.Stored.{entry_past, is_new, number_is}
use Rattle.loc_cover.proofs.store.Store.number_by_order.Goals as goal

pub returns-in-Some-clause-stands : goal.returns-in-Some-clause-stands
returns-in-Some-clause-stands c = c.requires.stands

pub returns-in-Some-clause-kept : goal.returns-in-Some-clause-kept
returns-in-Some-clause-kept c = inl refl

pub returns-in-Some-clause-refused : goal.returns-in-Some-clause-refused
returns-in-Some-clause-refused c = tt

pub returns-in-Some-clause-found : goal.returns-in-Some-clause-found
returns-in-Some-clause-found c =
    let stands = subst IsStore (sym c.self.view_is) c.requires.stands in
    subst (λ (s : StoreRows). get_or s.rows c.in-Some.number [] ≡ c.args.list.now) c.self.view_is
    (number_is (λ r. r.now) c.args.list.now c.self.inside.numbers.entries (map (λ r. r.now) c.self.inside.rows.items) c.in-Some.number stands.named stands.within (sym c.get.ensures.value ∙ (sym c.copied.ensures ∙ c.in-Some.is))).1

pub returns-in-Some-clause-within : goal.returns-in-Some-clause-within
returns-in-Some-clause-within c =
    let stands = subst IsStore (sym c.self.view_is) c.requires.stands in
    subst (λ (s : StoreRows). c.in-Some.number < length s.rows) c.self.view_is
    (number_is (λ r. r.now) c.args.list.now c.self.inside.numbers.entries (map (λ r. r.now) c.self.inside.rows.items) c.in-Some.number stands.named stands.within (sym c.get.ensures.value ∙ (sym c.copied.ensures ∙ c.in-Some.is))).0

pub overflow_sub-self-inside : goal.overflow_sub-self-inside
overflow_sub-self-inside c = subst (λ (s : StoreRows). s.members ≤ most_members) (sym c.self.view_is) c.requires.stands.few

pub returns-then-list-self-clause-stands : goal.returns-then-list-self-clause-stands
returns-then-list-self-clause-stands c = tt

pub returns-then-list-self-clause-within : goal.returns-then-list-self-clause-within
returns-then-list-self-clause-within c = tt

pub returns-then-list-self-clause-found : goal.returns-then-list-self-clause-found
returns-then-list-self-clause-found c = tt

pub returns-then-list-self-clause-kept : goal.returns-then-list-self-clause-kept
returns-then-list-self-clause-kept c = tt

pub returns-then-list-self-clause-refused : goal.returns-then-list-self-clause-refused
returns-then-list-self-clause-refused c =
    let stands = subst IsStore (sym c.self.view_is) c.requires.stands in
    let few : c.self.inside.members ≤ most_members = stands.few in
    subst (λ (s : StoreRows). most_members < sum_by length (sorted_set list_before (c.args.list.now ∷ lists_of s))) c.self.view_is
    (entry_past (λ r. r.now) c.args.list (map (λ r. r.now) c.self.inside.rows.items) c.self.inside.numbers.entries c.self.inside.members stands (is_new (λ r. r.now) c.args.list.now c.self.inside.numbers.entries (sym c.get.ensures.value ∙ (sym c.copied.ensures ∙ c.in_default.is))) (omega (arith, few, c.if-list-self.true)))

pub put-requires-clause-new : goal.put-requires-clause-new
put-requires-clause-new c = subst (λ (s : StoreRows). is_among c.args.list.now s.lists ≡ false) c.self.view_is (is_new (λ r. r.now) c.args.list.now c.self.inside.numbers.entries (sym c.get.ensures.value ∙ (sym c.copied.ensures ∙ c.in_default.is)))

pub put-requires-clause-stands : goal.put-requires-clause-stands
put-requires-clause-stands c = c.requires.stands

pub put-requires-clause-room : goal.put-requires-clause-room
put-requires-clause-room c = omega (arith, ap (λ (s : StoreRows). s.members) c.self.view_is, c.requires.stands.few, c.if-list-self.false)

pub returns-clause-stands : goal.returns-clause-stands
returns-clause-stands c = c.in_ok-put.ensures.stands

pub returns-clause-within : goal.returns-clause-within
returns-clause-within c = omega (arith, c.in_ok-put.ensures.number, ap length c.in_ok-put.ensures.rows, length-append c.args.self.now.rows (c.args.list.now ∷ []))

pub returns-clause-found : goal.returns-clause-found
returns-clause-found c = ap (λ rows. get_or rows c.in_ok-put.field-0 []) c.in_ok-put.ensures.rows ∙ get_or_push c.args.self.now.rows c.args.list.now [] c.in_ok-put.field-0 (sym c.in_ok-put.ensures.number)

pub returns-clause-kept : goal.returns-clause-kept
returns-clause-kept c = inr c.in_ok-put.ensures.rows

pub returns-clause-refused : goal.returns-clause-refused
returns-clause-refused c = tt
