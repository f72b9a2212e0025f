use Rattle.std.proofs.Common.{◌≡◌, ℕ, ◌+◌, ◌≤◌, ◌++◌, ◌∷◌, [], false, Bor, List, length, map, sym, ◌∙◌, ap, subst, arith}
use Rattle.std.specs.{BTreeMap.insert_entry, Cmp.Lexicographic.slice_cmp, Ordering.nat_cmp}
use Rattle.std.proofs.lemmas.List.{length-map, map_push}
use Rattle.loc_spec_text.specs.Limits.{most_members}
use Rattle.loc_cover.specs.Stores.{AreShort, StoreRows, IsStore, is_among}
use Rattle.loc_cover.proofs.{ShortLists.short_kept, Stored.entry_stands, Stored.few_rows, Stored.stored}
use Rattle.loc_cover.proofs.store.Store.put.Goals as goal

pub invariant_of-self : goal.invariant_of-self
invariant_of-self c = subst (λ xs. AreShort (map (λ row. row.now) xs) c.self.inside.short.items) (sym c.in_err-push.ensures.items) c.self.invariant

pub invariant_of-self-in_err-insert : goal.invariant_of-self-in_err-insert
invariant_of-self-in_err-insert c =
    let key : Bor (List ℕ) = record { ref_ptr = c.in_ok-row.field-0.ref_ptr; now = c.in_ok-row.field-0.now } in
    let rows = ap (map (λ row. row.now)) c.in_ok-push.ensures.items ∙ map_push (λ row. row.now) c.self.inside.rows.items key in
    subst (λ xs. AreShort xs c.self.inside.short.items) (sym rows) (short_kept (map (λ row. row.now) c.self.inside.rows.items) key.now c.self.inside.short.items c.self.invariant)

pub invariant_of-self-2 : goal.invariant_of-self-2
invariant_of-self-2 c =
    let key : Bor (List ℕ) = record { ref_ptr = c.in_ok-row.field-0.ref_ptr; now = c.in_ok-row.field-0.now } in
    let rows = ap (map (λ row. row.now)) c.in_ok-push.ensures.items ∙ map_push (λ row. row.now) c.self.inside.rows.items key in
    subst (λ xs. AreShort xs c.self.inside.short.items) (sym rows) (short_kept (map (λ row. row.now) c.self.inside.rows.items) key.now c.self.inside.short.items c.self.invariant)

pub overflow_cast-number : goal.overflow_cast-number
overflow_cast-number c =
    let same : map (λ row. row.now) c.self.inside.rows.items ≡ c.args.self.now.rows = ap (λ (s : StoreRows). s.rows) c.self.view_is in
    omega (arith, few_rows c.args.self.now c.requires.stands, length-map c.self.inside.rows.items (λ row. row.now), ap length same, c.len-number.ensures)

pub returns-clause-stands : goal.returns-clause-stands
returns-clause-stands c =
    let key : Bor (List ℕ) = record { ref_ptr = c.in_ok-row.field-0.ref_ptr; now = c.in_ok-row.field-0.now } in
    let old = map (λ row. row.now) c.self.inside.rows.items in
    let entries = c.insert.new.self.entries in
    let is : c.in_ok-row.field-0.now ≡ c.args.list.now = c.in_ok-row.ensures in
    let stands = subst IsStore (sym c.self.view_is) c.requires.stands in
    let new = subst (λ xs. is_among xs (map (λ e. e.0.now) c.self.inside.numbers.entries) ≡ false) (sym is) (subst (λ (s : StoreRows). is_among c.args.list.now s.lists ≡ false) (sym c.self.view_is) c.requires.new) in
    let members : c.self.inside.members + length c.args.list.now ≡ c.self.inside.members + length c.in_ok-row.field-0.now = ap (λ xs. c.self.inside.members + length xs) (sym is) in
    let room : c.self.inside.members + length c.in_ok-row.field-0.now ≤ most_members = (let same = ap (λ (s : StoreRows). s.members) c.self.view_is in omega (arith, same, members, c.requires.room)) in
    let number : c.len-number.result ≡ length (map (λ row. row.now) c.self.inside.rows.items) = (let size = length-map c.self.inside.rows.items (λ row. row.now) in omega (arith, size, c.len-number.ensures)) in
    let rows = ap (map (λ row. row.now)) c.in_ok-push.ensures.items ∙ map_push (λ row. row.now) c.self.inside.rows.items key in
    let put = c.in_ok-insert.ensures.entries ∙ ap (insert_entry (λ x y. slice_cmp nat_cmp x.now y.now) c.self.inside.numbers.entries key) number in
    subst IsStore (sym (ap (λ xs. stored (λ r. r.now) xs entries (c.self.inside.members + length c.args.list.now)) rows ∙ (ap (λ es. stored (λ r. r.now) (old ++ key.now ∷ []) es (c.self.inside.members + length c.args.list.now)) put ∙ ap (stored (λ r. r.now) (old ++ key.now ∷ []) (insert_entry (λ x y. slice_cmp nat_cmp x.now y.now) c.self.inside.numbers.entries key (length old))) members)))
    (entry_stands (λ r. r.now) key old c.self.inside.numbers.entries c.self.inside.members stands new room)
