use Rattle.std.proofs.Common.{◌-◌, ◌≡◌, ◌∙◌, ap, sym, true, map, string_bytes, take, drop, length, nat_le, take_all, length-drop, arith}
use Rattle.std.specs.List.{list_all}
use Rattle.std.proofs.{lemmas.Bool.le-leb, lemmas.List.take-map, lemmas.List.drop-map, lemmas.List.length-map}
use Rattle.loc_words.specs.{Rows.is_value, Tested.is_tested}
use Rattle.loc_words.proofs.words.are_tested.Goals as goal

pub returns-then-are_values : goal.returns-then-are_values
returns-then-are_values c =
    let words = c.args.words.now in
    let n = c.args.places in
    let enough : nat_le n (length (map string_bytes words)) ≡ true = ap (nat_le n) (length-map words string_bytes) ∙ le-leb n (length words) c.if-words-places.false in
    let fronts : list_all is_value (take n (map string_bytes words)) ≡ true = ap (list_all is_value) (take-map string_bytes n words) ∙ sym c.if-are_values.ensures in
    let rest = take_all (length words - n) (drop n words) (omega (arith, length-drop n words)) in
    simp (enough, fronts) (c.may_follow.ensures ∙ ap (λ l. list_all is_tested (map string_bytes l)) rest ∙ ap (list_all is_tested) (sym (drop-map string_bytes n words)))

pub returns-else-are_values : goal.returns-else-are_values
returns-else-are_values c =
    let words = c.args.words.now in
    let n = c.args.places in
    let enough : nat_le n (length (map string_bytes words)) ≡ true = ap (nat_le n) (length-map words string_bytes) ∙ le-leb n (length words) c.if-words-places.false in
    let fronts = ap (list_all is_value) (take-map string_bytes n words) ∙ sym c.if-are_values.ensures in
    let no = c.if-are_values.false in
    simp (enough, fronts, no)
