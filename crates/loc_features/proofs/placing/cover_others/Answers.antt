use Rattle.std.proofs.Common.{◌≡◌, ℕ, ◌+◌, Bool, true, not, filter, get_or, length, length-append, take, sym, ◌∙◌, ap, cond, arith}
use Rattle.std.proofs.{lemmas.List.length-map, lemmas.List.Filters.length-filter_more}
use Rattle.loc_spec_plane.specs.Lists.{is_in}
use Rattle.loc_laws_any.specs.Unions.{by_place}
use Rattle.loc_features.proofs.Placed.{few_front}
use Rattle.loc_features.proofs.placing.cover_others.Goals as goal

pub cover-requires : goal.cover-requires
cover-requires c =
    let numbers = c.args.numbers.now in
    let places = c.args.places.now in
    let k = c.loop-place.place-index in
    let others : ℕ → Bool = λ f. not (is_in f c.args.touching.now) in
    let here = filter others (take k places) in
    let passes : others (get_or places k 0) ≡ true = ap not (sym c.is_among.ensures ∙ c.if-not-is_among.true) in
    let count : Bool → ℕ = λ b. cond b 1 0 in
    let one = ap count passes in
    record {
      room = omega (
        arith,
        ap length c.loop-place.invariant.covering,
        length-append c.args.lists.now.covering (by_place numbers here),
        length-map here (λ n. get_or numbers n 0),
        length-filter_more others places k 0 c.loop-place-test.true,
        one,
        few_front others places (k + 1),
        c.requires.room,
      );
    }
