-- The computed flaw is the first, and where none is computed the index is true.
use Rattle.std.proofs.Common.{◌≡◌, ℕ, suc, refl, subst, arith}
use Rattle.std.specs.{Prelude.Option, Prelude.Some, Prelude.None, Option.option_or}
use Rattle.std.proofs.lemmas.Option.{none-some, same_Some}
use Rattle.loc_spec_index.specs.{Content.Content, TrueIndex.IsTrueIndex, Flaws.Flaw, Flaws.IsFirst}
use Rattle.loc_laws_index.proofs.{FlawKinds.NoneBelow, NoFlaw.true_has_no_flaw}
use Rattle.loc_laws_judge.specs.FirstFlaw.{FoundIsFirst, IsReadable, NoneIsTrue, TrueHasNone, bare_edge, conflicting_pair, first_flaw, lone_corner, other_source, spare_list, uneven_feature, untrue_cover, untrue_floor, untrue_version}
use Rattle.loc_laws_judge.proofs.{FirstSome.or-none, OfKind.IsTold, OfKind.first_is, OfKind.none_further}
use Rattle.loc_laws_judge.proofs.{Pairs.conflict_told, Pairs.uneven_told, VersionFlaws.version_told}
use Rattle.loc_laws_judge.proofs.Single.{bare_told, cover_told, floor_told, lone_told, source_told, spare_told}

module _ (c : Content) (r : IsReadable c) where
  -- what is found of a kind is the first, or the kind is right and what is found later is the first
  step : {kind : ℕ} {Right : Type 0} {found : Option Flaw} (told : IsTold c kind Right found) (rest : Option Flaw) (flaw : Flaw) → NoneBelow c kind → (Right → NoneBelow c (suc kind) → rest ≡ Some flaw → IsFirst c flaw) → option_or found rest ≡ Some flaw → IsFirst c flaw
  step {kind} {found = Some g} told rest flaw below later h = subst (IsFirst c) (same_Some g flaw h) (first_is c kind below g (told.least g refl))
  step {kind} {found = None} told rest flaw below later h = let right = told.right refl in later right (none_further c kind below (told.none right)) h

  -- kind after kind
  found_first : (flaw : Flaw) → first_flaw c ≡ Some flaw → IsFirst c flaw
  unfolding first_flaw
  found_first flaw =
      step (lone_told c) _ flaw (λ other h less. omega (arith, less)) (λ ended below.
      step (bare_told c) _ flaw below (λ marked below.
      step (uneven_told c) _ flaw below (λ even below.
      step (conflict_told c) _ flaw below (λ apart below.
      step (floor_told c) _ flaw below (λ floors below.
      step (cover_told c) _ flaw below (λ covers below.
      step (spare_told c) _ flaw below (λ named below.
      step (source_told c) _ flaw below (λ sources below.
      step (version_told c r apart) None flaw below (λ versions below h. absurd (none-some flaw h))))))))))

  true_where_none : first_flaw c ≡ None → IsTrueIndex c
  unfolding first_flaw
  true_where_none h =
      let p0 = or-none (lone_corner c) _ h in
      let p1 = or-none (bare_edge c) _ p0.1 in
      let p2 = or-none (uneven_feature c) _ p1.1 in
      let p3 = or-none (conflicting_pair c) _ p2.1 in
      let p4 = or-none (untrue_floor c) _ p3.1 in
      let p5 = or-none (untrue_cover c) _ p4.1 in
      let p6 = or-none (spare_list c) _ p5.1 in
      let p7 = or-none (other_source c) _ p6.1 in
      let p8 = or-none (untrue_version c) _ p7.1 in
      let apart = (conflict_told c).right p3.0 in
      record {
        ended = (lone_told c).right p0.0;
        marked = (bare_told c).right p1.0;
        even = (uneven_told c).right p2.0;
        apart = apart;
        floors = (floor_told c).right p4.0;
        covers = (cover_told c).right p5.0;
        named = (spare_told c).right p6.0;
        sources = (source_told c).right p7.0;
        versions = (version_told c r apart).right p8.0;
      }

-- the computed flaw is the first
pub found_is_first : FoundIsFirst
found_is_first c flaw r = found_first c r flaw

-- where none is computed, the index is true
pub none_is_true : NoneIsTrue
none_is_true c r = true_where_none c r

-- of a true index none is computed
pub true_has_none : TrueHasNone
true_has_none c r is_true = by (first_flaw c) refl
  where
    by : (found : Option Flaw) → first_flaw c ≡ found → found ≡ None
    by None h = refl
    by (Some flaw) h = absurd (true_has_no_flaw c flaw is_true (found_is_first c flaw r h).0)
