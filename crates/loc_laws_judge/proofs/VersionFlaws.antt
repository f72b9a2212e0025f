-- What is told of versions, where no two edges conflict.
use Rattle.std.proofs.Common.{◌≡◌, ℕ, ◌<◌, List, length, refl, sym, subst, inl, inr, arith}
use Rattle.std.specs.Prelude.{Option, Some, None, ◌⊎◌, option_map}
use Rattle.std.proofs.lemmas.Option.{none-some, same_Some}
use Rattle.loc_spec_plane.specs.Tables.{NoConflict}
use Rattle.loc_spec_index.specs.{Nodes.Reads, Content.Content, Content.root_of, Content.table_in}
use Rattle.loc_spec_index.specs.TrueIndex.{IsTrueVersion, alive_count}
use Rattle.loc_spec_index.specs.Flaws.{Flaw, IsDeepIn, IsMisread, deep, wrong_list}
use Rattle.loc_laws_index.proofs.{FlawKinds.least_version, NoFlaw.no_deep, NoFlaw.no_wrong_list}
use Rattle.loc_laws_judge.specs.FirstFlaw.{IsReadable, first_difference, read_within, reading_flaw, room_for, untrue_version, version_flaw, version_list}
use Rattle.loc_laws_judge.proofs.Differences.{differ_at, same_lists}
use Rattle.loc_laws_judge.proofs.FirstSome.{none_below, some_below}
use Rattle.loc_laws_judge.proofs.OfKind.{IsLeastOf, IsTold, NoneOf}
use Rattle.loc_laws_judge.proofs.ReadWithin.{StaysWithin, not_read, read_is}
use Rattle.loc_laws_judge.proofs.{Room.deep_past, Room.shallow_within, VersionList.version_list_is}

-- the flaw is what is wrong with version i
abbrev pub IsOfVersion : Content → ℕ → Flaw → Type 0
IsOfVersion c i flaw = ((flaw ≡ deep i) × IsDeepIn c i) ⊎ ((p : ℕ) × (flaw ≡ wrong_list i p) × IsMisread c i p)

mapped : (i : ℕ) (o : Option ℕ) (flaw : Flaw) → option_map (wrong_list i) o ≡ Some flaw → (p : ℕ) × (o ≡ Some p) × (flaw ≡ wrong_list i p)
mapped i None flaw h = absurd (none-some flaw h)
mapped i (Some p) flaw h = (p, refl, sym (same_Some (wrong_list i p) flaw h))

not_mapped : (i : ℕ) (o : Option ℕ) → option_map (wrong_list i) o ≡ None → o ≡ None
not_mapped i None h = refl
not_mapped i (Some p) h = absurd (none-some (wrong_list i p) (sym h))

module _ (c : Content) (r : IsReadable c) (quiet : NoConflict (table_in c)) where
  module _ (i : ℕ) where
    abbrev room : ℕ
    room = room_for (alive_count (table_in c) i)

    abbrev read : Option (List ℕ)
    read = read_within c.nodes i room (root_of c i)

    is_read : (items : List ℕ) → read ≡ Some items → Reads c.nodes i (root_of c i) items × StaysWithin c.nodes i (r.children i) room (root_of c i)
    is_read items is = read_is c.nodes i (r.children i) room (root_of c i) items (r.roots i) is

    right_where_none : (o : Option (List ℕ)) → read ≡ o → reading_flaw i (version_list (table_in c) i) o ≡ None → IsTrueVersion c i
    right_where_none None is h = absurd (none-some (deep i) (sym h))
    right_where_none (Some items) is h =
        let reads = is_read items is in
        let same : items ≡ version_list (table_in c) i = same_lists items (version_list (table_in c) i) (not_mapped i (first_difference items (version_list (table_in c) i)) h) in
        record {
          list = version_list (table_in c) i;
          is_version = version_list_is (table_in c) r.table quiet i;
          shallow = shallow_within c.nodes i (root_of c i) (alive_count (table_in c) i) reads.1;
          reads = subst (Reads c.nodes i (root_of c i)) same reads.0;
        }

    -- a version with which nothing is wrong is true
    version_right : version_flaw c i ≡ None → IsTrueVersion c i
    version_right h = right_where_none read refl h

    found_wrong : (flaw : Flaw) (o : Option (List ℕ)) → read ≡ o → reading_flaw i (version_list (table_in c) i) o ≡ Some flaw → IsOfVersion c i flaw
    found_wrong flaw None is h =
        let path = not_read c.nodes i (r.children i) room (root_of c i) is in
        inl (sym (same_Some (deep i) flaw h), (path.0, path.1, deep_past (alive_count (table_in c) i) (length path.0) path.2))
    found_wrong flaw (Some items) is h =
        let reads = is_read items is in
        let found = mapped i (first_difference items (version_list (table_in c) i)) flaw h in
        inr (
          found.0,
          found.2,
          record {
            list = version_list (table_in c) i;
            read = items;
            is_version = version_list_is (table_in c) r.table quiet i;
            shallow = shallow_within c.nodes i (root_of c i) (alive_count (table_in c) i) reads.1;
            reads = reads.0;
            differ = differ_at items (version_list (table_in c) i) found.0 found.1;
          },
        )

    -- what is found of a version is wrong with it
    version_wrong : (flaw : Flaw) → version_flaw c i ≡ Some flaw → IsOfVersion c i flaw
    version_wrong flaw h = found_wrong flaw read refl h

  least_of_version : (n : ℕ) → n < length c.corners → ((m : ℕ) → m < n → IsTrueVersion c m) → (flaw : Flaw) → IsOfVersion c n flaw → IsLeastOf c 8 flaw
  least_of_version n fits right flaw (inl is) = subst (IsLeastOf c 8) (sym is.0) (record { is_of = refl; there = (fits, is.1); least = least_version c n right })
  least_of_version n fits right flaw (inr is) = subst (IsLeastOf c 8) (sym is.1) (record { is_of = refl; there = (fits, is.2); least = least_version c n right })

  none_of_versions : ((i : ℕ) → i < length c.corners → IsTrueVersion c i) → NoneOf c 8
  none_of_versions right (deep i) h same = no_deep c i (right i h.0) h
  none_of_versions right (wrong_list i p) h same = no_wrong_list c i p (right i h.0) h
  none_of_versions right _ h same = omega (arith, same)

  pub version_told : IsTold c 8 ((i : ℕ) → i < length c.corners → IsTrueVersion c i) (untrue_version c)
  version_told = record {
    right = λ h i less. version_right i (none_below (version_flaw c) (length c.corners) h i less);
    least = λ flaw h.
        (let l = some_below (version_flaw c) (length c.corners) flaw h in
        least_of_version l.number l.below (λ m less. version_right m (l.earlier m (omega arith) less)) flaw (version_wrong l.number flaw l.found));
    none = none_of_versions;
  }
