-- The fault that is found field by field is the first fault of the bytes, and where none is found they are the file.
use Rattle.std.proofs.Common.{◌≡◌, ℕ, ◌+◌, ◌≤◌, Bool, true, false, List, [], ◌∷◌, ◌++◌, length, take, drop, refl, sym, ◌∙◌, ap, subst, append_assoc, append-nil, Option, Some, None, length-take-le}
use Rattle.std.specs.Prelude.{nat_lt, if◌then◌else◌, is_none}
use Rattle.std.proofs.lemmas.Bool.{and_from, ltb-true, ltb-false}
use Rattle.std.proofs.lemmas.List.{length-append, take-append-drop}
use Rattle.loc_spec_index.specs.{declared.IndexFault.IndexFault, Content.Content}
use Rattle.loc_spec_index.specs.declared.IndexFault.TheVariants as fault
use Rattle.loc_spec_index.specs.IndexFile.{Field, fields, spelled, spelled_all, with_bytes, fault_at, is_right, are_right, IsShaped, IsFileOf, AreReached, HasFault, short, wrong, long}
use Rattle.loc_laws_index.specs.IndexReading.{AreBytes, fault_from, first_of}
use Rattle.loc_laws_index.proofs.{Progress.are_right-append, Progress.spelled_all-append, RightFields.right_anywhere}
use Rattle.loc_laws_index.proofs.Told.{Told, bytes_behind}

-- the bytes are the file of the content, or this is their first fault
abbrev pub Judged : ℕ → Content → List ℕ → Option IndexFault → Type 0
Judged v c bytes None = IsFileOf v c bytes
Judged v c bytes (Some f) = HasFault bytes f

module _ (v : ℕ) (c : Content) (bytes : List ℕ) (K : List ℕ → Type 0) (shaped : IsShaped v c) where
  file : (earlier : List Field) (front : List ℕ) → fields v c ≡ earlier ++ [] → are_right earlier ≡ true → front ≡ spelled_all earlier → IsFileOf v c front
  file earlier front is right spelled_is =
      let whole : fields v c ≡ earlier = is ∙ append-nil earlier in
      record { shaped = shaped; right = ap are_right whole ∙ right; spelled = spelled_is ∙ ap spelled_all (sym whole) }

  reached : (f : Field) (fs earlier : List Field) (rest : List ℕ) → fields v c ≡ earlier ++ f ∷ fs → are_right earlier ≡ true → bytes ≡ spelled_all earlier ++ rest → AreReached bytes earlier f rest
  reached f fs earlier rest is right begins = record { in_version = v; content = c; later = fs; shaped = shaped; stands = is; right = right; begins = begins }

  -- behind right fields that the bytes begin with, the fields to come are judged
  abbrev pub Judges : List Field → Type 0
  Judges fs = (earlier : List Field) (rest : List ℕ) → fields v c ≡ earlier ++ fs → are_right earlier ≡ true → bytes ≡ spelled_all earlier ++ rest → AreBytes rest → Told fs rest K
      → Judged v c bytes (fault_from (length (spelled_all earlier)) fs rest)

  pub judged : (fs : List Field) → Judges fs
  judged [] earlier [] is right begins small told = file earlier bytes is right (begins ∙ append-nil (spelled_all earlier))
  judged [] earlier (b ∷ rest) is right begins small told = long v c (spelled_all earlier) (b ∷ rest) (file earlier (spelled_all earlier) is right refl) begins (λ e. cc)
  judged (f ∷ fs) earlier rest is right begins small told = by_length (judged fs) (nat_lt (length rest) n) refl
    where
      n : ℕ
      n = length (spelled f)

      held : List ℕ
      held = take n rest

      behind : List ℕ
      behind = drop n rest

      at : ℕ
      at = length (spelled_all earlier)

      longer : length (spelled_all (earlier ++ f ∷ [])) ≡ at + n
      longer = ap length (spelled_all-append earlier (f ∷ []) ∙ ap (λ l. spelled_all earlier ++ l) (append-nil (spelled f))) ∙ length-append (spelled_all earlier) (spelled f)

      goes_on : Judges fs → n ≤ length rest → is_right (with_bytes held f) ≡ true → Judged v c bytes (fault_from (at + n) fs behind)
      goes_on more fits fine =
          let t = told small fits fine in
          let right_f : is_right f ≡ true = ap is_right (sym t.0) ∙ fine in
          let begins_on : bytes ≡ spelled_all (earlier ++ f ∷ []) ++ behind =
          begins ∙ (ap (λ l. spelled_all earlier ++ l) (sym (take-append-drop n rest) ∙ ap (λ l. l ++ behind) (sym t.1)) ∙ (sym (append_assoc (spelled_all earlier) (spelled f) behind)
          ∙ ap (λ l. l ++ behind) (sym (spelled_all-append earlier (f ∷ []) ∙ ap (λ l. spelled_all earlier ++ l) (append-nil (spelled f)))))) in
          subst (λ o. Judged v c bytes (fault_from o fs behind)) longer
          (more (earlier ++ f ∷ []) behind (is ∙ sym (append_assoc earlier (f ∷ []) fs)) (are_right-append earlier (f ∷ []) right (and_from (is_right f) true right_f refl)) begins_on (bytes_behind n rest small) t.2)

      by_fault : Judges fs → n ≤ length rest → (o : Option IndexFault) → fault_at at (with_bytes held f) ≡ o → Judged v c bytes (first_of o (fault_from (at + n) fs behind))
      by_fault more fits (Some g) e = wrong earlier f held behind g (reached f fs earlier (held ++ behind) is right (begins ∙ ap (λ l. spelled_all earlier ++ l) (sym (take-append-drop n rest)))) (length-take-le n rest fits) e
      by_fault more fits None e = goes_on more fits (sym (right_anywhere at (with_bytes held f)) ∙ ap (λ o. is_none o) e)

      by_length : Judges fs → (t : Bool) → nat_lt (length rest) n ≡ t → Judged v c bytes (if t then Some (fault.Short (at + n)) else first_of (fault_at at (with_bytes held f)) (fault_from (at + n) fs behind))
      by_length more true e = short earlier f rest (reached f fs earlier rest is right begins) (ltb-true (length rest) n e)
      by_length more false e = by_fault more (ltb-false (length rest) n e) (fault_at at (with_bytes held f)) refl
