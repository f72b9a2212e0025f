-- What a reader of all parts says of the bytes: they are a file, or they have their first fault.
use Rattle.std.proofs.Common.{◌≡◌, ℕ, ◌+◌, ◌<◌, List, ◌++◌, length, refl, sym, ◌∙◌, ap, subst, append-nil, arith}
use Rattle.std.proofs.lemmas.List.{nil_from_length}
use Rattle.loc_spec_index.specs.{declared.IndexFault.IndexFault, Content.Content}
use Rattle.loc_spec_index.specs.declared.IndexFault.TheVariants as fault
use Rattle.loc_spec_index.specs.IndexFile.{Field, fields, spelled, spelled_all, bytes_of, fault_at, with_bytes, IsShaped, IsFileOf, AreReached, HasFault}
use Rattle.loc_spec_index.specs.IndexFile as file
use Rattle.loc_file.specs.Readings.{Left, IsRead, IsWrong, IsFaultIn, IsStop, short, wrong, stop, no_memory}
use Rattle.loc_file.specs.Refused.{IsRefused, faulty, unheld}

module _ (bytes : List ℕ) (start : Left) (all : start.rest ≡ bytes) (none : start.offset ≡ 0) (v : ℕ) where
  has_fault : (c : Content) (f : IndexFault) → IsShaped v c → IsFaultIn (fields v c) start f → HasFault bytes f
  has_fault c f shaped w = by f w.wrong
    where
      offset : length (spelled_all w.earlier) ≡ w.here.offset
      offset = let o = w.read.offset in omega (arith, o, none)

      reached : (rest : List ℕ) → w.here.rest ≡ rest → AreReached bytes w.earlier w.field rest
      reached rest e = record {
        in_version = v;
        content = c;
        later = w.later;
        shaped = shaped;
        stands = w.stands;
        right = w.read.right;
        begins = sym all ∙ (w.read.spelled ∙ ap (λ r. spelled_all w.earlier ++ r) e);
      }

      by : (f : IndexFault) → IsWrong w.field w.here f → HasFault bytes f
      by _ (short lt) = subst (λ n. HasFault bytes (fault.Short (n + length (spelled w.field)))) offset (file.short w.earlier w.field w.here.rest (reached w.here.rest refl) lt)
      by _ (wrong held rest f e as_long is) = file.wrong w.earlier w.field held rest f (reached (held ++ rest) e) as_long (ap (λ n. fault_at n (with_bytes held w.field)) offset ∙ is)

  pub refused : {f : IndexFault} → IsStop (IsShaped v) (fields v) start f → IsRefused bytes f
  refused (stop c f shaped w) = faulty f (has_fault c f shaped w)
  refused no_memory = unheld

  module _ (c : Content) (later : Left) (shaped : IsShaped v c) (read : IsRead (fields v c) start later) where
    pub file-front : IsFileOf v c (bytes_of v c)
    file-front = record { shaped = shaped; right = read.right; spelled = refl }

    pub refused-long : 0 < length later.rest → IsRefused bytes (fault.Long (length later.rest))
    refused-long some = faulty _ (file.long v c (bytes_of v c) later.rest file-front (sym all ∙ read.spelled) (λ e. (let l = ap (λ (r : List ℕ). length r) e in absurd (omega (arith, l, some)))))

    pub file-whole : length later.rest ≡ 0 → IsFileOf v c bytes
    file-whole nothing = record { shaped = shaped; right = read.right; spelled = sym all ∙ (read.spelled ∙ (ap (λ r. bytes_of v c ++ r) (nil_from_length later.rest nothing) ∙ append-nil (bytes_of v c))) }
