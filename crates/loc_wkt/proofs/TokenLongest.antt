-- The longest front of a text that passes a test, and the number that a scan finds.
use Rattle.std.proofs.Common.{◌≡◌, ℕ, zero, suc, ◌+◌, ◌-◌, ◌<◌, ◌≤◌, List, [], ◌∷◌, ◌++◌, Bool, true, false, ◌⊎◌, inl, inr, refl, sym, ◌∙◌, ap, subst, arith, add-one, length, take, drop, get_or, append_assoc}
use Rattle.std.specs.Prelude.{if◌then◌else◌}
use Rattle.std.proofs.{lemmas.Bool.cases_lt, lemmas.Bool.true≢false, lemmas.List.take_more, lemmas.List.append-nil}
use Rattle.std.proofs.Math.Seq.{take-add}
use Rattle.loc_spec_text.specs.Number.{is_number}
use Rattle.loc_wkt.specs.{TokenList.longest_to, TokenList.longest, TokenParts.completes}
use Rattle.loc_wkt.specs.declared.tokens.lengths.Part.{Part}

-- n is the length of the longest front that passes, of those up to m
pub record IsLongestTo (p : List ℕ → Bool) (text : List ℕ) (m n : ℕ) : Type 0 where
  pub at_most : n ≤ m
  pub passes : 0 < n → p (take n text) ≡ true
  pub stops : (k : ℕ) → n < k → k ≤ m → p (take k text) ≡ false

module _ (p : List ℕ → Bool) (text : List ℕ) where
  one_more : (m : ℕ) (b : Bool) → p (take (suc m) text) ≡ b → IsLongestTo p text m (longest_to p m text) → IsLongestTo p text (suc m) (if b then suc m else longest_to p m text)
  one_more m true e h = record { at_most = omega arith; passes = λ _. e; stops = λ k k_lt k_le. absurd (omega arith) }
  one_more m false e h = record {
    at_most = omega (arith, h.at_most);
    passes = h.passes;
    stops = λ k k_lt k_le. at k k_lt k_le (cases_lt m k);
  }
    where
      at : (k : ℕ) → longest_to p m text < k → k ≤ suc m → (m < k) ⊎ (k ≤ m) → p (take k text) ≡ false
      at k k_lt k_le (inl l) = let same : k ≡ suc m = omega arith in ap (λ j. p (take j text)) same ∙ e
      at k k_lt k_le (inr l) = h.stops k k_lt l

  pub longest_to-holds : (m : ℕ) → IsLongestTo p text m (longest_to p m text)
  longest_to-holds zero = record { at_most = omega arith; passes = λ h. absurd (omega arith); stops = λ k k_lt k_le. absurd (omega arith) }
  longest_to-holds (suc m) = one_more m (p (take (suc m) text)) refl (longest_to-holds m)

  pub longest-holds : IsLongestTo p text (length text) (longest p text)
  unfolding longest
  longest-holds = longest_to-holds (length text)

  clash : (m n r : ℕ) → IsLongestTo p text m n → IsLongestTo p text m r → n < r → ⊥
  clash m n r h k l = true≢false (sym (k.passes (omega arith)) ∙ h.stops r l k.at_most)

  pub longest_to-is : (m n : ℕ) → IsLongestTo p text m n → n ≡ longest_to p m text
  longest_to-is m n h = same (cases_lt n (longest_to p m text)) (cases_lt (longest_to p m text) n)
    where
      same : (n < longest_to p m text) ⊎ (longest_to p m text ≤ n) → (longest_to p m text < n) ⊎ (n ≤ longest_to p m text) → n ≡ longest_to p m text
      same (inl l) k = absurd (clash m n (longest_to p m text) h (longest_to-holds m) l)
      same (inr l) (inl k) = absurd (clash m (longest_to p m text) n (longest_to-holds m) h k)
      same (inr l) (inr k) = omega arith

  pub longest-is : (n : ℕ) → IsLongestTo p text (length text) n → n ≡ longest p text
  unfolding longest
  longest-is n h = longest_to-is (length text) n h

  pub longest_to-next : (m n : ℕ) (b : Bool) → p (take (m + 1) text) ≡ b → n ≡ longest_to p m text → (if b then m + 1 else n) ≡ longest_to p (m + 1) text
  longest_to-next m n b h e = rw (add-one, e) (ap (λ c. if c then suc m else longest_to p m text) (sym (rw add-one at h)))

-- The scan of a number. Behind the first i bytes the part q is read.
abbrev pub IsRead : List ℕ → ℕ → Part → Type 0
IsRead text i q = (more : List ℕ) → is_number (take i text ++ more) ≡ completes q more

module _ (text : List ℕ) (i : ℕ) (q : Part) (inside : i < length text) (read : IsRead text i q) where
  byte_read : (more : List ℕ) → is_number (take (i + 1) text ++ more) ≡ completes q (get_or text i 0 ∷ more)
  byte_read more = ap is_number (ap (λ front. front ++ more) (take_more text i 0 inside) ∙ append_assoc (take i text) (get_or text i 0 ∷ []) more) ∙ read (get_or text i 0 ∷ more)

  pub read_next : (next : Part) → ((more : List ℕ) → completes q (get_or text i 0 ∷ more) ≡ completes next more) → IsRead text (i + 1) next
  read_next next h more = byte_read more ∙ h more

  pub scan_stops : ((more : List ℕ) → completes q (get_or text i 0 ∷ more) ≡ false) → (n : ℕ) → n ≡ longest_to is_number i text → n ≡ longest is_number text
  scan_stops h n e = longest-is is_number text n (let so_far : IsLongestTo is_number text i n = subst (λ r. IsLongestTo is_number text i r) (sym e) (longest_to-holds is_number text i) in
      record {
        at_most = omega (arith, so_far.at_most);
        passes = so_far.passes;
        stops = λ k k_lt k_le. at so_far k k_lt (cases_lt i k);
      })
    where
      at : IsLongestTo is_number text i n → (k : ℕ) → n < k → (i < k) ⊎ (k ≤ i) → is_number (take k text) ≡ false
      at so_far k k_lt (inl l) = let parts : k ≡ (i + 1) + (k - (i + 1)) = omega arith in
          ap (λ j. is_number (take j text)) parts ∙ ap is_number (take-add (i + 1) (k - (i + 1)) text) ∙ byte_read (take (k - (i + 1)) (drop (i + 1) text)) ∙ h (take (k - (i + 1)) (drop (i + 1) text))
      at so_far k k_lt (inr l) = so_far.stops k k_lt l

pub read_whole : (text : List ℕ) (i : ℕ) (q : Part) → IsRead text i q → is_number (take i text) ≡ completes q []
read_whole text i q read = ap is_number (sym (append-nil (take i text))) ∙ read []
