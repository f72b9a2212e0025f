-- The bytes of a cover list: its length, and its members.
use Rattle.std.proofs.Common.{◌≡◌, ℕ, Bool, List, [], ◌∷◌, ◌++◌, length, map, refl, sym, ◌∙◌, ap, append-nil}
use Rattle.std.specs.{Int.w32, Int.to_be_bytes, List.flat_map}
use Rattle.loc_spec_index.specs.declared.Part.TheVariants.{Covers}
use Rattle.loc_spec_index.specs.IndexFile.{number, order, spelled_all}
use Rattle.loc_write.specs.Bytes.{cover_bytes, number_bytes}

pub members : (bound : ℕ) (list : List ℕ) (row : ℕ) (holds : Bool) → spelled_all (map (number w32 bound) list ++ order Covers row holds ∷ []) ≡ flat_map number_bytes list
members bound [] row holds = refl
members bound (n ∷ list) row holds = ap (λ l. to_be_bytes w32 n ++ l) (members bound list row holds) ∙ ap (λ l. l ++ flat_map number_bytes list) (sym (append-nil (to_be_bytes w32 n)))

pub cover-text : (list : List ℕ) → number_bytes (length list) ++ flat_map number_bytes list ≡ cover_bytes list
cover-text list = ap (λ l. l ++ flat_map number_bytes list) (append-nil (to_be_bytes w32 (length list))) ∙ ap (λ l. to_be_bytes w32 (length list) ++ l) (sym (members 0 list 0 _))
