-- What is told of the files in memory where one of them was put there, or has grown.
use Rattle.std.proofs.Common.{◌≡◌, ◌≢◌, ℕ, Bool, true, false, cond, List, ◌++◌, length, take, Some, refl, sym, ◌∙◌, ap, arith}
use Rattle.std.proofs.{lemmas.List.take_all, lemmas.Slice.Eq.bytes_eq-Decides}
use Rattle.std.specs.{Str.bytes_eq, Io.KnownBytes.Appends}
use Rattle.loc_io.specs.{Files.file_of, Files.Grows, Files.Puts, Meaning.bytes_of, Meaning.holds, MemShelf.told_of}
use Rattle.loc_io.specs.declared.mem_file.MemFile.{MemFile}

module _ (name bytes : List ℕ) (files new : List MemFile) (puts : Puts name bytes files new) where
  -- the file of this name is told
  pub told_put : told_of (file_of new name) ≡ holds bytes
  told_put = ap told_of (puts name ∙ ap (λ (b : Bool). cond b (Some bytes) (file_of files name)) ((bytes_eq-Decides name name).1 refl))

  -- any other file is told as before
  pub told_beside : (q : List ℕ) → q ≢ name → told_of (file_of new q) ≡ told_of (file_of files q)
  told_beside q differ =
      let other : bytes_eq name q ≡ false = elim (bytes_eq name q) as (λ b. bytes_eq name q ≡ b → b ≡ false) [ true ↦ λ e. absurd (differ (sym ((bytes_eq-Decides name q).0 e))) | false ↦ λ _. refl ] refl in
      ap told_of (puts q ∙ ap (λ (b : Bool). cond b (Some bytes) (file_of files q)) other)

module _ (name piece : List ℕ) (files new : List MemFile) (grows : Grows name piece files new) where
  -- the file that grew is told to have grown by the piece
  pub told_grows : Appends (bytes_of (told_of (file_of files name))) (bytes_of (told_of (file_of new name))) (take (length piece) piece)
  told_grows =
      let here : bytes_eq name name ≡ true = (bytes_eq-Decides name name).1 refl in
      let grown : file_of new name ≡ Some (grows.bytes ++ piece) = grows.puts name ∙ ap (λ (b : Bool). cond b (Some (grows.bytes ++ piece)) (file_of files name)) here in
      rw (take_all (length piece) piece (omega arith), grows.there, grown) refl

  -- any other file is told as before
  pub told_keeps : (q : List ℕ) → name ≢ q → told_of (file_of new q) ≡ told_of (file_of files q)
  told_keeps q differ = told_beside name (grows.bytes ++ piece) files new grows.puts q (λ e. differ (sym e))
