-- Ids and other texts, whose bytes are one field behind their length.
use Rattle.std.proofs.Common.{◌≡◌, ℕ, List, [], ◌∷◌, length, replicate, sym}
use Rattle.std.specs.Prelude.{Result, Ok, Err, IfErr}
use Rattle.std.specs.Int.{w8}
use Rattle.std.proofs.lemmas.List.{length-replicate}
use Rattle.loc_spec_index.specs.{declared.IndexFault.IndexFault, IndexFile.number, IndexFile.text, IndexFile.id_fields}
use Rattle.loc_file.specs.Readings.{Left, IsShort, IsRead, IsWrong, IsRowStop, stop}
use Rattle.loc_file.proofs.{Fields.short-at, Steps.read-along, Steps.fault-first, Steps.fault-next}

pub text-short : {T : Type 0} (r : Result T IndexFault) (count : ℕ) (a : Left) → IfErr r (IsShort count a) → IfErr r (λ f. (held : List ℕ) → length held ≡ count → IsWrong (text held) a f)
text-short (Ok x) count a h = tt
text-short (Err f) count a h = λ held as_many. short-at (text held) count as_many h

-- an id whose bytes are wrong: they can be any of this length
pub at_id : (count : ℕ) {a b : Left} {f : IndexFault} → IsRead (number w8 201 count ∷ []) a b → ((held : List ℕ) → length held ≡ count → IsWrong (text held) b f) → IsRowStop id_fields a f
at_id count {f = f} read wrong =
    let l = length-replicate count 0 in
    stop (replicate count 0) f tt (fault-next _ _ (read-along (number w8 201) (sym l) read) (fault-first _ _ (wrong (replicate count 0) l)))
