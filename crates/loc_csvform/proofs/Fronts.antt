-- What the reading of a record takes from the front of what a reader has left.
use Rattle.std.proofs.Common.{◌≡◌, ℕ, ◌+◌, ◌<◌, List, [], ◌∷◌, Bool, true, false, length, Option, Some, None, Bor, refl, sym, ◌∙◌, ap, subst}
use Rattle.std.specs.Prelude.{unwrap_or}
use Rattle.csv.specs.{Machine.Read, Machine.next_record, declared.parser.State.State}
use Rattle.csv.specs.Reading.{NextIs, ReadRecord, ReadsNext, ReadsOn, default_config, pending_of, records_from, source_of}
use Rattle.loc_csvform.specs.Records.{IsReading, Takes, TextReader, TookFront, bytes_of}
use Rattle.loc_csvform.proofs.Machine.{first_more, first_none, next_leaves, next_shorter}

-- the next record and what is behind it
next_found : (read : Option Read) (fields : List (List ℕ)) (s : State) (rest : List ℕ) → NextIs read true fields s rest → read ≡ Some (fields, s, rest)
next_found None fields s rest is = absurd (cc is)
next_found (Some p) fields s rest is = rw (is.1, is.2, is.3) refl

next_none : (read : Option Read) (fields : List (List ℕ)) (s : State) (rest : List ℕ) → NextIs read false fields s rest → read ≡ None
next_none None fields s rest is = refl
next_none (Some p) fields s rest is = absurd (cc is.0)

-- the bytes that a reader has are known after it took a record
record Found (s : State) (xs : List ℕ) (pending : Option (List ℕ)) (fields : List (List ℕ)) (s2 : State) : Type 0 where
  rest : List ℕ
  known : pending ≡ Some rest
  next : next_record default_config s [] [] xs ≡ Some (fields, s2, rest)

found : (s : State) (xs : List ℕ) (pending : Option (List ℕ)) (fields : List (List ℕ)) (s2 : State) → ReadsNext default_config s (Some xs) pending true fields s2 → Found s xs pending fields s2
found s xs None fields s2 is = absurd is
found s xs (Some rest) fields s2 is = record { rest = rest; known = refl; next = next_found (next_record default_config s [] [] xs) fields s2 rest is }

none_left : (s : State) (xs : List ℕ) (pending : Option (List ℕ)) (fields : List (List ℕ)) (s2 : State) → ReadsNext default_config s (Some xs) pending false fields s2 → next_record default_config s [] [] xs ≡ None
none_left s xs None fields s2 is = absurd is
none_left s xs (Some rest) fields s2 is = next_none (next_record default_config s [] [] xs) fields s2 rest is

-- what is read from a reader of a text
abbrev rem : Bor (List ℕ) → Option (List ℕ)
rem text = Some text.now

module _ (old new : TextReader) (fields : List (List ℕ)) (reading : IsReading old) where
  takes_front : ReadRecord rem old new true fields → ReadsOn old new → TookFront old new fields
  takes_front is on =
      let f = found old.state (bytes_of old) (pending_of (rem new.rdr) new) fields new.state (rw (reading.config, reading.bytes) at is.0) in
      let source : source_of rem new ≡ Some f.rest = rw is.1 f.known in
      let bytes : bytes_of new ≡ f.rest = ap (λ o. unwrap_or o []) source in
      let left = next_leaves default_config old.state (bytes_of old) (fields, new.state, f.rest) f.next in
      record {
        reading = record {
          config = is.2 ∙ reading.config;
          trim = is.3 ∙ reading.trim;
          ready = (on.4 reading.ready).0;
          between = left.between;
          bytes = source ∙ ap Some (sym bytes);
        };
        front = first_more default_config old.state (bytes_of old) (fields, new.state, f.rest) reading.between f.next ∙ ap (λ rest. fields ∷ records_from default_config (length rest + 1) new.state rest) (sym bytes);
        shorter = subst (λ rest. length rest < length (bytes_of old)) (sym bytes) (next_shorter default_config old.state (bytes_of old) (fields, new.state, f.rest) reading.between f.next);
        short = left.short;
      }

  pub takes : (t : Bool) → ReadRecord rem old new t fields → (t ≡ true → ReadsOn old new) → Takes old new fields t
  takes true is on = takes_front is (on refl)
  takes false is on = first_none default_config old.state (bytes_of old) reading.between (none_left old.state (bytes_of old) (pending_of (rem new.rdr) new) fields new.state (rw (reading.config, reading.bytes) at is.0))
