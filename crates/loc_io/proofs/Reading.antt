-- A loop of reads.
use Rattle.std.proofs.Common.{◌≡◌, ◌≢◌, ℕ, ◌+◌, ◌<◌, ◌≤◌, Bool, true, List, [], ◌∷◌, ◌++◌, length, take, Option, Some, None, Ok, Err, refl, sym, subst, ◌∙◌, ap, arith, append_assoc, length-append, length-take}
use Rattle.std.proofs.{lemmas.List.append-nil, KnownBytes.Consumes-kept, KnownBytes.Consumes-nil}
use Rattle.std.specs.{Io.KnownBytes.Consumes, Io.KnownBytes.IsAtEnd, declared.alloc.Global.Global}
use Rattle.std.specs.Prelude.{◌||◌, nat_lt, Vec}
use Rattle.loc_io.specs.{Causes.CountsLate, Causes.Rose, Entries.Entries, Entries.taken}
use Rattle.loc_io.specs.Meaning.{Meaning, IsCounted, KeepsFiles, KeepsMaking, NoneLate, Reads, TakesUp, absent, bytes_of}
use Rattle.loc_io.specs.Whole.{ReadsAll, BytesAreTold}
use Rattle.loc_io.specs.declared.whole.ReadAllFault.TheVariants.{ReadFault, TooLong, NoMemory}

-- a call where none has failed is in time
pub in_time_by : (old new : Meaning) → IsCounted old new → NoneLate old new
in_time_by old new counted no_read no_write =
    subst (λ (b : Bool). CountsLate b old.late new.late) (ap (λ (k : ℕ). nat_lt 0 k || nat_lt 0 old.write_faults) no_read ∙ ap (λ (k : ℕ). nat_lt 0 k) no_write) counted

-- and one behind calls that were in time and did not fail
pub late_after : (a b c : Meaning) → NoneLate a b → b.read_faults ≡ a.read_faults → b.write_faults ≡ a.write_faults → IsCounted b c → NoneLate a c
late_after a b c in_time same also counted no_read no_write = in_time_by b c counted (same ∙ no_read) (also ∙ no_write) ∙ in_time no_read no_write

-- so much of the file was read
pub record InHand (name : List ℕ) (limit : ℕ) (old new : Meaning) (all : List ℕ) : Type 0 where
  pub files : KeepsFiles old new
  pub making : KeepsMaking old new
  pub entries : new.entries ≡ old.entries ++ (name, length all) ∷ []
  pub is_open : new.is_open ≡ true
  pub there : old.told name ≢ absent
  pub bytes : Consumes (bytes_of (old.told name)) new.rest all
  pub steady : new.read_faults ≡ old.read_faults
  pub in_time : NoneLate old new
  pub few : length all ≤ limit

-- files stay over two calls
pub files_then : (a b c : Meaning) → KeepsFiles a b → KeepsFiles b c → KeepsFiles a c
files_then a b c p q = λ name. q name ∙ p name

-- the making stays over two calls
pub making_then : (a b c : Meaning) → KeepsMaking a b → KeepsMaking b c → KeepsMaking a c
making_then a b c p q = record { is_making = q.is_making ∙ p.is_making; made = q.made ∙ p.made; write_faults = q.write_faults ∙ p.write_faults }

-- two pieces that were read one after the other
pub Consumes-then : (a b c : Option (List ℕ)) (xs ys : List ℕ) → Consumes a b xs → Consumes b c ys → Consumes a c (xs ++ ys)
Consumes-then None b c xs ys p q = tt
Consumes-then (Some x) None c xs ys p q = absurd p
Consumes-then (Some x) (Some y) None xs ys p q = absurd q
Consumes-then (Some x) (Some y) (Some z) xs ys p q = p ∙ ap (λ (l : List ℕ). xs ++ l) q ∙ sym (append_assoc xs ys z)

-- bytes more are counted at the last name
pub taken_last : (es : Entries) (name : List ℕ) (k n : ℕ) → taken n (es ++ (name, k) ∷ []) ≡ es ++ (name, k + n) ∷ []
taken_last [] name k n = refl
taken_last (e ∷ []) name k n = refl
taken_last (e ∷ f ∷ es) name k n = ap (λ (l : Entries). e ∷ l) (taken_last (f ∷ es) name k n)

-- all was read, so the bytes are those of the file
told_whole : (limit : ℕ) (a b : Option (List ℕ)) (all : List ℕ) (v : Vec ℕ Global) → v.items ≡ all → Consumes a b all → IsAtEnd b → BytesAreTold limit a (Ok v)
told_whole limit None b all v is p end = tt
told_whole limit (Some x) None all v is p end = absurd p
told_whole limit (Some x) (Some y) all v is p end = is ∙ sym (p ∙ ap (λ (l : List ℕ). all ++ l) end ∙ append-nil all)

-- more than the limit was read, so the file is longer
told_long : (limit : ℕ) (a b : Option (List ℕ)) (all : List ℕ) → limit < length all → Consumes a b all → BytesAreTold limit a (Err TooLong)
told_long limit None b all long p = tt
told_long limit (Some x) None all long p = absurd p
told_long limit (Some x) (Some y) all long p = omega (arith, ap length p, length-append all y)

-- want of memory tells nothing of the bytes
told_nothing : (limit : ℕ) (a : Option (List ℕ)) → BytesAreTold limit a (Err NoMemory)
told_nothing limit None = tt
told_nothing limit (Some x) = tt

-- want of memory, whatever was read so far
pub reads_no_memory : (name : List ℕ) (limit : ℕ) (old new : Meaning) (all : List ℕ) → InHand name limit old new all → ReadsAll name limit old new (Err NoMemory)
reads_no_memory name limit old new all hand = record {
  files = hand.files;
  making = hand.making;
  taken = length all;
  entries = hand.entries;
  fault = hand.steady;
  length = hand.few;
  bytes = told_nothing limit (bytes_of (old.told name));
  there = λ gone. absurd (hand.there gone);
  in_time = hand.in_time;
}

-- a failed call tells nothing of the bytes
told_unread : (limit : ℕ) (a : Option (List ℕ)) → BytesAreTold limit a (Err ReadFault)
told_unread limit None = tt
told_unread limit (Some x) = tt

-- a file that was not taken up
pub takes_fault : {T E : Type 0} (name : List ℕ) (limit : ℕ) (old new : Meaning) (e : E) → TakesUp {T = T} name old new (Err e) → ReadsAll name limit old new (Err ReadFault)
takes_fault name limit old new e takes = record {
  files = takes.files;
  making = takes.making;
  taken = 0;
  entries = takes.entries;
  fault = takes.cause.failed;
  length = omega arith;
  bytes = told_unread limit (bytes_of (old.told name));
  there = λ _. tt;
  in_time = in_time_by old new takes.late;
}

-- a file that was taken up, of which nothing was read
pub takes_hand : {T E : Type 0} (name : List ℕ) (limit : ℕ) (old new : Meaning) (v : T) → TakesUp {E = E} name old new (Ok v) → InHand name limit old new []
takes_hand name limit old new v takes = record {
  files = takes.files;
  making = takes.making;
  entries = takes.entries;
  is_open = takes.opened.1;
  there = takes.opened.0;
  bytes = Consumes-kept (bytes_of (old.told name)) (bytes_of (old.told name)) new.rest [] (Consumes-nil (bytes_of (old.told name))) takes.opened.2;
  steady = takes.cause.steady;
  in_time = in_time_by old new takes.late;
  few = omega arith;
}

-- a read that failed
pub reads_fault : {E : Type 0} (name : List ℕ) (limit : ℕ) (old mid new : Meaning) (all into : List ℕ) (e : E) → InHand name limit old mid all → Reads mid new into (Err e) → ReadsAll name limit old new (Err ReadFault)
reads_fault name limit old mid new all into e hand reads = record {
  files = files_then old mid new hand.files reads.files;
  making = making_then old mid new hand.making reads.making;
  taken = length all;
  entries = reads.entries ∙ hand.entries;
  fault = subst (λ (k : ℕ). Rose k new.read_faults) hand.steady reads.cause.failed;
  length = hand.few;
  bytes = told_unread limit (bytes_of (old.told name));
  there = λ _. tt;
  in_time = late_after old mid new hand.in_time hand.steady hand.making.write_faults reads.late;
}

module _ {E : Type 0} (name : List ℕ) (limit : ℕ) (old mid new : Meaning) (all into : List ℕ) (n : ℕ)
    (hand : InHand name limit old mid all) (reads : Reads {E = E} mid new into (Ok n)) where
  -- the name is counted with n bytes more
  entries_are : new.entries ≡ old.entries ++ (name, length all + n) ∷ []
  entries_are = reads.entries ∙ ap (taken n) hand.entries ∙ taken_last old.entries name (length all) n

  -- n bytes more are in hand
  length_is : length (all ++ take n into) ≡ length all + n
  length_is = let bound : n ≤ length into = reads.bound in omega (arith, length-append all (take n into), length-take n into)

  -- none was late as yet
  time_is : NoneLate old new
  time_is = late_after old mid new hand.in_time hand.steady hand.making.write_faults reads.late

  -- within the limit the reading goes on
  pub reads_more : length all + n ≤ limit → InHand name limit old new (all ++ take n into)
  reads_more fits = record {
    files = files_then old mid new hand.files reads.files;
    making = making_then old mid new hand.making reads.making;
    entries = entries_are ∙ ap (λ (k : ℕ). old.entries ++ (name, k) ∷ []) (sym length_is);
    is_open = reads.opened;
    there = hand.there;
    bytes = Consumes-then _ _ _ _ _ hand.bytes reads.bytes.0;
    steady = reads.cause.steady ∙ hand.steady;
    few = omega (arith, length_is);
    in_time = time_is;
  }

  -- a read of 0 bytes is the end
  pub reads_end : n ≡ 0 → 0 < length into → (v : Vec ℕ Global) → v.items ≡ all → ReadsAll name limit old new (Ok v)
  reads_end none room v is = record {
    files = files_then old mid new hand.files reads.files;
    making = making_then old mid new hand.making reads.making;
    taken = length all;
    entries = entries_are ∙ ap (λ (k : ℕ). old.entries ++ (name, k) ∷ []) (omega arith);
    fault = reads.cause.steady ∙ hand.steady;
    length = (sym (ap length is), hand.few);
    bytes = told_whole limit (bytes_of (old.told name)) new.rest all v is
        (subst (λ (l : List ℕ). Consumes (bytes_of (old.told name)) new.rest l) (ap (λ (k : ℕ). all ++ take k into) none ∙ append-nil all) (Consumes-then _ _ _ _ _ hand.bytes reads.bytes.0))
        (reads.bytes.1 none room);
    there = hand.there;
    in_time = time_is;
  }

  -- past the limit the file is too long
  pub reads_long : limit < length all + n → ReadsAll name limit old new (Err TooLong)
  reads_long long = record {
    files = files_then old mid new hand.files reads.files;
    making = making_then old mid new hand.making reads.making;
    taken = length all + n;
    entries = entries_are;
    fault = reads.cause.steady ∙ hand.steady;
    length = long;
    bytes = told_long limit (bytes_of (old.told name)) new.rest (all ++ take n into) (omega (arith, length_is)) (Consumes-then _ _ _ _ _ hand.bytes reads.bytes.0);
    there = hand.there;
    in_time = time_is;
  }
