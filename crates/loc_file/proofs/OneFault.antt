-- Bytes are refused by one fault at most, and those of a file by none.
use Rattle.std.proofs.Common.{refl}
use Rattle.loc_laws_index.proofs.OneReading.{one_fault, no_fault_in_file}
use Rattle.loc_file.specs.Refused.{faulty, unheld, OneRefusal, NoRefusalOfFile}

pub one_refusal : OneRefusal
one_refusal bytes f g (faulty _ h) (faulty _ k) some other = one_fault bytes f g h k
one_refusal bytes f g unheld k some other = absurd (some refl)
one_refusal bytes f g (faulty _ h) unheld some other = absurd (other refl)

pub no_refusal : NoRefusalOfFile
no_refusal bytes v c f file (faulty _ h) = absurd (no_fault_in_file bytes v c f file h)
no_refusal bytes v c f file unheld = refl
