use Rattle.std.proofs.Common.{refl, ap, subst, inl, Err}
use Rattle.loc_io.specs.Causes.{HasCause}
use Rattle.loc_io.proofs.file_shelf.FileShelfShelf.create.Goals as goal

pub returns-in-None-clause-shelf : goal.returns-in-None-clause-shelf
returns-in-None-clause-shelf g c = record {
  reading = record { is_open = refl; rest = refl; entries = refl; read_faults = ap (λ count. count.number) c.note_call.ensures.reads };
  file = tt;
  refused = λ _. inl refl;
  cause = subst (λ count. HasCause count.number c.count_one.new.self.number (Err c.count_one.result)) c.note_call.ensures.writes record { later = c.count_one.ensures.later; failed = c.count_one.ensures.rose; steady = tt };
  late = c.note_call.ensures.late;
}
