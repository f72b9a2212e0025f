use Rattle.std.proofs.Common.{◌≡◌, ◌+◌, ◌≤◌, refl, sym, ap, subst, ◌∙◌, drop, take, take-append-drop, drop-drop, arith}
use Rattle.loc_io.proofs.Counted.{failed_once, told_none}
use Rattle.loc_io.proofs.mem_shelf.MemShelfShelf.read.Goals as goal

pub returns-then-next_fails-clause-shelf : goal.returns-then-next_fails-clause-shelf
returns-then-next_fails-clause-shelf c = record {
  files = λ _. refl;
  making = record { is_making = refl; made = refl; write_faults = ap (λ f. f.number) c.note_call.ensures.writes };
  entries = refl;
  opened = tt;
  bytes = refl;
  bound = tt;
  cause = failed_once _ _ _ _ c.note_call.ensures.reads c.count_one.ensures.rose c.count_one.ensures.later;
  late = c.note_call.ensures.late;
}

pub returns-then-next_fails-clause-failing : goal.returns-then-next_fails-clause-failing
returns-then-next_fails-clause-failing c = record { counted = c.next_fails.ensures.calls; fails = λ _. refl }

pub returns-then-next_fails-clause-only : goal.returns-then-next_fails-clause-only
returns-then-next_fails-clause-only c = λ _. sym c.next_fails.ensures.listed ∙ c.if-next_fails.true

pub returns-clause-failing : goal.returns-clause-failing
returns-clause-failing c = told_none _ _ _ _ _ c.next_fails.ensures.calls c.next_fails.ensures.listed c.if-next_fails.false

pub returns-clause-shelf : goal.returns-clause-shelf
returns-clause-shelf c =
    let counts = c.note_call.ensures in
    let copied = c.copy_front-n.ensures in
    let s = c.args.self.now in
    let n = c.copy_front-n.result in
    let rest = drop s.at s.rest.items in
    let front : take n c.copy_front-n.new.into ≡ take n rest = copied.front ∙ ap (λ xs. take n (drop s.at xs)) c.deref.ensures.value in
    let behind : drop (s.at + n) s.rest.items ≡ drop n rest = sym (drop-drop n s.at s.rest.items) in
    let steady : c.note_call.new.self.read_faults.number ≡ s.counts.read_faults.number = ap (λ f. f.number) counts.reads in
    record {
      files = λ _. refl;
      making = record { is_making = refl; made = refl; write_faults = ap (λ f. f.number) counts.writes };
      entries = c.note.ensures;
      opened = c.requires.open;
      bytes = (rw (front, behind) (sym (take-append-drop n rest)), λ none room. behind ∙ ap (λ k. drop k rest) none ∙ ap (λ xs. drop s.at xs) (sym c.deref.ensures.value) ∙ copied.end none room);
      bound = copied.room;
      cause = record { later = subst (λ k. s.counts.read_faults.number ≤ k) (sym steady) (omega arith); failed = tt; steady = steady };
      late = counts.late;
    }
