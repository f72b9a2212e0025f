use Rattle.std.proofs.Common.{◌≡◌, ◌+◌, refl, sym, ap, ◌∙◌, drop, take, take-append-drop, drop-drop, arith}
use Rattle.loc_io.specs.Steady.{bytes_at}
use Rattle.loc_io.proofs.steady_shelf.SteadyShelfShelf.read.Goals as goal

pub returns : goal.returns
returns c =
    let copied = c.copy_front-n.ensures in
    let s = c.args.self.now in
    let n = c.copy_front-n.result in
    let all = bytes_at s.files.items s.place in
    let rest = drop s.at all in
    let from : c.bytes_of.result.now ≡ all = c.bytes_of.ensures ∙ ap (λ fs. bytes_at fs s.place) c.deref.ensures.value in
    let front : take n c.copy_front-n.new.into ≡ take n rest = copied.front ∙ ap (λ xs. take n (drop s.at xs)) from in
    let behind : drop (s.at + n) all ≡ drop n rest = sym (drop-drop n s.at all) in
    record {
      files = λ _. refl;
      making = record { is_making = refl; made = refl; write_faults = refl };
      entries = c.note.ensures;
      opened = c.requires.open;
      bytes = (rw (front, behind) (sym (take-append-drop n rest)), λ none room. behind ∙ ap (λ k. drop k rest) none ∙ ap (λ xs. drop s.at xs) (sym from) ∙ copied.end none room);
      bound = copied.room;
      cause = record { later = omega arith; failed = tt; steady = refl };
      late = refl;
    }
