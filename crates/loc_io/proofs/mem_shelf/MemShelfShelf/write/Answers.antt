use Rattle.std.proofs.Common.{◌≡◌, Some, string_bytes, refl, ap, ◌∙◌, rules, arith, option_map}
use Rattle.std.specs.Vec.{with_items}
use Rattle.std.proofs.lemmas.List.{with_items_is}
use Rattle.loc_io.specs.Files.{Grows}
use Rattle.loc_io.proofs.{Counted.none_failed, Growing.told_grows, Growing.told_keeps}
use Rattle.loc_io.proofs.mem_shelf.MemShelfShelf.write.Goals as goal

pub returns-then-append-clause-shelf : goal.returns-then-append-clause-shelf
returns-then-append-clause-shelf c =
    let made : option_map string_bytes c.args.self.now.making ≡ Some (string_bytes c.in-Some.name) = ap (option_map string_bytes) c.in-Some.is in
    let grows : Grows (string_bytes c.in-Some.name) c.args.piece.now c.args.self.now.files.items c.append.new.files = search rules in
    let items : (with_items c.args.self.now.files c.append.new.files).items ≡ c.append.new.files = with_items_is c.args.self.now.files c.append.new.files (search rules) in
    record {
      reading = record { is_open = refl; rest = refl; entries = refl; read_faults = ap (λ f. f.number) c.note_call.ensures.reads };
      bound = (c.requires.some, omega arith);
      made = (c.requires.making, refl);
      file = λ name is. let named : string_bytes c.in-Some.name ≡ name = cc (made, is) in
          rw (← named, items) (told_grows _ _ _ _ grows);
      others = λ q not. rw items (told_keeps _ _ _ _ grows q (λ e. not (made ∙ ap Some e)));
      refused = tt;
      cause = none_failed _ _ _ c.note_call.ensures.writes;
      late = c.note_call.ensures.late;
    }
