use Rattle.std.proofs.Common.{◌≡◌, ◌++◌, get_or, rules, refl, Some}
use Rattle.std.specs.List.{position}
use Rattle.loc_io.specs.Files.{is_named}
use Rattle.loc_io.proofs.Lookup.{file_at, set_puts, set_keeps}
use Rattle.loc_io.proofs.mem_file.append.Goals as goal

pub returns-in-Some-clause-grown : goal.returns-in-Some-clause-grown
returns-in-Some-clause-grown c ok =
    let before = get_or c.args.files.now c.in-Some.place c.index-files-place.result in
    let at : position (is_named c.args.name.now) c.args.files.now ≡ Some c.in-Some.place = search rules in
    let grown : c.extend_from_slice.new.self.items ≡ before.bytes.items ++ c.args.piece.now = search rules in
    record {
      bytes = before.bytes.items;
      there = file_at _ _ _ c.index-files-place.result at;
      puts = rw (← grown) (set_puts _ _ _ c.index-files-place.result _ at refl);
    }

pub returns-in-Some-clause-same : goal.returns-in-Some-clause-same
returns-in-Some-clause-same c not =
    let before = get_or c.args.files.now c.in-Some.place c.index-files-place.result in
    let at : position (is_named c.args.name.now) c.args.files.now ≡ Some c.in-Some.place = search rules in
    let same : c.extend_from_slice.new.self.items ≡ before.bytes.items = search rules in
    set_keeps _ _ _ c.index-files-place.result _ at refl same
