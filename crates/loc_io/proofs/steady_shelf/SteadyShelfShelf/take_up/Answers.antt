use Rattle.std.proofs.Common.{rules}
use Rattle.loc_io.proofs.Lookup.{bytes_at-position}
use Rattle.loc_io.proofs.steady_shelf.SteadyShelfShelf.take_up.Goals as goal

pub returns : goal.returns
returns c =
    let found = bytes_at-position c.args.self.now.files.items c.args.name.now in
    search (rules, found)
