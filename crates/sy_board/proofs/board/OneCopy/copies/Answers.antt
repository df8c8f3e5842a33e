use Rattle.std.proofs.Common.{◌≡◌, rules}
use Rattle.sy_board.proofs.SizeLemmas.{copies_fit}
use Rattle.sy_board.proofs.board.OneCopy.copies.Goals as goal

pub copies-requires-clause-fits : goal.copies-requires-clause-fits
copies-requires-clause-fits c =
    let ve : c.as_slice.result.now ≡ c.args.self.now.entries = search rules in
    let vb : c.as_slice-2.result.now ≡ c.args.self.now.buffers = search rules in
    copies_fit c.args.self.now _ _ c.requires ve vb
