-- `put_text` meets its contract: the text is copied over a part of the list. Assumes nothing.
use Rattle.report.proofs.Texts.{copied}
use Rattle.report.proofs.puts.put_text.Goals as goal

pub returns : goal.returns
returns c =
    let s = c.args in
    copied s.line.now _ s.text.now s.at c.requires c.copy_from_slice.ensures.after
