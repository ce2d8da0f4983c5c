-- `text::check_text_in` meets its contract: once the pen is let go, the buffer is as the pen left it, since the pen kept to it.
-- Assumes nothing.
use native.Mathlib.Omega.{arith}
use mathlib.Core.Path.{refl, sym}
use borrow.Author.Rules.{rules}
use Rattle.text.proofs.TextLaws.{nothing_printed, text_printed_by}
use Rattle.text.proofs.check_text_in.Goals as goal

pub returns-then-buf-lt-ROOM : goal.returns-then-buf-lt-ROOM
returns-then-buf-lt-ROOM c =
    record { printed = nothing_printed c.args.file.now c.args.buf.now (omega arith); has_blocks = c.requires }

pub returns : goal.returns
returns c =
    let same = sym c.put_text.ensures.wrote.same_buffer in
    record {
      printed = text_printed_by c.args.file.now (omega arith) refl c.put_text.ensures.wrote (search (rules, same));
      has_blocks = c.put_text.ensures.has_blocks_2;
    }
