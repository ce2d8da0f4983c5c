-- `printing::read_up_to` gives what it took from the reader: what a read put behind the bytes before it. Assumes nothing.
use borrow.Author.Rules.{rules}
use mathlib.Core.Path.{sym, subst}
use Rattle.std.specs.Io.KnownBytes.{Consumes}
use Rattle.std.proofs.KnownBytes.{Consumes-trans}
use Rattle.printing.proofs.Joined.{came_behind}
use Rattle.printing.proofs.read_up_to.Goals as goal

pub loop-done-preserved : goal.loop-done-preserved
loop-done-preserved g c =
    let joined = came_behind c.loop-done.done _ c.in_ok-came.came c.loop-done.space c.read.new.buf c.loop-done.invariant.1 c.in_ok-came.ensures.bound.0 in
    (search rules, search rules, subst (Consumes _ _) (sym joined) (Consumes-trans _ _ _ _ _ c.loop-done.invariant.2 c.in_ok-came.ensures.bytes.0))
