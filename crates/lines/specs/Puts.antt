-- That a pen wrote bytes: it stands behind them, its buffer holds them from its old place on, and it is the same buffer, so that
-- whoever lent it knows what it holds. Assumes nothing.
use Rattle.std.specs.Prelude.{ℕ, ◌+◌, ◌≡◌, List, length}
use Rattle.lines.specs.Written.{written}
use Rattle.lines.specs.declared.Pen.{Pen}

pub record Puts (before : Pen) (bytes : List ℕ) (after : Pen) : Type 0 where
  pub place : after.at ≡ before.at + length bytes
  pub holds : after.buf.now ≡ written before.buf.now before.at bytes
  pub same_buffer : after.buf.ghost_name ≡ before.buf.ghost_name
