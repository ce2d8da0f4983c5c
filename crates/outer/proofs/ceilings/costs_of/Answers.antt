-- `outer::ceilings::costs_of` meets its contract: each slot has what the lines show. Assumes nothing.
use Rattle.std.proofs.Common.{rules}
use Prim.Native.Nat.{◌+◌}
use mathlib.Core.Path.{◌≡◌, sym, ◌∙◌}
use Rattle.lists.specs.Range.{largest_to}
use Rattle.outer.specs.Interfaces.{budget_at, held_at, interfaces_in}
use Rattle.outer.specs.Parts.{cost_of}
use Rattle.outer.proofs.Slots.{cost_of_slot}
use Rattle.outer.proofs.ceilings.costs_of.Goals as goal

pub returns : goal.returns
returns c =
    c.filled.ensures (cost_of (interfaces_in c.args.shown.now.n c.args.shown.now.m c.args.shown.now.lines.now))
    (λ s x h called.
    let is : x ≡ budget_at c.args.shown.now.lines.now s + largest_to (held_at c.args.shown.now.lines.now s) c.args.shown.now.m = search rules in
    is ∙ sym (cost_of_slot c.args.shown.now.n c.args.shown.now.m c.args.shown.now.lines.now s h))
