-- `wording::refused::put_refused_file` meets its contract. Assumes nothing.
use native.Mathlib.Omega.{arith}
use mathlib.Core.Path.{ap}
use Rattle.lines.specs.Words.{word}
use Rattle.lines.proofs.PutsLaws.{puts_same}
use Rattle.wording.specs.Lines.{figure, refused_file}
use Rattle.wording.proofs.WroteLaws.{run_from, run_on, run_room}
use Rattle.wording.proofs.LineLaws.{figure_most}
use Rattle.wording.proofs.refused.put_refused_file.Goals as goal

pub put_figure-requires-2 : goal.put_figure-requires-2
unfolding figure word
put_figure-requires-2 c =
    let behind_number = run_from {k = 18} (figure_most (word "refused ") c.args.refusal.number) (puts_same (ap (figure "refused ") c.from.ensures) c.put_figure.ensures) in
    omega (arith, run_room 14 (omega (arith, c.requires.1)) behind_number)

pub put_bytes-requires : goal.put_bytes-requires
unfolding figure word
put_bytes-requires c =
    let behind_number = run_from {k = 18} (figure_most (word "refused ") c.args.refusal.number) (puts_same (ap (figure "refused ") c.from.ensures) c.put_figure.ensures) in
    let behind_offset = run_on {j = 14} (omega (arith, c.requires.1)) behind_number (figure_most (word " at ") c.args.refusal.offset) c.put_figure-2.ensures in
    omega (arith, run_room 1 (omega (arith, c.requires.1)) behind_offset)

pub returns : goal.returns
unfolding figure refused_file word
returns c =
    let behind_number = run_from {k = 18} (figure_most (word "refused ") c.args.refusal.number) (puts_same (ap (figure "refused ") c.from.ensures) c.put_figure.ensures) in
    let behind_offset = run_on {j = 14} (omega (arith, c.requires.1)) behind_number (figure_most (word " at ") c.args.refusal.offset) c.put_figure-2.ensures in
    (run_on {j = 1} (omega (arith, c.requires.1)) behind_offset (omega arith) c.put_bytes.ensures).writes
