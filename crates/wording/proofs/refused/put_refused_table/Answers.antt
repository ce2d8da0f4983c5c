-- `wording::refused::put_refused_table` meets its contract. Assumes nothing.
use native.Mathlib.Omega.{arith}
use mathlib.Core.Path.{ap}
use Rattle.lines.specs.Words.{word}
use Rattle.lines.proofs.PutsLaws.{puts_same}
use Rattle.rules.specs.Refusal.{number_of}
use Rattle.wording.specs.Lines.{figure, refused_table}
use Rattle.wording.proofs.WroteLaws.{run_from, run_on, run_room}
use Rattle.wording.proofs.LineLaws.{figure_most}
use Rattle.wording.proofs.refused.put_refused_table.Goals as goal

pub put_figure-requires-2 : goal.put_figure-requires-2
unfolding figure word
put_figure-requires-2 c =
    let behind_number = run_from {k = 18} (figure_most (word "refused ") (number_of c.args.broken.rule)) (puts_same (ap (figure "refused ") c.from.ensures) c.put_figure.ensures) in
    omega (arith, run_room 14 (omega (arith, c.requires)) behind_number)

pub put_figure-requires-3 : goal.put_figure-requires-3
unfolding figure word
put_figure-requires-3 c =
    let behind_number = run_from {k = 18} (figure_most (word "refused ") (number_of c.args.broken.rule)) (puts_same (ap (figure "refused ") c.from.ensures) c.put_figure.ensures) in
    let behind_subsystem = run_on {j = 14} (omega (arith, c.requires)) behind_number (figure_most (word " at ") c.args.broken.place.subsystem) (puts_same (ap (figure " at ") c.from-2.ensures) c.put_figure-2.ensures) in
    omega (arith, run_room 11 (omega (arith, c.requires)) behind_subsystem)

pub put_bytes-requires : goal.put_bytes-requires
unfolding figure word
put_bytes-requires c =
    let behind_number = run_from {k = 18} (figure_most (word "refused ") (number_of c.args.broken.rule)) (puts_same (ap (figure "refused ") c.from.ensures) c.put_figure.ensures) in
    let behind_subsystem = run_on {j = 14} (omega (arith, c.requires)) behind_number (figure_most (word " at ") c.args.broken.place.subsystem) (puts_same (ap (figure " at ") c.from-2.ensures) c.put_figure-2.ensures) in
    let behind_task = run_on {j = 11} (omega (arith, c.requires)) behind_subsystem (figure_most (word " ") c.args.broken.place.task) (puts_same (ap (figure " ") c.from-3.ensures) c.put_figure-3.ensures) in
    omega (arith, run_room 1 (omega (arith, c.requires)) behind_task)

pub returns : goal.returns
unfolding figure refused_table word
returns c =
    let behind_number = run_from {k = 18} (figure_most (word "refused ") (number_of c.args.broken.rule)) (puts_same (ap (figure "refused ") c.from.ensures) c.put_figure.ensures) in
    let behind_subsystem = run_on {j = 14} (omega (arith, c.requires)) behind_number (figure_most (word " at ") c.args.broken.place.subsystem) (puts_same (ap (figure " at ") c.from-2.ensures) c.put_figure-2.ensures) in
    let behind_task = run_on {j = 11} (omega (arith, c.requires)) behind_subsystem (figure_most (word " ") c.args.broken.place.task) (puts_same (ap (figure " ") c.from-3.ensures) c.put_figure-3.ensures) in
    (run_on {j = 1} (omega (arith, c.requires)) behind_task (omega arith) c.put_bytes.ensures).writes
