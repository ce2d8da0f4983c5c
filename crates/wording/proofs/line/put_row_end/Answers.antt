-- `wording::line::put_row_end` meets its contract. Assumes nothing.
use native.Mathlib.Omega.{arith}
use mathlib.Core.Path.{ap}
use Rattle.lines.specs.Words.{word}
use Rattle.lines.proofs.PutsLaws.{puts_same}
use Rattle.row.specs.Row.{reported}
use Rattle.wording.specs.Lines.{figure, row_end}
use Rattle.wording.proofs.WroteLaws.{run_from, run_on, run_room}
use Rattle.wording.proofs.LineLaws.{figure_most, outcome_word_most}
use Rattle.wording.proofs.line.put_row_end.Goals as goal

pub put_figure-requires-2 : goal.put_figure-requires-2
unfolding figure word
put_figure-requires-2 c =
    let behind_jobs = run_from {k = 16} (figure_most (word " jobs ") c.args.row.jobs) c.put_figure.ensures in
    omega (arith, run_room 13 (omega (arith, c.requires)) behind_jobs)

pub put_figure-requires-3 : goal.put_figure-requires-3
unfolding figure word
put_figure-requires-3 c =
    let behind_jobs = run_from {k = 16} (figure_most (word " jobs ") c.args.row.jobs) c.put_figure.ensures in
    let behind_worst = run_on {j = 13} (omega (arith, c.requires)) behind_jobs (figure_most (word " R ") (reported c.args.row.outcome)) (puts_same (ap (figure " R ") c.response.ensures) c.put_figure-2.ensures) in
    omega (arith, run_room 15 (omega (arith, c.requires)) behind_worst)

pub put_figure-requires-4 : goal.put_figure-requires-4
unfolding figure word
put_figure-requires-4 c =
    let behind_jobs = run_from {k = 16} (figure_most (word " jobs ") c.args.row.jobs) c.put_figure.ensures in
    let behind_worst = run_on {j = 13} (omega (arith, c.requires)) behind_jobs (figure_most (word " R ") (reported c.args.row.outcome)) (puts_same (ap (figure " R ") c.response.ensures) c.put_figure-2.ensures) in
    let behind_job = run_on {j = 15} (omega (arith, c.requires)) behind_worst (figure_most (word " job ") c.args.row.job) c.put_figure-3.ensures in
    omega (arith, run_room 15 (omega (arith, c.requires)) behind_job)

pub put_outcome-requires : goal.put_outcome-requires
unfolding figure word
put_outcome-requires c =
    let behind_jobs = run_from {k = 16} (figure_most (word " jobs ") c.args.row.jobs) c.put_figure.ensures in
    let behind_worst = run_on {j = 13} (omega (arith, c.requires)) behind_jobs (figure_most (word " R ") (reported c.args.row.outcome)) (puts_same (ap (figure " R ") c.response.ensures) c.put_figure-2.ensures) in
    let behind_job = run_on {j = 15} (omega (arith, c.requires)) behind_worst (figure_most (word " job ") c.args.row.job) c.put_figure-3.ensures in
    let behind_resource = run_on {j = 15} (omega (arith, c.requires)) behind_job (figure_most (word " res ") c.args.row.resource) c.put_figure-4.ensures in
    omega (arith, run_room 6 (omega (arith, c.requires)) behind_resource)

pub returns : goal.returns
unfolding figure row_end word
returns c =
    let behind_jobs = run_from {k = 16} (figure_most (word " jobs ") c.args.row.jobs) c.put_figure.ensures in
    let behind_worst = run_on {j = 13} (omega (arith, c.requires)) behind_jobs (figure_most (word " R ") (reported c.args.row.outcome)) (puts_same (ap (figure " R ") c.response.ensures) c.put_figure-2.ensures) in
    let behind_job = run_on {j = 15} (omega (arith, c.requires)) behind_worst (figure_most (word " job ") c.args.row.job) c.put_figure-3.ensures in
    let behind_resource = run_on {j = 15} (omega (arith, c.requires)) behind_job (figure_most (word " res ") c.args.row.resource) c.put_figure-4.ensures in
    (run_on {j = 6} (omega (arith, c.requires)) behind_resource (outcome_word_most c.args.row.outcome) c.put_outcome.ensures).writes
