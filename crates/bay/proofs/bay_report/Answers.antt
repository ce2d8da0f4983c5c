-- `bay::bay_report` meets its contract, for a buffer that is too short and for one that is not. Assumes nothing.
use mathlib.Core.List.{flat_map}
use Rattle.stored.specs.File.{number_bytes}
use Rattle.offsets.specs.Figures.{figures_in, report_size}
use Rattle.bay.specs.Lent.{figures_after}
use Rattle.bay.proofs.LentLaws.{too_short, long_enough}
use Rattle.offsets.proofs.CountLaws.{length_of_file_figures}
use Rattle.bay.proofs.bay_report.Goals as goal

pub returns-then-buf-lt-REPORT_SIZE : goal.returns-then-buf-lt-REPORT_SIZE
unfolding figures_after
returns-then-buf-lt-REPORT_SIZE c =
    let short = too_short report_size (flat_map number_bytes (figures_in c.args.file.now)) c.args.buf.now c.if-buf-lt-REPORT_SIZE.true in
    record { value = short.0; buf_after = short.1 }

pub returns : goal.returns
unfolding figures_after
returns c =
    let enough = long_enough report_size (flat_map number_bytes (figures_in c.args.file.now)) c.args.buf.now _ _ c.if-buf-lt-REPORT_SIZE.false (length_of_file_figures c.args.file.now) c.put_file.ensures in
    record { value = enough.0; buf_after = enough.1 }
