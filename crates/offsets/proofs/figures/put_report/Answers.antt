-- `offsets::figures::put_report` meets its contract: the report's parts make up its figures. Assumes nothing.
use Rattle.offsets.proofs.FigureLaws.{report_is_put}
use Rattle.offsets.proofs.figures.put_report.Goals as goal

pub returns : goal.returns
returns c =
    report_is_put c.args.report c.args.n _ _ c.args.free.now _ _ c.table_judgement-j.ensures c.stated_count-count.ensures c.put_figures.ensures
