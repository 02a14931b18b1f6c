use Rattle.std.proofs.Common.{rules}
use Rattle.std.proofs.lemmas.Result.{err_from_is_err_and}
use Rattle.checker.proofs.Check.{check_laws, sheet_refused, line_fault}
use Rattle.checker.proofs.check_sheet.Goals as goal

pub returns-in_err-read_sheet : goal.returns-in_err-read_sheet
returns-in_err-read_sheet c =
    sheet_refused _ _ _ _ _ _ _ c.read_sheet.ensures _ c.in_err-read_sheet.was _
    (let p = err_from_is_err_and c.from_residual.result c.from_residual.ensures.1 in rw (p.1, p.2))

pub returns-in_err-check_lines : goal.returns-in_err-check_lines
returns-in_err-check_lines c =
    line_fault _ _ _ _ _ _ _ c.read_sheet.ensures c.in_ok-read_sheet.was _ c.check_lines.ensures _ c.in_err-check_lines.was _
    (let p = err_from_is_err_and c.from_residual-in_err-check_lines.result c.from_residual-in_err-check_lines.ensures.1 in rw (p.1, p.2))

pub returns : goal.returns
returns c = search (check_laws, rules)
