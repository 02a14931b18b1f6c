use Rattle.answers.proofs.Answers.{refused_laws, tables_known, sheet_checked}
use Rattle.std.proofs.Common.{rules}
use Rattle.answers.proofs.check_sheet.Goals as goal

pub check_sheet-requires : goal.check_sheet-requires
check_sheet-requires c = search (tables_known _ _ _ _ _ _ _ c.survey.ensures c.in_ok-accepted.accepted, rules)

pub returns-in_err-accepted : goal.returns-in_err-accepted
returns-in_err-accepted c = search (refused_laws, rules)

pub returns : goal.returns
returns c = search (sheet_checked _ _ _ _ _ _ _ c.survey.ensures c.in_ok-accepted.accepted, rules)
