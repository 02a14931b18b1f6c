use Rattle.answers.proofs.Answers.{refused_laws, tables_known, sheet_written}
use Rattle.std.proofs.Common.{rules}
use Rattle.answers.proofs.write_sheet.Goals as goal

pub write_own-requires : goal.write_own-requires
write_own-requires c = search (tables_known _ _ _ _ _ _ _ c.survey.ensures c.in_ok-whole.whole, rules)

pub returns-in_err-whole : goal.returns-in_err-whole
returns-in_err-whole c = search (refused_laws, rules)

pub returns : goal.returns
returns c = search (sheet_written _ _ _ _ _ _ _ c.survey.ensures c.in_ok-whole.whole, rules)
