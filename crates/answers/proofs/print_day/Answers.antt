use Rattle.answers.proofs.Answers.{refused_laws, tables_known, rows_known, day_printed, full_list}
use Rattle.std.proofs.Common.{rules}
use Rattle.answers.proofs.print_day.Goals as goal

pub print_whole-requires-clause-traded_le_most_trades : goal.print_whole-requires-clause-traded_le_most_trades
print_whole-requires-clause-traded_le_most_trades c = search (tables_known _ _ _ _ _ _ _ c.survey.ensures c.in_ok-whole.whole, rules)

pub print_whole-requires-clause-listed_le_most_rows : goal.print_whole-requires-clause-listed_le_most_rows
print_whole-requires-clause-listed_le_most_rows c = search (rows_known _ _ _ _ _ _ _ c.survey.ensures c.in_ok-whole.whole, full_list, rules)

pub returns-in_err-whole : goal.returns-in_err-whole
returns-in_err-whole c = search (refused_laws, rules)

pub returns : goal.returns
returns c = search (day_printed _ _ _ _ _ _ _ c.survey.ensures c.in_ok-whole.whole, full_list, rules)
