use Rattle.quotes.proofs.QuoteLaws.{quote_laws}
use Rattle.std.proofs.Common.{rules}
use Rattle.quotes.proofs.keep_quote.Goals as goal

pub returns-then-r-eq-QUOTE : goal.returns-then-r-eq-QUOTE
returns-then-r-eq-QUOTE c = search (quote_laws, rules)

pub returns-else-r-eq-QUOTE : goal.returns-else-r-eq-QUOTE
returns-else-r-eq-QUOTE c = search (quote_laws, rules)
