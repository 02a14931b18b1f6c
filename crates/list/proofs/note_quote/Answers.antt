use Rattle.list.proofs.Noting.{note_quote_laws}
use Rattle.std.proofs.Common.{rules}
use Rattle.list.proofs.note_quote.Goals as goal

pub returns-then-not-is_home : goal.returns-then-not-is_home
returns-then-not-is_home c = search (note_quote_laws, rules)

pub returns : goal.returns
returns c = search (note_quote_laws, rules)
