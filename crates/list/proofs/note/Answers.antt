use Rattle.list.proofs.Noting.{note_laws}
use Rattle.std.proofs.Common.{rules}
use Rattle.list.proofs.note.Goals as goal

pub returns-then-r-eq-SATISFACTION : goal.returns-then-r-eq-SATISFACTION
returns-then-r-eq-SATISFACTION c = search (note_laws, rules)

pub returns : goal.returns
returns c = search (note_laws, rules)
