use Rattle.text.proofs.Lines.{place_laws}
use Rattle.std.proofs.Common.{rules}
use Rattle.text.proofs.put_place.Goals as goal

pub put_text-p-requires : goal.put_text-p-requires
put_text-p-requires c = search (place_laws, rules)

pub put_total-end-requires : goal.put_total-end-requires
put_total-end-requires c = search (place_laws, rules)

pub bounds-out-end : goal.bounds-out-end
bounds-out-end c = search (place_laws, rules)

pub returns : goal.returns
returns c = search (place_laws, rules)
