use Rattle.text.proofs.Decimal.{width_below_ten, width_from}
use Rattle.std.proofs.Common.{rules}
use Rattle.text.proofs.width_to_ten.Goals as goal

pub returns-then-x-lt10 : goal.returns-then-x-lt10
returns-then-x-lt10 c = search (width_below_ten, width_from 1, width_from 2, width_from 3, width_from 4, width_from 5, width_from 6, width_from 7, width_from 8, width_from 9, rules)

pub returns-then-x-lt100 : goal.returns-then-x-lt100
returns-then-x-lt100 c = search (width_below_ten, width_from 1, width_from 2, width_from 3, width_from 4, width_from 5, width_from 6, width_from 7, width_from 8, width_from 9, rules)

pub returns-then-x-lt1000 : goal.returns-then-x-lt1000
returns-then-x-lt1000 c = search (width_below_ten, width_from 1, width_from 2, width_from 3, width_from 4, width_from 5, width_from 6, width_from 7, width_from 8, width_from 9, rules)

pub returns-then-x-lt10000 : goal.returns-then-x-lt10000
returns-then-x-lt10000 c = search (width_below_ten, width_from 1, width_from 2, width_from 3, width_from 4, width_from 5, width_from 6, width_from 7, width_from 8, width_from 9, rules)

pub returns-then-x-lt100000 : goal.returns-then-x-lt100000
returns-then-x-lt100000 c = search (width_below_ten, width_from 1, width_from 2, width_from 3, width_from 4, width_from 5, width_from 6, width_from 7, width_from 8, width_from 9, rules)

pub returns-then-x-lt1000000 : goal.returns-then-x-lt1000000
returns-then-x-lt1000000 c = search (width_below_ten, width_from 1, width_from 2, width_from 3, width_from 4, width_from 5, width_from 6, width_from 7, width_from 8, width_from 9, rules)

pub returns-then-x-lt10000000 : goal.returns-then-x-lt10000000
returns-then-x-lt10000000 c = search (width_below_ten, width_from 1, width_from 2, width_from 3, width_from 4, width_from 5, width_from 6, width_from 7, width_from 8, width_from 9, rules)

pub returns-then-x-lt100000000 : goal.returns-then-x-lt100000000
returns-then-x-lt100000000 c = search (width_below_ten, width_from 1, width_from 2, width_from 3, width_from 4, width_from 5, width_from 6, width_from 7, width_from 8, width_from 9, rules)

pub returns-then-x-lt1000000000 : goal.returns-then-x-lt1000000000
returns-then-x-lt1000000000 c = search (width_below_ten, width_from 1, width_from 2, width_from 3, width_from 4, width_from 5, width_from 6, width_from 7, width_from 8, width_from 9, rules)

pub returns : goal.returns
returns c = search (width_below_ten, width_from 1, width_from 2, width_from 3, width_from 4, width_from 5, width_from 6, width_from 7, width_from 8, width_from 9, rules)
