use Rattle.orders.proofs.OrderVerdicts.{order_laws}
use Rattle.std.proofs.Common.{rules}
use Rattle.orders.proofs.sent_order.Goals as goal

pub returns-then-not-is_equal : goal.returns-then-not-is_equal
returns-then-not-is_equal c = search (order_laws, rules)

pub returns-then-there-best_price : goal.returns-then-there-best_price
returns-then-there-best_price c = search (order_laws, rules)

pub returns : goal.returns
returns c = search (order_laws, rules)
