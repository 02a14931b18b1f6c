use Rattle.std.proofs.Common.{rules}
use Rattle.std.proofs.lemmas.Result.{err_from_is_err_and}
use Rattle.checker.proofs.Trades.{trades_laws, a_trade_refused, a_trade_passed}
use Rattle.checker.proofs.check_trades.Goals as goal

pub returns-in_err-check_trade : goal.returns-in_err-check_trade
returns-in_err-check_trade c =
    a_trade_refused _ _ _ _ _ _ c.loop-m.invariant c.loop-m-test.true _ c.check_trade.ensures _ c.in_err-check_trade.was _
    (let p = err_from_is_err_and c.from_residual.result c.from_residual.ensures.1 in rw (p.1, p.2))

pub loop-m-preserved : goal.loop-m-preserved
loop-m-preserved c = a_trade_passed _ _ _ _ _ _ c.loop-m.invariant c.loop-m-test.true _ c.check_trade.ensures c.in_ok-check_trade.was

pub returns : goal.returns
returns c = search (trades_laws, rules)
