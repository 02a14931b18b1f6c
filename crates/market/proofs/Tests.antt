-- What each test finds of the definition. No function's proof asks for these laws; the pages name them beside the sentences that they carry.
use mathlib.Core.Path.{◌≡◌, refl, ◌∙◌}
use mathlib.Core.Bool.{Bool, true, false}
use mathlib.Core.List.{List}
use Prim.Native.Nat.{ℕ}
use Rattle.std.specs.Int.{from_bool}
use Rattle.rules.specs.Basics.{bit}
use Rattle.rules.specs.Record.{trade_kind}
use Rattle.rows.specs.declared.Rec.{Rec}
use Rattle.periods.specs.Periods.{Tidy}
use Rattle.through.specs.Trades.{TradeIs, CountIs, BlockIs}
use Rattle.through.specs.declared.Trade.{Trade}
use Rattle.market.specs.Judged.{JudgedIs}
use Rattle.market.specs.declared.Judged.TheVariants.{T}
use Rattle.market.proofs.Judging as judging

-- ---- a trade's line

word_of_bit : (b : Bool) → bit b ≡ from_bool b
word_of_bit true = refl
word_of_bit false = refl

module _ (quotes statuses periods : List ℕ) (exchanges home : ℕ) (sizes : List ℕ) (sent traded : ℕ) (r : Rec) where
  pub judged_trade : r.kind ≡ trade_kind → Tidy periods → (c y : ℕ) (trade : Trade) → CountIs quotes exchanges home trade c → (b : Bool) → BlockIs quotes exchanges trade b → y ≡ bit b → TradeIs r trade
      → JudgedIs quotes statuses periods exchanges home sizes sent traded r periods (T traded c y)
  judged_trade k tidy c y trade counted b block ey is =
      judging.judged_trade quotes statuses periods exchanges home sizes sent traded r k tidy c y trade counted b block (ey ∙ word_of_bit b) is
