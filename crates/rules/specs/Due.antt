-- "What is due": claims, due totals, the share rule. All of it comes from the journal; no sheet is an argument of anything here.
use Rattle.std.specs.Prelude.{ℕ, ◌+◌, ◌*◌, min, Bool, not, ◌||◌, List, [], ◌∷◌, ◌++◌, map, if◌then◌else◌, ◌==◌}
use Rattle.rules.specs.Basics.{◌at_least◌, ◌less_than◌, ◌more_than◌, any, all, keep, sum}
use Rattle.rules.specs.Header.{Header, automatic}
use Rattle.rules.specs.Record.{Event, Trade, trade, satisfaction, is_satisfaction}
use Rattle.rules.specs.Journal.{History, Journal, count, trade_at, before_trade, closing_begun}
use Rattle.rules.specs.Verdicts.{throughs}
use Rattle.rules.specs.Reasons.{Case, case_of, customers, reason}

-- "the least of order size, customer contracts and trade size"
abbrev pub least_of : ℕ → ℕ → ℕ → ℕ
least_of size contracts traded = min size (min contracts traded)

unfoldable pub least_of_three : Case → ℕ
least_of_three k = least_of (satisfaction k.claim).size (customers k) (trade k.trade).size

-- Document 02, a: "Plan Amendment No. 4, described in source document 001: for trade-throughs in the last few minutes the
-- liability is limited to 10 contracts per exchange". The rule is 6.94(a)(2)(ii)(C).
abbrev pub most_at_the_close : ℕ
most_at_the_close = 10

-- "each claim is also at most 10", where the closing window has begun
unfoldable pub limited : Bool → ℕ → ℕ
limited closing n = if closing then min n most_at_the_close else n

-- "0 for a reason other than 0; else the least of" the three. "For a trade after it": after the closing record in the
-- journal's order, also in the same millisecond; so it is asked of the history before the trade.
unfoldable pub claim : Header → Case → ℕ
claim h k = if reason h k == 0 then limited (closing_begun k.before) (least_of_three k) else 0

-- ---- what the journal says of one Satisfaction Order. "Lines are counted from 0."

pub record Line : Type 0 where
  pub number : ℕ
  pub trade : ℕ
  pub size : ℕ
  pub reason : ℕ
  pub customers : ℕ
  pub claim : ℕ

-- of the Satisfaction Order numbered n of a day, after the history before it
unfoldable pub line_of : Header → History → History → ℕ → Event → Line
line_of h day past n e =
    let k = case_of day past n e in
    record {
      number = n;
      trade = (satisfaction e).trade;
      size = (satisfaction e).size;
      reason = reason h k;
      customers = customers k;
      claim = claim h k;
    }

-- of the Satisfaction Orders in `past`, each judged over the whole day; in the order of the journal
unfoldable pub lines_of : Header → History → History → List Line
lines_of h day [] = []
lines_of h day (e ∷ past) =
    lines_of h day past ++ (if is_satisfaction e then line_of h day past (count is_satisfaction past) e ∷ [] else [])

unfoldable pub lines : Journal → List Line
lines j = lines_of j.header j.history j.history

unfoldable pub of_trade : ℕ → List Line → List Line
of_trade n ls = keep (λ (l : Line). l.trade == n) ls

abbrev pub claims_of : List Line → List ℕ
claims_of ls = map (λ (l : Line). l.claim) ls

abbrev pub customers_of : List Line → List ℕ
customers_of ls = map (λ (l : Line). l.customers) ls

-- ---- the due total of a trade

-- "the customer firm size (the lesser of home's automatic size and the other's)"
unfoldable pub customer_firm_size : Header → ℕ → ℕ
customer_firm_size h x = min (automatic h h.home) (automatic h x)

-- "If the trade is larger than the customer firm size with any exchange traded through, asked or not"
unfoldable pub capped : Header → History → Trade → Bool
capped h before t = any (λ x. t.size more_than customer_firm_size h x) (throughs h before t)

-- "the lesser of trade size and the sum of claims; else the sum of claims"
unfoldable pub due_of : Bool → ℕ → List ℕ → ℕ
due_of cap size claims = if cap then min size (sum claims) else sum claims

unfoldable pub due : Journal → ℕ → ℕ
due j n =
    let t = trade (trade_at n j.history) in
    due_of (capped j.header (before_trade n j.history) t) t.size (claims_of (of_trade n (lines j)))

-- ---- the share rule, over lines of one trade that are filled somehow

pub record Share : Type 0 where
  pub line : Line
  pub filled : ℕ

-- "filled below its claim"
abbrev pub unfilled : Share → Bool
unfilled a = a.filled less_than a.line.claim

-- "if the first is filled below its claim, then (its fill + 1) times the second's customer contracts is at least the
-- second's fill times the first's"
unfoldable pub fair : Share → Share → Bool
fair a b =
    not (unfilled a) || (a.filled + 1) * b.line.customers at_least b.filled * a.line.customers

-- "for any two lines of a trade with reason 0"
unfoldable pub share_rule : List Share → Bool
share_rule ss = let ours = keep (λ (a : Share). a.line.reason == 0) ss in all (λ a. all (fair a) ours) ours
