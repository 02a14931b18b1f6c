-- "Reasons on a Satisfaction Order, first that holds", over the numbers that its trade kept.
use Rattle.std.specs.Prelude.{Bool, not, ◌&&◌, List, [], ◌∷◌, ◌++◌, ℕ, ◌+◌, ◌-◌, if◌then◌else◌, ◌==◌, Option, Some, None}
use Rattle.rules.specs.Basics.{◌at_least◌, ◌more_than◌, Row, ◌when◌, ◌¦◌, first_of}
use Rattle.rules.specs.Limits.{closing_minutes}
use Rattle.rules.specs.Record.{not_firm, rotation, complex_trade}
use Rattle.rules.specs.Journal.{History}
use Rattle.rules.specs.Verdicts.{neither}
use Rattle.rules.specs.Reasons.{three_minutes, one_minute}
use Rattle.rules.specs.Due.{limited, least_of}
use Rattle.reasons.specs.declared.Facts.{Facts}
use Rattle.reasons.specs.declared.Reason.{Reason}
use Rattle.reasons.specs.declared.Reason.TheVariants.{NotTradedThrough, HadSent, SenderNonFirm, HomeNonFirm, SenderInRotation, HomeInRotation, Complex, Late, LateAgain, LateWithInitiator, InitiatorNamed, PricedAsBlock, NotThePriceRequired, NoCustomers}

-- a reason in memory, and the paper's number of it
abbrev pub number_of : Reason → ℕ
number_of NotTradedThrough = 10
number_of HadSent = 2
number_of SenderNonFirm = 3
number_of HomeNonFirm = 4
number_of SenderInRotation = 5
number_of HomeInRotation = 6
number_of Complex = 7
number_of Late = 8
number_of LateAgain = 15
number_of LateWithInitiator = 9
number_of InitiatorNamed = 14
number_of PricedAsBlock = 11
number_of NotThePriceRequired = 12
number_of NoCustomers = 13

-- "0 none of these"
abbrev pub stored_as : Option Reason → ℕ
stored_as None = 0
stored_as (Some reason) = number_of reason

-- "received later than the report plus" some time
unfoldable pub later_than : ℕ → ℕ → ℕ → Bool
later_than report allowed now = now more_than (report + allowed)

-- "180,000 ms", or "60,000 if" the moment is "at or after close less 300,000"
unfoldable pub minutes_at : ℕ → ℕ → ℕ
minutes_at moment close = if moment at_least (close - closing_minutes) then one_minute else three_minutes

-- how long after the report an order may come: three minutes or one, and three where there is an initiator
unfoldable pub allowed_at : ℕ → ℕ → ℕ → ℕ
allowed_at initiator report close = if initiator == 0 then minutes_at report close else three_minutes

-- an order that was received at one time is cancelled at another in time: "up to and including 180,000 ms after receiving it, or 60,000
-- if we received it at or after close less 300,000"
unfoldable pub in_time : ℕ → ℕ → ℕ → Bool
in_time received close cancelled = not (later_than received (minutes_at received close) cancelled)

-- one above the time of the newest of some records, 0 where there is none: of those that cancelled a claim so that it could be sent again
unfoldable pub again_at : History → ℕ
again_at [] = 0
again_at (e ∷ older) = e.time + 1

-- "for a block the trade's, otherwise the bid or offer traded through"
unfoldable pub required_of : ℕ → ℕ → ℕ → ℕ
required_of block price there = if block == 1 then price else there

-- ---- the table in its parts, each with what it looks at

-- the moment of the trade
abbrev pub by_trade : ℕ → ℕ → ℕ → ℕ → ℕ → ℕ → List Row
by_trade side excuser status home initiator complex =
    10 when side == neither
    ¦ 2 when not (excuser == 0)
    ¦ 3 when status == not_firm
    ¦ 4 when initiator == 0 && home == not_firm
    ¦ 5 when status == rotation
    ¦ 6 when home == rotation
    ¦ 7 when complex == complex_trade
    ¦ []

-- the order's time, from the report
abbrev pub by_report : ℕ → ℕ → ℕ → ℕ → List Row
by_report initiator report close now =
    8 when initiator == 0 && later_than report (allowed_at initiator report close) now
    ¦ 9 when not (initiator == 0) && later_than report (allowed_at initiator report close) now
    ¦ []

-- the order's time, from the cancellation after which it was sent again
abbrev pub by_cancellation : ℕ → ℕ → List Row
by_cancellation cancelled now = 15 when later_than cancelled three_minutes now ¦ []

-- "The second is not judged by 8 or 9 but by reason 15": one above the time of that cancellation, 0 for a first order
abbrev pub by_time : ℕ → ℕ → ℕ → ℕ → ℕ → List Row
by_time again initiator report close now = if again == 0 then by_report initiator report close now else by_cancellation (again - 1) now

-- its price, and the customer contracts
abbrev pub by_price : ℕ → ℕ → ℕ → ℕ → ℕ → List Row
by_price asked price block there contracts =
    11 when asked == price && not (block == 1)
    ¦ 12 when not (asked == required_of block price there)
    ¦ 13 when contracts == 0
    ¦ []

unfoldable pub trade_reason : ℕ → ℕ → ℕ → ℕ → ℕ → ℕ → ℕ
trade_reason side excuser status home initiator complex = first_of (by_trade side excuser status home initiator complex)

unfoldable pub late_reason : ℕ → ℕ → ℕ → ℕ → ℕ
late_reason initiator report close now = first_of (by_report initiator report close now)

unfoldable pub again_reason : ℕ → ℕ → ℕ
again_reason cancelled now = first_of (by_cancellation cancelled now)

unfoldable pub time_reason : ℕ → ℕ → ℕ → ℕ → ℕ → ℕ
time_reason again initiator report close now = first_of (by_time again initiator report close now)

unfoldable pub price_reason : ℕ → ℕ → ℕ → ℕ → ℕ → ℕ
price_reason asked price block there contracts = first_of (by_price asked price block there contracts)

-- the whole table, for an order that nothing cancels in time
unfoldable pub reason_of : Facts → ℕ
reason_of k =
    first_of
    (by_trade k.side k.excuser k.status k.home k.initiator k.complex
    ++ (by_time k.again k.initiator k.report k.close k.time
    ++ by_price k.asked k.price k.block k.there k.customers))

-- "0 for a reason other than 0; else the least of" the three, and at most 10 where the trade kept that the closing window had begun
unfoldable pub claim_of : ℕ → ℕ → ℕ → ℕ → ℕ → ℕ
claim_of why size contracts traded closing = if why == 0 then limited (closing == 1) (least_of size contracts traded) else 0
