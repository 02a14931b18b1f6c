-- "Verdicts": home quote, sent order, received order, trade, block. Each is given the history before the event.
use Rattle.std.specs.Prelude.{ℕ, ◌+◌, ◌*◌, min, Bool, false, not, ◌&&◌, ◌||◌, List, [], ◌∷◌, if◌then◌else◌, ◌==◌}
use Rattle.rules.specs.Basics.{◌at_most◌, ◌at_least◌, ◌more_than◌, within, keep, ◌when◌, ◌¦◌, first_of}
use Rattle.rules.specs.Header.{Header, automatic, principal}
use Rattle.rules.specs.Record.{cross_form, other_form, linked, principal_order, buy, Event, Quote, quote, Trade, Order, order, is_received}
use Rattle.rules.specs.History.{History}
use Rattle.rules.specs.Prices.{absent, ◌is_above◌, ◌is_below◌, ◌equals◌, quotes, standing, non_firm, away, best_bid, best_offer}

-- the three numbers that a line of the printed day ends with
pub record Verdict : Type 0 where
  pub a : ℕ
  pub b : ℕ
  pub c : ℕ

abbrev pub verdict : ℕ → ℕ → ℕ → Verdict
verdict a b c = record { a = a; b = b; c = c }

-- the two sides of a quote: "side, 1 home's bid, 2 home's offer, or 0"
abbrev pub the_bid : ℕ
the_bid = 1

abbrev pub the_offer : ℕ
the_offer = 2

abbrev pub neither : ℕ
neither = 0

-- ---- Home quote

-- "Crossed if its bid is above an away offer or its offer below an away bid"; the side of home's quote that is so
unfoldable pub crosses : Quote → Quote → ℕ
crosses mine theirs =
    first_of (the_bid when mine.bid is_above theirs.offer ¦ the_offer when mine.offer is_below theirs.bid ¦ [])

-- "else locked if equal"
unfoldable pub locks : Quote → Quote → ℕ
locks mine theirs =
    first_of (the_bid when mine.bid equals theirs.offer ¦ the_offer when mine.offer equals theirs.bid ¦ [])

-- the verdict `kind` at the first exchange where a test names a side, `otherwise` where there is none
unfoldable pub lowest_named : ℕ → (ℕ → ℕ) → List ℕ → Verdict → Verdict
lowest_named kind side [] otherwise = otherwise
lowest_named kind side (x ∷ xs) otherwise =
    if side x == neither then lowest_named kind side xs otherwise else verdict kind x (side x)

-- "Crossed wins over locked; the lowest exchange of that kind is named."; "0/1/2 clear, locked, crossed; exchange or 0; side"
unfoldable pub home_quote : Header → History → Quote → Verdict
home_quote h past q =
    lowest_named 2 (λ x. crosses q (standing x q.series past)) (away h)
    (lowest_named 1 (λ x. locks q (standing x q.series past)) (away h) (verdict 0 0 neither))

-- ---- orders: a buy order goes for the offer, a sell order for the bid

abbrev pub shown : ℕ → Quote → ℕ
shown side q = if side == buy then q.offer else q.bid

abbrev pub best : Header → ℕ → ℕ → History → ℕ
best h side s past = if side == buy then best_offer h s past else best_bid h s past

-- an offer above the order's price, a bid below it
abbrev pub worse : ℕ → ℕ → ℕ → Bool
worse side there price = if side == buy then there is_above price else there is_below price

-- ---- Sent order: "1 if its price is not the receiver's bid (sell) or offer (buy); else 2 if that is not the best; else 0."
unfoldable pub sent_order : Header → History → Order → ℕ
sent_order h past o =
    let there = shown o.side (standing o.other o.series past) in
    first_of (1 when not (o.price equals there) ¦ 2 when not (there == best h o.side o.series past) ¦ [])

-- ---- Received order

-- "for P/A the lesser of both automatic sizes; for principal home's principal size"
unfoldable pub firm_size : Header → Order → ℕ
firm_size h o = if o.type == linked then min (automatic h h.home) (automatic h o.other) else principal h h.home

-- "No duty, reason 1: home's bid (sell) or offer (buy) is absent or worse than the price. Reason 2: it is not the best.
-- Reason 3: home is non-firm. First that holds."
unfoldable pub no_duty : Header → History → Order → ℕ
no_duty h past o =
    let ours = shown o.side (standing h.home o.series past) in
    first_of
    (1 when absent ours || worse o.side ours o.price
    ¦ 2 when not (ours == best h o.side o.series past)
    ¦ 3 when non_firm h.home past
    ¦ [])

-- "R: 0 none, 1 whole, 2 at least; contracts, 0 for none; reason or 0."
abbrev pub execute_none : ℕ
execute_none = 0

abbrev pub execute_whole : ℕ
execute_whole = 1

abbrev pub execute_at_least : ℕ
execute_at_least = 2

-- "Otherwise the whole order if not above the firm size, else at least the firm size. .. Every principal order is judged as if it
-- were the first.": the verdict on a first one, and on every P/A order
unfoldable pub first_order : Header → History → Order → Verdict
first_order h past o =
    let reason = no_duty h past o in
    let firm = firm_size h o in
    if not (reason == 0) then verdict execute_none 0 reason
    else if o.size at_most firm then verdict execute_whole o.size 0
    else verdict execute_at_least firm 0

-- ---- Second principal orders: document 02, d

-- "a principal order that we had to execute whole (the initial execution)": its time, series and side, home's price there at
-- that moment, and whether a later home quote gave another
pub record Execution : Type 0 where
  pub time : ℕ
  pub series : ℕ
  pub side : ℕ
  pub price : ℕ
  pub requoted : Bool

-- what stands for a sender, "in the class, any series"
pub data Period : Type 0 where
  no_period : Period
  begun : Execution → Period

-- "no duty for 15 seconds, up to and including 15,000 ms"
abbrev pub no_duty_for : ℕ
no_duty_for = 15_000

-- "After the 15 seconds, up to and including 60,000 ms"
abbrev pub period_lasts : ℕ
period_lasts = 60_000

-- "a later home quote gave another price, or none, on the side of the initial execution in its series"
unfoldable pub requotes : Header → Execution → Event → Bool
requotes h x e = quotes h.home x.series e && not (shown x.side (quote e) == x.price)

-- "and a price stands there now that is the best"
unfoldable pub best_there : Header → History → Execution → Bool
best_there h past x =
    shown x.side (standing h.home x.series past) equals best h x.side x.series past

-- "further principal orders from the same sender .. have no duty for 15 seconds"; "The exception: a later home quote .., and a
-- price stands there now that is the best; such an order is judged as a first one."
unfoldable pub too_soon : Header → History → Period → ℕ → Bool
too_soon h past no_period now = false
too_soon h past (begun x) now = now at_most (x.time + no_duty_for) && not (x.requoted && best_there h past x)

-- "After the 15 seconds, up to and including 60,000 ms and only while no such later quote has come, best or not"
unfoldable pub still_limited : Period → ℕ → Bool
still_limited no_period now = false
still_limited (begun x) now =
    now more_than (x.time + no_duty_for) && now at_most (x.time + period_lasts) && not x.requoted

-- An order at the time `now`, where this period stands for its sender. "Reason 4 and this answer are judged after 1, 2 and 3.";
-- "an order has answer 2 with the lesser of its size and our principal size"; "P/A orders stay as they are."
unfoldable pub order_in : Header → History → Period → ℕ → Order → Verdict
order_in h past p now o =
    let reason = no_duty h past o in
    let further = o.type == principal_order in
    if not (reason == 0) then verdict execute_none 0 reason
    else if further && too_soon h past p now then verdict execute_none 0 4
    else if further && still_limited p now then verdict execute_at_least (min o.size (principal h h.home)) 0
    else first_order h past o

-- "a principal order that we had to execute whole", from exchange x, where this period stood for it. Only an order judged as a
-- first one has this answer.
unfoldable pub executes_whole : Header → History → Period → ℕ → Event → Bool
executes_whole h past p x e =
    let o = order e in
    is_received e && o.other == x && o.type == principal_order && (order_in h past p e.time o).a == execute_whole

-- the period that begins with it
abbrev pub executed : Header → History → Event → Execution
executed h past e =
    let o = order e in
    record {
      time = e.time;
      series = o.series;
      side = o.side;
      price = shown o.side (standing h.home o.series past);
      requoted = false;
    }

-- a period goes on; a record that is such a quote is remembered
unfoldable pub goes_on : Header → Event → Period → Period
goes_on h e no_period = no_period
goes_on h e (begun x) =
    begun
    (record {
      time = x.time;
      series = x.series;
      side = x.side;
      price = x.price;
      requoted = x.requoted || requotes h x e;
    })

-- What stands for exchange x after a history. "A later whole execution of an order judged as a first one starts a new period in
-- the old one's place."
unfoldable pub period_of : Header → ℕ → History → Period
period_of h x [] = no_period
period_of h x (e ∷ past) =
    let p = period_of h x past in
    if executes_whole h past p x e then begun (executed h past e) else goes_on h e p

-- "All who use that verdict read the new meaning."
unfoldable pub received_order : Header → History → Event → Verdict
received_order h past e = order_in h past (period_of h (order e).other past) e.time (order e)

-- ---- Trade

-- "traded through if its bid is above the price or its offer below it": the side that is so
unfoldable pub through : Quote → ℕ → ℕ
through q price = first_of (the_bid when q.bid is_above price ¦ the_offer when q.offer is_below price ¦ [])

unfoldable pub side_through : History → Trade → ℕ → ℕ
side_through past t x = through (standing x t.series past) t.price

-- the away exchanges traded through
unfoldable pub throughs : Header → History → Trade → List ℕ
throughs h past t = keep (λ x. not (side_through past t x == neither)) (away h)

-- ---- Block: "500 or more contracts, price in cents times contracts at least 150,000, price below the best bid or above
-- the best offer, and block form 1 or 2."
unfoldable pub is_block : Header → History → Trade → Bool
is_block h past t =
    t.size at_least 500 && t.price * t.size at_least 150_000
    && (t.price is_below (best_bid h t.series past) || t.price is_above (best_offer h t.series past))
    && within cross_form other_form t.form
