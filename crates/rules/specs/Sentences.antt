-- The papers' sentences about one named input, a row each: what the definitions say beside what the sentence says.
-- proofs/Sentences.antt shows that each row's two sides are the same.
use Rattle.std.specs.Prelude.{ℕ, ◌-◌, length, take, drop, replicate}
use Prim.Native.String.{String}
use mathlib.Core.List.{List, [], ◌∷◌, ◌++◌, flat_map}
use Rattle.rules.specs.Basics.{Answer, refused, ok}
use Rattle.rules.specs.Limits.{most_journal_bytes}
use Rattle.rules.specs.Record.{Entry, entry_bytes}
use Rattle.rules.specs.Journal.{Journal, journal}
use Rattle.rules.specs.Due.{lines, of_trade, claims_of, due}
use Rattle.rules.specs.OwnSheet.{own_sheet}
use Rattle.rules.specs.SheetCheck.{check_sheet}
use Rattle.rules.specs.PrintedDay.{first_line, printed_day, ascii}
use Rattle.rules.specs.Writing.{write_record}
use Rattle.rules.specs.Examples.{Example, example, the_close, four_exchanges, written, bids, trades, claims, prints, only, day_d}

-- a refusal as its number and place, anything else as nothing
abbrev pub refusal : {A : Type 0} → Answer A → List ℕ
refusal (refused n p) = n ∷ p ∷ []
refusal (ok a) = []

-- .. or the bytes that were written
abbrev pub refusal_or : Answer (List ℕ) → List ℕ
refusal_or (refused n p) = n ∷ p ∷ []
refusal_or (ok bytes) = bytes

abbrev pub own_of : Answer Journal → List ℕ
own_of (refused n p) = n ∷ p ∷ []
own_of (ok j) = own_sheet j

-- Day D's header alone
abbrev pub header_d : List ℕ
header_d = take 10 day_d

abbrev pub quote_d : Entry
quote_d = record { kind = 1; elapsed = 1_000; fields = 2 ∷ 0 ∷ 110 ∷ 20 ∷ 15 ∷ 120 ∷ 20 ∷ 0 ∷ [] }

-- ---- document 02, a. Firm sizes of 10, exchanges 2 and 3 bid 110 with 30 customer contracts each, home trades at 100, and each
-- of the two claims 30; the closing record comes before the trade or after it, all at the same millisecond.

abbrev pub closes : List ℕ
closes = 9 ∷ 0 ∷ []

abbrev pub two_bids : List (List ℕ) → List (List ℕ)
two_bids more = bids 2 110 30 ∷ bids 3 110 30 ∷ more

abbrev pub two_claims : List (List ℕ)
two_claims = claims 0 2 110 30 ∷ claims 0 3 110 30 ∷ []

abbrev pub traded_then_closing : ℕ → List (List ℕ)
traded_then_closing size = two_bids (trades 0 100 size 0 ∷ closes ∷ two_claims)

abbrev pub closing_then_traded : ℕ → List (List ℕ)
closing_then_traded size = two_bids (closes ∷ trades 0 100 size 0 ∷ two_claims)

-- ---- document 02, b. The same two bids; at the time t home trades 30 at 100, which exchange 4 started, and each of the two claims 30 at
-- once. So many milliseconds later the first claim is cancelled and exchange 4 named.

abbrev pub started_by_four : ℕ → List ℕ
started_by_four t = 3 ∷ t ∷ 0 ∷ 100 ∷ 30 ∷ 0 ∷ 0 ∷ 4 ∷ 0 ∷ []

-- Satisfaction Order n is cancelled, and exchange x named
abbrev pub cancels : ℕ → ℕ → ℕ → List ℕ
cancels elapsed n x = 8 ∷ elapsed ∷ n ∷ x ∷ []

abbrev pub claimed_then : ℕ → List (List ℕ) → List (List ℕ)
claimed_then t more = two_bids (started_by_four t ∷ two_claims ++ more)

abbrev pub cancelled_after : ℕ → ℕ → List (List ℕ)
cancelled_after t elapsed = claimed_then t (cancels elapsed 0 4 ∷ [])

-- exchange 2 claims at a price, so long after the trade, and the claim is cancelled at once
abbrev pub claimed_at : ℕ → ℕ → List (List ℕ)
claimed_at elapsed price = two_bids (started_by_four 0 ∷ claims elapsed 2 price 30 ∷ cancels 0 0 4 ∷ [])

-- exchange 2 bids 110 without customer contracts and claims at once, and the claim is cancelled
abbrev pub claimed_for_nobody : List (List ℕ)
claimed_for_nobody = (1 ∷ 0 ∷ 2 ∷ 0 ∷ 110 ∷ 30 ∷ 0 ∷ 0 ∷ 0 ∷ 0 ∷ []) ∷ started_by_four 0 ∷ claims 0 2 110 30 ∷ cancels 0 0 4 ∷ []

-- ---- document 02, i. Exchange 2 bids 110; home trades 30 at 100, which is no block, or exchange 4 started the same trade; at once exchange 2
-- claims at a price. Then records of kind 11, which take a claim back, and further claims.

abbrev pub takes_back : ℕ → ℕ → List ℕ
takes_back elapsed n = 11 ∷ elapsed ∷ n ∷ []

abbrev pub priced_at : ℕ → List (List ℕ) → List (List ℕ)
priced_at price more = bids 2 110 30 ∷ trades 0 100 30 0 ∷ claims 0 2 price 30 ∷ more

abbrev pub started_and_priced : List (List ℕ) → List (List ℕ)
started_and_priced more = bids 2 110 30 ∷ started_by_four 0 ∷ claims 0 2 100 30 ∷ more

-- taken back so many milliseconds after the claim, and sent again so many after that
abbrev pub sent_again : ℕ → ℕ → List (List ℕ)
sent_again after again = takes_back after 0 ∷ claims again 2 110 30 ∷ []

-- a block: 500 at 300, outside, a cross; claimed at its price, which is the one required
abbrev pub block_taken_back : List (List ℕ)
block_taken_back = bids 2 310 30 ∷ trades 0 300 500 1 ∷ claims 0 2 300 30 ∷ takes_back 0 0 ∷ []

-- the claims of trade 0, and its due total
abbrev pub claimed : Answer Journal → List ℕ
claimed (refused n p) = []
claimed (ok j) = claims_of (of_trade 0 (lines j)) ++ (due j 0 ∷ [])

-- ---- document 02, d. Home bids 100 in series 0 and 1 and shows no offer. Exchange 2 sells 10 in series 0 by a principal order, which home has
-- to execute whole. Then further quotes of home, and further orders.

-- home's quote in a series: a bid for 50 contracts, and an offer of 50
abbrev pub home_quotes : ℕ → ℕ → ℕ → List ℕ
home_quotes series bid offer = 1 ∷ 0 ∷ 1 ∷ series ∷ bid ∷ 50 ∷ 0 ∷ offer ∷ 50 ∷ 0 ∷ []

abbrev pub home_bids : ℕ → ℕ → List ℕ
home_bids series price = 1 ∷ 0 ∷ 1 ∷ series ∷ price ∷ 50 ∷ 0 ∷ 0 ∷ 0 ∷ 0 ∷ []

-- in series 0
abbrev pub home_shows_nothing : List ℕ
home_shows_nothing = 1 ∷ 0 ∷ 1 ∷ 0 ∷ 0 ∷ 0 ∷ 0 ∷ 0 ∷ 0 ∷ 0 ∷ []

-- exchange x sells to home at 100 or at another price, by a principal order or a P/A order
abbrev pub sells_at : ℕ → ℕ → ℕ → ℕ → ℕ → List ℕ
sells_at price elapsed x series size = 6 ∷ elapsed ∷ 2 ∷ x ∷ series ∷ 2 ∷ price ∷ size ∷ []

abbrev pub sells : ℕ → ℕ → ℕ → ℕ → List ℕ
sells elapsed x series size = sells_at 100 elapsed x series size

abbrev pub sells_linked : ℕ → ℕ → ℕ → ℕ → List ℕ
sells_linked elapsed x series size = 6 ∷ elapsed ∷ 1 ∷ x ∷ series ∷ 2 ∷ 100 ∷ size ∷ []

abbrev pub bidding : List (List ℕ) → List (List ℕ)
bidding more = home_bids 0 100 ∷ home_bids 1 100 ∷ more

abbrev pub executed_then : List (List ℕ) → List (List ℕ)
executed_then more = bidding (sells 0 2 0 10 ∷ more)

-- what is printed of the two quotes, then the rest
abbrev pub prints_orders : ℕ → String → List (List ℕ) → Example
prints_orders n rest records = example n (printed_day (written records)) (ascii "event what a b c\n0 Q 0 0 0\n1 Q 0 0 0\n" ++ ascii rest)

-- ---- document 02, e. Quotes of one exchange at once, out of these: in a series a bid for 30 contracts, all of customers; an offer of 30; a
-- bid for none, which is 6.

abbrev pub bid_in : ℕ → ℕ → List ℕ
bid_in series price = series ∷ price ∷ 30 ∷ 30 ∷ 0 ∷ 0 ∷ 0 ∷ []

abbrev pub offer_in : ℕ → ℕ → List ℕ
offer_in series price = series ∷ 0 ∷ 0 ∷ 0 ∷ price ∷ 30 ∷ 0 ∷ []

abbrev pub bid_of_none : List ℕ
bid_of_none = 0 ∷ 110 ∷ 0 ∷ 0 ∷ 0 ∷ 0 ∷ 0 ∷ []

abbrev pub quotes_at_once : ℕ → List (List ℕ) → List ℕ
quotes_at_once x quotes = 10 ∷ 0 ∷ x ∷ length quotes ∷ flat_map (λ q. q) quotes

-- exchange 2 bids 110, home sends it an order for that bid, then come these quotes of exchange 2; more than 20 seconds later home trades at 100,
-- and exchange 2 claims
abbrev pub sent_then_quotes : List (List ℕ) → List (List ℕ)
sent_then_quotes quotes =
    bids 2 110 30 ∷ (4 ∷ 0 ∷ 1 ∷ 2 ∷ 0 ∷ 2 ∷ 110 ∷ 5 ∷ []) ∷ quotes_at_once 2 quotes ∷ trades 20_001 100 30 0 ∷ claims 0 2 110 30 ∷ []

-- the same with two quotes in other series 10 seconds after the order, and the trade so much later
abbrev pub sent_then_later : ℕ → List (List ℕ)
sent_then_later wait =
    bids 2 110 30 ∷ (4 ∷ 0 ∷ 1 ∷ 2 ∷ 0 ∷ 2 ∷ 110 ∷ 5 ∷ []) ∷ (10 ∷ 10_000 ∷ 2 ∷ 2 ∷ bid_in 1 100 ++ bid_in 2 100)
    ∷ trades wait 100 30 0 ∷ claims 0 2 110 30 ∷ []

-- what the writer of a record of kind 10 answers to such fields: its refusal, or the bytes
abbrev pub batch_written : List ℕ → List ℕ
batch_written fields = refusal_or (write_record four_exchanges 0 (record { kind = 10; elapsed = 0; fields = fields }) 100)

unfoldable pub sentences : List Example
sentences =
    -- "An empty journal is refused 2 at 0."
    example 1 (refusal (journal [])) (2 ∷ 0 ∷ [])
    ∷ example 2 (printed_day []) (ascii "refused 2 at 0\n")
    -- "A header alone is accepted and its only sheet is empty."
    ∷ example 3 (refusal (journal header_d)) []
    ∷ example 4 (refusal (check_sheet header_d [])) []
    ∷ example 5 (refusal (check_sheet header_d (0 ∷ []))) (20 ∷ 0 ∷ [])
    -- "journal over 32,768 bytes"
    ∷ example 6 (refusal (journal (0 ∷ replicate most_journal_bytes 0))) (1 ∷ 0 ∷ [])
    -- Day D's sheet, and a sheet that breaks each of 20 to 25
    ∷ example 7 (own_of (journal day_d)) (0 ∷ 12 ∷ 8 ∷ [])
    ∷ example 8 (refusal (check_sheet day_d (0 ∷ 12 ∷ 8 ∷ []))) []
    ∷ example 9 (refusal (check_sheet day_d (0 ∷ 12 ∷ []))) (20 ∷ 2 ∷ [])
    ∷ example 10 (refusal (check_sheet day_d (0 ∷ 12 ∷ 9 ∷ []))) (21 ∷ 0 ∷ [])
    ∷ example 11 (refusal (check_sheet day_d (3 ∷ 12 ∷ 8 ∷ []))) (22 ∷ 0 ∷ [])
    ∷ example 12 (refusal (check_sheet day_d (0 ∷ 13 ∷ 7 ∷ []))) (24 ∷ 0 ∷ [])
    ∷ example 13 (refusal (check_sheet day_d (0 ∷ 11 ∷ 9 ∷ []))) (25 ∷ 0 ∷ [])
    -- "Writing a record": the quote of Day D is its eleven bytes
    ∷ example 14 (entry_bytes quote_d) (take 11 (drop 10 day_d))
    -- "For a trade after it, each claim is also at most 10, and due totals follow."
    ∷ prints 15 "event what a b c\n2 T 0 2 0\n4 F 0 15 15\n5 F 0 15 15\n" (traded_then_closing 30)
    ∷ example 16 (claimed (journal (written (traded_then_closing 30)))) (30 ∷ 30 ∷ 30 ∷ [])
    ∷ prints 17 "event what a b c\n3 T 0 2 0\n4 F 0 10 20\n5 F 0 10 20\n" (closing_then_traded 30)
    ∷ example 18 (claimed (journal (written (closing_then_traded 30)))) (10 ∷ 10 ∷ 20 ∷ [])
    ∷ prints 19 "event what a b c\n3 T 0 2 0\n4 F 0 6 24\n5 F 0 6 24\n" (closing_then_traded 12)
    ∷ example 20 (claimed (journal (written (closing_then_traded 12)))) (10 ∷ 10 ∷ 12 ∷ [])
    ∷ only 21 ((6 ∷ 6 ∷ []) ∷ []) (closing_then_traded 12)
    -- "Record kind 9, without fields": two bytes are a record, and it prints nothing
    ∷ example 22 (printed_day (header_d ++ closes)) first_line
    -- "a second kind 9 is 7"
    ∷ example 23 (refusal (journal (header_d ++ closes ++ closes))) (7 ∷ 12 ∷ [])
    -- kinds 0 and 12 are unknown
    ∷ example 24 (refusal (journal (header_d ++ (0 ∷ 0 ∷ [])))) (4 ∷ 10 ∷ [])
    ∷ example 25 (refusal (journal (header_d ++ (12 ∷ 0 ∷ [])))) (4 ∷ 10 ∷ [])
    -- "up to and including 180,000 ms after receiving it"; "with claim 0", and due totals follow; "a late one cancels and changes nothing"
    ∷ prints 26 "event what a b c\n2 T 0 2 0\n3 F 14 0 30\n4 F 0 30 0\n" (cancelled_after 0 180_000)
    ∷ example 27 (claimed (journal (written (cancelled_after 0 180_000)))) (0 ∷ 30 ∷ 30 ∷ [])
    ∷ prints 28 "event what a b c\n2 T 0 2 0\n3 F 0 15 15\n4 F 0 15 15\n" (cancelled_after 0 180_001)
    ∷ example 29 (claimed (journal (written (cancelled_after 0 180_001)))) (30 ∷ 30 ∷ 30 ∷ [])
    -- "or 60,000 if we received it at or after close less 300,000"
    ∷ prints 30 "event what a b c\n2 T 0 2 0\n3 F 14 0 30\n4 F 0 30 0\n" (cancelled_after (the_close - 300_000) 60_000)
    ∷ prints 31 "event what a b c\n2 T 0 2 0\n3 F 0 15 15\n4 F 0 15 15\n" (cancelled_after (the_close - 300_000) 60_001)
    ∷ prints 32 "event what a b c\n2 T 0 2 0\n3 F 14 0 30\n4 F 0 30 0\n" (cancelled_after (the_close - 300_001) 60_001)
    -- "judged after 9 and before 11": 9 stays; 11, 12 and 13 give way
    ∷ prints 33 "event what a b c\n2 T 0 2 0\n3 F 9 0 30\n" (claimed_at 180_001 110)
    ∷ prints 34 "event what a b c\n2 T 0 2 0\n3 F 14 0 30\n" (claimed_at 180_000 100)
    ∷ prints 35 "event what a b c\n2 T 0 2 0\n3 F 14 0 30\n" (claimed_at 180_000 111)
    ∷ prints 36 "event what a b c\n1 T 0 1 0\n2 F 14 0 30\n" claimed_for_nobody
    -- "a claim already cancelled is 7", in time or late
    ∷ example 37 (refusal (journal (written (claimed_then 0 (cancels 0 0 4 ∷ cancels 0 0 4 ∷ []))))) (7 ∷ 59 ∷ [])
    ∷ example 38 (refusal (journal (written (claimed_then 0 (cancels 180_001 0 4 ∷ cancels 0 0 4 ∷ []))))) (7 ∷ 61 ∷ [])
    -- "an unknown Satisfaction Order"; "a named exchange that is not the initiator", home among them; "a trade without initiator"
    ∷ example 39 (refusal (journal (written (claimed_then 0 (cancels 0 2 4 ∷ []))))) (7 ∷ 55 ∷ [])
    ∷ example 40 (refusal (journal (written (claimed_then 0 (cancels 0 0 3 ∷ []))))) (7 ∷ 55 ∷ [])
    ∷ example 41 (refusal (journal (written (claimed_then 0 (cancels 0 0 1 ∷ []))))) (7 ∷ 55 ∷ [])
    ∷ example 42 (refusal (journal (written (two_bids (trades 0 100 30 0 ∷ two_claims ++ (cancels 0 0 4 ∷ [])))))) (7 ∷ 55 ∷ [])
    -- an exchange named that is none is 5
    ∷ example 43 (refusal (journal (written (claimed_then 0 (cancels 0 0 0 ∷ []))))) (5 ∷ 55 ∷ [])
    ∷ example 44 (refusal (journal (written (claimed_then 0 (cancels 0 0 5 ∷ []))))) (5 ∷ 55 ∷ [])
    -- 5 before 7
    ∷ example 45 (refusal (journal (written (claimed_then 0 (cancels 0 2 0 ∷ []))))) (5 ∷ 55 ∷ [])
    -- document 02, i: "not judged by 8 or 9 but by reason 15: later than 180,000 ms after the cancellation"; "The first keeps the reason it has"
    ∷ prints 46 "event what a b c\n1 T 0 1 0\n2 F 11 0 30\n4 F 0 30 0\n" (priced_at 100 (sent_again 180_000 180_000))
    ∷ example 47 (claimed (journal (written (priced_at 100 (sent_again 180_000 180_000))))) (0 ∷ 30 ∷ 30 ∷ [])
    ∷ prints 48 "event what a b c\n1 T 0 1 0\n2 F 11 0 30\n4 F 15 0 30\n" (priced_at 100 (sent_again 180_000 180_001))
    ∷ prints 49 "event what a b c\n1 T 0 1 0\n2 F 11 0 30\n4 F 0 30 0\n" (started_and_priced (sent_again 180_000 180_000))
    -- "15 stands in 8's place": before 14, which a second claim in time may have
    ∷ prints 50 "event what a b c\n1 T 0 1 0\n2 F 11 0 30\n4 F 15 0 30\n" (started_and_priced (sent_again 0 180_001 ++ (cancels 0 1 4 ∷ [])))
    ∷ prints 51 "event what a b c\n1 T 0 1 0\n2 F 11 0 30\n4 F 14 0 30\n" (started_and_priced (sent_again 0 180_000 ++ (cancels 0 1 4 ∷ [])))
    -- "kind 11 for an unknown claim"; "a block"; "a price that is not the trade's"; "more than 180,000 ms after the claim"
    ∷ example 52 (refusal (journal (written (priced_at 100 (takes_back 0 1 ∷ []))))) (7 ∷ 39 ∷ [])
    ∷ example 53 (refusal (journal (written block_taken_back))) (7 ∷ 43 ∷ [])
    ∷ example 54 (refusal (journal (written (priced_at 110 (takes_back 0 0 ∷ []))))) (7 ∷ 39 ∷ [])
    ∷ example 55 (refusal (journal (written (priced_at 100 (takes_back 180_001 0 ∷ []))))) (7 ∷ 39 ∷ [])
    -- "a claim already cancelled by kind 8 or 11", and then by kind 8 too
    ∷ example 56 (refusal (journal (written (started_and_priced (cancels 0 0 4 ∷ takes_back 0 0 ∷ []))))) (7 ∷ 43 ∷ [])
    ∷ example 57 (refusal (journal (written (priced_at 100 (takes_back 0 0 ∷ takes_back 0 0 ∷ []))))) (7 ∷ 42 ∷ [])
    ∷ example 58 (refusal (journal (written (started_and_priced (takes_back 0 0 ∷ cancels 0 0 4 ∷ []))))) (7 ∷ 42 ∷ [])
    -- "a second kind 11 for the exchange and trade"
    ∷ example 59 (refusal (journal (written (priced_at 100 (takes_back 0 0 ∷ claims 0 2 100 30 ∷ takes_back 0 1 ∷ []))))) (7 ∷ 48 ∷ [])
    -- "one that is not so cancelled": a third claim is 7, and so is a second after kind 8
    ∷ example 60 (refusal (journal (written (priced_at 100 (sent_again 0 0 ++ (claims 0 2 110 30 ∷ [])))))) (7 ∷ 48 ∷ [])
    ∷ example 61 (refusal (journal (written (started_and_priced (cancels 0 0 4 ∷ claims 0 2 110 30 ∷ []))))) (7 ∷ 43 ∷ [])
    -- document 02, d: "no duty for 15 seconds, up to and including 15,000 ms, reason 4", "in the class, any series"
    ∷ prints_orders 62 "2 R 1 10 0\n3 R 0 0 4\n" (executed_then (sells 15_000 2 1 5 ∷ []))
    -- "After the 15 seconds, up to and including 60,000 ms .. answer 2 with the lesser of its size and our principal size"
    ∷ prints_orders 63 "2 R 1 10 0\n3 R 2 5 0\n" (executed_then (sells 15_001 2 1 5 ∷ []))
    ∷ prints_orders 64 "2 R 1 10 0\n3 R 2 10 0\n" (executed_then (sells 15_001 2 0 11 ∷ []))
    ∷ prints_orders 65 "2 R 1 10 0\n3 R 2 5 0\n" (executed_then (sells 60_000 2 0 5 ∷ []))
    ∷ prints_orders 66 "2 R 1 10 0\n3 R 1 5 0\n" (executed_then (sells 60_001 2 0 5 ∷ []))
    -- "It starts no new period": of all of the order at the last millisecond, and one later an order is a first one
    ∷ prints_orders 67 "2 R 1 10 0\n3 R 2 5 0\n4 R 1 5 0\n" (executed_then (sells 60_000 2 0 5 ∷ sells 1 2 0 5 ∷ []))
    -- "The exception: a later home quote gave another price .. and a price stands there now that is the best"; best or not
    ∷ prints_orders 68 "2 R 1 10 0\n3 Q 0 0 0\n4 R 1 5 0\n" (executed_then (home_bids 0 101 ∷ sells 0 2 1 5 ∷ []))
    ∷ prints_orders 69 "2 R 1 10 0\n4 Q 0 0 0\n5 R 0 0 4\n" (executed_then (bids 3 102 5 ∷ home_bids 0 101 ∷ sells 0 2 1 5 ∷ []))
    -- "or none": no price stands there, then the old one again
    ∷ prints_orders 70 "2 R 1 10 0\n3 Q 0 0 0\n4 R 0 0 4\n" (executed_then (home_shows_nothing ∷ sells 0 2 1 5 ∷ []))
    ∷ prints_orders 71 "2 R 1 10 0\n3 Q 0 0 0\n4 Q 0 0 0\n5 R 1 5 0\n" (executed_then (home_shows_nothing ∷ home_bids 0 100 ∷ sells 0 2 1 5 ∷ []))
    -- "only while no such later quote has come, best or not"
    ∷ prints_orders 72 "2 R 1 10 0\n4 Q 0 0 0\n5 R 1 5 0\n" (executed_then (bids 3 102 5 ∷ home_bids 0 101 ∷ sells 15_001 2 1 5 ∷ []))
    -- "another price": not the same once more; "a later home quote": not an earlier one; "on the side .. in its series": no other
    ∷ prints_orders 73 "2 R 1 10 0\n3 Q 0 0 0\n4 R 0 0 4\n" (executed_then (home_bids 0 100 ∷ sells 0 2 1 5 ∷ []))
    ∷ prints_orders 74 "2 Q 0 0 0\n3 Q 0 0 0\n4 R 1 10 0\n5 R 0 0 4\n" (bidding (home_bids 0 99 ∷ home_bids 0 100 ∷ sells 0 2 0 10 ∷ sells 0 2 1 5 ∷ []))
    ∷ prints_orders 75 "2 R 1 10 0\n3 Q 0 0 0\n4 Q 0 0 0\n5 R 0 0 4\n" (executed_then (home_quotes 0 100 120 ∷ home_bids 1 101 ∷ sells 0 2 1 5 ∷ []))
    -- "A later whole execution of an order judged as a first one starts a new period in the old one's place."
    ∷ prints_orders 76 "2 R 1 10 0\n3 R 1 5 0\n4 R 0 0 4\n5 R 2 5 0\n" (executed_then (sells 60_001 2 0 5 ∷ sells 15_000 2 0 5 ∷ sells 1 2 0 5 ∷ []))
    ∷ prints_orders 77 "2 R 1 10 0\n3 Q 0 0 0\n4 R 1 5 0\n5 R 0 0 4\n" (executed_then (home_bids 0 101 ∷ sells 10_000 2 1 5 ∷ sells 10_000 2 1 5 ∷ []))
    -- "that we had to execute whole": one above the firm size begins none
    ∷ prints_orders 78 "2 R 2 10 0\n3 R 1 10 0\n" (bidding (sells 0 2 0 11 ∷ sells 0 2 0 10 ∷ []))
    ∷ prints_orders 79 "2 R 1 10 0\n3 Q 0 0 0\n4 R 2 10 0\n5 R 1 5 0\n" (executed_then (home_bids 0 101 ∷ sells 0 2 1 11 ∷ sells 0 2 1 5 ∷ []))
    -- "from the same sender"; "P/A orders stay as they are", within a period and before one
    ∷ prints_orders 80 "2 R 1 10 0\n3 R 1 10 0\n4 R 1 10 0\n" (executed_then (sells 0 3 0 10 ∷ sells_linked 0 2 0 10 ∷ []))
    ∷ prints_orders 81 "2 R 1 10 0\n3 R 1 10 0\n" (bidding (sells_linked 0 2 0 10 ∷ sells 0 2 0 10 ∷ []))
    -- "Reason 4 and this answer are judged after 1, 2 and 3.": 1 stays, and in the place of either answer
    ∷ prints_orders 82 "2 R 1 10 0\n3 R 0 0 1\n4 R 0 0 1\n" (executed_then (sells_at 101 15_000 2 0 5 ∷ sells_at 101 1 2 0 5 ∷ []))
    ∷ prints_orders 83 "2 R 1 10 0\n4 R 0 0 2\n5 R 0 0 2\n" (executed_then (bids 3 101 5 ∷ sells 15_000 2 0 5 ∷ sells 1 2 0 5 ∷ []))
    ∷ prints_orders 84 "2 R 1 10 0\n4 R 0 0 3\n5 R 0 0 3\n" (executed_then ((2 ∷ 0 ∷ 1 ∷ 1 ∷ []) ∷ sells 15_000 2 0 5 ∷ sells 1 2 0 5 ∷ []))
    -- "that we had to execute whole": one above the firm size does not end the period that stands either; once home's price there is no longer
    -- the best, reason 4 is back
    ∷ prints_orders 85 "2 R 1 10 0\n3 Q 0 0 0\n4 R 2 10 0\n6 R 0 0 4\n" (executed_then (home_bids 0 101 ∷ sells 0 2 1 11 ∷ bids 3 102 5 ∷ sells 0 2 1 5 ∷ []))
    -- document 02, e: "For home, each prints its own Q line with the one event number"; "a series may come twice": each is judged
    ∷ prints 86 "event what a b c\n1 Q 2 2 2\n1 Q 1 2 2\n1 Q 0 0 0\n2 Q 0 0 0\n"
    (bids 2 110 30 ∷ quotes_at_once 1 (offer_in 0 109 ∷ offer_in 0 110 ∷ offer_in 1 50 ∷ []) ∷ home_bids 1 40 ∷ [])
    -- "Its verdicts and end state equal those of so many kind 1 records": the last one of a series stands
    ∷ prints 87 "event what a b c\n1 T 0 1 0\n2 F 0 30 0\n" (quotes_at_once 2 (bid_in 0 120 ∷ bid_in 0 110 ∷ []) ∷ trades 0 100 30 0 ∷ claims 0 2 110 30 ∷ [])
    -- .. an earlier one ends reason 2, where it is in the series
    ∷ prints 88 "event what a b c\n1 S 0 0 0\n3 T 0 1 0\n4 F 0 30 0\n" (sent_then_quotes (bid_in 0 109 ∷ bid_in 0 110 ∷ []))
    ∷ prints 89 "event what a b c\n1 S 0 0 0\n3 T 0 1 0\n4 F 2 0 30\n" (sent_then_quotes (bid_in 1 109 ∷ bid_in 0 110 ∷ []))
    -- .. and is a later home quote for a second principal order
    ∷ prints_orders 90 "2 R 1 10 0\n3 Q 0 0 0\n3 Q 0 0 0\n4 R 1 5 0\n" (executed_then (quotes_at_once 1 (bid_in 0 99 ∷ bid_in 0 100 ∷ []) ∷ sells 0 2 1 5 ∷ []))
    -- "a count out of range is 5, found before the quotes are read": 0, 33, and none of the quotes stands there
    ∷ example 91 (refusal (journal (written ((10 ∷ 0 ∷ 2 ∷ 0 ∷ []) ∷ [])))) (5 ∷ 14 ∷ [])
    ∷ example 92 (refusal (journal (written ((10 ∷ 0 ∷ 2 ∷ 33 ∷ []) ∷ [])))) (5 ∷ 14 ∷ [])
    ∷ example 93 (refusal (journal (written (quotes_at_once 2 (replicate 32 (bid_in 0 110)) ∷ [])))) []
    -- "then all quotes are read (2, at the number's first byte)", though there is no exchange 5 and the first has no series 32
    ∷ example 94 (refusal (journal (written ((10 ∷ 0 ∷ 5 ∷ 2 ∷ bid_in 32 110 ++ (0 ∷ 110 ∷ [])) ∷ [])))) (2 ∷ 27 ∷ [])
    -- "and the first that kind 1 would refuse gives its 5 or 6 at the batch's start"
    ∷ example 95 (refusal (journal (written (quotes_at_once 2 (bid_of_none ∷ bid_in 32 110 ∷ []) ∷ [])))) (6 ∷ 14 ∷ [])
    ∷ example 96 (refusal (journal (written (quotes_at_once 2 (bid_in 32 110 ∷ bid_of_none ∷ []) ∷ [])))) (5 ∷ 14 ∷ [])
    -- exchange and the day's time are among that: 5 before 6
    ∷ example 97 (refusal (journal (written (quotes_at_once 5 (bid_of_none ∷ []) ∷ [])))) (5 ∷ 14 ∷ [])
    ∷ example 98 (refusal (journal (written ((9 ∷ 86_399_999 ∷ []) ∷ (10 ∷ 1 ∷ 2 ∷ 1 ∷ bid_in 0 110) ∷ [])))) (5 ∷ 19 ∷ [])
    -- the writer answers as the reader does; given fewer numbers than the count asks for, 5, and those beyond do not count
    ∷ example 99 (batch_written (2 ∷ 2 ∷ bid_of_none ++ bid_in 32 110)) (6 ∷ 0 ∷ [])
    ∷ example 100 (batch_written (2 ∷ 2 ∷ bid_of_none)) (5 ∷ 0 ∷ [])
    ∷ example 101 (batch_written (2 ∷ 1 ∷ bid_in 0 110 ++ (7 ∷ []))) (quotes_at_once 2 (bid_in 0 110 ∷ []))
    -- "the later ones with zero elapsed time": the batch's 10,000 ms count once, so the order is 20,000 ms old at the trade; one more is reason 2
    ∷ prints 102 "event what a b c\n1 S 0 0 0\n3 T 0 1 0\n4 F 0 30 0\n" (sent_then_later 10_000)
    ∷ prints 103 "event what a b c\n1 S 0 0 0\n3 T 0 1 0\n4 F 2 0 30\n" (sent_then_later 10_001)
    ∷ []
