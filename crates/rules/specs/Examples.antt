-- "Thirteen proved examples": what the definitions say beside what the paper says, a row or more for each number.
-- proofs/ThirteenExamples.antt shows that each row's two sides are the same.
use Rattle.std.specs.Prelude.{ℕ, ◌+◌, ◌-◌, ◌&&◌, ◌==◌}
use Prim.Native.String.{String}
use mathlib.Core.List.{List, [], ◌∷◌, ◌++◌, flat_map}
use Rattle.rules.specs.Basics.{Answer, refused, ok, all, sum, bit}
use Rattle.rules.specs.Number.{Read, number, bytes_of, bytes_of_all, start_of}
use Rattle.rules.specs.Header.{Header, header_bytes}
use Rattle.rules.specs.Journal.{Journal, journal}
use Rattle.rules.specs.Due.{lines, of_trade, due, share_rule}
use Rattle.rules.specs.PrintedDay.{printed_day, ascii}
use Rattle.rules.specs.Only.{only_fills, filled_so}

pub record Example : Type 0 where
  pub number : ℕ
  pub says : List ℕ
  pub should : List ℕ

abbrev pub example : ℕ → List ℕ → List ℕ → Example
example n says should = record { number = n; says = says; should = should }

-- ---- journals for the examples. The paper leaves prices, senders and times of 4 to 7 open: chosen here are home 1 of four
-- exchanges, every firm size 10, away bids of 110, a trade at 100, claims at 110, all at the same millisecond.

abbrev pub the_close : ℕ
the_close = 57_600_000

abbrev pub four_exchanges : Header
four_exchanges =
    record { home = 1; exchanges = 4; close = the_close; sizes = 10 ∷ 10 ∷ 10 ∷ 10 ∷ 10 ∷ 10 ∷ 10 ∷ 10 ∷ [] }

-- records, each its kind, its milliseconds and its fields
abbrev pub written : List (List ℕ) → List ℕ
written records = header_bytes four_exchanges ++ flat_map bytes_of_all records

-- exchange x bids for n contracts in series 0, all of customers
abbrev pub bids : ℕ → ℕ → ℕ → List ℕ
bids x price n = 1 ∷ 0 ∷ x ∷ 0 ∷ price ∷ n ∷ n ∷ 0 ∷ 0 ∷ 0 ∷ []

abbrev pub trades : ℕ → ℕ → ℕ → ℕ → List ℕ
trades elapsed price size form = 3 ∷ elapsed ∷ 0 ∷ price ∷ size ∷ form ∷ 0 ∷ 0 ∷ 0 ∷ []

-- exchange x sends a Satisfaction Order for trade 0
abbrev pub claims : ℕ → ℕ → ℕ → ℕ → List ℕ
claims elapsed x price size = 7 ∷ elapsed ∷ 0 ∷ x ∷ price ∷ size ∷ []

abbrev pub prints : ℕ → String → List (List ℕ) → Example
prints n text records = example n (printed_day (written records)) (ascii text)

-- 1 where these are all the good fills of trade 0, and each of them is good
abbrev pub only_are : List (List ℕ) → Answer Journal → List ℕ
only_are good (refused n p) = []
only_are good (ok j) =
    let ls = of_trade 0 (lines j) in
    bit (only_fills ls (due j 0) good && all (λ fs. share_rule (filled_so ls fs) && sum fs == due j 0) good) ∷ []

abbrev pub only : ℕ → List (List ℕ) → List (List ℕ) → Example
only n good records = example n (only_are good (journal (written records))) (1 ∷ [])

-- "Trade 100, firm 10, customers and sizes 150, 70, 30: only 60, 28, 12."
abbrev pub fourth : List (List ℕ)
fourth =
    bids 2 110 150 ∷ bids 3 110 70 ∷ bids 4 110 30 ∷ trades 0 100 100 0
    ∷ claims 0 2 110 150 ∷ claims 0 3 110 70 ∷ claims 0 4 110 30 ∷ []

abbrev pub fourth_fills : List (List ℕ)
fourth_fills = (60 ∷ 28 ∷ 12 ∷ []) ∷ []

-- "Trade 20, firm 10, three of 30: only 7, 7, 6 in any order; ours 7, 7, 6."
abbrev pub fifth : List (List ℕ)
fifth =
    bids 2 110 30 ∷ bids 3 110 30 ∷ bids 4 110 30 ∷ trades 0 100 20 0
    ∷ claims 0 2 110 30 ∷ claims 0 3 110 30 ∷ claims 0 4 110 30 ∷ []

abbrev pub fifth_fills : List (List ℕ)
fifth_fills = (7 ∷ 7 ∷ 6 ∷ []) ∷ (7 ∷ 6 ∷ 7 ∷ []) ∷ (6 ∷ 7 ∷ 7 ∷ []) ∷ []

-- "Trade 20, firm 10, customers 30 and 30, sizes 5 and 30: only 5, 15."
abbrev pub sixth : List (List ℕ)
sixth = bids 2 110 30 ∷ bids 3 110 30 ∷ trades 0 100 20 0 ∷ claims 0 2 110 5 ∷ claims 0 3 110 30 ∷ []

abbrev pub sixth_fills : List (List ℕ)
sixth_fills = (5 ∷ 15 ∷ []) ∷ []

-- "Trade 10, firm 10, two of 30: 10 and 10."
abbrev pub seventh : List (List ℕ)
seventh = bids 2 110 30 ∷ bids 3 110 30 ∷ trades 0 100 10 0 ∷ claims 0 2 110 30 ∷ claims 0 3 110 30 ∷ []

-- "Report at close less 300,001: plus 180,000 timely, 180,001 late; at close less 300,000: 60,000 and 60,001."
-- The report is ten minutes after the trade, so that minutes counted from the trade would show.
abbrev pub eighth : ℕ → ℕ → List (List ℕ)
eighth before_close after =
    bids 2 110 30
    ∷ (3 ∷ (the_close - before_close - 600_000) ∷ 0 ∷ 100 ∷ 10 ∷ 0 ∷ 0 ∷ 0 ∷ 600_000 ∷ [])
    ∷ claims (600_000 + after) 2 110 30
    ∷ []

-- "Sent order 20,000 before the trade: no reason 2; 20,001: reason 2."
abbrev pub ninth : ℕ → List (List ℕ)
ninth before = bids 2 110 30 ∷ (4 ∷ 0 ∷ 1 ∷ 2 ∷ 0 ∷ 2 ∷ 110 ∷ 5 ∷ []) ∷ trades before 100 10 0 ∷ claims 0 2 110 30 ∷ []

-- "Home bid 119, 120, 121 against offer 120: clear, locked, crossed."
abbrev pub tenth : ℕ → List (List ℕ)
tenth bid = (1 ∷ 0 ∷ 2 ∷ 0 ∷ 0 ∷ 0 ∷ 0 ∷ 120 ∷ 5 ∷ 0 ∷ []) ∷ bids 1 bid 5 ∷ []

-- "300 is `AC 02`; `80 00` is refused."
abbrev pub read_as : Answer Read → List ℕ
read_as (refused n p) = n ∷ p ∷ []
read_as (ok r) = r.value ∷ []

-- "Principal size 10: order of 10 whole, of 11 at least 10."
abbrev pub twelfth : ℕ → List (List ℕ)
twelfth size = bids 1 100 50 ∷ (6 ∷ 0 ∷ 2 ∷ 2 ∷ 0 ∷ 2 ∷ 100 ∷ size ∷ []) ∷ []

-- "Day D, hex"
abbrev pub day_d : List ℕ
day_d =
    0x01 ∷ 0x02 ∷ 0x80 ∷ 0xD0 ∷ 0xBB ∷ 0x1B ∷ 0x0A ∷ 0x0A ∷ 0x0A ∷ 0x0A
    ∷ 0x01 ∷ 0xE8 ∷ 0x07 ∷ 0x02 ∷ 0x00 ∷ 0x6E ∷ 0x14 ∷ 0x0F ∷ 0x78 ∷ 0x14 ∷ 0x00
    ∷ 0x03 ∷ 0x00 ∷ 0x00 ∷ 0x64 ∷ 0x0C ∷ 0x00 ∷ 0x00 ∷ 0x00 ∷ 0x00
    ∷ 0x07 ∷ 0xE8 ∷ 0x07 ∷ 0x00 ∷ 0x02 ∷ 0x6E ∷ 0x14
    ∷ []

-- ---- the list

unfoldable pub examples : List Example
examples =
    prints 1 "event what a b c\n1 T 0 1 1\n" (bids 2 310 20 ∷ trades 0 300 500 1 ∷ [])
    ∷ prints 2 "event what a b c\n1 T 0 1 0\n" (bids 2 410 20 ∷ trades 0 400 499 1 ∷ [])
    ∷ prints 3 "event what a b c\n1 T 0 1 0\n" (bids 2 310 20 ∷ trades 0 299 500 1 ∷ [])
    ∷ prints 4 "event what a b c\n3 T 0 3 0\n4 F 0 60 90\n5 F 0 28 42\n6 F 0 12 18\n" fourth
    ∷ only 4 fourth_fills fourth
    ∷ prints 5 "event what a b c\n3 T 0 3 0\n4 F 0 7 23\n5 F 0 7 23\n6 F 0 6 24\n" fifth
    ∷ only 5 fifth_fills fifth
    ∷ prints 6 "event what a b c\n2 T 0 2 0\n3 F 0 5 0\n4 F 0 15 15\n" sixth
    ∷ only 6 sixth_fills sixth
    ∷ prints 7 "event what a b c\n2 T 0 2 0\n3 F 0 10 20\n4 F 0 10 20\n" seventh
    ∷ prints 8 "event what a b c\n1 T 0 1 0\n2 F 0 10 20\n" (eighth 300_001 180_000)
    ∷ prints 8 "event what a b c\n1 T 0 1 0\n2 F 8 0 30\n" (eighth 300_001 180_001)
    ∷ prints 8 "event what a b c\n1 T 0 1 0\n2 F 0 10 20\n" (eighth 300_000 60_000)
    ∷ prints 8 "event what a b c\n1 T 0 1 0\n2 F 8 0 30\n" (eighth 300_000 60_001)
    ∷ prints 9 "event what a b c\n1 S 0 0 0\n2 T 0 1 0\n3 F 0 10 20\n" (ninth 20_000)
    ∷ prints 9 "event what a b c\n1 S 0 0 0\n2 T 0 1 0\n3 F 2 0 30\n" (ninth 20_001)
    ∷ prints 10 "event what a b c\n1 Q 0 0 0\n" (tenth 119)
    ∷ prints 10 "event what a b c\n1 Q 1 2 1\n" (tenth 120)
    ∷ prints 10 "event what a b c\n1 Q 2 2 1\n" (tenth 121)
    ∷ example 11 (bytes_of 300) (0xAC ∷ 0x02 ∷ [])
    ∷ example 11 (read_as (number (start_of (0xAC ∷ 0x02 ∷ [])))) (300 ∷ [])
    ∷ example 11 (read_as (number (start_of (0x80 ∷ 0x00 ∷ [])))) (2 ∷ 0 ∷ [])
    ∷ prints 12 "event what a b c\n0 Q 0 0 0\n1 R 1 10 0\n" (twelfth 10)
    ∷ prints 12 "event what a b c\n0 Q 0 0 0\n1 R 2 10 0\n" (twelfth 11)
    ∷ example 13 (printed_day day_d) (ascii "event what a b c\n1 T 0 1 0\n2 F 0 12 8\n")
    ∷ []
