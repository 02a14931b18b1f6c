-- "The printed day".
use Rattle.std.specs.Prelude.{ℕ, zero, suc, ◌+◌, ◌/◌, ◌%◌, ◌&&◌, length, get_or, if◌then◌else◌, ◌==◌}
use Prim.Native.Char.{code}
use Prim.Native.String.{String, [] as []ₛ, ◌∷◌ as ◌∷ₛ◌}
use mathlib.Core.List.{List, [], ◌∷◌, ◌++◌, flat_map}
use Rattle.rules.specs.Basics.{◌less_than◌, Answer, refused, ok, bit}
use Rattle.rules.specs.Header.{Header}
use Rattle.rules.specs.Record.{Event, told, quote, trade, order, is_quote, is_trade, is_sent, is_received, is_satisfaction}
use Rattle.rules.specs.Journal.{History, Records, happened, DayRecords, journal_of, day_records, count}
use Rattle.rules.specs.Verdicts.{Verdict, verdict, home_quote, sent_order, received_order, throughs, is_block}
use Rattle.rules.specs.OwnSheet.{SheetLine, own_lines}

-- ---- text

unfoldable pub ascii : String → List ℕ
ascii []ₛ = []
ascii (c ∷ₛ s) = code c ∷ ascii s

-- decimal, at most k digits before the last
unfoldable pub digits : ℕ → ℕ → List ℕ
digits zero n = (48 + n % 10) ∷ []
digits (suc k) n =
    let front = digits k (n / 10) in
    if n less_than 10 then (48 + n) ∷ [] else front ++ ((48 + n % 10) ∷ [])

-- every number that is printed has at most twenty digits
unfoldable pub decimal : ℕ → List ℕ
decimal n = digits 19 n

abbrev pub space : List ℕ → List ℕ → List ℕ
space a b = a ++ (32 ∷ b)

-- "each line ended by LF"
abbrev pub ended : List ℕ → List ℕ
ended line = line ++ (10 ∷ [])

-- ---- "a list, each line ended by LF": event, what, a, b, c

pub record Printed : Type 0 where
  pub event : ℕ
  pub what : String
  pub says : Verdict

unfoldable pub printed_line : Printed → List ℕ
printed_line p =
    ended
    (space (decimal p.event)
    (space (ascii p.what)
    (space (decimal p.says.a) (space (decimal p.says.b) (decimal p.says.c)))))

abbrev pub one_line : ℕ → String → Verdict → List Printed
one_line n what v = record { event = n; what = what; says = v } ∷ []

-- ---- what is printed of an event of record n, after the history before it. "Event counts records from 0."

-- Q, S, R, T. "Away quotes, statuses and responses print nothing."; document 02, a: "It prints nothing, nor do kinds 8 and 11."
unfoldable pub judged : Header → ℕ → History → Event → List Printed
judged h n past e =
    if is_quote e && (quote e).exchange == h.home then one_line n "Q" (home_quote h past (quote e))
    else if is_sent e then one_line n "S" (verdict (sent_order h past (order e)) (count is_sent past) 0)
    else if is_received e then one_line n "R" (received_order h past e)
    else if is_trade e then
    one_line n "T" (verdict (count is_trade past) (length (throughs h past (trade e))) (bit (is_block h past (trade e))))
    else []

-- "F: that order's line in our own sheet for the whole journal: reason, filled, cancelled."
abbrev pub sheet_verdict : SheetLine → Verdict
sheet_verdict s = verdict s.reason s.filled s.cancelled

unfoldable pub settled : List SheetLine → ℕ → History → Event → List Printed
settled own n past e =
    if is_satisfaction e then
    one_line n "F" (sheet_verdict (get_or own (count is_satisfaction past) (record { reason = 0; filled = 0; cancelled = 0 })))
    else []

-- of the events that record n tells of, one after the other. Document 02, e: "For home, each prints its own Q line with the one
-- event number."
unfoldable pub shown : Header → List SheetLine → ℕ → History → List Event → List Printed
shown h own n past [] = []
shown h own n past (e ∷ es) = (judged h n past e ++ settled own n past e) ++ shown h own n (e ∷ past) es

-- the list, in the order of the journal
unfoldable pub listed : Header → List SheetLine → Records → List Printed
listed h own [] = []
listed h own (r ∷ records) = listed h own records ++ shown h own (length records) (happened records) (told r)

-- "the first line is always `event what a b c`"
unfoldable pub first_line : List ℕ
first_line = ended (ascii "event what a b c")

unfoldable pub day_text : DayRecords → List ℕ
day_text d = first_line ++ flat_map printed_line (listed d.header (own_lines (journal_of d)) d.records)

-- "`refused 2 at 0` (number, place)"
unfoldable pub refusal_text : ℕ → ℕ → List ℕ
refusal_text n p = ended (space (ascii "refused") (space (decimal n) (space (ascii "at") (decimal p))))

unfoldable pub printed_answer : Answer DayRecords → List ℕ
printed_answer (refused n p) = refusal_text n p
printed_answer (ok d) = day_text d

unfoldable pub printed_day : List ℕ → List ℕ
printed_day bytes = printed_answer (day_records bytes)
