-- "Refusal numbers": each number of the paper's table under a name. The order in which they are looked for stands where each is used.
use Rattle.std.specs.Prelude.{ℕ}

-- "journal over 32,768 bytes"
abbrev pub journal_too_long : ℕ
journal_too_long = 1

-- "a number cut off, over 4 bytes, or longer than needed"
abbrev pub unreadable_number : ℕ
unreadable_number = 2

-- "a header number out of range"
abbrev pub header_out_of_range : ℕ
header_out_of_range = 3

-- "unknown kind"
abbrev pub unknown_kind : ℕ
unknown_kind = 4

-- "a field out of range, or the day's time passed"
abbrev pub field_out_of_range : ℕ
field_out_of_range = 5

-- "quote with both sides and bid not below offer; a price 0 with a size or customers; a price with size 0; customers above size"
abbrev pub quote_unfit : ℕ
quote_unfit = 6

-- "unknown trade or sent order, a second response, a fill above the order, a second Satisfaction Order of one exchange for one trade";
-- document 02, a: "a second kind 9"; document 02, b: "an unknown Satisfaction Order, a trade without initiator, a named exchange that
-- is not the initiator, or a claim already cancelled"; document 02, i: "kind 11 for an unknown claim, a block, a price that is not the
-- trade's, more than 180,000 ms after the claim, a claim already cancelled by kind 8 or 11, or a second kind 11 for the exchange and trade"
abbrev pub does_not_belong : ℕ
does_not_belong = 7

-- "one trade, sent order or Satisfaction Order too many"
abbrev pub one_too_many : ℕ
one_too_many = 8

-- "the lent output is too short"
abbrev pub output_too_short : ℕ
output_too_short = 9

-- "sheet is not exactly three readable numbers per Satisfaction Order"
abbrev pub not_three_each : ℕ
not_three_each = 20

-- "filled plus cancelled is not the order's size"
abbrev pub does_not_add_up : ℕ
does_not_add_up = 21

-- "wrong reason"
abbrev pub wrong_reason : ℕ
wrong_reason = 22

-- "filled above the claim"
abbrev pub above_claim : ℕ
above_claim = 24

-- "a trade's fills do not make its due total"
abbrev pub not_the_due_total : ℕ
not_the_due_total = 25

-- "share rule broken"
abbrev pub share_rule_broken : ℕ
share_rule_broken = 26
