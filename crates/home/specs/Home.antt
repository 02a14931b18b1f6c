-- Home quotes: the code's answers as the paper's numbers, and what is promised of every history that the table holds.
use Rattle.std.specs.Prelude.{◌≡◌, Option, Some, None, Bool, List, [], ℕ, if◌then◌else◌, ◌==◌}
use Rattle.rules.specs.Basics.{◌when◌, ◌¦◌, first_of}
use Rattle.rules.specs.Header.{Header}
use Rattle.rules.specs.Record.{Quote}
use Rattle.rules.specs.Journal.{History}
use Rattle.rules.specs.Prices.{◌is_above◌, ◌is_below◌, ◌equals◌, standing, away}
use Rattle.rules.specs.Verdicts.{Verdict, verdict, the_bid, the_offer, neither, lowest_named, home_quote}
use Rattle.rows.specs.Rows.{word}
use Rattle.rows.specs.declared.Rec.{Rec}
use Rattle.quotes.specs.Tables.{Quoted}
use Rattle.prices.specs.Prices.{above_of, equal_of}
use Rattle.home.specs.declared.HomeQuote.{HomeQuote}
use Rattle.home.specs.declared.Against.{Against}
use Rattle.home.specs.declared.Against.TheVariants.{Clear, Locked, Crossed}

-- ---- home's quote

-- whether a quote is home's own
unfoldable pub homes_of : Rec → ℕ → Bool
homes_of r home = word r 0 == home

pub record QuoteIs (r : Rec) (quote : HomeQuote) : Type 0 where
  pub series : quote.series ≡ word r 1
  pub bid : quote.bid ≡ word r 2
  pub offer : quote.offer ≡ word r 5

-- the paper's quote has these numbers
pub record SameQuote (quote : HomeQuote) (k : Quote) : Type 0 where
  pub series : k.series ≡ quote.series
  pub bid : k.bid ≡ quote.bid
  pub offer : k.offer ≡ quote.offer

-- ---- the side of a quote at which it crosses (verdict 2) or locks (any other) another's prices

unfoldable pub side_of : ℕ → ℕ → ℕ → ℕ → ℕ → ℕ
side_of kind bid offer their_bid their_offer =
    if kind == 2 then first_of (the_bid when bid is_above their_offer ¦ the_offer when offer is_below their_bid ¦ [])
    else first_of (the_bid when bid equals their_offer ¦ the_offer when offer equals their_bid ¦ [])

unfoldable pub side_at : ℕ → HomeQuote → History → ℕ → ℕ
side_at kind quote past exchange =
    let theirs = standing exchange quote.series past in
    side_of kind quote.bid quote.offer theirs.bid theirs.offer

-- ---- the answers

-- Q: "0/1/2 clear, locked, crossed; exchange or 0; side, 1 home's bid, 2 home's offer, or 0"
unfoldable pub against_as : Against → Verdict
against_as Clear = verdict 0 0 neither
against_as (Locked exchange side) = verdict 1 exchange side
against_as (Crossed exchange side) = verdict 2 exchange side

-- the test of a price against another's on the other side: above it, or equal to it
unfoldable pub test_of : ℕ → ℕ → ℕ → Bool
test_of kind a b = if kind == 2 then above_of a b else equal_of a b

-- calls that answer so
pub record Tests (calls : ℕ → ℕ → Bool → Type 0) (kind : ℕ) : Type 0 where
  pub so : (a b : ℕ) (r : Bool) → calls a b r → r ≡ test_of kind a b

-- what a search for a side answers, as a verdict of a kind, or what stands instead
unfoldable pub found_as : ℕ → Verdict → Option (ℕ × ℕ) → Verdict
found_as kind otherwise None = otherwise
found_as kind otherwise (Some at) = verdict kind at.0 at.1

pub record FoundIs (quotes : List ℕ) (exchanges home kind : ℕ) (quote : HomeQuote) (r : Option (ℕ × ℕ)) : Type 0 where
  pub so : (h : Header) (past : History) (otherwise : Verdict) → h.exchanges ≡ exchanges → h.home ≡ home → Quoted past quotes
      → found_as kind otherwise r ≡ lowest_named kind (side_at kind quote past) (away h) otherwise

pub record AgainstIs (quotes : List ℕ) (exchanges home : ℕ) (quote : HomeQuote) (r : Against) : Type 0 where
  pub so : (h : Header) (past : History) (k : Quote) → h.exchanges ≡ exchanges → h.home ≡ home → SameQuote quote k → Quoted past quotes
      → against_as r ≡ home_quote h past k
