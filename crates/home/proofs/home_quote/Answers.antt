use Rattle.std.proofs.Common.{rules}
use Rattle.home.proofs.HomeQuotes.{quote_crossed, quote_locked, quote_clear}
use Rattle.home.proofs.home_quote.Goals as goal

pub returns-in-Some : goal.returns-in-Some
returns-in-Some c = quote_crossed _ _ _ _ _ _ c.lowest_named.ensures (λ a b t p. search rules) (c.in-Some.exchange, c.in-Some.side) (search rules)

pub returns-in-Some-lowest_named : goal.returns-in-Some-lowest_named
returns-in-Some-lowest_named c =
    quote_locked _ _ _ _ _ _ c.lowest_named.ensures (λ a b t p. search rules) (search rules) _ _ c.lowest_named-2.ensures (λ a b t p. search rules)
    (c.in-Some-lowest_named.exchange, c.in-Some-lowest_named.side) (search rules)

pub returns : goal.returns
returns c =
    quote_clear _ _ _ _ _ _ c.lowest_named.ensures (λ a b t p. search rules) (search rules) _ _ c.lowest_named-2.ensures (λ a b t p. search rules) (search rules)
