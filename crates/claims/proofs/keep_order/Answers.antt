use Rattle.std.proofs.Common.{refl, rules}
use Rattle.rows.specs.Rows.{word}
use Rattle.claims.proofs.Lines.{line_laws, order_fileable}
use Rattle.claims.proofs.keep_order.Goals as goal

pub file_line-requires : goal.file_line-requires
file_line-requires c =
    let given = c.requires in
    order_fileable _ _ _ _ _ _ _ _ _ given.traded_le_most_trades.0 given.headed given.fits_claims given.traded_le_most_trades.1 given.filing
    (word c.args.r 0) refl (word c.args.r 1) refl _ refl
    _ c.facts_at-facts.ensures _ c.reason_of.ensures _ c.stored-why.ensures _ c.claim_of-claim.ensures

pub returns : goal.returns
returns c = search (line_laws, rules)
