-- Quotes: what one more event does to the quote that stands, and a record to the table.
use mathlib.Core.Path.{◌≡◌, refl, sym, ◌∙◌}
use mathlib.Core.Bool.{◌&&◌, and-false}
use mathlib.Core.List.{List, [], ◌∷◌}
use Prim.Native.Nat.{ℕ, ◌+◌, ◌-◌, ◌*◌, ◌<◌, ◌≤◌}
use native.Mathlib.Omega.{arith}
use lib.Dec.{eqb}
use lib.ListN.{get_or, length, replicate, length-replicate, get_or-replicate}
use borrow.Author.Tests.{eq-eqb, ne_eqb, eqb-true, eqb-false}
use Rattle.rules.specs.Limits.{most_exchanges}
use Rattle.rules.specs.Record.{Event, Quote, quote, field, quote_kind}
use Rattle.rules.specs.Journal.{History}
use Rattle.rules.specs.Prices.{no_quote, quotes, standing}
use Rattle.rules.proofs.Tests.{by_test}
use Rattle.rows.specs.Rows.{word, Reads, Put, RecOk}
use Rattle.rows.specs.declared.Rec.{Rec}
use Rattle.quotes.specs.Tables.{many_series, quote_words, Quoted, Within, RowIs, FitsQuotes, QuotesStep}

-- ---- the quote that stands

pub standing_new : (e : Event) (past : History) (exchange series : ℕ) → e.kind ≡ quote_kind → field e 0 ≡ exchange → field e 1 ≡ series
    → standing exchange series (e ∷ past) ≡ quote e
unfolding standing quotes
standing_new e past exchange series k p q = rw (eq-eqb _ _ k, eq-eqb (field e 0) exchange p, eq-eqb (field e 1) series q)

pub standing_other : (e : Event) (past : History) (exchange series : ℕ) → (field e 0 ≡ exchange → field e 1 ≡ series → ⊥)
    → standing exchange series (e ∷ past) ≡ standing exchange series past
unfolding standing quotes
standing_other e past exchange series ne =
    by_test (eqb (field e 0) exchange)
    (λ p. rw (ne_eqb (field e 1) series (ne (eqb-true (field e 0) exchange p)), and-false (eqb e.kind quote_kind && eqb (field e 0) exchange)))
    (λ p. rw (p, and-false (eqb e.kind quote_kind)))

pub standing_alone : (e : Event) (past : History) (exchange series : ℕ) → (e.kind ≡ quote_kind → ⊥) → standing exchange series (e ∷ past) ≡ standing exchange series past
unfolding standing quotes
standing_alone e past exchange series ne = rw (ne_eqb e.kind quote_kind ne)

-- ---- the table

-- the words i of the rows are the number `of` of the quotes that stand
abbrev pub Column : ℕ → (Quote → ℕ) → History → List ℕ → Type 0
Column i of past quotes =
    (y series : ℕ) → y < most_exchanges → series < many_series → get_or quotes ((y * many_series + series) * 8 + i) 0 ≡ of (standing (y + 1) series past)

-- what moves every column moves the table
moved : (past past2 : History) (quotes quotes2 : List ℕ)
    → ((i : ℕ) (of : Quote → ℕ) → i < 8 → ((e : Event) → of (quote e) ≡ field e i) → Column i of past quotes → Column i of past2 quotes2)
    → length quotes2 ≡ length quotes → Quoted past quotes → Quoted past2 quotes2
moved past past2 quotes quotes2 column same held =
    record {
      bid = column 2 (λ k. k.bid) (omega arith) (λ e. refl) held.bid;
      bid_customers = column 4 (λ k. k.bid_customers) (omega arith) (λ e. refl) held.bid_customers;
      offer = column 5 (λ k. k.offer) (omega arith) (λ e. refl) held.offer;
      offer_customers = column 7 (λ k. k.offer_customers) (omega arith) (λ e. refl) held.offer_customers;
      long = same ∙ held.long;
    }

-- an event of any other kind leaves the quotes alone
pub quotes_alone : (e : Event) (past : History) (quotes : List ℕ) → (e.kind ≡ quote_kind → ⊥) → Quoted past quotes → Quoted (e ∷ past) quotes
quotes_alone e past quotes ne held =
    moved past (e ∷ past) quotes quotes (λ i of hi is column y series hy hs. rw (standing_alone e past (y + 1) series ne) (column y series hy hs)) refl held

module _ (r : Rec) (quotes quotes2 : List ℕ) (exchange series : ℕ) (w : Within exchange series) (ex : exchange ≡ word r 0) (es : series ≡ word r 1)
    (p : Put quotes quotes2 r.row ((exchange - 1) * many_series + series) 8) (e : Event) (past : History) (k : e.kind ≡ quote_kind) (reads : Reads e r) where
  column_put : (i : ℕ) (of : Quote → ℕ) → i < 8 → ((f : Event) → of (quote f) ≡ field f i) → Column i of past quotes → Column i of (e ∷ past) quotes2
  column_put i of hi is column y other hy ho =
      by_test (eqb (y * many_series + other) ((exchange - 1) * many_series + series))
      (λ z. let at = eqb-true (y * many_series + other) ((exchange - 1) * many_series + series) z in
      let new = standing_new e past (y + 1) other k (omega (arith, reads.fields 0)) (omega (arith, reads.fields 1)) in
      rw (at, new) (p.here i hi ∙ reads.fields i ∙ sym (is e)))
      (λ z. let off = eqb-false (y * many_series + other) ((exchange - 1) * many_series + series) z in
      let old = standing_other e past (y + 1) other (λ a b. off (omega (arith, reads.fields 0, reads.fields 1))) in
      rw old (p.others (y * many_series + other) i hi off ∙ column y other hy ho))

  quotes_put : Quoted past quotes → Quoted (e ∷ past) quotes2
  quotes_put held = moved past (e ∷ past) quotes quotes2 column_put p.long held

-- ---- the step, as the code takes it

pub record_placed : (exchanges home : ℕ) (r : Rec) → RecOk exchanges home r → exchanges ≤ most_exchanges → FitsQuotes r
record_placed exchanges home r ok few =
    record {
      quote = λ k. let g = ok.quote k in
          record {
            exchange = record { from_one = g.exchange.from_one; to_n = omega (arith, g.exchange.to_n) };
            series = g.series;
            bid = g.bid;
            bid_size = g.bid_size;
            bid_customers = g.bid_customers;
            offer = g.offer;
            offer_size = g.offer_size;
            offer_customers = g.offer_customers;
          };
      status = λ k. let g = ok.status k in
          record {
            exchange = record { from_one = g.exchange.from_one; to_n = omega (arith, g.exchange.to_n) };
            status = g.status;
          };
    }

module _ (r : Rec) where
  pub quote_within : FitsQuotes r → r.kind ≡ quote_kind → (exchange series : ℕ) → exchange ≡ word r 0 → series ≡ word r 1 → Within exchange series
  quote_within p k exchange series ex es =
      let g = p.quote k in
      record { from_one = omega (arith, g.exchange.from_one); to_eight = omega (arith, g.exchange.to_n); low = omega (arith, g.series) }

  pub quotes_kept : (quotes : List ℕ) → (r.kind ≡ quote_kind → ⊥) → QuotesStep r quotes quotes
  quotes_kept quotes ne = record { so = λ e past reads held. quotes_alone e past quotes (λ z. ne (sym reads.kind ∙ z)) held }

  pub quotes_taken : (quotes quotes2 : List ℕ) → FitsQuotes r → r.kind ≡ quote_kind → (row : ℕ) → Put quotes quotes2 r.row row 8 → (exchange series : ℕ) → RowIs exchange series row
      → exchange ≡ word r 0 → series ≡ word r 1 → QuotesStep r quotes quotes2
  quotes_taken quotes quotes2 p k row put exchange series en ex es =
      record {
        so = λ e past reads held.
            quotes_put r quotes quotes2 exchange series (quote_within p k exchange series ex es) ex es (rw en.is at put) e past (reads.kind ∙ k) reads held;
      }

-- "All start firm, without quotes."
pub quotes_none : Quoted [] (replicate quote_words 0)
unfolding standing no_quote
quotes_none =
    record {
      bid = λ y series hy hs. nothing y series 2 hy hs (omega arith);
      bid_customers = λ y series hy hs. nothing y series 4 hy hs (omega arith);
      offer = λ y series hy hs. nothing y series 5 hy hs (omega arith);
      offer_customers = λ y series hy hs. nothing y series 7 hy hs (omega arith);
      long = length-replicate {A = ℕ} quote_words 0;
    }
  where
    nothing : (y series i : ℕ) → y < most_exchanges → series < many_series → i < 8 → ◌≡◌ {A = ℕ} (get_or (replicate quote_words 0) ((y * many_series + series) * 8 + i) 0) 0
    nothing y series i hy hs hi = get_or-replicate {A = ℕ} quote_words ((y * many_series + series) * 8 + i) 0 0 (omega arith)

pub ruleset quote_laws = (quote_within, quotes_kept, quotes_taken)
