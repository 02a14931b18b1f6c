-- A record of any kind: its row, where it is judged or a Satisfaction Order, is its line of the printed day.
use mathlib.Core.Path.{◌≡◌, refl, sym, ap, ◌∙◌}
use mathlib.Core.Bool.{Bool, true, false, not, ◌&&◌}
use mathlib.Core.List.{List, [], ◌∷◌, ◌++◌, flat_map, append-nil}
use Prim.Native.Nat.{ℕ, ◌+◌, ◌*◌, ◌%◌, ◌<◌, ◌≤◌}
use Prim.Native.String.{String}
use native.Mathlib.Omega.{arith}
use lib.ListN.{length}
use borrow.Author.Tests.{ne_eqb, eqb-true}
use Rattle.std.specs.Prelude.{◌==◌}
use Rattle.rules.specs.Header.{Header}
use Rattle.rules.specs.Record.{quote_kind, trade_kind, sent_kind, received_kind, satisfaction_kind, fields_among, fields_of, Event, quote, is_quote, is_trade, is_sent, is_received, is_satisfaction}
use Rattle.rules.specs.Journal.{History, count}
use Rattle.rules.specs.OwnSheet.{SheetLine}
use Rattle.rules.specs.GoodSheet.{said_at}
use Rattle.rules.specs.Verdicts.{verdict}
use Rattle.rules.specs.PrintedDay.{Printed, ascii, printed_line, one_line, sheet_verdict, judged, settled, listed}
use Rattle.rules.proofs.Tests.{by_test, flat_append}
use Rattle.rules.proofs.Records.{fields_as_many, InRange}
use Rattle.rules.proofs.Journals.{numbers_of, numbers_in}
use Rattle.rows.specs.declared.Rec.{Rec}
use Rattle.periods.specs.Periods.{Tidy}
use Rattle.periods.proofs.Keeping.{periods_stay}
use Rattle.home.specs.Home.{homes_of}
use Rattle.market.specs.Judged.{judged_as, JudgedIs, QuoteJudged}
use Rattle.market.specs.declared.Judged.{Judged}
use Rattle.market.specs.declared.Judged.TheVariants.{Nothing, Q, S, R, T}
use Rattle.market.proofs.Judging.{away_judged, it_is_home}
use Rattle.list.specs.Listing.{order_letter, text_from, Listing, RowPut, JudgedPut, Noted, QuoteNoted}
use Rattle.list.proofs.Rows.{text_none, put_verdict, put_order}

-- the list of no records
pub listing_none : (h : Header) (list : List ℕ) → Listing (λ own. listed h own []) [] list 0
unfolding listed flat_map numbers_in
listing_none h list = record { so = λ own. text_none own list; few = omega arith }

-- ---- a verdict

module _ (list : List ℕ) (listed event : ℕ) (v : Judged) where
  pub nothing_put : v ≡ Nothing → JudgedPut list listed event v list listed
  unfolding judged_as flat_map
  nothing_put e = record { so = λ own. rw e (sym (append-nil (text_from own list listed))); lines = rw e (omega arith); long = refl; more = omega arith }

  module _ (a b c : ℕ) (list2 : List ℕ) (listed2 : ℕ) where
    letter_put : (letter : String) (what : ℕ) → judged_as event v ≡ one_line event letter (verdict a b c) → ascii letter ≡ what ∷ [] → what % 256 ≡ what
        → (what == order_letter) ≡ false → RowPut list listed event what a b c list2 listed2 → JudgedPut list listed event v list2 listed2
    letter_put letter what e is byte other p =
        record {
          so = λ own. rw e (put_verdict list listed event what a b c list2 listed2 p own letter is byte other);
          lines = rw e (omega (arith, p.next));
          long = p.long;
          more = omega (arith, p.next);
        }

    pub quote_put : v ≡ Q a b c → RowPut list listed event 81 a b c list2 listed2 → JudgedPut list listed event v list2 listed2
    unfolding judged_as ascii
    quote_put e p = letter_put "Q" 81 (rw e) refl refl refl p

    pub sent_put : v ≡ S a b c → RowPut list listed event 83 a b c list2 listed2 → JudgedPut list listed event v list2 listed2
    unfolding judged_as ascii
    sent_put e p = letter_put "S" 83 (rw e) refl refl refl p

    pub received_put : v ≡ R a b c → RowPut list listed event 82 a b c list2 listed2 → JudgedPut list listed event v list2 listed2
    unfolding judged_as ascii
    received_put e p = letter_put "R" 82 (rw e) refl refl refl p

    pub trade_put : v ≡ T a b c → RowPut list listed event 84 a b c list2 listed2 → JudgedPut list listed event v list2 listed2
    unfolding judged_as ascii
    trade_put e p = letter_put "T" 84 (rw e) refl refl refl p

pub put_length : (list : List ℕ) (listed event what a b c : ℕ) (list2 : List ℕ) (listed2 : ℕ) → RowPut list listed event what a b c list2 listed2 → length list2 ≡ length list
put_length list listed event what a b c list2 listed2 p = p.long

pub ruleset judged_laws = (nothing_put, quote_put, sent_put, received_put, trade_put, put_length)

-- ---- what the day prints of one event more

module _ (h : Header) (own : List SheetLine) (lines : List Printed) (event : ℕ) (past : History) (e : Event) where
  pub listed_order : e.kind ≡ satisfaction_kind
      → flat_map printed_line (lines ++ (judged h event past e ++ settled own event past e))
      ≡ flat_map printed_line lines ++ flat_map printed_line (one_line event "F" (sheet_verdict (said_at own (count is_satisfaction past))))
  unfolding judged settled
  listed_order k = flat_append printed_line lines _ ∙ rw k

  pub listed_other : (e.kind ≡ satisfaction_kind → ⊥)
      → flat_map printed_line (lines ++ (judged h event past e ++ settled own event past e)) ≡ flat_map printed_line lines ++ flat_map printed_line (judged h event past e)
  unfolding settled
  listed_other ne =
      flat_append printed_line lines _ ∙ rw (ne_eqb e.kind satisfaction_kind ne, append-nil (judged h event past e))

-- ---- an event that is printed is stored as six numbers at least

judged_once : (h : Header) (event : ℕ) (past : History) (e : Event) → length (judged h event past e) ≤ 1
unfolding judged
judged_once h event past e =
    by_test (is_quote e && (quote e).exchange == h.home) (λ a. rw a (omega arith)) (λ a.
    by_test (is_sent e) (λ b. rw (a, b) (omega arith)) (λ b.
    by_test (is_received e) (λ c. rw (a, b, c) (omega arith)) (λ c.
    by_test (is_trade e) (λ d. rw (a, b, c, d) (omega arith)) (λ d. rw (a, b, c, d) (omega arith)))))

module _ (h : Header) (e : Event) (ranged : InRange h e) where
  fields_are : (k : ℕ) → e.kind ≡ k → length e.fields ≡ length (fields_of h k)
  fields_are k q = fields_as_many h _ _ ranged.fields_fit ∙ ap (λ (x : ℕ). length (fields_of h x)) q

  order_numbers : e.kind ≡ satisfaction_kind → 6 ≤ numbers_of e
  unfolding fields_of fields_among numbers_of
  order_numbers k = rw k (omega (arith, fields_are satisfaction_kind k))

  other_numbers : (k : ℕ) → e.kind ≡ k → (k == quote_kind) ≡ false → numbers_of e ≡ 2 + length (fields_of h k)
  unfolding numbers_of
  other_numbers k q o = rw (q, o) (omega (arith, fields_are k q))

  judged_numbers : (event : ℕ) (past : History) → length (judged h event past e) * 6 ≤ numbers_of e
  unfolding fields_of fields_among
  judged_numbers event past =
      let one = judged_once h event past e in
      by_test (is_quote e) (λ a. quote_numbers one a) (λ a.
      by_test (is_sent e) (λ b. omega (arith, one, other_numbers sent_kind (eqb-true e.kind sent_kind b) refl)) (λ b.
      by_test (is_received e) (λ c. omega (arith, one, other_numbers received_kind (eqb-true e.kind received_kind c) refl)) (λ c.
      by_test (is_trade e) (λ d. omega (arith, one, other_numbers trade_kind (eqb-true e.kind trade_kind d) refl)) (λ d.
      unfold judged in rw (a, b, c, d) (omega arith)))))
    where
      quote_numbers : length (judged h event past e) ≤ 1 → is_quote e ≡ true → length (judged h event past e) * 6 ≤ numbers_of e
      quote_numbers one a = unfold numbers_of in rw a (omega arith)

-- with k lines more
few_more : (past : History) (e : Event) (listed k listed2 : ℕ) → listed2 ≡ listed + k → listed * 6 ≤ numbers_in past → k * 6 ≤ numbers_of e → listed2 * 6 ≤ numbers_in (e ∷ past)
unfolding numbers_in
few_more past e listed k listed2 next few told = omega arith

-- ---- a record of any kind

module _ (list : List ℕ) (listed : ℕ) (quotes statuses periods : List ℕ) (exchanges home : ℕ) (sizes : List ℕ) (sent traded lines event : ℕ) (r : Rec) where
  pub no_room : length list < (listed + 1) * 5 → Tidy periods → Noted list listed quotes statuses periods exchanges home sizes sent traded lines event r list periods listed
  no_room short tidy =
      record {
        so = λ h e past hd reads ranged held hs stands es et el ln ll printed listing. absurd (omega arith);
        kept = λ h e past hd reads held hs stands ln ll. absurd (omega arith);
        tidy = tidy;
        long = refl;
        more = omega arith;
      }

  module _ (list2 : List ℕ) (listed2 : ℕ) where
    pub order_noted : r.kind ≡ satisfaction_kind → Tidy periods → RowPut list listed event order_letter lines 0 0 list2 listed2
        → Noted list listed quotes statuses periods exchanges home sizes sent traded lines event r list2 periods listed2
    order_noted k tidy p =
        record {
          so = λ h e past hd reads ranged held hs stands es et el ln ll printed listing.
              record {
                so = λ own.
                    put_order list listed event order_letter lines 0 0 list2 listed2 p own refl
                    ∙ rw (listing.so own, el) (sym (listed_order h own (printed own) event past e (reads.kind ∙ k)));
                few = few_more past e listed 1 listed2 p.next listing.few (order_numbers h e ranged (reads.kind ∙ k));
              };
          kept = λ h e past hd reads held hs stands ln ll.
              periods_stay h e past periods (λ z. omega (arith, z, reads.kind, k)) (λ z _. omega (arith, z, reads.kind, k)) stands;
          tidy = tidy;
          long = p.long;
          more = omega (arith, p.next);
        }

    pub verdict_noted : (r.kind ≡ satisfaction_kind → ⊥) → (v : Judged) (periods2 : List ℕ) → JudgedIs quotes statuses periods exchanges home sizes sent traded r periods2 v
        → JudgedPut list listed event v list2 listed2 → Noted list listed quotes statuses periods exchanges home sizes sent traded lines event r list2 periods2 listed2
    verdict_noted ne v periods2 is p =
        record {
          so = λ h e past hd reads ranged held hs stands es et el ln ll printed listing.
              record {
                so = λ own.
                    p.so own
                    ∙ rw (listing.so own, is.so h e past hd reads held hs stands es et event)
                    (sym (listed_other h own (printed own) event past e (λ z. ne (sym reads.kind ∙ z))));
                few =
                    few_more past e listed _ listed2 (p.lines ∙ rw (is.so h e past hd reads held hs stands es et event)) listing.few
                    (judged_numbers h e ranged event past);
              };
          kept = λ h e past hd reads held hs stands ln ll. is.kept h e past hd reads held hs stands;
          tidy = is.tidy;
          long = p.long;
          more = p.more;
        }

pub judged_length : (list : List ℕ) (listed event : ℕ) (v : Judged) (list2 : List ℕ) (listed2 : ℕ) → JudgedPut list listed event v list2 listed2 → length list2 ≡ length list
judged_length list listed event v list2 listed2 p = p.long

pub ruleset note_laws = (no_room, order_noted, verdict_noted, put_length, judged_length)

-- ---- a quote

module _ (list : List ℕ) (listed : ℕ) (quotes periods : List ℕ) (exchanges home event : ℕ) (r : Rec) (k : r.kind ≡ quote_kind) where
  no_order : r.kind ≡ satisfaction_kind → ⊥
  no_order z = omega (arith, z, k)

  pub quote_away : (b : Bool) → b ≡ homes_of r home → not b ≡ true → Tidy periods → QuoteNoted list listed quotes periods exchanges home event r list periods listed
  quote_away b eb z tidy =
      record {
        so = λ statuses sizes sent traded lines.
            verdict_noted list listed quotes statuses periods exchanges home sizes sent traded lines event r list listed no_order Nothing periods
            ((away_judged quotes periods exchanges home r k b eb z tidy).so statuses sizes sent traded)
            (nothing_put list listed event Nothing refl);
      }

  pub quote_no_room : length list < (listed + 1) * 5 → Tidy periods → QuoteNoted list listed quotes periods exchanges home event r list periods listed
  quote_no_room short tidy = record { so = λ statuses sizes sent traded lines. no_room list listed quotes statuses periods exchanges home sizes sent traded lines event r short tidy }

  pub quote_noted : (v : Judged) (periods2 : List ℕ) → QuoteJudged quotes periods exchanges home r periods2 v → (list2 : List ℕ) (listed2 : ℕ) → JudgedPut list listed event v list2 listed2
      → QuoteNoted list listed quotes periods exchanges home event r list2 periods2 listed2
  quote_noted v periods2 is list2 listed2 p =
      record {
        so = λ statuses sizes sent traded lines.
            verdict_noted list listed quotes statuses periods exchanges home sizes sent traded lines event r list2 listed2 no_order v periods2 (is.so statuses sizes sent traded) p;
      }

pub ruleset note_quote_laws = (quote_away, quote_no_room, quote_noted, it_is_home, judged_length)
