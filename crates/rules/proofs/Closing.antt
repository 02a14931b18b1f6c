-- Document 02, a: a claim for a trade after the closing record is at most ten, and for a trade before it nothing changed. So a
-- journal without the record keeps every verdict it had: its claims and due totals are those of document 01 alone, and our own
-- sheet, the list and the check take them from nowhere else.
use mathlib.Core.Path.{◌≡◌, refl, ap}
use mathlib.Core.Bool.{true, false, ◌&&◌}
use mathlib.Core.List.Memᴰ
use mathlib.Core.List.{List, [], ◌∷◌, map, Memᴰ}
use Prim.Native.Nat.{ℕ, ◌≤◌, ◌<◌}
use native.Mathlib.Omega.{arith}
use lib.ListN.{length}
use Rattle.std.specs.Prelude.{if◌then◌else◌, ◌==◌}
use Rattle.rules.specs.Basics.{any, ok}
use Rattle.rules.specs.Header.{Header}
use Rattle.rules.specs.Record.{Event, trade, satisfaction, is_trade, is_satisfaction, is_closing}
use Rattle.rules.specs.Journal.{History, Journal, journal, count, nth, trade_at, before_trade, closing_begun}
use Rattle.rules.specs.Reasons.{Case, case_of, customers, reason}
use Rattle.rules.specs.Due.{least_of, least_of_three, most_at_the_close, limited, claim, Line, line_of, lines_of, lines, of_trade, capped, due_of, due}
use Rattle.rules.specs.GoodSheet.{no_line, line_at, said_at, GoodSheet}
use Rattle.rules.proofs.Tests.{by_test, or_right, keep_sub, map_same, at_end, by_place}
use Rattle.rules.proofs.Histories.{trade_at_older, before_trade_older, before_trade_here, before_trade_skip}
use Rattle.rules.proofs.Journals.{Arrived, none, more, journal_arrived}
use Rattle.rules.proofs.Lines.{satisfaction_known, lines_known}

-- document 01's claim: "0 for a reason other than 0; else the least of order size, customer contracts and trade size"
abbrev pub claim_of01 : ℕ → ℕ → ℕ → ℕ → ℕ
claim_of01 why size contracts traded = if why == 0 then least_of size contracts traded else 0

-- ---- one claim

module _ (h : Header) (k : Case) where
  pub claim_after_closing : closing_begun k.before ≡ true → claim h k ≤ most_at_the_close
  unfolding claim limited
  claim_after_closing t = by_test (reason h k == 0) (λ r. rw (r, t) (omega arith)) (λ r. rw r (omega arith))

  abbrev pub case_claim01 : ℕ
  case_claim01 = claim_of01 (reason h k) (satisfaction k.claim).size (customers k) (trade k.trade).size

  pub claim_before_closing : closing_begun k.before ≡ false → claim h k ≡ case_claim01
  unfolding claim limited least_of_three
  claim_before_closing t = rw t

  -- a claim of ten or less is the one it was
  pub small_claim_stays : least_of_three k ≤ most_at_the_close → claim h k ≡ case_claim01
  unfolding claim limited least_of_three
  small_claim_stays small =
      by_test (closing_begun k.before) (λ t. rw t (ap (λ n. if reason h k == 0 then n else 0) (omega arith))) (λ t. rw t)

-- ---- the lines of a journal, by their trades

-- what document 01 alone gives a line
abbrev pub line_claim01 : History → Line → ℕ
line_claim01 past l = claim_of01 l.reason l.size l.customers (trade (trade_at l.trade past)).size

pub record LineLimited (past : History) (l : Line) : Type 0 where
  pub after : closing_begun (before_trade l.trade past) ≡ true → l.claim ≤ most_at_the_close
  pub before : closing_begun (before_trade l.trade past) ≡ false → l.claim ≡ line_claim01 past l

-- the line of an event after the history before it
line_limited : (h : Header) (day past : History) (n : ℕ) (e : Event) → LineLimited past (line_of h day past n e)
unfolding line_of case_of
line_limited h day past n e =
    record {
      after = claim_after_closing h (case_of day past n e);
      before = claim_before_closing h (case_of day past n e);
    }

-- one more event changes neither the trade of an earlier line nor what came before it
limited_later : (e : Event) (past : History) (l : Line) → l.trade < count is_trade past → LineLimited past l → LineLimited (e ∷ past) l
limited_later e past l older o =
    record {
      after = rw (before_trade_older l.trade e past older) o.after;
      before = rw (before_trade_older l.trade e past older, trade_at_older l.trade e past older) o.before;
    }

pub lines_limited : {h : Header} {past : History} → Arrived h past → (day : History) (l : Line) → Memᴰ l (lines_of h day past) → LineLimited past l
unfolding lines_of
lines_limited none day l m = absurd (Memᴰ.not-nil m)
lines_limited {h} (more {past} {e} v i b r) day l m =
    at_end (LineLimited (e ∷ past)) (lines_of h day past) (is_satisfaction e) (line_of h day past (count is_satisfaction past) e)
    (λ x k. limited_later e past x (lines_known v day x k).of_a_trade (lines_limited v day x k))
    (λ s. limited_later e past _ (unfold line_of in satisfaction_known h past e b s) (line_limited h day past (count is_satisfaction past) e))
    l m

-- no good sheet fills more than ten on a line whose trade came after the record
pub ten_filled_at_most : (s : List ℕ) (j : Journal) (sheet : List ℕ) → journal s ≡ ok j → (g : GoodSheet j sheet) (i : ℕ) → i < length (lines j)
    → closing_begun (before_trade (line_at (lines j) i).trade j.history) ≡ true → (said_at g.says i).filled ≤ most_at_the_close
ten_filled_at_most s j sheet e g i l t =
    let known : (x : Line) → Memᴰ x (lines j) → LineLimited j.history x = unfold lines in lines_limited (journal_arrived s j e) j.history in
    omega (arith, g.good_lines.not_beyond_its_claim i l, (by_place (LineLimited j.history) no_line (lines j) known i l).after t)

-- ---- a journal without the record

not_begun_earlier : (e : Event) (past : History) → closing_begun (e ∷ past) ≡ false → closing_begun past ≡ false
unfolding closing_begun any
not_begun_earlier e past t = or_right (is_closing e) (any is_closing past) t

-- what came before a trade is part of the history
pub not_begun_before_trade : (n : ℕ) (past : History) → closing_begun past ≡ false → closing_begun (before_trade n past) ≡ false
not_begun_before_trade n [] t = unfold before_trade nth closing_begun any in refl
not_begun_before_trade n (e ∷ past) t =
    let older = not_begun_earlier e past t in
    by_test (is_trade e && count is_trade past == n)
    (λ here. rw (before_trade_here n e past here) older)
    (λ other. rw (before_trade_skip n e past other) (not_begun_before_trade n past older))

-- "A journal without the record keeps every verdict it had."
pub claims_without_closing : {h : Header} {past : History} → Arrived h past → closing_begun past ≡ false
    → (day : History) (l : Line) → Memᴰ l (lines_of h day past) → l.claim ≡ line_claim01 past l
claims_without_closing {h} {past} v t day l m = (lines_limited v day l m).before (not_begun_before_trade l.trade past t)

pub due_without_closing : (s : List ℕ) (j : Journal) → journal s ≡ ok j → closing_begun j.history ≡ false → (n : ℕ)
    → due j n
    ≡ due_of (capped j.header (before_trade n j.history) (trade (trade_at n j.history))) (trade (trade_at n j.history)).size
    (map (line_claim01 j.history) (of_trade n (lines j)))
unfolding due
due_without_closing s j e t n =
    let known : (l : Line) → Memᴰ l (lines j) → l.claim ≡ line_claim01 j.history l = unfold lines in claims_without_closing (journal_arrived s j e) t j.history in
    rw (map_same (λ (l : Line). l.claim) (line_claim01 j.history) (of_trade n (lines j)) (λ l m. known l (unfold of_trade in keep_sub _ (lines j) l m)))
