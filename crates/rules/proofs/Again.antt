-- Document 02, i: what is filled of two claims of one exchange for one trade, and what a journal without such a cancellation keeps.
use mathlib.Core.Path.{◌≡◌, refl, sym, ◌∙◌, subst}
use mathlib.Core.Bool.{true, false, not, ◌&&◌, false≢true, and-false}
use mathlib.Core.List.Memᴰ
use mathlib.Core.List.{List, [], ◌∷◌, Memᴰ}
use Prim.Native.Nat.{ℕ, ◌<◌}
use native.Mathlib.Omega.{arith}
use lib.ListN.{length}
use borrow.Author.Tests.{eqb-true, eqb-false, eq-eqb, not-true}
use Rattle.std.specs.Prelude.{if◌then◌else◌, ◌==◌}
use Rattle.rules.specs.Basics.{◌less_than◌, all, any, keep, Row, first_of, ok}
use Rattle.rules.specs.Header.{Header}
use Rattle.rules.specs.Record.{Event, trade, satisfaction, is_trade, is_satisfaction, is_cancellation, cancellation}
use Rattle.rules.specs.Journal.{History, Journal, journal, count, satisfaction_at, withdraws, claims_for, takes_back, taken_back, still_claims, satisfaction_belongs}
use Rattle.rules.specs.Reasons.{Case, case_of, sender_quote, sender_side, customers, sent_again_after, again_late, required, reason_rows, reason}
use Rattle.rules.specs.Due.{Line, line_of, lines_of, lines}
use Rattle.rules.specs.GoodSheet.{no_line, line_at, said_at, GoodSheet}
use Rattle.rules.proofs.Tests.{by_test, and_left, and_right, or_left, or_right, at_end, by_place}
use Rattle.rules.proofs.Histories.{count_cons, count_skip, count_grows, satisfaction_at_older, satisfaction_at_new, trade_at_older, before_trade_older}
use Rattle.rules.proofs.Journals.{Arrived, none, more, journal_arrived}
use Rattle.rules.proofs.Lines.{satisfaction_known, LineKnown, lines_known, numbered_below, lines_count, lines_numbered}
use Rattle.rules.proofs.Naming.{rows_but, first_of_but}
use Rattle.rules.proofs.Claims.{PricedAsBlock, cancellation_known, none_taken_back, claim_has_come, withdrawn_known, first_was_taken_back}

-- ---- a claim that was taken back has a reason: 11 at the latest

-- a table with no row numbered 0, and a row of some number that holds
first_of_some : (n : ℕ) (rows : List Row) → all (λ (r : Row). not (r.number == 0)) rows ≡ true → any (λ (r : Row). r.number == n && r.holds) rows ≡ true
    → (first_of rows == 0) ≡ false
unfolding first_of all any
first_of_some n [] z t = absurd (false≢true t)
first_of_some n (r ∷ rows) z t =
    by_test r.holds
    (λ s. rw s (not-true (r.number == 0) (and_left (not (r.number == 0)) _ z)))
    (λ s. rw s (first_of_some n rows (and_right (not (r.number == 0)) _ z) (rw (s, and-false (r.number == n)) at t)))

priced_has_a_reason : (h : Header) (day past : History) (n : ℕ) (e : Event) → PricedAsBlock h past e → ((line_of h day past n e).reason == 0) ≡ false
unfolding line_of reason case_of all any
priced_has_a_reason h day past n e p = first_of_some 11 (reason_rows h (case_of day past n e)) refl (rw (p.no_block, eq-eqb _ _ p.at_its_price))

-- one event more changes neither a claim that came before, nor its trade, nor what came before that
module _ (h : Header) (e : Event) (past : History) (n : ℕ) (known : n < count is_satisfaction past) (of : (satisfaction (satisfaction_at n past)).trade < count is_trade past) where
  priced_later : PricedAsBlock h past (satisfaction_at n past) → PricedAsBlock h (e ∷ past) (satisfaction_at n (e ∷ past))
  priced_later p =
      rw (satisfaction_at_older n e past known)
      (record {
        no_block = rw (trade_at_older _ e past of, before_trade_older _ e past of) p.no_block;
        at_its_price = rw (trade_at_older _ e past of) p.at_its_price;
      })

  priced_before : PricedAsBlock h (e ∷ past) (satisfaction_at n (e ∷ past)) → PricedAsBlock h past (satisfaction_at n past)
  priced_before p =
      let q : PricedAsBlock h (e ∷ past) (satisfaction_at n past) = rw (satisfaction_at_older n e past known) at p in
      record {
        no_block = rw (trade_at_older _ e past of, before_trade_older _ e past of) at q.no_block;
        at_its_price = rw (trade_at_older _ e past of) at q.at_its_price;
      }

-- the trade of a claim that has come is known
claim_of_a_trade : {h : Header} {past : History} → Arrived h past → (n : ℕ) → n < count is_satisfaction past → (satisfaction (satisfaction_at n past)).trade < count is_trade past
claim_of_a_trade none n up = absurd (unfold count keep in omega arith)
claim_of_a_trade {h} (more {past} {e} v i b r) n up =
    let g = count_grows is_trade e past in
    by_test (is_satisfaction e && count is_satisfaction past == n)
    (λ t.
    let s = and_left (is_satisfaction e) _ t in
    let q : count is_satisfaction past ≡ n = eqb-true _ _ (and_right (is_satisfaction e) _ t) in
    rw (satisfaction_at_new n e past s (sym q)) (omega (arith, satisfaction_known h past e b s)))
    (λ t.
    let older : n < count is_satisfaction past =
    by_test (is_satisfaction e)
    (λ s. let c = count_cons is_satisfaction e past s in let ne : count is_satisfaction past ≡ n → ⊥ = eqb-false _ _ (rw s at t) in omega arith)
    (λ s. let c = count_skip is_satisfaction e past s in omega arith) in
    rw (satisfaction_at_older n e past older) (omega (arith, claim_of_a_trade v n older)))

line_priced : {h : Header} {past : History} → Arrived h past → (day : History) (l : Line) → Memᴰ l (lines_of h day past)
    → PricedAsBlock h past (satisfaction_at l.number past) → (l.reason == 0) ≡ false
unfolding lines_of line_of
line_priced none day l m p = absurd (Memᴰ.not-nil m)
line_priced {h} (more {past} {e} v i b r) day l m p =
    at_end (λ (y : Line). PricedAsBlock h (e ∷ past) (satisfaction_at y.number (e ∷ past)) → (y.reason == 0) ≡ false) (lines_of h day past) (is_satisfaction e) (line_of h day past (count is_satisfaction past) e)
    (λ y k q. let up = numbered_below h day past y k in line_priced v day y k (priced_before h e past y.number up (claim_of_a_trade v y.number up) q))
    (λ s q. priced_has_a_reason h day past (count is_satisfaction past) e (priced_when_new s q))
    l m p
  where
    priced_when_new : is_satisfaction e ≡ true → PricedAsBlock h (e ∷ past) (satisfaction_at (count is_satisfaction past) (e ∷ past)) → PricedAsBlock h past e
    priced_when_new s q =
        let known = satisfaction_known h past e b s in
        let new : PricedAsBlock h (e ∷ past) e = rw (satisfaction_at_new (count is_satisfaction past) e past s refl) at q in
        record {
          no_block = rw (trade_at_older _ e past known, before_trade_older _ e past known) at new.no_block;
          at_its_price = rw (trade_at_older _ e past known) at new.at_its_price;
        }

-- a claim that a record took back was priced so
taken_back_was_priced : {h : Header} {past : History} → Arrived h past → (n : ℕ) → n < count is_satisfaction past → any (withdraws n) past ≡ true → PricedAsBlock h past (satisfaction_at n past)
unfolding any
taken_back_was_priced none n up t = absurd (false≢true t)
taken_back_was_priced {h} (more {past} {e} v i b r) n up t =
    by_test (withdraws n e)
    (λ w.
    let is : is_cancellation e ≡ true = unfold withdraws in and_left (is_cancellation e) _ w in
    let q : (cancellation e).order ≡ n = eqb-true _ _ (unfold withdraws in and_right (is_cancellation e) _ w) in
    let k = cancellation_known h past e b is in
    let older : n < count is_satisfaction past = omega (arith, q, k.order_known) in
    priced_later h e past n older (claim_of_a_trade v n older) (subst (λ (y : ℕ). PricedAsBlock h past (satisfaction_at y past)) q k.priced))
    (λ w.
    let older = withdrawn_known v n (rw w at t) in
    priced_later h e past n older (claim_of_a_trade v n older) (taken_back_was_priced v n older (rw w at t)))

-- ---- "The first keeps the reason it has, so at most one of them is filled."

-- Of two claims of exchange x for trade m the first has a reason other than 0, and every sheet that the check accepts fills nothing on its line.
pub record FirstOfTwo (j : Journal) (first : ℕ) : Type 0 where
  pub has_a_reason : ((line_at (lines j) first).reason == 0) ≡ false
  pub nothing_claimed : (line_at (lines j) first).claim ≡ 0

module _ (s : List ℕ) (j : Journal) (accepted : journal s ≡ ok j) (m x first second : ℕ) (before : first < second)
    (theirs : claims_for m x (satisfaction_at first j.history) ≡ true) (theirs_too : claims_for m x (satisfaction_at second j.history) ≡ true) where
  pub first_of_two : FirstOfTwo j first
  unfolding lines
  first_of_two =
      let v = journal_arrived s j accepted in
      let up = claim_has_come m x first j.history theirs in
      let place : first < length (lines_of j.header j.history j.history) = omega (arith, lines_count j.header j.history j.history) in
      let taken = first_was_taken_back v m x first second before theirs theirs_too in
      let l : Line = line_at (lines_of j.header j.history j.history) first in
      let numbered : l.number ≡ first = lines_numbered j.header j.history j.history no_line first place in
      let priced : PricedAsBlock j.header j.history (satisfaction_at l.number j.history) = rw numbered (taken_back_was_priced v first up taken) in
      let why = by_place (λ (y : Line). PricedAsBlock j.header j.history (satisfaction_at y.number j.history) → (y.reason == 0) ≡ false) no_line (lines_of j.header j.history j.history) (line_priced v j.history) first place priced in
      record {
        has_a_reason = why;
        nothing_claimed = (by_place (LineKnown j.header j.history) no_line (lines_of j.header j.history j.history) (lines_known v j.history) first place).unclaimed why;
      }

  -- at most one of the two is filled: the first never is
  pub at_most_one_is_filled : (sheet : List ℕ) (g : GoodSheet j sheet) → (said_at g.says first).filled ≡ 0
  at_most_one_is_filled sheet g =
      let up = claim_has_come m x first j.history theirs in
      let place : first < length (lines j) = unfold lines in omega (arith, lines_count j.header j.history j.history) in
      omega (arith, g.good_lines.not_beyond_its_claim first place, first_of_two.nothing_claimed)

-- ---- a journal without such a record

pub nothing_taken_back : (m x : ℕ) (past : History) → any is_cancellation past ≡ false → taken_back m x past ≡ []
unfolding any
nothing_taken_back m x [] p = unfold taken_back in refl
nothing_taken_back m x (e ∷ past) p =
    none_taken_back m x e past (or_left (is_cancellation e) _ p) ∙ nothing_taken_back m x past (or_right (is_cancellation e) _ p)

-- "one claim per exchange and trade"
pub one_claim_each : (m x : ℕ) (past : History) → any is_cancellation past ≡ false → still_claims m x past ≡ any (claims_for m x) past
unfolding any still_claims takes_back
one_claim_each m x [] p = refl
one_claim_each m x (e ∷ past) p =
    let ih = one_claim_each m x past (or_right (is_cancellation e) _ p) in
    by_test (claims_for m x e) (λ t. rw t) (λ t. rw (t, or_left (is_cancellation e) _ p) ih)

-- document 01's 7: "unknown trade .., a second Satisfaction Order of one exchange for one trade"
pub belongs_without_cancellation : (past : History) (e : Event) → any is_cancellation past ≡ false
    → satisfaction_belongs past e
    ≡ ((satisfaction e).trade less_than count is_trade past && not (any (claims_for (satisfaction e).trade (satisfaction e).sender) past))
unfolding satisfaction_belongs
belongs_without_cancellation past e p = rw (one_claim_each (satisfaction e).trade (satisfaction e).sender past p)

-- the case of an order as if nothing had come before it but its trade: it was not sent again
abbrev pub as_first : Case → Case
as_first k = record { number = k.number; claim = k.claim; past = []; trade = k.trade; before = k.before; day = k.day }

-- "Example 8 stays for first claims": 15 is not asked of one, and 8 and 9 are asked as ever
pub first_claim_stays : (h : Header) (k : Case) → sent_again_after k ≡ [] → reason h k ≡ first_of (rows_but 15 (reason_rows h (as_first k)))
unfolding reason all any again_late sent_again_after taken_back sender_side sender_quote customers required
first_claim_stays h k first = rw first (first_of_but 15 (reason_rows h (as_first k)) refl)

pub reason_without_cancellation : (h : Header) (k : Case) → any is_cancellation k.past ≡ false → reason h k ≡ first_of (rows_but 15 (reason_rows h (as_first k)))
reason_without_cancellation h k p =
    first_claim_stays h k (unfold sent_again_after in nothing_taken_back (satisfaction k.claim).trade (satisfaction k.claim).sender k.past p)
