-- A Satisfaction Order is cancelled so that its sender may send again: no line changes, and the time is kept with the trade and the sender.
use mathlib.Core.Path.{◌≡◌, sym, ap, ◌∙◌}
use mathlib.Core.Bool.{◌&&◌}
use mathlib.Core.List.{List, ◌∷◌}
use Prim.Native.Nat.{ℕ, ◌+◌, ◌-◌, ◌*◌, ◌<◌, ◌≤◌}
use native.Mathlib.Omega.{arith}
use lib.ListN.{get_or, set, length-set}
use lib.Seq.{get_or-set_same, get_or-set_other}
use borrow.Author.Tests.{eq-eqb, ne_eqb, eqb-true, eqb-false}
use Rattle.std.specs.Prelude.{◌==◌}
use Rattle.rules.specs.Basics.{sum}
use Rattle.rules.specs.Limits.{most_exchanges, most_trades, most_satisfaction_orders, most_trade_lines, last_time}
use Rattle.rules.specs.Header.{Header}
use Rattle.rules.specs.Record.{Event, field, is_satisfaction, satisfaction_kind, naming_kind, cancellation_kind}
use Rattle.rules.specs.Journal.{History, Happened, satisfaction_at, claims_for, takes_back, taken_back}
use Rattle.rules.specs.Due.{Line, lines_of, of_trade, claims_of}
use Rattle.rules.proofs.Tests.{by_test}
use Rattle.rules.proofs.Below.{same_below}
use Rattle.rules.proofs.Histories.{count_skip, nth_skip}
use Rattle.rules.proofs.Naming.{lines_kept}
use Rattle.rows.specs.Rows.{word}
use Rattle.rows.specs.declared.Rec.{Rec}
use Rattle.reasons.specs.Reasons.{again_at}
use Rattle.claims.specs.Lines.{part_at, many_at, sum_at, again_from, again_word, again_of, line_words, line_in, lines_from, number_at, many_of, sum_of, trade_lines, LineTells, Lined, Filing, Withdrawable, withdrawn_in, FitsClaims, ClaimsStep}
use Rattle.claims.proofs.Lines.{lines_skip}

-- ---- the words of the table, of which one behind the parts is put

module _ (claims : List ℕ) (a v : ℕ) (behind : again_from ≤ a) where
  abbrev put : List ℕ
  put = set claims a v

  front_kept : (j : ℕ) → j < again_from → get_or put j 0 ≡ get_or claims j 0
  front_kept j low = get_or-set_other claims a j v 0 (λ z. omega arith)

  line_kept : (i : ℕ) → i < most_satisfaction_orders → line_in put i ≡ line_in claims i
  line_kept i hi =
      rw (
        front_kept (i * 8 + 0) (omega arith),
        front_kept (i * 8 + 1) (omega arith),
        front_kept (i * 8 + 2) (omega arith),
        front_kept (i * 8 + 3) (omega arith),
        front_kept (i * 8 + 4) (omega arith),
      )

  told_kept : (i : ℕ) → i < most_satisfaction_orders → {order : Happened} → LineTells claims i order → LineTells put i order
  told_kept i hi t =
      record {
        is_order = t.is_order;
        trade = front_kept (i * 8 + 0) (omega arith) ∙ t.trade;
        sender = front_kept (i * 8 + 5) (omega arith) ∙ t.sender;
        asked = front_kept (i * 8 + 6) (omega arith) ∙ t.asked;
        time = front_kept (i * 8 + 7) (omega arith) ∙ t.time;
      }

  many_kept : (m : ℕ) → m < most_trades → many_of put m ≡ many_of claims m
  unfolding many_of
  many_kept m hm = front_kept (many_at m) (omega arith)

  sum_kept : (m : ℕ) → m < most_trades → sum_of put m ≡ sum_of claims m
  unfolding sum_of
  sum_kept m hm = front_kept (sum_at m) (omega arith)

  number_kept : (m i : ℕ) → m < most_trades → i < most_trade_lines → number_at put m i ≡ number_at claims m i
  unfolding number_at
  number_kept m i hm hi = front_kept (part_at m + i) (omega arith)

  lines_same : (lines : ℕ) → lines ≤ most_satisfaction_orders → lines_from put lines ≡ lines_from claims lines
  unfolding lines_from
  lines_same lines few = same_below (line_in put) (line_in claims) lines (λ i hi. line_kept i (omega arith))

  trade_lines_same : (lines m : ℕ) → m < most_trades → Filing claims lines → trade_lines put m (many_of put m) ≡ trade_lines claims m (many_of claims m)
  unfolding trade_lines
  trade_lines_same lines m hm fi =
      rw (many_kept m hm)
      (same_below (λ i. line_in put (number_at put m i)) (λ i. line_in claims (number_at claims m i)) (many_of claims m)
      (λ i hi. ap (line_in put) (number_kept m i hm (omega (arith, fi.few_lines m hm))) ∙ line_kept (number_at claims m i) (omega (arith, fi.earlier m i hm hi, fi.few))))

  filing_kept : (lines : ℕ) → Filing claims lines → Filing put lines
  filing_kept lines fi =
      record {
        few_lines = λ m hm. rw (many_kept m hm) (fi.few_lines m hm);
        earlier =
            λ m i hm hi. let old : i < many_of claims m = rw (← many_kept m hm) hi in
            rw (number_kept m i hm (omega (arith, fi.few_lines m hm))) (fi.earlier m i hm old);
        of_trades = λ i hi. rw (front_kept (i * 8 + 0) (omega (arith, fi.few))) (fi.of_trades i hi);
        from_one = λ i hi. rw (front_kept (i * 8 + 5) (omega (arith, fi.few))) (fi.from_one i hi);
        to_most = λ i hi. rw (front_kept (i * 8 + 5) (omega (arith, fi.few))) (fi.to_most i hi);
        small = λ m hm. rw (sum_kept m hm) (fi.small m hm);
        few = fi.few;
        long = simp length-set fi.long;
      }

-- ---- beside the history

module _ (h : Header) (past : History) (claims : List ℕ) (lines : ℕ) (held : Lined h past claims lines) (fi : Filing claims lines) (e : Event) (k : ℕ)
    (taken_kind : e.kind ≡ cancellation_kind) (order_is : field e 0 ≡ k) (low : k < lines) where
  no_satisfaction : e.kind ≡ satisfaction_kind → ⊥
  no_satisfaction q = omega arith

  same_lines : lines_of h (e ∷ past) (e ∷ past) ≡ lines_of h past past
  same_lines = lines_skip h e past no_satisfaction ∙ lines_kept h e past past (ne_eqb e.kind naming_kind (λ q. omega arith))

  -- the claim that the record cancels
  of_trade_lem : ℕ
  of_trade_lem = get_or claims (k * 8 + 0) 0

  of_sender : ℕ
  of_sender = get_or claims (k * 8 + 5) 0

  the_claim : (m x : ℕ) → takes_back m x past e ≡ (of_trade_lem == m && of_sender == x)
  unfolding takes_back claims_for satisfaction_at of_trade_lem of_sender
  the_claim m x =
      let t = held.told k low in
      rw (eq-eqb e.kind cancellation_kind taken_kind, order_is, t.is_order, ← t.trade, ← t.sender)

  taken_of_it : (m y : ℕ) → of_trade_lem ≡ m → of_sender ≡ y + 1 → again_at (taken_back m (y + 1) (e ∷ past)) ≡ e.time + 1
  unfolding taken_back again_at
  taken_of_it m y a b = rw (the_claim m (y + 1), eq-eqb of_trade_lem m a, eq-eqb of_sender (y + 1) b)

  taken_of_none : (m y : ℕ) → (of_trade_lem ≡ m → of_sender ≡ y + 1 → ⊥) → taken_back m (y + 1) (e ∷ past) ≡ taken_back m (y + 1) past
  unfolding taken_back
  taken_of_none m y ne =
      by_test (of_trade_lem == m)
      (λ p. rw (the_claim m (y + 1), p, ne_eqb of_sender (y + 1) (ne (eqb-true of_trade_lem m p))))
      (λ p. rw (the_claim m (y + 1), p))

  again_after : (m y : ℕ) → m < most_trades → y < most_exchanges → get_or (withdrawn_in claims k e.time) (again_word m y) 0 ≡ again_at (taken_back m (y + 1) (e ∷ past))
  unfolding withdrawn_in of_trade_lem of_sender
  again_after m y hm hy =
      let from = fi.from_one k low in
      let to = fi.to_most k low in
      let known = fi.of_trades k low in
      by_test (again_of claims k == again_word m y)
      (λ p.
      let q = eqb-true (again_of claims k) (again_word m y) p in
      let trade_is : get_or claims (k * 8 + 0) 0 ≡ m = omega arith in
      let sender_is : get_or claims (k * 8 + 5) 0 ≡ y + 1 = omega arith in
      rw (← q) (get_or-set_same claims (again_of claims k) (e.time + 1) 0 (omega (arith, fi.long)) ∙ sym (taken_of_it m y trade_is sender_is)))
      (λ p.
      let ne = eqb-false (again_of claims k) (again_word m y) p in
      get_or-set_other claims (again_of claims k) (again_word m y) (e.time + 1) 0 (λ z. ne (sym z)) ∙ held.again m y hm hy
      ∙ ap again_at (sym (taken_of_none m y (λ a b. ne (omega (arith, a, b))))))

  pub lined_withdrawn : Lined h (e ∷ past) (withdrawn_in claims k e.time) lines
  unfolding withdrawn_in
  lined_withdrawn =
      let behind : again_from ≤ again_of claims k = omega arith in
      let same = sym same_lines in
      record {
        numbered = held.numbered ∙ sym (count_skip is_satisfaction e past (ne_eqb e.kind satisfaction_kind no_satisfaction));
        lines = lines_same claims (again_of claims k) (e.time + 1) behind lines fi.few ∙ held.lines ∙ same;
        by_trade = λ m hm. trade_lines_same claims (again_of claims k) (e.time + 1) behind lines m hm fi ∙ held.by_trade m hm ∙ ap (of_trade m) same;
        sums =
            λ m hm. sum_kept claims (again_of claims k) (e.time + 1) behind m hm ∙ held.sums m hm
            ∙ ap (λ (l : List Line). sum (claims_of (of_trade m l))) same;
        told =
            λ i hi. rw (nth_skip is_satisfaction i e past (rw (ne_eqb e.kind satisfaction_kind no_satisfaction)))
            (told_kept claims (again_of claims k) (e.time + 1) behind i (omega (arith, fi.few)) (held.told i hi));
        again = again_after;
      }

-- ---- the code's steps

module _ (claims : List ℕ) (k : ℕ) (able : Withdrawable claims k) (m : ℕ) (em : m ≡ get_or claims (k * 8 + 0) 0)
    (x : ℕ) (ex : x ≡ get_or claims (k * 8 + 5) 0) where
  pub sender_counted : 1 ≤ x
  sender_counted = omega (arith, ex, able.from_one)

  pub again_word_low : again_from + (m * most_exchanges + (x - 1)) < line_words
  again_word_low = omega (arith, em, ex, able.trade, able.to_most)

  pub withdrawn_so : (now : ℕ) → set claims (again_from + (m * most_exchanges + (x - 1))) (now + 1) ≡ withdrawn_in claims k now
  unfolding withdrawn_in
  withdrawn_so now = rw (em, ex)

module _ (r : Rec) (claims : List ℕ) (traded exchanges lines : ℕ) (pl : FitsClaims r claims traded exchanges lines) (kind : r.kind ≡ cancellation_kind)
    (k : ℕ) (ek : k ≡ word r 0) (fi : Filing claims lines) where
  order_low : k < lines
  order_low = omega (arith, ek, pl.withdrawn kind)

  pub order_withdrawable : Withdrawable claims k
  order_withdrawable =
      record {
        line = omega (arith, order_low, fi.few);
        trade = fi.of_trades k order_low;
        from_one = fi.from_one k order_low;
        to_most = fi.to_most k order_low;
        long = fi.long;
      }

  pub order_withdrawn : (home close : ℕ) (trades shown claims2 : List ℕ) → claims2 ≡ withdrawn_in claims k r.time
      → ClaimsStep r home exchanges close trades shown traded claims lines claims2 lines
  unfolding withdrawn_in
  order_withdrawn home close trades shown claims2 ec =
      rw ec
      (record {
        filing = filing_kept claims (again_of claims k) (r.time + 1) (omega arith) lines fi;
        so =
            λ h sizes e past arrived is closes rd tv held.
            rw (← rd.time) (lined_withdrawn h past claims lines held fi e k (rd.kind ∙ kind) (sym (rd.fields 0) ∙ sym ek) order_low);
      })

pub placed_in_day : (r : Rec) (claims : List ℕ) (traded exchanges lines : ℕ) → FitsClaims r claims traded exchanges lines → r.time ≤ last_time
placed_in_day r claims traded exchanges lines pl = pl.time

pub ruleset withdraw_laws = (sender_counted, again_word_low, withdrawn_so, order_withdrawable, order_withdrawn, placed_in_day)
