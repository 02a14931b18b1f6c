-- A Satisfaction Order is cancelled: in time its line alone is changed, and its claim is taken from its trade's sum; late nothing is.
use mathlib.Core.Path.{◌≡◌, refl, sym, ap, ◌∙◌}
use mathlib.Core.Bool.{Bool, true, false, not, ◌||◌}
use mathlib.Core.List.{List, [], ◌∷◌, map, map-map}
use Prim.Native.Nat.{ℕ, zero, suc, ◌+◌, ◌-◌, ◌*◌, ◌<◌, ◌≤◌}
use native.Mathlib.Omega.{arith}
use native.Mathlib.Numerals.{add-one}
use lib.Dec.{eqb, ltb}
use lib.ListN.{get_or, length, set, length-set}
use borrow.Author.Tests.{eq-eqb, ne_eqb, eqb-true, eqb-false, lt-ltb, le-ltb, ltb-true, ltb-false, not-true, not-false}
use Rattle.std.specs.Prelude.{if◌then◌else◌, ◌==◌}
use Rattle.rules.specs.Basics.{◌at_most◌, ◌less_than◌, below, keep, sum}
use Rattle.rules.specs.Limits.{most_trades, most_satisfaction_orders, most_trade_lines}
use Rattle.rules.specs.Header.{Header}
use Rattle.rules.specs.Record.{Event, field, is_satisfaction, satisfaction_kind, naming_kind, cancellation_kind}
use Rattle.rules.specs.Journal.{History, Happened, satisfaction_at, names}
use Rattle.rules.specs.Reasons.{minutes_from, names_in_time}
use Rattle.rules.specs.Due.{Line, lines_of, of_trade, claims_of}
use Rattle.rules.proofs.Tests.{by_test, or_left, or_right, keep_more}
use Rattle.rules.proofs.Below.{one_more_below, same_below}
use Rattle.rules.proofs.Histories.{count_skip, nth_skip}
use Rattle.rules.proofs.Naming.{named, cancelled, after_naming, lines_after}
use Rattle.rules.proofs.Claims.{none_taken_back}
use Rattle.rows.specs.Rows.{word}
use Rattle.rows.specs.declared.Rec.{Rec}
use Rattle.reasons.specs.Reasons.{in_time, again_at}
use Rattle.reasons.proofs.Judge.{in_time_is}
use Rattle.claims.specs.Lines.{part_at, many_at, sum_at, again_from, again_word, line_in, lines_from, number_at, many_of, sum_of, trade_lines, LineTells, Lined, Filing, Cancellable, cleared_in, cancelled_in, FitsClaims, ClaimsStep}
use Rattle.claims.proofs.Words.{others_kept, first_put, second_put, third_put}
use Rattle.claims.proofs.Lines.{lines_skip, lines_stay}

-- ---- lines, of which those with one number are cancelled

abbrev clearing : ℕ → Line → Line
clearing k l = if l.number == k then cancelled l else l

-- no line changes its trade
of_trade_cleared : (k m : ℕ) (ls : List Line) → of_trade m (map (clearing k) ls) ≡ map (clearing k) (of_trade m ls)
unfolding of_trade keep
of_trade_cleared k m [] = refl
of_trade_cleared k m (l ∷ ls) =
    let ih = of_trade_cleared k m ls in
    by_test (l.number == k)
    (λ e. by_test (l.trade == m) (λ t. rw (e, t, ih, e)) (λ t. rw (e, t, ih)))
    (λ e. by_test (l.trade == m) (λ t. rw (e, t, ih, e)) (λ t. rw (e, t, ih)))

-- what is taken from a trade's claims is what those lines claimed
sum_cleared : (k m : ℕ) (ls : List Line)
    → sum (claims_of (of_trade m (map (clearing k) ls))) + sum (claims_of (of_trade m (keep (λ (l : Line). l.number == k) ls))) ≡ sum (claims_of (of_trade m ls))
unfolding of_trade keep sum
sum_cleared k m [] = refl
sum_cleared k m (l ∷ ls) =
    let ih = sum_cleared k m ls in
    by_test (l.number == k)
    (λ e. by_test (l.trade == m) (λ t. rw (e, t) (omega arith)) (λ t. rw (e, t) (omega arith)))
    (λ e. by_test (l.trade == m) (λ t. rw (e, t) (omega arith)) (λ t. rw (e, t) (omega arith)))

-- one line has the number k
only_one : (f : ℕ → Line) → ((i : ℕ) → (f i).number ≡ i) → (k n : ℕ)
    → keep (λ (l : Line). l.number == k) (map f (below n)) ≡ (if k less_than n then f k ∷ [] else [])
only_one f same k zero = rw (le-ltb k 0 (omega arith)) (unfold below keep in refl)
only_one f same k (suc n) =
    rw (rw add-one at (one_more_below f n), keep_more (λ (l : Line). l.number == k) (map f (below n)) (f n), only_one f same k n, ap (λ (i : ℕ). i == k) (same n))
    (by_test (eqb n k)
    (λ q. let z = eqb-true n k q in rw (q, le-ltb k n (omega arith), lt-ltb k (suc n) (omega arith), z))
    (λ q. let ne = eqb-false n k q in
    by_test (ltb k n)
    (λ t. let low = ltb-true k n t in rw (q, t, lt-ltb k (suc n) (omega arith)))
    (λ t. let high = ltb-false k n t in rw (q, t, le-ltb k (suc n) (omega (arith, ne))))))

-- ---- the table's lines

module _ (claims : List ℕ) (lines k : ℕ) (low : k < lines) where
  the_line : keep (λ (l : Line). l.number == k) (lines_from claims lines) ≡ line_in claims k ∷ []
  unfolding lines_from
  the_line = only_one (line_in claims) (λ i. refl) k lines ∙ rw (lt-ltb k lines low)

  claim_taken : (m : ℕ) → sum (claims_of (of_trade m (map (clearing k) (lines_from claims lines)))) + (if get_or claims (k * 8 + 0) 0 == m then get_or claims (k * 8 + 4) 0 else 0)
      ≡ sum (claims_of (of_trade m (lines_from claims lines)))
  claim_taken m =
      let whole = rw the_line at (sum_cleared k m (lines_from claims lines)) in
      unfold of_trade keep sum in
      by_test (get_or claims (k * 8 + 0) 0 == m) (λ t. let w = rw t at whole in rw t (omega arith)) (λ t. let w = rw t at whole in rw t (omega arith))

-- a line's claim is part of its trade's sum
pub line_cancellable : (h : Header) (past : History) (claims : List ℕ) (lines k : ℕ) → Lined h past claims lines → Filing claims lines → k < lines → Cancellable claims k
line_cancellable h past claims lines k held fi low =
    let m : ℕ = get_or claims (k * 8 + 0) 0 in
    let known : m < most_trades = fi.of_trades k low in
    let taken = rw (eq-eqb m m refl) at (claim_taken claims lines k low m) in
    record {
      line = omega (arith, fi.few);
      trade = known;
      claimed = omega (arith, taken, held.sums m known, ap (λ (ls : List Line). sum (claims_of (of_trade m ls))) held.lines);
      long = fi.long;
    }

-- ---- the words of the table, with one order cancelled in time

-- where the sum of its trade's claims stands, and what is left of it
abbrev sum_word : List ℕ → ℕ → ℕ
sum_word claims k = sum_at (get_or claims (k * 8 + 0) 0)

abbrev left_over : List ℕ → ℕ → ℕ
left_over claims k = get_or claims (sum_word claims k) 0 - get_or claims (k * 8 + 4) 0

module _ (claims : List ℕ) (k : ℕ) (able : Cancellable claims k) where
  word_kept : (j : ℕ) → (j ≡ sum_word claims k → ⊥) → (j ≡ k * 8 + 2 → ⊥) → (j ≡ k * 8 + 4 → ⊥) → get_or (cleared_in claims k) j 0 ≡ get_or claims j 0
  unfolding cleared_in
  word_kept j = others_kept claims (sum_word claims k) (k * 8 + 2) (k * 8 + 4) (left_over claims k) (named (get_or claims (k * 8 + 2) 0)) 0 j

  -- a word of an order's row
  row_kept : (i w : ℕ) → i < most_satisfaction_orders → w < 8 → ((i ≡ k) → (w ≡ 2 → ⊥) × (w ≡ 4 → ⊥)) → get_or (cleared_in claims k) (i * 8 + w) 0 ≡ get_or claims (i * 8 + w) 0
  row_kept i w hi hw apart =
      word_kept (i * 8 + w)
      (λ z. omega arith)
      (λ z. let same : i ≡ k = omega arith in (apart same).0 (omega arith))
      (λ z. let same : i ≡ k = omega arith in (apart same).1 (omega arith))

  -- one that is neither the reason nor the claim
  fact_kept : (i w : ℕ) → i < most_satisfaction_orders → w < 8 → (w == 2 || w == 4) ≡ false → get_or (cleared_in claims k) (i * 8 + w) 0 ≡ get_or claims (i * 8 + w) 0
  fact_kept i w hi hw other =
      row_kept i w hi hw (λ z. (eqb-false w 2 (or_left (w == 2) (w == 4) other), eqb-false w 4 (or_right (w == 2) (w == 4) other)))

  other_row_kept : (i w : ℕ) → i < most_satisfaction_orders → w < 8 → (i ≡ k → ⊥) → get_or (cleared_in claims k) (i * 8 + w) 0 ≡ get_or claims (i * 8 + w) 0
  other_row_kept i w hi hw ne = row_kept i w hi hw (λ z. absurd (ne z))

  reason_word : get_or (cleared_in claims k) (k * 8 + 2) 0 ≡ named (get_or claims (k * 8 + 2) 0)
  unfolding cleared_in
  reason_word =
      second_put claims (sum_word claims k) (k * 8 + 2) (k * 8 + 4) (left_over claims k) (named (get_or claims (k * 8 + 2) 0)) 0
      (omega (arith, able.line, able.long))
      (λ z. omega arith)

  claim_word : get_or (cleared_in claims k) (k * 8 + 4) 0 ≡ 0
  unfolding cleared_in
  claim_word =
      third_put claims (sum_word claims k) (k * 8 + 2) (k * 8 + 4) (left_over claims k) (named (get_or claims (k * 8 + 2) 0)) 0 (omega (arith, able.line, able.long))

  sum_word_lem : get_or (cleared_in claims k) (sum_word claims k) 0 ≡ left_over claims k
  unfolding cleared_in
  sum_word_lem =
      first_put claims (sum_word claims k) (k * 8 + 2) (k * 8 + 4) (left_over claims k) (named (get_or claims (k * 8 + 2) 0)) 0
      (omega (arith, able.trade, able.long))
      (λ z. omega (arith, able.line))
      (λ z. omega (arith, able.line))

  line_cleared : (i : ℕ) → i < most_satisfaction_orders → line_in (cleared_in claims k) i ≡ clearing k (line_in claims i)
  line_cleared i hi =
      by_test (i == k)
      (λ q. let same : i ≡ k = eqb-true i k q in
      rw (
        q,
        same,
        fact_kept k 0 able.line (omega arith) refl,
        fact_kept k 1 able.line (omega arith) refl,
        reason_word,
        fact_kept k 3 able.line (omega arith) refl,
        claim_word,
      ))
      (λ q. let ne : i ≡ k → ⊥ = eqb-false i k q in
      rw (
        q,
        other_row_kept i 0 hi (omega arith) ne,
        other_row_kept i 1 hi (omega arith) ne,
        other_row_kept i 2 hi (omega arith) ne,
        other_row_kept i 3 hi (omega arith) ne,
        other_row_kept i 4 hi (omega arith) ne,
      ))

  told_cleared : (i : ℕ) → i < most_satisfaction_orders → {order : Happened} → LineTells claims i order → LineTells (cleared_in claims k) i order
  told_cleared i hi t =
      record {
        is_order = t.is_order;
        trade = fact_kept i 0 hi (omega arith) refl ∙ t.trade;
        sender = fact_kept i 5 hi (omega arith) refl ∙ t.sender;
        asked = fact_kept i 6 hi (omega arith) refl ∙ t.asked;
        time = fact_kept i 7 hi (omega arith) refl ∙ t.time;
      }

  many_kept : (m : ℕ) → many_of (cleared_in claims k) m ≡ many_of claims m
  unfolding many_of
  many_kept m = word_kept (many_at m) (λ z. omega arith) (λ z. omega (arith, able.line)) (λ z. omega (arith, able.line))

  number_kept : (m i : ℕ) → m < most_trades → i < most_trade_lines → number_at (cleared_in claims k) m i ≡ number_at claims m i
  unfolding number_at
  number_kept m i hm hi = word_kept (part_at m + i) (λ z. omega arith) (λ z. omega (arith, able.line)) (λ z. omega (arith, able.line))

  sum_cleared_of : (m : ℕ) → sum_of (cleared_in claims k) m ≡ sum_of claims m - (if get_or claims (k * 8 + 0) 0 == m then get_or claims (k * 8 + 4) 0 else 0)
  unfolding sum_of
  sum_cleared_of m =
      by_test (get_or claims (k * 8 + 0) 0 == m)
      (λ t. rw (t, ← eqb-true (get_or claims (k * 8 + 0) 0) m t) sum_word_lem)
      (λ t. rw t
      (word_kept (sum_at m) (λ z. eqb-false (get_or claims (k * 8 + 0) 0) m t (omega arith)) (λ z. omega (arith, able.line)) (λ z. omega (arith, able.line))
      ∙ omega arith))

  again_kept : (j : ℕ) → again_from ≤ j → get_or (cleared_in claims k) j 0 ≡ get_or claims j 0
  again_kept j hj = word_kept j (λ z. omega (arith, able.trade)) (λ z. omega (arith, able.line)) (λ z. omega (arith, able.line))

  length_cleared : length (cleared_in claims k) ≡ length claims
  unfolding cleared_in
  length_cleared = simp length-set

  filing_cleared : (lines : ℕ) → Filing claims lines → Filing (cleared_in claims k) lines
  filing_cleared lines fi =
      record {
        few_lines = λ m hm. rw (many_kept m) (fi.few_lines m hm);
        earlier =
            λ m i hm hi. let old : i < many_of claims m = rw (← many_kept m) hi in
            rw (number_kept m i hm (omega (arith, fi.few_lines m hm))) (fi.earlier m i hm old);
        of_trades = λ i hi. rw (fact_kept i 0 (omega (arith, fi.few)) (omega arith) refl) (fi.of_trades i hi);
        from_one = λ i hi. rw (fact_kept i 5 (omega (arith, fi.few)) (omega arith) refl) (fi.from_one i hi);
        to_most = λ i hi. rw (fact_kept i 5 (omega (arith, fi.few)) (omega arith) refl) (fi.to_most i hi);
        small = λ m hm. omega (arith, sum_cleared_of m, fi.small m hm);
        few = fi.few;
        long = length_cleared ∙ fi.long;
      }

  lines_cleared : (lines : ℕ) → lines ≤ most_satisfaction_orders → lines_from (cleared_in claims k) lines ≡ map (clearing k) (lines_from claims lines)
  unfolding lines_from
  lines_cleared lines few =
      same_below (line_in (cleared_in claims k)) (λ i. clearing k (line_in claims i)) lines (λ i hi. line_cleared i (omega arith))
      ∙ sym (map-map (clearing k) (line_in claims) (below lines))

  trade_lines_cleared : (lines m : ℕ) → m < most_trades → Filing claims lines → trade_lines (cleared_in claims k) m (many_of (cleared_in claims k) m) ≡ map (clearing k) (trade_lines claims m (many_of claims m))
  unfolding trade_lines
  trade_lines_cleared lines m hm fi =
      rw (many_kept m)
      (same_below (λ i. line_in (cleared_in claims k) (number_at (cleared_in claims k) m i)) (λ i. clearing k (line_in claims (number_at claims m i))) (many_of claims m)
      (λ i hi. ap (line_in (cleared_in claims k)) (number_kept m i hm (omega (arith, fi.few_lines m hm)))
      ∙ line_cleared (number_at claims m i) (omega (arith, fi.earlier m i hm hi, fi.few)))
      ∙ sym (map-map (clearing k) (λ i. line_in claims (number_at claims m i)) (below (many_of claims m))))

-- ---- beside the history

module _ (h : Header) (past : History) (claims : List ℕ) (lines : ℕ) (held : Lined h past claims lines) (e : Event) (k : ℕ) (named_kind : e.kind ≡ naming_kind)
    (order_is : field e 0 ≡ k) (low : k < lines) (close : ℕ) (closes : h.close ≡ close) where
  no_satisfaction : e.kind ≡ satisfaction_kind → ⊥
  no_satisfaction q = omega arith

  no_cancellation : e.kind ≡ cancellation_kind → ⊥
  no_cancellation q = omega arith

  -- the order named was received at the time that its row keeps
  time_test : (e.time at_most ((satisfaction_at k past).time + minutes_from h (satisfaction_at k past).time)) ≡ in_time (get_or claims (k * 8 + 7) 0) close e.time
  unfolding satisfaction_at
  time_test = rw (held.told k low).time (sym (in_time_is h close closes _ _))

  line_after : (i : ℕ) → after_naming h e past (line_in claims i)
      ≡ (if in_time (get_or claims (k * 8 + 7) 0) close e.time then clearing k (line_in claims i) else line_in claims i)
  unfolding names_in_time names
  line_after i =
      by_test (i == k)
      (λ q. let same : i ≡ k = eqb-true i k q in
      rw (q, same, order_is, eq-eqb e.kind naming_kind named_kind, eq-eqb k k refl, time_test)
      (by_test (in_time (get_or claims (k * 8 + 7) 0) close e.time) (λ t. rw t) (λ t. rw t)))
      (λ q. let ne : i ≡ k → ⊥ = eqb-false i k q in
      rw (q, order_is, ne_eqb k i (λ z. ne (sym z)), eq-eqb e.kind naming_kind named_kind)
      (by_test (in_time (get_or claims (k * 8 + 7) 0) close e.time) (λ t. rw t) (λ t. rw t)))

  all_after : lines_of h (e ∷ past) (e ∷ past) ≡ map (λ i. after_naming h e past (line_in claims i)) (below lines)
  unfolding lines_from
  all_after =
      lines_skip h e past no_satisfaction ∙ lines_after h e past past
      ∙ ap (map (after_naming h e past)) (sym held.lines) ∙ map-map (after_naming h e past) (line_in claims) (below lines)

  module _ (t : in_time (get_or claims (k * 8 + 7) 0) close e.time ≡ true) (able : Cancellable claims k) (fi : Filing claims lines) where
    lines_in_time : lines_of h (e ∷ past) (e ∷ past) ≡ map (clearing k) (lines_of h past past)
    unfolding lines_from
    lines_in_time =
        all_after ∙ same_below (λ i. after_naming h e past (line_in claims i)) (λ i. clearing k (line_in claims i)) lines (λ i hi. line_after i ∙ rw t)
        ∙ sym (map-map (clearing k) (line_in claims) (below lines)) ∙ ap (map (clearing k)) held.lines

    pub lined_in_time : Lined h (e ∷ past) (cleared_in claims k) lines
    lined_in_time =
        record {
          numbered = held.numbered ∙ sym (count_skip is_satisfaction e past (ne_eqb e.kind satisfaction_kind no_satisfaction));
          lines = lines_cleared claims k able lines fi.few ∙ ap (map (clearing k)) held.lines ∙ sym lines_in_time;
          by_trade =
              λ m hm. trade_lines_cleared claims k able lines m hm fi ∙ ap (map (clearing k)) (held.by_trade m hm)
              ∙ sym (of_trade_cleared k m (lines_of h past past)) ∙ ap (of_trade m) (sym lines_in_time);
          sums =
              λ m hm. let taken = rw held.lines at (claim_taken claims lines k low m) in
              rw lines_in_time (omega (arith, sum_cleared_of claims k able m, held.sums m hm));
          told =
              λ i hi. rw (nth_skip is_satisfaction i e past (rw (ne_eqb e.kind satisfaction_kind no_satisfaction)))
              (told_cleared claims k able i (omega (arith, fi.few)) (held.told i hi));
          again =
              λ m y hm hy. again_kept claims k able (again_word m y) (omega arith) ∙ held.again m y hm hy
              ∙ ap again_at (sym (none_taken_back m (y + 1) e past (ne_eqb e.kind cancellation_kind no_cancellation)));
        }

  pub lined_late : in_time (get_or claims (k * 8 + 7) 0) close e.time ≡ false → Lined h (e ∷ past) claims lines
  unfolding lines_from
  lined_late t =
      lines_stay h past claims lines e no_satisfaction no_cancellation
      (all_after ∙ same_below (λ i. after_naming h e past (line_in claims i)) (line_in claims) lines (λ i hi. line_after i ∙ rw t) ∙ held.lines)
      held

-- ---- the code's steps

module _ (claims : List ℕ) (k : ℕ) (able : Cancellable claims k) where
  module _ (m : ℕ) (em : m ≡ get_or claims (k * 8 + 0) 0) where
    pub claim_in_its_sum : get_or claims (k * 8 + 4) 0 ≤ get_or claims (sum_at m) 0
    unfolding sum_of
    claim_in_its_sum = rw em able.claimed

    pub cleared_so : (close now : ℕ) (b : Bool) → b ≡ in_time (get_or claims (k * 8 + 7) 0) close now → not b ≡ false → (why : ℕ) → why ≡ named (get_or claims (k * 8 + 2) 0)
        → set (set (set claims (sum_at m) (get_or claims (sum_at m) 0 - get_or claims (k * 8 + 4) 0)) (k * 8 + 2) why) (k * 8 + 4) 0 ≡ cancelled_in claims k close now
    unfolding cleared_in cancelled_in
    cleared_so close now b eb t why ew = rw (em, ew, ← eb, not-false b t)

  pub late_so : (close now : ℕ) (b : Bool) → b ≡ in_time (get_or claims (k * 8 + 7) 0) close now → not b ≡ true → claims ≡ cancelled_in claims k close now
  unfolding cancelled_in
  late_so close now b eb t = rw (← eb, not-true b t)

module _ (r : Rec) (claims : List ℕ) (traded exchanges lines : ℕ) (pl : FitsClaims r claims traded exchanges lines) (kind : r.kind ≡ naming_kind)
    (k : ℕ) (ek : k ≡ word r 0) where
  pub order_cancellable : Cancellable claims k
  order_cancellable = rw ek (pl.cancellable kind)

  pub order_cancelled : Filing claims lines → (home close : ℕ) (trades shown claims2 : List ℕ) → claims2 ≡ cancelled_in claims k close r.time
      → ClaimsStep r home exchanges close trades shown traded claims lines claims2 lines
  unfolding cancelled_in
  order_cancelled fi home close trades shown claims2 ec =
      let low : k < lines = omega (arith, ek, pl.order kind) in
      by_test (in_time (get_or claims (k * 8 + 7) 0) close r.time)
      (λ t.
      let now : claims2 ≡ cleared_in claims k = ec ∙ rw t in
      rw now
      (record {
        filing = filing_cleared claims k order_cancellable lines fi;
        so =
            λ h sizes e past arrived is closes rd tv held.
            lined_in_time h past claims lines held e k (rd.kind ∙ kind) (sym (rd.fields 0) ∙ sym ek) low close closes (rw rd.time t) order_cancellable fi;
      }))
      (λ t.
      let now : claims2 ≡ claims = ec ∙ rw t in
      rw now
      (record {
        filing = fi;
        so =
            λ h sizes e past arrived is closes rd tv held.
            lined_late h past claims lines held e k (rd.kind ∙ kind) (sym (rd.fields 0) ∙ sym ek) low close closes (rw rd.time t);
      }))

pub ruleset cancel_laws = (claim_in_its_sum, cleared_so, late_so, order_cancellable, order_cancelled)
