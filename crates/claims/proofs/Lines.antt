-- Lines of the definitions and of the table, in all and by trade, and sums of claims: what one more record does to them.
use mathlib.Core.Path.{◌≡◌, sym, ap, ◌∙◌}
use mathlib.Core.Bool.{true, false}
use mathlib.Core.List.{List, [], ◌∷◌, ◌++◌, append-nil}
use Prim.Native.Nat.{ℕ, ◌+◌, ◌-◌, ◌*◌, ◌<◌, ◌≤◌}
use native.Mathlib.Omega.{arith}
use lib.Dec.{eqb}
use lib.ListN.{get_or, length, set, length-set}
use borrow.Author.Tests.{eq-eqb, ne_eqb, eqb-true, eqb-false}
use Rattle.std.specs.Prelude.{if◌then◌else◌, ◌==◌, Option}
use Rattle.rules.specs.Basics.{any, keep, sum}
use Rattle.rules.specs.Limits.{most_exchanges, most_trades, most_satisfaction_orders, most_trade_lines, most_contracts}
use Rattle.rules.specs.Header.{Header}
use Rattle.rules.specs.Record.{Event, field, is_satisfaction, satisfaction_kind, naming_kind, cancellation_kind}
use Rattle.rules.specs.Journal.{History, Happened, count, nth, names, taken_back}
use Rattle.rules.specs.Reasons.{case_of, customers, names_in_time, reason}
use Rattle.rules.specs.Due.{least_of, Line, line_of, lines_of, of_trade, claims_of, claim}
use Rattle.rules.proofs.Tests.{by_test, keep_more}
use Rattle.rules.proofs.Below.{one_more_below, same_below}
use Rattle.rules.proofs.Histories.{count_cons, count_skip, nth_skip, nth_older, nth_new}
use Rattle.rules.proofs.Journals.{Arrived}
use Rattle.rules.proofs.Lines.{limited_at_most}
use Rattle.rules.proofs.Naming.{lines_kept, not_cancelled_in_time}
use Rattle.rules.proofs.Claims.{not_named, none_taken_back, none_cancelled_ahead, taken_back_at_most_once}
use Rattle.rows.specs.Rows.{Reads, word, Put, RecOk}
use Rattle.rows.specs.declared.Rec.{Rec}
use Rattle.rows.proofs.Rows.{behind_row_kept}
use Rattle.orders.specs.Orders.{Headed, Heads}
use Rattle.trades.specs.Trades.{trade_words, Traded}
use Rattle.reasons.specs.declared.Facts.{Facts}
use Rattle.reasons.specs.declared.Reason.{Reason}
use Rattle.reasons.specs.Reasons.{stored_as, again_at, reason_of, claim_of}
use Rattle.claims.specs.Facts.{facts_of}
use Rattle.claims.specs.Lines.{part_words, part_at, many_at, sum_at, again_from, again_word, line_words, line_in, lines_from, number_at, many_of, sum_of, trade_lines, LineTells, Lined, Filing, Fileable, Filed, Cancellable, FitsClaims, ClaimsStep}
use Rattle.claims.proofs.Words.{others_kept, first_put, second_put, third_put}
use Rattle.claims.proofs.Facts.{reason_is, customers_are, claim_is}

-- ---- one line more at the end

lines_more : (claims : List ℕ) (n : ℕ) → lines_from claims (n + 1) ≡ lines_from claims n ++ (line_in claims n ∷ [])
unfolding lines_from
lines_more claims n = one_more_below (line_in claims) n

-- the first lines are the same where no row below is
lines_same : (claims claims2 : List ℕ) (k : ℕ) → ((i : ℕ) → i < k → line_in claims2 i ≡ line_in claims i) → lines_from claims2 k ≡ lines_from claims k
unfolding lines_from
lines_same claims claims2 k h = same_below (line_in claims2) (line_in claims) k h

pub trade_lines_more : (claims : List ℕ) (m k : ℕ) → trade_lines claims m (k + 1) ≡ trade_lines claims m k ++ (line_in claims (number_at claims m k) ∷ [])
unfolding trade_lines
trade_lines_more claims m k = one_more_below (λ i. line_in claims (number_at claims m i)) k

trade_lines_same : (claims claims2 : List ℕ) (m k : ℕ) → ((i : ℕ) → i < k → line_in claims2 (number_at claims2 m i) ≡ line_in claims (number_at claims m i))
    → trade_lines claims2 m k ≡ trade_lines claims m k
unfolding trade_lines
trade_lines_same claims claims2 m k h = same_below (λ i. line_in claims2 (number_at claims2 m i)) (λ i. line_in claims (number_at claims m i)) k h

pub of_trade_more : (m : ℕ) (ls : List Line) (l : Line) → of_trade m (ls ++ (l ∷ [])) ≡ of_trade m ls ++ (if l.trade == m then l ∷ [] else [])
unfolding of_trade
of_trade_more m ls l = keep_more (λ (x : Line). x.trade == m) ls l

sum_more : (m : ℕ) (ls : List Line) (l : Line)
    → sum (claims_of (of_trade m (ls ++ (l ∷ []))))
    ≡ (if l.trade == m then sum (claims_of (of_trade m ls)) + l.claim else sum (claims_of (of_trade m ls)))
unfolding of_trade keep sum
sum_more m [] l = by_test (eqb l.trade m) (λ q. rw q (omega arith)) (λ q. rw q)
sum_more m (x ∷ ls) l =
    by_test (eqb x.trade m)
    (λ p. by_test (eqb l.trade m)
    (λ q. let h = rw q at (sum_more m ls l) in rw (p, q) (omega arith))
    (λ q. let h = rw q at (sum_more m ls l) in rw (p, q) (omega arith)))
    (λ p. rw p (sum_more m ls l))

-- the sum of a trade's claims with this order's line, and with another trade's
module _ (h : Header) (day past : History) (i : ℕ) (e : Event) (a : ℕ) where
  line_words_lem : (s t : ℕ) → s ≡ t + claim h (case_of day past i e) → eqb (field e 0) a ≡ true
      → s ≡ (if (line_of h day past i e).trade == a then t + (line_of h day past i e).claim else t)
  unfolding line_of
  line_words_lem s t p q = rw q p

  other_line : (s t : ℕ) → s ≡ t → eqb (field e 0) a ≡ false
      → s ≡ (if (line_of h day past i e).trade == a then t + (line_of h day past i e).claim else t)
  unfolding line_of
  other_line s t p q = rw q p

  pub in_its_trade : (ls s : List Line) → s ≡ ls ++ (line_of h day past i e ∷ []) → eqb (field e 0) a ≡ true
      → s ≡ ls ++ (if (line_of h day past i e).trade == a then line_of h day past i e ∷ [] else [])
  unfolding line_of
  in_its_trade ls s p q = rw q p

  in_another : (ls s : List Line) → s ≡ ls → eqb (field e 0) a ≡ false
      → s ≡ ls ++ (if (line_of h day past i e).trade == a then line_of h day past i e ∷ [] else [])
  unfolding line_of
  in_another ls s p q = rw q (p ∙ sym (append-nil ls))

-- ---- a record of another kind

pub lines_skip : (h : Header) (e : Event) (past : History) → (e.kind ≡ satisfaction_kind → ⊥) → lines_of h (e ∷ past) (e ∷ past) ≡ lines_of h (e ∷ past) past
unfolding lines_of
lines_skip h e past ne = rw (ne_eqb e.kind satisfaction_kind ne) (append-nil (lines_of h (e ∷ past) past))

-- the table as it was, where the lines are
pub lines_stay : (h : Header) (past : History) (claims : List ℕ) (lines : ℕ) (e : Event) → (e.kind ≡ satisfaction_kind → ⊥) → (e.kind ≡ cancellation_kind → ⊥)
    → lines_of h (e ∷ past) (e ∷ past) ≡ lines_of h past past → Lined h past claims lines → Lined h (e ∷ past) claims lines
lines_stay h past claims lines e ne nc All-same held =
    let same = sym All-same in
    record {
      numbered = held.numbered ∙ sym (count_skip is_satisfaction e past (ne_eqb e.kind satisfaction_kind ne));
      lines = held.lines ∙ same;
      by_trade = λ m hm. held.by_trade m hm ∙ ap (of_trade m) same;
      sums = λ m hm. held.sums m hm ∙ ap (λ (l : List Line). sum (claims_of (of_trade m l))) same;
      told = λ i hi. rw (nth_skip is_satisfaction i e past (rw (ne_eqb e.kind satisfaction_kind ne))) (held.told i hi);
      again = λ m y hm hy. held.again m y hm hy ∙ ap again_at (sym (none_taken_back m (y + 1) e past (ne_eqb e.kind cancellation_kind nc)));
    }

lines_alone : (h : Header) (past : History) (claims : List ℕ) (lines : ℕ) (e : Event) → (e.kind ≡ satisfaction_kind → ⊥) → (e.kind ≡ naming_kind → ⊥)
    → (e.kind ≡ cancellation_kind → ⊥) → Lined h past claims lines → Lined h (e ∷ past) claims lines
lines_alone h past claims lines e ns nn nc held =
    lines_stay h past claims lines e ns nc
    (lines_skip h e past ns ∙ lines_kept h e past past (ne_eqb e.kind naming_kind nn))
    held

-- ---- a Satisfaction Order

pub lines_new : (h : Header) (e : Event) (past : History) → e.kind ≡ satisfaction_kind
    → lines_of h (e ∷ past) (e ∷ past) ≡ lines_of h past past ++ (line_of h (e ∷ past) past (count is_satisfaction past) e ∷ [])
unfolding lines_of
lines_new h e past k =
    rw (eq-eqb e.kind satisfaction_kind k, lines_kept h e past past (ne_eqb e.kind naming_kind (λ q. omega arith)))

line_is : (claims : List ℕ) (n why contracts due : ℕ) (r : Rec) (h : Header) (e : Event) (day past : History) → Reads e r
    → ((i : ℕ) → i < 8 → get_or claims (n * 8 + i) 0 ≡ get_or (word r 0 ∷ word r 3 ∷ why ∷ contracts ∷ due ∷ word r 1 ∷ word r 2 ∷ r.time ∷ []) i 0)
    → why ≡ reason h (case_of day past n e) → contracts ≡ customers (case_of day past n e) → due ≡ claim h (case_of day past n e)
    → line_in claims n ≡ line_of h day past n e
unfolding line_of
line_is claims n why contracts due r h e day past rd here a b c =
    rw (
      here 0 (omega arith),
      here 1 (omega arith),
      here 2 (omega arith),
      here 3 (omega arith),
      here 4 (omega arith),
      rd.fields 0,
      rd.fields 3,
      a,
      b,
      c,
    )

claim_at_most_size : (why size contracts traded closing : ℕ) → claim_of why size contracts traded closing ≤ size
unfolding claim_of
claim_at_most_size why size contracts traded closing =
    by_test (eqb why 0) (λ z. rw z (omega (arith, limited_at_most (eqb closing 1) (least_of size contracts traded)))) (λ z. rw z (omega arith))

-- ---- a line's row and the three words of its trade

module _ (claims claims1 row : List ℕ) (n m k w : ℕ) (able : Fileable claims row n m) (first : Put claims claims1 row n 8)
    (ek : k ≡ get_or claims (many_at m) 0) (ew : w ≡ n) where
  abbrev many : ℕ
  many = get_or claims (many_at m) 0 + 1

  abbrev total : ℕ
  total = get_or claims (sum_at m) 0 + get_or row 4 0

  abbrev filed : List ℕ
  filed = set (set (set claims1 (part_at m + k) w) (many_at m) many) (sum_at m) total

  few : k < most_trade_lines
  few = omega (arith, able.line_left, ek)

  long_1 : length claims1 ≡ line_words
  long_1 = first.long ∙ able.long

  kept : (j : ℕ) → (j ≡ part_at m + k → ⊥) → (j ≡ many_at m → ⊥) → (j ≡ sum_at m → ⊥) → get_or filed j 0 ≡ get_or claims1 j 0
  kept = others_kept claims1 (part_at m + k) (many_at m) (sum_at m) w many total

  row_word : (q i : ℕ) → q < most_satisfaction_orders → i < 8 → get_or filed (q * 8 + i) 0 ≡ get_or claims1 (q * 8 + i) 0
  row_word q i hq hi = kept (q * 8 + i) (λ z. omega arith) (λ z. omega arith) (λ z. omega arith)

  -- a word of a part that is none of the three
  part_word : (q i : ℕ) → i < part_words → (q ≡ m → (i ≡ k → ⊥) × (i < most_trade_lines)) → get_or filed (part_at q + i) 0 ≡ get_or claims (part_at q + i) 0
  part_word q i hi apart =
      kept (part_at q + i)
      (λ z. let same : q ≡ m = omega (arith, few) in (apart same).0 (omega arith))
      (λ z. let same : q ≡ m = omega arith in let low = (apart same).1 in omega arith)
      (λ z. let same : q ≡ m = omega arith in let low = (apart same).1 in omega arith)
      ∙ behind_row_kept claims claims1 row n (part_at q + i) first (omega (arith, able.line))

  pub line_filed : Filed claims filed row n m
  unfolding number_at many_of sum_of
  line_filed =
      record {
        here = λ i hi. row_word n i able.line hi ∙ first.here i hi;
        others = λ q i hq hi ne. row_word q i hq hi ∙ first.others q i hi ne;
        number_here =
            ap (λ (i : ℕ). get_or filed (part_at m + i) 0) (sym ek)
            ∙ first_put claims1 (part_at m + k) (many_at m) (sum_at m) w many total
            (omega (arith, long_1, few, able.trade))
            (λ z. omega (arith, few))
            (λ z. omega (arith, few))
            ∙ ew;
        number_other = λ q i hq hi ne. part_word q i (omega arith) (λ same. (λ z. ne same (omega (arith, ek)), hi));
        many_here =
            second_put claims1 (part_at m + k) (many_at m) (sum_at m) w many total (omega (arith, long_1, able.trade)) (λ z. omega arith);
        many_other = λ q ne. part_word q most_trade_lines (omega arith) (λ same. absurd (ne same));
        sum_here = third_put claims1 (part_at m + k) (many_at m) (sum_at m) w many total (omega (arith, long_1, able.trade));
        sum_other = λ q ne. part_word q (most_trade_lines + 1) (omega arith) (λ same. absurd (ne same));
        behind =
            λ j hj. kept j (λ z. omega (arith, few, able.trade)) (λ z. omega (arith, able.trade)) (λ z. omega (arith, able.trade))
            ∙ behind_row_kept claims claims1 row n j first (omega (arith, able.line));
        same_length = simp length-set first.long;
      }

-- the trade and the sender that a Satisfaction Order names
module _ (r : Rec) (claims : List ℕ) (traded exchanges lines : ℕ) (pl : FitsClaims r claims traded exchanges lines) (kind : r.kind ≡ satisfaction_kind) where
  module _ (ht : traded ≤ most_trades) (m : ℕ) (em : m ≡ word r 0) where
    pub trade_known : m < most_trades
    trade_known = omega (arith, em, pl.trade kind)

    pub trade_word_known : (i : ℕ) → i < 8 → m * 8 + i < trade_words
    trade_word_known i h = omega (arith, trade_known)

    -- the word of the trade and its sender
    pub again_word_known : (x : ℕ) → x ≡ word r 1 → (home : ℕ) → Headed exchanges home → again_from + (m * most_exchanges + (x - 1)) < line_words
    again_word_known x ex home head = omega (arith, trade_known, ex, (pl.fields kind).sender.to_n, head.few)

  module _ (x : ℕ) (ex : x ≡ word r 1) where
    pub sender_from_one : 1 ≤ x
    sender_from_one = omega (arith, ex, (pl.fields kind).sender.from_one)

    pub sender_known : (home : ℕ) → Headed exchanges home → x - 1 < most_exchanges
    sender_known home ok = omega (arith, sender_from_one, ex, (pl.fields kind).sender.to_n, ok.few)

module _ (r : Rec) (home exchanges close : ℕ) (trades shown : List ℕ) (traded : ℕ) (claims : List ℕ) (lines : ℕ) (ht : traded ≤ most_trades) (ok : Headed exchanges home)
    (pl : FitsClaims r claims traded exchanges lines) (kind : r.kind ≡ satisfaction_kind) (fi : Filing claims lines)
    (m : ℕ) (em : m ≡ word r 0) (x : ℕ) (ex : x ≡ word r 1) where
  trade_low : m < most_trades
  trade_low = trade_known r claims traded exchanges lines pl kind ht m em

  line_left : many_of claims m < most_trade_lines
  line_left = rw em (pl.first kind)

  module _ (again : ℕ) (eg : again ≡ get_or claims (again_word m (x - 1)) 0) (k : Facts) (ek : k ≡ facts_of trades shown m (x - 1) home close (word r 2) r.time again) (why : ℕ) (ew : why ≡ reason_of k)
      (due : ℕ) (ed : due ≡ claim_of why (word r 3) k.customers (get_or trades (m * 8 + 1) 0) (get_or trades (m * 8 + 7) 0)) where
    claim_small : due ≤ most_contracts
    claim_small = omega (arith, claim_at_most_size why (word r 3) k.customers (get_or trades (m * 8 + 1) 0) (get_or trades (m * 8 + 7) 0), (pl.fields kind).size, ed)

    order_fits : Fileable claims (word r 0 ∷ word r 3 ∷ why ∷ k.customers ∷ due ∷ word r 1 ∷ word r 2 ∷ r.time ∷ []) lines m
    unfolding many_of sum_of
    order_fits =
        record {
          line = pl.room kind;
          trade = trade_low;
          line_left = line_left;
          sum_small = omega (arith, fi.small m trade_low, fi.few);
          claim_small = claim_small;
          long = fi.long;
        }

    module _ (claims2 : List ℕ) (f : Filed claims claims2 (word r 0 ∷ word r 3 ∷ why ∷ k.customers ∷ due ∷ word r 1 ∷ word r 2 ∷ r.time ∷ []) lines m) where
      line_kept : (j : ℕ) → j < lines → line_in claims2 j ≡ line_in claims j
      line_kept j hj =
          let low : j < most_satisfaction_orders = omega (arith, fi.few) in
          let ne : j ≡ lines → ⊥ = λ z. omega arith in
          rw (
            f.others j 0 low (omega arith) ne,
            f.others j 1 low (omega arith) ne,
            f.others j 2 low (omega arith) ne,
            f.others j 3 low (omega arith) ne,
            f.others j 4 low (omega arith) ne,
          )

      told_kept : (j : ℕ) → j < lines → {order : Happened} → LineTells claims j order → LineTells claims2 j order
      told_kept j hj t =
          let low : j < most_satisfaction_orders = omega (arith, fi.few) in
          let ne : j ≡ lines → ⊥ = λ z. omega arith in
          record {
            is_order = t.is_order;
            trade = f.others j 0 low (omega arith) ne ∙ t.trade;
            sender = f.others j 5 low (omega arith) ne ∙ t.sender;
            asked = f.others j 6 low (omega arith) ne ∙ t.asked;
            time = f.others j 7 low (omega arith) ne ∙ t.time;
          }

      -- ---- the table alone

      filing_after : Filing claims2 (lines + 1)
      filing_after =
          record {
            few_lines =
                λ a ha. by_test (eqb a m) (λ q. rw (eqb-true a m q) (omega (arith, f.many_here, line_left)))
                (λ q. omega (arith, f.many_other a (eqb-false a m q), fi.few_lines a ha));
            earlier = λ a i ha hi. by_test (eqb a m) (λ q. new a i ha hi (eqb-true a m q)) (λ q. other a i ha hi (eqb-false a m q));
            of_trades =
                λ i hi. by_test (eqb i lines)
                (λ q. rw (eqb-true i lines q, f.here 0 (omega arith)) (omega (arith, trade_low, em)))
                (λ q. let ne = eqb-false i lines q in
                let old : i < lines = omega (arith, ne) in
                rw (f.others i 0 (omega (arith, fi.few)) (omega arith) ne) (fi.of_trades i old));
            from_one = of_senders (λ a. 1 ≤ a) (pl.fields kind).sender.from_one fi.from_one;
            to_most = of_senders (λ a. a ≤ most_exchanges) (omega (arith, (pl.fields kind).sender.to_n, ok.few)) fi.to_most;
            small =
                λ a ha. by_test (eqb a m) (λ q. rw (eqb-true a m q) (omega (arith, f.sum_here, claim_small, fi.small m trade_low)))
                (λ q. omega (arith, f.sum_other a (eqb-false a m q), fi.small a ha));
            few = omega (arith, pl.room kind);
            long = f.same_length ∙ fi.long;
          }
        where
          of_senders : (P : ℕ → Type 0) → P (word r 1) → ((i : ℕ) → i < lines → P (get_or claims (i * 8 + 5) 0)) → (i : ℕ) → i < lines + 1 → P (get_or claims2 (i * 8 + 5) 0)
          of_senders P new old i hi =
              by_test (eqb i lines)
              (λ q. rw (eqb-true i lines q, f.here 5 (omega arith)) new)
              (λ q. let ne = eqb-false i lines q in
              rw (f.others i 5 (omega (arith, fi.few)) (omega arith) ne) (old i (omega (arith, ne))))

          other : (a i : ℕ) → a < most_trades → i < many_of claims2 a → (a ≡ m → ⊥) → number_at claims2 a i < lines + 1
          other a i ha hi ne =
              let lt : i < many_of claims a = omega (arith, f.many_other a ne) in
              omega (arith, f.number_other a i ha (omega (arith, fi.few_lines a ha)) (λ p q. ne p), fi.earlier a i ha lt)

          new : (a i : ℕ) → a < most_trades → i < many_of claims2 a → a ≡ m → number_at claims2 a i < lines + 1
          new a i ha hi p =
              let hi2 : i < many_of claims m + 1 = rw (← f.many_here, ← p) hi in
              rw p
              (by_test (eqb i (many_of claims m)) (λ q. rw (eqb-true i (many_of claims m) q) (omega (arith, f.number_here)))
              (λ q. let ne = eqb-false i (many_of claims m) q in
              let lt : i < many_of claims m = omega (arith, ne) in
              omega (arith, f.number_other m i trade_low (omega (arith, line_left)) (λ z1 z2. ne z2), fi.earlier m i trade_low lt)))

      -- ---- beside the history

      module _ (h : Header) (sizes : List ℕ) (e : Event) (past : History) (arrived : Arrived h past) (is : Heads h exchanges home sizes) (ec : h.close ≡ close) (rd : Reads e r)
          (tv : Traded h past trades shown traded) (held : Lined h past claims lines) where
        sat : e.kind ≡ satisfaction_kind
        sat = rd.kind ∙ kind

        names_trade : field e 0 ≡ m
        names_trade = sym (rd.fields 0) ∙ sym em

        names_sender : field e 1 ≡ x - 1 + 1
        names_sender = sym (rd.fields 1) ∙ sym ex ∙ omega (arith, sender_from_one r claims traded exchanges lines pl kind x ex)

        known : m < traded
        known = omega (arith, em, pl.trade kind)

        sends : x - 1 < h.exchanges
        sends = let z = is.exchanges in omega (arith, ex, (pl.fields kind).sender.from_one, (pl.fields kind).sender.to_n)

        home_in : home ≤ h.exchanges
        home_in = let z = is.exchanges in omega (arith, ok.to_n)

        stands : any (names_in_time h lines e) (e ∷ past) ≡ false
        unfolding any names_in_time names
        stands =
            rw (
              ne_eqb e.kind naming_kind (λ q. omega (arith, sat)),
              not_cancelled_in_time h lines e past (not_named lines past (none_cancelled_ahead arrived lines (omega (arith, held.numbered)))),
            )

        again_told : again ≡ again_at (taken_back m (x - 1 + 1) past)
        again_told = eg ∙ held.again m (x - 1) trade_low (omega (arith, sends, is.exchanges, ok.few))

        why_is : why ≡ reason h (case_of (e ∷ past) past lines e)
        why_is =
            ew ∙ ap reason_of ek
            ∙ reason_is h (e ∷ past) past lines trades shown traded m (x - 1) home tv known sends is.home ok.from_one home_in e names_trade names_sender stands
            (taken_back_at_most_once arrived m (x - 1 + 1))
            close (word r 2) r.time again ec (sym (rd.fields 2)) rd.time again_told

        contracts_are : k.customers ≡ customers (case_of (e ∷ past) past lines e)
        unfolding facts_of
        contracts_are =
            ap (λ (f : Facts). f.customers) ek
            ∙ customers_are h (e ∷ past) past lines trades shown traded m (x - 1) home tv known sends is.home ok.from_one home_in e names_trade names_sender

        due_is : due ≡ claim h (case_of (e ∷ past) past lines e)
        due_is =
            ed
            ∙ claim_is h (e ∷ past) past lines trades shown traded m (x - 1) home tv known sends is.home ok.from_one home_in e names_trade names_sender
            why k.customers (word r 3) why_is contracts_are (sym (rd.fields 3))

        newest_told : LineTells claims2 lines (record { event = e; before = past })
        newest_told =
            record {
              is_order = eq-eqb e.kind satisfaction_kind sat;
              trade = f.here 0 (omega arith) ∙ rd.fields 0;
              sender = f.here 5 (omega arith) ∙ rd.fields 1;
              asked = f.here 6 (omega arith) ∙ rd.fields 2;
              time = f.here 7 (omega arith) ∙ sym rd.time;
            }

        told_after : (i : ℕ) → i < lines + 1 → LineTells claims2 i (nth is_satisfaction i (e ∷ past))
        told_after i hi =
            by_test (eqb i lines)
            (λ q. let new : i ≡ lines = eqb-true i lines q in
            rw (new, nth_new is_satisfaction lines e past (eq-eqb e.kind satisfaction_kind sat) held.numbered) newest_told)
            (λ q. let ne : i ≡ lines → ⊥ = eqb-false i lines q in
            let old : i < lines = omega (arith, ne) in
            rw (nth_older is_satisfaction i e past (omega (arith, held.numbered))) (told_kept i old (held.told i old)))

        newest_line : line_in claims2 lines ≡ line_of h (e ∷ past) past lines e
        newest_line = line_is claims2 lines why k.customers due r h e (e ∷ past) past rd f.here why_is contracts_are due_is

        all_lines : lines_of h (e ∷ past) (e ∷ past) ≡ lines_of h past past ++ (line_of h (e ∷ past) past lines e ∷ [])
        all_lines =
            lines_new h e past sat ∙ ap (λ (i : ℕ). lines_of h past past ++ (line_of h (e ∷ past) past i e ∷ [])) (sym held.numbered)

        lines_after : lines_from claims2 (lines + 1) ≡ lines_of h (e ∷ past) (e ∷ past)
        lines_after = lines_more claims2 lines ∙ rw (lines_same claims claims2 lines line_kept, held.lines, newest_line) (sym all_lines)

        old_lines : (a : ℕ) → a < most_trades → trade_lines claims2 a (many_of claims a) ≡ of_trade a (lines_of h past past)
        old_lines a ha =
            trade_lines_same claims claims2 a (many_of claims a)
            (λ i hi. let same : number_at claims2 a i ≡ number_at claims a i =
            f.number_other a i ha (omega (arith, fi.few_lines a ha)) (λ p q. let z : many_of claims a ≡ many_of claims m = ap (many_of claims) p in omega arith) in
            ap (line_in claims2) same ∙ line_kept (number_at claims a i) (fi.earlier a i ha hi))
            ∙ held.by_trade a ha

        by_trade_after : (a : ℕ) → a < most_trades → trade_lines claims2 a (many_of claims2 a) ≡ of_trade a (lines_of h (e ∷ past) (e ∷ past))
        by_trade_after a ha =
            rw (all_lines, of_trade_more a (lines_of h past past) (line_of h (e ∷ past) past lines e))
            (by_test (eqb (field e 0) a)
            (λ q. let z : a ≡ m = sym (eqb-true (field e 0) a q) ∙ names_trade in
            in_its_trade h (e ∷ past) past lines e a (of_trade a (lines_of h past past)) (trade_lines claims2 a (many_of claims2 a)) (rw z (its_lines z)) q)
            (λ q. let ne : a ≡ m → ⊥ = λ z. eqb-false (field e 0) a q (names_trade ∙ sym z) in
            in_another h (e ∷ past) past lines e a (of_trade a (lines_of h past past)) (trade_lines claims2 a (many_of claims2 a)) (rw (f.many_other a ne) (old_lines a ha)) q))
          where
            its_lines : a ≡ m → trade_lines claims2 m (many_of claims2 m) ≡ of_trade m (lines_of h past past) ++ (line_of h (e ∷ past) past lines e ∷ [])
            its_lines z =
                rw f.many_here (trade_lines_more claims2 m (many_of claims m) ∙ rw (old_lines m trade_low, f.number_here, newest_line))

        sums_after : (a : ℕ) → a < most_trades → sum_of claims2 a ≡ sum (claims_of (of_trade a (lines_of h (e ∷ past) (e ∷ past))))
        sums_after a ha =
            rw (all_lines, sum_more a (lines_of h past past) (line_of h (e ∷ past) past lines e))
            (by_test (eqb (field e 0) a)
            (λ q. let z : a ≡ m = sym (eqb-true (field e 0) a q) ∙ names_trade in
            line_words_lem h (e ∷ past) past lines e a _ _ (rw z (f.sum_here ∙ rw (held.sums m trade_low, due_is))) q)
            (λ q. other_line h (e ∷ past) past lines e a _ _ (f.sum_other a (λ z. eqb-false (field e 0) a q (names_trade ∙ sym z)) ∙ held.sums a ha) q))

        lined_after : Lined h (e ∷ past) claims2 (lines + 1)
        lined_after =
            record {
              numbered = omega (arith, held.numbered, count_cons is_satisfaction e past (eq-eqb e.kind satisfaction_kind sat));
              lines = lines_after;
              by_trade = by_trade_after;
              sums = sums_after;
              told = told_after;
              again =
                  λ a y ha hy. f.behind (again_word a y) (omega arith) ∙ held.again a y ha hy
                  ∙ ap again_at (sym (none_taken_back a (y + 1) e past (ne_eqb e.kind cancellation_kind (λ q. omega (arith, sat)))));
            }

      pub order_taken : ClaimsStep r home exchanges close trades shown traded claims lines claims2 (lines + 1)
      order_taken = record { filing = filing_after; so = lined_after }

  -- the same, of a reason found and then stored
  module _ (again : ℕ) (eg : again ≡ get_or claims (again_word m (x - 1)) 0) (k : Facts) (ek : k ≡ facts_of trades shown m (x - 1) home close (word r 2) r.time again) (found : Option Reason) (ef : stored_as found ≡ reason_of k) (why : ℕ) (es : why ≡ stored_as found)
      (due : ℕ) (ed : due ≡ claim_of why (word r 3) k.customers (get_or trades (m * 8 + 1) 0) (get_or trades (m * 8 + 7) 0)) where
    pub order_fileable : Fileable claims (word r 0 ∷ word r 3 ∷ why ∷ k.customers ∷ due ∷ word r 1 ∷ word r 2 ∷ r.time ∷ []) lines m
    order_fileable = order_fits again eg k ek why (es ∙ ef) due ed

    module _ (claims2 : List ℕ) (f : Filed claims claims2 (word r 0 ∷ word r 3 ∷ why ∷ k.customers ∷ due ∷ word r 1 ∷ word r 2 ∷ r.time ∷ []) lines m) where
      pub order_filed : ClaimsStep r home exchanges close trades shown traded claims lines claims2 (lines + 1)
      order_filed = order_taken again eg k ek why (es ∙ ef) due ed claims2 f

pub no_order : (r : Rec) (home exchanges close : ℕ) (trades shown : List ℕ) (traded : ℕ) (claims : List ℕ) (lines : ℕ) → Filing claims lines
    → (r.kind ≡ satisfaction_kind → ⊥) → (r.kind ≡ naming_kind → ⊥) → (r.kind ≡ cancellation_kind → ⊥) → ClaimsStep r home exchanges close trades shown traded claims lines claims lines
no_order r home exchanges close trades shown traded claims lines fi ns nn nc =
    record {
      filing = fi;
      so = λ h sizes e past arrived is ec rd tv held. lines_alone h past claims lines e (λ z. ns (sym rd.kind ∙ z)) (λ z. nn (sym rd.kind ∙ z)) (λ z. nc (sym rd.kind ∙ z)) held;
    }

-- a record that the reader has passed, and 7 and 8
pub record_placed : (exchanges home : ℕ) (r : Rec) (claims : List ℕ) (traded lines : ℕ) → RecOk exchanges home r
    → (r.kind ≡ satisfaction_kind → word r 0 < traded) → (r.kind ≡ satisfaction_kind → many_of claims (word r 0) < most_trade_lines)
    → (r.kind ≡ satisfaction_kind → lines < most_satisfaction_orders) → (r.kind ≡ naming_kind → word r 0 < lines) → (r.kind ≡ naming_kind → Cancellable claims (word r 0))
    → (r.kind ≡ cancellation_kind → word r 0 < lines) → FitsClaims r claims traded exchanges lines
record_placed exchanges home r claims traded lines ok known left room order cancellable withdrawn =
    record {
      fields = λ k. let g = ok.satisfaction k in
          record {
            sender =
                record {
                  from_one = g.sender.from_one;
                  to_n = g.sender.to_n;
                  not_home = λ z. omega (arith, g.sender.from_one);
                };
            price = g.price;
            price_from_one = g.price_from_one;
            size = g.size;
            size_from_one = g.size_from_one;
          };
      trade = known;
      first = left;
      room = room;
      order = order;
      cancellable = cancellable;
      withdrawn = withdrawn;
      time = ok.time;
    }

pub ruleset line_laws = (line_filed, trade_known, trade_word_known, again_word_known, sender_from_one, sender_known, order_filed, no_order)
