-- Document 02, b: a record that cancels a Satisfaction Order and names the initiator moves the line of that order alone, and only if it
-- came in time; a late one moves none. An order is cancelled at most once. So a journal without such a record keeps every verdict it had.
use mathlib.Core.Path.{◌≡◌, refl, sym, ap, ◌∙◌}
use mathlib.Core.Bool.{Bool, true, false, not, ◌&&◌, ◌||◌, false≢true, and-false}
use mathlib.Core.List.Memᴰ
use mathlib.Core.List.{List, [], ◌∷◌, map, map-append, map-id, append-nil, Memᴰ}
use Prim.Native.Nat.{ℕ, ◌+◌, ◌<◌}
use native.Mathlib.Omega.{arith}
use borrow.Author.Tests.{eqb-true, ne_eqb, not-true, ltb-true, lt-leb}
use Rattle.std.specs.Prelude.{if◌then◌else◌, ◌==◌}
use Rattle.rules.specs.Basics.{within, ◌more_than◌, all, any, keep, Row, ◌when◌, first_of}
use Rattle.rules.specs.Header.{Header}
use Rattle.rules.specs.Record.{Event, response_kind, satisfaction_kind, naming_kind, trade, satisfaction, trade_kind, is_trade, is_satisfaction, is_naming, naming}
use Rattle.rules.specs.Journal.{History, count, trade_at, satisfaction_at, names, cancels, naming_belongs, belongs}
use Rattle.rules.specs.Reasons.{Case, case_of, sender_quote, sender_side, customers, minutes_from, sent_again_after, again_late, names_in_time, required, reason_rows, reason}
use Rattle.rules.specs.Due.{least_of_three, claim, Line, line_of, lines_of, lines, of_trade, due}
use Rattle.rules.proofs.Tests.{by_test, and_left, and_right, or_left, or_right, map_same, keep_map_same, at_end, facts}
use Rattle.rules.proofs.Histories.{trade_at_skip, before_trade_skip, satisfaction_at_older, satisfaction_at_new}
use Rattle.rules.proofs.Lines.{first_of_among, LineKnown, numbered_below}

-- ---- "judged after 9 and before 11"

-- no reason, or one that is judged after 14
abbrev pub gives_way : ℕ → Bool
gives_way why = why == 0 || within 11 13 why

-- the reason on an order that is cancelled in time, by the one that it would else have
abbrev pub named : ℕ → ℕ
named why = if gives_way why then 14 else why

-- a table where row 14 holds
naming_holds : List Row → List Row
naming_holds [] = []
naming_holds (r ∷ rows) = (if r.number == 14 then 14 when true else r) ∷ naming_holds rows

-- row 14 stands behind all rows that do not give way to it, and before all that do
in_place : List Row → Bool
in_place [] = false
in_place (r ∷ rows) =
    if r.number == 14 then all (λ (s : Row). gives_way s.number) rows else not (gives_way r.number) && in_place rows

first_of_named : (rows : List Row) → in_place rows ≡ true → first_of (naming_holds rows) ≡ named (first_of rows)
unfolding first_of naming_holds in_place
first_of_named [] e = absurd (false≢true e)
first_of_named (r ∷ rows) e =
    by_test (r.number == 14)
    (λ t.
    let behind : gives_way (first_of rows) ≡ true = first_of_among gives_way refl rows (rw t at e) in
    by_test r.holds (λ s. rw (t, s) (sym (ap named (eqb-true r.number 14 t)))) (λ s. rw (t, s, behind)))
    (λ t.
    let both : (not (gives_way r.number) && in_place rows) ≡ true = rw t at e in
    let stays : gives_way r.number ≡ false = not-true _ (and_left (not (gives_way r.number)) (in_place rows) both) in
    by_test r.holds
    (λ s. rw (t, s, stays))
    (λ s. rw (t, s) (first_of_named rows (and_right (not (gives_way r.number)) (in_place rows) both))))

-- ---- one record more, and one line: the Satisfaction Order e, numbered n, after the history before it

abbrev pub cancelled : Line → Line
cancelled l =
    record {
      number = l.number;
      trade = l.trade;
      size = l.size;
      reason = named l.reason;
      customers = l.customers;
      claim = 0;
    }

module _ (h : Header) (x : Event) (day past : History) (n : ℕ) (e : Event) where
  reason_kept : names_in_time h n e x ≡ false → reason h (case_of (x ∷ day) past n e) ≡ reason h (case_of day past n e)
  unfolding reason case_of any sender_side sender_quote required customers sent_again_after again_late
  reason_kept p = rw p

  reason_named : names_in_time h n e x ≡ true → reason h (case_of (x ∷ day) past n e) ≡ named (reason h (case_of day past n e))
  unfolding reason case_of any sender_side sender_quote required customers sent_again_after again_late naming_holds in_place all
  reason_named p = rw p (first_of_named _ refl)

  pub line_kept : names_in_time h n e x ≡ false → line_of h (x ∷ day) past n e ≡ line_of h day past n e
  unfolding line_of claim
  line_kept p = rw (reason_kept p) (unfold case_of customers sender_quote sender_side least_of_three in refl)

  pub line_named : names_in_time h n e x ≡ true → line_of h (x ∷ day) past n e ≡ cancelled (line_of h day past n e)
  unfolding line_of claim
  line_named p =
      let why : ℕ = reason h (case_of day past n e) in
      rw (reason_named p)
      (unfold case_of customers sender_quote sender_side least_of_three in
      by_test (gives_way why) (λ t. rw t) (λ t. rw (t, or_left (why == 0) (within 11 13 why) t)))

-- ---- one record more, and all lines

-- a line after the record x, where the orders are those of `past`
abbrev pub after_naming : Header → Event → History → Line → Line
after_naming h x past l = if names_in_time h l.number (satisfaction_at l.number past) x then cancelled l else l

after_one_more : (h : Header) (x e : Event) (past : History) (l : Line) → l.number < count is_satisfaction past
    → after_naming h x (e ∷ past) l ≡ after_naming h x past l
after_one_more h x e past l older = rw (satisfaction_at_older l.number e past older)

line_after : (h : Header) (x : Event) (day past : History) (e : Event) → is_satisfaction e ≡ true
    → let n = count is_satisfaction past in line_of h (x ∷ day) past n e ≡ after_naming h x (e ∷ past) (line_of h day past n e)
unfolding line_of
line_after h x day past e s =
    let n : ℕ = count is_satisfaction past in
    rw (satisfaction_at_new n e past s refl)
    (by_test (names_in_time h n e x) (λ t. rw t (line_named h x day past n e t)) (λ t. rw t (line_kept h x day past n e t)))

pub lines_after : (h : Header) (x : Event) (day past : History) → lines_of h (x ∷ day) past ≡ map (after_naming h x past) (lines_of h day past)
unfolding lines_of
lines_after h x day [] = refl
lines_after h x day (e ∷ past) =
    let older : map (after_naming h x past) (lines_of h day past) ≡ map (after_naming h x (e ∷ past)) (lines_of h day past) =
    map_same _ _ (lines_of h day past) (λ l m. sym (after_one_more h x e past l (numbered_below h day past l m))) in
    let ih : lines_of h (x ∷ day) past ≡ map (after_naming h x (e ∷ past)) (lines_of h day past) = lines_after h x day past ∙ older in
    by_test (is_satisfaction e)
    (λ s. rw (s, map-append (after_naming h x (e ∷ past)) (lines_of h day past) (line_of h day past (count is_satisfaction past) e ∷ []), ih, line_after h x day past e s))
    (λ s. rw (s, append-nil (lines_of h (x ∷ day) past), append-nil (lines_of h day past), ih))

-- no record of another kind moves a line
pub lines_kept : (h : Header) (x : Event) (day past : History) → is_naming x ≡ false → lines_of h (x ∷ day) past ≡ lines_of h day past
lines_kept h x day past p =
    lines_after h x day past
    ∙ map_same (after_naming h x past) (λ l. l) (lines_of h day past) (λ l m. unfold names_in_time names in rw p)
    ∙ map-id (lines_of h day past)

-- "A journal without the record keeps every verdict it had": each order is judged by what came before it alone, as if the day
-- ended there.
pub lines_without_naming : (h : Header) (day past : History) → any is_naming day ≡ false → lines_of h day past ≡ lines_of h [] past
unfolding any
lines_without_naming h [] past p = refl
lines_without_naming h (x ∷ day) past p =
    lines_kept h x day past (or_left (is_naming x) (any is_naming day) p) ∙ lines_without_naming h day past (or_right (is_naming x) (any is_naming day) p)

-- an order that nothing cancels is not cancelled in time
pub not_cancelled_in_time : (h : Header) (n : ℕ) (c : Event) (day : History) → any (names n) day ≡ false → any (names_in_time h n c) day ≡ false
unfolding any names_in_time
not_cancelled_in_time h n c [] p = refl
not_cancelled_in_time h n c (x ∷ day) p =
    rw (or_left (names n x) (any (names n) day) p) (not_cancelled_in_time h n c day (or_right (names n x) (any (names n) day) p))

nothing_cancelled : (n : ℕ) (day : History) → any is_naming day ≡ false → any (names n) day ≡ false
unfolding any names
nothing_cancelled n [] p = refl
nothing_cancelled n (x ∷ day) p = rw (or_left (is_naming x) (any is_naming day) p) (nothing_cancelled n day (or_right (is_naming x) (any is_naming day) p))

-- the table but for the rows of one number
abbrev pub rows_but : ℕ → List Row → List Row
rows_but n rows = keep (λ (r : Row). not (r.number == n)) rows

-- a row that does not hold may be left out
pub first_of_but : (n : ℕ) (rows : List Row) → all (λ (r : Row). not (r.number == n && r.holds)) rows ≡ true → first_of rows ≡ first_of (rows_but n rows)
unfolding first_of keep all
first_of_but n [] e = refl
first_of_but n (r ∷ rows) e =
    let ih = first_of_but n rows (and_right (not (r.number == n && r.holds)) (all (λ (s : Row). not (s.number == n && s.holds)) rows) e) in
    by_test (r.number == n)
    (λ t. by_test r.holds (λ s. absurd (false≢true (rw (t, s) at e))) (λ s. rw (t, s) ih))
    (λ t. by_test r.holds (λ s. rw (t, s)) (λ s. rw (t, s) ih))

-- and the reason on each is the first that holds of the other rows
pub reason_without_naming : (h : Header) (k : Case) → any is_naming k.day ≡ false → reason h k ≡ first_of (rows_but 14 (reason_rows h k))
unfolding reason all
reason_without_naming h k p =
    first_of_but 14 (reason_rows h k) (rw (not_cancelled_in_time h k.number k.claim k.day (nothing_cancelled k.number k.day p)))

-- ---- what belongs: the order is known, its trade has the initiator that is named, and nothing has cancelled it

pub record NamingKnown (past : History) (x : Event) : Type 0 where
  pub order_known : (naming x).order < count is_satisfaction past
  pub names_the_initiator : (naming x).named ≡ (trade (trade_at (satisfaction (satisfaction_at (naming x).order past)).trade past)).initiator
  pub has_an_initiator : (trade (trade_at (satisfaction (satisfaction_at (naming x).order past)).trade past)).initiator ≡ 0 → ⊥
  pub not_cancelled : any (cancels (naming x).order) past ≡ false

pub naming_known : (h : Header) (past : History) (x : Event) → belongs h past x ≡ true → is_naming x ≡ true → NamingKnown past x
unfolding belongs naming_belongs
naming_known h past x b s =
    let k = eqb-true x.kind naming_kind s in
    let other : (n : ℕ) → (n ≡ naming_kind → ⊥) → (x.kind == n) ≡ false = λ n ne. ne_eqb x.kind n (λ q. ne (sym q ∙ k)) in
    let t = simp (other response_kind (λ q. omega arith), other satisfaction_kind (λ q. omega arith), s, facts) at b in
    record {
      order_known = t.0.0.0;
      names_the_initiator = t.0.1;
      has_an_initiator = t.0.0.1;
      not_cancelled = not-true _ t.1;
    }

-- ---- what such a record moves of a journal

-- the line of an order is for its trade
line_of_its_trade : (h : Header) (day past : History) (l : Line) → Memᴰ l (lines_of h day past)
    → l.trade ≡ (satisfaction (satisfaction_at l.number past)).trade
unfolding lines_of
line_of_its_trade h day [] l m = absurd (Memᴰ.not-nil m)
line_of_its_trade h day (e ∷ past) l m =
    at_end (λ y. y.trade ≡ (satisfaction (satisfaction_at y.number (e ∷ past))).trade) (lines_of h day past) (is_satisfaction e) (line_of h day past (count is_satisfaction past) e)
    (λ y k. rw (satisfaction_at_older y.number e past (numbered_below h day past y k)) (line_of_its_trade h day past y k))
    (λ s. unfold line_of in rw (satisfaction_at_new (count is_satisfaction past) e past s refl))
    l m

module _ (h : Header) (past : History) (x : Event) where
  -- of an order that is not named by it
  pub line_of_another_order_stays : (l : Line) → ((naming x).order ≡ l.number → ⊥) → after_naming h x past l ≡ l
  unfolding names_in_time names
  line_of_another_order_stays l ne = rw (ne_eqb (naming x).order l.number ne, and-false (is_naming x))

  -- "a late one cancels and changes nothing"
  pub late_naming_moves_no_line : (l : Line) → let received = (satisfaction_at l.number past).time in
      x.time more_than (received + minutes_from h received) ≡ true → after_naming h x past l ≡ l
  unfolding names_in_time
  late_naming_moves_no_line l late = rw (lt-leb _ _ (ltb-true _ _ late), and-false (names l.number x))

  -- a reason judged before 14 stays, and has no claim to lose
  pub earlier_reason_stays : (l : Line) → LineKnown h past l → gives_way l.reason ≡ false → after_naming h x past l ≡ l
  earlier_reason_stays l k stays =
      by_test (names_in_time h l.number (satisfaction_at l.number past) x)
      (λ t. rw (t, stays, k.unclaimed (or_left (l.reason == 0) (within 11 13 l.reason) stays)))
      (λ t. rw t)

-- the trade of a line stays, whatever comes
after_naming_of_its_trade : (h : Header) (x : Event) (past : History) (l : Line) → (after_naming h x past l).trade ≡ l.trade
after_naming_of_its_trade h x past l = by_test (names_in_time h l.number (satisfaction_at l.number past) x) (λ t. rw t) (λ t. rw t)

-- a journal, and the same with such a record behind it
module _ (h : Header) (past : History) (x : Event) (comes : is_naming x ≡ true) where
  another_kind : (n : ℕ) → (n ≡ naming_kind → ⊥) → (x.kind == n) ≡ false
  another_kind n ne = ne_eqb x.kind n (λ q. ne (sym q ∙ eqb-true x.kind naming_kind comes))

  pub naming_moves_lines : lines (record { header = h; history = x ∷ past }) ≡ map (after_naming h x past) (lines (record { header = h; history = past }))
  unfolding lines lines_of
  naming_moves_lines =
      rw (another_kind satisfaction_kind (λ q. omega arith), append-nil (lines_of h (x ∷ past) past)) (lines_after h x past past)

  lines_of_another_trade_stay : (n : ℕ) → ((satisfaction (satisfaction_at (naming x).order past)).trade ≡ n → ⊥)
      → of_trade n (lines (record { header = h; history = x ∷ past })) ≡ of_trade n (lines (record { header = h; history = past }))
  unfolding of_trade lines
  lines_of_another_trade_stay n ne =
      let same_trade : (l : Line) → Memᴰ l (lines_of h past past) → ((after_naming h x past l).trade == n) ≡ (l.trade == n) =
      λ l m. ap (λ (k : ℕ). k == n) (after_naming_of_its_trade h x past l) in
      let same_line : (l : Line) → Memᴰ l (lines_of h past past) → (l.trade == n) ≡ true → after_naming h x past l ≡ l =
      λ l m t. line_of_another_order_stays h past x l
      (λ q. ne (ap (λ (k : ℕ). (satisfaction (satisfaction_at k past)).trade) q ∙ sym (line_of_its_trade h past past l m) ∙ eqb-true l.trade n t)) in
      rw naming_moves_lines (keep_map_same (λ (l : Line). l.trade == n) (after_naming h x past) (lines_of h past past) same_trade same_line)

  -- of due totals it moves at most that of its order's trade
  pub due_of_another_trade_stays : (n : ℕ) → ((satisfaction (satisfaction_at (naming x).order past)).trade ≡ n → ⊥)
      → due (record { header = h; history = x ∷ past }) n ≡ due (record { header = h; history = past }) n
  unfolding due
  due_of_another_trade_stays n ne =
      let not_a_trade : (is_trade x && count is_trade past == n) ≡ false = rw (another_kind trade_kind (λ q. omega arith)) in
      rw (trade_at_skip n x past not_a_trade, before_trade_skip n x past not_a_trade, lines_of_another_trade_stay n ne)
