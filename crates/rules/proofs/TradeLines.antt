-- The lines of one trade: at most two for each exchange but home, so at most as many as a trade's table of lines has room for.
use mathlib.Core.Path.{◌≡◌, refl, sym, ◌∙◌, subst}
use mathlib.Core.Bool.{true, false, not, ◌&&◌, true≢false, and-false}
use mathlib.Core.List.{List, [], ◌∷◌, ◌++◌, append-nil}
use Prim.Native.Nat.{ℕ, zero, suc, ◌+◌, ◌-◌, ◌*◌, ◌≤◌, ◌<◌}
use native.Mathlib.Omega.{arith}
use lib.ListN.{length, length-append}
use borrow.Author.Tests.{leb-true, eqb-true, eqb-false, eq-eqb, ne_eqb}
use Rattle.std.specs.Prelude.{if◌then◌else◌, ◌==◌}
use Rattle.rules.specs.Basics.{◌at_most◌, within, keep}
use Rattle.rules.specs.Header.{Header}
use Rattle.rules.specs.Record.{Event, another_exchange, fits, fit_all, fields_among, fields_of, field, satisfaction, is_satisfaction, satisfaction_kind}
use Rattle.rules.specs.Journal.{History, count, claims_for}
use Rattle.rules.specs.Due.{Line, line_of, lines_of, of_trade}
use Rattle.rules.proofs.Tests.{by_test, and_left, and_right, keep_append}
use Rattle.rules.proofs.Histories.{count_cons, count_skip}
use Rattle.rules.proofs.Records.{InRange}
use Rattle.rules.proofs.Journals.{Arrived, none, more}
use Rattle.rules.proofs.Lines.{fits_at}
use Rattle.rules.proofs.Claims.{claims_for_lem, two_claims_at_most}

-- how many each of the first k exchanges sent for trade n, added up
sent_by_all : ℕ → History → ℕ → ℕ
sent_by_all n past zero = 0
sent_by_all n past (suc k) = count (claims_for n (suc k)) past + sent_by_all n past k

-- ---- what is known of a Satisfaction Order of an accepted journal

sender_fits : (h : Header) (e : Event) → InRange h e → is_satisfaction e ≡ true → fits h (another_exchange h) (field e 1) ≡ true
unfolding fields_of fields_among
sender_fits h e i s =
    let k = eqb-true e.kind satisfaction_kind s in
    fits_at h (fields_of h satisfaction_kind) e.fields (subst (λ (n : ℕ). fit_all h (fields_of h n) e.fields ≡ true) k i.fields_fit) 1 (omega arith)

sender_in : (h : Header) (e : Event) → InRange h e → is_satisfaction e ≡ true → (1 ≤ (satisfaction e).sender) × ((satisfaction e).sender ≤ h.exchanges)
sender_in h e i s =
    let w = and_left (within 1 h.exchanges (field e 1)) _ (sender_fits h e i s) in
    (leb-true _ _ (and_left (1 at_most field e 1) _ w), leb-true _ _ (and_right (1 at_most field e 1) _ w))

sender_away : (h : Header) (e : Event) → InRange h e → is_satisfaction e ≡ true → (satisfaction e).sender ≡ h.home → ⊥
sender_away h e i s q =
    let u = and_right (within 1 h.exchanges (field e 1)) _ (sender_fits h e i s) in
    true≢false (sym u ∙ not_home)
  where
    not_home : not (field e 1 == h.home) ≡ false
    not_home = rw (eq-eqb (field e 1) h.home q)

-- ---- what one more event adds

claims_for_other : (n x : ℕ) (e : Event) → ((satisfaction e).sender ≡ suc x → ⊥) → claims_for n (suc x) e ≡ false
unfolding claims_for
claims_for_other n x e h = rw (ne_eqb (satisfaction e).sender (suc x) h) (and-false (is_satisfaction e && (satisfaction e).trade == n))

claims_for_trade : (n x : ℕ) (e : Event) → (is_satisfaction e && (satisfaction e).trade == n) ≡ false → claims_for n (suc x) e ≡ false
unfolding claims_for
claims_for_trade n x e h = rw h

all_kept : (n : ℕ) (e : Event) (past : History) (k : ℕ) → ((x : ℕ) → x < k → claims_for n (suc x) e ≡ false) → sent_by_all n (e ∷ past) k ≡ sent_by_all n past k
unfolding sent_by_all
all_kept n e past zero f = refl
all_kept n e past (suc k) f = rw (count_skip (claims_for n (suc k)) e past (f k (omega arith)), all_kept n e past k (λ x h. f x (omega arith)))

all_one_more : (n : ℕ) (e : Event) (past : History) (y k : ℕ) → (satisfaction e).sender ≡ suc y → y < k → claims_for n (suc y) e ≡ true → sent_by_all n (e ∷ past) k ≡ suc (sent_by_all n past k)
unfolding sent_by_all
all_one_more n e past y zero q l t = absurd (omega arith)
all_one_more n e past y (suc k) q l t =
    by_test (y == k)
    (λ z. let z' = eqb-true y k z in
    rw (← z', count_cons (claims_for n (suc y)) e past t, all_kept n e past y (λ x h. claims_for_other n x e (λ r. omega arith))) (omega arith))
    (λ z. let z' : y ≡ k → ⊥ = eqb-false y k z in
    let ih = all_one_more n e past y k q (omega arith) t in
    rw (count_skip (claims_for n (suc k)) e past (claims_for_other n k e (λ r. z' (omega arith))), ih) (omega arith))

-- ---- the lines of a trade are counted by the exchanges that sent them

none_sent : (n k : ℕ) → 0 ≡ sent_by_all n [] k
unfolding sent_by_all count keep
none_sent n zero = refl
none_sent n (suc k) = rw (← none_sent n k)

one_more_line : (n : ℕ) (ls : List Line) (l : Line) → length (of_trade n (ls ++ (l ∷ []))) ≡ length (of_trade n ls) + (if l.trade == n then 1 else 0)
unfolding of_trade
one_more_line n ls l = rw (keep_append (λ (x : Line). x.trade == n) ls (l ∷ []), length-append (keep (λ (x : Line). x.trade == n) ls) (keep (λ (x : Line). x.trade == n) (l ∷ []))) (unfold keep in by_test (l.trade == n) (λ e. rw e) (λ e. rw e))

predecessor : (x : ℕ) → 1 ≤ x → (y : ℕ) × (x ≡ suc y)
predecessor zero h = absurd (omega arith)
predecessor (suc y) h = (y, refl)

-- a line's trade is its Satisfaction Order's
trade_of_line : (h : Header) (day past : History) (n : ℕ) (e : Event) → (line_of h day past n e).trade ≡ (satisfaction e).trade
unfolding line_of
trade_of_line h day past n e = refl

lines_by_exchange : {h : Header} {past : History} → Arrived h past → (day : History) (n : ℕ) → length (of_trade n (lines_of h day past)) ≡ sent_by_all n past h.exchanges
unfolding lines_of
lines_by_exchange {h} none day n = unfold of_trade keep in none_sent n h.exchanges
lines_by_exchange {h} (more {past} {e} v i b r) day n =
    let ih = lines_by_exchange v day n in
    by_test (is_satisfaction e)
    (λ s.
    let l : Line = line_of h day past (count is_satisfaction past) e in
    let long = one_more_line n (lines_of h day past) l in
    let p = sender_in h e i s in
    let y = predecessor (satisfaction e).sender p.0 in
    by_test ((satisfaction e).trade == n)
    (λ t. rw (s, long, trade_of_line h day past (count is_satisfaction past) e, t, ih, all_one_more n e past y.0 h.exchanges y.1 (omega (arith, p.1, y.1)) (unfold claims_for in rw (s, t, eq-eqb _ _ y.1))) (omega arith))
    (λ t. rw (s, long, trade_of_line h day past (count is_satisfaction past) e, t, ih, all_kept n e past h.exchanges (λ x k. claims_for_trade n x e (rw (s, t)))) (omega arith)))
    (λ s. rw (s, append-nil (lines_of h day past), ih, all_kept n e past h.exchanges (λ x k. claims_for_trade n x e (rw s))))

-- ---- how many they are

-- home sends none
none_from_home : {h : Header} {past : History} → Arrived h past → (n x : ℕ) → suc x ≡ h.home → count (claims_for n (suc x)) past ≡ 0
none_from_home none n x q = unfold count keep in refl
none_from_home {h} (more {past} {e} v i b r) n x q =
    let other : claims_for n (suc x) e ≡ false =
    by_test (claims_for n (suc x) e)
    (λ t. let c = claims_for_lem n (suc x) e t in absurd (sender_away h e i c.is_satisfaction_lem (c.from_exchange ∙ q)))
    (λ t. t) in
    count_skip (claims_for n (suc x)) e past other ∙ none_from_home v n x q

-- the first k exchanges sent at most two each, and home none
two_each : {h : Header} {past : History} → Arrived h past → (n k : ℕ) → sent_by_all n past k ≤ 2 * k
unfolding sent_by_all
two_each v n zero = omega arith
two_each v n (suc k) = let more = two_each v n k in omega (arith, two_claims_at_most v n (suc k))

two_each_but_home : {h : Header} {past : History} → Arrived h past → (n k : ℕ) → 1 ≤ h.home → h.home ≤ k → sent_by_all n past k + 2 ≤ 2 * k
unfolding sent_by_all
two_each_but_home v n zero from to = absurd (omega arith)
two_each_but_home {h} v n (suc k) from to =
    by_test (h.home == suc k)
    (λ t. let here = none_from_home v n k (sym (eqb-true _ _ t)) in omega (arith, two_each v n k))
    (λ t. let ne : h.home ≡ suc k → ⊥ = eqb-false _ _ t in omega (arith, two_each_but_home v n k from (omega arith), two_claims_at_most v n (suc k)))

-- two for each exchange but home
pub trade_has_at_most_two_lines_for_each_other : {h : Header} {past : History} → Arrived h past → 1 ≤ h.home → h.home ≤ h.exchanges → (day : History) (n : ℕ)
    → length (of_trade n (lines_of h day past)) ≤ 2 * (h.exchanges - 1)
trade_has_at_most_two_lines_for_each_other {h} v from to day n =
    rw (lines_by_exchange v day n) (omega (arith, two_each_but_home v n h.exchanges from to))
