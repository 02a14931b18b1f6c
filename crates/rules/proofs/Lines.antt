-- The lines of a journal: their numbers, their trades, their reasons and claims, and what these are at most.
use mathlib.Core.Path.{◌≡◌, refl, sym, ap, ◌∙◌, subst}
use mathlib.Core.Bool.{Bool, true, false, ◌||◌, false≢true}
use mathlib.Core.List.Memᴰ
use mathlib.Core.List.{List, [], ◌∷◌, ◌++◌, append-nil, Memᴰ}
use Prim.Native.Nat.{ℕ, zero, suc, ◌≤◌, ◌<◌}
use native.Mathlib.Omega.{arith}
use lib.ListN.{length, get_or, length-append, get_or-append}
use lib.Seq.{get_or_at}
use borrow.Author.Tests.{leb-true, ltb-true, ltb-false, eqb-true, ne_eqb}
use Rattle.std.specs.Prelude.{if◌then◌else◌, ◌==◌}
use Rattle.rules.specs.Basics.{◌at_most◌, ◌less_than◌, within, all, keep, sum, Row, first_of, ok}
use Rattle.rules.specs.Limits.{most_contracts}
use Rattle.rules.specs.Header.{Header}
use Rattle.rules.specs.Record.{Event, Field, contracts, fits, fit_all, fields_among, fields_of, field, trade, satisfaction, is_trade, is_response, is_satisfaction, satisfaction_kind}
use Rattle.rules.specs.Journal.{History, count, closing_begun, satisfaction_belongs, belongs, Journal, journal}
use Rattle.rules.specs.Reasons.{Case, case_of, customers, reason}
use Rattle.rules.specs.Due.{limited, least_of_three, claim, Line, line_of, lines_of, lines, of_trade, claims_of, due_of, due}
use Rattle.rules.proofs.Tests.{by_test, and_left, and_right, at_end, keep_sub, facts}
use Rattle.rules.proofs.Histories.{count_cons, count_skip, count_grows}
use Rattle.rules.proofs.Records.{InRange}
use Rattle.rules.proofs.Journals.{Arrived, none, more, journal_arrived}

-- ---- reasons

pub first_of_among : (good : ℕ → Bool) → good 0 ≡ true → (rows : List Row) → all (λ r. good r.number) rows ≡ true → good (first_of rows) ≡ true
unfolding first_of all
first_of_among good z [] e = z
first_of_among good z (r ∷ rows) e =
    by_test r.holds
    (λ t. rw t (and_left (good r.number) (all (λ s. good s.number) rows) e))
    (λ t. rw t (first_of_among good z rows (and_right (good r.number) (all (λ s. good s.number) rows) e)))

abbrev pub is_reason : ℕ → Bool
is_reason n = n == 0 || within 2 15 n

pub reason_among : (h : Header) (k : Case) → is_reason (reason h k) ≡ true
unfolding reason all
reason_among h k = first_of_among is_reason refl _ refl

pub reason_at_most_15 : (h : Header) (k : Case) → reason h k ≤ 15
unfolding reason all
reason_at_most_15 h k = leb-true _ _ (first_of_among (λ n. n at_most 15) refl _ refl)

-- ---- claims: "the least of order size, customer contracts and trade size"

pub limited_at_most : (closing : Bool) (n : ℕ) → limited closing n ≤ n
unfolding limited
limited_at_most true n = omega arith
limited_at_most false n = omega arith

pub record ClaimWithin (h : Header) (k : Case) : Type 0 where
  pub order_size : claim h k ≤ (satisfaction k.claim).size
  pub customer_contracts : claim h k ≤ customers k
  pub trade_size : claim h k ≤ (trade k.trade).size

pub claim_at_most : (h : Header) (k : Case) → ClaimWithin h k
unfolding claim least_of_three
claim_at_most h k =
    let least = limited_at_most (closing_begun k.before) (least_of_three k) in
    by_test (reason h k == 0)
    (λ r. record { order_size = rw r (omega (arith, least)); customer_contracts = rw r (omega (arith, least)); trade_size = rw r (omega (arith, least)) })
    (λ r. record { order_size = rw r (omega arith); customer_contracts = rw r (omega arith); trade_size = rw r (omega arith) })

pub no_claim_with_a_reason : (h : Header) (k : Case) → (reason h k == 0) ≡ false → claim h k ≡ 0
unfolding claim
no_claim_with_a_reason h k e = rw e

-- ---- a number that fits its field, by its place

pub fits_at : (h : Header) (fs : List Field) (ns : List ℕ) → fit_all h fs ns ≡ true → (i : ℕ) → i < length fs → fits h (get_or fs i contracts) (get_or ns i 0) ≡ true
unfolding fit_all
fits_at h [] ns e i l = absurd (omega arith)
fits_at h (f ∷ fs) [] e i l = absurd (false≢true e)
fits_at h (f ∷ fs) (n ∷ ns) e zero l = and_left (fits h f n) (fit_all h fs ns) e
fits_at h (f ∷ fs) (n ∷ ns) e (suc i) l = fits_at h fs ns (and_right (fits h f n) (fit_all h fs ns) e) i (omega arith)

satisfaction_fits : (h : Header) (e : Event) → InRange h e → is_satisfaction e ≡ true → (satisfaction e).size ≤ most_contracts
unfolding fields_of fields_among
satisfaction_fits h e i s =
    let k = eqb-true e.kind satisfaction_kind s in
    let t = fits_at h (fields_of h satisfaction_kind) e.fields (subst (λ (n : ℕ). fit_all h (fields_of h n) e.fields ≡ true) k i.fields_fit) 3 (omega arith) in
    leb-true _ _ (and_right (1 at_most field e 3) _ (and_left (within 1 most_contracts (field e 3)) _ t))

pub satisfaction_known : (h : Header) (past : History) (e : Event) → belongs h past e ≡ true → is_satisfaction e ≡ true → (satisfaction e).trade < count is_trade past
unfolding belongs satisfaction_belongs
satisfaction_known h past e b s =
    let k = eqb-true e.kind satisfaction_kind s in
    let n : is_response e ≡ false = ne_eqb e.kind 5 (λ q. let r : ◌≡◌ {A = ℕ} 7 5 = sym k ∙ q in omega arith) in
    let t = simp (n, s, facts) at b in
    t.0

-- ---- what is known of every line

pub record LineKnown (h : Header) (past : History) (l : Line) : Type 0 where
  pub numbered : l.number < count is_satisfaction past
  pub of_a_trade : l.trade < count is_trade past
  pub size_fits : l.size ≤ most_contracts
  pub reason_fits : l.reason ≤ 15
  pub claim_in_order : l.claim ≤ l.size
  pub claim_in_customers : l.claim ≤ l.customers
  pub unclaimed : (l.reason == 0) ≡ false → l.claim ≡ 0

pub lines_known : {h : Header} {past : History} → Arrived h past → (day : History) (l : Line) → Memᴰ l (lines_of h day past) → LineKnown h past l
unfolding lines_of line_of case_of
lines_known none day l m = absurd (Memᴰ.not-nil m)
lines_known {h} (more {past} {e} v i b r) day l m =
    let g = count_grows is_satisfaction e past in
    let t = count_grows is_trade e past in
    at_end (LineKnown h (e ∷ past)) (lines_of h day past) (is_satisfaction e) (line_of h day past (count is_satisfaction past) e)
    (λ x k. let o = lines_known v day x k in
    record {
      numbered = omega (arith, o.numbered);
      of_a_trade = omega (arith, o.of_a_trade);
      size_fits = o.size_fits;
      reason_fits = o.reason_fits;
      claim_in_order = o.claim_in_order;
      claim_in_customers = o.claim_in_customers;
      unclaimed = o.unclaimed;
    })
    (λ s. let c = claim_at_most h (case_of day past (count is_satisfaction past) e) in
    record {
      numbered = omega (arith, count_cons is_satisfaction e past s);
      of_a_trade = omega (arith, satisfaction_known h past e b s);
      size_fits = satisfaction_fits h e i s;
      reason_fits = reason_at_most_15 h (case_of day past (count is_satisfaction past) e);
      claim_in_order = c.order_size;
      claim_in_customers = c.customer_contracts;
      unclaimed = no_claim_with_a_reason h (case_of day past (count is_satisfaction past) e);
    })
    l m

pub journal_lines_known : (s : List ℕ) (j : Journal) → journal s ≡ ok j → (l : Line) → Memᴰ l (lines j) → LineKnown j.header j.history l
unfolding lines
journal_lines_known s j e l m = lines_known (journal_arrived s j e) j.history l m

-- one line for each Satisfaction Order
pub lines_count : (h : Header) (day past : History) → length (lines_of h day past) ≡ count is_satisfaction past
unfolding lines_of
lines_count h day [] = unfold count keep in refl
lines_count h day (e ∷ past) =
    by_test (is_satisfaction e)
    (λ c. rw (c, length-append (lines_of h day past) (line_of h day past (count is_satisfaction past) e ∷ []), lines_count h day past, count_cons is_satisfaction e past c) (omega arith))
    (λ c. rw (c, append-nil (lines_of h day past), lines_count h day past, count_skip is_satisfaction e past c))

-- ---- no two lines have one number

pub numbered_below : (h : Header) (day past : History) (l : Line) → Memᴰ l (lines_of h day past) → l.number < count is_satisfaction past
unfolding lines_of line_of
numbered_below h day [] l m = absurd (Memᴰ.not-nil m)
numbered_below h day (e ∷ past) l m =
    let g = count_grows is_satisfaction e past in
    at_end (λ x. x.number < count is_satisfaction (e ∷ past)) (lines_of h day past) (is_satisfaction e) (line_of h day past (count is_satisfaction past) e)
    (λ x k. let n = numbered_below h day past x k in omega arith)
    (λ c. let n = count_cons is_satisfaction e past c in omega arith)
    l m

pub data Apart : List Line → Type 0 where
  alone : Apart []
  further : {l : Line} {ls : List Line} → ((m : Line) → Memᴰ m ls → l.number ≡ m.number → ⊥) → Apart ls → Apart (l ∷ ls)

apart_end : {xs : List Line} (b : Bool) (y : Line) → Apart xs → ((m : Line) → Memᴰ m xs → m.number ≡ y.number → ⊥) → Apart (xs ++ (if b then y ∷ [] else []))
apart_end true y alone f = further (λ m k e. Memᴰ.not-nil k) alone
apart_end false y alone f = alone
apart_end b y (further {l} {ls} g a) f =
    further (at_end (λ m. l.number ≡ m.number → ⊥) ls b y g (λ t. f l (Memᴰ.head refl))) (apart_end b y a (λ m k. f m (Memᴰ.tail k)))

pub apart_keep : (f : Line → Bool) {ls : List Line} → Apart ls → Apart (keep f ls)
unfolding keep
apart_keep f alone = alone
apart_keep f (further {l} {ls} g a) =
    by_test (f l)
    (λ e. rw e (further (λ m k. g m (keep_sub f ls m k)) (apart_keep f a)))
    (λ e. rw e (apart_keep f a))

pub lines_apart : (h : Header) (day past : History) → Apart (lines_of h day past)
unfolding lines_of line_of
lines_apart h day [] = alone
lines_apart h day (e ∷ past) =
    apart_end (is_satisfaction e) (line_of h day past (count is_satisfaction past) e) (lines_apart h day past)
    (λ m k q. let b = numbered_below h day past m k in omega arith)

-- ---- due totals: "the lesser of trade size and the sum of claims; else the sum of claims"

due_of_at_most_claims : (c : Bool) (size : ℕ) (cs : List ℕ) → due_of c size cs ≤ sum cs
unfolding due_of
due_of_at_most_claims true size cs = omega arith
due_of_at_most_claims false size cs = omega arith

pub due_at_most_claims : (j : Journal) (n : ℕ) → due j n ≤ sum (claims_of (of_trade n (lines j)))
unfolding due
due_at_most_claims j n = due_of_at_most_claims _ _ _

-- ---- a line's number is its place

last_numbered : (xs : List Line) (x d : Line) → x.number ≡ length xs → ((i : ℕ) → i < length xs → (get_or xs i d).number ≡ i)
    → (i : ℕ) → i < length (xs ++ (x ∷ [])) → (get_or (xs ++ (x ∷ [])) i d).number ≡ i
last_numbered xs x d n f i l =
    by_test (i less_than length xs)
    (λ s. let k : i < length xs = ltb-true _ _ s in ap (λ (y : Line). y.number) (get_or-append xs (x ∷ []) d i k) ∙ f i k)
    (λ s.
    let k : length xs ≤ i = ltb-false _ _ s in
    let e : length xs ≡ i = omega (arith, length-append xs (x ∷ [])) in
    ap (λ (y : Line). y.number) (get_or_at xs x [] d i e) ∙ n ∙ e)

pub lines_numbered : (h : Header) (day past : History) (d : Line) (i : ℕ) → i < length (lines_of h day past) → (get_or (lines_of h day past) i d).number ≡ i
unfolding lines_of
lines_numbered h day [] d i l = absurd (omega arith)
lines_numbered h day (e ∷ past) d i l =
    let ih = lines_numbered h day past d in
    let new : (line_of h day past (count is_satisfaction past) e).number ≡ length (lines_of h day past) = unfold line_of in sym (lines_count h day past) in
    by_test (is_satisfaction e)
    (λ s. rw s (last_numbered (lines_of h day past) (line_of h day past (count is_satisfaction past) e) d new ih i (rw s at l)))
    (λ s. rw (s, append-nil (lines_of h day past)) (ih i (rw (s, append-nil (lines_of h day past)) at l)))
