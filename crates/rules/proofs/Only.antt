-- "only": what the test `only_fills` says of every sheet that the check accepts, and so examples 4, 5 and 6.
use mathlib.Core.Path.{◌≡◌, refl}
use mathlib.Core.Bool.{Bool, true}
use mathlib.Core.List.Memᴰ
use mathlib.Core.List.{List, [], ◌∷◌, Memᴰ}
use Prim.Native.Nat.{ℕ, zero, suc, ◌-◌, ◌≤◌, ◌<◌, min}
use native.Mathlib.Omega.{arith}
use lib.Dec.{eqb, lit<}
use lib.ListN.{length}
use borrow.Author.Tests.{eqb-true, eqb-false}
use Rattle.std.specs.Prelude.{◌==◌}
use Rattle.rules.specs.Basics.{any, sum, keep, Answer, refused, ok}
use Rattle.rules.specs.Number.{Bytes}
use Rattle.rules.specs.Record.{is_trade}
use Rattle.rules.specs.Journal.{Journal, journal, count}
use Rattle.rules.specs.Due.{Line, lines, of_trade, claims_of, due, share_rule}
use Rattle.rules.specs.OwnSheet.{SheetLine}
use Rattle.rules.specs.SheetCheck.{beside, shares_of, check_sheet}
use Rattle.rules.specs.GoodSheet.{line_at, said_at, fills_of_trade, GoodSheet}
use Rattle.rules.specs.Only.{every_to, every_filling, same, filled_so, only_fills}
use Rattle.rules.specs.Examples.{written, fourth, fourth_fills, fifth, fifth_fills, sixth, sixth_fills}
use Rattle.rules.specs.Open.{everything}
use Rattle.rules.proofs.Tests.{by_test, and_left, and_right, when_true, on_cons}
use Rattle.rules.proofs.CheckMeans.{rule_passes, accepted_sheet_is_good}

-- ---- the test, of fills

every_at : (n : ℕ) (f : ℕ → Bool) → every_to n f ≡ true → (x : ℕ) → x ≤ n → f x ≡ true
unfolding every_to
every_at zero f e x h = let z : x ≡ 0 = omega arith in rw z e
every_at (suc n) f e x h =
    by_test (eqb x (suc n))
    (λ q. let z = eqb-true x (suc n) q in rw z (and_left (f (suc n)) _ e))
    (λ q. let z = eqb-false x (suc n) q in every_at n f (and_right (f (suc n)) (every_to n f) e) x (omega arith))

-- each fill is at most its claim
pub data Filling : List ℕ → List ℕ → Type 0 where
  none : Filling [] []
  more : {c f : ℕ} {cs fs : List ℕ} → f ≤ c → Filling cs fs → Filling (c ∷ cs) (f ∷ fs)

filling_at : {cs fs : List ℕ} → Filling cs fs → (d : ℕ) (f : List ℕ → Bool) → every_filling cs d f ≡ true → sum fs ≡ d → f fs ≡ true
unfolding every_filling sum
filling_at none zero f e s = e
filling_at none (suc d) f e s = absurd (omega arith)
filling_at (more {c} {f = x} {cs} {fs} h r) d f e s =
    filling_at r (d - x) (λ xs. f (x ∷ xs)) (every_at (min c d) (λ y. every_filling cs (d - y) (λ xs. f (y ∷ xs))) e x (omega arith)) (omega arith)

pub only_these_fills : (ls : List Line) (d : ℕ) (good : List (List ℕ)) → only_fills ls d good ≡ true
    → (fs : List ℕ) → Filling (claims_of ls) fs → sum fs ≡ d → share_rule (filled_so ls fs) ≡ true → any (same fs) good ≡ true
unfolding only_fills
only_these_fills ls d good e fs r s t = when_true (share_rule (filled_so ls fs)) _ (filling_at r d _ e s) t

-- ---- of the sheets that are accepted

-- the shares of a trade are its lines, filled as the sheet says
shares_lines : (n : ℕ) (ls : List Line) (ss : List SheetLine) → length ss ≡ length ls → filled_so (of_trade n ls) (fills_of_trade n ls ss) ≡ shares_of n (beside ls ss)
unfolding of_trade shares_of keep beside fills_of_trade filled_so
shares_lines n [] ss e = refl
shares_lines n (l ∷ ls) [] e = absurd (omega arith)
shares_lines n (l ∷ ls) (t ∷ ss) e =
    by_test (l.trade == n) (λ q. rw (q, shares_lines n ls ss (omega arith))) (λ q. rw (q, shares_lines n ls ss (omega arith)))

fills_within : (n : ℕ) (ls : List Line) (ss : List SheetLine) → length ss ≡ length ls → ((i : ℕ) → i < length ls → (said_at ss i).filled ≤ (line_at ls i).claim)
    → Filling (claims_of (of_trade n ls)) (fills_of_trade n ls ss)
unfolding of_trade keep fills_of_trade
fills_within n [] ss e f = none
fills_within n (l ∷ ls) [] e f = absurd (omega arith)
fills_within n (l ∷ ls) (t ∷ ss) e f =
    let later = fills_within n ls ss (omega arith) (λ i h. f (suc i) (omega arith)) in
    by_test (l.trade == n) (λ q. rw q (more (f 0 (omega arith)) later)) (λ q. rw q later)

pub good_sheets_have_only_these_fills : (j : Journal) (sheet : List ℕ) (g : GoodSheet j sheet) (n : ℕ) → n < count is_trade j.history → (good : List (List ℕ))
    → only_fills (of_trade n (lines j)) (due j n) good ≡ true → any (same (fills_of_trade n (lines j) g.says)) good ≡ true
good_sheets_have_only_these_fills j sheet g n h good e =
    let l = g.good_lines in
    let m = l.one_for_each_order in
    only_these_fills (of_trade n (lines j)) (due j n) good e (fills_of_trade n (lines j) g.says)
    (fills_within n (lines j) g.says m l.not_beyond_its_claim)
    (l.makes_the_due_total n h)
    (rw (shares_lines n (lines j) g.says m) (rule_passes (lines j) g.says n m (λ i k hi hk t u. l.not_more_than_one_behind i k hi hk t u)))

-- ---- examples 4, 5, 6

-- records, and what the fills of trade 0 can only be
pub record OnlyRow : Type 0 where
  pub number : ℕ
  pub records : List (List ℕ)
  pub fills : List (List ℕ)

pub only_rows : List OnlyRow
only_rows =
    record { number = 4; records = fourth; fills = fourth_fills }
    ∷ record { number = 5; records = fifth; fills = fifth_fills }
    ∷ record { number = 6; records = sixth; fills = sixth_fills }
    ∷ []

or_none : Answer Journal → Journal
or_none (refused n p) = record { header = record { home = 0; exchanges = 0; close = 0; sizes = [] }; history = [] }
or_none (ok j) = j

pub the_journal : OnlyRow → Journal
the_journal r = or_none (journal (written r.records))

-- what is computed of each row
record Settled (r : OnlyRow) : Type 0 where
  reads : journal (written r.records) ≡ ok (the_journal r)
  has_trade : 0 < count is_trade (the_journal r).history
  only_these : only_fills (of_trade 0 (lines (the_journal r))) (due (the_journal r) 0) r.fills ≡ true

rows_settled : (r : OnlyRow) → Memᴰ r only_rows → Settled r
unfolding everything only_rows the_journal or_none
rows_settled =
    on_cons Settled (record { reads = refl; has_trade = lit< tt; only_these = refl })
    (on_cons Settled (record { reads = refl; has_trade = lit< tt; only_these = refl })
    (on_cons Settled (record { reads = refl; has_trade = lit< tt; only_these = refl }) (λ r m. absurd (Memᴰ.not-nil m))))

-- every sheet that the check accepts has, for trade 0, one of these fills
pub only_in_examples : (r : OnlyRow) → Memᴰ r only_rows → (sheet : List ℕ) → Bytes sheet → check_sheet (written r.records) sheet ≡ ok tt
    → (g : GoodSheet (the_journal r) sheet) × (any (same (fills_of_trade 0 (lines (the_journal r)) g.says)) r.fills ≡ true)
only_in_examples r m sheet y e =
    let s = rows_settled r m in
    let g = accepted_sheet_is_good (written r.records) sheet (the_journal r) y s.reads e in
    (g, good_sheets_have_only_these_fills (the_journal r) sheet g 0 s.has_trade r.fills s.only_these)
