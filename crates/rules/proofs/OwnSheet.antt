-- Our own sheet of every accepted journal is accepted, line by line and trade by trade.
use mathlib.Core.Path.{◌≡◌, refl, sym, ap, ◌∙◌, subst}
use mathlib.Core.Bool.{Bool, true, false}
use mathlib.Core.List.{List, [], ◌∷◌, map, flat_map, Memᴰ, map-map, map-id}
use Prim.Native.Nat.{ℕ, zero, suc, ◌+◌, ◌-◌, ◌≤◌}
use native.Mathlib.Nat.{zero-mul}
use native.Mathlib.Omega.{arith}
use lib.ListN.{length, length-map}
use borrow.Author.Tests.{eqb-true, eq-eqb, ne_eqb, le-leb}
use Rattle.std.specs.Prelude.{◌==◌}
use Rattle.rules.specs.Basics.{all, sum, keep, ok, ◌>>=◌, demand}
use Rattle.rules.specs.Number.{largest, storable, start_of, bytes_of_all}
use Rattle.rules.specs.Record.{is_trade}
use Rattle.rules.specs.Journal.{Journal, journal, count}
use Rattle.rules.specs.Due.{Line, lines, of_trade, claims_of, due, Share, share_rule}
use Rattle.rules.specs.OwnSheet.{SheetLine, line_bytes, sheet_bytes, at_first, give_one, give, empty, own_shares, filled_at, own_fill, own_line, own_lines, own_sheet}
use Rattle.rules.specs.SheetCheck.{sheet_lines, beside, check_line, check_lines, as_share, shares_of, check_trade, check_trades, check_sheet}
use Rattle.rules.proofs.Tests.{by_test, on_cons, all_make, keep_sub, keep_holds, keep_map, map_same, map_all}
use Rattle.rules.proofs.Numbers.{written_numbers_read_back}
use Rattle.rules.proofs.Lines.{LineKnown, journal_lines_known, Apart, further, apart_keep, lines_apart, due_at_most_claims}
use Rattle.rules.proofs.Giving.{says_fair, After, kept, given, after, next_open, FairAll, round_keeps_fair, total, claims, round_gives_one}

-- ---- what is given comes from the lines, and stays within the claims

pub record Given (ls : List Line) (a : Share) : Type 0 where
  pub from : Memᴰ a.line ls
  pub within : a.filled ≤ a.line.claim

empty_given : (ls : List Line) (a : Share) → Memᴰ a (map empty ls) → Given ls a
empty_given [] a m = absurd (mathlib.Core.List.Memᴰ.not-nil m)
empty_given (l ∷ ls) a m =
    on_cons (Given (l ∷ ls)) (record { from = mathlib.Core.List.Memᴰ.head refl; within = omega arith })
    (λ b k. let g = empty_given ls b k in record { from = mathlib.Core.List.Memᴰ.tail g.from; within = g.within })
    a m

pub give_given : (n : ℕ) (ls : List Line) (a : Share) → Memᴰ a (give n (map empty ls)) → Given ls a
unfolding give give_one
give_given zero ls a m = empty_given ls a m
give_given (suc n) ls a m = go (after ss ss a (λ c h. h) m) (give_given n ls)
  where
    ss : List Share
    ss = give n (map empty ls)

    go : After ss a → ((b : Share) → Memᴰ b ss → Given ls b) → Given ls a
    go (kept k) ih = ih a k
    go (given b k e p) ih =
        let g = ih b k in
        let o = next_open ss b e in
        subst (Given ls) (sym p) (record { from = g.from; within = omega arith })

-- ---- giving keeps the lines

abbrev pub lines_in : List Share → List Line
lines_in ss = map (λ (a : Share). a.line) ss

pub at_first_lines : (f : Share → Bool) (ss : List Share) → lines_in (at_first f ss) ≡ lines_in ss
unfolding at_first
at_first_lines f [] = refl
at_first_lines f (a ∷ ss) = by_test (f a) (λ e. rw e) (λ e. rw (e, at_first_lines f ss))

pub give_lines : (n : ℕ) (ss : List Share) → lines_in (give n ss) ≡ lines_in ss
unfolding give give_one
give_lines zero ss = refl
give_lines (suc n) ss = at_first_lines _ (give n ss) ∙ give_lines n ss

pub empty_lines : (ls : List Line) → lines_in (map empty ls) ≡ ls
empty_lines ls = map-map _ empty ls ∙ map-id ls

-- ---- n rounds give n contracts, while n is at most the sum of claims

pub claims_lines : (ss : List Share) → claims ss ≡ sum (claims_of (lines_in ss))
unfolding sum
claims_lines [] = refl
claims_lines (a ∷ ss) = rw (claims_lines ss)

claims_give : (n : ℕ) (ls : List Line) → claims (give n (map empty ls)) ≡ sum (claims_of ls)
claims_give n ls = rw (claims_lines (give n (map empty ls)), give_lines n (map empty ls), empty_lines ls)

total_empty : (ls : List Line) → total (map empty ls) ≡ 0
unfolding sum
total_empty [] = refl
total_empty (l ∷ ls) = rw (total_empty ls)

pub rounds_give_as_many : (ls : List Line) → ((l : Line) → Memᴰ l ls → l.claim ≤ l.customers) → (n : ℕ) → n ≤ sum (claims_of ls) → total (give n (map empty ls)) ≡ n
unfolding give
rounds_give_as_many ls sv zero h = total_empty ls
rounds_give_as_many ls sv (suc n) h =
    let ih = rounds_give_as_many ls sv n (omega arith) in
    let c = claims_give n ls in
    let r =
    round_gives_one (give n (map empty ls))
    (λ a m u. let s = sv a.line (give_given n ls a m).from in omega arith)
    (λ a m. (give_given n ls a m).within)
    (omega arith) in
    omega arith

-- ---- and keep every two lines fair

empty_fair : (ls : List Line) → FairAll (map empty ls)
empty_fair ls a b ma mb u = rw (none ls b mb, zero-mul a.line.customers) (omega arith)
  where
    none : (ls' : List Line) (x : Share) → Memᴰ x (map empty ls') → x.filled ≡ 0
    none [] x m = absurd (mathlib.Core.List.Memᴰ.not-nil m)
    none (l ∷ ls') x m = on_cons (λ y. y.filled ≡ 0) refl (none ls') x m

give_fair : (n : ℕ) (ls : List Line) → FairAll (give n (map empty ls))
unfolding give
give_fair zero ls = empty_fair ls
give_fair (suc n) ls = round_keeps_fair (give n (map empty ls)) (give_fair n ls)

pub fair_shares_keep_the_rule : (ss : List Share) → FairAll ss → share_rule ss ≡ true
unfolding share_rule
fair_shares_keep_the_rule ss f =
    all_make _ _ λ a ma. all_make _ _ λ b mb. says_fair a b (f a b (keep_sub _ ss a ma) (keep_sub _ ss b mb))

-- ---- looking a share up by its line's number finds it

pub filled_at_lem : (ss : List Share) → Apart (lines_in ss) → (a : Share) → Memᴰ a ss → filled_at a.line.number ss ≡ a.filled
unfolding filled_at
filled_at_lem [] p a m = absurd (mathlib.Core.List.Memᴰ.not-nil m)
filled_at_lem (s ∷ ss) (further g p) a m =
    on_cons (λ (x : Share). filled_at x.line.number (s ∷ ss) ≡ x.filled)
    (rw (eq-eqb s.line.number s.line.number refl))
    (λ x k.
    let i : Memᴰ x.line (lines_in ss) = mathlib.Core.List.Memᴰ.map (λ (y : Share). y.line) k in
    let d : (s.line.number == x.line.number) ≡ false = ne_eqb _ _ (g x.line i) in
    rw d (filled_at_lem ss p x k))
    a m

-- ---- what the check makes of our own lines is our own shares

share_in : List Share → Line → Share
share_in ss l = record { line = l; filled = filled_at l.number ss }

refill : (whole ss : List Share) → ((a : Share) → Memᴰ a ss → filled_at a.line.number whole ≡ a.filled) → map (share_in whole) (lines_in ss) ≡ ss
unfolding share_in
refill whole [] f = refl
refill whole (a ∷ ss) f = rw (f a (mathlib.Core.List.Memᴰ.head refl), refill whole ss (λ b m. f b (mathlib.Core.List.Memᴰ.tail m)))

own_beside : (j : Journal) (ls : List Line) → map as_share (beside ls (map (own_line j) ls)) ≡ map (λ l. record { line = l; filled = own_fill j l }) ls
unfolding beside own_line
own_beside j [] = refl
own_beside j (l ∷ ls) = rw (own_beside j ls)

pub own_lines_lem : (j : Journal) (n : ℕ) → lines_in (own_shares j n) ≡ of_trade n (lines j)
unfolding own_shares
own_lines_lem j n = give_lines (due j n) (map empty (of_trade n (lines j))) ∙ empty_lines (of_trade n (lines j))

pub own_apart : (j : Journal) (n : ℕ) → Apart (lines_in (own_shares j n))
unfolding of_trade lines
own_apart j n = rw (own_lines_lem j n) (apart_keep _ (lines_apart j.header j.history j.history))

own_share : (j : Journal) (n : ℕ) (l : Line) → Memᴰ l (of_trade n (lines j)) → record { line = l; filled = own_fill j l } ≡ share_in (own_shares j n) l
unfolding of_trade own_fill share_in
own_share j n l m = let t : l.trade ≡ n = eqb-true _ _ (keep_holds (λ (x : Line). x.trade == n) (lines j) l m) in rw t

own_shares_lem : (j : Journal) (n : ℕ) → shares_of n (beside (lines j) (own_lines j)) ≡ own_shares j n
unfolding shares_of own_lines of_trade
own_shares_lem j n =
    rw (own_beside j (lines j), keep_map (λ (a : Share). a.line.trade == n) (λ (l : Line). record { line = l; filled = own_fill j l }) (lines j))
    (map_same _ (share_in (own_shares j n)) (of_trade n (lines j)) (own_share j n)
    ∙ ap (map (share_in (own_shares j n))) (sym (own_lines_lem j n))
    ∙ refill (own_shares j n) (own_shares j n) (filled_at_lem (own_shares j n) (own_apart j n)))

-- ---- a line of our own sheet: within its claim, adding up to its order

of_trade_here : (l : Line) (ls : List Line) → Memᴰ l ls → Memᴰ l (of_trade l.trade ls)
unfolding of_trade keep
of_trade_here l [] m = absurd (mathlib.Core.List.Memᴰ.not-nil m)
of_trade_here l (x ∷ ls) m =
    on_cons (λ y. Memᴰ y (of_trade y.trade (x ∷ ls)))
    (rw (eq-eqb x.trade x.trade refl) (mathlib.Core.List.Memᴰ.head refl))
    (λ y k. by_test (x.trade == y.trade) (λ e. rw e (mathlib.Core.List.Memᴰ.tail (of_trade_here y ls k))) (λ e. rw e (of_trade_here y ls k)))
    l m

-- the share of a line, and what its fill is
line_in : (ss : List Share) (l : Line) → Memᴰ l (lines_in ss) → (P : ℕ → Type 0) → ((a : Share) → Memᴰ a ss → a.line ≡ l → P a.filled) → Apart (lines_in ss) → P (filled_at l.number ss)
line_in [] l m P f p = absurd (mathlib.Core.List.Memᴰ.not-nil m)
line_in (s ∷ ss) l m P f p = map_all (λ x. Apart (lines_in (s ∷ ss)) → ((a : Share) → Memᴰ a (s ∷ ss) → a.line ≡ x → P a.filled) → P (filled_at x.number (s ∷ ss))) (λ (a : Share). a.line) (s ∷ ss)
    (λ a k q g. rw (filled_at_lem (s ∷ ss) q a k) (g a k refl)) l m p f

own_within_claim : (j : Journal) (l : Line) → Memᴰ l (lines j) → own_fill j l ≤ l.claim
unfolding own_fill
own_within_claim j l m =
    line_in (own_shares j l.trade) l (rw (own_lines_lem j l.trade) (of_trade_here l (lines j) m)) (λ f. f ≤ l.claim)
    (λ a k e. subst (λ (x : Line). a.filled ≤ x.claim) e (unfold own_shares in (give_given (due j l.trade) (of_trade l.trade (lines j)) a k).within))
    (own_apart j l.trade)

pub known_total_is_due : (j : Journal) → ((l : Line) → Memᴰ l (lines j) → LineKnown j.header j.history l)
    → (n : ℕ) → total (own_shares j n) ≡ due j n
unfolding own_shares of_trade
known_total_is_due j known n =
    rounds_give_as_many (of_trade n (lines j)) (λ l m. (known l (keep_sub _ _ _ m)).claim_in_customers) (due j n) (due_at_most_claims j n)

module _ (s : List ℕ) (j : Journal) (accepted : journal s ≡ ok j) where
  known : (l : Line) → Memᴰ l (lines j) → LineKnown j.header j.history l
  known = journal_lines_known s j accepted

  -- ---- 21, 22, 24

  own_line_passes : (l : Line) → Memᴰ l (lines j) → check_line (record { line = l; sheet = own_line j l }) ≡ ok tt
  unfolding check_line ◌>>=◌ demand own_line
  own_line_passes l m =
      let w = own_within_claim j l m in
      let k = (known l m).claim_in_order in
      rw (eq-eqb _ _ (adds l w k), eq-eqb l.reason l.reason refl, le-leb _ _ w)
    where
      adds : (x : Line) → own_fill j x ≤ x.claim → x.claim ≤ x.size → own_fill j x + (x.size - own_fill j x) ≡ x.size
      adds x a b = omega arith

  own_lines_pass : (ls : List Line) → ((l : Line) → Memᴰ l ls → Memᴰ l (lines j)) → check_lines (beside ls (map (own_line j) ls)) ≡ ok tt
  unfolding check_lines beside ◌>>=◌
  own_lines_pass [] f = refl
  own_lines_pass (l ∷ ls) f = rw (own_line_passes l (f l (mathlib.Core.List.Memᴰ.head refl))) (own_lines_pass ls (λ x m. f x (mathlib.Core.List.Memᴰ.tail m)))

  -- ---- 25 and 26: "the due total can always be given"

  pub own_total_is_due : (n : ℕ) → total (own_shares j n) ≡ due j n
  own_total_is_due n = known_total_is_due j known n

  own_fair : (n : ℕ) → FairAll (own_shares j n)
  unfolding own_shares
  own_fair n = give_fair (due j n) (of_trade n (lines j))

  own_trade_passes : (n : ℕ) → check_trade j (beside (lines j) (own_lines j)) n ≡ ok tt
  unfolding check_trade ◌>>=◌ demand
  own_trade_passes n =
      rw (own_shares_lem j n, eq-eqb (total (own_shares j n)) (due j n) (own_total_is_due n), fair_shares_keep_the_rule (own_shares j n) (own_fair n))

  own_trades_pass : (n k : ℕ) → check_trades j (beside (lines j) (own_lines j)) n k ≡ ok tt
  unfolding check_trades ◌>>=◌
  own_trades_pass n zero = refl
  own_trades_pass n (suc k) = rw (own_trade_passes n) (own_trades_pass (n + 1) k)

-- ---- 20: a written sheet reads back

abbrev pub three_of : SheetLine → List ℕ
three_of t = t.reason ∷ t.filled ∷ t.cancelled ∷ []

abbrev pub Stores : SheetLine → Type 0
Stores t = all storable (three_of t) ≡ true

pub written_sheet_reads_back : (ss : List SheetLine) (p : ℕ) → ((t : SheetLine) → Memᴰ t ss → Stores t) → sheet_lines (length ss) (record { place = p; rest = sheet_bytes ss }) ≡ ok ss
unfolding sheet_lines ◌>>=◌ demand flat_map sheet_bytes line_bytes
written_sheet_reads_back [] p f = refl
written_sheet_reads_back (t ∷ ss) p f =
    rw (written_numbers_read_back (three_of t) p (flat_map line_bytes ss) (f t (mathlib.Core.List.Memᴰ.head refl)), written_sheet_reads_back ss (p + length (bytes_of_all (three_of t))) (λ u m. f u (mathlib.Core.List.Memᴰ.tail m)))

own_stores : (s : List ℕ) (j : Journal) → journal s ≡ ok j → (l : Line) → Memᴰ l (lines j) → Stores (own_line j l)
unfolding own_line all
own_stores s j e l m =
    let k = known s j e l m in
    let w = own_within_claim j l m in
    let a : l.reason ≤ largest = omega (arith, k.reason_fits) in
    let b : own_fill j l ≤ largest = omega (arith, k.size_fits, k.claim_in_order) in
    let c : l.size - own_fill j l ≤ largest = omega (arith, k.size_fits) in
    rw (le-leb l.reason largest a, le-leb (own_fill j l) largest b, le-leb (l.size - own_fill j l) largest c)

own_reads_back : (s : List ℕ) (j : Journal) → journal s ≡ ok j → sheet_lines (length (lines j)) (start_of (own_sheet j)) ≡ ok (own_lines j)
unfolding own_sheet own_lines
own_reads_back s j e =
    let n : length (own_lines j) ≡ length (lines j) = length-map (lines j) (own_line j) in
    rw (← n) (written_sheet_reads_back (own_lines j) 0 (map_all Stores (own_line j) (lines j) (own_stores s j e)))

-- "Every accepted journal has at least one such sheet": ours
pub own_sheet_accepted : (s : List ℕ) (j : Journal) → journal s ≡ ok j → check_sheet s (own_sheet j) ≡ ok tt
unfolding check_sheet own_lines ◌>>=◌
own_sheet_accepted s j e =
    rw (e, own_reads_back s j e, own_lines_pass s j e (lines j) (λ l m. m)) (own_trades_pass s j e 0 (count is_trade j.history))
