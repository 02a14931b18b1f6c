-- A round of the definitions, by places: the line whose turn it is gets one contract; where every line is filled nothing changes;
-- where all claims are due every line is filled.
use mathlib.Core.Path.{◌≡◌, refl, ap, ◌∙◌}
use mathlib.Core.Bool.{Bool, true, false}
use mathlib.Core.List.{List, [], ◌∷◌, map, Memᴰ}
use Prim.Native.Nat.{ℕ, zero, suc, ◌+◌, ◌*◌, ◌<◌, ◌≤◌}
use native.Mathlib.Omega.{arith}
use lib.Dec.{leb}
use lib.ListN.{length, set}
use borrow.Author.Tests.{ltb-true, ltb-false, lt-ltb, le-ltb, leb-true, leb-false, le-leb}
use Rattle.rules.specs.Basics.{sum}
use Rattle.rules.specs.Due.{Line, claims_of, Share, unfilled}
use Rattle.rules.specs.OwnSheet.{no_later, is_next, at_first, give_one, give, empty}
use Rattle.rules.specs.SheetCheck.{fills_of}
use Rattle.rules.proofs.Tests.{by_test, and_right, and_make, when_true, when_make, all_at, all_make}
use Rattle.rules.proofs.Giving.{total, claims, Within}
use Rattle.rules.proofs.OwnSheet.{lines_in, rounds_give_as_many, at_first_lines, give_lines, empty_lines, claims_lines, give_given}
use Rattle.fairness.specs.Lines.{share_at}
use Rattle.fairness.proofs.Places.{member_at, by_places}

-- ---- the first line that a test picks

first_picked_gets_one : (f : Share → Bool) (ss : List Share) (m : ℕ) → m < length ss → f (share_at ss m) ≡ true → ((i : ℕ) → i < m → f (share_at ss i) ≡ false)
    → fills_of (at_first f ss) ≡ set (fills_of ss) m ((share_at ss m).filled + 1)
unfolding at_first
first_picked_gets_one f [] m h e f_not = absurd (omega arith)
first_picked_gets_one f (a ∷ ss) zero h e f_not = rw e
first_picked_gets_one f (a ∷ ss) (suc m) h e f_not =
    rw (f_not 0 (omega arith), first_picked_gets_one f ss m (omega arith) e (λ i l. f_not (suc i) (omega arith)))

none_picked_keeps : (f : Share → Bool) (ss : List Share) → ((i : ℕ) → i < length ss → f (share_at ss i) ≡ false) → at_first f ss ≡ ss
unfolding at_first
none_picked_keeps f [] f_not = refl
none_picked_keeps f (a ∷ ss) f_not = rw (f_not 0 (omega arith), none_picked_keeps f ss (λ i l. f_not (suc i) (omega arith)))

-- ---- the next line

module _ (ss : List Share) (a : Share) where
  least_is_next : a.filled < a.line.claim
      → ((i : ℕ) → i < length ss → (share_at ss i).filled < (share_at ss i).line.claim → (a.filled + 1) * (share_at ss i).line.customers ≤ ((share_at ss i).filled + 1) * a.line.customers)
      → is_next ss a ≡ true
  unfolding is_next no_later
  least_is_next u f =
      and_make (unfilled a) _ (lt-ltb _ _ u)
      (all_make (no_later a) ss (by_places (λ b. no_later a b ≡ true) ss (λ i h. when_make (unfilled (share_at ss i)) _ (λ v. le-leb _ _ (f i h (ltb-true _ _ v))))))

  filled_is_not_next : a.line.claim ≤ a.filled → is_next ss a ≡ false
  unfolding is_next
  filled_is_not_next h = rw (le-ltb a.filled a.line.claim h)

  later_is_not_next : (i : ℕ) → i < length ss → (share_at ss i).filled < (share_at ss i).line.claim
      → ((share_at ss i).filled + 1) * a.line.customers < (a.filled + 1) * (share_at ss i).line.customers → is_next ss a ≡ false
  unfolding is_next no_later
  later_is_not_next i h u lt =
      by_test (is_next ss a)
      (λ e.
      let z : (a.filled + 1) * (share_at ss i).line.customers ≤ ((share_at ss i).filled + 1) * a.line.customers =
      leb-true _ _ (when_true (unfilled (share_at ss i)) _ (all_at (no_later a) ss (and_right (unfilled a) _ e) (member_at ss i h)) (lt-ltb _ _ u)) in
      absurd (omega arith))
      (λ e. e)

module _ (ss : List Share) where
  pub round_gives : (m : ℕ) → m < length ss → (share_at ss m).filled < (share_at ss m).line.claim
      → ((i : ℕ) → i < length ss → (share_at ss i).filled < (share_at ss i).line.claim → ((share_at ss m).filled + 1) * (share_at ss i).line.customers ≤ ((share_at ss i).filled + 1) * (share_at ss m).line.customers)
      → ((i : ℕ) → i < m → (share_at ss i).filled < (share_at ss i).line.claim → ((share_at ss m).filled + 1) * (share_at ss i).line.customers < ((share_at ss i).filled + 1) * (share_at ss m).line.customers)
      → fills_of (give_one ss) ≡ set (fills_of ss) m ((share_at ss m).filled + 1)
  unfolding give_one
  round_gives m h u f g =
      first_picked_gets_one (is_next ss) ss m h (least_is_next ss (share_at ss m) u f)
      (λ i l. by_test (unfilled (share_at ss i))
      (λ e. later_is_not_next ss (share_at ss i) m h u (g i l (ltb-true _ _ e)))
      (λ e. filled_is_not_next ss (share_at ss i) (ltb-false _ _ e)))

  pub round_over : ((i : ℕ) → i < length ss → (share_at ss i).line.claim ≤ (share_at ss i).filled) → give_one ss ≡ ss
  unfolding give_one
  round_over f = none_picked_keeps (is_next ss) ss (λ i h. filled_is_not_next ss (share_at ss i) (f i h))

-- once a round changes nothing, no later one does
pub rounds_over : (due n : ℕ) (ss : List Share) → n ≤ due → give_one (give n ss) ≡ give n ss → give due ss ≡ give n ss
unfolding give
rounds_over zero n ss h e = let z : n ≡ 0 = omega arith in rw z
rounds_over (suc due) n ss h e =
    by_test (leb n due)
    (λ l. ap give_one (rounds_over due n ss (leb-true _ _ l) e) ∙ e)
    (λ l. let z : n ≡ suc due = omega (arith, leb-false n due l) in rw z)

-- ---- the lines stay

pub round_keeps_lines : (ss : List Share) → lines_in (give_one ss) ≡ lines_in ss
unfolding give_one
round_keeps_lines ss = at_first_lines (is_next ss) ss

pub give_keeps_lines : (n : ℕ) (ls : List Line) → lines_in (give n (map empty ls)) ≡ ls
give_keeps_lines n ls = give_lines n (map empty ls) ∙ empty_lines ls

-- ---- where all claims are due

within_total : (ss : List Share) → Within ss → total ss ≤ claims ss
unfolding sum
within_total [] w = omega arith
within_total (a ∷ ss) w = omega (arith, w a (Memᴰ.head refl), within_total ss (λ b m. w b (Memᴰ.tail m)))

full_total_fills : (ss : List Share) → Within ss → claims ss ≤ total ss → fills_of ss ≡ claims_of (lines_in ss)
unfolding sum
full_total_fills [] w h = refl
full_total_fills (a ∷ ss) w h =
    let p = w a (Memᴰ.head refl) in
    let v : Within ss = λ b m. w b (Memᴰ.tail m) in
    let q = within_total ss v in
    let e : a.filled ≡ a.line.claim = omega arith in
    rw (e, full_total_fills ss v (omega arith))

-- "each line gets its claim"
pub all_claims_due_fills_every_claim : (ls : List Line) → ((l : Line) → Memᴰ l ls → l.claim ≤ l.customers)
    → fills_of (give (sum (claims_of ls)) (map empty ls)) ≡ claims_of ls
all_claims_due_fills_every_claim ls served =
    let n : ℕ = sum (claims_of ls) in
    let ss : List Share = give n (map empty ls) in
    let e : lines_in ss ≡ ls = give_keeps_lines n ls in
    let t : total ss ≡ n = rounds_give_as_many ls served n (omega arith) in
    let c : claims ss ≡ n = claims_lines ss ∙ ap (λ (x : List Line). sum (claims_of x)) e in
    full_total_fills ss (λ a m. (give_given n ls a m).within) (omega arith) ∙ ap claims_of e
