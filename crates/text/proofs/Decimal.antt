-- Laws of decimal numbers: their digits one by one and two at a time, how many there are, and how they are written.
use Prim.Native.Nat.{ℕ, zero, suc, ◌+◌, ◌/◌, ◌%◌, ◌^◌, ◌≤◌, ◌<◌}
use native.Mathlib.Omega.{arith}
use native.Mathlib.Nat.{zero-add, suc-add, div-one, div-div-eq-div-mul, pow-succ'}
use mathlib.Core.Path.{◌≡◌, refl, sym, ap, ◌∙◌}
use mathlib.Core.List.{List, [], ◌∷◌, ◌++◌, append_assoc}
use lib.ListN.{length, set, length-append}
use borrow.Author.Tests.{lt-ltb, le-ltb, ltb-true, ltb-false}
use Rattle.rules.specs.Basics.{◌less_than◌}
use Rattle.rules.specs.PrintedDay.{digits, decimal}
use Rattle.rules.proofs.Tests.{by_test}
use Rattle.text.specs.Lent.{Wrote, Takes}
use Rattle.text.specs.Lines.{pair_of}
use Rattle.text.proofs.Lent.{wrote_one, wrote_two, two_index, first_room, second_room, both_wrote}

-- ---- digits

digits_below_ten : (k x : ℕ) → x < 10 → digits k x ≡ (48 + x) ∷ []
unfolding digits
digits_below_ten zero x h = let e : x % 10 ≡ x = omega arith in rw e
digits_below_ten (suc k) x h = rw (lt-ltb _ _ h)

digits_from_ten : (k x : ℕ) → 10 ≤ x → digits (suc k) x ≡ digits k (x / 10) ++ ((48 + x % 10) ∷ [])
unfolding digits
digits_from_ten k x h = rw (le-ltb _ _ h)

-- room for one digit more changes nothing where it is not needed
digits_spare_one : (k x : ℕ) → x < 10 ^ suc k → digits (suc k) x ≡ digits k x
digits_spare_one zero x h = let l : x < 10 = omega arith in digits_below_ten 1 x l ∙ sym (digits_below_ten 0 x l)
digits_spare_one (suc k) x h =
    by_test (x less_than 10)
    (λ t. let l = ltb-true _ _ t in digits_below_ten (suc (suc k)) x l ∙ sym (digits_below_ten (suc k) x l))
    (λ t. let l = ltb-false _ _ t in rw (digits_from_ten (suc k) x l, digits_from_ten k x l, digits_spare_one k (x / 10) (omega arith)))

power_grows : (j k x : ℕ) → x < 10 ^ k → x < 10 ^ (j + k)
power_grows zero k x h = rw (zero-add k) h
power_grows (suc j) k x h = let l = power_grows j k x h in rw (suc-add j k) (omega arith)

digits_spare : (j k x : ℕ) → x < 10 ^ suc k → digits (j + k) x ≡ digits k x
digits_spare zero k x h = rw (zero-add k)
digits_spare (suc j) k x h =
    let e : suc (j + k) ≡ j + suc k = omega arith in
    rw (suc-add j k, digits_spare_one (j + k) x (rw e (power_grows j (suc k) x h)), digits_spare j k x h)

pub decimal_below_ten : (x : ℕ) → x < 10 → decimal x ≡ (48 + x) ∷ []
unfolding decimal
decimal_below_ten x h = digits_below_ten 19 x h

-- every u64 has at most twenty digits
pub decimal_from_ten : (x : ℕ) → 10 ≤ x → x < 2 ^ 64 → decimal x ≡ decimal (x / 10) ++ ((48 + x % 10) ∷ [])
unfolding decimal
decimal_from_ten x h b = digits_from_ten 18 x h ∙ rw (digits_spare_one 18 (x / 10) (omega arith))

-- ---- how many

length_from_ten : (k x : ℕ) → 10 ≤ x → length (digits (suc k) x) ≡ length (digits k (x / 10)) + 1
length_from_ten k x h = rw (digits_from_ten k x h, length-append)

length_digits : (w k x : ℕ) → w ≤ k → 10 ^ w ≤ x → x < 10 ^ suc w → length (digits k x) ≡ suc w
length_digits zero k x l a b = rw (digits_below_ten k x (omega arith))
length_digits (suc w) zero x l a b = absurd (omega arith)
length_digits (suc w) (suc k) x l a b =
    rw (length_from_ten k x (omega arith), length_digits w k (x / 10) (omega arith) (omega arith) (omega arith)) (omega arith)

pub width_below_ten : (x : ℕ) → x < 10 → Takes (decimal x) 10 1
width_below_ten x h = record { exact = sym (ap length (decimal_below_ten x h)); bound = omega arith }

-- a number with w digits after its first
pub width_from : (w x : ℕ) → w ≤ 9 → 10 ^ w ≤ x → x < 10 ^ suc w → Takes (decimal x) 10 (suc w)
unfolding decimal
width_from w x l a b = record { exact = sym (length_digits w 19 x (omega arith) a b); bound = omega arith }

power_positive : (m : ℕ) → 1 ≤ 10 ^ m
power_positive zero = omega arith
power_positive (suc m) = omega (arith, power_positive m)

-- m digits cut off
length_past_power : (m k x : ℕ) → 10 ^ m ≤ x → length (digits (m + k) x) ≡ length (digits k (x / 10 ^ m)) + m
length_past_power zero k x h = rw (zero-add k, div-one x) (omega arith)
length_past_power (suc m) k x h =
    let e : x / 10 / 10 ^ m ≡ x / 10 ^ suc m = rw (div-div-eq-div-mul x 10 (10 ^ m), pow-succ' 10 m) in
    rw (suc-add m k, length_from_ten (m + k) x (omega (arith, power_positive m)), length_past_power m k (x / 10) (omega arith), e) (omega arith)

decimal_past : (x : ℕ) → 10 ^ 10 ≤ x → x < 10 ^ 20 → length (decimal x) ≡ length (decimal (x / 10 ^ 10)) + 10
unfolding decimal
decimal_past x h b = rw (← digits_spare 10 19 x b) (length_past_power 10 19 x h)

pub total_few : (x n : ℕ) → Takes (decimal x) 10 n → Takes (decimal x) 20 n
total_few x n t = record { exact = t.exact; bound = omega (arith, t.bound) }

pub total_many : (x n : ℕ) → 10 ^ 10 ≤ x → x < 2 ^ 64 → Takes (decimal (x / 10 ^ 10)) 10 n → Takes (decimal x) 20 (n + 10)
total_many x n h b t =
    record { exact = omega (arith, t.exact, decimal_past x h (omega arith)); bound = omega (arith, t.bound) }

pub ruleset width_laws = (width_below_ten, total_few, total_many)

-- ---- digits written, two at a time

decimal_pair : (x : ℕ) → 10 ≤ x → x < 100 → decimal x ≡ pair_of x
unfolding pair_of
decimal_pair x h b = rw (decimal_from_ten x h (omega arith), decimal_below_ten (x / 10) (omega arith))

pub decimal_hundreds : (x : ℕ) → 100 ≤ x → x < 2 ^ 64 → decimal x ≡ decimal (x / 100) ++ pair_of (x % 100)
unfolding pair_of
decimal_hundreds x h b =
    let e : x / 10 / 10 ≡ x / 100 = omega arith in
    let f : x / 10 % 10 ≡ x % 100 / 10 = omega arith in
    let g : x % 10 ≡ x % 100 % 10 = omega arith in
    rw (decimal_from_ten x (omega arith) b, decimal_from_ten (x / 10) (omega arith) (omega arith), e, f, g, append_assoc)

length_pair : (x : ℕ) → length (pair_of x) ≡ 2
unfolding pair_of
length_pair x = refl

module _ (x : ℕ) (s : List ℕ) (at : ℕ) (room : at + length (pair_of x) ≤ length s) where
  pair_room : at + 1 < length s
  pair_room = omega (arith, length_pair x)

  pub pair_index : at < length s
  pair_index = omega (arith, pair_room)

  pub pair_second_index : at + 1 < length (set s at (48 + x / 10))
  pair_second_index = two_index s at (48 + x / 10) pair_room

  pub pair_wrote : Wrote s at (pair_of x) (set (set s at (48 + x / 10)) (at + 1) (48 + x % 10)) (at + 2)
  unfolding pair_of
  pair_wrote = wrote_two s at (48 + x / 10) (48 + x % 10) pair_room

pub ruleset pair_laws = (pair_index, pair_second_index, pair_wrote)

module _ (x : ℕ) (s : List ℕ) (at : ℕ) (room : at + length (decimal x) ≤ length s) where
  module _ (h : x < 10) where
    pub digit_index : at < length s
    digit_index = omega (arith, ap length (decimal_below_ten x h))

    pub digit_wrote : Wrote s at (decimal x) (set s at (48 + x)) (at + 1)
    digit_wrote = rw (decimal_below_ten x h) (wrote_one s at (48 + x) digit_index)

  pub short_pair_room : 10 ≤ x → x < 100 → at + length (pair_of x) ≤ length s
  short_pair_room h b = rw (← decimal_pair x h b) room

  pub short_pair_wrote : 10 ≤ x → x < 100 → (d : List ℕ) (p : ℕ) → Wrote s at (pair_of x) d p → Wrote s at (decimal x) d p
  short_pair_wrote h b d p w = rw (decimal_pair x h b) w

  pub hundreds_room : 100 ≤ x → x < 2 ^ 64 → at + length (decimal (x / 100)) ≤ length s
  hundreds_room h b = first_room (decimal x) (decimal (x / 100)) (pair_of (x % 100)) s at room (decimal_hundreds x h b)

pub ruleset short_laws = (digit_index, digit_wrote, short_pair_room, short_pair_wrote)

pub ruleset hundreds_laws = (hundreds_room, decimal_hundreds, second_room, both_wrote)
