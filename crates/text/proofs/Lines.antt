-- Laws of printed lines: each is its parts one after another, has room where its parts have, and is what the definitions print.
use Prim.Native.Nat.{ℕ, ◌+◌, ◌≤◌, ◌<◌}
use native.Mathlib.Omega.{arith}
use mathlib.Core.Path.{◌≡◌, refl, ap}
use mathlib.Core.List.{List, [], ◌∷◌, ◌++◌, append_assoc}
use lib.ListN.{length, set, length-append, length-set}
use Rattle.rules.specs.PrintedDay.{ascii, decimal, Printed, printed_line, first_line, refusal_text}
use Rattle.text.specs.Lent.{Wrote, Takes}
use Rattle.text.specs.Lines.{line_of, field_of, head_of, tail_of, first_line_bytes, refused_bytes, at_bytes, number_of, place_of}
use Rattle.text.proofs.Lent.{wrote_length, wrote_set_length, wrote_one, wrote_two, two_index, wrote_then, first_room, second_room, both_wrote}

-- ---- the letter: a byte in code, a text in the definitions

pub line_is_printed : (q : Printed) (what : ℕ) → ascii q.what ≡ what ∷ []
    → line_of q.event what q.says.a q.says.b q.says.c ≡ printed_line q
unfolding line_of printed_line
line_is_printed q what e = rw e

-- ---- a line and its parts

pub line_parts : (event what a b c : ℕ) → line_of event what a b c ≡ head_of event what ++ tail_of a b c
unfolding line_of head_of tail_of field_of
line_parts event what a b c = simp append_assoc

pub number_parts : (n : ℕ) → number_of n ≡ refused_bytes ++ decimal n
unfolding number_of
number_parts n = refl

pub refusal_parts : (n place : ℕ) → refusal_text n place ≡ number_of n ++ place_of place
unfolding refusal_text number_of place_of ascii
refusal_parts n place = simp append_assoc

module _ (s : List ℕ) (at : ℕ) where
  pub line_first_room : (event what a b c : ℕ) → at + length (line_of event what a b c) ≤ length s → at + length (head_of event what) ≤ length s
  line_first_room event what a b c h = first_room _ (head_of event what) (tail_of a b c) s at h (line_parts event what a b c)

  pub number_first_room : (n : ℕ) → at + length (number_of n) ≤ length s → at + length refused_bytes ≤ length s
  number_first_room n h = first_room _ refused_bytes (decimal n) s at h (number_parts n)

  pub refusal_first_room : (n place : ℕ) → at + length (refusal_text n place) ≤ length s → at + length (number_of n) ≤ length s
  refusal_first_room n place h = first_room _ (number_of n) (place_of place) s at h (refusal_parts n place)

pub ruleset part_laws = (line_first_room, number_first_room, refusal_first_room, second_room, both_wrote, line_parts, number_parts, refusal_parts)

-- ---- a field: a space and a number

length_field : (x : ℕ) → length (field_of x) ≡ 1 + length (decimal x)
unfolding field_of
length_field x = omega arith

module _ (x : ℕ) (s : List ℕ) (at : ℕ) (room : at + length (field_of x) ≤ length s) where
  pub space_room : at < length s
  space_room = omega (arith, length_field x)

  pub number_room : at + 1 + length (decimal x) ≤ length (set s at 32)
  number_room = rw length-set (omega (arith, length_field x))

  pub field_wrote : (d : List ℕ) (p : ℕ) → Wrote (set s at 32) (at + 1) (decimal x) d p → Wrote s at (field_of x) d p
  unfolding field_of
  field_wrote d p w = wrote_then s at (32 ∷ []) (set s at 32) (at + 1) (decimal x) d p (wrote_one s at 32 space_room) w

pub ruleset field_laws = (space_room, number_room, field_wrote, wrote_set_length)

-- ---- event and letter

length_head : (event what : ℕ) → length (head_of event what) ≡ length (decimal event) + 2
unfolding head_of
length_head event what = rw length-append

module _ (event what : ℕ) (s : List ℕ) (at : ℕ) (room : at + length (head_of event what) ≤ length s) where
  pub event_room : at + length (decimal event) ≤ length s
  event_room = omega (arith, length_head event what)

  module _ (d : List ℕ) (p : ℕ) (w : Wrote s at (decimal event) d p) where
    letter_room : p + 1 < length d
    letter_room = omega (arith, length_head event what, wrote_length s at _ d p w, w.place)

    pub space_index : p < length d
    space_index = omega (arith, letter_room)

    pub letter_index : p + 1 < length (set d p 32)
    letter_index = two_index d p 32 letter_room

    pub head_wrote : Wrote s at (head_of event what) (set (set d p 32) (p + 1) what) (p + 2)
    unfolding head_of
    head_wrote = wrote_then s at (decimal event) d p (32 ∷ what ∷ []) _ (p + 2) w (wrote_two d p 32 what letter_room)

pub ruleset head_laws = (event_room, space_index, letter_index, head_wrote, wrote_length)

-- ---- a, b, c and LF

length_tail : (a b c : ℕ) → length (tail_of a b c) ≡ length (field_of a) + length (field_of b) + length (field_of c) + 1
unfolding tail_of
length_tail a b c = simp length-append

module _ (a b c : ℕ) (s : List ℕ) (at : ℕ) (room : at + length (tail_of a b c) ≤ length s) where
  pub a_room : at + length (field_of a) ≤ length s
  a_room = omega (arith, length_tail a b c)

  module _ (d₁ : List ℕ) (p₁ : ℕ) (w₁ : Wrote s at (field_of a) d₁ p₁) where
    pub b_room : p₁ + length (field_of b) ≤ length d₁
    b_room = omega (arith, length_tail a b c, wrote_length s at _ d₁ p₁ w₁, w₁.place)

    module _ (d₂ : List ℕ) (p₂ : ℕ) (w₂ : Wrote d₁ p₁ (field_of b) d₂ p₂) where
      pub c_room : p₂ + length (field_of c) ≤ length d₂
      c_room = omega (arith, length_tail a b c, wrote_length s at _ d₁ p₁ w₁, w₁.place, wrote_length d₁ p₁ _ d₂ p₂ w₂, w₂.place)

      module _ (d₃ : List ℕ) (p₃ : ℕ) (w₃ : Wrote d₂ p₂ (field_of c) d₃ p₃) where
        pub end_room : p₃ < length d₃
        end_room = omega (arith, length_tail a b c, wrote_length s at _ d₁ p₁ w₁, w₁.place, wrote_length d₁ p₁ _ d₂ p₂ w₂, w₂.place, wrote_length d₂ p₂ _ d₃ p₃ w₃, w₃.place)

        pub tail_wrote : Wrote s at (tail_of a b c) (set d₃ p₃ 10) (p₃ + 1)
        unfolding tail_of
        tail_wrote =
            wrote_then s at _ d₃ p₃ _ (set d₃ p₃ 10) (p₃ + 1)
            (wrote_then s at _ d₂ p₂ _ d₃ p₃ (wrote_then s at _ d₁ p₁ _ d₂ p₂ w₁ w₂) w₃)
            (wrote_one d₃ p₃ 10 end_room)

        pub tail_length : length (set d₃ p₃ 10) ≡ length s
        tail_length = wrote_length s at (tail_of a b c) (set d₃ p₃ 10) (p₃ + 1) tail_wrote

pub ruleset tail_laws = (a_room, b_room, c_room, end_room, tail_wrote, tail_length)

-- ---- the place of a refusal

length_place : (place : ℕ) → length (place_of place) ≡ 4 + length (decimal place) + 1
unfolding place_of
length_place place = simp length-append

module _ (place : ℕ) (s : List ℕ) (at : ℕ) (room : at + length (place_of place) ≤ length s) where
  pub at_room : at + length at_bytes ≤ length s
  at_room = omega (arith, length_place place)

  module _ (d₁ : List ℕ) (p₁ : ℕ) (w₁ : Wrote s at at_bytes d₁ p₁) where
    place_starts : p₁ ≡ at + 4
    place_starts = w₁.place

    pub place_room : p₁ + length (decimal place) ≤ length d₁
    place_room = omega (arith, length_place place, wrote_length s at _ d₁ p₁ w₁, place_starts)

    module _ (d₂ : List ℕ) (p₂ : ℕ) (w₂ : Wrote d₁ p₁ (decimal place) d₂ p₂) where
      pub place_end_room : p₂ < length d₂
      place_end_room = omega (arith, length_place place, wrote_length s at _ d₁ p₁ w₁, place_starts, wrote_length d₁ p₁ _ d₂ p₂ w₂, w₂.place)

      pub place_wrote : Wrote s at (place_of place) (set d₂ p₂ 10) (p₂ + 1)
      unfolding place_of
      place_wrote = wrote_then s at _ d₂ p₂ _ (set d₂ p₂ 10) (p₂ + 1) (wrote_then s at _ d₁ p₁ _ d₂ p₂ w₁ w₂) (wrote_one d₂ p₂ 10 place_end_room)

      pub place_length : length (set d₂ p₂ 10) ≡ length s
      place_length = wrote_length s at (place_of place) (set d₂ p₂ 10) (p₂ + 1) place_wrote

pub ruleset place_laws = (at_room, place_room, place_end_room, place_wrote, place_length)

-- ---- the first line

first_line_is : first_line_bytes ≡ first_line
unfolding first_line ascii
first_line_is = refl

pub first_line_takes : Takes first_line 17 17
first_line_takes = record { exact = ap length first_line_is; bound = omega arith }

module _ (s : List ℕ) (at : ℕ) where
  pub first_line_room : at + length first_line ≤ length s → at + length first_line_bytes ≤ length s
  first_line_room h = omega (arith, first_line_takes.exact)

  pub first_line_wrote : (d : List ℕ) (p : ℕ) → Wrote s at first_line_bytes d p → Wrote s at first_line d p
  first_line_wrote d p w = rw (← first_line_is) w

pub ruleset first_line_laws = (first_line_takes, first_line_room, first_line_wrote)

-- ---- widths

module _ (event what a b c : ℕ) where
  length_line : length (line_of event what a b c) ≡ length (decimal event) + length (decimal a) + length (decimal b) + length (decimal c) + 6
  length_line =
      rw (line_parts event what a b c, length-append)
      (omega (arith, length_head event what, length_tail a b c, length_field a, length_field b, length_field c))

  pub line_takes : (i j k l : ℕ) → Takes (decimal event) 10 i → Takes (decimal a) 10 j → Takes (decimal b) 10 k → Takes (decimal c) 10 l
      → Takes (line_of event what a b c) 46 (i + j + k + l + 6)
  line_takes i j k l p q r t = record { exact = omega (arith, length_line); bound = omega arith }

pub refusal_takes : (n place i j : ℕ) → Takes (decimal n) 10 i → Takes (decimal place) 20 j → Takes (refusal_text n place) 43 (i + j + 13)
refusal_takes n place i j p q =
    record {
      exact = rw (refusal_parts n place, length-append) (omega (arith, rw length-append at (ap length (number_parts n)), length_place place));
      bound = omega arith;
    }

pub ruleset takes_laws = (line_takes, refusal_takes)
