-- Laws of writing into lent memory: nothing, one byte, a text, one thing after another; and from there to the definitions of all or nothing.
use Prim.Native.Nat.{ℕ, ◌+◌, ◌≤◌, ◌<◌}
use native.Mathlib.Omega.{arith}
use native.Mathlib.Numerals.{add-one}
use native.Mathlib.Nat.{add-zero, zero-add}
use mathlib.Core.Path.{◌≡◌, sym, ap, subst, ◌∙◌}
use mathlib.Core.List.{List, [], ◌∷◌, ◌++◌, append_assoc, append-nil}
use lib.ListN.{length, get_or, take, drop, set, length-append, length-drop, length-set, take-append-drop}
use lib.Seq.{take_at, drop_at, drop-drop, length-take-le, set_split, append_snoc, take-suc, take_all}
use borrow.Author.Tests.{le-leb, lt-leb}
use Rattle.std.specs.Prelude.{Result, Ok, Err}
use Rattle.rules.specs.Basics.{Answer, ok, refused, ◌>>=◌}
use Rattle.rules.specs.Refusals.{output_too_short}
use Rattle.rules.specs.Writing.{no_place, into, lent_after}
use Rattle.rules.proofs.Answers.{demand_met, demand_missed}
use Rattle.text.specs.Lent.{lent_with, Wrote, as_answer, counted, Writes}
use Rattle.rows.specs.declared.Refusal.{Refusal}
use Rattle.rows.specs.declared.Refusal.TheVariants.{OutputTooShort}
use Rattle.rows.proofs.Refusals.{same_number_same_refusal}

-- ---- bytes at a place, and more bytes after them

module _ (s : List ℕ) (at : ℕ) (a : List ℕ) (h : at + length a ≤ length s) where
  front_length : length (take at s ++ a) ≡ at + length a
  front_length = rw (length-append, length-take-le at s (omega arith))

  pub lent_with_length : length (lent_with s at a) ≡ length s
  unfolding lent_with
  lent_with_length = rw (length-append, front_length, length-drop) (omega arith)

  lent_with_more : (b : List ℕ) → lent_with (lent_with s at a) (at + length a) b ≡ lent_with s at (a ++ b)
  unfolding lent_with
  lent_with_more b =
      let n = at + length a in
      let t : take n (lent_with s at a) ≡ take at s ++ a = take_at (take at s ++ a) (drop n s) n front_length in
      let d : drop n (lent_with s at a) ≡ drop n s = drop_at (take at s ++ a) (drop n s) n front_length in
      let r : drop (n + length b) (lent_with s at a) ≡ drop (n + length b) s =
      sym (drop-drop (length b) n (lent_with s at a)) ∙ ap (drop (length b)) d ∙ drop-drop (length b) n s in
      let e : at + length (a ++ b) ≡ n + length b = rw (length-append) (omega arith) in
      rw (t, r, e, append_assoc (take at s) a b)

pub wrote_length : (s : List ℕ) (at : ℕ) (a d : List ℕ) (p : ℕ) → Wrote s at a d p → length d ≡ length s
wrote_length s at a d p w = rw w.lent (lent_with_length s at a w.room)

-- after a byte stored by hand
pub wrote_set_length : (s : List ℕ) (i b at : ℕ) (a d : List ℕ) (p : ℕ) → Wrote (set s i b) at a d p → length d ≡ length s
wrote_set_length s i b at a d p w = wrote_length (set s i b) at a d p w ∙ length-set s i b

pub wrote_none : (s : List ℕ) (at : ℕ) → at ≤ length s → Wrote s at [] s at
unfolding lent_with
wrote_none s at h =
    record { room = omega arith; lent = sym (rw (append-nil, add-zero) (take-append-drop at s)); place = omega arith }

pub wrote_one : (s : List ℕ) (at b : ℕ) → at < length s → Wrote s at (b ∷ []) (set s at b) (at + 1)
unfolding lent_with
wrote_one s at b h =
    record { room = omega arith; lent = set_split s at b h ∙ rw (add-one at, append_snoc); place = omega arith }

pub wrote_then : (s : List ℕ) (at : ℕ) (a d : List ℕ) (p : ℕ) (b e : List ℕ) (q : ℕ) → Wrote s at a d p → Wrote d p b e q → Wrote s at (a ++ b) e q
wrote_then s at a d p b e q v w =
    record {
      room = rw length-append (omega (arith, v.room, w.room, v.place, wrote_length s at a d p v));
      lent = w.lent ∙ rw (v.lent, v.place) (lent_with_more s at a v.room b);
      place = rw length-append (omega (arith, v.place, w.place));
    }

pub two_index : (s : List ℕ) (at a : ℕ) → at + 1 < length s → at + 1 < length (set s at a)
two_index s at a h = rw length-set h

pub wrote_two : (s : List ℕ) (at a b : ℕ) → at + 1 < length s → Wrote s at (a ∷ b ∷ []) (set (set s at a) (at + 1) b) (at + 2)
wrote_two s at a b h =
    let p : at + 1 + 1 ≡ at + 2 = omega arith in
    rw p at
    (wrote_then s at (a ∷ []) (set s at a) (at + 1) (b ∷ []) (set (set s at a) (at + 1) b) (at + 1 + 1)
    (wrote_one s at a (omega arith))
    (wrote_one (set s at a) (at + 1) b (two_index s at a h)))

-- ---- a whole of two parts

module _ (whole a b s : List ℕ) (at : ℕ) (room : at + length whole ≤ length s) (parts : whole ≡ a ++ b) where
  length_parts : length whole ≡ length a + length b
  length_parts = rw (parts, length-append)

  pub first_room : at + length a ≤ length s
  first_room = omega (arith, length_parts)

  module _ (d : List ℕ) (p : ℕ) (w : Wrote s at a d p) where
    pub second_room : p + length b ≤ length d
    second_room = omega (arith, length_parts, w.place, wrote_length s at a d p w)

    pub both_wrote : (e : List ℕ) (q : ℕ) → Wrote d p b e q → Wrote s at whole e q
    both_wrote e q v = rw parts (wrote_then s at a d p b e q w v)

-- ---- a text: i bytes of it are written

pub record Copied (s text : List ℕ) (at : ℕ) (out : List ℕ) (i : ℕ) : Type 0 where
  pub below : i ≤ length text
  pub room : at + length text ≤ length s
  pub wrote : Wrote s at (take i text) out (at + i)

pub copied_none : (s text : List ℕ) (at : ℕ) → at + length text ≤ length s → Copied s text at s 0
copied_none s text at h =
    let w : Wrote s at [] s at = wrote_none s at (omega arith) in
    record { below = omega arith; room = h; wrote = rw add-zero w }

module _ (s text : List ℕ) (at : ℕ) (out : List ℕ) (i : ℕ) (w : Copied s text at out i) where
  pub copied_length : length out ≡ length s
  copied_length = wrote_length s at _ out (at + i) w.wrote

  pub copied_all : length text ≤ i → Wrote s at text out (at + length text)
  copied_all h =
      let e : i ≡ length text = omega (arith, w.below) in
      rw e at (subst (λ t. Wrote s at t out (at + i)) (take_all i text h) w.wrote)

  module _ (h : i < length text) where
    pub copied_index : at + i < length out
    copied_index = omega (arith, w.room, copied_length)

    pub copied_more : Copied s text at (set out (at + i) (get_or text i 0)) (i + 1)
    copied_more =
        let b = get_or text i 0 in
        let one = wrote_one out (at + i) b copied_index in
        let both = wrote_then s at (take i text) out (at + i) (b ∷ []) (set out (at + i) b) (at + i + 1) w.wrote one in
        let p : at + (i + 1) ≡ at + i + 1 = omega arith in
        record { below = omega arith; room = w.room; wrote = rw (p, add-one i, take-suc text i 0 h) both }

pub ruleset copy_laws = (copied_none, copied_length, copied_all, copied_index, copied_more)

-- ---- all or nothing

pub room_is_ok : (room : ℕ) (bytes : List ℕ) → length bytes ≤ room → into room bytes ≡ ok bytes
unfolding into ◌>>=◌
room_is_ok room bytes h = rw (demand_met _ output_too_short no_place (le-leb _ _ h))

pub no_room_is_refused : (room : ℕ) (bytes : List ℕ) → room < length bytes → into room bytes ≡ refused output_too_short no_place
unfolding into ◌>>=◌
no_room_is_refused room bytes h = rw (demand_missed _ output_too_short no_place (lt-leb _ _ h))

-- bytes written at the front are a prefix, and the bytes after it stay
pub wrote_is_lent_after : (s bytes d : List ℕ) (p : ℕ) → Wrote s 0 bytes d p → d ≡ lent_after (ok bytes) s
unfolding lent_with lent_after
wrote_is_lent_after s bytes d p w = w.lent ∙ rw zero-add

module _ (s bytes : List ℕ) where
  pub writes_short : (n : ℕ) → n ≡ length bytes → length s < n → Writes s bytes (Err OutputTooShort) s
  unfolding lent_after ◌>>=◌
  writes_short n e h =
      let a = no_room_is_refused (length s) bytes (omega arith) in
      record { answer = sym (ap counted a); lent = sym (ap (λ a. lent_after a s) a) }

  pub writes_room : (n : ℕ) → n ≡ length bytes → n ≤ length s → 0 + length bytes ≤ length s
  writes_room n e h = omega arith

  pub writes_all : (d : List ℕ) (p : ℕ) → Wrote s 0 bytes d p → Writes s bytes (Ok p) d
  unfolding ◌>>=◌
  writes_all d p w =
      let r : length bytes ≤ length s = omega (arith, w.room) in
      let e : p ≡ length bytes = omega (arith, w.place) in
      let a = room_is_ok (length s) bytes r in
      record { answer = ap ok e ∙ sym (ap counted a); lent = wrote_is_lent_after s bytes d p w ∙ sym (ap (λ a. lent_after a s) a) }

pub ruleset writes_laws = (writes_short, writes_room, writes_all)

refused_numbers : {A : Type 0} {m n p q : ℕ} → ◌≡◌ {A = Answer A} (refused m p) (refused n q) → m ≡ n
refused_numbers e = cc

pub same_answer_same_written : (a b : Result ℕ Refusal) → as_answer a ≡ as_answer b → a ≡ b
same_answer_same_written (Ok m) (Ok n) e = cc
same_answer_same_written (Err m) (Err n) e = ap Err (same_number_same_refusal m n (refused_numbers e))
same_answer_same_written (Ok m) (Err n) e = cc
same_answer_same_written (Err m) (Ok n) e = cc

-- there is one answer, and one lent memory afterwards
pub writes_settled : (s bytes : List ℕ) (r₁ r₂ : Result ℕ Refusal) (d₁ d₂ : List ℕ) → Writes s bytes r₁ d₁ → Writes s bytes r₂ d₂ → (r₁ ≡ r₂) × (d₁ ≡ d₂)
writes_settled s bytes r₁ r₂ d₁ d₂ v w = (same_answer_same_written r₁ r₂ (v.answer ∙ sym w.answer), v.lent ∙ sym w.lent)
