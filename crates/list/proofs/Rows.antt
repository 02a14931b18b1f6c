-- Rows as text: one row more is its line more, and a row that is put leaves the earlier ones as they were.
use mathlib.Core.Path.{◌≡◌, refl, sym, ap, ◌∙◌}
use mathlib.Core.Bool.{false}
use mathlib.Core.List.{List, [], ◌∷◌, ◌++◌, flat_map}
use Prim.Native.Nat.{ℕ, zero, suc, ◌+◌, ◌*◌, ◌%◌, ◌<◌, ◌≤◌}
use Prim.Native.String.{String}
use native.Mathlib.Omega.{arith}
use native.Mathlib.Numerals.{add-one}
use lib.ListN.{get_or, length, set, length-set}
use lib.Seq.{get_or-set_same, get_or-set_other}
use Rattle.std.specs.Prelude.{◌==◌}
use Rattle.rules.specs.Basics.{below}
use Rattle.rules.specs.OwnSheet.{SheetLine}
use Rattle.rules.specs.GoodSheet.{said_at}
use Rattle.rules.specs.Verdicts.{verdict}
use Rattle.rules.specs.PrintedDay.{ascii, printed_line, one_line}
use Rattle.rules.proofs.Tests.{flat_one, flat_more}
use Rattle.rules.proofs.Below.{fewer_no_longer}
use Rattle.text.specs.Lines.{line_of}
use Rattle.text.proofs.Lines.{line_is_printed}
use Rattle.list.specs.Listing.{word_at, order_letter, order_text, row_text, text_from, RowPut}

-- ---- lists of lines

pub text_none : (own : List SheetLine) (list : List ℕ) → text_from own list 0 ≡ []
unfolding text_from below flat_map
text_none own list = refl

pub text_suc : (own : List SheetLine) (list : List ℕ) (n : ℕ) → text_from own list (suc n) ≡ text_from own list n ++ row_text own list n
unfolding text_from below
text_suc own list n = flat_more (row_text own list) (below n) n

pub text_more : (own : List SheetLine) (list : List ℕ) (n : ℕ) → text_from own list (n + 1) ≡ text_from own list n ++ row_text own list n
text_more own list n = rw (add-one n) (text_suc own list n)

-- fewer rows are no longer text
pub text_longer : (own : List SheetLine) (list : List ℕ) (m n : ℕ) → m ≤ n → length (text_from own list m) ≤ length (text_from own list n)
text_longer own list m n h = fewer_no_longer (text_from own list) (row_text own list) n (λ k l. text_more own list k) m h

row_same : (own : List SheetLine) (a b : List ℕ) (n : ℕ) → ((k : ℕ) → k < 5 → word_at b n k ≡ word_at a n k) → row_text own b n ≡ row_text own a n
unfolding row_text
row_same own a b n h = rw (h 0 (omega arith), h 1 (omega arith), h 2 (omega arith), h 3 (omega arith), h 4 (omega arith))

text_same : (own : List SheetLine) (a b : List ℕ) (n : ℕ) → ((m k : ℕ) → m < n → k < 5 → word_at b m k ≡ word_at a m k) → text_from own b n ≡ text_from own a n
text_same own a b zero h = text_none own b ∙ sym (text_none own a)
text_same own a b (suc n) h =
    text_suc own b n
    ∙ rw (row_same own a b n (λ k. h n k (omega arith)), text_same own a b n (λ m k l. h m k (omega arith)))
    (sym (text_suc own a n))

-- ---- a row is put: five words

set_before : (l : List ℕ) (i j v : ℕ) → j < i → get_or (set l i v) j 0 ≡ get_or l j 0
set_before l i j v h = get_or-set_other l i j v 0 (λ z. omega arith)

module _ (list : List ℕ) (n : ℕ) (room : n * 5 + 5 ≤ length list) (event what a b c : ℕ) where
  abbrev one : List ℕ
  one = set list (n * 5 + 0) event

  abbrev two : List ℕ
  two = set one (n * 5 + 1) what

  abbrev three : List ℕ
  three = set two (n * 5 + 2) a

  abbrev four : List ℕ
  four = set three (n * 5 + 3) b

  abbrev five : List ℕ
  five = set four (n * 5 + 4) c

  pub second_word : n * 5 + 1 < length one
  second_word = simp length-set (omega arith)

  pub third_word : n * 5 + 2 < length two
  third_word = simp length-set (omega arith)

  pub fourth_word : n * 5 + 3 < length three
  fourth_word = simp length-set (omega arith)

  pub fifth_word : n * 5 + 4 < length four
  fifth_word = simp length-set (omega arith)

  under : (i v : ℕ) (l : List ℕ) (k : ℕ) → k < i → get_or (set l (n * 5 + i) v) (n * 5 + k) 0 ≡ get_or l (n * 5 + k) 0
  under i v l k h = set_before l (n * 5 + i) (n * 5 + k) v (omega arith)

  ahead : (i v : ℕ) (l : List ℕ) (m k : ℕ) → m < n → k < 5 → get_or (set l (n * 5 + i) v) (m * 5 + k) 0 ≡ get_or l (m * 5 + k) 0
  ahead i v l m k h g = set_before l (n * 5 + i) (m * 5 + k) v (omega arith)

  pub row_put : RowPut list n event what a b c five (n + 1)
  row_put =
      record {
        event_word =
            under 4 c four 0 (omega arith) ∙ under 3 b three 0 (omega arith) ∙ under 2 a two 0 (omega arith) ∙ under 1 what one 0 (omega arith)
            ∙ get_or-set_same list (n * 5 + 0) event 0 (omega arith);
        what_word =
            under 4 c four 1 (omega arith) ∙ under 3 b three 1 (omega arith) ∙ under 2 a two 1 (omega arith) ∙ get_or-set_same one (n * 5 + 1) what 0 second_word;
        a_word = under 4 c four 2 (omega arith) ∙ under 3 b three 2 (omega arith) ∙ get_or-set_same two (n * 5 + 2) a 0 third_word;
        b_word = under 4 c four 3 (omega arith) ∙ get_or-set_same three (n * 5 + 3) b 0 fourth_word;
        c_word = get_or-set_same four (n * 5 + 4) c 0 fifth_word;
        earlier =
            λ m k h g.
            ahead 4 c four m k h g ∙ ahead 3 b three m k h g ∙ ahead 2 a two m k h g ∙ ahead 1 what one m k h g ∙ ahead 0 event list m k h g;
        long = simp length-set;
        next = refl;
      }

pub ruleset put_laws = (second_word, third_word, fourth_word, fifth_word, row_put)

-- ---- the text with the row that was put

module _ (list : List ℕ) (n event what a b c : ℕ) (list2 : List ℕ) (n2 : ℕ) (p : RowPut list n event what a b c list2 n2) (own : List SheetLine) where
  put_text : text_from own list2 n2 ≡ text_from own list n ++ row_text own list2 n
  put_text = rw p.next (text_more own list2 n ∙ ap (λ (t : List ℕ). t ++ row_text own list2 n) (text_same own list list2 n p.earlier))

  plain_row : what % 256 ≡ what → (what == order_letter) ≡ false → row_text own list2 n ≡ line_of event what a b c
  unfolding row_text
  plain_row byte other = rw (p.what_word, byte, other, p.event_word, p.a_word, p.b_word, p.c_word)

  order_row : what ≡ order_letter → row_text own list2 n ≡ order_text event (said_at own a)
  unfolding row_text
  order_row is = rw (p.what_word, is, p.event_word, p.a_word)

  -- a verdict under another letter than F
  pub put_verdict : (letter : String) → ascii letter ≡ what ∷ [] → what % 256 ≡ what → (what == order_letter) ≡ false
      → text_from own list2 n2 ≡ text_from own list n ++ flat_map printed_line (one_line event letter (verdict a b c))
  put_verdict letter is byte other =
      put_text
      ∙ ap (λ (t : List ℕ). text_from own list n ++ t)
      (plain_row byte other ∙ line_is_printed (record { event = event; what = letter; says = verdict a b c }) what is ∙ sym (flat_one printed_line _))

  -- a Satisfaction Order
  pub put_order : what ≡ order_letter
      → text_from own list2 n2
      ≡ text_from own list n ++ flat_map printed_line (one_line event "F" (verdict (said_at own a).reason (said_at own a).filled (said_at own a).cancelled))
  put_order is =
      put_text
      ∙ ap (λ (t : List ℕ). text_from own list n ++ t)
      (order_row is ∙ line_is_printed (record { event = event; what = "F"; says = _ }) order_letter (unfold ascii in refl) ∙ sym (flat_one printed_line _))
