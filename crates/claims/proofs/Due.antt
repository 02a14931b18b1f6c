-- The due total of a trade, and the start.
use mathlib.Core.Path.{◌≡◌, refl, sym, ◌∙◌}
use mathlib.Core.Bool.{Bool, true, false}
use mathlib.Core.List.{List, []}
use Prim.Native.Nat.{ℕ, ◌+◌, ◌*◌, ◌<◌, min}
use native.Mathlib.Omega.{arith}
use lib.ListN.{get_or, replicate, length-replicate}
use Rattle.rules.specs.Basics.{below, keep, sum, bit}
use Rattle.rules.specs.Limits.{most_trades}
use Rattle.rules.specs.Header.{Header}
use Rattle.rules.specs.Record.{trade}
use Rattle.rules.specs.Journal.{History, count, trade_at, before_trade, taken_back}
use Rattle.rules.specs.Due.{capped, lines_of, lines, of_trade, claims_of, due_of, due}
use Rattle.rules.proofs.Tests.{replicate_at}
use Rattle.trades.specs.Trades.{trade_row, Traded}
use Rattle.reasons.specs.Reasons.{again_at}
use Rattle.claims.specs.Lines.{many_at, sum_at, again_word, line_words, lines_from, many_of, sum_of, trade_lines, Lined, Filing, DueIs}

bit_one : (b : Bool) → bit b ≡ 1 → b ≡ true
bit_one true p = refl
bit_one false p = let z : ⊥ = omega arith in elim z [ ]

bit_not_one : (b : Bool) → (bit b ≡ 1 → ⊥) → b ≡ false
bit_not_one true p = let z : ⊥ = p refl in elim z [ ]
bit_not_one false p = refl

module _ (claims trades : List ℕ) (m : ℕ) where
  module _ (h : Header) (past : History) (shown : List ℕ) (traded many_lines : ℕ) (hm : m < traded) (few : m < most_trades) (tv : Traded h past trades shown traded)
      (held : Lined h past claims many_lines) where
    cap_word : get_or trades (m * 8 + 6) 0 ≡ bit (capped h (before_trade m past) (trade (trade_at m past)))
    unfolding trade_row
    cap_word = tv.rows m 6 hm (omega arith)

    size_word : get_or trades (m * 8 + 1) 0 ≡ (trade (trade_at m past)).size
    unfolding trade_row
    size_word = tv.rows m 1 hm (omega arith)

    sum_word_lem : get_or claims (sum_at m) 0 ≡ sum (claims_of (of_trade m (lines_of h past past)))
    unfolding sum_of
    sum_word_lem = held.sums m few

    due_capped : get_or trades (m * 8 + 6) 0 ≡ 1 → min (get_or trades (m * 8 + 1) 0) (get_or claims (sum_at m) 0) ≡ due (record { header = h; history = past }) m
    unfolding due due_of lines
    due_capped p = rw (bit_one (capped h (before_trade m past) (trade (trade_at m past))) (sym cap_word ∙ p), size_word, sum_word_lem)

    due_whole : (get_or trades (m * 8 + 6) 0 ≡ 1 → ⊥) → get_or claims (sum_at m) 0 ≡ due (record { header = h; history = past }) m
    unfolding due due_of lines
    due_whole p = rw (bit_not_one (capped h (before_trade m past) (trade (trade_at m past))) (λ q. p (cap_word ∙ q)), sum_word_lem)

  pub capped_due : get_or trades (m * 8 + 6) 0 ≡ 1 → (r : ℕ) → r ≡ min (get_or trades (m * 8 + 1) 0) (get_or claims (sum_at m) 0) → DueIs claims trades m r
  capped_due p r e = record { so = λ h past shown traded many_lines hm few tv held. e ∙ due_capped h past shown traded many_lines hm few tv held p }

  pub whole_due : (get_or trades (m * 8 + 6) 0 ≡ 1 → ⊥) → DueIs claims trades m (get_or claims (sum_at m) 0)
  whole_due p = record { so = λ h past shown traded many_lines hm few tv held. due_whole h past shown traded many_lines hm few tv held p }

pub ruleset due_laws = (capped_due, whole_due)

-- ---- the start

none_of_trade : (m : ℕ) → ◌≡◌ {A = ℕ} (many_of (replicate line_words 0) m) 0
unfolding many_of
none_of_trade m = replicate_at {A = ℕ} line_words (many_at m) 0

none_claimed : (m : ℕ) → ◌≡◌ {A = ℕ} (sum_of (replicate line_words 0) m) 0
unfolding sum_of
none_claimed m = replicate_at {A = ℕ} line_words (sum_at m) 0

pub lines_none : (h : Header) → Lined h [] (replicate line_words 0) 0
unfolding lines_from lines_of below count keep of_trade sum trade_lines taken_back again_at
lines_none h =
    record {
      numbered = refl;
      lines = refl;
      by_trade = λ m hm. rw (none_of_trade m);
      sums = λ m hm. none_claimed m;
      told = λ i hi. let z : ⊥ = omega arith in elim z [ ];
      again = λ m y hm hy. replicate_at {A = ℕ} line_words (again_word m y) 0;
    }

pub nothing_filed : Filing (replicate line_words 0) 0
nothing_filed =
    record {
      few_lines = λ m h. omega (arith, none_of_trade m);
      earlier = λ m i h g. let z : ⊥ = omega (arith, none_of_trade m) in elim z [ ];
      of_trades = λ i h. let z : ⊥ = omega arith in elim z [ ];
      from_one = λ i h. let z : ⊥ = omega arith in elim z [ ];
      to_most = λ i h. let z : ⊥ = omega arith in elim z [ ];
      small = λ m h. omega (arith, none_claimed m);
      few = omega arith;
      long = length-replicate {A = ℕ} line_words 0;
    }
