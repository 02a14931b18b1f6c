-- "line by line 21, 22, 24".
use mathlib.Core.Path.{◌≡◌, refl, sym, ap, ◌∙◌}
use mathlib.Core.List.Memᴰ
use mathlib.Core.List.{List, [], ◌∷◌, Memᴰ}
use Prim.Native.Nat.{ℕ, suc, ◌+◌, ◌-◌, ◌*◌, ◌≤◌, ◌<◌}
use native.Mathlib.Nat.{sub-zero}
use native.Mathlib.Omega.{arith}
use lib.ListN.{get_or}
use borrow.Author.Tests.{eq-eqb, ne_eqb, le-leb, lt-leb, leb-true}
use Rattle.rules.specs.Basics.{Answer, refused, ok, ◌>>=◌, Passed, demand}
use Rattle.rules.specs.Refusals.{does_not_add_up, wrong_reason, above_claim}
use Rattle.rules.specs.SheetCheck.{Beside, check_line, check_lines}
use Rattle.rules.proofs.Answers.{went, met}
use Rattle.rules.proofs.Tests.{on_cons}
use Rattle.std.specs.Prelude.{Result, Ok, Err}
use Rattle.rules.specs.OwnSheet.{SheetLine}
use Rattle.rows.specs.Refusals.{refused_as}
use Rattle.rows.specs.declared.Refusal.TheVariants.{DoesNotAddUp, WrongReason, AboveClaim}
use Rattle.rows.specs.declared.Refused.{Refused}
use Rattle.said.specs.Said.{each, nothing, as_line}
use Rattle.said.specs.declared.Said.{Said}
use Rattle.checker.specs.Beside.{beside_at, besides, LinesChecking}
use Rattle.checker.specs.Check.{checked_as, LineJudged}

-- ---- one line

module _ (b : Beside) where
  not_adding_up : (b.sheet.filled + b.sheet.cancelled ≡ b.line.size → ⊥) → refused does_not_add_up b.line.number ≡ check_line b
  unfolding check_line ◌>>=◌ demand
  not_adding_up n = rw (ne_eqb _ _ n)

  module _ (adds : b.sheet.filled + b.sheet.cancelled ≡ b.line.size) where
    not_its_reason : (b.sheet.reason ≡ b.line.reason → ⊥) → refused wrong_reason b.line.number ≡ check_line b
    unfolding check_line ◌>>=◌ demand
    not_its_reason n = rw (eq-eqb _ _ adds, ne_eqb _ _ n)

    module _ (named : b.sheet.reason ≡ b.line.reason) where
      beyond_claim : b.line.claim < b.sheet.filled → refused above_claim b.line.number ≡ check_line b
      unfolding check_line ◌>>=◌ demand
      beyond_claim h = rw (eq-eqb _ _ adds, eq-eqb _ _ named, lt-leb _ _ h)

      good : b.sheet.filled ≤ b.line.claim → ok tt ≡ check_line b
      unfolding check_line ◌>>=◌ demand
      good h = rw (eq-eqb _ _ adds, eq-eqb _ _ named, le-leb _ _ h)

-- what the sheet says of the line, word by word
module _ {said : Said} (b : Beside) (e : b.sheet ≡ as_line said) where
  named : b.sheet.reason ≡ said.reason
  named = ap (λ (l : SheetLine). l.reason) e

  filled : b.sheet.filled ≡ said.filled
  filled = ap (λ (l : SheetLine). l.filled) e

  cancelled : b.sheet.cancelled ≡ said.cancelled
  cancelled = ap (λ (l : SheetLine). l.cancelled) e

module _ (number size reason claim : ℕ) (said : Said) (f c s : ℕ) (ef : f ≡ said.filled) (ec : c ≡ said.cancelled) (es : s ≡ size) where
  pub line_adds_not : (f + c ≡ s → ⊥) → LineJudged number size reason claim said (Err (record { refusal = DoesNotAddUp; place = number }))
  line_adds_not n = record { is = λ b en ez er el et. ap (refused does_not_add_up) (sym en) ∙ not_adding_up b (λ q. n (omega (arith, filled b et, cancelled b et))) }

  module _ (adds : f + c ≡ s) where
    pub line_reason_not : (said.reason ≡ reason → ⊥) → LineJudged number size reason claim said (Err (record { refusal = WrongReason; place = number }))
    line_reason_not n =
        record {
          is =
              λ b en ez er el et.
              ap (refused wrong_reason) (sym en) ∙ not_its_reason b (omega (arith, filled b et, cancelled b et)) (λ q. n (sym (named b et) ∙ q ∙ er));
        }

    module _ (same : said.reason ≡ reason) where
      pub line_beyond : claim < said.filled → LineJudged number size reason claim said (Err (record { refusal = AboveClaim; place = number }))
      line_beyond h =
          record {
            is =
                λ b en ez er el et.
                ap (refused above_claim) (sym en)
                ∙ beyond_claim b (omega (arith, filled b et, cancelled b et)) (named b et ∙ same ∙ sym er) (omega (arith, filled b et));
          }

      pub line_good : said.filled ≤ claim → LineJudged number size reason claim said (Ok tt)
      line_good h =
          record { is = λ b en ez er el et. good b (omega (arith, filled b et, cancelled b et)) (named b et ∙ same ∙ sym er) (omega (arith, filled b et)) }

pub ruleset line_laws = (line_adds_not, line_reason_not, line_beyond, line_good)

pub line_checked : (claims : List ℕ) (said : List Said) (i : ℕ) (r : Result (Unit {0}) Refused)
    → LineJudged i (get_or claims (i * 8 + 1) 0) (get_or claims (i * 8 + 2) 0) (get_or claims (i * 8 + 4) 0) (get_or said i nothing) r
    → checked_as r ≡ check_line (beside_at claims said i)
line_checked claims said i r d = d.is (beside_at claims said i) refl refl refl refl refl

-- ---- line by line

module _ (claims : List ℕ) (said : List Said) (lines : ℕ) where
  pub no_line_checked : LinesChecking claims said lines 0
  unfolding besides
  no_line_checked = record { rest = rw sub-zero; low = omega arith }

  module _ (i : ℕ) (w : LinesChecking claims said lines i) where
    pub lines_checked : lines ≤ i → ok tt ≡ check_lines (besides claims said lines)
    unfolding check_lines each
    lines_checked h = let d : lines - i ≡ 0 = omega arith in sym (w.rest ∙ rw d)

    module _ (h : i < lines) (r : Result (Unit {0}) Refused) (e : checked_as r ≡ check_line (beside_at claims said i)) where
      left : lines - i ≡ suc (lines - (i + 1))
      left = omega arith

      on : (a : Answer Passed) → a ≡ check_line (beside_at claims said i)
          → check_lines (besides claims said lines) ≡ (a >>= λ _. check_lines (each (beside_at claims said) (i + 1) (lines - (i + 1))))
      unfolding check_lines each
      on a q = w.rest ∙ rw (left, q)

      pub line_refused : (q : Refused) → r ≡ Err q → (t : Result (Unit {0}) Refused) → t ≡ Err q → checked_as t ≡ check_lines (besides claims said lines)
      unfolding ◌>>=◌
      line_refused q g t f = ap checked_as f ∙ sym (on (refused_as q) (sym (ap checked_as g) ∙ e))

      pub line_passed : r ≡ Ok tt → LinesChecking claims said lines (i + 1)
      unfolding ◌>>=◌
      line_passed g = record { rest = on (ok tt) (sym (ap checked_as g) ∙ e); low = omega arith }

pub ruleset lines_laws = (no_line_checked, lines_checked, line_refused, line_passed)

-- ---- a line that passed is not filled above its claim

line_within : (b : Beside) {v : Passed} → check_line b ≡ ok v → b.sheet.filled ≤ b.line.claim
unfolding check_line
line_within b e = leb-true _ _ (met _ _ _ (went _ _ (went _ _ e).rest).rest)

pub lines_within : (bs : List Beside) {v : Passed} → check_lines bs ≡ ok v → (b : Beside) → Memᴰ b bs → b.sheet.filled ≤ b.line.claim
unfolding check_lines
lines_within [] e b m = absurd (Memᴰ.not-nil m)
lines_within (x ∷ bs) e b m =
    on_cons (λ (y : Beside). y.sheet.filled ≤ y.line.claim) (line_within x (went _ _ e).got) (lines_within bs (went _ _ e).rest) b m
