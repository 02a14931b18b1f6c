-- "Sheet order: the journal's refusal first; 20; then line by line 21, 22, 24; then trade by trade 25, 26."
use mathlib.Core.Path.{◌≡◌, refl, sym, ap, ◌∙◌}
use mathlib.Core.List.{List}
use Prim.Native.Nat.{ℕ}
use Rattle.rules.specs.Basics.{Answer, refused, ok, ◌>>=◌, Passed}
use Rattle.rules.specs.Journal.{Journal, journal}
use Rattle.rules.specs.OwnSheet.{SheetLine}
use Rattle.rules.specs.SheetCheck.{beside, check_lines, check_trades, check_sheet}
use Rattle.rules.proofs.Answers.{refused_not_ok}
use Rattle.claims.specs.Lines.{line_in}
use Rattle.claims.specs.Books.{Books}
use Rattle.std.specs.Prelude.{Result, Ok, Err}
use Rattle.rows.specs.Refusals.{number_of, refused_as}
use Rattle.rows.specs.declared.Refusal.{Refusal}
use Rattle.rows.specs.declared.Refused.{Refused}
use Rattle.rows.proofs.Refusals.{same_number_same_refusal}
use Rattle.said.specs.declared.Said.{Said}
use Rattle.said.specs.Said.{each, said_line, lines_read, SheetRead}
use Rattle.checker.specs.Beside.{besides}
use Rattle.checker.specs.Check.{checked_as, check_of, TradesChecked, CheckedAs}
use Rattle.checker.proofs.Trades.{lines_each, each_long, beside_each}

-- the whole check is the journal's and then this one
pub check_of_lem : (s sheet : List ℕ) → check_sheet s sheet ≡ (journal s >>= λ j. check_of j sheet)
unfolding check_sheet check_of
check_of_lem s sheet = refl

-- "the journal's refusal first"
pub journal_refused_first : (s sheet : List ℕ) (number place : ℕ) → journal s ≡ refused number place → check_sheet s sheet ≡ refused number place
unfolding ◌>>=◌
journal_refused_first s sheet number place e = check_of_lem s sheet ∙ rw e

-- what the check of an accepted journal's tables answers is the whole check's answer
pub whole_check : (s sheet : List ℕ) (j : Journal) → journal s ≡ ok j → (claims trades : List ℕ) (traded lines : ℕ) → Books j trades claims traded lines
    → (r : Result (Unit {0}) Refused) → CheckedAs claims trades traded lines sheet r → checked_as r ≡ check_sheet s sheet
unfolding ◌>>=◌
whole_check s sheet j e claims trades traded lines b r c = c.so j b ∙ sym (check_of_lem s sheet ∙ rw e)

same_refused : (q p : Refused) → ◌≡◌ {A = Answer Passed} (refused_as q) (refused_as p) → q ≡ p
same_refused q p e =
    let n : number_of q.refusal ≡ number_of p.refusal = cc in
    let w : q.place ≡ p.place = cc in
    ap (λ (r : Refusal). record { refusal = r; place = q.place }) (same_number_same_refusal q.refusal p.refusal n)
    ∙ ap (λ (x : ℕ). record { refusal = p.refusal; place = x }) w

-- two answers that the promise allows are equal
pub checked_settled : (r t : Result (Unit {0}) Refused) → checked_as r ≡ checked_as t → r ≡ t
checked_settled (Ok a) (Ok b) e = refl
checked_settled (Ok a) (Err q) e = absurd (refused_not_ok (number_of q.refusal) q.place tt (sym e))
checked_settled (Err q) (Ok a) e = absurd (refused_not_ok (number_of q.refusal) q.place tt e)
checked_settled (Err q) (Err p) e = ap Err (same_refused q p e)

pub check_settled : (j : Journal) (claims trades : List ℕ) (traded lines : ℕ) → Books j trades claims traded lines → (sheet : List ℕ) (r t : Result (Unit {0}) Refused)
    → CheckedAs claims trades traded lines sheet r → CheckedAs claims trades traded lines sheet t → r ≡ t
check_settled j claims trades traded lines b sheet r t c d = checked_settled r t (c.so j b ∙ sym (d.so j b))

module _ (claims trades : List ℕ) (traded lines : ℕ) (sheet : List ℕ) (said : List Said) (r : Result (Unit {0}) Refused) (w : SheetRead sheet lines said r) where
  -- the check once the sheet is read so
  read_so : (j : Journal) → Books j trades claims traded lines → (a : Answer (List SheetLine)) → lines_read r said lines ≡ a
      → check_of j sheet ≡ (a >>= λ says. (check_lines (beside (each (line_in claims) 0 lines) says) >>= λ _. check_trades j (beside (each (line_in claims) 0 lines) says) 0 traded))
  unfolding check_of
  read_so j b a e =
      rw (lines_each j trades claims traded lines b, each_long (line_in claims) 0 lines, sym w.is ∙ e, sym b.traded.numbered)

  pub sheet_refused : (q : Refused) → r ≡ Err q → (t : Result (Unit {0}) Refused) → t ≡ Err q → CheckedAs claims trades traded lines sheet t
  unfolding ◌>>=◌
  sheet_refused q g t f =
      record { so = λ j b. ap checked_as f ∙ sym (read_so j b (refused_as q) (ap (λ (x : Result (Unit {0}) Refused). lines_read x said lines) g)) }

  module _ (g : r ≡ Ok tt) (c : Result (Unit {0}) Refused) (e : checked_as c ≡ check_lines (besides claims said lines)) where
    lines_so : (j : Journal) → Books j trades claims traded lines → (a : Answer Passed) → checked_as c ≡ a
        → check_of j sheet ≡ (a >>= λ _. check_trades j (besides claims said lines) 0 traded)
    unfolding ◌>>=◌ besides
    lines_so j b a q =
        read_so j b (ok (each (said_line said) 0 lines)) (ap (λ (x : Result (Unit {0}) Refused). lines_read x said lines) g)
        ∙ rw (beside_each (line_in claims) (said_line said) 0 lines, sym e ∙ q)

    pub line_fault : (q : Refused) → c ≡ Err q → (t : Result (Unit {0}) Refused) → t ≡ Err q → CheckedAs claims trades traded lines sheet t
    unfolding ◌>>=◌
    line_fault q h t f = record { so = λ j b. ap checked_as f ∙ sym (lines_so j b (refused_as q) (ap checked_as h)) }

    pub trades_decide : c ≡ Ok tt → (t : Result (Unit {0}) Refused) → TradesChecked claims trades lines said traded t → CheckedAs claims trades traded lines sheet t
    unfolding ◌>>=◌
    trades_decide h t tc =
        record { so = λ j b. tc.so j b (sym e ∙ ap checked_as h) ∙ sym (lines_so j b (ok tt) (ap checked_as h)) }

pub ruleset check_laws = (sheet_refused, line_fault, trades_decide)
