-- What is promised of an exported function settles the number it answers, and every lent byte: two answers that it allows are
-- equal. The promise of each function is of one of these two forms.
use mathlib.Core.Path.{◌≡◌, sym, ◌∙◌}
use mathlib.Core.List.{List}
use Prim.Native.Nat.{ℕ}
use Rattle.rules.specs.Basics.{Answer}
use Rattle.desk.specs.Exports.{code_of, unwritten, Gives}

-- hasurenta_journal, hasurenta_check
pub answer_settled : {A : Type 0} (answer : Answer A) (r t : ℕ) → r ≡ code_of (unwritten answer) → t ≡ code_of (unwritten answer) → r ≡ t
answer_settled answer r t p q = p ∙ sym q

-- the others
pub gives_settled : (answer : Answer (List ℕ)) (lent : List ℕ) (r t : ℕ) (x y : List ℕ)
    → Gives answer lent r x → Gives answer lent t y → (r ≡ t) × (x ≡ y)
gives_settled answer lent r t x y p q = (p.code ∙ sym q.code, p.lent ∙ sym q.lent)
