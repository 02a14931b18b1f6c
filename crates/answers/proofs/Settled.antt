-- What is promised of an entry settles its answer, and the lent bytes: two answers that it allows are equal. And what our own
-- writer writes for an accepted journal, the check accepts.
use mathlib.Core.Path.{◌≡◌, sym, ap, ◌∙◌}
use mathlib.Core.List.{List}
use Prim.Native.Nat.{ℕ}
use lib.ListN.{length, take}
use lib.Seq.{take-append_seam}
use Rattle.rules.specs.Basics.{Answer, refused, ok}
use Rattle.rules.specs.Writing.{into, lent_after, write_day, write_sheet}
use Rattle.rules.specs.SheetCheck.{check_sheet}
use Rattle.rules.proofs.Answers.{refused_not_ok, ok_is, went}
use Rattle.rules.proofs.OwnSheet.{own_sheet_accepted}
use Rattle.number.specs.Writing.{Left, leaves}
use Rattle.journal.specs.Entries.{left_by}
use Rattle.std.specs.Prelude.{Result, Ok}
use Rattle.rows.specs.declared.Refused.{Refused}
use Rattle.journal.proofs.Settled.{left_settled}
use Rattle.checker.specs.Check.{checked_as}
use Rattle.checker.proofs.Check.{checked_settled}

pub day_settled : (s lent : List ℕ) (room : ℕ) (a b : Result ℕ Refused) (x y : List ℕ) → left_by a x ≡ leaves (write_day s room) lent
    → left_by b y ≡ leaves (write_day s room) lent → (a ≡ b) × (x ≡ y)
day_settled s lent room a b x y p q = left_settled (leaves (write_day s room) lent) a b x y p q

pub sheet_settled : (s lent : List ℕ) (room : ℕ) (a b : Result ℕ Refused) (x y : List ℕ) → left_by a x ≡ leaves (write_sheet s room) lent
    → left_by b y ≡ leaves (write_sheet s room) lent → (a ≡ b) × (x ≡ y)
sheet_settled s lent room a b x y p q = left_settled (leaves (write_sheet s room) lent) a b x y p q

pub check_settled : (s sheet : List ℕ) (a b : Result (Unit {0}) Refused) → checked_as a ≡ check_sheet s sheet → checked_as b ≡ check_sheet s sheet → a ≡ b
check_settled s sheet a b p q = checked_settled a b (p ∙ sym q)

-- ---- demand 3, last sentence, over the entries

-- the bytes that a writer answered for are those of its definition
wrote_its_bytes : (x : Answer (List ℕ)) (lent after : List ℕ) (n : ℕ) → left_by (Ok n) after ≡ leaves x lent → x ≡ ok (take n after)
unfolding leaves lent_after
wrote_its_bytes (refused k p) lent after n e = absurd (refused_not_ok k p n (sym (ap (λ (l : Left). l.answer) e)))
wrote_its_bytes (ok bytes) lent after n e =
    let many : n ≡ length bytes = ok_is (ap (λ (l : Left). l.answer) e) in
    let all = ap (λ (l : Left). l.bytes) e in
    sym (rw (many, all) (ap ok (take-append_seam bytes _)))

own_bytes : (s bytes : List ℕ) (room : ℕ) → write_sheet s room ≡ ok bytes → check_sheet s bytes ≡ ok tt
unfolding write_sheet into
own_bytes s bytes room e =
    let w = went _ _ e in
    let v = went _ _ w.rest in
    rw (← ok_is v.rest) (own_sheet_accepted s w.value w.got)

-- what the sheet writer writes for any bytes, the check of those bytes accepts
pub own_sheet_is_accepted : (s lent after : List ℕ) (room n : ℕ) → left_by (Ok n) after ≡ leaves (write_sheet s room) lent
    → (v : Result (Unit {0}) Refused) → checked_as v ≡ check_sheet s (take n after) → v ≡ Ok tt
own_sheet_is_accepted s lent after room n e v ev =
    checked_settled v (Ok tt) (ev ∙ own_bytes s (take n after) room (wrote_its_bytes (write_sheet s room) lent after n e))
