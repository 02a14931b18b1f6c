-- What a kind is and what belongs, but for the records that document 02 brought (8, 9, 10, 11): document 01's.
use mathlib.Core.Path.{◌≡◌, refl}
use mathlib.Core.Bool.{true, false, true≢false, and-false}
use Prim.Native.Nat.{ℕ, zero, suc, ◌≤◌, ◌<◌}
use native.Mathlib.Omega.{arith}
use borrow.Author.Tests.{lt-leb, ne_eqb}
use Rattle.std.specs.Prelude.{if◌then◌else◌, ◌==◌}
use Rattle.rules.specs.Basics.{◌at_least◌, within, any}
use Rattle.rules.specs.Header.{Header}
use Rattle.rules.specs.Record.{quote_kind, satisfaction_kind, naming_kind, closing_kind, batch_kind, cancellation_kind, known, Event, is_response, is_satisfaction, is_naming, is_closing, is_cancellation}
use Rattle.rules.specs.Journal.{History, response_belongs, satisfaction_belongs, belongs}

unknown_beyond : (h : Header) (k : ℕ) → cancellation_kind < k → known h k ≡ within quote_kind satisfaction_kind k
unfolding known any
unknown_beyond h k high =
    let other : (n : ℕ) → n ≤ cancellation_kind → (k == n) ≡ false = λ n low. ne_eqb k n (λ q. omega arith) in
    rw (
      other 1 (omega arith),
      other 2 (omega arith),
      other 3 (omega arith),
      other 4 (omega arith),
      other 5 (omega arith),
      other 6 (omega arith),
      other 7 (omega arith),
      other 8 (omega arith),
      other 9 (omega arith),
      other 10 (omega arith),
      other 11 (omega arith),
      lt-leb k satisfaction_kind (omega arith),
      and-false (k at_least quote_kind),
    )

pub known_otherwise : (h : Header) (k : ℕ) → (k == naming_kind) ≡ false → (k == closing_kind) ≡ false → (k == batch_kind) ≡ false → (k == cancellation_kind) ≡ false
    → known h k ≡ within quote_kind satisfaction_kind k
unfolding known any
known_otherwise h zero named closed batched taken = refl
known_otherwise h (suc zero) named closed batched taken = refl
known_otherwise h (suc (suc zero)) named closed batched taken = refl
known_otherwise h (suc (suc (suc zero))) named closed batched taken = refl
known_otherwise h (suc (suc (suc (suc zero)))) named closed batched taken = refl
known_otherwise h (suc (suc (suc (suc (suc zero))))) named closed batched taken = refl
known_otherwise h (suc (suc (suc (suc (suc (suc zero)))))) named closed batched taken = refl
known_otherwise h (suc (suc (suc (suc (suc (suc (suc zero))))))) named closed batched taken = refl
known_otherwise h (suc (suc (suc (suc (suc (suc (suc (suc zero)))))))) named closed batched taken = absurd (true≢false named)
known_otherwise h (suc (suc (suc (suc (suc (suc (suc (suc (suc zero))))))))) named closed batched taken = absurd (true≢false closed)
known_otherwise h (suc (suc (suc (suc (suc (suc (suc (suc (suc (suc zero)))))))))) named closed batched taken = absurd (true≢false batched)
known_otherwise h (suc (suc (suc (suc (suc (suc (suc (suc (suc (suc (suc zero))))))))))) named closed batched taken = absurd (true≢false taken)
known_otherwise h (suc (suc (suc (suc (suc (suc (suc (suc (suc (suc (suc (suc k)))))))))))) named closed batched taken =
    unknown_beyond h (suc (suc (suc (suc (suc (suc (suc (suc (suc (suc (suc (suc k)))))))))))) (omega arith)

pub belongs_otherwise : (h : Header) (past : History) (e : Event) → is_naming e ≡ false → is_closing e ≡ false → is_cancellation e ≡ false
    → belongs h past e ≡ (if is_response e then response_belongs past e else if is_satisfaction e then satisfaction_belongs past e else true)
unfolding belongs
belongs_otherwise h past e named closed taken = rw (named, closed, taken)
