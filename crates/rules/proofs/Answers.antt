-- Laws of answers: what a block of `do` that went well went through, step by step.
use mathlib.Core.Path.{◌≡◌, refl}
use mathlib.Core.Bool.{Bool, true, false}
use Prim.Native.Nat.{ℕ}
use native.Mathlib.Omega.{arith}
use Rattle.rules.specs.Basics.{Answer, ok, refused, ◌>>=◌, Passed, demand}

pub refused_not_ok : {A : Type 0} (n p : ℕ) (a : A) → ◌≡◌ {A = Answer A} (refused n p) (ok a) → ⊥
refused_not_ok n p a e = let z : ◌≡◌ {A = ℕ} 0 1 = cc in omega arith

pub ok_is : {A : Type 0} {a b : A} → ◌≡◌ {A = Answer A} (ok a) (ok b) → a ≡ b
ok_is e = cc

-- a step that went well, and what came of it
pub record Went {A B : Type 0} (m : Answer A) (f : A → Answer B) (b : B) : Type 0 where
  pub value : A
  pub got : m ≡ ok value
  pub rest : f value ≡ ok b

pub went : {A B : Type 0} (m : Answer A) (f : A → Answer B) {b : B} → (m >>= f) ≡ ok b → Went m f b
unfolding ◌>>=◌
went (refused n p) f {b} e = absurd (refused_not_ok n p b e)
went (ok a) f e = record { value = a; got = refl; rest = e }

-- .. and the way back
pub goes_on_lem : {A B : Type 0} (m : Answer A) (f : A → Answer B) {a : A} → m ≡ ok a → (m >>= f) ≡ f a
unfolding ◌>>=◌
goes_on_lem m f e = rw e

-- a demand that was met
pub met : (t : Bool) (n p : ℕ) {b : Passed} → demand t n p ≡ ok b → t ≡ true
unfolding demand
met true n p e = refl
met false n p {b} e = absurd (refused_not_ok n p b e)

pub demand_met : (t : Bool) (n p : ℕ) → t ≡ true → demand t n p ≡ ok tt
unfolding demand
demand_met t n p e = rw e

pub demand_missed : (t : Bool) (n p : ℕ) → t ≡ false → demand t n p ≡ refused n p
unfolding demand
demand_missed t n p e = rw e
