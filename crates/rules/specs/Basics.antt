-- The words that the definitions are written in: choice, tests, tables of rules, lists, answers. Nothing of the desk's rules is here.
use Rattle.std.specs.Prelude.{ℕ, zero, suc, ◌+◌, Bool, true, false, ◌&&◌, ◌||◌, List, [], ◌∷◌, ◌++◌, leb, ltb, eqb, cond, if◌then◌else◌, ◌==◌}

-- 1 or 0
abbrev pub bit : Bool → ℕ
bit b = if b then 1 else 0

-- ---- tests on numbers

infix 40 ◌at_most◌ ◌at_least◌ ◌less_than◌ ◌more_than◌
abbrev pub ◌at_most◌ : ℕ → ℕ → Bool
m at_most n = leb m n

abbrev pub ◌at_least◌ : ℕ → ℕ → Bool
m at_least n = leb n m

abbrev pub ◌less_than◌ : ℕ → ℕ → Bool
m less_than n = ltb m n

abbrev pub ◌more_than◌ : ℕ → ℕ → Bool
m more_than n = ltb n m

-- from `low` to `high`, both included
abbrev pub within : ℕ → ℕ → ℕ → Bool
within low high n = n at_least low && n at_most high

-- ---- a table of rules: each row a number, and when it holds

pub record Row : Type 0 where
  pub number : ℕ
  pub holds : Bool

infix 25 ◌when◌
abbrev pub ◌when◌ : ℕ → Bool → Row
n when b = record { number = n; holds = b }

infixr 20 ◌¦◌
abbrev pub ◌¦◌ : Row → List Row → List Row
r ¦ rows = r ∷ rows

-- "first that holds": the number of that row, or 0
unfoldable pub first_of : List Row → ℕ
first_of [] = 0
first_of (r ∷ rows) = if r.holds then r.number else first_of rows

-- ---- lists

unfoldable pub sum : List ℕ → ℕ
sum [] = 0
sum (x ∷ xs) = x + sum xs

unfoldable pub any {ℓ} : {A : Type ℓ} → (A → Bool) → List A → Bool
any f [] = false
any f (x ∷ xs) = f x || any f xs

unfoldable pub all {ℓ} : {A : Type ℓ} → (A → Bool) → List A → Bool
all f [] = true
all f (x ∷ xs) = f x && all f xs

unfoldable pub keep {ℓ} : {A : Type ℓ} → (A → Bool) → List A → List A
keep f [] = []
keep f (x ∷ xs) = cond (f x) (x ∷ keep f xs) (keep f xs)

-- 0, 1, .. below n
unfoldable pub below : ℕ → List ℕ
below zero = []
below (suc n) = below n ++ (n ∷ [])

-- ---- answers: what was asked for, or a refusal with its number and its place

pub data Answer (A : Type 0) : Type 0 where
  refused : (number place : ℕ) → Answer A
  ok : A → Answer A

-- `do` goes on with what was asked for; a refusal stays: the first fault decides
infixl 15 ◌>>=◌
unfoldable pub ◌>>=◌ : {A B : Type 0} → Answer A → (A → Answer B) → Answer B
refused n p >>= f = refused n p
ok a >>= f = f a

-- an answer that says nothing but yes
abbrev pub Passed : Type 0
Passed = Unit {0}

-- refused with this number at this place unless the test holds
unfoldable pub demand : Bool → ℕ → ℕ → Answer Passed
demand true number place = ok tt
demand false number place = refused number place
