-- Laws of tests, choices and lists: what a test that holds says of numbers, and the way back.
use mathlib.Core.Path.{◌≡◌, refl, sym, ap, ◌∙◌, subst}
use mathlib.Core.Bool.{Bool, true, false, not, ◌&&◌, ◌||◌, true≢false, false≢true, So, and-eq-true_iff, and_assoc, or_assoc}
use mathlib.Core.List.Memᴰ
use mathlib.Core.List.{List, [], ◌∷◌, ◌++◌, map, flat_map, append_assoc, append-nil, Memᴰ}
use mathlib.Core.Logic.{◌⊎◌, inl, inr, ◌↔◌}
use Prim.Native.Nat.{ℕ, zero, suc, ◌≤◌, ◌<◌}
use lib.ListN.{length, get_or, replicate}
use native.Mathlib.Omega.{arith}
use lib.Dec.{ltb, leb, eqb}
use borrow.Author.Tests.{ltb-true, ltb-false, leb-true, leb-false, eqb-true, eqb-false, not-true, lt-ltb, le-ltb, le-leb, lt-leb, eq-eqb, ne_eqb}
use Rattle.std.specs.Prelude.{if◌then◌else◌}
use Rattle.rules.specs.Basics.{bit, all, any, keep}

-- by cases on a test, with the equation
pub by_test {ℓ} : {X : Type ℓ} (b : Bool) → (b ≡ true → X) → (b ≡ false → X) → X
by_test true f g = f refl
by_test false f g = g refl

-- a test as a number, asked again
pub bit_is : (b : Bool) → eqb (bit b) 1 ≡ b
bit_is true = refl
bit_is false = refl

pub bit_zero : (b : Bool) → eqb (bit b) 0 ≡ not b
bit_zero true = refl
bit_zero false = refl

pub and_left : (a b : Bool) → (a && b) ≡ true → a ≡ true
and_left true b e = refl
and_left false b e = e

pub and_right : (a b : Bool) → (a && b) ≡ true → b ≡ true
and_right true b e = e
and_right false b e = absurd (false≢true e)

pub and_make : (a b : Bool) → a ≡ true → b ≡ true → (a && b) ≡ true
and_make a b p q = rw (p, q)

-- `not a || b` read as: b where a
pub when_true : (a b : Bool) → (not a || b) ≡ true → a ≡ true → b ≡ true
when_true true b e p = e
when_true false b e p = absurd (false≢true p)

pub when_make : (a b : Bool) → (a ≡ true → b ≡ true) → (not a || b) ≡ true
when_make true b f = f refl
when_make false b f = refl

pub all_at {ℓ} : {A : Type ℓ} (f : A → Bool) (l : List A) {x : A} → all f l ≡ true → Memᴰ x l → f x ≡ true
unfolding all
all_at f [] e m = absurd (Memᴰ.not-nil m)
all_at f (y ∷ l) {x} e m =
    go (λ m'. all_at f l (and_right (f y) (all f l) e) m') (Memᴰ.cases_cons m)
  where
    go : (Memᴰ x l → f x ≡ true) → (x ≡ y) ⊎ Memᴰ x l → f x ≡ true
    go below (inl p) = ap f p ∙ and_left (f y) (all f l) e
    go below (inr m') = below m'

pub all_make {ℓ} : {A : Type ℓ} (f : A → Bool) (l : List A) → ((x : A) → Memᴰ x l → f x ≡ true) → all f l ≡ true
unfolding all
all_make f [] h = refl
all_make f (y ∷ l) h = and_make (f y) (all f l) (h y (Memᴰ.head refl)) (all_make f l (λ x m. h x (Memᴰ.tail m)))

pub all_append : {A : Type 0} (f : A → Bool) (a b : List A) → all f (a ++ b) ≡ (all f a && all f b)
unfolding all
all_append f [] b = refl
all_append f (x ∷ a) b = rw (all_append f a b) (sym (and_assoc (f x) (all f a) (all f b)))

-- tests as facts: `simp facts at h` turns a test that holds into facts on numbers, which omega reads
pub ltb_iff : (a b : ℕ) → So (ltb a b) ↔ (a < b)
ltb_iff a b = (ltb-true a b, lt-ltb a b)

pub leb_iff : (a b : ℕ) → So (leb a b) ↔ (a ≤ b)
leb_iff a b = (leb-true a b, le-leb a b)

pub eqb_iff : (a b : ℕ) → So (eqb a b) ↔ (a ≡ b)
eqb_iff a b = (eqb-true a b, eq-eqb a b)

pub ltb_not : (a b : ℕ) → So (not (ltb a b)) ↔ (b ≤ a)
ltb_not a b = (λ e. ltb-false a b (not-true _ e), λ h. ap not (le-ltb a b h))

pub leb_not : (a b : ℕ) → So (not (leb a b)) ↔ (b < a)
leb_not a b = (λ e. leb-false a b (not-true _ e), λ h. ap not (lt-leb a b h))

pub eqb_not : (a b : ℕ) → So (not (eqb a b)) ↔ (a ≡ b → ⊥)
eqb_not a b = (λ e. eqb-false a b (not-true _ e), λ h. ap not (ne_eqb a b h))

pub ruleset facts = (and-eq-true_iff, ltb_iff, leb_iff, eqb_iff, ltb_not, leb_not, eqb_not)

-- ---- or

pub or_left : (a b : Bool) → (a || b) ≡ false → a ≡ false
or_left true b e = e
or_left false b e = refl

pub or_right : (a b : Bool) → (a || b) ≡ false → b ≡ false
or_right true b e = absurd (true≢false e)
or_right false b e = e

pub on_cons {ℓ κ} : {A : Type ℓ} (P : A → Type κ) {a : A} {l : List A} → P a → ((x : A) → Memᴰ x l → P x) → (x : A) → Memᴰ x (a ∷ l) → P x
on_cons P {a} {l} pa pl x m = go (Memᴰ.cases_cons m)
  where
    go : (x ≡ a) ⊎ Memᴰ x l → P x
    go (inl p) = subst P (sym p) pa
    go (inr m') = pl x m'

pub any_none {ℓ} : {A : Type ℓ} (f : A → Bool) (l : List A) → any f l ≡ false → (x : A) → Memᴰ x l → f x ≡ false
unfolding any
any_none f [] e x m = absurd (Memᴰ.not-nil m)
any_none f (y ∷ l) e x m =
    on_cons (λ z. f z ≡ false) (or_left (f y) (any f l) e) (λ z m'. any_none f l (or_right (f y) (any f l) e) z m') x m

pub any_make {ℓ} : {A : Type ℓ} (f : A → Bool) (l : List A) (x : A) → Memᴰ x l → f x ≡ true → any f l ≡ true
any_make f l x m e = by_test (any f l) (λ p. p) (λ p. absurd (true≢false (sym e ∙ any_none f l p x m)))

pub any_append : {A : Type 0} (f : A → Bool) (a b : List A) → any f (a ++ b) ≡ (any f a || any f b)
unfolding any
any_append f [] b = refl
any_append f (x ∷ a) b = rw (any_append f a b) (sym (or_assoc (f x) (any f a) (any f b)))

-- ---- what is kept of a list

pub keep_sub : {A : Type 0} (f : A → Bool) (l : List A) (x : A) → Memᴰ x (keep f l) → Memᴰ x l
unfolding keep
keep_sub f [] x m = absurd (Memᴰ.not-nil m)
keep_sub f (y ∷ l) x m =
    by_test (f y)
    (λ e. on_cons (λ z. Memᴰ z (y ∷ l)) (Memᴰ.head refl) (λ z k. Memᴰ.tail (keep_sub f l z k)) x (rw e at m))
    (λ e. Memᴰ.tail (keep_sub f l x (rw e at m)))

pub keep_holds : {A : Type 0} (f : A → Bool) (l : List A) (x : A) → Memᴰ x (keep f l) → f x ≡ true
unfolding keep
keep_holds f [] x m = absurd (Memᴰ.not-nil m)
keep_holds f (y ∷ l) x m = by_test (f y) (λ e. on_cons (λ z. f z ≡ true) e (keep_holds f l) x (rw e at m)) (λ e. keep_holds f l x (rw e at m))

pub keep_map : {A B : Type 0} (p : B → Bool) (g : A → B) (l : List A) → keep p (map g l) ≡ map g (keep (λ x. p (g x)) l)
unfolding keep
keep_map p g [] = refl
keep_map p g (x ∷ l) = by_test (p (g x)) (λ e. rw (e, keep_map p g l)) (λ e. rw (e, keep_map p g l))

-- what is kept is the same where the test is, and where it holds the element is
pub keep_map_same : {A : Type 0} (p : A → Bool) (f : A → A) (l : List A) → ((x : A) → Memᴰ x l → p (f x) ≡ p x)
    → ((x : A) → Memᴰ x l → p x ≡ true → f x ≡ x) → keep p (map f l) ≡ keep p l
unfolding keep
keep_map_same p f [] tests same = refl
keep_map_same p f (x ∷ l) tests same =
    let ih = keep_map_same p f l (λ y m. tests y (Memᴰ.tail m)) (λ y m. same y (Memᴰ.tail m)) in
    by_test (p x)
    (λ e. rw (tests x (Memᴰ.head refl), e, same x (Memᴰ.head refl) e, ih))
    (λ e. rw (tests x (Memᴰ.head refl), e, ih))

pub keep_append : {A : Type 0} (f : A → Bool) (a b : List A) → keep f (a ++ b) ≡ keep f a ++ keep f b
unfolding keep
keep_append f [] b = refl
keep_append f (x ∷ a) b = by_test (f x) (λ e. rw (e, keep_append f a b)) (λ e. rw (e, keep_append f a b))

pub keep_more : {A : Type 0} (f : A → Bool) (l : List A) (x : A) → keep f (l ++ (x ∷ [])) ≡ keep f l ++ (if f x then x ∷ [] else [])
unfolding keep
keep_more f l x = keep_append f l (x ∷ [])

-- ---- what each element of a list gives

pub flat_append : {A B : Type 0} (f : A → List B) (a b : List A) → flat_map f (a ++ b) ≡ flat_map f a ++ flat_map f b
unfolding flat_map
flat_append f [] b = refl
flat_append f (x ∷ a) b = rw (flat_append f a b) (sym (append_assoc (f x) (flat_map f a) (flat_map f b)))

pub flat_one : {A B : Type 0} (f : A → List B) (x : A) → flat_map f (x ∷ []) ≡ f x
unfolding flat_map
flat_one f x = append-nil (f x)

pub flat_more : {A B : Type 0} (f : A → List B) (l : List A) (x : A) → flat_map f (l ++ (x ∷ [])) ≡ flat_map f l ++ f x
flat_more f l x = flat_append f l (x ∷ []) ∙ ap (λ r. flat_map f l ++ r) (flat_one f x)

pub map_same : {A B : Type 0} (f g : A → B) (l : List A) → ((x : A) → Memᴰ x l → f x ≡ g x) → map f l ≡ map g l
map_same f g [] h = refl
map_same f g (x ∷ l) h = rw (h x (Memᴰ.head refl), map_same f g l (λ y m. h y (Memᴰ.tail m)))

pub map_all : {A B : Type 0} (P : B → Type 0) (f : A → B) (l : List A) → ((x : A) → Memᴰ x l → P (f x)) → (y : B) → Memᴰ y (map f l) → P y
map_all P f [] h y m = absurd (Memᴰ.not-nil m)
map_all P f (x ∷ l) h y m = on_cons P (h x (Memᴰ.head refl)) (map_all P f l (λ z k. h z (Memᴰ.tail k))) y m

-- of an element of `xs ++ (if b then y ∷ [] else [])`
pub at_end : {A : Type 0} (P : A → Type 0) (xs : List A) (b : Bool) (y : A)
    → ((x : A) → Memᴰ x xs → P x) → (b ≡ true → P y) → (x : A) → Memᴰ x (xs ++ (if b then y ∷ [] else [])) → P x
at_end P xs true y f g x m = go (Memᴰ.append_cases xs m)
  where
    go : Memᴰ x xs ⊎ Memᴰ x (y ∷ []) → P x
    go (inl m') = f x m'
    go (inr m') = subst P (sym (Memᴰ.eq_of_singleton m')) (g refl)
at_end P xs false y f g x m = go (Memᴰ.append_cases xs m)
  where
    go : Memᴰ x xs ⊎ Memᴰ x [] → P x
    go (inl m') = f x m'
    go (inr m') = absurd (Memᴰ.not-nil m')

-- ---- a list by its places, and by its members

pub by_place : {A : Type 0} (P : A → Type 0) (d : A) (l : List A) → ((x : A) → Memᴰ x l → P x) → (i : ℕ) → i < length l → P (get_or l i d)
by_place P d [] f i h = absurd (omega arith)
by_place P d (x ∷ l) f zero h = f x (Memᴰ.head refl)
by_place P d (x ∷ l) f (suc i) h = by_place P d l (λ y m. f y (Memᴰ.tail m)) i (omega arith)

pub by_member : {A : Type 0} (P : A → Type 0) (d : A) (l : List A) → ((i : ℕ) → i < length l → P (get_or l i d)) → (x : A) → Memᴰ x l → P x
by_member P d [] f x m = absurd (Memᴰ.not-nil m)
by_member P d (y ∷ l) f x m = on_cons P (f 0 (omega arith)) (by_member P d l (λ i h. f (suc i) (omega arith))) x m

pub replicate_at : {A : Type 0} (n k : ℕ) (d : A) → get_or (replicate n d) k d ≡ d
replicate_at zero k d = refl
replicate_at (suc n) zero d = refl
replicate_at (suc n) (suc k) d = replicate_at n k d
