-- Giving one contract at a time: each round gives one contract while a claim is open, and keeps every two lines fair.
use mathlib.Core.Path.{◌≡◌, refl, sym, ◌∙◌}
use mathlib.Core.Bool.{Bool, true, false, false≢true, true≢false}
use mathlib.Core.List.Memᴰ
use mathlib.Core.List.{List, [], ◌∷◌, map, Memᴰ}
use mathlib.Core.Logic.{◌⊎◌, inl, inr}
use Prim.Native.Nat.{ℕ, ◌+◌, ◌*◌, ◌≤◌, ◌<◌}
use native.Mathlib.Nat.{add-mul, le_of_mul-le-mul_right, mul-le-mul_right, mul_right_comm, le_of_lt}
use native.Mathlib.Omega.{arith}
use lib.Dec.{leb}
use borrow.Author.Tests.{ltb-true, leb-true, le-leb, lt-ltb, ltb-false, leb-false}
use Rattle.rules.specs.Basics.{any, sum}
use Rattle.rules.specs.Due.{Share, unfilled, fair}
use Rattle.rules.specs.OwnSheet.{no_later, is_next, one_more, at_first, give_one}
use Rattle.rules.proofs.Tests.{by_test, and_left, and_right, and_make, when_true, when_make, all_at, all_make, on_cons, any_none, any_make}

-- ---- a round keeps every two lines fair

-- what the share rule says of two shares, as a fact on numbers
abbrev pub Fair : Share → Share → Type 0
Fair a b = a.filled < a.line.claim → b.filled * a.line.customers ≤ (a.filled + 1) * b.line.customers

pub fair_says : (a b : Share) → fair a b ≡ true → Fair a b
unfolding fair
fair_says a b e h = leb-true _ _ (when_true (unfilled a) _ e (lt-ltb _ _ h))

pub says_fair : (a b : Share) → Fair a b → fair a b ≡ true
unfolding fair
says_fair a b h = when_make (unfilled a) _ (λ u. le-leb _ _ (h (ltb-true _ _ u)))

-- a share after the round is one from before, or one more than the next one
pub data After (ss : List Share) (a : Share) : Type 0 where
  kept : Memᴰ a ss → After ss a
  given : (n : Share) → Memᴰ n ss → is_next ss n ≡ true → a ≡ one_more n → After ss a

pub after : (ss tt : List Share) (a : Share) → ((b : Share) → Memᴰ b tt → Memᴰ b ss) → Memᴰ a (at_first (is_next ss) tt) → After ss a
unfolding at_first
after ss [] a sub m = absurd (Memᴰ.not-nil m)
after ss (t ∷ tt) a sub m =
    by_test (is_next ss t)
    (λ e. first e (Memᴰ.cases_cons (rw e at m)))
    (λ e. later (λ m'. after ss tt a (λ b h. sub b (Memᴰ.tail h)) m') (Memᴰ.cases_cons (rw e at m)))
  where
    first : is_next ss t ≡ true → (a ≡ one_more t) ⊎ Memᴰ a tt → After ss a
    first e (inl p) = given t (sub t (Memᴰ.head refl)) e p
    first e (inr m') = kept (sub a (Memᴰ.tail m'))

    later : (Memᴰ a (at_first (is_next ss) tt) → After ss a) → (a ≡ t) ⊎ Memᴰ a (at_first (is_next ss) tt) → After ss a
    later below (inl p) = kept (sub a (Memᴰ.head p))
    later below (inr m') = below m'

-- what is known of the next one
pub next_open : (ss : List Share) (n : Share) → is_next ss n ≡ true → n.filled < n.line.claim
unfolding is_next
next_open ss n e = ltb-true _ _ (and_left (unfilled n) _ e)

next_least : (ss : List Share) (n b : Share) → is_next ss n ≡ true → Memᴰ b ss → b.filled < b.line.claim → (n.filled + 1) * b.line.customers ≤ (b.filled + 1) * n.line.customers
unfolding is_next no_later
next_least ss n b e m h =
    leb-true _ _ (when_true (unfilled b) _ (all_at (no_later n) ss (and_right (unfilled n) _ e) m) (lt-ltb _ _ h))

more : (m k c : ℕ) → m ≤ (k + 1) * c → m ≤ (k + 1 + 1) * c
more m k c h = omega (arith, add-mul (k + 1) 1 c)

-- the four cases of the step
two : (ss : List Share) → ((a b : Share) → Memᴰ a ss → Memᴰ b ss → Fair a b) → (a b : Share) → After ss a → After ss b → Fair a b
two ss old a b (kept ma) (kept mb) h = old a b ma mb h
two ss old a b (kept ma) (given n mn e p) h = rw p (next_least ss n a e ma h)
two ss old a b (given n mn e p) (kept mb) h = rw p (more _ _ _ (old n b mn mb (next_open ss n e)))
two ss old a b (given n mn e p) (given n' mn' e' p') h =
    rw (p, p') (more _ _ _ (next_least ss n' n e' mn (next_open ss n e)))

-- every two shares of a list are fair to each other
abbrev pub FairAll : List Share → Type 0
FairAll ss = (a b : Share) → Memᴰ a ss → Memᴰ b ss → Fair a b

pub round_keeps_fair : (ss : List Share) → FairAll ss → FairAll (give_one ss)
unfolding give_one
round_keeps_fair ss old a b ma mb = two ss old a b (after ss ss a (λ c h. h) ma) (after ss ss b (λ c h. h) mb)

-- ---- a round gives one contract

abbrev pub total : List Share → ℕ
total ss = sum (map (λ (a : Share). a.filled) ss)

abbrev pub claims : List Share → ℕ
claims ss = sum (map (λ (a : Share). a.line.claim) ss)

-- one round gives one contract
at_first_total : (f : Share → Bool) (tt : List Share) → any f tt ≡ true → total (at_first f tt) ≡ total tt + 1
unfolding at_first any sum
at_first_total f [] e = absurd (false≢true e)
at_first_total f (t ∷ tt) e =
    by_test (f t)
    (λ p. rw p (omega arith))
    (λ p. let ih = at_first_total f tt (rw p at e) in rw p (omega arith))

-- no line is filled above its claim
abbrev pub Within : List Share → Type 0
Within ss = (a : Share) → Memᴰ a ss → a.filled ≤ a.line.claim

-- a claim is not filled
some_unfilled : (ss : List Share) → Within ss → total ss < claims ss → any unfilled ss ≡ true
unfolding any sum
some_unfilled [] w h = absurd (omega arith)
some_unfilled (a ∷ ss) w h =
    by_test (unfilled a)
    (λ u. rw u)
    (λ u.
    let p : a.line.claim ≤ a.filled = ltb-false _ _ u in
    let q = w a (Memᴰ.head refl) in
    rw u (some_unfilled ss (λ b m. w b (Memᴰ.tail m)) (omega arith)))

-- fractions: x / c ≤ y / d ≤ z / e
trans : (x c y d z e : ℕ) → 0 < d → x * d ≤ y * c → y * e ≤ z * d → x * e ≤ z * c
trans x c y d z e p h k =
    le_of_mul-le-mul_right {k = d}
    (omega (arith, mul_right_comm x e d, mul-le-mul_right e h, mul_right_comm y c e, mul-le-mul_right c k, mul_right_comm z d c))
    p

-- the least of the unfilled lines of a list
pub record Least (ss : List Share) : Type 0 where
  pub one : Share
  pub among : Memᴰ one ss
  pub open_claim : one.filled < one.line.claim
  pub least : (b : Share) → Memᴰ b ss → b.filled < b.line.claim → (one.filled + 1) * b.line.customers ≤ (b.filled + 1) * one.line.customers

-- whoever has a claim has customers
abbrev pub Served : List Share → Type 0
Served ss = (a : Share) → Memᴰ a ss → a.filled < a.line.claim → 0 < a.line.customers

least_of_lem : (ss : List Share) → Served ss → any unfilled ss ≡ true → Least ss
unfolding any
least_of_lem [] sv e = absurd (false≢true e)
least_of_lem (a ∷ ss) sv e =
    by_test (any unfilled ss)
    (λ more. let l = least_of_lem ss (λ b m. sv b (Memᴰ.tail m)) more in by_test (unfilled a) (λ u. both u l) (λ u. old u l))
    (λ none. by_test (unfilled a) (λ u. only u none) (λ u. absurd (false≢true (sym none ∙ (rw u at e)))))
  where
    both : unfilled a ≡ true → Least ss → Least (a ∷ ss)
    both u l =
        let h = ltb-true a.filled a.line.claim u in
        by_test (leb ((a.filled + 1) * l.one.line.customers) ((l.one.filled + 1) * a.line.customers))
        (λ t.
        record {
          one = a;
          among = Memᴰ.head refl;
          open_claim = h;
          least =
              on_cons (λ b. b.filled < b.line.claim → (a.filled + 1) * b.line.customers ≤ (b.filled + 1) * a.line.customers)
              (λ k. omega arith)
              (λ b m k. trans (a.filled + 1) a.line.customers (l.one.filled + 1) l.one.line.customers (b.filled + 1) b.line.customers
              (sv l.one (Memᴰ.tail l.among) l.open_claim) (leb-true _ _ t) (l.least b m k));
        })
        (λ t.
        record {
          one = l.one;
          among = Memᴰ.tail l.among;
          open_claim = l.open_claim;
          least =
              on_cons (λ b. b.filled < b.line.claim → (l.one.filled + 1) * b.line.customers ≤ (b.filled + 1) * l.one.line.customers)
              (λ k. le_of_lt (leb-false _ _ t))
              l.least;
        })

    old : unfilled a ≡ false → Least ss → Least (a ∷ ss)
    old u l =
        let h = ltb-false a.filled a.line.claim u in
        record {
          one = l.one;
          among = Memᴰ.tail l.among;
          open_claim = l.open_claim;
          least =
              on_cons (λ b. b.filled < b.line.claim → (l.one.filled + 1) * b.line.customers ≤ (b.filled + 1) * l.one.line.customers)
              (λ k. absurd (omega arith))
              l.least;
        }

    only : unfilled a ≡ true → any unfilled ss ≡ false → Least (a ∷ ss)
    only u none =
        record {
          one = a;
          among = Memᴰ.head refl;
          open_claim = ltb-true a.filled a.line.claim u;
          least =
              on_cons (λ b. b.filled < b.line.claim → (a.filled + 1) * b.line.customers ≤ (b.filled + 1) * a.line.customers)
              (λ k. omega arith)
              (λ b m k. absurd (true≢false (sym (lt-ltb _ _ k) ∙ any_none unfilled ss none b m)));
        }

-- while a claim is not filled there is a next line
some_next : (ss : List Share) → Served ss → any unfilled ss ≡ true → any (is_next ss) ss ≡ true
unfolding is_next no_later
some_next ss sv e =
    let l = least_of_lem ss sv e in
    any_make (is_next ss) ss l.one l.among
    (and_make (unfilled l.one) _ (lt-ltb _ _ l.open_claim)
    (all_make (no_later l.one) ss λ b m. when_make (unfilled b) _ λ u. le-leb _ _ (l.least b m (ltb-true _ _ u))))

-- "some line is open until it is": so a round gives one contract
pub round_gives_one : (ss : List Share) → Served ss → Within ss → total ss < claims ss → total (give_one ss) ≡ total ss + 1
unfolding give_one
round_gives_one ss sv w h = at_first_total (is_next ss) ss (some_next ss sv (some_unfilled ss w h))
