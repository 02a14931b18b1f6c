-- The i-th line of a trade in memory is what its share says.
use mathlib.Core.Path.{◌≡◌, refl, sym, ap, ◌∙◌}
use mathlib.Core.List.Memᴰ
use mathlib.Core.List.{List, [], ◌∷◌, map, Memᴰ}
use Prim.Native.Nat.{ℕ, zero, suc, ◌<◌}
use native.Mathlib.Omega.{arith}
use lib.ListN.{get_or, length, set, length-map, get_or-map}
use Rattle.rules.specs.Due.{Line, Share}
use Rattle.rules.proofs.Tests.{on_cons}
use Rattle.rules.specs.GoodSheet.{no_line}
use Rattle.rules.proofs.OwnSheet.{lines_in}
use Rattle.fairness.specs.Lines.{Sound, Gathered, claim_at, contracts_at, filled_at, Served, share_at, no_share, nothing}
use Rattle.fairness.specs.declared.Portion.{Portion}

-- ---- a list of shares by its places

pub member_at : (ss : List Share) (i : ℕ) → i < length ss → Memᴰ (share_at ss i) ss
member_at [] i h = absurd (omega arith)
member_at (a ∷ ss) zero h = Memᴰ.head refl
member_at (a ∷ ss) (suc i) h = Memᴰ.tail (member_at ss i (omega arith))

pub by_places : (P : Share → Type 0) (ss : List Share) → ((i : ℕ) → i < length ss → P (share_at ss i)) → (a : Share) → Memᴰ a ss → P a
by_places P [] f a m = absurd (Memᴰ.not-nil m)
by_places P (b ∷ ss) f a m = on_cons P (f 0 (omega arith)) (by_places P ss (λ i h. f (suc i) (omega arith))) a m

-- a line put in place of another that is like it in this
pub set_keeps : (part : Portion → ℕ) (portions : List Portion) (i : ℕ) (p : Portion) → part p ≡ part (get_or portions i nothing)
    → map part (set portions i p) ≡ map part portions
set_keeps part [] i p e = refl
set_keeps part (q ∷ portions) zero p e = ap (λ x. x ∷ map part portions) e
set_keeps part (q ∷ portions) (suc i) p e = ap (λ l. part q ∷ l) (set_keeps part portions i p e)

-- ---- its words

module _ (ss : List Share) (portions : List Portion) (g : Gathered ss portions) where
  pub gathered_many : length portions ≡ length ss
  gathered_many = sym (length-map portions (λ (p : Portion). p.filled)) ∙ ap length g.fills ∙ length-map ss (λ (a : Share). a.filled)

  pub fill_at : (i : ℕ) → filled_at portions i ≡ (share_at ss i).filled
  fill_at i = sym (get_or-map (λ (p : Portion). p.filled) portions i nothing) ∙ ap (λ (l : List ℕ). get_or l i 0) g.fills ∙ get_or-map (λ (a : Share). a.filled) ss i no_share

  line_at_lem : (i : ℕ) → get_or (lines_in ss) i no_line ≡ (share_at ss i).line
  line_at_lem i = get_or-map (λ (a : Share). a.line) ss i no_share

  pub claim_at_lem : (i : ℕ) → claim_at portions i ≡ (share_at ss i).line.claim
  claim_at_lem i =
      sym (get_or-map (λ (p : Portion). p.claim) portions i nothing) ∙ ap (λ (l : List ℕ). get_or l i 0) g.lined.claims
      ∙ get_or-map (λ (l : Line). l.claim) (lines_in ss) i no_line ∙ ap (λ (l : Line). l.claim) (line_at_lem i)

  pub customers_at : (i : ℕ) → contracts_at portions i ≡ (share_at ss i).line.customers
  customers_at i =
      sym (get_or-map (λ (p : Portion). p.customers) portions i nothing) ∙ ap (λ (l : List ℕ). get_or l i 0) g.lined.customer_contracts
      ∙ get_or-map (λ (l : Line). l.customers) (lines_in ss) i no_line ∙ ap (λ (l : Line). l.customers) (line_at_lem i)

  pub sound_at : (i : ℕ) → i < length portions → Sound (share_at ss i).line
  sound_at i h = g.lined.sound (share_at ss i).line (Memᴰ.map (λ (a : Share). a.line) (member_at ss i (omega (arith, gathered_many))))

  pub gathered_served : Served portions
  gathered_served i h = rw (claim_at_lem i, customers_at i) (sound_at i h).served
