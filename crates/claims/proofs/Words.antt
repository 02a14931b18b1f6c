-- Three words put into a list, one after the other: what stands there, and what is left alone.
use mathlib.Core.Path.{◌≡◌, ◌∙◌}
use mathlib.Core.List.{List}
use Prim.Native.Nat.{ℕ, ◌<◌}
use lib.ListN.{get_or, length, set, length-set}
use lib.Seq.{get_or-set_same, get_or-set_other}

module _ (words : List ℕ) (a b c x y z : ℕ) where
  pub others_kept : (j : ℕ) → (j ≡ a → ⊥) → (j ≡ b → ⊥) → (j ≡ c → ⊥) → get_or (set (set (set words a x) b y) c z) j 0 ≡ get_or words j 0
  others_kept j na nb nc = get_or-set_other (set (set words a x) b y) c j z 0 nc ∙ get_or-set_other (set words a x) b j y 0 nb ∙ get_or-set_other words a j x 0 na

  pub first_put : a < length words → (a ≡ b → ⊥) → (a ≡ c → ⊥) → get_or (set (set (set words a x) b y) c z) a 0 ≡ x
  first_put low nb nc = get_or-set_other (set (set words a x) b y) c a z 0 nc ∙ get_or-set_other (set words a x) b a y 0 nb ∙ get_or-set_same words a x 0 low

  pub second_put : b < length words → (b ≡ c → ⊥) → get_or (set (set (set words a x) b y) c z) b 0 ≡ y
  second_put low nc = get_or-set_other (set (set words a x) b y) c b z 0 nc ∙ get_or-set_same (set words a x) b y 0 (simp length-set low)

  pub third_put : c < length words → get_or (set (set (set words a x) b y) c z) c 0 ≡ z
  third_put low = get_or-set_same (set (set words a x) b y) c z 0 (simp length-set low)
