-- Lines sorted by trade: where a line of the journal stands among those of its trade, where a line of a trade stands in the
-- journal, and what a sheet or our own giving fills it.
use mathlib.Core.Path.{◌≡◌, refl, sym, ap, ◌∙◌}
use mathlib.Core.Bool.{true}
use mathlib.Core.List.{List, [], ◌∷◌, Memᴰ}
use Prim.Native.Nat.{ℕ, zero, suc, ◌+◌, ◌-◌, ◌≤◌, ◌<◌}
use native.Mathlib.Omega.{arith}
use lib.ListN.{length, get_or, length-map, get_or-map}
use borrow.Author.Tests.{eqb-true, eq-eqb}
use Rattle.std.specs.Prelude.{◌==◌}
use Rattle.rules.specs.Basics.{keep}
use Rattle.rules.specs.Journal.{Journal}
use Rattle.rules.specs.Due.{Line, lines, of_trade, Share}
use Rattle.rules.specs.OwnSheet.{SheetLine, own_shares, filled_at, own_fill}
use Rattle.rules.specs.SheetCheck.{fills_of}
use Rattle.rules.specs.GoodSheet.{line_at, said_at, fills_of_trade}
use Rattle.rules.proofs.Tests.{by_test}
use Rattle.rules.proofs.Lines.{lines_numbered}
use Rattle.rules.proofs.OwnSheet.{own_lines_lem, own_apart, filled_at_lem}

-- ---- numbered by their places, from `base` on

abbrev pub NumberedFrom : ℕ → List Line → Type 0
NumberedFrom base ls = (i : ℕ) → i < length ls → (line_at ls i).number ≡ base + i

later : (base : ℕ) (l : Line) (ls : List Line) → NumberedFrom base (l ∷ ls) → NumberedFrom (suc base) ls
later base l ls f i h = f (suc i) (omega arith) ∙ omega arith

pub lines_numbered_from_0 : (j : Journal) → NumberedFrom 0 (lines j)
unfolding lines
lines_numbered_from_0 j i h = lines_numbered j.header j.history j.history _ i h ∙ omega arith

-- ---- a line among those of its trade

pub record InTrade (ls : List Line) (l : Line) : Type 0 where
  pub place : ℕ
  pub low : place < length (of_trade l.trade ls)
  pub is : line_at (of_trade l.trade ls) place ≡ l

pub line_among_its_trade : (ls : List Line) (i : ℕ) → i < length ls → InTrade ls (line_at ls i)
unfolding of_trade keep
line_among_its_trade [] i h = absurd (omega arith)
line_among_its_trade (l ∷ ls) zero h =
    let t = eq-eqb l.trade l.trade refl in
    record { place = 0; low = rw t (omega arith); is = rw t }
line_among_its_trade (l ∷ ls) (suc i) h =
    let t = line_among_its_trade ls i (omega arith) in
    by_test (l.trade == (line_at ls i).trade)
    (λ e. record { place = suc t.place; low = rw e (omega (arith, t.low)); is = rw e t.is })
    (λ e. record { place = t.place; low = rw e t.low; is = rw e t.is })

-- ---- a line of a trade among all

pub record InJournal (ls : List Line) (base n : ℕ) (l : Line) : Type 0 where
  pub from : base ≤ l.number
  pub low : l.number < base + length ls
  pub is : line_at ls (l.number - base) ≡ l
  pub of_trade_lem : l.trade ≡ n

shifted : (ls : List Line) (x l : Line) (base n : ℕ) → InJournal ls (suc base) n l → InJournal (x ∷ ls) base n l
shifted ls x l base n t =
    let d : l.number - base ≡ suc (l.number - suc base) = omega (arith, t.from) in
    record {
      from = omega (arith, t.from);
      low = omega (arith, t.low);
      is = rw d t.is;
      of_trade_lem = t.of_trade_lem;
    }

pub trade_line_among_all : (n base : ℕ) (ls : List Line) → NumberedFrom base ls → (i : ℕ) → i < length (of_trade n ls) → InJournal ls base n (line_at (of_trade n ls) i)
unfolding of_trade keep
trade_line_among_all n base [] f i h = absurd (omega arith)
trade_line_among_all n base (l ∷ ls) f i h =
    let ih = trade_line_among_all n (suc base) ls (later base l ls f) in
    by_test (l.trade == n)
    (λ e. rw e (first i (rw e at h) e (λ k g. shifted ls l _ base n (ih k g))))
    (λ e. rw e (shifted ls l _ base n (ih i (rw e at h))))
  where
    first : (k : ℕ) → k < length (l ∷ of_trade n ls) → (l.trade == n) ≡ true
        → ((m : ℕ) → m < length (of_trade n ls) → InJournal (l ∷ ls) base n (line_at (of_trade n ls) m)) → InJournal (l ∷ ls) base n (line_at (l ∷ of_trade n ls) k)
    first zero g e more =
        let z : l.number ≡ base = f 0 (omega arith) ∙ omega arith in
        let d : l.number - base ≡ 0 = omega arith in
        record { from = omega arith; low = omega arith; is = rw d; of_trade_lem = eqb-true _ _ e }
    first (suc k) g e more = more k (omega arith)

-- ---- the fills of a trade, by the places of its lines

pub fills_of_trade_count : (n : ℕ) (ls : List Line) (ss : List SheetLine) → length ss ≡ length ls → length (fills_of_trade n ls ss) ≡ length (of_trade n ls)
unfolding of_trade keep fills_of_trade
fills_of_trade_count n [] ss e = refl
fills_of_trade_count n (l ∷ ls) [] e = absurd (omega arith)
fills_of_trade_count n (l ∷ ls) (t ∷ ss) e =
    let ih = fills_of_trade_count n ls ss (omega arith) in
    by_test (l.trade == n) (λ q. rw (q, ih)) (λ q. rw (q, ih))

pub fill_of_trade_at : (n base : ℕ) (ls : List Line) (ss : List SheetLine) → length ss ≡ length ls → NumberedFrom base ls → (i : ℕ) → i < length (of_trade n ls)
    → get_or (fills_of_trade n ls ss) i 0 ≡ (said_at ss ((line_at (of_trade n ls) i).number - base)).filled
unfolding of_trade keep fills_of_trade
fill_of_trade_at n base [] ss e f i h = absurd (omega arith)
fill_of_trade_at n base (l ∷ ls) [] e f i h = absurd (omega arith)
fill_of_trade_at n base (l ∷ ls) (t ∷ ss) e f i h =
    let g = later base l ls f in
    let ih = fill_of_trade_at n (suc base) ls ss (omega arith) g in
    let there = trade_line_among_all n (suc base) ls g in
    by_test (l.trade == n)
    (λ q. rw q (first i (rw q at h) (λ k m. ih k m ∙ moved k (there k m))))
    (λ q. rw q (ih i (rw q at h) ∙ moved i (there i (rw q at h))))
  where
    moved : (k : ℕ) → InJournal ls (suc base) n (line_at (of_trade n ls) k)
        → (said_at ss ((line_at (of_trade n ls) k).number - suc base)).filled ≡ (said_at (t ∷ ss) ((line_at (of_trade n ls) k).number - base)).filled
    moved k r =
        let d : (line_at (of_trade n ls) k).number - base ≡ suc ((line_at (of_trade n ls) k).number - suc base) = omega (arith, r.from) in
        rw d

    first : (k : ℕ) → k < length (l ∷ of_trade n ls)
        → ((m : ℕ) → m < length (of_trade n ls) → get_or (fills_of_trade n ls ss) m 0 ≡ (said_at (t ∷ ss) ((line_at (of_trade n ls) m).number - base)).filled)
        → get_or (t.filled ∷ fills_of_trade n ls ss) k 0 ≡ (said_at (t ∷ ss) ((line_at (l ∷ of_trade n ls) k).number - base)).filled
    first zero m more =
        let d : l.number - base ≡ 0 = omega (arith, f 0 (omega arith)) in
        rw d
    first (suc k) m more = more k (omega arith)

-- ---- our own fills, by the places of a trade's lines

abbrev no_share : Share
no_share = record { line = record { number = 0; trade = 0; size = 0; reason = 0; customers = 0; claim = 0 }; filled = 0 }

member_at : (ss : List Share) (i : ℕ) → i < length ss → Memᴰ (get_or ss i no_share) ss
member_at [] i h = absurd (omega arith)
member_at (s ∷ ss) zero h = Memᴰ.head refl
member_at (s ∷ ss) (suc i) h = Memᴰ.tail (member_at ss i (omega arith))

pub own_fill_at : (j : Journal) (n i : ℕ) → i < length (of_trade n (lines j)) → (line_at (of_trade n (lines j)) i).trade ≡ n
    → own_fill j (line_at (of_trade n (lines j)) i) ≡ get_or (fills_of (own_shares j n)) i 0
unfolding own_fill
own_fill_at j n i h t =
    let ss : List Share = own_shares j n in
    let long : length ss ≡ length (of_trade n (lines j)) = sym (length-map ss (λ (a : Share). a.line)) ∙ ap length (own_lines_lem j n) in
    let k : i < length ss = omega arith in
    let line : (get_or ss i no_share).line ≡ line_at (of_trade n (lines j)) i =
    sym (get_or-map (λ (a : Share). a.line) ss i no_share) ∙ ap (λ l. line_at l i) (own_lines_lem j n) in
    let found : filled_at (line_at (of_trade n (lines j)) i).number ss ≡ (get_or ss i no_share).filled =
    ap (λ (l : Line). filled_at l.number ss) (sym line) ∙ filled_at_lem ss (own_apart j n) (get_or ss i no_share) (member_at ss i k) in
    ap (λ m. filled_at (line_at (of_trade n (lines j)) i).number (own_shares j m)) t
    ∙ found
    ∙ sym (get_or-map (λ (a : Share). a.filled) ss i no_share)

-- ---- two lines of a trade have two numbers

pub trade_lines_differ : (n base : ℕ) (ls : List Line) → NumberedFrom base ls → (i k : ℕ) → i < length (of_trade n ls) → k < length (of_trade n ls)
    → (line_at (of_trade n ls) i).number ≡ (line_at (of_trade n ls) k).number → i ≡ k
unfolding of_trade keep
trade_lines_differ n base [] f i k hi hk q = absurd (omega arith)
trade_lines_differ n base (l ∷ ls) f i k hi hk q =
    let g = later base l ls f in
    let ih = trade_lines_differ n (suc base) ls g in
    let there = trade_line_among_all n (suc base) ls g in
    let first : l.number ≡ base = f 0 (omega arith) ∙ omega arith in
    by_test (l.trade == n)
    (λ e. both i k (rw e at hi) (rw e at hk) (rw e at q) first (λ m h. (there m h).from) ih)
    (λ e. ih i k (rw e at hi) (rw e at hk) (rw e at q))
  where
    both : (x y : ℕ) → x < length (l ∷ of_trade n ls) → y < length (l ∷ of_trade n ls)
        → (line_at (l ∷ of_trade n ls) x).number ≡ (line_at (l ∷ of_trade n ls) y).number → l.number ≡ base
        → ((m : ℕ) → m < length (of_trade n ls) → suc base ≤ (line_at (of_trade n ls) m).number)
        → ((a b : ℕ) → a < length (of_trade n ls) → b < length (of_trade n ls) → (line_at (of_trade n ls) a).number ≡ (line_at (of_trade n ls) b).number → a ≡ b) → x ≡ y
    both zero zero hx hy e z later_on ih = refl
    both zero (suc y) hx hy e z later_on ih = absurd (omega (arith, later_on y (omega arith)))
    both (suc x) zero hx hy e z later_on ih = absurd (omega (arith, later_on x (omega arith)))
    both (suc x) (suc y) hx hy e z later_on ih = ap suc (ih x y (omega arith) (omega arith) e)
