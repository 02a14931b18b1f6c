-- The check means what it should: for every accepted journal and any bytes, it accepts exactly the good sheets.
use mathlib.Core.Path.{◌≡◌, refl, sym, ap, ◌∙◌, subst}
use mathlib.Core.Bool.{Bool, true, false}
use mathlib.Core.List.Memᴰ
use mathlib.Core.List.{List, [], ◌∷◌, ◌++◌, map, flat_map, Memᴰ}
use mathlib.Core.Logic.{◌↔◌}
use Prim.Native.Nat.{ℕ, zero, suc, ◌+◌, ◌≤◌, ◌<◌}
use native.Mathlib.Nat.{zero-mul}
use native.Mathlib.Omega.{arith}
use lib.ListN.{length, get_or}
use borrow.Author.Tests.{eqb-true, eqb-false, eq-eqb, leb-true, le-leb}
use Rattle.std.specs.Prelude.{◌==◌}
use Rattle.rules.specs.Basics.{all, sum, keep, Answer, ok, refused, ◌>>=◌, Passed, demand}
use Rattle.rules.specs.Number.{storable, Bytes, Spot, start_of, bytes_of_all}
use Rattle.rules.specs.Record.{is_trade}
use Rattle.rules.specs.Journal.{Journal, journal, count}
use Rattle.rules.specs.Due.{Line, lines, due, Share, fair, share_rule}
use Rattle.rules.specs.OwnSheet.{SheetLine, line_bytes, sheet_bytes, own_lines, own_sheet}
use Rattle.rules.specs.SheetCheck.{renumbered, sheet_lines, Beside, beside, check_line, check_lines, as_share, shares_of, fills_of, check_trade, check_trades, check_sheet}
use Rattle.rules.specs.GoodSheet.{no_line, nothing_said, line_at, said_at, Storable, fills_of_trade, GoodSheet}
use Rattle.rules.proofs.Tests.{by_test, and_left, and_right, on_cons, all_at, all_make, keep_sub, keep_holds, by_place, by_member}
use Rattle.rules.proofs.Answers.{went, met, ok_is, refused_not_ok}
use Rattle.rules.proofs.Numbers.{read_numbers_again, bytes_append, written_numbers_are_bytes}
use Rattle.rules.proofs.Lines.{LineKnown, journal_lines_known}
use Rattle.rules.proofs.Giving.{Fair, fair_says, says_fair}
use Rattle.rules.proofs.OwnSheet.{three_of, Stores, written_sheet_reads_back, own_sheet_accepted}

-- ---- 20: the bytes are the lines' bytes

renumbered_ok : {A : Type 0} (n : ℕ) (m : Answer A) (a : A) → renumbered n m ≡ ok a → m ≡ ok a
renumbered_ok n (refused k p) a e = absurd (refused_not_ok n p a e)
renumbered_ok n (ok b) a e = e

line_of_three : (vs : List ℕ) → length vs ≡ 3 → three_of (record { reason = get_or vs 0 0; filled = get_or vs 1 0; cancelled = get_or vs 2 0 }) ≡ vs
line_of_three [] e = absurd (omega arith)
line_of_three (a ∷ []) e = absurd (omega arith)
line_of_three (a ∷ b ∷ []) e = absurd (omega arith)
line_of_three (a ∷ b ∷ c ∷ []) e = refl
line_of_three (a ∷ b ∷ c ∷ d ∷ vs) e = absurd (omega arith)

empty_of_length : (s : List ℕ) → length s ≡ 0 → s ≡ []
empty_of_length [] e = refl
empty_of_length (x ∷ s) e = absurd (omega arith)

pub record SheetRead (k : ℕ) (sheet : List ℕ) (ss : List SheetLine) : Type 0 where
  pub as_many : length ss ≡ k
  pub same_bytes : sheet ≡ sheet_bytes ss
  pub all_store : (t : SheetLine) → Memᴰ t ss → Stores t

pub read_sheet_again : (k : ℕ) (q : Spot) (ss : List SheetLine) → Bytes q.rest → sheet_lines k q ≡ ok ss → SheetRead k q.rest ss
unfolding sheet_lines sheet_bytes line_bytes flat_map
read_sheet_again zero q ss y e =
    let w = went _ _ e in
    rw (← ok_is w.rest)
    (record { as_many = refl; same_bytes = empty_of_length q.rest (eqb-true _ _ (met _ _ _ w.got)); all_store = λ t m. absurd (Memᴰ.not-nil m) })
read_sheet_again (suc k) q ss y e =
    let w = went _ _ e in
    let v = went _ _ w.rest in
    let a = read_numbers_again 3 q w.value y (renumbered_ok _ _ _ w.got) in
    let ih = read_sheet_again k w.value.next v.value a.passes.rest_bytes v.got in
    let t = line_of_three w.value.values a.many in
    rw (← ok_is v.rest)
    (record {
      as_many = ap suc ih.as_many;
      same_bytes = a.passes.front_first ∙ ap (λ b. bytes_of_all w.value.values ++ b) ih.same_bytes ∙ ap (λ x. bytes_of_all x ++ flat_map line_bytes v.value) (sym t);
      all_store = on_cons Stores (rw t a.fit) ih.all_store;
    })

-- ---- 21, 22, 24: each line

pub record LineGood (l : Line) (t : SheetLine) : Type 0 where
  pub adds_up : t.filled + t.cancelled ≡ l.size
  pub reason_named : t.reason ≡ l.reason
  pub within_claim : t.filled ≤ l.claim

line_means : (b : Beside) {v : Passed} → check_line b ≡ ok v → LineGood b.line b.sheet
unfolding check_line
line_means b e =
    let w = went _ _ e in
    let u = went _ _ w.rest in
    record {
      adds_up = eqb-true _ _ (met _ _ _ w.got);
      reason_named = eqb-true _ _ (met _ _ _ u.got);
      within_claim = leb-true _ _ (met _ _ _ u.rest);
    }

line_passes : (b : Beside) → LineGood b.line b.sheet → check_line b ≡ ok tt
unfolding check_line ◌>>=◌ demand
line_passes b g = rw (eq-eqb _ _ g.adds_up, eq-eqb _ _ g.reason_named, le-leb _ _ g.within_claim)

lines_mean : (ls : List Line) (ss : List SheetLine) {v : Passed} → length ss ≡ length ls → check_lines (beside ls ss) ≡ ok v
    → (i : ℕ) → i < length ls → LineGood (line_at ls i) (said_at ss i)
unfolding check_lines beside
lines_mean [] ss n e i h = absurd (omega arith)
lines_mean (l ∷ ls) [] n e i h = absurd (omega arith)
lines_mean (l ∷ ls) (t ∷ ss) n e zero h = line_means _ (went _ _ e).got
lines_mean (l ∷ ls) (t ∷ ss) n e (suc i) h = lines_mean ls ss (omega arith) (went _ _ e).rest i (omega arith)

lines_pass : (ls : List Line) (ss : List SheetLine) → length ss ≡ length ls → ((i : ℕ) → i < length ls → LineGood (line_at ls i) (said_at ss i)) → check_lines (beside ls ss) ≡ ok tt
unfolding check_lines beside ◌>>=◌
lines_pass [] ss n f = refl
lines_pass (l ∷ ls) [] n f = absurd (omega arith)
lines_pass (l ∷ ls) (t ∷ ss) n f =
    rw (line_passes (record { line = l; sheet = t }) (f 0 (omega arith))) (lines_pass ls ss (omega arith) (λ i h. f (suc i) (omega arith)))

-- ---- 25: the fills of a trade

pub shares_fill : (n : ℕ) (ls : List Line) (ss : List SheetLine) → fills_of (shares_of n (beside ls ss)) ≡ fills_of_trade n ls ss
unfolding shares_of keep beside fills_of_trade
shares_fill n [] ss = refl
shares_fill n (l ∷ ls) [] = refl
shares_fill n (l ∷ ls) (t ∷ ss) = by_test (l.trade == n) (λ e. rw (e, shares_fill n ls ss)) (λ e. rw (e, shares_fill n ls ss))

-- ---- 26: two lines of a trade

abbrev share_at : List Line → List SheetLine → ℕ → Share
share_at ls ss i = record { line = line_at ls i; filled = (said_at ss i).filled }

-- a share of trade n is that of a place
pub record PlaceOf (ls : List Line) (ss : List SheetLine) (a : Share) : Type 0 where
  pub place : ℕ
  pub low : place < length ls
  pub is_there : a ≡ share_at ls ss place

place_of_lem : (ls : List Line) (ss : List SheetLine) → length ss ≡ length ls → (a : Share) → Memᴰ a (map as_share (beside ls ss)) → PlaceOf ls ss a
unfolding beside
place_of_lem [] ss n a m = absurd (Memᴰ.not-nil m)
place_of_lem (l ∷ ls) [] n a m = absurd (omega arith)
place_of_lem (l ∷ ls) (t ∷ ss) n a m =
    on_cons (PlaceOf (l ∷ ls) (t ∷ ss)) (record { place = 0; low = omega arith; is_there = refl })
    (λ b k. let p = place_of_lem ls ss (omega arith) b k in record { place = suc p.place; low = omega (arith, p.low); is_there = p.is_there })
    a m

share_there : (ls : List Line) (ss : List SheetLine) → length ss ≡ length ls → (i : ℕ) → i < length ls → Memᴰ (share_at ls ss i) (map as_share (beside ls ss))
unfolding beside
share_there [] ss n i h = absurd (omega arith)
share_there (l ∷ ls) [] n i h = absurd (omega arith)
share_there (l ∷ ls) (t ∷ ss) n zero h = Memᴰ.head refl
share_there (l ∷ ls) (t ∷ ss) n (suc i) h = Memᴰ.tail (share_there ls ss (omega arith) i (omega arith))

kept_there : {A : Type 0} (f : A → Bool) (l : List A) (x : A) → Memᴰ x l → f x ≡ true → Memᴰ x (keep f l)
unfolding keep
kept_there f [] x m e = absurd (Memᴰ.not-nil m)
kept_there f (y ∷ l) x m e =
    on_cons (λ z. f z ≡ true → Memᴰ z (keep f (y ∷ l)))
    (λ h. rw h (Memᴰ.head refl))
    (λ z k h. by_test (f y) (λ b. rw b (Memᴰ.tail (kept_there f l z k h))) (λ b. rw b (kept_there f l z k h)))
    x m e

module _ (ls : List Line) (ss : List SheetLine) (n : length ss ≡ length ls)
    (known : (i : ℕ) → i < length ls → ((line_at ls i).reason == 0) ≡ false → (line_at ls i).claim ≡ 0)
    (good : (i : ℕ) → i < length ls → LineGood (line_at ls i) (said_at ss i)) where
  -- the rule speaks of the lines with reason 0; the others claim nothing and are filled nothing
  rule_means : (trade : ℕ) → share_rule (shares_of trade (beside ls ss)) ≡ true → (i k : ℕ) → i < length ls → k < length ls
      → (line_at ls i).trade ≡ trade → (line_at ls k).trade ≡ trade → Fair (share_at ls ss i) (share_at ls ss k)
  unfolding share_rule shares_of
  rule_means trade e i k hi hk ti tk u =
      by_test ((line_at ls i).reason == 0)
      (λ ri. by_test ((line_at ls k).reason == 0)
      (λ rk. fair_says (share_at ls ss i) (share_at ls ss k) (all_at (fair (share_at ls ss i)) _ (all_at _ _ e (inside i hi ti ri)) (inside k hk tk rk)) u)
      (λ rk. let c = known k hk rk in
      let f : (said_at ss k).filled ≡ 0 = omega (arith, (good k hk).within_claim) in
      rw (f, zero-mul (line_at ls i).customers) (omega arith)))
      (λ ri. let c = known i hi ri in absurd (omega arith))
    where
      inside : (m : ℕ) → m < length ls → (line_at ls m).trade ≡ trade → ((line_at ls m).reason == 0) ≡ true
          → Memᴰ (share_at ls ss m) (keep (λ (a : Share). a.line.reason == 0) (keep (λ (a : Share). a.line.trade == trade) (map as_share (beside ls ss))))
      inside m h t r = kept_there _ _ _ (kept_there (λ (a : Share). a.line.trade == trade) _ _ (share_there ls ss n m h) (eq-eqb _ _ t)) r

pub rule_passes : (ls : List Line) (ss : List SheetLine) (trade : ℕ) → length ss ≡ length ls
    → ((i k : ℕ) → i < length ls → k < length ls → (line_at ls i).trade ≡ (line_at ls k).trade → Fair (share_at ls ss i) (share_at ls ss k))
    → share_rule (shares_of trade (beside ls ss)) ≡ true
unfolding share_rule shares_of
rule_passes ls ss trade n f = all_make _ _ λ a ma. all_make _ _ λ b mb. both a b (inner a ma) (inner b mb) (of_trade_lem a ma) (of_trade_lem b mb)
  where
    of_the_trade : List Share
    of_the_trade = keep (λ (a : Share). a.line.trade == trade) (map as_share (beside ls ss))

    inner : (a : Share) → Memᴰ a (keep (λ (x : Share). x.line.reason == 0) of_the_trade) → PlaceOf ls ss a
    inner a m = place_of_lem ls ss n a (keep_sub _ _ a (keep_sub _ of_the_trade a m))

    of_trade_lem : (a : Share) → Memᴰ a (keep (λ (x : Share). x.line.reason == 0) of_the_trade) → a.line.trade ≡ trade
    of_trade_lem a m = eqb-true _ _ (keep_holds (λ (x : Share). x.line.trade == trade) (map as_share (beside ls ss)) a (keep_sub _ of_the_trade a m))

    both : (a b : Share) → PlaceOf ls ss a → PlaceOf ls ss b → a.line.trade ≡ trade → b.line.trade ≡ trade → fair a b ≡ true
    both a b p q ta tb =
        let ti = ap (λ (x : Share). x.line.trade) (sym p.is_there) ∙ ta in
        let tk = ap (λ (x : Share). x.line.trade) (sym q.is_there) ∙ tb in
        rw (p.is_there, q.is_there) (says_fair (share_at ls ss p.place) (share_at ls ss q.place) (f p.place q.place p.low q.low (ti ∙ sym tk)))

-- ---- trade by trade

pub record TradeGood (j : Journal) (bs : List Beside) (n : ℕ) : Type 0 where
  pub makes_due : sum (fills_of (shares_of n bs)) ≡ due j n
  pub keeps_rule : share_rule (shares_of n bs) ≡ true

trades_mean : (j : Journal) (bs : List Beside) (from k : ℕ) {v : Passed} → check_trades j bs from k ≡ ok v → (n : ℕ) → from ≤ n → n < from + k → TradeGood j bs n
unfolding check_trades check_trade
trades_mean j bs from zero e n l u = absurd (omega arith)
trades_mean j bs from (suc k) e n l u =
    let w = went _ _ e in
    let t = went _ _ w.got in
    by_test (from == n)
    (λ q. subst (TradeGood j bs) (eqb-true from n q) (record { makes_due = eqb-true _ _ (met _ _ _ t.got); keeps_rule = met _ _ _ t.rest }))
    (λ q. let z : from ≡ n → ⊥ = eqb-false from n q in trades_mean j bs (from + 1) k w.rest n (omega arith) (omega arith))

trades_pass : (j : Journal) (bs : List Beside) (from k : ℕ) → ((n : ℕ) → n < from + k → TradeGood j bs n) → check_trades j bs from k ≡ ok tt
unfolding check_trades check_trade ◌>>=◌ demand
trades_pass j bs from zero f = refl
trades_pass j bs from (suc k) f =
    let g = f from (omega arith) in
    rw (eq-eqb _ _ g.makes_due, g.keeps_rule) (trades_pass j bs (from + 1) k (λ n h. f n (omega arith)))

-- ---- both ways

stores_storable : (t : SheetLine) → Stores t → Storable t
unfolding all
stores_storable t e =
    let rest = and_right (storable t.reason) _ e in
    (and_left (storable t.reason) _ e, and_left (storable t.filled) _ rest, and_left (storable t.cancelled) _ (and_right (storable t.filled) _ rest))

storable_stores : (t : SheetLine) → Storable t → Stores t
unfolding all
storable_stores t e = rw (e.0, e.1, e.2)

module _ (s sheet : List ℕ) (j : Journal) (bytes : Bytes sheet) (accepted : journal s ≡ ok j) where
  known_line : (i : ℕ) → i < length (lines j) → LineKnown j.header j.history (line_at (lines j) i)
  known_line = by_place (LineKnown j.header j.history) no_line (lines j) (journal_lines_known s j accepted)

  pub accepted_sheet_is_good : check_sheet s sheet ≡ ok tt → GoodSheet j sheet
  unfolding check_sheet
  accepted_sheet_is_good e =
      let w = went _ _ e in
      let q : w.value ≡ j = ok_is (sym w.got ∙ accepted) in
      let v = went _ _ (rw q at w.rest) in
      let u = went _ _ v.rest in
      let r = read_sheet_again (length (lines j)) (start_of sheet) v.value bytes v.got in
      let good = lines_mean (lines j) v.value r.as_many u.got in
      let trade = trades_mean j (beside (lines j) v.value) 0 (count is_trade j.history) u.rest in
      record {
        says = v.value;
        storable_lines = by_place Storable nothing_said v.value (λ t m. stores_storable t (r.all_store t m));
        are_its_bytes = r.same_bytes;
        good_lines =
            record {
              one_for_each_order = r.as_many;
              adds_up_to_its_order = λ i h. (good i h).adds_up;
              names_the_journals_reason = λ i h. (good i h).reason_named;
              not_beyond_its_claim = λ i h. (good i h).within_claim;
              makes_the_due_total = λ n h. ap sum (sym (shares_fill n (lines j) v.value)) ∙ (trade n (omega arith) (omega arith)).makes_due;
              not_more_than_one_behind =
                  λ i k hi hk t u2. rule_means (lines j) v.value r.as_many (λ m h. (known_line m h).unclaimed) good
                  (line_at (lines j) k).trade (trade _ (omega arith) (omega (arith, (known_line k hk).of_a_trade))).keeps_rule i k hi hk t refl u2;
            };
      }

  pub good_sheet_is_accepted : GoodSheet j sheet → check_sheet s sheet ≡ ok tt
  unfolding check_sheet ◌>>=◌
  good_sheet_is_accepted g =
      let l = g.good_lines in
      let n = l.one_for_each_order in
      let back : sheet_lines (length (lines j)) (start_of sheet) ≡ ok g.says =
      rw (← n, g.are_its_bytes) (written_sheet_reads_back g.says 0 (by_member Stores nothing_said g.says (λ i h. storable_stores _ (g.storable_lines i h)))) in
      let good : (i : ℕ) → i < length (lines j) → LineGood (line_at (lines j) i) (said_at g.says i) =
      λ i h. record { adds_up = l.adds_up_to_its_order i h; reason_named = l.names_the_journals_reason i h; within_claim = l.not_beyond_its_claim i h } in
      rw (accepted, back, lines_pass (lines j) g.says n good)
      (trades_pass j (beside (lines j) g.says) 0 (count is_trade j.history)
      (λ m h.
      record {
        makes_due = ap sum (shares_fill m (lines j) g.says) ∙ l.makes_the_due_total m (omega arith);
        keeps_rule = rule_passes (lines j) g.says m n (λ i k hi hk t u. l.not_more_than_one_behind i k hi hk t u);
      }))

  -- demand 3
  pub check_accepts_exactly_good_sheets : (check_sheet s sheet ≡ ok tt) ↔ GoodSheet j sheet
  check_accepts_exactly_good_sheets = (accepted_sheet_is_good, good_sheet_is_accepted)

-- ---- and there is one

sheet_bytes_are_bytes : (ss : List SheetLine) → Bytes (sheet_bytes ss)
unfolding sheet_bytes line_bytes flat_map all
sheet_bytes_are_bytes [] = refl
sheet_bytes_are_bytes (t ∷ ss) = bytes_append (bytes_of_all (three_of t)) _ (written_numbers_are_bytes (three_of t)) (sheet_bytes_are_bytes ss)

pub every_accepted_journal_has_a_good_sheet : (s : List ℕ) (j : Journal) → journal s ≡ ok j → GoodSheet j (own_sheet j)
unfolding own_sheet
every_accepted_journal_has_a_good_sheet s j e =
    accepted_sheet_is_good s (own_sheet j) j (sheet_bytes_are_bytes (own_lines j)) e (own_sheet_accepted s j e)
