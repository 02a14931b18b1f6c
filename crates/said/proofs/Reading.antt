-- Reading a sheet: three numbers to a line, line after line, and nothing after the last.
use mathlib.Core.Path.{◌≡◌, refl, sym, ap, ◌∙◌}
use mathlib.Core.List.{List, [], ◌∷◌, ◌++◌, append-nil, append_assoc}
use Prim.Native.Nat.{ℕ, zero, suc, ◌+◌, ◌-◌, ◌≤◌, ◌<◌}
use native.Mathlib.Nat.{sub-zero, zero-add}
use native.Mathlib.Numerals.{add-one}
use native.Mathlib.Omega.{arith}
use lib.ListN.{length, set, drop, length-set, length-drop}
use lib.Seq.{get_or-set_same, get_or-set_other}
use borrow.Author.Tests.{eq-eqb, ne_eqb}
use Rattle.std.specs.Prelude.{Option, Some, None, Result, Ok, Err}
use Rattle.rules.specs.Basics.{Answer, refused, ok, ◌>>=◌, demand}
use Rattle.rules.specs.Limits.{most_satisfaction_orders}
use Rattle.rules.specs.Refusals.{not_three_each}
use Rattle.rules.specs.Number.{start_of}
use Rattle.rules.specs.OwnSheet.{SheetLine}
use Rattle.rules.specs.SheetCheck.{sheet_lines}
use Rattle.number.specs.Reading.{field_at, spot_at}
use Rattle.several.specs.Rows.{Many, all, cut, after, many_at}
use Rattle.several.proofs.Reading.{numbers_at}
use Rattle.rows.specs.declared.Refusal.TheVariants.{NotThreeEach}
use Rattle.said.specs.declared.Reach.{Reach}
use Rattle.said.specs.declared.Said.{Said}
use Rattle.said.specs.Said.{each, as_three, three_at, nothing, as_line, said_line, SheetRead, behind, SheetReading, LinesRead}

-- ---- one line

module _ (sheet : List ℕ) (at : ℕ) (a : Option (ℕ × ℕ)) (ea : a ≡ field_at sheet at) where
  pub first_cut : a ≡ None → Err at ≡ three_at sheet at
  unfolding three_at many_at
  first_cut g = rw (← ea, g)

  module _ (x after_reason : ℕ) (ga : a ≡ Some (x, after_reason)) (b : Option (ℕ × ℕ)) (eb : b ≡ field_at sheet after_reason) where
    pub second_cut : b ≡ None → Err after_reason ≡ three_at sheet at
    unfolding three_at many_at after
    second_cut g = rw (← ea, ga, ← eb, g)

    module _ (y after_filled : ℕ) (gb : b ≡ Some (y, after_filled)) (d : Option (ℕ × ℕ)) (ed : d ≡ field_at sheet after_filled) where
      pub third_cut : d ≡ None → Err after_filled ≡ three_at sheet at
      unfolding three_at many_at after
      third_cut g = rw (← ea, ga, ← eb, gb, ← ed, g)

      pub three_read : (z next : ℕ) → d ≡ Some (z, next) → Ok (record { reason = x; filled = y; cancelled = z }, next) ≡ three_at sheet at
      unfolding three_at many_at after
      three_read z next g = rw (← ea, ga, ← eb, gb, ← ed, g)

pub ruleset line_read_laws = (first_cut, second_cut, third_cut, three_read)

-- ---- a list by its places

pub each_more : {A : Type 0} (f : ℕ → A) (i k : ℕ) → each f i (suc k) ≡ each f i k ++ (f (i + k) ∷ [])
unfolding each
each_more f i zero = let e : i + 0 ≡ i = omega arith in rw e
each_more f i (suc k) = let e : i + 1 + k ≡ i + suc k = omega arith in ap (λ l. f i ∷ l) (each_more f (i + 1) k ∙ rw e)

pub each_same : {A : Type 0} (f g : ℕ → A) (i k : ℕ) → ((x : ℕ) → x < i + k → f x ≡ g x) → each f i k ≡ each g i k
unfolding each
each_same f g i zero h = refl
each_same f g i (suc k) h = rw (h i (omega arith), each_same f g (i + 1) k (λ x lt. h x (omega arith)))

-- ---- the next line of a sheet

-- what the definition does with a line that was read or not
unfoldable after_line : ℕ → List ℕ → Result (Said × ℕ) ℕ → Answer (List SheetLine)
after_line k sheet (Err place) = refused not_three_each place
after_line k sheet (Ok (line, next)) = do
  more ← sheet_lines k (spot_at 0 sheet next)
  ok (as_line line ∷ more)

next_line : (k : ℕ) (sheet : List ℕ) (at : ℕ) (m : Many) → many_at 3 sheet at ≡ m → sheet_lines (suc k) (spot_at 0 sheet at) ≡ after_line k sheet (as_three m)
unfolding sheet_lines after_line ◌>>=◌
next_line k sheet at (all ns next) e = rw (numbers_at 0 sheet 3 at, e)
next_line k sheet at (cut place) e = rw (numbers_at 0 sheet 3 at, e, zero-add place)

line_at_lem : (k : ℕ) (sheet : List ℕ) (at : ℕ) (t : Result (Said × ℕ) ℕ) → t ≡ three_at sheet at → sheet_lines (suc k) (spot_at 0 sheet at) ≡ after_line k sheet t
unfolding three_at
line_at_lem k sheet at t e = next_line k sheet at (many_at 3 sheet at) refl ∙ ap (after_line k sheet) (sym e)

behind_none : (a : Answer (List SheetLine)) → a ≡ behind [] a
behind_none (refused number place) = refl
behind_none (ok more) = refl

behind_more : (done : List SheetLine) (l : SheetLine) (a : Answer (List SheetLine)) → behind done (a >>= λ more. ok (l ∷ more)) ≡ behind (done ++ (l ∷ [])) a
unfolding ◌>>=◌
behind_more done l (refused number place) = refl
behind_more done l (ok more) = ap ok (sym (append_assoc done (l ∷ []) more))

-- ---- a line put in memory

module _ (said : List Said) (i : ℕ) (line : Said) (long : length said ≡ most_satisfaction_orders) (h : i < most_satisfaction_orders) where
  put_long : length (set said i line) ≡ most_satisfaction_orders
  put_long = simp length-set long

  put_lines : each (said_line (set said i line)) 0 (i + 1) ≡ each (said_line said) 0 i ++ (as_line line ∷ [])
  put_lines =
      rw (add-one i)
      (each_more (said_line (set said i line)) 0 i
      ∙ ap (λ (x : ℕ). each (said_line (set said i line)) 0 i ++ (said_line (set said i line) x ∷ [])) (zero-add i)
      ∙ ap (λ (l : List SheetLine). l ++ (said_line (set said i line) i ∷ []))
      (each_same (said_line (set said i line)) (said_line said) 0 i (λ x lt. ap as_line (get_or-set_other said i x line nothing (λ z. omega arith))))
      ∙ ap (λ (l : Said). each (said_line said) 0 i ++ (as_line l ∷ [])) (get_or-set_same said i line nothing (omega arith)))

-- ---- the sheet

module _ (sheet : List ℕ) (lines : ℕ) where
  pub nothing_read : (said : List Said) → length said ≡ most_satisfaction_orders → SheetReading sheet lines said 0 0
  unfolding each
  nothing_read said l = record { rest = rw sub-zero (behind_none (sheet_lines lines (start_of sheet))); low = omega arith; long = l }

  module _ (said : List Said) (at i : ℕ) (w : SheetReading sheet lines said at i) where
    module _ (h : i < lines) (t : Result (Said × ℕ) ℕ) (e : t ≡ three_at sheet at) where
      left : lines - i ≡ suc (lines - (i + 1))
      left = omega arith

      on : sheet_lines (lines - i) (spot_at 0 sheet at) ≡ after_line (lines - (i + 1)) sheet t
      on = rw left (line_at_lem (lines - (i + 1)) sheet at t e)

      pub line_cut : (place : ℕ) → t ≡ Err place → LinesRead sheet lines said (record { lines = i; place = place })
      unfolding after_line
      line_cut place g =
          record {
            cut =
                λ lt. record {
                  is = sym (w.rest ∙ ap (behind (each (said_line said) 0 i)) (on ∙ ap (after_line (lines - (i + 1)) sheet) g));
                  long = w.long;
                };
            whole = λ le. let z : ⊥ = omega arith in elim z [ ];
            low = omega arith;
          }

      pub line_put : (line : Said) (next : ℕ) → t ≡ Ok (line, next) → lines ≤ most_satisfaction_orders → SheetReading sheet lines (set said i line) next (i + 1)
      unfolding after_line
      line_put line next g few =
          record {
            rest =
                w.rest ∙ ap (behind (each (said_line said) 0 i)) (on ∙ ap (after_line (lines - (i + 1)) sheet) g)
                ∙ behind_more (each (said_line said) 0 i) (as_line line) (sheet_lines (lines - (i + 1)) (spot_at 0 sheet next))
                ∙ ap (λ (l : List SheetLine). behind l (sheet_lines (lines - (i + 1)) (spot_at 0 sheet next))) (sym (put_lines said i line w.long (omega arith)));
            low = omega arith;
            long = put_long said i line w.long (omega arith);
          }

    pub lines_read_lem : lines ≤ i → LinesRead sheet lines said (record { lines = lines; place = at })
    lines_read_lem h =
        let e : i ≡ lines = omega (arith, w.low) in
        record { cut = λ lt. let z : ⊥ = omega arith in elim z [ ]; whole = λ le. rw e at w; low = omega arith }

    pub said_long : length said ≡ most_satisfaction_orders
    said_long = w.long

pub ruleset lines_read_laws = (nothing_read, line_cut, line_put, lines_read_lem, said_long)

-- ---- nothing after the last line

module _ (sheet : List ℕ) (lines : ℕ) (said : List Said) (r : Reach) (l : LinesRead sheet lines said r) where
  pub lines_cut : r.lines < lines → SheetRead sheet lines said (Err (record { refusal = NotThreeEach; place = r.place }))
  lines_cut = l.cut

  module _ (h : lines ≤ r.lines) where
    every_line : SheetReading sheet lines said r.place lines
    every_line = l.whole h

    done : lines - lines ≡ 0
    done = omega arith

    pub bytes_left : r.place < length sheet → SheetRead sheet lines said (Err (record { refusal = NotThreeEach; place = r.place }))
    unfolding sheet_lines ◌>>=◌ demand
    bytes_left lt =
        record {
          is = sym (every_line.rest ∙ rw (done, ne_eqb (length (drop r.place sheet)) 0 (λ z. omega (arith, length-drop r.place sheet)), zero-add r.place));
          long = every_line.long;
        }

    pub sheet_read : length sheet ≤ r.place → SheetRead sheet lines said (Ok tt)
    unfolding sheet_lines ◌>>=◌ demand
    sheet_read le =
        record {
          is = sym (every_line.rest ∙ rw (done, eq-eqb (length (drop r.place sheet)) 0 (omega (arith, length-drop r.place sheet)), append-nil));
          long = every_line.long;
        }

pub ruleset sheet_read_laws = (lines_cut, bytes_left, sheet_read)
