-- What the code gives out is what the definitions give: the turn found is the round's, and every way out of the giving leaves the shares of our own sheet.
use mathlib.Core.Path.{◌≡◌, refl, sym, ap, ◌∙◌, subst}
use mathlib.Core.List.{List, [], ◌∷◌, ◌++◌, map, map-map, append-nil}
use Prim.Native.Nat.{ℕ, zero, suc, ◌+◌, ◌<◌, ◌≤◌}
use native.Mathlib.Numerals.{add-one}
use native.Mathlib.Omega.{arith}
use lib.ListN.{length, take, drop, get_or, set, length-set, length-map, drop_of_length-le}
use lib.Seq.{take-length}
use Rattle.std.specs.Prelude.{Option, Some, None}
use Rattle.rules.specs.Basics.{sum}
use Rattle.rules.specs.Due.{Line, claims_of, Share}
use Rattle.rules.specs.OwnSheet.{give_one, give, empty}
use Rattle.rules.specs.SheetCheck.{fills_of}
use Rattle.rules.proofs.OwnSheet.{empty_lines}
use Rattle.sharing.specs.declared.Turn.{Turn}
use Rattle.fairness.specs.Lines.{claims_in, customers_in, fills_in, Lined, Gathered, claim_at, contracts_at, filled_at, share_at, nothing, Served}
use Rattle.fairness.specs.declared.Portion.{Portion}
use Rattle.sharing.specs.Turns.{Least, Found, nobody, least, Scanning, NextTurn, Stays, Given, Giving, emptied, full, Made, SharedOut}
use Rattle.sharing.proofs.Turns.{scanning_none, scanning_more}
use Rattle.fairness.proofs.Places.{set_keeps, gathered_many, fill_at, claim_at_lem, customers_at, gathered_served}
use Rattle.sharing.proofs.Rounds.{round_gives, round_over, rounds_over, round_keeps_lines, all_claims_due_fills_every_claim}

-- ---- the turn found is the round's

module _ (portions : List Portion) (ss : List Share) (g : Gathered ss portions) where
  module _ (t : Turn) (l : Least portions (length portions) t) where
    unfilled_share : (i : ℕ) → i < length portions → (share_at ss i).filled < (share_at ss i).line.claim → filled_at portions i < claim_at portions i
    unfilled_share i h u = rw (fill_at ss portions g i, claim_at_lem ss portions g i) u

    turn_gives : fills_of (give_one ss) ≡ set (fills_of ss) t.line t.fill
    turn_gives =
        let m = t.line in
        let n = gathered_many ss portions g in
        let fm = fill_at ss portions g m in
        let cm = claim_at_lem ss portions g m in
        let sm = customers_at ss portions g m in
        let v : t.fill ≡ (share_at ss m).filled + 1 = l.one_more ∙ ap (λ (x : ℕ). x + 1) fm in
        let w : t.customers ≡ (share_at ss m).line.customers = l.own ∙ sm in
        rw v
        (round_gives ss m (omega (arith, l.here)) (rw (← fm, ← cm) l.unfilled)
        (λ i h u.
        let hi : i < length portions = omega arith in
        rw (← v, ← w, ← fill_at ss portions g i, ← customers_at ss portions g i) (l.least i hi (unfilled_share i hi u)))
        (λ i h u.
        let hi : i < length portions = omega (arith, l.here) in
        rw (← v, ← w, ← fill_at ss portions g i, ← customers_at ss portions g i) (l.earliest i h (unfilled_share i hi u))))

  turn_over : ((i : ℕ) → i < length portions → claim_at portions i ≤ filled_at portions i) → give_one ss ≡ ss
  turn_over filled =
      let m = gathered_many ss portions g in
      round_over ss (λ i h.
      let hi : i < length portions = omega arith in
      rw (← claim_at_lem ss portions g i, ← fill_at ss portions g i) (filled i hi))

  module _ (t : Turn) where
    found_gives : t.line < length portions → Found portions (length portions) t → fills_of (give_one ss) ≡ set (fills_of ss) t.line t.fill
    found_gives h (nobody n) = let e : t.line ≡ length portions = ap (λ (x : Turn). x.line) n.is in absurd (omega arith)
    found_gives h (least l) = turn_gives t l

    found_over : length portions ≤ t.line → Found portions (length portions) t → give_one ss ≡ ss
    found_over h (nobody n) = turn_over n.filled
    found_over h (least l) = absurd (omega (arith, l.here))

module _ (portions : List Portion) (i : ℕ) (t : Turn) (s : Scanning portions i t) (all : length portions ≤ i) where
  found_last : Served portions → Found portions (length portions) t
  found_last served = let e : i ≡ length portions = omega (arith, s.low) in rw e at (s.found served)

  pub scanning_found : t.line < length portions → NextTurn portions (Some t)
  scanning_found h =
      record {
        low = λ u e. let l : t ≡ u = cc in rw (← l) h;
        gives = λ u e ss g. let l : t ≡ u = cc in rw (← l) (found_gives portions ss g t h (found_last (gathered_served ss portions g)));
        over = λ e. cc;
      }

  pub scanning_nobody : length portions ≤ t.line → NextTurn portions None
  scanning_nobody h =
      record {
        low = λ u e. cc;
        gives = λ u e. cc;
        over = λ e ss g. found_over portions ss g t h (found_last (gathered_served ss portions g));
      }

pub ruleset scan_laws = (scanning_none, scanning_more, scanning_found, scanning_nobody)

-- ---- giving

-- a line put in place of another
set_maps : (f : Portion → ℕ) (portions : List Portion) (i : ℕ) (p : Portion) → map f (set portions i p) ≡ set (map f portions) i (f p)
set_maps f [] i p = refl
set_maps f (q ∷ portions) zero p = refl
set_maps f (q ∷ portions) (suc i) p = ap (λ l. f q ∷ l) (set_maps f portions i p)

module _ (contracts : ℕ) (before : List Portion) where
  pub giving_none : Giving contracts before before 0
  unfolding give
  giving_none = record { so_far = record { gave = λ ss g. g; stays = record { claims = refl; customers = refl }; long = refl }; low = omega arith }

  module _ (portions : List Portion) (given : ℕ) (so_far : Giving contracts before portions given) (next : Option Turn) (n : NextTurn portions next) where
    module _ (t : Turn) (e : next ≡ Some t) where
      -- the line whose turn it is, with one contract more
      abbrev with_it : Portion
      with_it = record { claim = claim_at portions t.line; customers = contracts_at portions t.line; filled = t.fill }

      claims_stay : claims_in (set portions t.line with_it) ≡ claims_in portions
      claims_stay = set_keeps (λ (p : Portion). p.claim) portions t.line with_it refl

      customers_stay : customers_in (set portions t.line with_it) ≡ customers_in portions
      customers_stay = set_keeps (λ (p : Portion). p.customers) portions t.line with_it refl

      -- the round's shares stand where the turn's fill is put
      put_gathered : (ss : List Share) → Gathered ss portions → Gathered (give_one ss) (set portions t.line with_it)
      put_gathered ss g =
          record {
            lined =
                subst (λ (ls : List Line). Lined ls (set portions t.line with_it)) (sym (round_keeps_lines ss))
                (record {
                  claims = claims_stay ∙ g.lined.claims;
                  customer_contracts = customers_stay ∙ g.lined.customer_contracts;
                  sound = g.lined.sound;
                });
            fills = set_maps (λ (p : Portion). p.filled) portions t.line with_it ∙ ap (λ (l : List ℕ). set l t.line t.fill) g.fills ∙ sym (n.gives t e ss g);
          }

      pub line_there : t.line < length portions
      line_there = n.low t e

      pub giving_more : given < contracts → Giving contracts before (set portions t.line with_it) (given + 1)
      unfolding give
      giving_more lt =
          record {
            so_far =
                record {
                  gave = λ ss g. rw (add-one given) (put_gathered (give given ss) (so_far.so_far.gave ss g));
                  stays = record { claims = claims_stay ∙ so_far.so_far.stays.claims; customers = customers_stay ∙ so_far.so_far.stays.customers };
                  long = length-set portions t.line with_it ∙ so_far.so_far.long;
                };
            low = omega arith;
          }

    pub giving_over : given < contracts → next ≡ None → Given contracts before portions
    giving_over lt e =
        record {
          gave =
              λ ss g.
              let r = so_far.so_far.gave ss g in
              rw (rounds_over contracts given ss (omega arith) (n.over e (give given ss) r)) r;
          stays = so_far.so_far.stays;
          long = so_far.so_far.long;
        }

  pub giving_all : (portions : List Portion) (given : ℕ) → Giving contracts before portions given → contracts ≤ given → Given contracts before portions
  giving_all portions given g ge = let e : given ≡ contracts = omega (arith, g.low) in rw e at g.so_far

pub ruleset give_laws = (giving_none, line_there, giving_more, giving_over, giving_all)

-- ---- every line made so

module _ (f : Portion → Portion) where
  here : (l : List Portion) (i : ℕ) → get_or (map f (take i l) ++ drop i l) i nothing ≡ get_or l i nothing
  here [] zero = refl
  here [] (suc i) = refl
  here (p ∷ l) zero = refl
  here (p ∷ l) (suc i) = here l i

  one_more_made : (l : List Portion) (i : ℕ) → i < length l → set (map f (take i l) ++ drop i l) i (f (get_or l i nothing)) ≡ map f (take (suc i) l) ++ drop (suc i) l
  one_more_made [] i h = absurd (omega arith)
  one_more_made (p ∷ l) zero h = refl
  one_more_made (p ∷ l) (suc i) h = ap (λ t. f p ∷ t) (one_more_made l i (omega arith))

  module _ (before : List Portion) where
    module _ (portions : List Portion) (i : ℕ) (m : Made f before i portions) where
      pub made_more : i < length before → Made f before (i + 1) (set portions i (f (get_or portions i nothing)))
      made_more h =
          (rw (m.0, here before i, add-one i) (one_more_made before i h), omega arith)

      pub made_all : length before ≤ i → portions ≡ map f before
      made_all h =
          let e : i ≡ length before = omega (arith, m.1) in
          let none : drop (length before) before ≡ [] = drop_of_length-le before {i = length before} (omega arith) in
          m.0 ∙ rw (e, take-length before, none, append-nil)

-- ---- sharing out

empty_fills : (ls : List Line) (portions : List Portion) → claims_in portions ≡ claims_of ls → fills_in (map emptied portions) ≡ fills_of (map empty ls)
empty_fills [] [] e = refl
empty_fills [] (p ∷ portions) e = cc
empty_fills (l ∷ ls) [] e = cc
empty_fills (l ∷ ls) (p ∷ portions) e = let r : claims_in portions ≡ claims_of ls = cc in ap (λ (x : List ℕ). 0 ∷ x) (empty_fills ls portions r)

full_fills : (portions : List Portion) → fills_in (map full portions) ≡ claims_in portions
full_fills portions = map-map (λ (p : Portion). p.filled) full portions

-- emptied or full, they are the same lines
emptied_stays : (portions : List Portion) → Stays portions (map emptied portions)
emptied_stays portions =
    record { claims = map-map (λ (p : Portion). p.claim) emptied portions; customers = map-map (λ (p : Portion). p.customers) emptied portions }

full_stays : (portions : List Portion) → Stays portions (map full portions)
full_stays portions =
    record { claims = map-map (λ (p : Portion). p.claim) full portions; customers = map-map (λ (p : Portion). p.customers) full portions }

emptied_lined : (ls : List Line) (portions : List Portion) → Lined ls portions → Lined ls (map emptied portions)
emptied_lined ls portions l =
    record {
      claims = (emptied_stays portions).claims ∙ l.claims;
      customer_contracts = (emptied_stays portions).customers ∙ l.customer_contracts;
      sound = l.sound;
    }

module _ (due : ℕ) (before whole : List Portion) (ew : whole ≡ map full before) where
  pub shared_in_turn : (none : List Portion) → none ≡ map emptied whole → (after : List Portion) → Given due none after → SharedOut due before after
  shared_in_turn none en after g =
      record {
        shares = λ ls l. (g.gave (map empty ls) (gathered ls l)).fills;
        stays =
            record {
              claims = g.stays.claims ∙ ap claims_in again ∙ (emptied_stays before).claims;
              customers = g.stays.customers ∙ ap customers_in again ∙ (emptied_stays before).customers;
            };
        long = g.long ∙ ap length again ∙ length-map before emptied;
      }
    where
      again : none ≡ map emptied before
      again = en ∙ ap (map emptied) ew ∙ map-map emptied full before

      gathered : (ls : List Line) → Lined ls before → Gathered (map empty ls) none
      gathered ls l =
          record {
            lined = rw again (subst (λ (x : List Line). Lined x (map emptied before)) (sym (empty_lines ls)) (emptied_lined ls before l));
            fills = rw again (empty_fills ls before l.claims);
          }

  filled_up : fills_in whole ≡ claims_in before
  filled_up = ap fills_in ew ∙ full_fills before

  pub whole_long : length whole ≡ length before
  whole_long = ap length ew ∙ length-map before full

  pub shared_at_once : (s : ℕ) → s ≡ sum (fills_in whole) → due ≡ s → SharedOut due before whole
  shared_at_once s e d =
      record {
        shares =
            λ ls l.
            let n : due ≡ sum (claims_of ls) = d ∙ e ∙ ap sum (filled_up ∙ l.claims) in
            rw n (filled_up ∙ l.claims ∙ sym (all_claims_due_fills_every_claim ls (λ x m. (l.sound x m).served)));
        stays = record { claims = ap claims_in ew ∙ (full_stays before).claims; customers = ap customers_in ew ∙ (full_stays before).customers };
        long = whole_long;
      }

pub ruleset share_laws = (shared_in_turn, whole_long, shared_at_once)
