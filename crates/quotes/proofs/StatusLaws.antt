-- Statuses: what a record does to the table.
use mathlib.Core.Path.{◌≡◌, sym, ◌∙◌}
use mathlib.Core.List.{List, [], ◌∷◌}
use Prim.Native.Nat.{ℕ, ◌+◌, ◌-◌, ◌<◌, ◌≤◌}
use native.Mathlib.Omega.{arith}
use lib.Dec.{eqb}
use lib.ListN.{set, length-set, replicate, length-replicate, get_or-replicate}
use lib.Seq.{get_or-set_same, get_or-set_other}
use borrow.Author.Tests.{eq-eqb, ne_eqb, eqb-true, eqb-false}
use Rattle.rules.specs.Limits.{most_exchanges}
use Rattle.rules.specs.Record.{Event, field, status_kind}
use Rattle.rules.specs.Journal.{History}
use Rattle.rules.specs.Prices.{status_of}
use Rattle.rules.proofs.Tests.{by_test}
use Rattle.rows.specs.Rows.{word}
use Rattle.rows.specs.declared.Rec.{Rec}
use Rattle.quotes.specs.Tables.{Statuses, FitsQuotes, StatusesStep}

-- an event of any other kind leaves the statuses alone
pub statuses_alone : (e : Event) (past : History) (statuses : List ℕ) → (e.kind ≡ status_kind → ⊥) → Statuses past statuses → Statuses (e ∷ past) statuses
unfolding status_of
statuses_alone e past statuses ne held =
    record { status = λ y hy. rw (ne_eqb e.kind status_kind ne) (held.status y hy); long = held.long }

module _ (statuses : List ℕ) (exchange v : ℕ) (e : Event) (past : History) (k : e.kind ≡ status_kind) (ex : exchange ≡ field e 0) (ev : v ≡ field e 1) (from : 1 ≤ exchange) (to : exchange ≤ most_exchanges) where
  statuses_put : Statuses past statuses → Statuses (e ∷ past) (set statuses (exchange - 1) v)
  unfolding status_of
  statuses_put held =
      record {
        status = λ y hy. by_test (eqb y (exchange - 1))
            (λ z. let at = eqb-true y (exchange - 1) z in let here : field e 0 ≡ y + 1 = omega arith in
            rw (eq-eqb _ _ k, eq-eqb _ _ here, at) (get_or-set_same statuses (exchange - 1) v 0 (omega (arith, held.long)) ∙ ev))
            (λ z. let off = eqb-false y (exchange - 1) z in let there : field e 0 ≡ y + 1 → ⊥ = λ a. off (omega arith) in
            rw (eq-eqb _ _ k, ne_eqb _ _ there) (get_or-set_other statuses (exchange - 1) y v 0 off ∙ held.status y hy));
        long = simp length-set held.long;
      }

-- ---- the step, as the code takes it

module _ (r : Rec) where
  pub statuses_kept : (statuses : List ℕ) → (r.kind ≡ status_kind → ⊥) → StatusesStep r statuses statuses
  statuses_kept statuses ne = record { so = λ e past reads held. statuses_alone e past statuses (λ z. ne (sym reads.kind ∙ z)) held }

  module _ (p : FitsQuotes r) (k : r.kind ≡ status_kind) (exchange : ℕ) (ex : exchange ≡ word r 0) where
    pub status_from_one : 1 ≤ exchange
    status_from_one = let g = p.status k in omega (arith, g.exchange.from_one)

    pub status_below_eight : exchange - 1 < most_exchanges
    status_below_eight = let g = p.status k in omega (arith, g.exchange.from_one, g.exchange.to_n)

    pub statuses_taken : (statuses : List ℕ) → StatusesStep r statuses (set statuses (exchange - 1) (word r 1))
    statuses_taken statuses =
        let g = p.status k in
        record {
          so = λ e past reads held.
              statuses_put statuses exchange (word r 1) e past (reads.kind ∙ k) (ex ∙ reads.fields 0) (reads.fields 1) status_from_one (omega (arith, g.exchange.to_n)) held;
        }

-- "All start firm, without quotes."
pub statuses_none : Statuses [] (replicate most_exchanges 0)
unfolding status_of
statuses_none = record { status = λ y hy. get_or-replicate {A = ℕ} most_exchanges y 0 0 hy; long = length-replicate {A = ℕ} most_exchanges 0 }

pub ruleset status_laws = (statuses_kept, status_from_one, status_below_eight, statuses_taken)
