-- Laws of the functions that are given numbers: what the entries answer as one number.
use mathlib.Core.Path.{◌≡◌, refl, sym, ap, subst, ◌∙◌}
use mathlib.Core.Logic.{◌⊎◌, inl, inr}
use mathlib.Core.Bool.{true, false}
use mathlib.Core.List.{List, [], ◌∷◌, ◌++◌, append-nil}
use Prim.Native.Nat.{ℕ, ◌+◌, ◌*◌, ◌-◌, ◌%◌, ◌<◌, ◌≤◌}
use native.Mathlib.Nat.{zero-add}
use native.Mathlib.Omega.{arith}
use lib.ListN.{length, get_or, take, drop, set, replicate, length-append, length-drop, length-set, length-replicate, get_or-replicate, get_or-append}
use lib.Seq.{length-take-le, drop-drop, take_at, take-append-add, ext_get_or, get_or-take, get_or-drop}
use borrow.Author.Tests.{le-leb, lt-leb, eq-eqb, ne_eqb}
use Rattle.std.specs.Prelude.{◌==◌}
use Rattle.rules.specs.Basics.{within, refused, ok, ◌>>=◌}
use Rattle.rules.specs.Refusals.{output_too_short}
use Rattle.rules.specs.Number.{start_of, onward}
use Rattle.rules.specs.Header.{Header}
use Rattle.rules.specs.Record.{batch_kind, field_count, Entry, Event, happens, Recorded}
use Rattle.rules.specs.Writing.{no_place, into, lent_after, read_record}
use Rattle.rules.proofs.Tests.{by_test}
use Rattle.rules.proofs.Answers.{went, demand_met, demand_missed}
use Rattle.rules.proofs.Records.{follows_none, follows_seven_each, batch_has_two, count_counts, RecordIn}
use Rattle.rules.proofs.Journals.{record_in_range}
use Rattle.text.specs.Lent.{as_answer}
use Rattle.std.specs.Prelude.{Result, Ok, Err}
use Rattle.rows.specs.Refusals.{number_of, refused_as}
use Rattle.rows.specs.declared.Refusal.{Refusal}
use Rattle.rows.specs.declared.Refusal.TheVariants.{OutputTooShort}
use Rattle.rows.specs.declared.Refused.{Refused}
use Rattle.number.proofs.Groups.{to_end}
use Rattle.fields.proofs.Fitting.{eight_at_most}
use Rattle.header.specs.Head.{as_header, WritesHead}
use Rattle.header.specs.declared.Head.{Head}
use Rattle.record.specs.Taken.{recorded_as, entry_of}
use Rattle.record.specs.declared.Taken.{Taken}
use Rattle.alone.specs.Alone.{fields_read, ReadAlone, WritesRecord}
use Rattle.given.specs.Given.{head_from}
use Rattle.desk.specs.Exports.{refusal_unit, code_of, Gives, rewritten_as}
use Rattle.desk.specs.Records.{wrong_count, write_header_from, write_record_from, read_record_from, handed_out, behind_three}
use Rattle.desk.proofs.Exports.{gives_refusal}

-- ---- the code of a writer's answer

-- "A writer's place is always 0"
abbrev pub at_no_place : Result ℕ Refusal → Result ℕ Refused
at_no_place (Ok n) = Ok n
at_no_place (Err q) = Err (record { refusal = q; place = 0 })

pub code_written : (w : Result ℕ Refusal) → code_of (rewritten_as (at_no_place w)) ≡ code_of (as_answer w)
code_written (Ok n) = refl
code_written (Err q) = refl

-- ---- the writers

module _ (ns out : List ℕ) (r : ℕ) where
  pub header_miscounted : (length ns ≡ 19 → ⊥) → r ≡ code_of (refused wrong_count 0) → Gives (write_header_from ns (length out)) out r out
  unfolding write_header_from ◌>>=◌
  header_miscounted h g = gives_refusal _ wrong_count 0 (rw (demand_missed _ wrong_count no_place (ne_eqb (length ns) 19 h))) out r g

  pub header_written : length ns ≡ 19 → (head : Head) → head ≡ head_from ns → (w : Result ℕ Refusal) (after : List ℕ) → WritesHead head out w after
      → r ≡ code_of (as_answer w) → Gives (write_header_from ns (length out)) out r after
  unfolding write_header_from ◌>>=◌
  header_written h head eh w after wrote g =
      rw (demand_met _ wrong_count no_place (eq-eqb (length ns) 19 h), ← eh) (record { code = g ∙ ap code_of wrote.answer; lent = wrote.lent })

  record_miscounted : within 30 248 (length ns) ≡ false → r ≡ code_of (refused wrong_count 0) → Gives (write_record_from ns (length out)) out r out
  unfolding write_record_from ◌>>=◌
  record_miscounted h g = gives_refusal _ wrong_count 0 (rw (demand_missed _ wrong_count no_place h)) out r g

  pub record_wrongly_counted : (length ns < 30) ⊎ ((30 ≤ length ns) × (248 < length ns)) → r ≡ code_of (refused wrong_count 0)
      → Gives (write_record_from ns (length out)) out r out
  record_wrongly_counted (inl few) g = record_miscounted (rw (lt-leb 30 (length ns) few)) g
  record_wrongly_counted (inr many) g = record_miscounted (rw (le-leb 30 (length ns) many.0, lt-leb (length ns) 248 many.1)) g

  module _ (many : 30 ≤ length ns) where
    pub record_written : length ns ≤ 248 → (head : Head) → head ≡ head_from ns
        → (w : Result ℕ Refusal) (after : List ℕ) → WritesRecord head (get_or ns 19 0) (get_or ns 20 0) (get_or ns 21 0) (take (length ns - 22) (drop 22 ns)) out w after
        → r ≡ code_of (as_answer w) → Gives (write_record_from ns (length out)) out r after
    unfolding write_record_from ◌>>=◌
    record_written few head eh w after wrote g =
        rw (demand_met (within 30 248 (length ns)) wrong_count no_place (rw (le-leb 30 (length ns) many, le-leb (length ns) 248 few)), ← eh, ← to_end ns 22)
        (record { code = g ∙ ap code_of wrote.answer; lent = wrote.lent })

pub ruleset writer_laws = (header_miscounted, header_written, record_wrongly_counted, record_written)

-- ---- the words of a record that was read

module _ (kind : ℕ) (fields : List ℕ) where
  pub all_handed : kind ≡ batch_kind → (n : ℕ) → n ≡ get_or fields 1 0 → 2 + n * 7 ≡ handed_out kind fields
  all_handed b n en = sym (rw (eq-eqb kind batch_kind b, en))

  pub eight_handed : (kind ≡ batch_kind → ⊥) → 8 ≡ handed_out kind fields
  eight_handed nb = sym (rw (ne_eqb kind batch_kind nb))

pub ruleset handed_laws = (all_handed, eight_handed)

three_set : (l : List ℕ) (a b c : ℕ) → 3 ≤ length l → set (set (set l 0 a) 1 b) 2 c ≡ a ∷ b ∷ c ∷ drop 3 l
three_set (x ∷ y ∷ z ∷ l) a b c h = refl
three_set (x ∷ y ∷ []) a b c h = absurd (omega arith)
three_set (x ∷ []) a b c h = absurd (omega arith)
three_set [] a b c h = absurd (omega arith)

module _ (used kind elapsed : ℕ) (fields : List ℕ) (count : ℕ) (out : List ℕ) (there : count ≤ length fields) where
  abbrev words : List ℕ
  words = used % refusal_unit ∷ kind ∷ elapsed ∷ take count fields

  many : length words ≡ 3 + count
  many = omega (arith, length-take-le count fields there)

  pub record_short : length out < 3 + count → (q : Refused) → q ≡ record { refusal = OutputTooShort; place = 0 } → (r : ℕ) → r ≡ code_of (refused_as q)
      → Gives (into (length out) words) out r out
  unfolding into ◌>>=◌
  record_short h q e r g =
      gives_refusal _ output_too_short 0 (rw (demand_missed _ output_too_short no_place (lt-leb (length words) (length out) (omega (arith, many))))) out r (g ∙ rw e)

  pub record_put : 3 + count ≤ length out → (after : List ℕ) → after ≡ behind_three fields count (set (set (set out 0 (used % refusal_unit)) 1 kind) 2 elapsed)
      → Gives (into (length out) words) out ((3 + count) % refusal_unit) after
  unfolding into ◌>>=◌ lent_after
  record_put h after e =
      let filled : into (length out) words ≡ ok words = rw (demand_met _ output_too_short no_place (le-leb (length words) (length out) (omega (arith, many)))) in
      let front : List ℕ = used % refusal_unit ∷ kind ∷ elapsed ∷ [] in
      let three = three_set out (used % refusal_unit) kind elapsed (omega arith) in
      let same : drop (3 + count) (front ++ drop 3 out) ≡ drop (3 + count) out = sym (drop-drop count 3 (front ++ drop 3 out)) ∙ drop-drop count 3 out in
      record {
        code = ap (λ n. n % refusal_unit) (sym many) ∙ rw filled;
        lent = e ∙ ap (behind_three fields count) three ∙ ap (λ l. words ++ l) same ∙ sym (rw filled (ap (λ n. words ++ drop n out) many));
      }

pub word_there : (l : List ℕ) (count i : ℕ) → i < 3 → 3 + count ≤ length l → i < length l
word_there l count i h r = omega arith

pub three_stored : (l last : List ℕ) (a b c : ℕ) → length last ≡ length (set (set (set l 0 a) 1 b) 2 c) → length last ≡ length l
three_stored l last a b c e = e ∙ length-set (set (set l 0 a) 1 b) 2 c ∙ length-set (set l 0 a) 1 b ∙ length-set l 0 a

pub ruleset put_laws = (record_short, record_put, word_there, three_stored)

-- ---- the reader

-- what 5 and 6 have looked at
read_in_range : (h : Header) (now : ℕ) (s : List ℕ) (r : Recorded) → read_record h now s ≡ ok r → RecordIn h (happens now r.entry)
unfolding read_record
read_in_range h now s r e = record_in_range h now (start_of s) r (went _ _ e).rest

abbrev zeros : ℕ → List ℕ
zeros n = replicate n 0

zeros_are : (m k n : ℕ) → k + n ≤ m → take n (drop k (zeros m)) ≡ zeros n
zeros_are m k n l =
    ext_get_or 0 (take n (drop k (zeros m))) (zeros n) (long ∙ sym (length-replicate n 0))
    (λ i hi.
    let j : i < n = omega (arith, long) in
    get_or-take n (drop k (zeros m)) i 0 j ∙ get_or-drop k (zeros m) i 0 ∙ get_or-replicate m (k + i) 0 0 (omega arith) ∙ sym (get_or-replicate n i 0 0 j))
  where
    many : length (zeros m) ≡ m
    many = length-replicate m 0

    long : length (take n (drop k (zeros m))) ≡ n
    long = length-take-le n (drop k (zeros m)) (omega (arith, length-drop k (zeros m), many))

record Handed (fields after : List ℕ) (count : ℕ) : Type 0 where
  pub fits : length fields ≤ 226
  pub few : count ≤ 226
  pub words : take count after ≡ fields ++ replicate (8 - length fields) 0

-- of words that begin with a record's fields, and have zeros behind them, the record's own are handed out, and at least 8
module _ (h : Header) (e : Event) (i : RecordIn h e) (after : List ℕ) (ea : after ≡ e.fields ++ drop (length e.fields) (replicate 226 0)) (count : ℕ) (ec : count ≡ handed_out e.kind after) where
  behind : List ℕ
  behind = drop (length e.fields) (replicate 226 0)

  batch_handed : (e.kind == batch_kind) ≡ true → Handed e.fields after count
  unfolding field_count behind
  batch_handed b =
      let n : ℕ = get_or e.fields 1 0 in
      let counts = count_counts h e.kind e.fields b i.count_fits_lem in
      let long : length e.fields ≡ 2 + n * 7 = omega (arith, i.as_many, batch_has_two h e.kind b, follows_seven_each e.kind e.fields b) in
      let same : get_or after 1 0 ≡ n = ap (λ l. get_or l 1 0) ea ∙ get_or-append e.fields behind 0 1 (omega (arith, long)) in
      let is : count ≡ length e.fields = ec ∙ rw b (ap (λ k. 2 + k * 7) same ∙ sym long) in
      let none : 8 - length e.fields ≡ 0 = omega (arith, long, counts.0) in
      record {
        fits = omega (arith, long, counts.1);
        few = omega (arith, is, long, counts.1);
        words = ap (take count) ea ∙ take_at e.fields behind count (sym is) ∙ sym (rw (none, append-nil e.fields));
      }

  plain_handed : (e.kind == batch_kind) ≡ false → Handed e.fields after count
  unfolding field_count behind
  plain_handed b =
      let short : length e.fields ≤ 8 = omega (arith, i.as_many, eight_at_most h e.kind, follows_none e.kind e.fields b) in
      let is : count ≡ length e.fields + (8 - length e.fields) = ec ∙ rw b (omega (arith, short)) in
      record {
        fits = omega (arith, short);
        few = omega (arith, is, short);
        words =
            ap (take count) ea ∙ ap (λ n. take n (e.fields ++ behind)) is ∙ take-append-add e.fields behind (8 - length e.fields)
            ∙ ap (λ l. e.fields ++ l) (zeros_are 226 (length e.fields) (8 - length e.fields) (omega (arith, short)));
      }

  front_handed : Handed e.fields after count
  front_handed = by_test (e.kind == batch_kind) batch_handed plain_handed

module _ (ns bytes out : List ℕ) where
  pub reading_miscounted : (length ns ≡ 20 → ⊥) → (r : ℕ) → r ≡ code_of (refused wrong_count 0) → Gives (read_record_from ns bytes (length out)) out r out
  unfolding read_record_from ◌>>=◌
  reading_miscounted h r g = gives_refusal _ wrong_count 0 (rw (demand_missed _ wrong_count no_place (ne_eqb (length ns) 20 h))) out r g

  module _ (h : length ns ≡ 20) (head : Head) (eh : head ≡ head_from ns) (answer : Result Taken Refused) (after : List ℕ)
      (ra : ReadAlone bytes head (get_or ns 19 0) (replicate 226 0) answer after) where
    reads : read_record (as_header (head_from ns)) (get_or ns 19 0) bytes ≡ recorded_as 0 bytes answer after
    reads = subst (λ (x : Head). read_record (as_header x) (get_or ns 19 0) bytes ≡ recorded_as 0 bytes answer after) eh ra.reads

    pub reading_refused : (q : Refused) → answer ≡ Err q → (r : ℕ) → r ≡ code_of (refused_as q) → Gives (read_record_from ns bytes (length out)) out r out
    unfolding read_record_from recorded_as ◌>>=◌
    reading_refused q e r g =
        gives_refusal _ (number_of q.refusal) q.place
        (rw (demand_met _ wrong_count no_place (eq-eqb (length ns) 20 h), reads, e, zero-add))
        out r g

    module _ (t : Taken) (z : answer ≡ Ok t) where
      abbrev entry : Entry
      entry = entry_of t after

      found : read_record (as_header (head_from ns)) (get_or ns 19 0) bytes ≡ ok (record { entry = entry; next = onward (record { place = 0; rest = bytes }) t.used })
      unfolding recorded_as
      found = reads ∙ rw z

      holds : RecordIn (as_header (head_from ns)) (happens (get_or ns 19 0) entry)
      holds = read_in_range (as_header (head_from ns)) (get_or ns 19 0) bytes _ found

      -- its fields stand before zeros
      in_front : after ≡ entry.fields ++ drop (length entry.fields) (replicate 226 0)
      unfolding fields_read lent_after ◌>>=◌
      in_front = subst (λ (x : Head). after ≡ lent_after (fields_read (read_record (as_header x) (get_or ns 19 0) bytes)) (replicate 226 0)) eh ra.lent ∙ rw found

      module _ (count : ℕ) (ec : count ≡ handed_out t.rec.kind after) where
        handed : Handed entry.fields after count
        handed = front_handed (as_header (head_from ns)) (happens (get_or ns 19 0) entry) holds after in_front count ec

        pub handed_few : count ≤ 226
        handed_few = handed.few

        pub handed_there : count ≤ length after
        handed_there =
            omega (arith, handed.fits, handed.few, ap length in_front, length-append entry.fields (drop (length entry.fields) (zeros 226)), length-drop (length entry.fields) (zeros 226))

        pub reading_read : (r : ℕ) (d : List ℕ) → Gives (into (length out) (t.used % refusal_unit ∷ t.rec.kind ∷ t.elapsed ∷ take count after)) out r d
            → Gives (read_record_from ns bytes (length out)) out r d
        unfolding read_record_from ◌>>=◌
        reading_read r d g = rw (demand_met _ wrong_count no_place (eq-eqb (length ns) 20 h), found, zero-add, ← handed.words) g

pub ruleset reader_laws = (reading_miscounted, reading_refused, handed_few, handed_there, reading_read)
