-- Document 02, e: "Its verdicts and end state equal those of so many kind 1 records (byte limit and event numbers aside)": wherever a batch
-- stands among the records of a day, the same happened as where its quotes stand there as records of their own, and the same is printed.
use mathlib.Core.Path.{◌≡◌, refl, sym, ap, subst, ◌∙◌}
use mathlib.Core.Bool.{true, false, not, ◌&&◌, ◌||◌}
use mathlib.Core.List.{List, [], ◌∷◌, ◌++◌, map, map-append, append_assoc, append-nil}
use Prim.Native.Nat.{ℕ, zero, suc, ◌≤◌}
use native.Mathlib.Omega.{arith}
use lib.ListN.{length, take, drop}
use borrow.Author.Tests.{eqb-true}
use Rattle.std.specs.Prelude.{◌==◌}
use Rattle.rules.specs.Basics.{any, ok, Passed}
use Rattle.rules.specs.Limits.{most_journal_bytes}
use Rattle.rules.specs.Number.{Bytes}
use Rattle.rules.specs.Header.{Header, header_in_range}
use Rattle.rules.specs.Record.{quote_kind, batch_kind, Event, known, field_count, is_batch, is_quote, is_trade, is_sent, is_received, is_satisfaction, quote, quotes_in, told, sound, all_sound, count_fits, record_sound}
use Rattle.rules.specs.Journal.{History, Records, and_then, happened, time_so_far, belongs, has_room, DayRecords, journal_of, day_records, journal, journal_bytes}
use Rattle.rules.specs.SheetCheck.{check_sheet}
use Rattle.rules.specs.OwnSheet.{SheetLine, own_lines}
use Rattle.rules.specs.PrintedDay.{Printed, judged, settled, shown, listed}
use Rattle.rules.proofs.Tests.{by_test}
use Rattle.rules.proofs.Answers.{went, goes_on_lem, demand_met}
use Rattle.rules.proofs.Records.{told_itself, told_quotes, count_counts, record_sound_in, told_sound, header_in_range_lem}
use Rattle.rules.proofs.Journals.{MayStand, no_record, one_record, day_stands, day_header_in_range, written_day_reads_back}

-- ---- what a record tells of, told by records of its own

-- events that tell of themselves, as records
data Themselves : List Event → Type 0 where
  nobody : Themselves []
  each : {e : Event} {es : List Event} → told e ≡ e ∷ [] → Themselves es → Themselves (e ∷ es)

quotes_themselves : (k time x : ℕ) (ns : List ℕ) → Themselves (quotes_in k time x ns)
unfolding quotes_in told
quotes_themselves zero time x ns = nobody
quotes_themselves (suc k) time x ns = each refl (quotes_themselves k time x _)

told_themselves : (r : Event) → Themselves (told r)
told_themselves r =
    by_test (is_batch r)
    (λ b. subst Themselves (sym (told_quotes r b)) (quotes_themselves _ _ _ _))
    (λ b. subst Themselves (sym (told_itself r b)) (each (told_itself r b) nobody))

-- ---- what happened

happened_themselves : {es : List Event} → Themselves es → (records : Records) → happened (and_then es records) ≡ and_then es (happened records)
unfolding and_then happened
happened_themselves nobody records = refl
happened_themselves (each {e} {es} p t) records = happened_themselves t (e ∷ records) ∙ ap (λ fs. and_then es (and_then fs (happened records))) p

-- what happens later goes by what happened before, and not by the records that told of it
happened_later : (later a b : Records) → happened a ≡ happened b → happened (later ++ a) ≡ happened (later ++ b)
unfolding happened
happened_later [] a b e = e
happened_later (r ∷ later) a b e = ap (and_then (told r)) (happened_later later a b e)

told_happened : (r : Event) (records : Records) → happened (r ∷ records) ≡ happened (and_then (told r) records)
unfolding happened
told_happened r records = sym (happened_themselves (told_themselves r) records)

-- So the same quotes stand, the same claims and totals are due, our own sheet is the same and the same sheets are good: all of these are
-- asked of the history.
pub batch_as_quotes : (later : Records) (r : Event) (before : Records) → happened (later ++ (r ∷ before)) ≡ happened (later ++ and_then (told r) before)
batch_as_quotes later r before = happened_later later (r ∷ before) (and_then (told r) before) (told_happened r before)

pub same_journal : (h : Header) (later : Records) (r : Event) (before : Records)
    → journal_of (record { header = h; records = later ++ (r ∷ before) }) ≡ journal_of (record { header = h; records = later ++ and_then (told r) before })
same_journal h later r before = ap (λ past. record { header = h; history = past }) (batch_as_quotes later r before)

-- ---- what is printed, "event numbers aside"

abbrev pub unnumbered : Printed → Printed
unnumbered p = record { event = 0; what = p.what; says = p.says }

abbrev pub aside : List Printed → List Printed
aside ps = map unnumbered ps

judged_aside : (h : Header) (n m : ℕ) (past : History) (e : Event) → aside (judged h n past e) ≡ aside (judged h m past e)
unfolding judged
judged_aside h n m past e =
    by_test (is_quote e && (quote e).exchange == h.home) (λ a. rw a)
    (λ a. by_test (is_sent e) (λ b. rw (a, b))
    (λ b. by_test (is_received e) (λ c. rw (a, b, c))
    (λ c. by_test (is_trade e) (λ d. rw (a, b, c, d)) (λ d. rw (a, b, c, d)))))

settled_aside : (own : List SheetLine) (n m : ℕ) (past : History) (e : Event) → aside (settled own n past e) ≡ aside (settled own m past e)
unfolding settled
settled_aside own n m past e = by_test (is_satisfaction e) (λ a. rw a) (λ a. rw a)

module _ (h : Header) (own : List SheetLine) where
  event_aside : (n m : ℕ) (past : History) (e : Event)
      → aside (judged h n past e ++ settled own n past e) ≡ aside (judged h m past e ++ settled own m past e)
  event_aside n m past e =
      map-append unnumbered (judged h n past e) (settled own n past e)
      ∙ ap (λ ps. ps ++ aside (settled own n past e)) (judged_aside h n m past e)
      ∙ ap (λ ps. aside (judged h m past e) ++ ps) (settled_aside own n m past e)
      ∙ sym (map-append unnumbered (judged h m past e) (settled own m past e))

  shown_aside : (n m : ℕ) (past : History) (es : List Event) → aside (shown h own n past es) ≡ aside (shown h own m past es)
  unfolding shown
  shown_aside n m past [] = refl
  shown_aside n m past (e ∷ es) =
      map-append unnumbered (judged h n past e ++ settled own n past e) (shown h own n (e ∷ past) es)
      ∙ ap (λ ps. ps ++ aside (shown h own n (e ∷ past) es)) (event_aside n m past e)
      ∙ ap (λ ps. aside (judged h m past e ++ settled own m past e) ++ ps) (shown_aside n m (e ∷ past) es)
      ∙ sym (map-append unnumbered (judged h m past e ++ settled own m past e) (shown h own m (e ∷ past) es))

  -- of one record more
  listed_one_more : (n : ℕ) (r : Event) (records : Records) → aside (listed h own (r ∷ records)) ≡ aside (listed h own records) ++ aside (shown h own n (happened records) (told r))
  unfolding listed
  listed_one_more n r records =
      map-append unnumbered (listed h own records) (shown h own (length records) (happened records) (told r))
      ∙ ap (λ ps. aside (listed h own records) ++ ps) (shown_aside (length records) n (happened records) (told r))

  -- of one event, then of those after it
  shown_parts : (n : ℕ) (past : History) (e : Event) (es : List Event) → aside (shown h own n past (e ∷ es)) ≡ aside (shown h own n past (e ∷ [])) ++ aside (shown h own n (e ∷ past) es)
  unfolding shown
  shown_parts n past e es =
      map-append unnumbered (judged h n past e ++ settled own n past e) (shown h own n (e ∷ past) es)
      ∙ ap (λ ps. aside ps ++ aside (shown h own n (e ∷ past) es)) (sym (append-nil (judged h n past e ++ settled own n past e)))

  listed_themselves : {es : List Event} → Themselves es → (n : ℕ) (records : Records)
      → aside (listed h own (and_then es records)) ≡ aside (listed h own records) ++ aside (shown h own n (happened records) es)
  unfolding and_then happened shown
  listed_themselves nobody n records = sym (append-nil (aside (listed h own records)))
  listed_themselves (each {e} {es} p t) n records =
      let past : History = happened records in
      let so_far : List Printed = aside (listed h own records) in
      listed_themselves t n (e ∷ records)
      ∙ ap (λ fs. aside (listed h own (e ∷ records)) ++ aside (shown h own n (and_then fs past) es)) p
      ∙ ap (λ ps. ps ++ aside (shown h own n (e ∷ past) es)) (listed_one_more n e records)
      ∙ ap (λ fs. (so_far ++ aside (shown h own n past fs)) ++ aside (shown h own n (e ∷ past) es)) p
      ∙ append_assoc so_far (aside (shown h own n past (e ∷ []))) (aside (shown h own n (e ∷ past) es))
      ∙ ap (λ ps. so_far ++ ps) (sym (shown_parts n past e es))

  listed_later : (later a b : Records) → happened a ≡ happened b → aside (listed h own a) ≡ aside (listed h own b)
      → aside (listed h own (later ++ a)) ≡ aside (listed h own (later ++ b))
  listed_later [] a b e f = f
  listed_later (r ∷ later) a b e f =
      listed_one_more 0 r (later ++ a)
      ∙ ap (λ past. aside (listed h own (later ++ a)) ++ aside (shown h own 0 past (told r))) (happened_later later a b e)
      ∙ ap (λ ps. ps ++ aside (shown h own 0 (happened (later ++ b)) (told r))) (listed_later later a b e f)
      ∙ sym (listed_one_more 0 r (later ++ b))

  pub same_list_but_numbers : (later : Records) (r : Event) (before : Records)
      → aside (listed h own (later ++ (r ∷ before))) ≡ aside (listed h own (later ++ and_then (told r) before))
  same_list_but_numbers later r before =
      listed_later later (r ∷ before) (and_then (told r) before) (told_happened r before)
      (listed_one_more 0 r before ∙ sym (listed_themselves (told_themselves r) 0 before))

-- ---- whole journals: the bytes of the day in which every batch is so many records of kind 1

-- what happened, each event as a record of its own
abbrev pub by_themselves : DayRecords → DayRecords
by_themselves d = record { header = d.header; records = happened d.records }

happened_again : (records : Records) → happened (happened records) ≡ happened records
unfolding happened
happened_again [] = refl
happened_again (r ∷ records) = happened_themselves (told_themselves r) (happened records) ∙ ap (and_then (told r)) (happened_again records)

-- a record that is no batch and passes 5 and 6 as an event passes them as a record
sound_alone : (h : Header) (e : Event) (p : ℕ) {v : Passed} → is_batch e ≡ false → sound h e p ≡ ok v → record_sound h e p ≡ ok tt
unfolding record_sound count_fits all_sound
sound_alone h e p b s =
    goes_on_lem _ _ (demand_met _ _ p (rw b)) ∙ goes_on_lem _ _ (demand_met _ _ p (rw b)) ∙ ap (λ es. all_sound h es p) (told_itself e b) ∙ goes_on_lem _ _ s

-- a quote is a record that may stand wherever its numbers and its time fit
quote_stands : (h : Header) (time : ℕ) (fields : List ℕ) (records : Records) {v : Passed} → MayStand h records → time_so_far records ≤ time
    → sound h (record { kind = quote_kind; time = time; fields = fields }) 0 ≡ ok v → MayStand h (record { kind = quote_kind; time = time; fields = fields } ∷ records)
unfolding known any belongs has_room
quote_stands h time fields records m t s =
    one_record {e = record { kind = quote_kind; time = time; fields = fields }} m refl (sound_alone h (record { kind = quote_kind; time = time; fields = fields }) 0 refl s) t refl refl

quotes_stand : (h : Header) (k time x : ℕ) (ns : List ℕ) (records : Records) {v : Passed} → MayStand h records → time_so_far records ≤ time
    → all_sound h (quotes_in k time x ns) 0 ≡ ok v → MayStand h (and_then (quotes_in k time x ns) records)
unfolding quotes_in and_then all_sound time_so_far
quotes_stand h zero time x ns records m t s = m
quotes_stand h (suc k) time x ns records m t s =
    let w = went _ _ s in
    quotes_stand h k time x (drop 7 ns) _ (quote_stands h time (x ∷ take 7 ns) records m t w.got) (omega arith) w.rest

quotes_time : (k time x : ℕ) (ns : List ℕ) (past : History) → time_so_far past ≡ time → time_so_far (and_then (quotes_in k time x ns) past) ≡ time
unfolding quotes_in and_then time_so_far
quotes_time zero time x ns past t = t
quotes_time (suc k) time x ns past t = quotes_time k time x (drop 7 ns) (record { kind = quote_kind; time = time; fields = x ∷ take 7 ns } ∷ past) refl

some_quotes_time : (k time x : ℕ) (ns : List ℕ) (past : History) → 1 ≤ k → time_so_far (and_then (quotes_in k time x ns) past) ≡ time
unfolding quotes_in and_then time_so_far
some_quotes_time zero time x ns past l = absurd (omega arith)
some_quotes_time (suc k) time x ns past l = quotes_time k time x (drop 7 ns) (record { kind = quote_kind; time = time; fields = x ∷ take 7 ns } ∷ past) refl

told_time : (h : Header) (e : Event) (past : History) → record_sound h e 0 ≡ ok tt → time_so_far (and_then (told e) past) ≡ e.time
told_time h e past s =
    by_test (is_batch e)
    (λ b. ap (λ es. time_so_far (and_then es past)) (told_quotes e b)
    ∙ some_quotes_time _ _ _ _ past (count_counts h e.kind e.fields b (record_sound_in h e 0 s).count_fits_lem).0)
    (λ b. ap (λ es. time_so_far (and_then es past)) (told_itself e b) ∙ (unfold and_then time_so_far in refl))

told_stands : (h : Header) (e : Event) (records : Records) → MayStand h records → known h e.kind ≡ true → record_sound h e 0 ≡ ok tt → time_so_far records ≤ e.time
    → belongs h (happened records) e ≡ true → has_room (happened records) e ≡ true → MayStand h (and_then (told e) records)
told_stands h e records m k s t b r =
    by_test (is_batch e)
    (λ y. subst (λ es. all_sound h es 0 ≡ ok tt → MayStand h (and_then es records)) (sym (told_quotes e y)) (quotes_stand h _ _ _ _ records m t) each)
    (λ y. subst (λ es. MayStand h (and_then es records)) (sym (told_itself e y)) (unfold and_then in one_record m k s t b r))
  where
    each : all_sound h (told e) 0 ≡ ok tt
    each = told_sound h e 0 s

-- the time so far is the same
same_time : (h : Header) (records : Records) → MayStand h records → time_so_far (happened records) ≡ time_so_far records
unfolding happened
same_time h [] no_record = refl
same_time h (e ∷ records) (one_record m k s t b r) = told_time h e (happened records) s ∙ (unfold time_so_far in refl)

themselves_stand : (h : Header) (records : Records) → MayStand h records → MayStand h (happened records)
unfolding happened
themselves_stand h [] no_record = no_record
themselves_stand h (e ∷ records) (one_record m k s t b r) =
    let again = happened_again records in
    told_stands h e (happened records) (themselves_stand h records m) k s (omega (arith, t, same_time h records m))
    (subst (λ past. belongs h past e ≡ true) (sym again) b) (subst (λ past. has_room past e ≡ true) (sym again) r)

-- ---- .. and back: what may stand by itself may stand in a batch

record QuotesStood (h : Header) (k time x : ℕ) (ns : List ℕ) (records : Records) : Type 0 where
  before : MayStand h records
  each : all_sound h (quotes_in k time x ns) 0 ≡ ok tt
  in_time_lem : 1 ≤ k → time_so_far records ≤ time

quotes_stood : (h : Header) (k time x : ℕ) (ns : List ℕ) (records : Records) → MayStand h (and_then (quotes_in k time x ns) records) → QuotesStood h k time x ns records
unfolding quotes_in and_then all_sound
quotes_stood h zero time x ns records m = record { before = m; each = refl; in_time_lem = λ l. absurd (omega arith) }
quotes_stood h (suc k) time x ns records m =
    let later = quotes_stood h k time x (drop 7 ns) _ m in
    one later.before later.each
  where
    q : Event
    q = record { kind = quote_kind; time = time; fields = x ∷ take 7 ns }

    one : MayStand h (q ∷ records) → all_sound h (quotes_in k time x (drop 7 ns)) 0 ≡ ok tt → QuotesStood h (suc k) time x ns records
    one (one_record m' y s t b r) others =
        record {
          before = m';
          each = goes_on_lem _ _ (went _ _ (subst (λ es. all_sound h es 0 ≡ ok tt) (told_itself q refl) (told_sound h q 0 s))).got ∙ others;
          in_time_lem = λ l. t;
        }

-- a record as document 02 has it: "exchange, count 1 to 32, then for each quote the series and the six quote numbers"; nothing is asked of another kind
pub record AsCounted (h : Header) (e : Event) : Type 0 where
  pub count_fits_lem : count_fits h e.kind e.fields ≡ true
  pub as_many : (not (is_batch e) || length e.fields == field_count h e.kind e.fields) ≡ true

pub data AllCounted (h : Header) : Records → Type 0 where
  none_counted : AllCounted h []
  one_counted : {records : Records} {e : Event} → AllCounted h records → AsCounted h e → AllCounted h (e ∷ records)

-- a batch is a kind, belongs wherever it stands, and there is room for it
batch_stands : (h : Header) (k time : ℕ) (fields : List ℕ) (records : Records) → (k == batch_kind) ≡ true → MayStand h records
    → record_sound h (record { kind = k; time = time; fields = fields }) 0 ≡ ok tt → time_so_far records ≤ time → MayStand h (record { kind = k; time = time; fields = fields } ∷ records)
unfolding known any belongs has_room
batch_stands h k time fields records b m s t =
    let e : Event = record { kind = k; time = time; fields = fields } in
    one_record {e = e} m (rw (eqb-true k batch_kind b)) s t (rw (eqb-true k batch_kind b)) (rw (eqb-true k batch_kind b))

told_stood : (h : Header) (e : Event) (records : Records) → AsCounted h e → MayStand h (and_then (told e) (happened records)) → MayStand h records
    → MayStand h (e ∷ records)
unfolding record_sound and_then
told_stood h e records c m v =
    by_test (is_batch e)
    (λ y.
    let stood = quotes_stood h _ _ _ _ (happened records) (subst (λ es. MayStand h (and_then es (happened records))) (told_quotes e y) m) in
    let many = count_counts h e.kind e.fields y c.count_fits_lem in
    batch_stands h e.kind e.time e.fields records y v
    (batch_sound (subst (λ es. all_sound h es 0 ≡ ok tt) (sym (told_quotes e y)) stood.each)) (omega (arith, stood.in_time_lem many.0, same_time h records v)))
    (λ y. plain (subst (λ es. MayStand h (and_then es (happened records))) (told_itself e y) m))
  where
    batch_sound : all_sound h (told e) 0 ≡ ok tt → record_sound h e 0 ≡ ok tt
    batch_sound a = goes_on_lem _ _ (demand_met _ _ 0 c.count_fits_lem) ∙ goes_on_lem _ _ (demand_met _ _ 0 c.as_many) ∙ a

    plain : MayStand h (e ∷ happened records) → MayStand h (e ∷ records)
    plain (one_record m' k s t b r) =
        one_record v k s (omega (arith, t, same_time h records v))
        (subst (λ past. belongs h past e ≡ true) (happened_again records) b) (subst (λ past. has_room past e ≡ true) (happened_again records) r)

before_told : (h : Header) (es : List Event) (records : Records) → MayStand h (and_then es records) → MayStand h records
unfolding and_then
before_told h [] records m = m
before_told h (e ∷ es) records m = one (before_told h es (e ∷ records) m)
  where
    one : MayStand h (e ∷ records) → MayStand h records
    one (one_record m' k s t b r) = m'

batches_stand : (h : Header) (records : Records) → AllCounted h records → MayStand h (happened records) → MayStand h records
unfolding happened
batches_stand h [] none_counted m = no_record
batches_stand h (e ∷ records) (one_counted c i) m =
    told_stood h e records i m (batches_stand h records c (before_told h (told e) (happened records) m))

-- An accepted journal with every batch as so many records of kind 1, the later ones with zero elapsed time: its bytes are accepted too, "byte
-- limit .. aside", and read as these records.
pub quotes_by_themselves : (s : List ℕ) (d : DayRecords) → Bytes s → day_records s ≡ ok d → length (journal_bytes (by_themselves d)) ≤ most_journal_bytes
    → day_records (journal_bytes (by_themselves d)) ≡ ok (by_themselves d)
quotes_by_themselves s d y e l =
    written_day_reads_back (by_themselves d) (day_header_in_range s d y e) (themselves_stand d.header d.records (day_stands s d e)) l

-- And back: where the bytes of the day with its quotes by themselves are accepted, so are those of the day with its batches, byte limit aside.
pub quotes_in_batches : (d : DayRecords) → header_in_range d.header ≡ true → AllCounted d.header d.records → length (journal_bytes d) ≤ most_journal_bytes
    → day_records (journal_bytes (by_themselves d)) ≡ ok (by_themselves d) → day_records (journal_bytes d) ≡ ok d
quotes_in_batches d i c l e =
    written_day_reads_back d (header_in_range_lem d.header i) (batches_stand d.header d.records c (day_stands _ (by_themselves d) e)) l

-- So they are the same journal: the same totals, our own sheet, and the same answer to every sheet.
pub same_journal_read : (s : List ℕ) (d : DayRecords) → Bytes s → day_records s ≡ ok d → length (journal_bytes (by_themselves d)) ≤ most_journal_bytes
    → journal (journal_bytes (by_themselves d)) ≡ journal s
unfolding journal
same_journal_read s d y e l =
    goes_on_lem _ _ (quotes_by_themselves s d y e l)
    ∙ ap (λ past. ok (record { header = d.header; history = past })) (happened_again d.records)
    ∙ sym (goes_on_lem _ _ e)

pub same_check : (s sheet : List ℕ) (d : DayRecords) → Bytes s → day_records s ≡ ok d → length (journal_bytes (by_themselves d)) ≤ most_journal_bytes
    → check_sheet (journal_bytes (by_themselves d)) sheet ≡ check_sheet s sheet
unfolding check_sheet
same_check s sheet d y e l = rw (same_journal_read s d y e l)

-- and the same list, "event numbers aside"
listed_again : (h : Header) (own : List SheetLine) (records : Records) → aside (listed h own (happened records)) ≡ aside (listed h own records)
unfolding happened
listed_again h own [] = refl
listed_again h own (r ∷ records) =
    listed_themselves h own (told_themselves r) 0 (happened records)
    ∙ ap (λ ps. ps ++ aside (shown h own 0 (happened (happened records)) (told r))) (listed_again h own records)
    ∙ ap (λ past. aside (listed h own records) ++ aside (shown h own 0 past (told r))) (happened_again records)
    ∙ sym (listed_one_more h own 0 r records)

pub same_day_but_numbers : (d : DayRecords)
    → aside (listed d.header (own_lines (journal_of (by_themselves d))) (happened d.records)) ≡ aside (listed d.header (own_lines (journal_of d)) d.records)
same_day_but_numbers d =
    ap (λ past. aside (listed d.header (own_lines (record { header = d.header; history = past })) (happened d.records))) (happened_again d.records)
    ∙ listed_again d.header (own_lines (journal_of d)) d.records
