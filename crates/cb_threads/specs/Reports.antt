-- What a report says of a history, or of the receipts of seats.
use Rattle.std.specs.Prelude.{◌≡◌, ℕ, ◌+◌, List, [], ◌∷◌, length, map, is_some, true, Option, None, Some, IfSome, MatchOption}
use Rattle.std.specs.List.{All}
use Rattle.cb_frames.specs.Reading.{frame_at, count_read}
use Rattle.cb_history.specs.Facts.{EntryFields, CastEntry, ArriveEntry, TickEntry}
use Rattle.cb_lock.specs.Receipts.{ReceiptFields, SeatState}
use Rattle.cb_lock.specs.Claims.{receipts_of}
use Rattle.cb_threads.specs.declared.report.MemberReport.{MemberReport}
use Rattle.cb_threads.specs.declared.report.Tally.{Tally}
use Rattle.cb_threads.specs.declared.report.Failures.{Failures}
use Rattle.cb_threads.specs.declared.per_worker.PerWorker.{PerWorker}
use Rattle.cb_threads.specs.declared.workers.desk.Worked.{Worked}
use Rattle.cb_threads.specs.declared.workers.desk.Worker.{Worker}
use Rattle.cb_threads.specs.declared.workers.receiver.Receiving.{Receiving}
use Rattle.cb_threads.specs.declared.workers.speaker.Talking.{Talking}
use Rattle.cb_threads.specs.declared.workers.timer.Ticking.{Ticking}
use Rattle.cb_links.specs.Counts.{held, MetAtMost}
use Rattle.cb_threads.specs.Offers.{FailuresAreLost}

-- the messages that an entry casts: those that its frame carries
abbrev pub cast_by : EntryFields → ℕ
cast_by (CastEntry frame) = count_read (frame_at frame)
cast_by (ArriveEntry frame delivered) = 0
cast_by (TickEntry status) = 0

-- the messages of others that were delivered with it
abbrev pub delivered_by : EntryFields → ℕ
delivered_by (CastEntry frame) = 0
delivered_by (ArriveEntry frame delivered) = length delivered
delivered_by (TickEntry status) = 0

-- those of all of these entries
abbrev pub casts_of : List EntryFields → ℕ
casts_of [] = 0
casts_of (e ∷ es) = cast_by e + casts_of es

abbrev pub deliveries_of : List EntryFields → ℕ
deliveries_of [] = 0
deliveries_of (e ∷ es) = delivered_by e + deliveries_of es

-- the entries that receipts name
abbrev pub entries_reported : List ReceiptFields → List EntryFields
entries_reported receipts = map (λ r. r.entry) receipts

-- the entries of which these seats have receipts
abbrev pub entries_in : List SeatState → List EntryFields
entries_in seats = entries_reported (receipts_of seats)

-- ---- counts

abbrev pub no_tally : Tally
no_tally = record { casts = 0; deliveries = 0; entries = 0 }

-- these counts and those of the entries behind them, each held at its greatest value
pub record Adds (before : Tally) (entries : List EntryFields) (after : Tally) : Type 0 where
  pub casts : after.casts ≡ held (before.casts + casts_of entries)
  pub deliveries : after.deliveries ≡ held (before.deliveries + deliveries_of entries)
  pub count : after.entries ≡ held (before.entries + length entries)

-- the counts of these entries
pub record Tells (entries : List EntryFields) (casts deliveries count : ℕ) : Type 0 where
  pub casts_are : casts ≡ held (casts_of entries)
  pub deliveries_are : deliveries ≡ held (deliveries_of entries)
  pub entries_are : count ≡ held (length entries)

abbrev pub IsTally : List EntryFields → Tally → Type 0
IsTally entries tally = Tells entries tally.casts tally.deliveries tally.entries

-- ---- what is received back

-- the link, the pace and the talker are in the report
pub record HandsAllBack {I O P T : Type 0} (report : MemberReport I O P T) : Type 0 where
  pub inlet : is_some report.inlet ≡ true
  pub outlet : is_some report.outlet ≡ true
  pub pace : is_some report.pace ≡ true
  pub talker : is_some report.talker ≡ true

-- so where no fault is reported
abbrev pub HandsBack : {I O P T : Type 0} → MemberReport I O P T → Type 0
HandsBack report = report.fault ≡ None → HandsAllBack report

abbrev pub EachHandsBack : {I O P T : Type 0} → List (MemberReport I O P T) → Type 0
EachHandsBack reports = All (λ r. HandsBack r) reports

-- ---- the workers

-- there is something for each
pub record AreAllThere {R T S D : Type 0} (each : PerWorker (Option R) (Option T) (Option S) (Option D)) : Type 0 where
  pub receiver : is_some each.receiver ≡ true
  pub timer : is_some each.timer ≡ true
  pub speaker : is_some each.speaker ≡ true
  pub sender : is_some each.sender ≡ true

-- what workers work with
abbrev pub parts_of : {I O P T E F L : Type 0} → PerWorker (Worker (Receiving I) E L) (Worker (Ticking P) E L) (Worker (Talking T) E L) (Worker O F L) → PerWorker I P T O
parts_of crew = record { receiver = crew.receiver.part.inlet; timer = crew.timer.part.pace; speaker = crew.speaker.part.talker; sender = crew.sender.part }

-- what a worker counted: nothing, where its thread could not be started
abbrev pub count_in : {W : Type 0} → Option W → (W → ℕ) → ℕ
count_in None count = 0
count_in (Some w) count = count w

-- ---- failures

-- how often the inlet, the outlet and the pace of a member have failed
abbrev pub failures_in : {I O P T : Type 0} → (I → ℕ) → (O → ℕ) → (P → ℕ) → PerWorker I P T O → Failures
failures_in inlet outlet pace parts = record { inlet = inlet parts.receiver; outlet = outlet parts.sender; pace = pace parts.timer }

-- Workers that ended met at most as many failures as were counted since what they work with had counted these.
-- At each failure to send a frame was lost.
pub record HaveMet {I O P T L : Type 0} (inlet_failed : I → ℕ) (outlet_failed : O → ℕ) (pace_failed : P → ℕ) (before : Failures) (ended : PerWorker (Option (Worked I L)) (Option (Worked P L)) (Option (Worked T L)) (Option (Worked O L))) : Type 0 where
  pub inlet : IfSome ended.receiver (λ w. MetAtMost w.failures before.inlet (inlet_failed w.part))
  pub outlet : IfSome ended.sender (λ w. MetAtMost w.failures before.outlet (outlet_failed w.part))
  pub pace : IfSome ended.timer (λ w. MetAtMost w.failures before.pace (pace_failed w.part))
  pub lost : IfSome ended.sender (λ w. FailuresAreLost w.failures w.lost)

-- Of what is handed back a report names at most as many failures as were counted since it had counted these, of what is not of none.
-- At each failure to send a frame was lost.
pub record TellsFailures {I O P T : Type 0} (inlet_failed : I → ℕ) (outlet_failed : O → ℕ) (pace_failed : P → ℕ) (before : Failures) (report : MemberReport I O P T) : Type 0 where
  pub inlet : MatchOption report.inlet (report.receive_failures ≡ 0) (λ inlet. MetAtMost report.receive_failures before.inlet (inlet_failed inlet))
  pub outlet : MatchOption report.outlet (report.send_failures ≡ 0) (λ outlet. MetAtMost report.send_failures before.outlet (outlet_failed outlet))
  pub pace : MatchOption report.pace (report.pace_failures ≡ 0) (λ pace. MetAtMost report.pace_failures before.pace (pace_failed pace))
  pub lost : FailuresAreLost report.send_failures report.lost

-- so the reports of the first members with these failures before
abbrev pub TellFailures : {I O P T : Type 0} → (I → ℕ) → (O → ℕ) → (P → ℕ) → List Failures → List (MemberReport I O P T) → Type 0
TellFailures inlet outlet pace befores [] = Unit {0}
TellFailures inlet outlet pace [] (r ∷ rs) = ⊥
TellFailures inlet outlet pace (b ∷ bs) (r ∷ rs) = TellsFailures inlet outlet pace b r × TellFailures inlet outlet pace bs rs

-- so the reports of members with these links and paces, in order
abbrev pub EachTellsFailures : {I O P T : Type 0} → (I → ℕ) → (O → ℕ) → (P → ℕ) → List (I × O) → List P → List (MemberReport I O P T) → Type 0
EachTellsFailures inlet outlet pace links paces [] = Unit {0}
EachTellsFailures inlet outlet pace [] paces (r ∷ rs) = ⊥
EachTellsFailures inlet outlet pace (l ∷ ls) [] (r ∷ rs) = ⊥
EachTellsFailures inlet outlet pace (l ∷ ls) (p ∷ ps) (r ∷ rs) =
    TellsFailures inlet outlet pace (record { inlet = inlet l.0; outlet = outlet l.1; pace = pace p }) r × EachTellsFailures inlet outlet pace ls ps rs
