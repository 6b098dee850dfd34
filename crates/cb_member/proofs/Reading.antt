-- What is read of bytes, and of a member's parts.
use Rattle.std.proofs.Common.{◌≡◌, ◌≢◌, ℕ, ◌<◌, ◌≤◌, List, length, Some, Ok, ap, subst, ◌∙◌, arith}
use Rattle.std.specs.Prelude.{slice_get}
use Rattle.std.proofs.lemmas.List.FromFn.{length-map-range_with_len, get_or-map-range_with_len}
use Rattle.cb_times.specs.Order.{field}
use Rattle.cb_frames.specs.declared.frame.Range.{Range}
use Rattle.cb_frames.specs.declared.frame.TheConstants.{LAST_NUMBER}
use Rattle.cb_frames.specs.Fields.{CastFields, CastFrame, first_number, last_number}
use Rattle.cb_frames.specs.Laws.{IsBytes, ReadingIsExact}
use Rattle.cb_frames.specs.Text.{IsText, RisesFrom, text_of}
use Rattle.cb_frames.proofs.Carried.{carries_few}
use Rattle.cb_frames.proofs.Decoding.{reading_is_exact}
use Rattle.cb_frames.proofs.Unique.{one_text, some_text}
use Rattle.cb_gaps.specs.Buffer as buffers
use Rattle.cb_gaps.specs.Buffer.{Buffer}
use Rattle.cb_gaps.specs.Ranges.{AreRangesOf}
use Rattle.cb_history.specs.Group.{Identity}
use Rattle.cb_history.specs.Load.{FitsFrame}
use Rattle.cb_history.specs.Read.{frame_read}
use Rattle.cb_history.specs.Facts.{Fact}
use Rattle.cb_history.specs.View.{count, view}
use Rattle.cb_history.specs.Known.{known, missing, ranges_of}
use Rattle.cb_history.specs.Answers.{delivered}
use Rattle.cb_history.proofs.Buffers.{ranges_of_singles_are_asked_for}
use Rattle.cb_history.proofs.ReadBack.{frame_numbered, read_loads_fit}
use Rattle.cb_member.specs.declared.delivery.Delivery.{Delivery}
use Rattle.cb_member.specs.declared.reception.Reception.{Reception}
use Rattle.cb_member.specs.Reception.{HasReceivedAll}
use Rattle.cb_member.specs.State.{HasDelivered}

-- what every cast frame says that is read
pub record IsReadCast (c : CastFields) : Type 0 where
  pub rising : RisesFrom 0 c.changes
  pub fits : FitsFrame c.load
  pub numbered : 1 ≤ first_number c
  pub numbers : last_number c ≤ LAST_NUMBER

pub cast_says : ReadingIsExact → (bytes : List ℕ) (c : CastFields) → IsBytes bytes → frame_read bytes ≡ Ok (CastFrame c) → IsReadCast c
cast_says exact bytes c are read =
    let text = (exact.text bytes (CastFrame c) are).0 read in
    let written = (some_text (CastFrame c)).0 (subst (IsText (CastFrame c)) (one_text (CastFrame c) bytes text) text) in
    let small = written.2.1.1.0 in
    record {
      rising = text.0.changes.rising;
      fits = read_loads_fit bytes c read;
      numbered = frame_numbered bytes c read;
      numbers = (carries_few c text.0).last (omega (arith, small));
    }

-- the bytes that are read are the frame's text
pub read_text : (bytes frame : List ℕ) (c : CastFields) → IsBytes bytes → frame_read bytes ≡ Ok (CastFrame c) → frame ≡ bytes → frame ≡ text_of (CastFrame c)
read_text bytes frame c are read same = same ∙ one_text (CastFrame c) bytes ((reading_is_exact.text bytes (CastFrame c) are).0 read)

-- the time has a field for each member, which is how many of its messages are delivered
pub time_long : (seat : Identity) (facts : List Fact) (d : Delivery) → HasDelivered seat facts d → length d.time ≡ seat.group.size
time_long seat facts d has = ap length has.waits.time ∙ length-map-range_with_len (count (view seat.group.size facts)) 0 seat.group.size

pub time_at : (seat : Identity) (facts : List Fact) (d : Delivery) (i : ℕ) → HasDelivered seat facts d → i < seat.group.size → field d.time i ≡ delivered seat facts i
time_at seat facts d i has lt =
    ap (λ (time : List ℕ). field time i) has.waits.time ∙ get_or-map-range_with_len (count (view seat.group.size facts)) 0 seat.group.size i i 0 lt (omega arith)

-- the ranges that a buffer lacks are those that are missing
pub ranges_missing : (seat : Identity) (facts : List Fact) (r : Reception) (i n m : ℕ) (b : Buffer) (ranges : List Range) → HasReceivedAll seat facts r → slice_get r.buffers.items i ≡ Some b → i ≢ seat.me
    → n ≡ delivered seat facts i → m ≡ known facts i → AreRangesOf (buffers.IsMissing b n m) ranges → ranges ≡ ranges_of (missing seat facts i)
ranges_missing seat facts r i n m b ranges has at other counted heard are =
    ranges_of_singles_are_asked_for seat facts i b ranges (has.waits i b at other) (has.windows i b at)
    (subst (λ (x : ℕ). AreRangesOf (buffers.IsMissing b x (known facts i)) ranges) counted (subst (λ (x : ℕ). AreRangesOf (buffers.IsMissing b n x) ranges) heard are))
