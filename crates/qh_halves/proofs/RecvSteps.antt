-- What counts as read never falls by a step of a receiving half, and few steps make a frame due.
use Rattle.std.proofs.Common.{◌≡◌, ℕ, ◌+◌, ◌≤◌, ◌==◌, nat_lt, max, length, Bool, true, false, ◌&&◌, ◌||◌, not, Option, Some, None, is_some, Result, Ok, Err, OnOk, IfErr, if◌then◌else◌, refl, sym, ap, ◌∙◌, arith, inl, inr}
use Rattle.std.proofs.lemmas.Bool.{cases_Bool, both_ways, or_left, or_right}
use Rattle.std.specs.Option.{option_map}
use Rattle.qh_buffers.specs.declared.assembler.Chunk.{Chunk}
use Rattle.qh_buffers.specs.declared.send_buffer.Mark.{Mark}
use Rattle.qh_buffers.specs.declared.send_buffer.Mark.TheVariants.{Acked}
use Rattle.qh_half.specs.declared.recv.StopFrame.{StopFrame}
use Rattle.qh_buffers.specs.Assembler.{PlainAssembler}
use Rattle.qh_half.specs.declared.fault.ReadFault.{ReadFault}
use Rattle.qh_half.specs.declared.fault.ReadableFault.{ReadableFault}
use Rattle.qh_half.specs.declared.recv.RecvState.{RecvState}
use Rattle.qh_half.specs.declared.recv.RecvState.TheVariants.{Recv, ResetRecvd}
use Rattle.qh_half.specs.Recv.{PlainRecv, IsIngested, IsResetBy, IsReadAnswer, IsStopped, bytes, nothing, end, reset, blocked, memory, bytes_read, counted, keeps_bytes, is_reset, reset_code, final_size, with_size, is_done, is_stop_due, is_limit_due, is_frame_due, frame_is, is_queued_mark, acked_stop, wants_more, limit_of, passes_limit, ingest_fault, readable_fault, with_order}
use Rattle.qh_halves.specs.declared.recv_halves.StreamControl.{StreamControl}
use Rattle.qh_halves.specs.declared.recv_halves.StreamControl.TheVariants.{StopSending, MaxStreamData}
use Rattle.qh_halves.specs.RecvHalves.{GivesControl}

-- ---- what counts as read

lost_bytes : (s b : Bool) → b ≡ true → not (s || b) ≡ false
lost_bytes true b e = refl
lost_bytes false b e = ap not e

not_less : (kept : Bool) (a b n : ℕ) → a ≤ b → (if kept then a else n) ≤ (if kept then b else n)
not_less true a b n h = h
not_less false a b n h = omega arith

-- a reset came, then or before
reset_after : (old new : RecvState) (size code : ℕ) → (reset_code old ≡ None → new ≡ ResetRecvd size code) → ((known : ℕ) → reset_code old ≡ Some known → new ≡ old)
    → (is_reset new ≡ true) × (is_some (final_size new) ≡ true)
reset_after (Recv known) new size code first again = rw (first refl) (refl, refl)
reset_after (ResetRecvd known earlier) new size code first again = rw (again earlier refl) (refl, refl)

pub counted_at_reset : (old new : PlainRecv) (code size fresh : ℕ) → IsResetBy old new code size fresh → counted old ≤ old.end → counted old ≤ counted new
counted_at_reset old new code size fresh by within =
    let dropped = lost_bytes new.is_stopped (is_reset new.state) (reset_after old.state new.state size code by.again by.kept).0 in
    let all = ap (λ (b : Bool). if b then bytes_read new else new.end) dropped in
    omega (arith, all, within, by.fresh_is)

pub counted_at_stop : (old new : PlainRecv) (code : ℕ) → IsStopped old new code → counted old ≤ old.end → counted old ≤ counted new
counted_at_stop old new code by within = rw by.rest_is within

pub counted_at_read : (old new : PlainRecv) (max_length : ℕ) (result : Result (Option Chunk) ReadFault) → IsReadAnswer old new max_length result → counted old ≤ counted new
counted_at_read old new max_length _ (bytes c some read) =
    let same : keeps_bytes new ≡ keeps_bytes old = ap keeps_bytes read.rest_is in
    let end_is : new.end ≡ old.end = ap (λ (r : PlainRecv). r.end) read.rest_is in
    rw (same, end_is) (not_less (keeps_bytes old) (bytes_read old) (bytes_read new) old.end (omega (arith, read.counted)))
counted_at_read old new max_length _ (nothing none same c empty) = rw same (omega arith)
counted_at_read old new max_length _ (end some waits at_end same) = rw same (omega arith)
counted_at_read old new max_length _ (reset code some came same) = rw same (omega arith)
counted_at_read old new max_length _ (blocked some waits not_end none same) = rw same (omega arith)
counted_at_read old new max_length _ (memory wants same) = rw same (omega arith)

-- ---- frames that are due

never_due : (known stopped a b : Bool) → known ≡ true → ((not known && a) || ((not stopped && not known) && b)) ≡ false
never_due known true a b e = rw e refl
never_due known false a b e = rw e refl

-- no frame is due once the final size is known
none_due : (r : PlainRecv) (window : ℕ) → is_some (final_size r.state) ≡ true → is_frame_due r window ≡ false
none_due r window known = grind (arith, known)

pub due_at_reset : (old new : PlainRecv) (code size fresh window : ℕ) → IsResetBy old new code size fresh → is_frame_due new window ≡ true → is_frame_due old window ≡ true
due_at_reset old new code size fresh window by frame =
    absurd (both_ways (is_frame_due new window) (none_due new window (reset_after old.state new.state size code by.again by.kept).1) frame)

size_known : (state : RecvState) (to : ℕ) → is_some (final_size (with_size to state)) ≡ true
size_known (Recv known) to = refl
size_known (ResetRecvd known code) to = refl

given_same : (old new : PlainRecv) (c : Chunk) (fin : Bool) (fresh : ℕ) → IsIngested old new c fin fresh → new.assembler.given ≡ old.assembler.given
given_same old new c fin fresh by =
    elim (cases_Bool (keeps_bytes old)) [
      | inl kept ↦ (by.bytes_are kept).given_is
      | inr not_kept ↦ ap (λ (a : PlainAssembler). a.given) (by.dropped not_kept)
    ]

due_by : (r : PlainRecv) (a : PlainAssembler) (behind : ℕ) (state : RecvState) (window : ℕ) → state ≡ r.state → a.given ≡ r.assembler.given → is_frame_due (record r { assembler = a; end = behind; state = state }) window ≡ is_frame_due r window
due_by r a behind state window state_is given_is = rw (state_is, given_is) refl

pub due_at_piece : (old new : PlainRecv) (c : Chunk) (fin : Bool) (fresh window : ℕ) → IsIngested old new c fin fresh → is_frame_due new window ≡ true → is_frame_due old window ≡ true
due_at_piece old new c true fresh window by frame =
    absurd (both_ways (is_frame_due new window) (none_due new window (rw by.state_is (size_known old.state (c.offset + length c.bytes)))) frame)
due_at_piece old new c false fresh window by frame =
    sym (due_by old new.assembler new.end new.state window by.state_is (given_same old new c false fresh by)) ∙ sym (ap (λ (r : PlainRecv). is_frame_due r window) by.rest_is) ∙ frame

neither : (a b : Bool) → a ≡ false → b ≡ false → (a || b) ≡ false
neither a b e f = rw (e, f) refl

pub nothing_due : (r : PlainRecv) (window : ℕ) → is_stop_due r ≡ false → is_limit_due r window ≡ false → is_frame_due r window ≡ false
nothing_due r window no_stop no_limit = neither (is_stop_due r) (is_limit_due r window) no_stop no_limit

-- a half that gives a frame had it to give, and isn't done by it, and no more counts as read
pub due_at_control : (r next : PlainRecv) (window : ℕ) (control : StreamControl) → GivesControl window control r next → is_frame_due r window ≡ true
due_at_control r next window (StopSending code) given = or_left (is_stop_due r) (is_limit_due r window) given.0
due_at_control r next window (MaxStreamData limit) given = or_right (is_stop_due r) (is_limit_due r window) given.1

pub done_at_control : (r next : PlainRecv) (window : ℕ) (control : StreamControl) → GivesControl window control r next → is_done next ≡ is_done r
done_at_control r next window (StopSending code) given = rw given.2 refl
done_at_control r next window (MaxStreamData limit) given = rw given.2 refl

pub counted_at_control : (r next : PlainRecv) (window : ℕ) (control : StreamControl) → GivesControl window control r next → counted next ≡ counted r
counted_at_control r next window (StopSending code) given = rw given.2 refl
counted_at_control r next window (MaxStreamData limit) given = rw given.2 refl

acked_stop_due : (known : Bool) (frame : Option StopFrame) (limit : Bool) → ((not known && frame_is is_queued_mark (option_map acked_stop frame)) || limit) ≡ true → ((not known && frame_is is_queued_mark frame) || limit) ≡ true
acked_stop_due known None limit e = e
acked_stop_due true (Some f) limit e = e
acked_stop_due false (Some f) limit e = or_right (is_queued_mark f.mark) limit e

pub due_at_stop_acked : (r : PlainRecv) (window : ℕ) → is_frame_due (record r { stop_frame = option_map acked_stop r.stop_frame }) window ≡ true → is_frame_due r window ≡ true
due_at_stop_acked r window frame = acked_stop_due (is_some (final_size r.state)) r.stop_frame (is_limit_due r window) frame

acked_limit_due : (stop wants is_last : Bool) (mark : Mark) (rose : Bool) → (stop || (wants && (is_queued_mark (if is_last then Acked else mark) || rose))) ≡ true → (stop || (wants && (is_queued_mark mark || rose))) ≡ true
acked_limit_due true wants is_last mark rose e = refl
acked_limit_due false false is_last mark rose e = e
acked_limit_due false true false mark rose e = e
acked_limit_due false true true mark rose e = or_right (is_queued_mark mark) rose e

pub due_at_limit_acked : (r : PlainRecv) (limit window : ℕ) → is_frame_due (record r { limit_mark = (if limit == r.sent_max_stream_data then Acked else r.limit_mark) }) window ≡ true → is_frame_due r window ≡ true
due_at_limit_acked r limit window frame =
    acked_limit_due (is_stop_due r) (wants_more r) (limit == r.sent_max_stream_data) r.limit_mark (nat_lt r.sent_max_stream_data (limit_of r window)) frame

-- a read that begins leaves the half as done as it was, and makes no frame due
pub begun_keeps : {T : Type 0} (h next : PlainRecv) (ordered : Bool) (window : ℕ) (result : Result T ReadableFault) → OnOk result ((readable_fault h ordered ≡ None) × (next ≡ with_order h ordered))
    → IfErr result (λ e. (readable_fault h ordered ≡ Some e) × (next ≡ h)) → (is_done next ≡ is_done h) × (is_frame_due next window ≡ true → is_frame_due h window ≡ true)
begun_keeps h next ordered window (Ok x) ok err = rw ok.1 (refl, λ frame. frame)
begun_keeps h next ordered window (Err e) ok err = rw err.1 (refl, λ frame. frame)

-- ---- the connection's limit

-- what isn't refused doesn't pass it
pub received_within : (old : PlainRecv) (to new_end fresh : ℕ) (is_end : Bool) (received max_data : ℕ) → ingest_fault old to is_end received max_data ≡ None → new_end ≡ max old.end to → new_end ≡ old.end + fresh → received ≤ max_data → received + fresh ≤ max_data
received_within old to new_end fresh is_end received max_data none end_is fresh_is within =
    elim (cases_Bool (passes_limit old received max_data to)) [
      | inl passes ↦ let fault = rw passes at none in absurd (cc)
      | inr fits ↦ grind (arith, fits)
    ]
