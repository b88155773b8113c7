-- What is written phase after phase: no kind of frame keeps another from being sent.
use Rattle.std.proofs.Common.{◌≡◌, ◌⊎◌, ℕ, zero, suc, ◌+◌, ◌*◌, ◌-◌, ◌<◌, ◌≤◌, ◌^◌, append_assoc, ◌==◌, Bool, true, false, if◌then◌else◌, ◌||◌, List, [], ◌∷◌, ◌++◌, length, take, drop, Option, Some, None, Result, Ok, Err, refl, sym, ap, ◌∙◌, arith, inl, inr, subst}
use Rattle.std.specs.List.{list_any}
use Rattle.std.specs.Prelude.{OnErr}
use Rattle.std.specs.Result.{is_err}
use Rattle.std.proofs.Math.Seq.{take-append_seam}
use Rattle.std.proofs.lemmas.Bool.{both_ways, cases_Bool}
use Rattle.std.proofs.lemmas.List.{append-nil, length-append}
use Rattle.std.proofs.lemmas.List.Folds.{list_any-append}
use Rattle.qh_frame.proofs.FramesWritten.{varint_one, varint_short}
use Rattle.qh_frame.specs.FrameBytes.{fields_bytes, frame_bytes}
use Rattle.qh_half.specs.Recv.{PlainRecv, is_frame_due, is_limit_due, is_stop_due}
use Rattle.qh_half.specs.Send.{PlainSend, Waits}
use Rattle.qh_halves.specs.Counts.{count_limit}
use Rattle.qh_halves.specs.Limit.{is_due}
use Rattle.qh_halves.specs.RecvHalves.{NoneIsDue, PlainRecvHalves, data_limit, recv_at}
use Rattle.qh_halves.specs.SendHalves.{NoneWaits, PlainSendHalves, send_at}
use Rattle.qh_spec.specs.Lists.{In}
use Rattle.qh_spec.specs.QuicFrames.{Number, Num, Part, QuicFrame, Value, shape_of}
use Rattle.qh_spec.specs.Varint.{varint}
use Rattle.qh_spec.specs.declared.sides.Dir.{Dir}
use Rattle.qh_spec.specs.declared.sides.Dir.TheVariants.{Bi, Uni}
use Rattle.qh_streams.proofs.LimitsTold.{count_of, count_quiet, data_of, data_quiet, handed_count, handed_data, is_told, stays_quiet}
use Rattle.qh_streams.proofs.StreamsInTurn.{come_waits, comes}
use Rattle.qh_streams.proofs.StreamsWritten.{all_out_more, frame_some, kept_all_out, written_more}
use Rattle.qh_streams.specs.Streams.{AreAllOut, AreHanded, AreLimitsIdle, AreLimitsWritten, AreOf, AreShared, AreWritten, IsControlIdle, IsCutShort, IsHandedOver, IsIdle, IsOf, IsOneWritten, IsOut, IsPartWritten, IsPhaseIdle, IsPhaseWritten, IsWrittenBy, KeepsOut, PlainStreams, counts_of, max_frame_header, is_sending, is_single, is_two_way, single_count, singles_before, written_frame}
use Rattle.qh_streams.specs.Streams.AreHanded.{none as none_handed, more as more_handed}
use Rattle.qh_streams.specs.Streams.AreWritten.{none as none_written, more as more_written}
use Rattle.qh_streams.specs.Streams.IsHandedOver.{stream as stream_handed, reset as reset_handed, stop as stop_handed, max_stream_data as max_stream_data_handed, max_data as max_data_handed, max_streams as max_streams_handed}
use Rattle.qh_streams.specs.Streams.IsOf.{max_data as of_data, max_streams as of_count, stop as of_stop, max_stream_data as of_limit, stream as of_stream, reset as of_reset}
use Rattle.qh_streams.specs.Turns.{WaitsAt}
use Rattle.qh_streams.specs.declared.frames.SentFrame.{SentFrame}
use Rattle.qh_streams.specs.declared.frames.SentFrame.TheVariants as sent
use Rattle.qh_streams.specs.declared.streams.writing.Phase.{Phase}
use Rattle.qh_streams.specs.declared.streams.writing.Phase.TheVariants as phase

-- ---- frames behind frames

pub joined : (room left : ℕ) (old mid new : PlainStreams) (fs gs : List SentFrame) (bytes more : List ℕ) → AreWritten room old mid fs bytes → left ≡ room - length bytes
    → AreWritten left mid new gs more → AreWritten room old new (fs ++ gs) (bytes ++ more)
joined room left old mid new fs gs bytes more (none_written _ _) e behind = subst (λ (n : ℕ). AreWritten n old new gs more) (omega (arith, e)) behind
joined room left old mid new fs gs bytes more (more_written _ _ m _ f front rest first fits back others) e behind =
    let head = frame_bytes (written_frame m f) in
    let sum = length-append head rest in
    rw (append_assoc head rest more)
    (more_written room old m new f (front ++ gs) (rest ++ more) first fits back (joined (room - length head) left m mid new front gs rest more others (omega (arith, e, sum)) behind))

pub out_joined : (s : PlainStreams) (fs gs : List SentFrame) → AreAllOut s fs → AreAllOut s gs → AreAllOut s (fs ++ gs)
out_joined s [] gs a b = b
out_joined s (f ∷ fs) gs a b = (a.0, out_joined s fs gs a.1 b)

handed_joined : (old mid new : PlainStreams) (fs gs : List SentFrame) → AreHanded old mid fs → AreHanded mid new gs → AreHanded old new (fs ++ gs)
handed_joined old mid new fs gs (none_handed _) b = b
handed_joined old mid new fs gs (more_handed room _ m _ f front first others) b = more_handed room old m new f (front ++ gs) first (handed_joined m mid new front gs others b)

pub are_handed : (room : ℕ) (old new : PlainStreams) (fs : List SentFrame) (bytes : List ℕ) → AreWritten room old new fs bytes → AreHanded old new fs
are_handed room old new fs bytes (none_written _ _) = none_handed old
are_handed room old new fs bytes (more_written _ _ mid _ f rest more first fits back others) = more_handed room old mid new f rest first (are_handed _ mid new rest more others)

-- each frame has a byte
pub frames_bytes : (room : ℕ) (old new : PlainStreams) (fs : List SentFrame) (bytes : List ℕ) → AreWritten room old new fs bytes → length fs ≤ length bytes
frames_bytes room old new fs bytes (none_written _ _) = omega arith
frames_bytes room old new fs bytes (more_written _ _ mid _ f rest more first fits back others) =
    let some = frame_some (written_frame mid f) in
    let sum = length-append (frame_bytes (written_frame mid f)) more in
    let later = frames_bytes _ mid new rest more others in
    omega (arith, some, sum, later)

-- no more is written than there is room for
pub written_within : (room : ℕ) (old new : PlainStreams) (fs : List SentFrame) (bytes : List ℕ) → AreWritten room old new fs bytes → length bytes ≤ room
written_within room old new fs bytes (none_written _ _) = omega arith
written_within room old new fs bytes (more_written _ _ mid _ f rest more first fits back others) =
    let sum = length-append (frame_bytes (written_frame mid f)) more in
    let later = written_within _ mid new rest more others in
    omega (arith, fits, sum, later)

-- without a frame nothing changed
pub none_changed : (room : ℕ) (old new : PlainStreams) (fs : List SentFrame) (bytes : List ℕ) → AreWritten room old new fs bytes → fs ≡ [] → (new ≡ old) × (length bytes ≡ 0)
none_changed room old new fs bytes (none_written _ _) e = (refl, refl)
none_changed room old new fs bytes (more_written _ _ mid _ f rest more first fits back others) e = absurd (omega (arith, ap length e))

-- ---- parts behind parts

module _ {room : ℕ} {old mid : PlainStreams} {out_old out_mid : List ℕ} {sent_old sent_mid : List SentFrame} (a : IsPartWritten room old mid out_old out_mid sent_old sent_mid) where
  pub part_length : length out_mid ≡ length out_old + length a.bytes
  part_length = ap length a.out_is ∙ length-append out_old a.bytes

  pub part_grown : (length out_old ≤ length out_mid) × (length out_mid - length out_old ≤ room)
  part_grown =
      let sum = part_length in
      let fits = written_within room old mid a.frames a.bytes a.written in
      (omega (arith, sum), omega (arith, sum, fits))

  abbrev pub part_joined : {left : ℕ} {new : PlainStreams} {out_new : List ℕ} {sent_new : List SentFrame} → left ≡ room - (length out_mid - length out_old) → KeepsOut mid new → IsPartWritten left mid new out_mid out_new sent_mid sent_new
      → IsPartWritten room old new out_old out_new sent_old sent_new
  part_joined {left = left} {new = new} e keeps b = let sum = part_length in record {
    frames = a.frames ++ b.frames;
    bytes = a.bytes ++ b.bytes;
    written = joined room left old mid new a.frames b.frames a.bytes b.bytes a.written (omega (arith, e, sum)) b.written;
    out_is = b.out_is ∙ ap (λ (l : List ℕ). l ++ b.bytes) a.out_is ∙ append_assoc out_old a.bytes b.bytes;
    sent_is = b.sent_is ∙ ap (λ (l : List SentFrame). l ++ b.frames) a.sent_is ∙ append_assoc sent_old a.frames b.frames;
    are_out = out_joined new a.frames b.frames (kept_all_out mid new keeps a.frames a.are_out) b.are_out;
  }

  pub cut_behind : {new : PlainStreams} {out_new : List ℕ} {sent_new : List SentFrame} → KeepsOut mid new → IsCutShort mid new out_mid out_new sent_mid sent_new → IsCutShort old new out_old out_new sent_old sent_new
  cut_behind {new = new} keeps b = record {
    frames = a.frames ++ b.frames;
    bytes = a.bytes ++ b.bytes;
    handed = handed_joined old mid new a.frames b.frames (are_handed room old mid a.frames a.bytes a.written) b.handed;
    out_is = b.out_is ∙ ap (λ (l : List ℕ). l ++ b.bytes) a.out_is ∙ append_assoc out_old a.bytes b.bytes;
    sent_is = b.sent_is ∙ ap (λ (l : List SentFrame). l ++ b.frames) a.sent_is ∙ append_assoc sent_old a.frames b.frames;
    are_out = out_joined new a.frames b.frames (kept_all_out mid new keeps a.frames a.are_out) b.are_out;
  }

  -- what was out before is out still, and so are these
  pub part_out : KeepsOut old mid → AreAllOut old sent_old → AreAllOut mid sent_mid
  part_out keeps before = rw a.sent_is (out_joined mid sent_old a.frames (kept_all_out old mid keeps sent_old before) a.are_out)

-- ---- what isn't due stays so

due_true : (r : PlainRecv) (window : ℕ) → (is_stop_due r ≡ true) ⊎ (is_limit_due r window ≡ true) → is_frame_due r window ≡ false → ⊥
due_true r window (inl stop) none = both_ways (is_frame_due r window) none (rw stop refl)
due_true r window (inr limit) none = both_ways (is_frame_due r window) none (rw limit (or_true (is_stop_due r)))
  where
    or_true : (a : Bool) → (a || true) ≡ true
    or_true true = refl
    or_true false = refl

none_due_still : (old new : PlainStreams) (room : ℕ) (f : SentFrame) → IsHandedOver old new room f → NoneIsDue old.recv → NoneIsDue new.recv
none_due_still old new room f (stream_handed id piece next rest) none = subst NoneIsDue (sym (ap (λ (s : PlainStreams). s.recv) rest)) none
none_due_still old new room f (reset_handed id reset next rest) none = subst NoneIsDue (sym (ap (λ (s : PlainStreams). s.recv) rest)) none
none_due_still old new room f (stop_handed id code step rest) none = absurd (due_true step.half old.recv.stream_window (inl step.step.0) (none id.0 step.half step.was))
none_due_still old new room f (max_stream_data_handed id limit step rest) none = absurd (due_true step.half old.recv.stream_window (inr step.step.1) (none id.0 step.half step.was))
none_due_still old new room f (max_data_handed limit is due rest) none = subst NoneIsDue (sym (ap (λ (s : PlainStreams). s.recv) rest)) none
none_due_still old new room f (max_streams_handed Bi n is due rest) none = subst NoneIsDue (sym (ap (λ (s : PlainStreams). s.recv) rest)) none
none_due_still old new room f (max_streams_handed Uni n is due rest) none = subst NoneIsDue (sym (ap (λ (s : PlainStreams). s.recv) rest)) none

none_waits_still : (old new : PlainStreams) (room : ℕ) (f : SentFrame) → IsHandedOver old new room f → NoneWaits old.send → NoneWaits new.send
none_waits_still old new room f handed none k h is waits =
    let before = come_waits old new f (comes old new room f handed) k (record { half = h; was = is; waits = waits }) in
    none k before.half before.was before.waits

all_still : (P : PlainStreams → Type 0) → ((old new : PlainStreams) (room : ℕ) (f : SentFrame) → IsHandedOver old new room f → P old → P new)
    → (room : ℕ) (old new : PlainStreams) (fs : List SentFrame) (bytes : List ℕ) → AreWritten room old new fs bytes → P old → P new
all_still P one room old new fs bytes (none_written _ _) p = p
all_still P one room old new fs bytes (more_written _ _ mid _ f rest more first fits back others) p = all_still P one _ mid new rest more others (one old mid room f first p)

pub idle_still : (p : Phase) (room : ℕ) (old new : PlainStreams) (fs : List SentFrame) (bytes : List ℕ) → AreWritten room old new fs bytes → IsPhaseIdle p old → IsPhaseIdle p new
idle_still phase.MaxData = stays_quiet data_of sent.MaxData handed_data
idle_still (phase.MaxStreams dir) = stays_quiet (count_of dir) (sent.MaxStreams dir) (handed_count dir)
idle_still phase.SingleStreams = all_still (λ s. NoneIsDue s.recv) none_due_still
idle_still phase.Sending = all_still (λ s. NoneWaits s.send) none_waits_still

-- none of single streams is written if none is due
no_single_handed : (old new : PlainStreams) (room : ℕ) (f : SentFrame) → IsOf phase.SingleStreams f → IsHandedOver old new room f → NoneIsDue old.recv → ⊥
no_single_handed old new room f (of_stop _ _) (stop_handed id code step rest) none = due_true step.half old.recv.stream_window (inl step.step.0) (none id.0 step.half step.was)
no_single_handed old new room f (of_limit _ _) (max_stream_data_handed id limit step rest) none = due_true step.half old.recv.stream_window (inr step.step.1) (none id.0 step.half step.was)

pub none_due_none_written : (room : ℕ) (old new : PlainStreams) (fs : List SentFrame) (bytes : List ℕ) → AreWritten room old new fs bytes → AreOf phase.SingleStreams fs → NoneIsDue old.recv → fs ≡ []
none_due_none_written room old new fs bytes (none_written _ _) of none = refl
none_due_none_written room old new fs bytes (more_written _ _ mid _ f rest more first fits back others) of none = absurd (no_single_handed old mid room f of.0 first none)

-- ---- the frames of a phase

limit_short : (kind n : ℕ) → kind < 64 → shape_of kind ≡ Some (Number ∷ []) → length (frame_bytes (record { kind = kind; values = Num n ∷ [] })) ≤ 9
unfolding frame_bytes
limit_short kind n small shaped =
    let bytes = ap (λ (o : Option (List Part)). length (varint kind ++ fields_bytes o (Num n ∷ []))) shaped in
    let one = ap length (varint_one kind small) in
    let sum = length-append (varint kind) (varint n ++ []) in
    let behind = length-append (varint n) [] in
    let short = varint_short n in
    omega (arith, bytes, one, sum, behind, short)

single_short : (kind n m : ℕ) → kind < 64 → shape_of kind ≡ Some (Number ∷ Number ∷ []) → length (frame_bytes (record { kind = kind; values = Num n ∷ Num m ∷ [] })) ≤ 17
unfolding frame_bytes
single_short kind n m small shaped =
    let bytes = ap (λ (o : Option (List Part)). length (varint kind ++ fields_bytes o (Num n ∷ Num m ∷ []))) shaped in
    let one = ap length (varint_one kind small) in
    let sum = length-append (varint kind) (varint n ++ (varint m ++ [])) in
    let middle = length-append (varint n) (varint m ++ []) in
    let behind = length-append (varint m) [] in
    let first = varint_short n in
    let second = varint_short m in
    omega (arith, bytes, one, sum, middle, behind, first, second)

-- the bytes of a frame that bears none of a stream's
abbrev pub IsShort : Phase → ℕ → Type 0
IsShort p most = (s : PlainStreams) (f : SentFrame) → IsOf p f → length (frame_bytes (written_frame s f)) ≤ most

pub data_frames : IsShort phase.MaxData 9
unfolding shape_of
data_frames s f (of_data limit) = limit_short 16 limit (omega arith) refl

pub count_frames : (dir : Dir) → IsShort (phase.MaxStreams dir) 9
unfolding shape_of
count_frames dir s f (of_count Bi count) = limit_short 18 count (omega arith) refl
count_frames dir s f (of_count Uni count) = limit_short 19 count (omega arith) refl

pub single_frames : IsShort phase.SingleStreams 17
unfolding shape_of
single_frames s f (of_stop id code) = single_short 5 id.0 code (omega arith) refl
single_frames s f (of_limit id limit) = single_short 17 id.0 limit (omega arith) refl

pub all_short : (p : Phase) (most : ℕ) → IsShort p most → (room : ℕ) (old new : PlainStreams) (fs : List SentFrame) (bytes : List ℕ) → AreWritten room old new fs bytes → AreOf p fs
    → length bytes ≤ length fs * most
all_short p most short room old new fs bytes (none_written _ _) of = omega arith
all_short p most short room old new fs bytes (more_written _ _ mid _ f rest more first fits back others) of =
    let one = short mid f of.0 in
    let sum = length-append (frame_bytes (written_frame mid f)) more in
    let later = all_short p most short _ mid new rest more others of.1 in
    omega (arith, one, sum, later)

-- frames of another phase leave the sending halves as they are
abbrev pub IsQuiet : Phase → Type 0
IsQuiet phase.Sending = ⊥
IsQuiet _ = Unit {0}

pub one_quiet : (p : Phase) (old new : PlainStreams) (room : ℕ) (f : SentFrame) → IsQuiet p → IsOf p f → IsHandedOver old new room f → new.send ≡ old.send
one_quiet p old new room f quiet (of_stop _ _) (stop_handed id code step rest) = ap (λ (s : PlainStreams). s.send) rest
one_quiet p old new room f quiet (of_limit _ _) (max_stream_data_handed id limit step rest) = ap (λ (s : PlainStreams). s.send) rest
one_quiet p old new room f quiet (of_data _) (max_data_handed limit is due rest) = ap (λ (s : PlainStreams). s.send) rest
one_quiet p old new room f quiet (of_count _ _) (max_streams_handed Bi n is due rest) = ap (λ (s : PlainStreams). s.send) rest
one_quiet p old new room f quiet (of_count _ _) (max_streams_handed Uni n is due rest) = ap (λ (s : PlainStreams). s.send) rest
one_quiet p old new room f quiet (of_stream _ _) handed = absurd quiet
one_quiet p old new room f quiet (of_reset _ _) handed = absurd quiet

pub all_quiet : (p : Phase) (room : ℕ) (old new : PlainStreams) (fs : List SentFrame) (bytes : List ℕ) → IsQuiet p → AreOf p fs → AreWritten room old new fs bytes → new.send ≡ old.send
all_quiet p room old new fs bytes quiet of (none_written _ _) = refl
all_quiet p room old new fs bytes quiet of (more_written _ _ mid _ f rest more first fits back others) =
    all_quiet p _ mid new rest more quiet of.1 others ∙ one_quiet p old mid room f quiet of.0 first

one_single : (f : SentFrame) → IsOf phase.SingleStreams f → is_single f ≡ true
one_single f (of_stop id code) = refl
one_single f (of_limit id limit) = refl

pub all_single : (fs : List SentFrame) → AreOf phase.SingleStreams fs → single_count fs ≡ length fs
all_single [] of = refl
all_single (f ∷ fs) of = let one = one_single f of.0 in let later = all_single fs of.1 in rw one (omega (arith, later))

pub single_joined : (fs gs : List SentFrame) → single_count (fs ++ gs) ≡ single_count fs + single_count gs
single_joined [] gs = omega arith
single_joined (f ∷ fs) gs = let later = single_joined fs gs in omega (arith, later)

pub any_joined : (fs gs : List SentFrame) → list_any is_sending fs ≡ false → list_any is_sending gs ≡ false → list_any is_sending (fs ++ gs) ≡ false
any_joined fs gs none nor = list_any-append is_sending fs gs ∙ (ap (λ (x : Bool). x || list_any is_sending gs) none ∙ nor)

-- frames that are no STREAM and no RESET_STREAM frames
one_still : (f : SentFrame) → IsOf phase.SingleStreams f → is_sending f ≡ false
one_still f (of_stop id code) = refl
one_still f (of_limit id limit) = refl

pub none_sending : (fs : List SentFrame) → AreOf phase.SingleStreams fs → list_any is_sending fs ≡ false
none_sending [] of = refl
none_sending (f ∷ fs) of = ap (λ (x : Bool). x || list_any is_sending fs) (one_still f of.0) ∙ none_sending fs of.1

-- in front of others stand no more single ones than there are
pub before_joined : (fs gs : List SentFrame) → singles_before (fs ++ gs) ≤ single_count fs + singles_before gs
before_joined [] gs = omega arith
before_joined (f ∷ fs) gs = elim (cases_Bool (is_sending f)) [
  | inl sends ↦ rw sends (omega arith)
  | inr not ↦ let later = before_joined fs gs in rw not (omega (arith, later))
]

-- it is the first of these that tells
one_sending : (f : SentFrame) → IsOf phase.Sending f → is_sending f ≡ true
one_sending f (of_stream id piece) = refl
one_sending f (of_reset id reset_frame) = refl

pub none_before : (f : SentFrame) (fs : List SentFrame) → IsOf phase.Sending f → singles_before (f ∷ fs) ≡ 0
none_before f fs of = ap (λ (x : Bool). if x then 0 else (if is_single f then 1 else 0) + singles_before fs) (one_sending f of)

pub some_sending : (fs : List SentFrame) → AreOf phase.Sending fs → (fs ≡ []) ⊎ (list_any is_sending fs ≡ true)
some_sending [] of = inl refl
some_sending (f ∷ fs) of = inr (rw (one_sending f of.0) refl)

-- ---- one phase

module _ (p : Phase) (most room : ℕ) (old now : PlainStreams) (out_old out_now : List ℕ) (sent_old sent_now : List SentFrame) where
  -- what a phase wrote up to here
  pub record IsPhaseSoFar : Type 0 where
    pub part : IsPartWritten room old now out_old out_now sent_old sent_now
    pub are_of : AreOf p part.frames
    pub few : length part.frames ≤ most
    pub wide : (part.frames ≡ []) ⊎ (max_frame_header < room)
    pub keeps_out : KeepsOut old now

  pub no_phase_yet : now ≡ old → out_now ≡ out_old → sent_now ≡ sent_old → IsPhaseSoFar
  no_phase_yet same out_same sent_same = record {
    part = record {
      frames = [];
      bytes = [];
      written = subst (λ (s : PlainStreams). AreWritten room old s [] []) (sym same) (none_written room old);
      out_is = out_same ∙ sym (append-nil out_old);
      sent_is = sent_same ∙ sym (append-nil sent_old);
      are_out = tt;
    };
    are_of = tt;
    few = omega arith;
    wide = inl refl;
    keeps_out = λ f out. subst (λ (s : PlainStreams). IsOut s f) (sym same) out;
  }

of_joined : (p : Phase) (fs gs : List SentFrame) → AreOf p fs → AreOf p gs → AreOf p (fs ++ gs)
of_joined p [] gs a b = b
of_joined p (f ∷ fs) gs a b = (a.0, of_joined p fs gs a.1 b)

module _ (p : Phase) (most room left : ℕ) (old now new : PlainStreams) (out_old out_now out_new : List ℕ) (sent_old sent_now sent_new : List SentFrame)
    (so : IsPhaseSoFar p most room old now out_old out_now sent_old sent_now) (left_is : left ≡ room - (length out_now - length out_old))
    (one : IsOneWritten p left now new out_now out_new sent_now sent_new) where
  lengths : length out_now ≡ length out_old + length so.part.bytes
  lengths = ap length so.part.out_is ∙ length-append out_old so.part.bytes

  -- one frame more
  pub one_more : KeepsOut now new → length sent_now - length sent_old < most → max_frame_header < left → IsPhaseSoFar p most room old new out_old out_new sent_old sent_new
  one_more keeps below wide =
      let f = one.frame in
      let more = frame_bytes (written_frame new f) in
      let long = lengths in
      let sum = ap length so.part.sent_is ∙ length-append sent_old so.part.frames in
      let count = length-append so.part.frames (f ∷ []) in
      record {
        part = record {
          frames = so.part.frames ++ (f ∷ []);
          bytes = so.part.bytes ++ more;
          written = written_more room left old now new so.part.frames so.part.bytes f so.part.written (omega (arith, left_is, long)) one.handed one.fits one.reads_back;
          out_is = one.out_is ∙ ap (λ (l : List ℕ). l ++ more) so.part.out_is ∙ append_assoc out_old so.part.bytes more;
          sent_is = one.sent_is ∙ ap (λ (l : List SentFrame). l ++ (f ∷ [])) so.part.sent_is ∙ append_assoc sent_old so.part.frames (f ∷ []);
          are_out = all_out_more new so.part.frames f (kept_all_out now new keeps so.part.frames so.part.are_out) one.is_out;
        };
        are_of = of_joined p so.part.frames (f ∷ []) so.are_of (one.is_of, tt);
        few = omega (arith, below, sum, count);
        wide = inr (omega (arith, wide, left_is));
        keeps_out = λ g out. keeps g (so.keeps_out g out);
      }

  -- the room falls
  pub room_falls : room - (length out_new - length out_old) < room - (length out_now - length out_old)
  room_falls =
      let long = lengths in
      let sum = ap length one.out_is ∙ length-append out_now (frame_bytes (written_frame new one.frame)) in
      let some = frame_some (written_frame new one.frame) in
      let fits = one.fits in
      omega (arith, sum, some, fits, left_is, long)

-- ---- if the allocator has no memory

on_err : {A E : Type 0} {P : Type 0} (r : Result A E) → P → OnErr r P
on_err (Ok x) p = tt
on_err (Err e) p = p

-- nothing was handed over
pub cut_at_first : {A E : Type 0} (r : Result A E) (old new : PlainStreams) (out : List ℕ) (sent_old sent_new : List SentFrame) → new ≡ old → sent_new ≡ sent_old
    → OnErr r (IsCutShort old new out out sent_old sent_new)
cut_at_first r old new out sent_old sent_new same sent_same = on_err r (record {
  frames = [];
  bytes = [];
  handed = subst (λ (s : PlainStreams). AreHanded old s []) (sym same) (none_handed old);
  out_is = sym (append-nil out);
  sent_is = sent_same ∙ sym (append-nil sent_old);
  are_out = tt;
})

-- a frame was handed over, and not written
pub cut_at_put : {A E : Type 0} (r : Result A E) (old new : PlainStreams) (room : ℕ) (f : SentFrame) (out_old out_new : List ℕ) (sent_old sent_new : List SentFrame)
    → IsHandedOver old new room f → IsOut new f → out_new ≡ out_old → sent_new ≡ sent_old ++ (f ∷ []) → OnErr r (IsCutShort old new out_old out_new sent_old sent_new)
cut_at_put r old new room f out_old out_new sent_old sent_new handed is_out same sent_is = on_err r (record {
  frames = f ∷ [];
  bytes = [];
  handed = more_handed room old new new f [] handed (none_handed new);
  out_is = same ∙ sym (append-nil out_old);
  sent_is = sent_is;
  are_out = (is_out, tt);
})

pub cut_later : {A E : Type 0} (r : Result A E) (room : ℕ) (old mid new : PlainStreams) (out_old out_mid out_new : List ℕ) (sent_old sent_mid sent_new : List SentFrame)
    → IsPartWritten room old mid out_old out_mid sent_old sent_mid → KeepsOut mid new → IsCutShort mid new out_mid out_new sent_mid sent_new
    → OnErr r (IsCutShort old new out_old out_new sent_old sent_new)
cut_later r room old mid new out_old out_mid out_new sent_old sent_mid sent_new part keeps cut = on_err r (cut_behind part keeps cut)

-- ---- the end of a phase

module _ (p : Phase) (most room : ℕ) (old now : PlainStreams) (out_old out_now : List ℕ) (sent_old sent_now : List SentFrame)
    (so : IsPhaseSoFar p most room old now out_old out_now sent_old sent_now) where
  -- no room is left, or it wrote `most` frames
  pub phase_done : (room - (length out_now - length out_old) ≤ max_frame_header) ⊎ (most ≤ length sent_now - length sent_old) → IsPhaseWritten p most room old now out_old out_now sent_old sent_now
  phase_done end = record {
    part = so.part;
    are_of = so.are_of;
    few = so.few;
    wide = so.wide;
    done = inr (elim end [
      | inl narrow ↦ let long = ap length so.part.out_is ∙ length-append out_old so.part.bytes in inl (omega (arith, narrow, long))
      | inr many ↦
          let count = ap length so.part.sent_is ∙ length-append sent_old so.part.frames in
          let few = so.few in
          inr (omega (arith, many, count, few))
    ]);
  }

  -- none is due
  pub phase_idle : (new : PlainStreams) (out_new : List ℕ) (sent_new : List SentFrame) → new ≡ now → out_new ≡ out_now → sent_new ≡ sent_now → IsPhaseIdle p now
      → IsPhaseWritten p most room old new out_old out_new sent_old sent_new
  phase_idle new out_new sent_new same out_same sent_same idle =
      rw (same, out_same, sent_same) (record { part = so.part; are_of = so.are_of; few = so.few; wide = so.wide; done = inl idle })

-- without room for a head and a byte nothing is written
pub none_without_room : {p : Phase} {most room : ℕ} {old new : PlainStreams} {out_old out_new : List ℕ} {sent_old sent_new : List SentFrame}
    → (w : IsPhaseWritten p most room old new out_old out_new sent_old sent_new) → room ≤ max_frame_header → w.part.frames ≡ []
none_without_room w narrow = elim w.wide [ inl none ↦ none | inr wide ↦ absurd (omega (arith, wide, narrow)) ]

pub map_err : {A E : Type 0} {P Q : Type 0} (r : Result A E) → OnErr r P → (P → Q) → OnErr r Q
map_err (Ok x) p f = tt
map_err (Err e) p f = f p

-- ---- parts, and then want of memory

pub two_cut : {A E : Type 0} (r : Result A E) (room left : ℕ) (s0 s1 s2 s3 : PlainStreams) (o0 o1 o2 o3 : List ℕ) (f0 f1 f2 f3 : List SentFrame)
    → IsPartWritten room s0 s1 o0 o1 f0 f1 → left ≡ room - (length o1 - length o0) → KeepsOut s1 s2 → IsPartWritten left s1 s2 o1 o2 f1 f2 → KeepsOut s2 s3 → IsCutShort s2 s3 o2 o3 f2 f3
    → OnErr r (IsCutShort s0 s3 o0 o3 f0 f3)
two_cut r room left s0 s1 s2 s3 o0 o1 o2 o3 f0 f1 f2 f3 a left_is keeps_b b keeps_c cut = on_err r (cut_behind (part_joined a left_is keeps_b b) keeps_c cut)

pub parts_cut : {A E : Type 0} (r : Result A E) (room second third : ℕ) (s0 s1 s2 s3 s4 : PlainStreams) (o0 o1 o2 o3 o4 : List ℕ) (f0 f1 f2 f3 f4 : List SentFrame)
    → IsPartWritten room s0 s1 o0 o1 f0 f1 → second ≡ room - (length o1 - length o0) → KeepsOut s1 s2 → IsPartWritten second s1 s2 o1 o2 f1 f2
    → third ≡ room - (length o2 - length o0) → KeepsOut s2 s3 → IsPartWritten third s2 s3 o2 o3 f2 f3 → KeepsOut s3 s4 → OnErr r (IsCutShort s3 s4 o3 o4 f3 f4)
    → OnErr r (IsCutShort s0 s4 o0 o4 f0 f4)
parts_cut r room second third s0 s1 s2 s3 s4 o0 o1 o2 o3 o4 f0 f1 f2 f3 f4 a second_is keeps_b b third_is keeps_c c keeps_d cut =
    map_err r cut (cut_behind (part_joined (part_joined a second_is keeps_b b) third_is keeps_c c) keeps_d)

pub limits_cut : {A E : Type 0} (r : Result A E) (room left : ℕ) (s0 s1 s2 s3 : PlainStreams) (o0 o1 o2 o3 : List ℕ) (f0 f1 f2 f3 : List SentFrame)
    → IsPartWritten room s0 s1 o0 o1 f0 f1 → left ≡ room - (length o1 - length o0) → KeepsOut s1 s2 → IsPartWritten left s1 s2 o1 o2 f1 f2 → KeepsOut s2 s3
    → OnErr r (IsCutShort s2 s3 o2 o3 f2 f3) → OnErr r (IsCutShort s0 s3 o0 o3 f0 f3)
limits_cut r room left s0 s1 s2 s3 o0 o1 o2 o3 f0 f1 f2 f3 a left_is keeps_b b keeps_c cut = map_err r cut (cut_behind (part_joined a left_is keeps_b b) keeps_c)

pub when_err : {A E : Type 0} {P : Type 0} (r : Result A E) → true ≡ is_err r → OnErr r P → P
when_err (Ok x) e p = cc
when_err (Err x) e p = p

-- what was out before is out again, once all that was handed over is taken back
pub out_again : (old mid new : PlainStreams) (sent_old sent_mid sent_new : List SentFrame) (frames : List SentFrame) (before : ℕ) → sent_mid ≡ sent_old ++ frames → before ≡ length sent_old
    → sent_new ≡ take before sent_mid → KeepsOut old mid → KeepsOut mid new → AreAllOut old sent_old → AreAllOut new sent_new
out_again old mid new sent_old sent_mid sent_new frames before mid_is before_is new_is keeps keeps_on out =
    let back : sent_new ≡ sent_old = new_is ∙ ap (λ (n : ℕ). take n sent_mid) before_is ∙ ap (take (length sent_old)) mid_is ∙ take-append_seam sent_old frames in
    subst (λ (l : List SentFrame). AreAllOut new l) (sym back) (kept_all_out mid new keeps_on sent_old (kept_all_out old mid keeps sent_old out))
