-- What is written of a frame is read back, and a payload means one frame.
use Rattle.std.specs.Prelude.{codes}
use Rattle.std.proofs.Common.{◌≡◌, ◌≢◌, ℕ, ◌+◌, ◌<◌, ◌^◌, ◌==◌, nat_lt, true, false, List, [], ◌++◌, length, take, drop, refl, sym, ap, ◌∙◌, arith, Some, Result, Ok, append_assoc, append-nil, length-append}
use Rattle.std.proofs.lemmas.Bool.{le-ltb, eq-eqb, ne_eqb}
use Rattle.std.proofs.lemmas.List.{take_at, drop_at}
use Rattle.qh_base.specs.Varint.{varint_at}
use Rattle.qh_base.proofs.Varints.{spelled_read}
use Rattle.qh_spec.proofs.Cuts.{varints_agree}
use Rattle.qh_spec.proofs.Varints.{varint_spelled}
use Rattle.qh_spec.specs.HttpFrame.{HttpFrame, http_frame}
use Rattle.qh_spec.specs.Varint.{IsVarint, varint}
use Rattle.qh_h3wire.proofs.Lengths.{varint_short}
use Rattle.qh_h3wire.proofs.Pairs.{pair_again}
use Rattle.qh_h3wire.proofs.SettingsRead.{one_meaning}
use Rattle.qh_h3wire.proofs.SettingsWritten.{written_settings_read, settings_short}
use Rattle.qh_h3wire.specs.Frame.{MeansFrame, headers, cancel_push, settings, push_promise, goaway, max_push_id}
use Rattle.qh_h3wire.specs.FrameAt.{id_at, promise_from, whole_frame, frame_after, frame_at}
use Rattle.qh_h3wire.specs.FrameBytes.{IsWritable, IsInRoom, frame_bytes, as_read, used_bytes}
use Rattle.qh_h3wire.specs.Pair.{pair_at}
use Rattle.qh_h3wire.specs.Settings.{PlainSettings, settings_bytes}
use Rattle.qh_h3wire.specs.SettingsValue.{plain_of, settings_value}
use Rattle.qh_h3wire.specs.declared.frame.Frame.{Frame}
use Rattle.qh_h3wire.specs.declared.frame.Frame.TheVariants.{Data, Headers, CancelPush, Settings, PushPromise, Goaway, MaxPushId, Grease, DataLen}
use Rattle.qh_h3wire.specs.declared.frame.FrameError.{FrameError}
use Rattle.qh_h3wire.specs.declared.pair.Pair.{Pair}

from_pair : (bytes : List ℕ) (p : Pair) → pair_at bytes ≡ Some p → frame_at bytes ≡ frame_after p bytes
unfolding frame_at
from_pair bytes p e = rw e refl

data_again : (n : ℕ) (rest : List ℕ) → n < 2 ^ 62 → frame_at (varint 0 ++ (varint n ++ rest)) ≡ (Ok (DataLen n), length (varint 0) + length (varint n))
data_again n rest small =
    from_pair (varint 0 ++ (varint n ++ rest)) (record { first = 0; second = n; size = length (varint 0) + length (varint n) })
    (pair_again (varint 0) (varint n) rest 0 n (varint_spelled 0 (omega arith)) (varint_spelled n small))

-- a whole frame, by its payload
after_whole : (bytes payload rest : List ℕ) (kind size : ℕ) → kind ≢ 0 → drop size bytes ≡ payload ++ rest
    → frame_after (record { first = kind; second = length payload; size = size }) bytes ≡ (whole_frame kind payload, size + length payload)
after_whole bytes payload rest kind size k d =
    let other : (kind == 0) ≡ false = ne_eqb kind 0 k in
    let all : nat_lt (length (payload ++ rest)) (length payload) ≡ false = le-ltb (length (payload ++ rest)) (length payload) (omega (arith, length-append payload rest)) in
    let front : take (length payload) (payload ++ rest) ≡ payload = take_at payload rest (length payload) refl in
    rw (other, d, all, front) refl

http_size : (f : HttpFrame) → length (varint f.kind) + length (varint (length f.payload)) + length f.payload ≡ length (http_frame f)
http_size f =
    let x = length-append (varint f.kind) (varint (length f.payload) ++ f.payload) in
    let y = length-append (varint (length f.payload)) f.payload in
    omega arith

whole_again : (f : HttpFrame) (rest : List ℕ) → f.kind ≢ 0 → f.kind < 2 ^ 62 → length f.payload < 2 ^ 62
    → frame_at (http_frame f ++ rest) ≡ (whole_frame f.kind f.payload, length (http_frame f))
whole_again f rest k kind small =
    let a : List ℕ = varint f.kind in
    let b : List ℕ = varint (length f.payload) in
    let grouped : http_frame f ++ rest ≡ a ++ (b ++ (f.payload ++ rest)) = append_assoc a (b ++ f.payload) rest ∙ ap (λ (z : List ℕ). a ++ z) (append_assoc b f.payload rest) in
    let bytes : List ℕ = a ++ (b ++ (f.payload ++ rest)) in
    ap frame_at grouped
    ∙ from_pair bytes (record { first = f.kind; second = length f.payload; size = length a + length b })
    (pair_again a b (f.payload ++ rest) f.kind (length f.payload) (varint_spelled f.kind kind) (varint_spelled (length f.payload) small))
    ∙ after_whole bytes f.payload rest f.kind (length a + length b) k
    (ap (drop (length a + length b)) (sym (append_assoc a b (f.payload ++ rest))) ∙ drop_at (a ++ b) (f.payload ++ rest) (length a + length b) (length-append a b))
    ∙ ap (λ (z : ℕ). (whole_frame f.kind f.payload, z)) (http_size f)

-- payloads that are written

id_again : (id : ℕ) → id < 2 ^ 62 → id_at (varint id) ≡ Ok id
id_again id small =
    let e : varint_at (varint id) ≡ Some (id, length (varint id)) =
    ap varint_at (sym (append-nil (varint id))) ∙ spelled_read (varint id) [] id (varint_spelled id small) in
    let same : (length (varint id) == length (varint id)) ≡ true = eq-eqb (length (varint id)) (length (varint id)) refl in
    rw (e, same) refl

promise_again : (id : ℕ) (section : List ℕ) → id < 2 ^ 62 → promise_from (varint_at (varint id ++ section)) (varint id ++ section) ≡ Ok (PushPromise id section)
promise_again id section small =
    let e : varint_at (varint id ++ section) ≡ Some (id, length (varint id)) = spelled_read (varint id) section id (varint_spelled id small) in
    let behind : drop (length (varint id)) (varint id ++ section) ≡ section = drop_at (varint id) section (length (varint id)) refl in
    rw (e, behind) refl

id_short : (id : ℕ) → id < 2 ^ 62 → length (varint id) < 2 ^ 62
id_short id small = let l = varint_short id small in omega arith

-- the answer for a whole frame whose payload is known
as_whole : (f : HttpFrame) (rest : List ℕ) (r : Result Frame FrameError) → f.kind ≢ 0 → f.kind < 2 ^ 62 → length f.payload < 2 ^ 62 → whole_frame f.kind f.payload ≡ r
    → frame_at (http_frame f ++ rest) ≡ (r, length (http_frame f))
as_whole f rest r k kind small e = whole_again f rest k kind small ∙ ap (λ (z : Result Frame FrameError). (z, length (http_frame f))) e

with_used : (bytes bytes' : List ℕ) (n m : ℕ) (r : Result Frame FrameError) → bytes ≡ bytes' → n ≡ m → frame_at bytes' ≡ (r, n) → ◌≡◌ {A = Result Frame FrameError × ℕ} (frame_at bytes) (r, m)
with_used bytes bytes' n m r e l h = ap frame_at e ∙ h ∙ ap (λ (z : ℕ). (r, z)) l

pub written_read : (f : Frame) (rest : List ℕ) → IsWritable f → IsInRoom f → frame_at (frame_bytes f ++ rest) ≡ (as_read f, length (used_bytes f))
written_read (Data payload) rest small room =
    with_used _ (varint 0 ++ (varint (length payload) ++ (payload ++ rest))) (length (varint 0) + length (varint (length payload))) _ (Ok (DataLen (length payload)))
    (append_assoc (varint 0) (varint (length payload) ++ payload) rest ∙ ap (λ (z : List ℕ). varint 0 ++ z) (append_assoc (varint (length payload)) payload rest))
    (sym (length-append (varint 0) (varint (length payload)))) (data_again (length payload) (payload ++ rest) small)
written_read (Headers section) rest small room = as_whole (record { kind = 1; payload = section }) rest _ (omega arith) (omega arith) small refl
written_read (CancelPush id) rest small room =
    as_whole (record { kind = 3; payload = varint id }) rest _ (omega arith) (omega arith) (id_short id small) (rw (id_again id small) refl)
written_read (Settings s) rest w room =
    as_whole (record { kind = 4; payload = settings_bytes (plain_of s) }) rest _ (omega arith) (omega arith) (settings_short (plain_of s) w room)
    (rw (written_settings_read (plain_of s) w) refl)
written_read (PushPromise id section) rest small room =
    as_whole (record { kind = 5; payload = varint id ++ section }) rest _ (omega arith) (omega arith) small.1 (promise_again id section small.0)
written_read (Goaway id) rest small room =
    as_whole (record { kind = 7; payload = varint id }) rest _ (omega arith) (omega arith) (id_short id small) (rw (id_again id small) refl)
written_read (MaxPushId id) rest small room =
    as_whole (record { kind = 13; payload = varint id }) rest _ (omega arith) (omega arith) (id_short id small) (rw (id_again id small) refl)
written_read Grease rest small room = as_whole (record { kind = 33; payload = codes "grease" }) rest _ (omega arith) (omega arith) (omega arith) refl
written_read (DataLen n) rest small room =
    with_used _ (varint 0 ++ (varint n ++ rest)) (length (varint 0) + length (varint n)) _ (Ok (DataLen n)) (append_assoc (varint 0) (varint n) rest)
    (sym (length-append (varint 0) (varint n))) (data_again n rest small)

-- one meaning

one_id : (payload : List ℕ) (m n : ℕ) → IsVarint payload m → IsVarint payload n → m ≡ n
one_id payload m n p q = (varints_agree payload [] payload [] m n p q refl).0

pub one_frame : (f : HttpFrame) (a b : Frame) → MeansFrame f a → MeansFrame f b → a ≡ b
one_frame f a b (headers _ x) (headers _ y) = x ∙ sym y
one_frame f a b (headers k _) (cancel_push _ l _ _) = absurd (omega arith)
one_frame f a b (headers k _) (settings _ l _ _) = absurd (omega arith)
one_frame f a b (headers k _) (push_promise _ _ _ l _ _ _) = absurd (omega arith)
one_frame f a b (headers k _) (goaway _ l _ _) = absurd (omega arith)
one_frame f a b (headers k _) (max_push_id _ l _ _) = absurd (omega arith)
one_frame f a b (cancel_push _ k _ _) (headers l _) = absurd (omega arith)
one_frame f a b (cancel_push m _ v x) (cancel_push n _ w y) = x ∙ ap CancelPush (one_id f.payload m n v w) ∙ sym y
one_frame f a b (cancel_push _ k _ _) (settings _ l _ _) = absurd (omega arith)
one_frame f a b (cancel_push _ k _ _) (push_promise _ _ _ l _ _ _) = absurd (omega arith)
one_frame f a b (cancel_push _ k _ _) (goaway _ l _ _) = absurd (omega arith)
one_frame f a b (cancel_push _ k _ _) (max_push_id _ l _ _) = absurd (omega arith)
one_frame f a b (settings _ k _ _) (headers l _) = absurd (omega arith)
one_frame f a b (settings _ k _ _) (cancel_push _ l _ _) = absurd (omega arith)
one_frame f a b (settings s _ v x) (settings t _ w y) = x ∙ ap (λ (z : PlainSettings). Settings (settings_value z)) (one_meaning f.payload s t v w) ∙ sym y
one_frame f a b (settings _ k _ _) (push_promise _ _ _ l _ _ _) = absurd (omega arith)
one_frame f a b (settings _ k _ _) (goaway _ l _ _) = absurd (omega arith)
one_frame f a b (settings _ k _ _) (max_push_id _ l _ _) = absurd (omega arith)
one_frame f a b (push_promise _ _ _ k _ _ _) (headers l _) = absurd (omega arith)
one_frame f a b (push_promise _ _ _ k _ _ _) (cancel_push _ l _ _) = absurd (omega arith)
one_frame f a b (push_promise _ _ _ k _ _ _) (settings _ l _ _) = absurd (omega arith)
one_frame f a b (push_promise m c s _ p v x) (push_promise n d t _ q w y) =
    let r = varints_agree c s d t m n v w (sym p ∙ q) in
    let id : m ≡ n = r.0 in
    let section : s ≡ t = r.1 in
    let same : ◌≡◌ {A = Frame} (PushPromise m s) (PushPromise n t) = cc in
    x ∙ same ∙ sym y
one_frame f a b (push_promise _ _ _ k _ _ _) (goaway _ l _ _) = absurd (omega arith)
one_frame f a b (push_promise _ _ _ k _ _ _) (max_push_id _ l _ _) = absurd (omega arith)
one_frame f a b (goaway _ k _ _) (headers l _) = absurd (omega arith)
one_frame f a b (goaway _ k _ _) (cancel_push _ l _ _) = absurd (omega arith)
one_frame f a b (goaway _ k _ _) (settings _ l _ _) = absurd (omega arith)
one_frame f a b (goaway _ k _ _) (push_promise _ _ _ l _ _ _) = absurd (omega arith)
one_frame f a b (goaway m _ v x) (goaway n _ w y) = x ∙ ap Goaway (one_id f.payload m n v w) ∙ sym y
one_frame f a b (goaway _ k _ _) (max_push_id _ l _ _) = absurd (omega arith)
one_frame f a b (max_push_id _ k _ _) (headers l _) = absurd (omega arith)
one_frame f a b (max_push_id _ k _ _) (cancel_push _ l _ _) = absurd (omega arith)
one_frame f a b (max_push_id _ k _ _) (settings _ l _ _) = absurd (omega arith)
one_frame f a b (max_push_id _ k _ _) (push_promise _ _ _ l _ _ _) = absurd (omega arith)
one_frame f a b (max_push_id _ k _ _) (goaway _ l _ _) = absurd (omega arith)
one_frame f a b (max_push_id m _ v x) (max_push_id n _ w y) = x ∙ ap MaxPushId (one_id f.payload m n v w) ∙ sym y
