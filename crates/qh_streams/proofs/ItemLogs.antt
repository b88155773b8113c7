-- Logs of items: what is kept behind others, what is forgotten again, and the room of one that is lent out.
use Rattle.std.proofs.Common.{◌≡◌, ℕ, ◌+◌, ◌≤◌, List, [], ◌∷◌, ◌++◌, length, take, Option, Some, None, Result, Ok, Err, OnErr, option_map, refl, sym, ap, ◌∙◌, append_assoc, arith}
use Rattle.std.proofs.Math.Seq.{take-append_seam}
use Rattle.std.proofs.lemmas.List.{append-nil}
use Rattle.std.proofs.lemmas.Option.{none-some}
use Rattle.qh_base.specs.declared.stream_id.StreamId.{StreamId}
use Rattle.qh_buffers.specs.SendBuffer.{taken_to}
use Rattle.qh_half.specs.Send.{PlainSend}
use Rattle.qh_streams.specs.Items.{Items, kept_in, logged, length_of, AreConfirmed, HasRoom, Logs, confirmed_items, confirmed_of}
use Rattle.qh_streams.specs.Items.AreConfirmed.{none as none_confirmed, more as more_confirmed}
use Rattle.qh_streams.specs.Streams.{PlainStreams, IsAckedFrame, KeepsOut, AreAcked}
use Rattle.qh_streams.specs.declared.frames.SentFrame.{SentFrame}
use Rattle.qh_streams.specs.declared.items.Item.{Item}
use Rattle.qh_streams.proofs.StreamsSettledAll.{AreSoFar, none_acked_yet, one_more_acked}

pub logged_nothing : (log : Option (List Item)) → log ≡ logged log []
logged_nothing None = refl
logged_nothing (Some items) = ap (λ (l : List Item). Some l) (sym (append-nil items))

pub nothing_logged : (log : Option (Items)) → Logs log log []
nothing_logged log = logged_nothing (kept_in log)

pub more_logged : (before : Option (List Item)) (is js : List Item) → logged (logged before is) js ≡ logged before (is ++ js)
more_logged None is js = refl
more_logged (Some items) is js = ap (λ (l : List Item). Some l) (append_assoc items is js)

pub logs_both : (old now new : Option (Items)) (is js : List Item) → Logs old now is → Logs now new js → Logs old new (is ++ js)
logs_both old now new is js first second = second ∙ ap (λ (o : Option (List Item)). logged o js) first ∙ more_logged (kept_in old) is js

pub then_logged : (old mid new : Option (List Item)) (is js : List Item) → mid ≡ logged old is → new ≡ logged mid js → new ≡ logged old (is ++ js)
then_logged old mid new is js first second = second ∙ ap (λ (o : Option (List Item)). logged o js) first ∙ more_logged old is js

-- some items are kept, whatever comes of the last one
pub err_some : {X E : Type 0} (r : Result X E) (old mid new : Option (List Item)) (items : List Item) → mid ≡ logged old items → OnErr r (new ≡ mid)
    → OnErr r ((kept : List Item) × (new ≡ logged old kept))
err_some (Ok x) old mid new items is same = tt
err_some (Err e) old mid new items is same = (items, same ∙ is)

-- nothing is told of a half that was done before
pub none_told : (id : StreamId) (before after : Option PlainSend) → option_map (λ (h : PlainSend). taken_to h.buffer) before ≡ None → confirmed_of id before after ≡ []
none_told id None after none = refl
none_told id (Some half) after none = absurd (none-some _ (sym none))

pub less_room : (log : Option (Items)) (less more : ℕ) → less ≤ more → HasRoom log more → HasRoom log less
less_room None less more le room = room
less_room (Some v) less more le room = omega (arith, le, room)

-- what came behind is forgotten
pub take_logged : (before : Option (List Item)) (more : List Item) → option_map (λ (l : List Item). take (length_of before) l) (logged before more) ≡ before
take_logged None more = refl
take_logged (Some items) more = ap (λ (l : List Item). Some l) (take-append_seam items more)

-- ---- frames that are acknowledged one after another

pub record AreConfirmedSoFar (old now : PlainStreams) (log_old log_now : Option (Items)) (frames done left : List SentFrame) : Type 0 where
  pub so_far : AreSoFar AreAcked old now frames done left
  pub items : List Item
  pub confirmed : AreConfirmed old now done items
  pub logs : Logs log_old log_now items
  pub room : (n : ℕ) → HasRoom log_old (length frames + n) → HasRoom log_now (length left + n)

pub none_confirmed_yet : (s : PlainStreams) (log : Option (Items)) (frames left : List SentFrame) → frames ≡ left → AreConfirmedSoFar s s log log frames [] left
none_confirmed_yet s log frames left e = record {
  so_far = none_acked_yet s frames left e;
  items = [];
  confirmed = none_confirmed s;
  logs = nothing_logged log;
  room = λ n room. less_room log (length left + n) (length frames + n) (omega (arith, ap (λ (l : List SentFrame). length l) e)) room;
}

-- there is room for the next one
pub next_room : {old now : PlainStreams} {log_old log_now : Option (Items)} {frames done left : List SentFrame} (f : SentFrame) (rest : List SentFrame)
    → AreConfirmedSoFar old now log_old log_now frames done left → left ≡ f ∷ rest → HasRoom log_old (length frames) → HasRoom log_now 1
next_room {log_old = log_old} {log_now = log_now} {frames = frames} {left = left} f rest so_far left_is room =
    less_room log_now 1 (length left + 0) (omega (arith, ap (λ (l : List SentFrame). length l) left_is)) (so_far.room 0 (less_room log_old (length frames + 0) (length frames) (omega arith) room))

pub one_more_confirmed : {old now new : PlainStreams} {log_old log_now log_new : Option (Items)} {frames done left : List SentFrame} (f : SentFrame) (rest : List SentFrame)
    → AreConfirmedSoFar old now log_old log_now frames done left → left ≡ f ∷ rest → IsAckedFrame now new f → KeepsOut now new → Logs log_now log_new (confirmed_items now new f)
    → ((n : ℕ) → HasRoom log_now (n + 1) → HasRoom log_new n) → AreConfirmedSoFar old new log_old log_new frames (done ++ f ∷ []) rest
one_more_confirmed {old = old} {now = now} {new = new} {log_old = log_old} {log_now = log_now} {log_new = log_new} {done = done} {left = left} f rest so_far left_is acked keeps logs room = record {
  so_far = one_more_acked f rest so_far.so_far left_is acked keeps;
  items = so_far.items ++ confirmed_items now new f;
  confirmed = more_confirmed old now new done so_far.items f so_far.confirmed acked;
  logs = logs_both log_old log_now log_new so_far.items (confirmed_items now new f) so_far.logs logs;
  room = λ n has. room (length rest + n) (less_room log_now (length rest + n + 1) (length left + n) (omega (arith, ap (λ (l : List SentFrame). length l) left_is)) (so_far.room n has));
}

-- nothing is left
pub all_confirmed : {old now : PlainStreams} {log_old log_now : Option (Items)} {frames done left : List SentFrame} → AreConfirmedSoFar old now log_old log_now frames done left → left ≡ []
    → (items : List Item) × AreConfirmed old now frames items × Logs log_old log_now items
all_confirmed {done = done} so_far none = (so_far.items, rw (so_far.so_far.list_is, none, append-nil done) so_far.confirmed, so_far.logs)

pub room_left : {old now : PlainStreams} {log_old log_now : Option (Items)} {frames done left : List SentFrame} → AreConfirmedSoFar old now log_old log_now frames done left
    → (n : ℕ) → HasRoom log_old (length frames + n) → HasRoom log_now n
room_left {log_now = log_now} {left = left} so_far n has = less_room log_now n (length left + n) (omega arith) (so_far.room n has)
