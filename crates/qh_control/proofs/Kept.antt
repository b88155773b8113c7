-- What the queue holds may still be sent.
use Rattle.std.proofs.Common.{◌≡◌, ℕ, ◌+◌, ◌<◌, ◌≤◌, nat_le, Bool, true, false, IfSome, List, [], ◌∷◌, ◌++◌, All, length, filter, map, take, drop, not, Option, Some, None, refl, sym, ap, ◌∙◌, subst, get_or}
use Rattle.std.specs.List.{AllByRecursion}
use Rattle.std.proofs.lemmas.Bool.{cond_both}
use Rattle.std.proofs.lemmas.List.{take_more}
use Rattle.std.proofs.lemmas.List.Elements.{All-nil, All-cons, All-from_recursion, recursion_from_All, All-append, All-take, All-drop, All-map, All-filter}
use Rattle.qh_control.specs.Queue.{AreAcknowledged, AreLeft, none, gone, kept, AreLost, AreSendable, PlainQueue, StaySendable, sent_in}
use Rattle.qh_control.specs.Control.{IsSendable, IsTakenBy, KeepsSendable, retiring, with_all_issued, with_issued}
use Rattle.qh_control.specs.declared.control.ControlState.{ControlState}
use Rattle.qh_control.specs.declared.event.IssuedCid.{IssuedCid}
use Rattle.qh_core.specs.declared.control.ControlFrame.TheVariants as sending
use Rattle.qh_datagrams.specs.Datagrams.{bytes_of, with_room}
use Rattle.qh_control.specs.declared.queue.SentControl.{SentControl}
use Rattle.qh_core.specs.Control.{MaySend}
use Rattle.qh_core.specs.declared.control.ControlFrame.{ControlFrame}
use Rattle.qh_frame.specs.declared.ack.Ack.{Ack}
use Rattle.qh_spec.specs.declared.sides.Side.{Side}

abbrev MaySendSent : Side → Option ℕ → SentControl → Type 0
MaySendSent side peer s = MaySend side peer s.frame

-- the same of each element by its index
sendable_from : (side : Side) (peer : Option ℕ) (q : PlainQueue) → All (MaySend side peer) q.waiting → All (MaySendSent side peer) q.sent → AreSendable side peer q
sendable_from side peer q waiting sent = record { waiting = recursion_from_All (MaySend side peer) q.waiting waiting; sent = recursion_from_All (MaySendSent side peer) q.sent sent }

waiting_of : (side : Side) (peer : Option ℕ) (q : PlainQueue) → AreSendable side peer q → All (MaySend side peer) q.waiting
waiting_of side peer q may = All-from_recursion (MaySend side peer) q.waiting may.waiting

sent_of : (side : Side) (peer : Option ℕ) (q : PlainQueue) → AreSendable side peer q → All (MaySendSent side peer) q.sent
sent_of side peer q may = All-from_recursion (MaySendSent side peer) q.sent may.sent

-- what is written is what was
pub stay_same : (old new : PlainQueue) → new.waiting ≡ old.waiting → new.sent ≡ old.sent → StaySendable old new
stay_same old new waiting sent side peer may =
    sendable_from side peer new (subst (All (MaySend side peer)) (sym waiting) (waiting_of side peer old may)) (subst (All (MaySendSent side peer)) (sym sent) (sent_of side peer old may))

-- frames more wait
pub sendable_more : (side : Side) (peer : Option ℕ) (frames : List ControlFrame) (old new : PlainQueue) → new.waiting ≡ old.waiting ++ frames → new.sent ≡ old.sent → All (MaySend side peer) frames
    → AreSendable side peer old → AreSendable side peer new
sendable_more side peer frames old new waiting sent each may =
    sendable_from side peer new
    (subst (All (MaySend side peer)) (sym waiting) (All-append (MaySend side peer) old.waiting frames (waiting_of side peer old may) each))
    (subst (All (MaySendSent side peer)) (sym sent) (sent_of side peer old may))

-- some went out
pub stay_sent : (number count : ℕ) (old new : PlainQueue) → new.waiting ≡ drop count old.waiting → new.sent ≡ old.sent ++ map (sent_in number) (take count old.waiting) → StaySendable old new
stay_sent number count old new waiting sent side peer may =
    let all = waiting_of side peer old may in
    sendable_from side peer new
    (subst (All (MaySend side peer)) (sym waiting) (All-drop (MaySend side peer) count old.waiting all))
    (subst (All (MaySendSent side peer)) (sym sent)
    (All-append (MaySendSent side peer) old.sent (map (sent_in number) (take count old.waiting)) (sent_of side peer old may)
    (All-map (MaySendSent side peer) (sent_in number) (take count old.waiting) (All-take (MaySend side peer) count old.waiting all))))

All-left : (P Q : SentControl → Type 0) (old new : List SentControl) → AreLeft P old new → AllByRecursion Q old → AllByRecursion Q new
All-left P Q old' new' none all = all
All-left P Q old' new' (gone s old new went rest) all = All-left P Q old new rest all.1
All-left P Q old' new' (kept s old new stayed rest) all = (all.0, All-left P Q old new rest all.1)

-- some were acknowledged
pub stay_acknowledged : (a : Ack) (old new : PlainQueue) → AreAcknowledged a old new → StaySendable old new
stay_acknowledged a old new acked side peer may = record {
  waiting = subst (AllByRecursion (MaySend side peer)) (sym (ap (λ (q : PlainQueue). q.waiting) acked.rest_is)) may.waiting;
  sent = All-left _ (MaySendSent side peer) old.sent new.sent acked.left may.sent;
}

-- some were lost
pub stay_lost : (is_out : ℕ → Bool) (old new : PlainQueue) → AreLost is_out old new → StaySendable old new
stay_lost is_out old new lost side peer may =
    let all = sent_of side peer old may in
    sendable_from side peer new
    (subst (All (MaySend side peer)) (sym lost.waiting_is)
    (All-append (MaySend side peer) old.waiting (map (λ (s : SentControl). s.frame) (filter (λ (s : SentControl). not (is_out s.number)) old.sent)) (waiting_of side peer old may)
    (All-map (MaySend side peer) (λ (s : SentControl). s.frame) (filter (λ (s : SentControl). not (is_out s.number)) old.sent)
    (All-filter (λ (s : SentControl). not (is_out s.number)) (MaySendSent side peer) old.sent all))))
    (subst (All (MaySendSent side peer)) (sym lost.sent_is) (All-filter (λ (s : SentControl). is_out s.number) (MaySendSent side peer) old.sent all))

-- ---- the whole state

pub keeps_by : (side : Side) (old new : ControlState) → StaySendable old.queue new.queue → new.peer_datagram ≡ old.peer_datagram → new.datagrams.outgoing ≡ old.datagrams.outgoing → KeepsSendable side old new
keeps_by side old new stay peer outgoing peer_datagram may = record {
  frames = stay side peer_datagram may.frames;
  peer = peer ∙ may.peer;
  bounded = may.bounded;
  payloads = subst (AllByRecursion (IsTakenBy peer_datagram)) (sym outgoing) may.payloads;
}

pub keeps_same : (side : Side) (old new : ControlState) → new.queue ≡ old.queue → new.peer_datagram ≡ old.peer_datagram → new.datagrams.outgoing ≡ old.datagrams.outgoing → KeepsSendable side old new
keeps_same side old new same = keeps_by side old new (stay_same old.queue new.queue (ap (λ (q : PlainQueue). q.waiting) same) (ap (λ (q : PlainQueue). q.sent) same))

pub keeps_is : (side : Side) (old new : ControlState) → new ≡ old → KeepsSendable side old new
keeps_is side old new same = keeps_same side old new (ap (λ (s : ControlState). s.queue) same) (ap (λ (s : ControlState). s.peer_datagram) same) (ap (λ (s : ControlState). s.datagrams.outgoing) same)

-- frames more wait, which may be sent
pub keeps_more : (side : Side) (frames : List ControlFrame) (old new : ControlState) → ((peer : Option ℕ) → All (MaySend side peer) frames)
    → new.queue.waiting ≡ old.queue.waiting ++ frames → new.queue.sent ≡ old.queue.sent → new.peer_datagram ≡ old.peer_datagram → new.datagrams.outgoing ≡ old.datagrams.outgoing → KeepsSendable side old new
keeps_more side frames old new each waiting sent peer outgoing peer_datagram may = record {
  frames = sendable_more side peer_datagram frames old.queue new.queue waiting sent (each peer_datagram) may.frames;
  peer = peer ∙ may.peer;
  bounded = may.bounded;
  payloads = subst (AllByRecursion (IsTakenBy peer_datagram)) (sym outgoing) may.payloads;
}

All-retiring : (side : Side) (peer : Option ℕ) (sequences : List ℕ) → All (MaySend side peer) (retiring sequences)
All-retiring side peer [] = All-nil (MaySend side peer)
All-retiring side peer (sequence ∷ sequences) = All-cons (MaySend side peer) (sending.RetireConnectionId sequence) (retiring sequences) tt (All-retiring side peer sequences)

-- ids are to be retired
pub keeps_retiring : (side : Side) (sequences : List ℕ) (old new : ControlState) → new ≡ record old { queue = record old.queue { waiting = old.queue.waiting ++ retiring sequences } } → KeepsSendable side old new
keeps_retiring side sequences old new same =
    keeps_more side (retiring sequences) old new (λ peer. All-retiring side peer sequences) (ap (λ (s : ControlState). s.queue.waiting) same) (ap (λ (s : ControlState). s.queue.sent) same)
    (ap (λ (s : ControlState). s.peer_datagram) same) (ap (λ (s : ControlState). s.datagrams.outgoing) same)

All-with_room : (P : List ℕ → Type 0) (size room : ℕ) (payloads : List (List ℕ)) → AllByRecursion P payloads → AllByRecursion P (with_room size room payloads)
All-with_room P size room [] all = all
All-with_room P size room (payload ∷ payloads) all =
    cond_both (nat_le (bytes_of (payload ∷ payloads) + size) room) (payload ∷ payloads) (with_room size room payloads) (AllByRecursion P)
    (λ e. all) (λ e. All-with_room P size room payloads all.1)

All-last : (P : List ℕ → Type 0) (payloads : List (List ℕ)) (payload : List ℕ) → AllByRecursion P payloads → P payload → AllByRecursion P (payloads ++ payload ∷ [])
All-last P [] payload all last = (last, tt)
All-last P (first ∷ payloads) payload all last = (all.0, All-last P payloads payload all.1 last)

-- the queued payloads are others
pub keeps_payloads : (side : Side) (old new : ControlState) → ((peer : Option ℕ) → old.peer_datagram ≡ peer → AllByRecursion (IsTakenBy peer) old.datagrams.outgoing → AllByRecursion (IsTakenBy peer) new.datagrams.outgoing)
    → new.queue ≡ old.queue → new.peer_datagram ≡ old.peer_datagram → KeepsSendable side old new
keeps_payloads side old new each queue peer peer_datagram may = record {
  frames = stay_same old.queue new.queue (ap (λ (q : PlainQueue). q.waiting) queue) (ap (λ (q : PlainQueue). q.sent) queue) side peer_datagram may.frames;
  peer = peer ∙ may.peer;
  bounded = may.bounded;
  payloads = each peer_datagram may.peer may.payloads;
}

-- one more is queued, and some of the others perhaps dropped
pub All-queued : (most size room : ℕ) (peer : Option ℕ) (own : Option ℕ) (payloads : List (List ℕ)) (payload : List ℕ) → own ≡ Some most → own ≡ peer → length payload ≤ most → AllByRecursion (IsTakenBy peer) payloads
    → (AllByRecursion (IsTakenBy peer) (payloads ++ payload ∷ [])) × (AllByRecursion (IsTakenBy peer) (with_room size room payloads ++ payload ∷ []))
All-queued most size room peer own payloads payload is same fits all =
    let last : IsTakenBy peer payload = subst (λ (o : Option ℕ). IsTakenBy o payload) (sym is ∙ same) fits in
    (All-last (IsTakenBy peer) payloads payload all last, All-last (IsTakenBy peer) (with_room size room payloads) payload (All-with_room (IsTakenBy peer) size room payloads all) last)

pub sent_payloads : (drop_old : Bool) (room most : ℕ) (own peer : Option ℕ) (old new : List (List ℕ)) (payload : List ℕ) → (drop_old ≡ false → new ≡ old ++ payload ∷ []) → (drop_old ≡ true → new ≡ with_room (length payload) room old ++ payload ∷ [])
    → own ≡ Some most → own ≡ peer → length payload ≤ most → AllByRecursion (IsTakenBy peer) old → AllByRecursion (IsTakenBy peer) new
sent_payloads true room most own peer old new payload pushed fitted is same fits all = subst (AllByRecursion (IsTakenBy peer)) (sym (fitted refl)) (All-queued most (length payload) room peer own old payload is same fits all).1
sent_payloads false room most own peer old new payload pushed fitted is same fits all = subst (AllByRecursion (IsTakenBy peer)) (sym (pushed refl)) (All-queued most (length payload) room peer own old payload is same fits all).0

pub All-dropped : (P : List ℕ → Type 0) (count : ℕ) (payloads : List (List ℕ)) → AllByRecursion P payloads → AllByRecursion P (drop count payloads)
All-dropped P count payloads all = recursion_from_All P (drop count payloads) (All-drop P count payloads (All-from_recursion P payloads all))

-- ---- the peer's hello is read

may_greeted : (side : Side) (peer : Option ℕ) (frame : ControlFrame) → MaySend side None frame → MaySend side peer frame
may_greeted side peer (sending.NewToken token) may = may
may_greeted side peer (sending.NewConnectionId sequence prior id token) may = may
may_greeted side peer (sending.RetireConnectionId sequence) may = may
may_greeted side peer (sending.Datagram payload) may = absurd may.0

taken_greeted : (peer : Option ℕ) (payload : List ℕ) → IsTakenBy None payload → IsTakenBy peer payload
taken_greeted peer payload taken = absurd taken

weaker : {X : Type 0} (P Q : X → Type 0) → ((x : X) → P x → Q x) → (xs : List X) → AllByRecursion P xs → AllByRecursion Q xs
weaker P Q each [] all = all
weaker P Q each (x ∷ xs) all = (each x all.0, weaker P Q each xs all.1)

pub greeted : (side : Side) (peer : Option ℕ) (old new : ControlState) → new.queue ≡ old.queue → new.peer_datagram ≡ peer → new.datagrams.outgoing ≡ old.datagrams.outgoing
    → IsSendable side None old → IfSome peer (λ most. most ≤ 1140) → IsSendable side peer new
greeted side peer old new queue own outgoing may bounded = record {
  frames = stay_same old.queue new.queue (ap (λ (q : PlainQueue). q.waiting) queue) (ap (λ (q : PlainQueue). q.sent) queue) side peer (record {
    waiting = weaker (MaySend side None) (MaySend side peer) (may_greeted side peer) old.queue.waiting may.frames.waiting;
    sent = weaker (MaySendSent side None) (MaySendSent side peer) (λ s. may_greeted side peer s.frame) old.queue.sent may.frames.sent;
  });
  peer = own;
  bounded = bounded;
  payloads = subst (AllByRecursion (IsTakenBy peer)) (sym outgoing) (weaker (IsTakenBy None) (IsTakenBy peer) (taken_greeted peer) old.datagrams.outgoing may.payloads);
}

-- ---- ids are announced

with_all-push : (s : ControlState) (cids : List IssuedCid) (cid : IssuedCid) → with_all_issued s (cids ++ cid ∷ []) ≡ with_issued (with_all_issued s cids) cid
with_all-push s [] cid = refl
with_all-push s (first ∷ cids) cid = with_all-push (with_issued s first) cids cid

pub with_all_more : (s : ControlState) (cids : List IssuedCid) (i : ℕ) (d : IssuedCid) → i < length cids → with_all_issued s (take (i + 1) cids) ≡ with_issued (with_all_issued s (take i cids)) (get_or cids i d)
with_all_more s cids i d within = ap (with_all_issued s) (take_more cids i d within) ∙ with_all-push s (take i cids) (get_or cids i d)
