-- What an end keeps of ids, as frames are announced, sent, acknowledged and lost, and as those of a peer that says few are taken.
use Rattle.std.proofs.Common.{◌≡◌, ℕ, ◌+◌, ◌<◌, ◌≤◌, ◌^◌, ◌==◌, nat_lt, nat_le, not, cond, Bool, true, false, List, [], ◌∷◌, ◌++◌, length, filter, map, take, drop, Option, Some, None, refl, sym, ap, subst, ◌∙◌, inl, inr, length-append, arith}
use Rattle.std.specs.Prelude.{◌&&◌, ◌||◌, if◌then◌else◌}
use Rattle.std.specs.List.{AllByRecursion}
use Rattle.std.proofs.lemmas.Bool.{and_parts, cond_both, eqb-false, eqb-true, le-ltb, lt-leb, ltb-true, ne_eqb, not-true, or_from}
use Rattle.std.proofs.lemmas.List.{append-nil}
use Rattle.std.proofs.lemmas.List.Elements.{All-append, All-drop, All-filter, All-from_recursion, All-map, All-take, recursion_from_All}
use Rattle.qh_base.specs.declared.shared.ResetToken.{ResetToken}
use Rattle.qh_base.specs.declared.time.Moment.{Moment}
use Rattle.qh_base.specs.declared.transport_error.TransportError.{TransportError}
use Rattle.qh_cids.specs.CidQueue.{PlainCids, held, limit}
use Rattle.qh_cids.specs.CidState.{PlainState}
use Rattle.qh_cids.specs.declared.cid_queue.RemoteCid.{RemoteCid}
use Rattle.qh_conn.specs.Incoming.{AreControlsTaken}
use Rattle.qh_control.specs.Control.{IsControlTaken, announced, cid_of, control_refusal, may_announce, most_retires, renewed, retiring, with_all_issued, with_issued}
use Rattle.qh_control.specs.Queue.{AreLeft, AreLost, PlainQueue, is_retire, retires, sent_in}
use Rattle.qh_control.specs.declared.control.ControlState.{ControlState}
use Rattle.qh_control.specs.declared.event.IssuedCid.{IssuedCid}
use Rattle.qh_control.specs.declared.queue.SentControl.{SentControl}
use Rattle.qh_core.specs.Control.{control_frame}
use Rattle.qh_core.specs.declared.control.ControlFrame.{ControlFrame}
use Rattle.qh_core.specs.declared.control.ControlFrame.TheVariants as sending
use Rattle.qh_frame.specs.Plain.{plain_of}
use Rattle.qh_frame.specs.declared.frame.Frame.{Frame}
use Rattle.qh_frame.specs.declared.frame.Frame.TheVariants as kind
use Rattle.qh_peers.proofs.IdFrames.{new_says}
use Rattle.qh_peers.proofs.IdQueues.{StayFew, few_held, handled_few, handled_in_use}
use Rattle.qh_peers.specs.Ids.{AreFewIds, HaveOwnTokens, HoldsFewIds, SaysFewIds}
use Rattle.qh_spec.specs.Codes as codes
use Rattle.qh_spec.specs.FrameTypes as frame_types
use Rattle.qh_spec.specs.Lists.{In}
use Rattle.qh_streams.specs.Streams.{IsRefusal, Refusal, refused}
use Rattle.qh_streams.specs.declared.fault.StreamFault.{StreamFault}
use Rattle.qh_streams.specs.declared.fault.StreamFault.TheVariants.{Memory as Wanting, Transport}
use Rattle.qh_token.specs.Reset.{reset_token_of}

-- ---- a control state with the same ids

-- a frame that waits, and one that is out, says few ids
abbrev pub Says : ℕ → ControlFrame → Type 0
Says k f = SaysFewIds k (control_frame f)

abbrev pub SaysOut : ℕ → SentControl → Type 0
SaysOut k f = SaysFewIds k (control_frame f.frame)

pub holds_queue : (k : ℕ) (old new : ControlState) → new.ids ≡ old.ids → new.own_ids ≡ old.own_ids → new.id_limit ≡ old.id_limit → AllByRecursion (Says k) new.queue.waiting → AllByRecursion (SaysOut k) new.queue.sent
    → HoldsFewIds k old → HoldsFewIds k new
holds_queue k old new ids own most waiting sent h =
    let issued : new.own_ids.issued ≡ old.own_ids.issued = ap (λ (s : PlainState). s.issued) own in
    let few = h.few in
    let bound = h.limit in
    record {
      peers = subst (λ (q : PlainCids). AreFewIds q) (sym ids) h.peers;
      id_len = ap (λ (s : PlainState). s.id_len) own ∙ h.id_len;
      none_gone = ap (λ (s : PlainState). length s.active) own ∙ h.none_gone ∙ sym issued;
      few = omega (arith, issued, few);
      limit = omega (arith, most, bound);
      waiting = waiting;
      sent = sent;
    }

pub holds_same : (k : ℕ) (old new : ControlState) → new.ids ≡ old.ids → new.own_ids ≡ old.own_ids → new.id_limit ≡ old.id_limit → new.queue.waiting ≡ old.queue.waiting → new.queue.sent ≡ old.queue.sent
    → HoldsFewIds k old → HoldsFewIds k new
holds_same k old new ids own most waiting sent h =
    holds_queue k old new ids own most (subst (λ (fs : List ControlFrame). AllByRecursion (Says k) fs) (sym waiting) h.waiting) (subst (λ (fs : List SentControl). AllByRecursion (SaysOut k) fs) (sym sent) h.sent) h

-- ---- the frames that wait, and those that are out

pub more_say : (k : ℕ) (fs gs : List ControlFrame) → AllByRecursion (Says k) fs → AllByRecursion (Says k) gs → AllByRecursion (Says k) (fs ++ gs)
more_say k fs gs all more =
    recursion_from_All (Says k) (fs ++ gs) (All-append (Says k) fs gs (All-from_recursion (Says k) fs all) (All-from_recursion (Says k) gs more))

left_say : (k : ℕ) (P : SentControl → Type 0) (old new : List SentControl) → AreLeft P old new → AllByRecursion (SaysOut k) old → AllByRecursion (SaysOut k) new
left_say k P _ _ AreLeft.none all = all
left_say k P _ _ (AreLeft.gone s old new went rest) all = left_say k P old new rest all.1
left_say k P _ _ (AreLeft.kept s old new stayed rest) all = (all.0, left_say k P old new rest all.1)

-- some were lost, and wait again
pub lost_holds : (k : ℕ) (is_out : ℕ → Bool) (s : ControlState) (q : PlainQueue) → AreLost is_out s.queue q → HoldsFewIds k s → HoldsFewIds k (record s { queue = q })
lost_holds k is_out s q lost h =
    let all = All-from_recursion (SaysOut k) s.queue.sent h.sent in
    let gone = filter (λ (x : SentControl). not (is_out x.number)) s.queue.sent in
    holds_queue k s (record s { queue = q }) refl refl refl
    (subst (λ (fs : List ControlFrame). AllByRecursion (Says k) fs) (sym lost.waiting_is)
    (more_say k s.queue.waiting (map (λ (x : SentControl). x.frame) gone) h.waiting
    (recursion_from_All (Says k) (map (λ (x : SentControl). x.frame) gone)
    (All-map (Says k) (λ (x : SentControl). x.frame) gone (All-filter (λ (x : SentControl). not (is_out x.number)) (SaysOut k) s.queue.sent all)))))
    (subst (λ (fs : List SentControl). AllByRecursion (SaysOut k) fs) (sym lost.sent_is)
    (recursion_from_All (SaysOut k) (filter (λ (x : SentControl). is_out x.number) s.queue.sent) (All-filter (λ (x : SentControl). is_out x.number) (SaysOut k) s.queue.sent all)))
    h

-- the first of those that wait went out
pub first_say : (k count : ℕ) (fs : List ControlFrame) → AllByRecursion (Says k) fs → AllByRecursion (Says k) (take count fs)
first_say k count fs all = recursion_from_All (Says k) (take count fs) (All-take (Says k) count fs (All-from_recursion (Says k) fs all))

pub sent_holds : (k number count : ℕ) (s : ControlState) (q : PlainQueue) → q.waiting ≡ drop count s.queue.waiting → q.sent ≡ s.queue.sent ++ map (sent_in number) (take count s.queue.waiting) → HoldsFewIds k s
    → HoldsFewIds k (record s { queue = q })
sent_holds k number count s q waiting sent h =
    let all = All-from_recursion (Says k) s.queue.waiting h.waiting in
    let went = map (sent_in number) (take count s.queue.waiting) in
    holds_queue k s (record s { queue = q }) refl refl refl
    (subst (λ (fs : List ControlFrame). AllByRecursion (Says k) fs) (sym waiting) (recursion_from_All (Says k) (drop count s.queue.waiting) (All-drop (Says k) count s.queue.waiting all)))
    (subst (λ (fs : List SentControl). AllByRecursion (SaysOut k) fs) (sym sent)
    (recursion_from_All (SaysOut k) (s.queue.sent ++ went)
    (All-append (SaysOut k) s.queue.sent went (All-from_recursion (SaysOut k) s.queue.sent h.sent)
    (All-map (SaysOut k) (sent_in number) (take count s.queue.waiting) (All-take (Says k) count s.queue.waiting all)))))
    h

-- none of them retires an id
no_retires : (k : ℕ) (fs : List ControlFrame) → AllByRecursion (Says k) fs → length (filter is_retire fs) ≡ 0
no_retires k [] all = refl
no_retires k (sending.NewToken token ∷ fs) all = no_retires k fs all.1
no_retires k (sending.NewConnectionId sequence prior id token ∷ fs) all = no_retires k fs all.1
no_retires k (sending.RetireConnectionId sequence ∷ fs) all = absurd (all.0.no_retire sequence refl)
no_retires k (sending.Datagram payload ∷ fs) all = no_retires k fs all.1

not_retire : (k : ℕ) (f : ControlFrame) → Says k f → is_retire f ≡ false
not_retire k (sending.NewToken token) says = refl
not_retire k (sending.NewConnectionId sequence prior id token) says = refl
not_retire k (sending.RetireConnectionId sequence) says = absurd (says.no_retire sequence refl)
not_retire k (sending.Datagram payload) says = refl

no_retires_out : (k : ℕ) (fs : List SentControl) → AllByRecursion (SaysOut k) fs → length (filter (λ (s : SentControl). is_retire s.frame) fs) ≡ 0
no_retires_out k [] all = refl
no_retires_out k (f ∷ fs) all =
    ap (λ (b : Bool). length (cond b (f ∷ filter (λ (s : SentControl). is_retire s.frame) fs) (filter (λ (s : SentControl). is_retire s.frame) fs))) (not_retire k f.frame all.0)
    ∙ no_retires_out k fs all.1

-- ---- ids are announced

-- what is told of one that may be announced
record MayBeAnnounced (k : ℕ) (s : ControlState) (cid : IssuedCid) : Type 0 where
  below : cid.sequence < 8
  room : s.own_ids.issued + 1 ≤ 8
  long : length cid.id ≡ k
  some : 1 ≤ length cid.id

may_be : (k : ℕ) (s : ControlState) (cid : IssuedCid) → may_announce s cid ≡ true → HoldsFewIds k s → MayBeAnnounced k s cid
may_be k s cid may h =
    let a = and_parts (cid.sequence == s.own_ids.issued) (nat_lt cid.sequence (2 ^ 62) && (not (length cid.id == 0) && ((length cid.id == s.own_ids.id_len) && nat_lt (length s.own_ids.active) s.id_limit))) may in
    let b = and_parts (nat_lt cid.sequence (2 ^ 62)) (not (length cid.id == 0) && ((length cid.id == s.own_ids.id_len) && nat_lt (length s.own_ids.active) s.id_limit)) a.1 in
    let c = and_parts (not (length cid.id == 0)) ((length cid.id == s.own_ids.id_len) && nat_lt (length s.own_ids.active) s.id_limit) b.1 in
    let d = and_parts (length cid.id == s.own_ids.id_len) (nat_lt (length s.own_ids.active) s.id_limit) c.1 in
    let next = eqb-true cid.sequence s.own_ids.issued a.0 in
    let some = eqb-false (length cid.id) 0 (not-true (length cid.id == 0) c.0) in
    let room = ltb-true (length s.own_ids.active) s.id_limit d.1 in
    let all = h.none_gone in
    let most = h.limit in
    record { below = omega (arith, next, all, room, most); room = omega (arith, all, room, most); long = eqb-true (length cid.id) s.own_ids.id_len d.0 ∙ h.id_len; some = omega (arith, some) }

with_announced : (k : ℕ) (s : ControlState) (cid : IssuedCid) → may_announce s cid ≡ true → cid.reset_token.0 ≡ reset_token_of cid.id → HoldsFewIds k s → HoldsFewIds k (record s {
  own_ids = record s.own_ids { issued = s.own_ids.issued + 1; active = s.own_ids.active ++ cid.sequence ∷ [] };
  queue = record s.queue { waiting = s.queue.waiting ++ announced cid ∷ [] };
})
with_announced k s cid may own h =
    let m = may_be k s cid may h in
    let all = h.none_gone in
    let sum = length-append s.own_ids.active (cid.sequence ∷ []) in
    record {
      peers = h.peers;
      id_len = h.id_len;
      none_gone = omega (arith, all, sum);
      few = m.room;
      limit = h.limit;
      waiting = more_say k s.queue.waiting (announced cid ∷ []) h.waiting (new_says k cid.sequence 0 cid.id cid.reset_token.0 m.below refl m.long m.some own, tt);
      sent = h.sent;
    }

issued_one : (k : ℕ) (s : ControlState) (cid : IssuedCid) → cid.reset_token.0 ≡ reset_token_of cid.id → HoldsFewIds k s → HoldsFewIds k (with_issued s cid)
issued_one k s cid own h = cond_both (may_announce s cid) _ s (λ (z : ControlState). HoldsFewIds k z) (λ may. with_announced k s cid may own h) (λ other. h)

pub issued_all : (k : ℕ) (s : ControlState) (cids : List IssuedCid) → HaveOwnTokens cids → HoldsFewIds k s → HoldsFewIds k (with_all_issued s cids)
issued_all k s [] own h = h
issued_all k s (cid ∷ cids) own h = issued_all k (with_issued s cid) cids own.1 (issued_one k s cid own.0 h)

-- ---- a frame of the peer's

-- the ids behind it, the one in use, and whether the frame is refused, if it says few ids
module _ (k n : ℕ) where
  new_id_few : (s : ControlState) (sequence prior : ℕ) (id : List ℕ) (token : ResetToken) → n ≡ length s.ids.active.id → SaysFewIds n (plain_of (kind.NewConnectionId sequence prior id token)) → HoldsFewIds k s
      → StayFew s.ids (renewed s sequence prior id token)
  new_id_few s sequence prior id token long says h =
      let new = says.new_id sequence prior id token.0 refl in
      handled_few s.ids (cid_of sequence id token) prior new.1 h.peers (record { below = new.0; token = new.4 }) (new.2 ∙ long)

  first_false : (a b c : Bool) (x y z : Option Refusal) → a ≡ false → b ≡ false → c ≡ false → (if a then x else if b then y else if c then z else None) ≡ None
  first_false a b c x y z is_a is_b is_c = rw (is_a, is_b, is_c) refl

  pub unrefused : (s : ControlState) (f : Frame) → n ≡ length s.ids.active.id → SaysFewIds n (plain_of f) → HoldsFewIds k s → control_refusal s f ≡ None
  unrefused s (kind.NewConnectionId sequence prior id token) long says h =
      let new = says.new_id sequence prior id token.0 refl in
      let none = new.1 in
      let as_long = new.2 in
      let some = new.3 in
      let out = no_retires k s.queue.waiting h.waiting in
      let sent = no_retires_out k s.queue.sent h.sent in
      let less = few_held (renewed s sequence prior id token).cids (new_id_few s sequence prior id token long says h).few in
      first_false (nat_lt sequence prior) (length s.ids.active.id == 0) (nat_le most_retires (retires s.queue) || nat_lt limit (held (renewed s sequence prior id token).cids))
      (refused codes.frame_encoding_error frame_types.new_connection_id) (refused codes.protocol_violation frame_types.new_connection_id) (refused codes.connection_id_limit_error frame_types.new_connection_id)
      (le-ltb sequence prior (omega (arith, none))) (ne_eqb (length s.ids.active.id) 0 (λ zero. omega (arith, zero, long, as_long, some)))
      (or_from (nat_le most_retires (retires s.queue)) (nat_lt limit (held (renewed s sequence prior id token).cids)) (lt-leb most_retires (retires s.queue) (omega (arith, out, sent)))
      (le-ltb limit (held (renewed s sequence prior id token).cids) less))
  unrefused s (kind.RetireConnectionId sequence) long says h = absurd (says.no_retire sequence refl)
  unrefused s other long says h = refl

  -- the id in use stays, whatever its length is
  pub in_use_stays : (now : Moment) (old new : ControlState) (f : Frame) → SaysFewIds n (plain_of f) → old.ids.retire_prior_to ≡ 0 → IsControlTaken now old new f → (new.ids.active ≡ old.ids.active) × (new.ids.retire_prior_to ≡ 0)
  in_use_stays now old new f says none (IsControlTaken.new_id sequence prior id token e) =
      let it = says.new_id sequence prior id token.0 refl in
      let stays = handled_in_use old.ids (cid_of sequence id token) prior none it.1 in
      (ap (λ (s : ControlState). s.ids.active) e ∙ stays.active, ap (λ (s : ControlState). s.ids.retire_prior_to) e ∙ stays.none_retired)
  in_use_stays now old new f says none (IsControlTaken.retire sequence e) = absurd (says.no_retire sequence refl)
  in_use_stays now old new f says none (IsControlTaken.ack a acked e) = (ap (λ (s : ControlState). s.ids.active) e, ap (λ (s : ControlState). s.ids.retire_prior_to) e ∙ none)
  in_use_stays now old new f says none (IsControlTaken.given token e) = (ap (λ (s : ControlState). s.ids.active) e, ap (λ (s : ControlState). s.ids.retire_prior_to) e ∙ none)
  in_use_stays now old new f says none (IsControlTaken.datagram payload has_length most own short e) = (ap (λ (s : ControlState). s.ids.active) e, ap (λ (s : ControlState). s.ids.retire_prior_to) e ∙ none)
  in_use_stays now old new f says none (IsControlTaken.undue payload has_length over e) = (ap (λ (s : ControlState). s.ids.active) e, ap (λ (s : ControlState). s.ids.retire_prior_to) e ∙ none)
  in_use_stays now old new f says none (IsControlTaken.passive _ is e) = (ap (λ (s : ControlState). s.ids.active) e, ap (λ (s : ControlState). s.ids.retire_prior_to) e ∙ none)

  same_holds : (old new : ControlState) → new.ids ≡ old.ids → new.own_ids ≡ old.own_ids → new.id_limit ≡ old.id_limit → new.queue ≡ old.queue → HoldsFewIds k old → HoldsFewIds k new
  same_holds old new ids own most queue h = holds_same k old new ids own most (ap (λ (q : PlainQueue). q.waiting) queue) (ap (λ (q : PlainQueue). q.sent) queue) h

  pub taken_holds : (now : Moment) (old new : ControlState) (f : Frame) → n ≡ length old.ids.active.id → SaysFewIds n (plain_of f) → IsControlTaken now old new f → HoldsFewIds k old → HoldsFewIds k new
  taken_holds now old new f long says (IsControlTaken.new_id sequence prior id token e) h =
      let few = new_id_few old sequence prior id token long says h in
      let next = renewed old sequence prior id token in
      subst (λ (s : ControlState). HoldsFewIds k s) (sym e) (record {
        peers = few.few;
        id_len = h.id_len;
        none_gone = h.none_gone;
        few = h.few;
        limit = h.limit;
        waiting = subst (λ (ns : List ℕ). AllByRecursion (Says k) (old.queue.waiting ++ retiring ns)) (sym few.none_retired)
            (subst (λ (fs : List ControlFrame). AllByRecursion (Says k) fs) (sym (append-nil old.queue.waiting)) h.waiting);
        sent = h.sent;
      })
  taken_holds now old new f long says (IsControlTaken.retire sequence e) h = absurd (says.no_retire sequence refl)
  taken_holds now old new f long says (IsControlTaken.ack a acked e) h =
      holds_queue k old new (ap (λ (s : ControlState). s.ids) e) (ap (λ (s : ControlState). s.own_ids) e) (ap (λ (s : ControlState). s.id_limit) e)
      (subst (λ (fs : List ControlFrame). AllByRecursion (Says k) fs) (sym (ap (λ (q : PlainQueue). q.waiting) acked.rest_is)) h.waiting)
      (left_say k _ old.queue.sent new.queue.sent acked.left h.sent) h
  taken_holds now old new f long says (IsControlTaken.given token e) h =
      same_holds old new (ap (λ (s : ControlState). s.ids) e) (ap (λ (s : ControlState). s.own_ids) e) (ap (λ (s : ControlState). s.id_limit) e) (ap (λ (s : ControlState). s.queue) e) h
  taken_holds now old new f long says (IsControlTaken.datagram payload has_length most own short e) h =
      same_holds old new (ap (λ (s : ControlState). s.ids) e) (ap (λ (s : ControlState). s.own_ids) e) (ap (λ (s : ControlState). s.id_limit) e) (ap (λ (s : ControlState). s.queue) e) h
  taken_holds now old new f long says (IsControlTaken.undue payload has_length over e) h =
      same_holds old new (ap (λ (s : ControlState). s.ids) e) (ap (λ (s : ControlState). s.own_ids) e) (ap (λ (s : ControlState). s.id_limit) e) (ap (λ (s : ControlState). s.queue) e) h
  taken_holds now old new f long says (IsControlTaken.passive _ is e) h =
      same_holds old new (ap (λ (s : ControlState). s.ids) e) (ap (λ (s : ControlState). s.own_ids) e) (ap (λ (s : ControlState). s.id_limit) e) (ap (λ (s : ControlState). s.queue) e) h

  -- ---- the frames of a packet

  -- each says few ids
  abbrev pub AllSay : List Frame → Type 0
  AllSay read = (f : Frame) → In f read → SaysFewIds n (plain_of f)

  some_none : (e : StreamFault) → ◌≡◌ {A = Option StreamFault} (Some e) None → ⊥
  some_none e is = cc

  wanting_or : (e : TransportError) → ◌≡◌ {A = Option StreamFault} (Some Wanting) (Some (Transport e)) → ⊥
  wanting_or e is = cc

  none_or : (e : TransportError) → ◌≡◌ {A = Option StreamFault} None (Some (Transport e)) → ⊥
  none_or e is = cc

  pub all_in_use : (now : Moment) (read : List Frame) (old new : ControlState) (end : Option StreamFault) → AreControlsTaken now read old new end → end ≡ None → AllSay read → old.ids.retire_prior_to ≡ 0
      → new.ids.active ≡ old.ids.active
  all_in_use now _ _ _ _ (AreControlsTaken.none s) is all none = refl
  all_in_use now _ _ _ _ (AreControlsTaken.more f fs old mid new end free one others) is all none =
      let first = in_use_stays now old mid f (all f (inl refl)) none one in
      all_in_use now fs mid new end others is (λ g among. all g (inr among)) first.1 ∙ first.0
  all_in_use now _ _ _ _ (AreControlsTaken.refused f fs s e refusal) is all none = absurd (some_none (Transport e) is)
  all_in_use now _ _ _ _ (AreControlsTaken.cut f fs s new free kept e) is all none = absurd (some_none Wanting is)

  pub all_hold : (now : Moment) (read : List Frame) (old new : ControlState) (end : Option StreamFault) → AreControlsTaken now read old new end → end ≡ None → AllSay read → n ≡ length old.ids.active.id
      → HoldsFewIds k old → HoldsFewIds k new
  all_hold now _ _ _ _ (AreControlsTaken.none s) is all long h = h
  all_hold now _ _ _ _ (AreControlsTaken.more f fs old mid new end free one others) is all long h =
      let first = in_use_stays now old mid f (all f (inl refl)) h.peers.none_retired one in
      all_hold now fs mid new end others is (λ g among. all g (inr among)) (long ∙ ap (λ (cid : RemoteCid). length cid.id) (sym first.0)) (taken_holds now old mid f long (all f (inl refl)) one h)
  all_hold now _ _ _ _ (AreControlsTaken.refused f fs s e refusal) is all long h = absurd (some_none (Transport e) is)
  all_hold now _ _ _ _ (AreControlsTaken.cut f fs s new free kept e) is all long h = absurd (some_none Wanting is)

  -- none of them is refused
  no_refusal : (e : TransportError) (r : Option Refusal) → r ≡ None → IsRefusal (Transport e) r → ⊥
  no_refusal e r is refusal = subst (λ (z : Option Refusal). IsRefusal (Transport e) z) is refusal

  pub all_unrefused : (now : Moment) (read : List Frame) (old new : ControlState) (end : Option StreamFault) (e : TransportError) → AreControlsTaken now read old new end → end ≡ Some (Transport e) → AllSay read
      → n ≡ length old.ids.active.id → HoldsFewIds k old → ⊥
  all_unrefused now _ _ _ _ e (AreControlsTaken.none s) is all long h = none_or e is
  all_unrefused now _ _ _ _ e (AreControlsTaken.more f fs old mid new end free one others) is all long h =
      let first = in_use_stays now old mid f (all f (inl refl)) h.peers.none_retired one in
      all_unrefused now fs mid new end e others is (λ g among. all g (inr among)) (long ∙ ap (λ (cid : RemoteCid). length cid.id) (sym first.0)) (taken_holds now old mid f long (all f (inl refl)) one h)
  all_unrefused now _ _ _ _ e (AreControlsTaken.refused f fs s fault refusal) is all long h = no_refusal fault (control_refusal s f) (unrefused s f long (all f (inl refl)) h) refusal
  all_unrefused now _ _ _ _ e (AreControlsTaken.cut f fs s new free kept _) is all long h = wanting_or e is
