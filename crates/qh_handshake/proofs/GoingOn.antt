-- Each step of a handshake leaves it the same end of the same connection (RFC 9000, sections 5.1, 7.2, 7.3 and 8.1).
use Rattle.std.proofs.Common.{◌≡◌, ℕ, Bool, true, List, length, Option, Some, None, refl, sym, subst, ◌∙◌}
use Rattle.std.proofs.lemmas.Bool.{both_ways}
use Rattle.std.proofs.lemmas.Option.{none-some}
use Rattle.qh_base.specs.declared.connection_error.ConnectionClose.{ConnectionClose}
use Rattle.qh_base.specs.declared.connection_error.ConnectionError.{ConnectionError}
use Rattle.qh_base.specs.declared.time.Moment.{Moment}
use Rattle.qh_handshake.specs.GoesOn.{GoesOn}
use Rattle.qh_handshake.specs.Handshake.{dropping}
use Rattle.qh_handshake.specs.Incoming.{ArePacketsTaken, Form, IsDatagramTaken, IsHelloRead, IsInitialTaken, knowing, received}
use Rattle.qh_handshake.specs.Incoming.ArePacketsTaken.{done, more as one_more, ended as ended_by}
use Rattle.qh_handshake.specs.Incoming.IsDatagramTaken.{retry, mismatch, packets}
use Rattle.qh_handshake.specs.Incoming.IsHelloRead.{gone as gone_before, known, cut, refused, at_client, at_server}
use Rattle.qh_handshake.specs.Incoming.IsInitialTaken.{gone, dropped, ended, handled}
use Rattle.qh_handshake.specs.Lost.{AreBegun, IsLeft, IsLost}
use Rattle.qh_handshake.specs.Lost.AreBegun.{here as here_begun, more as one_begun}
use Rattle.qh_handshake.specs.Lost.IsLost.{retry as retry_lost, initials as initials_lost}
use Rattle.qh_handshake.specs.Moments.{IsTimedOut}
use Rattle.qh_handshake.specs.Moments.IsTimedOut.{gone as gone_by_then, recovery}
use Rattle.qh_handshake.specs.Outgoing.{IsCloseMade, IsCloseUnsent, IsDatagramMade, IsUnsent}
use Rattle.qh_handshake.specs.Outgoing.IsCloseUnsent.{same as close_unchanged, used as number_used}
use Rattle.qh_handshake.specs.Outgoing.IsUnsent.{same as unchanged, lost as packet_lost}
use Rattle.qh_handshake.specs.Unread.{IsInitialUnread}
use Rattle.qh_handshake.specs.Unread.IsInitialUnread.{packet as packet_unread, hello as hello_unread}
use Rattle.qh_handshake.specs.declared.handshake.Handshake.{Handshake}
use Rattle.qh_handshake.specs.declared.initial_space.InitialSpace.{InitialSpace}
use Rattle.qh_handshake.specs.declared.initial_space.InitialStats.{InitialStats}
use Rattle.qh_hello.specs.declared.transport_parameters.TransportParameters.{TransportParameters}
use Rattle.qh_packet.specs.Session.{AcceptsTag, SealsTag}

-- a handshake goes on if what it knew stays, that it was validated, and that its space is gone
goes : (h : Handshake) {remote_id token : List ℕ} {retry_id : Option (List ℕ)} {space : Option InitialSpace} {peer : Option TransportParameters} {knows_peer is_validated : Bool} {came sent : ℕ} {stats : InitialStats}
    → ((p : TransportParameters) → h.peer ≡ Some p → peer ≡ Some p) → ((id : List ℕ) → h.retry_id ≡ Some id → retry_id ≡ Some id) → (retry_id ≡ h.retry_id → token ≡ h.token)
    → (h.knows_peer ≡ true → (knows_peer ≡ true) × (remote_id ≡ h.remote_id) × (retry_id ≡ h.retry_id)) → (h.is_validated ≡ true → is_validated ≡ true)
    → (h.space ≡ None → space ≡ None)
    → GoesOn h (record h { remote_id = remote_id; token = token; retry_id = retry_id; space = space; peer = peer; knows_peer = knows_peer; is_validated = is_validated; bytes_received = came; bytes_sent = sent; stats = stats })
goes h peer retry_id token knows validated spent =
    record { side = refl; version = refl; local_id = refl; original_id = refl; parameters = refl; peer = peer; retry_id = retry_id; token = token; known = knows; validated = validated; gone = spent }

-- with another space, and other counts
spaced : (h : Handshake) {space : Option InitialSpace} {came sent : ℕ} {stats : InitialStats} → (h.space ≡ None → space ≡ None)
    → GoesOn h (record h { space = space; bytes_received = came; bytes_sent = sent; stats = stats })
spaced h spent = goes h (λ p is. is) (λ id is. is) (λ is. refl) (λ is. (is, refl, refl)) (λ is. is) spent

-- with this id of the peer, and another space
met : (h : Handshake) {source : List ℕ} {space : Option InitialSpace} {stats : InitialStats} → (h.knows_peer ≡ true → source ≡ h.remote_id) → (h.space ≡ None → space ≡ None)
    → GoesOn h (record h { remote_id = source; knows_peer = true; space = space; stats = stats })
met h source_is spent = goes h (λ p is. is) (λ id is. is) (λ is. refl) (λ is. (refl, source_is is, refl)) (λ is. is) spent

-- greeted, and with another space
greeted : (h : Handshake) (p : TransportParameters) {space : Option InitialSpace} {stats : InitialStats} → h.peer ≡ None → (h.space ≡ None → space ≡ None)
    → GoesOn h (record h { peer = Some p; space = space; stats = stats })
greeted h p unread spent = goes h (λ q is. absurd (none-some q (sym unread ∙ is))) (λ id is. is) (λ is. refl) (λ is. (is, refl, refl)) (λ is. is) spent

pub same_goes : (h : Handshake) → GoesOn h h
same_goes h = spaced h (λ is. is)

heard : (h : Handshake) (size : ℕ) → GoesOn h (received size h)
heard h size = spaced h (λ is. is)

pub dropped_goes : (h : Handshake) → GoesOn h (dropping h)
dropped_goes h = spaced h (λ is. refl)

pub discarded_goes : (h : Handshake) → GoesOn h (record (dropping h) { is_validated = true })
discarded_goes h = goes h (λ p is. is) (λ id is. is) (λ is. refl) (λ is. (is, refl, refl)) (λ is. refl) (λ is. refl)

-- what is kept once it is there, and is the same at last, was the same between
same_between : (a b d : Option (List ℕ)) → ((id : List ℕ) → a ≡ Some id → b ≡ Some id) → ((id : List ℕ) → b ≡ Some id → d ≡ Some id) → d ≡ a → b ≡ a
same_between (Some x) b d f g e = f x refl
same_between None None d f g e = refl
same_between None (Some y) d f g e = absurd (none-some y (sym e ∙ g y refl))

pub both_go : (old mid new : Handshake) → GoesOn old mid → GoesOn mid new → GoesOn old new
both_go old mid new a b = record {
  side = b.side ∙ a.side;
  version = b.version ∙ a.version;
  local_id = b.local_id ∙ a.local_id;
  original_id = b.original_id ∙ a.original_id;
  parameters = b.parameters ∙ a.parameters;
  peer = λ p is. b.peer p (a.peer p is);
  retry_id = λ id is. b.retry_id id (a.retry_id id is);
  token = λ e. let same = same_between old.retry_id mid.retry_id new.retry_id a.retry_id b.retry_id e in b.token (e ∙ sym same) ∙ a.token same;
  known = λ is. let one = a.known is in let two = b.known one.0 in (two.0, two.1 ∙ one.1, two.2 ∙ one.2);
  validated = λ is. b.validated (a.validated is);
  gone = λ is. b.gone (a.gone is);
}

by_same : (old new : Handshake) → new ≡ old → GoesOn old new
by_same old new e = subst (λ (z : Handshake). GoesOn old z) (sym e) (same_goes old)

-- a space that is there isn't gone
there : {A : Type 0} (s : InitialSpace) (o : Option InitialSpace) → o ≡ Some s → o ≡ None → A
there s o is none = absurd (none-some s (sym none ∙ is))

-- ---- a datagram came

read_goes : (old new : Handshake) (learned : Option (List ℕ)) (end : Option ConnectionError) → IsHelloRead old new learned end → GoesOn old new
read_goes old new learned end (gone_before none e) = by_same old new e
read_goes old new learned end (known p is e) = by_same old new e
read_goes old new learned end (cut s is none e) = by_same old new e
read_goes old new learned end (refused s front rest fault error is unread whole form has code e) = by_same old new e
read_goes old new learned end (at_client name p is client e) =
    subst (λ (z : Handshake). GoesOn old z) (sym e) (greeted old p is.unread (λ none. refl))
read_goes old new learned end (at_server s name p is server space_is e) =
    subst (λ (z : Handshake). GoesOn old z) (sym e) (greeted old p is.unread (there s old.space space_is))

module _ (accepts : AcceptsTag) (now : Moment) where
  pub initial_goes : (f : Form) (old new : Handshake) (learned : Option (List ℕ)) (end : Option ConnectionError) → IsInitialTaken accepts now f old new learned end → GoesOn old new
  initial_goes f old new learned end (gone none e) = by_same old new e
  initial_goes f old new learned end (dropped s is none e) = by_same old new e
  initial_goes f old new learned end (ended s mid number frames error is opened h e) =
      subst (λ (z : Handshake). GoesOn old z) (sym e) (met old opened.source_is (there s old.space is))
  initial_goes f old new learned end (handled s mid number frames _ _ is opened h read) =
      both_go old (knowing old f.source mid) new (met old opened.source_is (there s old.space is)) (read_goes (knowing old f.source mid) new learned end read)

  packets_go : (bytes rest : List ℕ) (old new : Handshake) (learned : Option (List ℕ)) (end : Option ConnectionError) → ArePacketsTaken accepts now bytes rest old new learned end → GoesOn old new
  packets_go bytes rest old new learned end (done _ _ none) = same_goes old
  packets_go bytes rest old new learned end (one_more _ destination behind _ f _ mid _ first others _ b one behind_it) =
      both_go old mid new (initial_goes f old mid first None one) (packets_go behind rest mid new others end behind_it)
  packets_go bytes rest old new learned end (ended_by _ destination behind f _ _ _ error b one) = initial_goes f old new learned (Some error) one

  begun_goes : (bytes rest : List ℕ) (old new : Handshake) (learned : Option (List ℕ)) → AreBegun accepts now bytes rest old new learned → GoesOn old new
  begun_goes bytes rest old new learned (here_begun _ _) = same_goes old
  begun_goes bytes rest old new learned (one_begun _ destination behind _ f _ mid _ first others b one begun) =
      both_go old mid new (initial_goes f old mid first None one) (begun_goes behind rest mid new others begun)

  pub taken_goes : (datagram rest : List ℕ) (old new : Handshake) (retried learned : Option (List ℕ)) (end : Option ConnectionError) → IsDatagramTaken accepts now datagram old new rest retried learned end
      → GoesOn old new
  taken_goes datagram rest old new retried learned end (retry s source token may is e) =
      subst (λ (z : Handshake). GoesOn old z) (sym e)
      (goes old (λ p has. has) (λ id has. absurd (none-some id (sym may.once ∙ has))) (λ same. absurd (none-some source (sym may.once ∙ sym same))) (λ knows. absurd (both_ways old.knows_peer may.unknown knows)) (λ is. is) (there s old.space may.space))
  taken_goes datagram rest old new retried learned end (mismatch is e) = subst (λ (z : Handshake). GoesOn old z) (sym e) (heard old (length datagram))
  taken_goes datagram rest old new retried learned end (packets _ _ _ no_retry no_mismatch all) =
      both_go old (received (length datagram) old) new (heard old (length datagram)) (packets_go datagram rest (received (length datagram) old) new learned end all)

  -- memory is wanting for it: the packet was opened
  pub unread_source : (f : Form) (h : Handshake) → IsInitialUnread accepts now f h → h.knows_peer ≡ true → f.source ≡ h.remote_id
  unread_source f h (packet_unread s number frames is opened none) = opened.source_is
  unread_source f h (hello_unread s mid number frames is opened earlier none) = opened.source_is

  -- ... and the space isn't used any more
  left_goes : (f : Form) (old new : Handshake) → IsInitialUnread accepts now f old → IsLeft f.source old new → GoesOn old (dropping new)
  left_goes f old new unread left = subst (λ (z : Handshake). GoesOn old (dropping z)) (sym left.rest_is) (met old (unread_source f old unread) (λ none. refl))

  pub lost_goes : (datagram : List ℕ) (old new : Handshake) (learned : Option (List ℕ)) → IsLost accepts now datagram old new learned → GoesOn old (dropping new)
  lost_goes datagram old new learned (retry_lost s source token may is e) =
      subst (λ (z : Handshake). GoesOn old (dropping z)) (sym e) (spaced old (λ none. refl))
  lost_goes datagram old new learned (initials_lost _ no_retry no_mismatch lost) =
      let counted = received (length datagram) old in
      both_go old lost.mid (dropping new)
      (both_go old counted lost.mid (heard old (length datagram)) (begun_goes datagram lost.rest counted lost.mid learned lost.begun))
      (left_goes lost.form lost.mid new lost.unread lost.left)

-- ---- a datagram is to be sent, or memory is wanting for it

pub made_goes : (sealed : SealsTag) (now : Moment) (before after : List ℕ) (old new : Handshake) (size : ℕ) → IsDatagramMade sealed now old new before after size → GoesOn old new
made_goes sealed now before after old new size made = subst (λ (z : Handshake). GoesOn old z) (sym made.new_is) (spaced old (there made.space old.space made.space_is))

pub close_goes : (sealed : SealsTag) (close : ConnectionClose) (before after : List ℕ) (old new : Handshake) (size : ℕ) → IsCloseMade sealed close old new before after size → GoesOn old new
close_goes sealed close before after old new size made = subst (λ (z : Handshake). GoesOn old z) (sym made.new_is) (spaced old (there made.space old.space made.space_is))

pub unsent_goes : (now : Moment) (old new : Handshake) → IsUnsent now old new → GoesOn old new
unsent_goes now old new (unchanged e) = by_same old new e
unsent_goes now old new (packet_lost s next frames is_eliciting is allowed number made e) = subst (λ (z : Handshake). GoesOn old z) (sym e) (spaced old (there s old.space is))

pub close_unsent_goes : (old new : Handshake) → IsCloseUnsent old new → GoesOn old new
close_unsent_goes old new (close_unchanged e) = by_same old new e
close_unsent_goes old new (number_used s is allowed number e) = subst (λ (z : Handshake). GoesOn old z) (sym e) (spaced old (there s old.space is))

-- ---- what is due is done

pub timed_out_goes : (now : ℕ) (old new : Handshake) → IsTimedOut now old new → GoesOn old new
timed_out_goes now old new (gone_by_then none e) = by_same old new e
timed_out_goes now old new (recovery s mid next is lost probed e) = subst (λ (z : Handshake). GoesOn old z) (sym e) (spaced old (there s old.space is))
