-- What judging a datagram leaves.
use Rattle.std.proofs.Common.{◌≡◌, ℕ, ◌-◌, ◌<◌, ◌≤◌, ◌^◌, List, [], length, Option, Some, None, Result, Ok, Err, IfOk, OnErr, sym, ap, ◌∙◌, subst}
use Rattle.std.specs.declared.net.socket_addr.SocketAddr.{SocketAddr}
use Rattle.qh_base.specs.declared.memory.Memory.{Memory}
use Rattle.qh_base.specs.declared.path.FourTuple.{FourTuple}
use Rattle.qh_base.specs.declared.time.Moment.{Moment}
use Rattle.qh_base.specs.declared.transport_error.TransportErrorCode.{TransportErrorCode}
use Rattle.qh_endpoint.specs.Closed.{IsUnclosed}
use Rattle.qh_endpoint.specs.Endpoint.{PlainEndpoint, numbers}
use Rattle.qh_endpoint.specs.Handled.{IsHandled, IsLetGo, IsNegotiated, IsReset, IsResetEarly, IsUnhandled, closing, negotiating, resetting, unknown, unsupported, waiting}
use Rattle.qh_endpoint.specs.Stranger.{IsJudged, numbered, no_server, unable, short_id, reserved, invalid, attempt, zero_rtt, long, foreign, short}
use Rattle.qh_endpoint.specs.declared.event.DatagramEvent.{DatagramEvent}
use Rattle.qh_endpoint.specs.declared.incoming.FirstPacket.{FirstPacket}
use Rattle.qh_endpoint.specs.declared.stranger.Stranger.{Stranger}
use Rattle.qh_endpoint.specs.declared.stranger.Stranger.TheVariants.{Unknown, Refused, Attempt}
use Rattle.qh_kit.specs.declared.config.ServerConfig.{ServerConfig}
use Rattle.qh_packet.specs.Session.{SealsTag}
use Rattle.qh_routes.specs.Routes.{IsRouted, keys_of}
use Rattle.qh_spec.specs.TokenFilter.{TokenLimits}
use Rattle.qh_spec.specs.TokenLog.{TokenLog}
use Rattle.qh_stateless.specs.Header.{Header, IsHeader, IsUnsupported}
use Rattle.qh_stateless.specs.View.{destination_of, is_first}
use Rattle.qh_stateless.specs.Words.{HasDrawn, and_word}

module _ {K G R T : Type 0} where
  same_log : (old new : PlainEndpoint K G R T) → new ≡ old → new ≡ record old { token_log = new.token_log }
  same_log old new e = e ∙ ap (λ (t : T). record old { token_log = t }) (sym (ap (λ (z : PlainEndpoint K G R T). z.token_log) e))

  module _ {id_length : ℕ} {Validates : List ℕ → Type 0} {limits : T → TokenLimits} {stands : T → TokenLog → Type 0} {now : Moment} {remote : SocketAddr} {size : ℕ} {old new : PlainEndpoint K G R T} where
    -- nothing changes but the log of used tokens
    pub only_log : {h : Header} {s : Stranger} → IsJudged id_length Validates limits stands now remote size old new h s → new ≡ record old { token_log = new.token_log }
    only_log (no_server v f d s t n e) = same_log old new e
    only_log (unable v f d s t server has can e) = same_log old new e
    only_log (short_id v f d s t server code is has can first e) = same_log old new e
    only_log (reserved v f d s t server has can first bits e) = same_log old new e
    only_log (invalid v f d s t server code is has can first bits taken e) = e
    only_log (attempt v f d s t server known taken known_is has can first bits is e) = e
    only_log (zero_rtt v d s e) = same_log old new e
    only_log (long v d s e) = same_log old new e
    only_log (foreign f d is e) = same_log old new e
    only_log (short f d some own e) = same_log old new e

    -- an attempt that begins has a number
    pub has_number : {h : Header} {s : Stranger} → IsJudged id_length Validates limits stands now remote size old new h s → (packet : FirstPacket) (server : ServerConfig) → s ≡ Attempt packet server → new.incoming.numbered ≡ 2 ^ 64 - 1 → ⊥
    has_number (no_server v f d s t n e) packet server is at_end = cc
    has_number (unable v f d s t own has can e) packet server is at_end = cc
    has_number (short_id v f d s t own code code_is has can first e) packet server is at_end = cc
    has_number (reserved v f d s t own has can first bits e) packet server is at_end = cc
    has_number (invalid v f d s t own code code_is has can first bits taken e) packet server is at_end = cc
    has_number (attempt v f d s t own known taken known_is has can first bits taken_is e) packet server is at_end = can (numbered (sym (ap (λ (z : PlainEndpoint K G R T). z.incoming.numbered) e) ∙ at_end))
    has_number (zero_rtt v d s e) packet server is at_end = cc
    has_number (long v d s e) packet server is at_end = cc
    has_number (foreign f d none e) packet server is at_end = cc
    has_number (short f d some own e) packet server is at_end = cc

module _ {K G R T S : Type 0} (len : G → ℕ) (validates : G → List ℕ → Type 0) (given : G → List (List ℕ)) (drawn : R → List ℕ) (limits : T → TokenLimits) (stands : T → TokenLog → Type 0) (key : S → List ℕ)
    (sealed : S → SealsTag) (now : Moment) (addresses : FourTuple) (datagram : List ℕ) where
  -- what follows where a datagram was judged at one endpoint, said of another that has another log
  abbrev pub Follows : (P : PlainEndpoint K G R T → Type 0) (from mid : PlainEndpoint K G R T) (stranger : Stranger) → Type 0
  Follows P from mid stranger = (log : T) (h : Header) → IsHeader (len from.connections.ids) (numbers from.config) from.config.grease_quic_bit datagram h
      → IsRouted from.connections.routes (keys_of addresses (destination_of h) (is_first h) datagram) None
      → IsJudged (len from.connections.ids) (validates from.connections.ids) limits stands now addresses.remote (length datagram) (record from { token_log = log }) mid h stranger → P (record from { token_log = log })

  abbrev pub Handled : (new : PlainEndpoint K G R T) (written : List ℕ) → Option DatagramEvent → (from : PlainEndpoint K G R T) → Type 0
  Handled new written event from = IsHandled {S = S} len validates given drawn limits stands key sealed now addresses datagram from new written event

  abbrev pub Unhandled : (new : PlainEndpoint K G R T) (written : List ℕ) (from : PlainEndpoint K G R T) → Type 0
  Unhandled new written from = IsUnhandled {S = S} len validates given drawn limits stands key sealed now addresses datagram from new written

  follows : (P : PlainEndpoint K G R T → Type 0) (old mid : PlainEndpoint K G R T) (h : Header) (stranger : Stranger)
      → IsHeader (len old.connections.ids) (numbers old.config) old.config.grease_quic_bit datagram h
      → IsRouted old.connections.routes (keys_of addresses (destination_of h) (is_first h) datagram) None
      → IsJudged (len old.connections.ids) (validates old.connections.ids) limits stands now addresses.remote (length datagram) old mid h stranger
      → Follows P mid mid stranger → P old
  follows P old mid h stranger is route judged f = subst (λ (z : PlainEndpoint K G R T). Follows P z mid stranger) (only_log judged) f old.token_log h is route judged

  pub handled_after : (result : Result (Option DatagramEvent) Memory) (old mid new : PlainEndpoint K G R T) (h : Header) (stranger : Stranger) (written : List ℕ)
      → IsHeader (len old.connections.ids) (numbers old.config) old.config.grease_quic_bit datagram h
      → IsRouted old.connections.routes (keys_of addresses (destination_of h) (is_first h) datagram) None
      → IsJudged (len old.connections.ids) (validates old.connections.ids) limits stands now addresses.remote (length datagram) old mid h stranger
      → IfOk result (λ event. Follows (Handled new written event) mid mid stranger) → IfOk result (λ event. Handled new written event old)
  handled_after (Ok event) old mid new h stranger written is route judged answered = follows (Handled new written event) old mid h stranger is route judged answered
  handled_after (Err e) old mid new h stranger written is route judged answered = tt

  pub unhandled_after : (result : Result (Option DatagramEvent) Memory) (old mid new : PlainEndpoint K G R T) (h : Header) (stranger : Stranger) (written : List ℕ)
      → IsHeader (len old.connections.ids) (numbers old.config) old.config.grease_quic_bit datagram h
      → IsRouted old.connections.routes (keys_of addresses (destination_of h) (is_first h) datagram) None
      → IsJudged (len old.connections.ids) (validates old.connections.ids) limits stands now addresses.remote (length datagram) old mid h stranger
      → OnErr result (Follows (Unhandled new written) mid mid stranger) → OnErr result (Unhandled new written old)
  unhandled_after (Ok event) old mid new h stranger written is route judged answered = tt
  unhandled_after (Err e) old mid new h stranger written is route judged answered = follows (Unhandled new written) old mid h stranger is route judged answered

  pub unknown_answered : (result : Result (Option DatagramEvent) Memory) (mid new : PlainEndpoint K G R T) (stranger : Stranger) (id written : List ℕ) (size : ℕ) → stranger ≡ Unknown id → length datagram ≡ size
      → IfOk result (λ event. (bytes : List ℕ) → length bytes ≡ size
      → IsReset {S = S} len validates given drawn limits stands key sealed now addresses bytes id mid new written event)
      → IfOk result (λ event. Follows (Handled new written event) mid mid stranger)
  unknown_answered (Ok event) mid new stranger id written size is size_is reset = λ log h header route judged. unknown h mid id event header route (rw is at judged) (reset datagram size_is)
  unknown_answered (Err e) mid new stranger id written size is size_is reset = tt

  pub unknown_unanswered : (result : Result (Option DatagramEvent) Memory) (mid new : PlainEndpoint K G R T) (stranger : Stranger) (id written : List ℕ) (size : ℕ) → stranger ≡ Unknown id → length datagram ≡ size
      → OnErr result (IsResetEarly {S = S} len validates given drawn limits stands key sealed now addresses datagram mid → ⊥) → OnErr result (21 < size) → OnErr result (HasDrawn (size - 16) (drawn mid.words) (drawn new.words)) → OnErr result (new ≡ record mid { words = new.words }) → OnErr result (written ≡ [])
      → OnErr result (Follows (Unhandled new written) mid mid stranger)
  unknown_unanswered (Ok event) mid new stranger id written size is size_is late above words rest none = tt
  unknown_unanswered (Err e) mid new stranger id written size is size_is late above words rest none =
      λ log h header route judged. resetting h mid id header route (rw is at judged) late (subst (λ (n : ℕ). 21 < n) (sym size_is) above) (subst (λ (n : ℕ). HasDrawn (n - 16) (drawn mid.words) (drawn new.words)) (sym size_is) words) rest none

  pub closing_unanswered : {A : Type 0} (result : Result A Memory) (mid new : PlainEndpoint K G R T) (stranger : Stranger) (d s written : List ℕ) (code : TransportErrorCode) → stranger ≡ Refused d s code → IsUnclosed given mid new written
      → OnErr result (Follows (Unhandled new written) mid mid stranger)
  closing_unanswered (Ok a) mid new stranger d s written code is unclosed = tt
  closing_unanswered (Err x) mid new stranger d s written code is unclosed = λ log h header route judged. closing h mid d s code header route (rw is at judged) unclosed

  pub waiting_unanswered : {A : Type 0} (result : Result A Memory) (mid new : PlainEndpoint K G R T) (stranger : Stranger) (packet : FirstPacket) (server : ServerConfig) (written : List ℕ) → stranger ≡ Attempt packet server → IsLetGo mid new → written ≡ []
      → OnErr result (Follows (Unhandled new written) mid mid stranger)
  waiting_unanswered (Ok a) mid new stranger packet server written is gone empty = tt
  waiting_unanswered (Err x) mid new stranger packet server written is gone empty = λ log h header route judged. waiting h mid packet server header route (rw is at judged) gone empty

  pub unsupported_handled : (result : Result (Option DatagramEvent) Memory) (old new : PlainEndpoint K G R T) (version : ℕ) (destination source written : List ℕ) (size : ℕ)
      → IsUnsupported (numbers old.config) old.config.grease_quic_bit datagram version destination source → length datagram ≡ size
      → IfOk result (λ event. (moment : Moment) (bytes : List ℕ) → length bytes ≡ size
      → IsNegotiated {S = S} len validates given drawn limits stands key sealed moment addresses bytes version destination source old new written event)
      → IfOk result (λ event. Handled new written event old)
  unsupported_handled (Ok event) old new version destination source written size is size_is told = unsupported version destination source event is (told now datagram size_is)
  unsupported_handled (Err e) old new version destination source written size is size_is told = tt

  pub unsupported_unhandled : (result : Result (Option DatagramEvent) Memory) (old new : PlainEndpoint K G R T) (version : ℕ) (destination source written : List ℕ) (size : ℕ)
      → IsUnsupported (numbers old.config) old.config.grease_quic_bit datagram version destination source → length datagram ≡ size
      → OnErr result ((server : ServerConfig) × (old.server ≡ Some server) × (1200 ≤ size)) → OnErr result ((word : ℕ) × (drawn new.words ≡ and_word (drawn old.words) word)) → OnErr result (new ≡ record old { words = new.words }) → OnErr result (written ≡ [])
      → OnErr result (Unhandled new written old)
  unsupported_unhandled (Ok event) old new version destination source written size is size_is large words rest none = tt
  unsupported_unhandled (Err e) old new version destination source written size is size_is large words rest none =
      negotiating version destination source large.0 words.0 is large.1 (subst (λ (n : ℕ). 1200 ≤ n) (sym size_is) large.2) words.1 rest none
