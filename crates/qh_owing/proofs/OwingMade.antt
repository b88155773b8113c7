-- What a connection owes is kept over whatever calls are made.
use Rattle.std.proofs.Common.{List, [], ◌++◌, length, Some, refl, sym, ap, subst, inl, inr}
use Rattle.std.proofs.lemmas.List.{append-nil}
use Rattle.std.specs.Prelude.{Ok}
use Rattle.qh_core.proofs.MadeTogether.{carried_on}
use Rattle.qh_core.specs.Made.{AcceptsTags, MakesTagsOf, AreMade, IsAnyCall, IsLocalCall, IsStreamCall, IsTurned}
use Rattle.qh_core.specs.Made.IsAnyCall.{handed_in, lost, handed_out as datagram_out, control_out, nothing_sent as nothing_out, unsent, local}
use Rattle.qh_core.specs.Made.IsLocalCall.{timeout, closed, polled, endpoint_polled, turned, on_streams}
use Rattle.qh_core.specs.Made.IsStreamCall.{unchanged, opened, accepted, wrote, unwritten, finished, reset, prioritized, read, stopped, took_reset, concurrent, send_window, receive_window}
use Rattle.qh_core.specs.declared.inner.Inner.{Inner}
use Rattle.qh_halves.specs.Counts.{other_side}
use Rattle.qh_owing.proofs.OwingCalls.{accept_owes, concurrent_owes, endpoint_owes, finish_owes, kept_call, open_owes, poll_owes, priority_owes, read_owes, receive_window_owes, received_reset_owes, refused, reset_owes, send_window_owes, stop_owes, wrote_call}
use Rattle.qh_owing.proofs.OwingConnections.{close_owes, datagram_made, event_failed, event_taken, failed, none_come, nothing_more, nothing_sent, on, timed_out, without_more}
use Rattle.qh_owing.proofs.TurnedAside.{IsAside, turned_aside}
use Rattle.qh_owing.specs.Owing.{IsOwing, Owes}
use Rattle.qh_packet.specs.Session.{AcceptsTag, MakesTags, NamesTags}
use Rattle.qh_space.specs.declared.data_space.DataSpace.{DataSpace}
use Rattle.qh_spec.specs.StreamId.{stream_id}
use Rattle.qh_spec.specs.Transcript.{Act}
use Rattle.qh_streams.specs.Streams.{counts_of, is_two_way}

module _ {S : Type 0} where
  stream_owes : (accepts : AcceptsTag) (b c : Inner S) (u t : List Act) → IsStreamCall b c u → Owes accepts b t → Owes accepts c (t ++ u)
  stream_owes accepts b c u t (unchanged is) o = nothing_more accepts c t (kept_call accepts b c t is o)
  stream_owes accepts b c u t (opened dir id up id_is below o_is rest) o =
      nothing_more accepts c t (open_owes accepts dir (Ok (Some (record { 0 = id }))) b c t (up, id_is, below, o_is, rest) (λ e. absurd (cc)) tt o)
  stream_owes accepts b c u t (accepted dir below is) o =
      nothing_more accepts c t
      (accept_owes accepts dir (Some (record { 0 = stream_id (other_side b.space.streams.side) dir (counts_of b.space.streams (is_two_way dir)).accepted })) b c t (refl, below, is) (λ e. absurd (cc)) o)
  stream_owes accepts b c u t (wrote id count bytes _ _ step rest) o = wrote_call accepts id count bytes b c t step rest o
  stream_owes accepts b c u t (unwritten id fault denied) o = nothing_more accepts c t (refused accepts id fault b c t denied o)
  stream_owes accepts b c u t (finished id step rest) o = finish_owes accepts id (Ok tt) b c t (step, rest) tt o
  stream_owes accepts b c u t (reset id code step rest) o = reset_owes accepts id code (Ok tt) b c t (step, rest) tt o
  stream_owes accepts b c u t (prioritized id priority step rest) o = nothing_more accepts c t (priority_owes accepts id priority (Ok tt) b c t (step, rest) tt o)
  stream_owes accepts b c u t (read max_length ordered id answer ok err rest) o = read_owes accepts id max_length ordered answer b c t ok err rest o
  stream_owes accepts b c u t (stopped id code step rest) o = stop_owes accepts id code (Ok tt) b c t (step, rest) tt o
  stream_owes accepts b c u t (took_reset id code step rest) o = received_reset_owes accepts id (Ok code) b c t (step, rest) tt o
  stream_owes accepts b c u t (concurrent dir count rest) o = nothing_more accepts c t (concurrent_owes accepts (is_two_way dir) count b c t rest o)
  stream_owes accepts b c u t (send_window bytes rest) o = nothing_more accepts c t (send_window_owes accepts bytes b c t rest o)
  stream_owes accepts b c u t (receive_window bytes rest) o = nothing_more accepts c t (receive_window_owes accepts bytes b c t rest o)

  aside_owes : (accepts : AcceptsTag) (b c : Inner S) (t : List Act) → IsAside b c → Owes accepts b t → Owes accepts c t
  aside_owes accepts b c t a o =
      without_more accepts c t
      (on accepts b c t [] (record { side = a.same.side; local = a.same.local_id; remote = a.same.remote_length; opens = a.opens; numbers = λ up. ap (λ (s : DataSpace). s.dedup) a.space })
      (none_come accepts b c t [] refl)
      (λ accepted up p.
      subst (λ (s : DataSpace). IsOwing (length b.remote_id) b.side accepted (t ++ []) s) (sym a.space)
      (subst (λ (z : List Act). IsOwing (length b.remote_id) b.side accepted z (record b.space { log = a.log })) (sym (append-nil t)) (record { kept = p.kept; in_packets = p.in_packets; out = p.out }))) o)

  pub turned_owes : (accepts : AcceptsTag) (b c : Inner S) (t : List Act) → IsTurned b c → Owes accepts b t → Owes accepts c t
  turned_owes accepts b c t is o = elim (turned_aside b c is) [
    | inl lacks ↦ without_more accepts c t (failed accepts b c t [] lacks o)
    | inr aside ↦ aside_owes accepts b c t aside o
  ]

  local_owes : (accepts : AcceptsTag) (b c : Inner S) (u t : List Act) → IsLocalCall b c u → Owes accepts b t → Owes accepts c (t ++ u)
  local_owes accepts b c u t (timeout now timed _) o = nothing_more accepts c t (timed_out accepts now b c t timed o)
  local_owes accepts b c u t (closed now code reason ends stays) o = nothing_more accepts c t (close_owes accepts now _ _ b c t ends stays o)
  local_owes accepts b c u t (polled told is) o = nothing_more accepts c t (poll_owes accepts told b c t is o)
  local_owes accepts b c u t (endpoint_polled told is) o = nothing_more accepts c t (endpoint_owes accepts told b c t is o)
  local_owes accepts b c u t (turned is) o = nothing_more accepts c t (turned_owes accepts b c t is o)
  local_owes accepts b c u t (on_streams _ call) o = stream_owes accepts b c u t call o

  any_owes : (accepts : AcceptsTags S) (sealed : MakesTagsOf S) (b c : Inner S) (u t : List Act) → NamesTags (accepts b.session) → MakesTags (sealed b.session)
      → IsAnyCall accepts sealed b c u → Owes (accepts b.session) b t → Owes (accepts b.session) c (t ++ u)
  any_owes accepts sealed b c u t names makes (handed_in event taken _) o = event_taken (accepts b.session) event b c t names taken o
  any_owes accepts sealed b c u t names makes (lost event lacks _) o = event_failed (accepts b.session) event b c t lacks o
  any_owes accepts sealed b c u t names makes (datagram_out now before after transmit made _ _) o = datagram_made (accepts b.session) (sealed b.session) now b c before after transmit t makes made o
  any_owes accepts sealed b c u t names makes (control_out now before after frames sent is _) o = datagram_made (accepts b.session) (sealed b.session) now b c before after sent.transmit t makes is.made o
  any_owes accepts sealed b c u t names makes (nothing_out none) o = nothing_more (accepts b.session) c t (nothing_sent (accepts b.session) b c t none o)
  any_owes accepts sealed b c u t names makes (unsent lacks) o = failed (accepts b.session) b c t [] lacks o
  any_owes accepts sealed b c u t names makes (local _ call) o = local_owes (accepts b.session) b c u t call o

  pub made_owes : (accepts : AcceptsTags S) (sealed : MakesTagsOf S) (old new : Inner S) (acts t : List Act) → NamesTags (accepts old.session) → MakesTags (sealed old.session)
      → AreMade accepts sealed old new acts → Owes (accepts old.session) old t → Owes (accepts old.session) new (t ++ acts)
  made_owes accepts sealed old new acts t names makes made =
      carried_on accepts sealed (Owes (accepts old.session)) old new acts t
      (λ b c u v session step o.
      subst (λ (s : S). Owes (accepts s) c (v ++ u)) session
      (any_owes accepts sealed b c u v (subst (λ (s : S). NamesTags (accepts s)) (sym session) names) (subst (λ (s : S). MakesTags (sealed s)) (sym session) makes)
      step.0 (subst (λ (s : S). Owes (accepts s) b v) (sym session) o))) made
