-- An end goes on as it behaved, over whatever calls are made.
use Rattle.std.proofs.Common.{◌≡◌, ℕ, Bool, List, [], ◌++◌, Option, Some, None, Result, Ok, Err, IfOk, IfErr, refl, sym, ap, subst, inl, inr}
use Rattle.std.specs.Prelude.{MatchResult}
use Rattle.std.proofs.lemmas.List.{append-nil}
use Rattle.qh_buffers.specs.declared.assembler.Chunk.{Chunk}
use Rattle.qh_conduct.proofs.BehavingCalls.{accepted_behaves, called_behaves, finished_behaves, on_own, opened_behaves, read_behaves, reset_behaves, same_behaves, unwritten_behaves, wrote_behaves}
use Rattle.qh_conduct.proofs.BehavingEnds.{closed_behaves, drained_behaves, event_behaves, failed_behaves, failed_event, made_behaves, none_behaves, polled_behaves, timed_behaves, turned_behaves}
use Rattle.qh_conduct.proofs.FilledFrames.{made_filled}
use Rattle.qh_conduct.specs.Announced.{MakesTags}
use Rattle.qh_conduct.specs.Behaves.{Behaves}
use Rattle.qh_conduct.specs.Calls.IsCall.{concurrent as concurrent_call, goes_first as goes_first_call, receive_window as receive_window_call, send_window as send_window_call, stops as stops_call, takes_reset as takes_reset_call}
use Rattle.qh_conduct.specs.Reached.{AreNamed}
use Rattle.qh_core.proofs.MadeTogether.{carried_on}
use Rattle.qh_core.specs.Follows.{Follows}
use Rattle.qh_core.specs.Inner.{IsSameEnd}
use Rattle.qh_core.specs.Made.{AcceptsTags, MakesTagsOf, AreMade, IsAnyCall, IsLocalCall, IsStreamCall}
use Rattle.qh_core.specs.Made.IsAnyCall.{handed_in, lost, handed_out as datagram_out, control_out, nothing_sent, unsent, local}
use Rattle.qh_core.specs.Made.IsLocalCall.{timeout, closed, polled, endpoint_polled, turned, on_streams}
use Rattle.qh_core.specs.Made.IsStreamCall.{unchanged, opened, accepted, wrote, unwritten, finished, reset, prioritized, read, stopped, took_reset, concurrent, send_window, receive_window}
use Rattle.qh_core.specs.Streams.{IsRead, IsReadFault}
use Rattle.qh_core.specs.declared.fault.TakeFault.{TakeFault}
use Rattle.qh_core.specs.declared.inner.Inner.{Inner}
use Rattle.qh_spec.specs.Transcript.{Act, handed_in as datagrams_in, handed_out as datagrams_out, written}
use Rattle.qh_streams.specs.Streams.{PlainStreams}
use Rattle.qh_transcript.specs.Receiving.{reset_acts}

-- a reset that is given hands over denied datagram, and writes nothing
reset_in : (id : ℕ) (code : Option ℕ) → datagrams_in (reset_acts id code) ≡ []
reset_in id None = refl
reset_in id (Some code) = refl

reset_out : (id : ℕ) (code : Option ℕ) → datagrams_out (reset_acts id code) ≡ []
reset_out id None = refl
reset_out id (Some code) = refl

reset_written : (id : ℕ) (code : Option ℕ) (stream : ℕ) → written (reset_acts id code) stream ≡ []
reset_written id None stream = refl
reset_written id (Some code) stream = refl

either_answer : (max_length : ℕ) (ordered : Bool) (id : ℕ) (answer : Result (Option Chunk) TakeFault) (old new : PlainStreams)
    → IfOk answer (λ o. IsRead max_length ordered id (Ok o) old new) → IfErr answer (λ e. IsReadFault max_length ordered id e old new)
    → MatchResult answer (λ o. IsRead max_length ordered id (Ok o) old new) (λ e. IsReadFault max_length ordered id e old new)
either_answer max_length ordered id (Ok o) old new ok err = ok
either_answer max_length ordered id (Err e) old new ok err = err

module _ {S : Type 0} where
  -- ---- a call that adds nothing

  with_nil : (c : Inner S) (t : List Act) → Follows c (t ++ []) → (Follows c t → Behaves c t) → Behaves c (t ++ [])
  with_nil c t follows go = subst (λ (u : List Act). Behaves c u) (sym (append-nil t)) (go (subst (λ (u : List Act). Follows c u) (append-nil t) follows))

  streams_of : (old new : Inner S) (s : PlainStreams) → new ≡ record old { space = record old.space { streams = s } } → new.space.streams ≡ s
  streams_of old new s is = ap (λ (c : Inner S). c.space.streams) is

  -- ---- calls on streams

  stream_behaves : (b c : Inner S) (u t : List Act) → IsStreamCall b c u → Follows c (t ++ u) → Behaves b t → Behaves c (t ++ u)
  stream_behaves b c u t (unchanged is) follows p = with_nil c t follows (λ _. same_behaves b c t is p)
  stream_behaves b c u t (opened dir id _ id_is _ o rest) follows p = with_nil c t follows (λ f. opened_behaves dir id b c t id_is o rest f p)
  stream_behaves b c u t (accepted dir _ is) follows p = with_nil c t follows (λ f. accepted_behaves dir b c t is f p)
  stream_behaves b c u t (wrote id count bytes up free step rest) follows p = wrote_behaves id count bytes b c t up free step rest follows p
  stream_behaves b c u t (unwritten id fault denied) follows p = with_nil c t follows (λ f. unwritten_behaves id fault b c t denied f p)
  stream_behaves b c u t (finished id step rest) follows p = finished_behaves id b c t step rest follows p
  stream_behaves b c u t (reset id code step rest) follows p = reset_behaves id code b c t step rest follows p
  stream_behaves b c u t (prioritized id priority step rest) follows p =
      called_behaves b c t [] (goes_first_call id priority step (streams_of b c _ rest)) tt (on_own b c _ rest) (λ k. refl) refl refl follows p
  stream_behaves b c u t (read max_length ordered id answer ok err rest) follows p =
      read_behaves max_length ordered id answer b c t (either_answer max_length ordered id answer b.space.streams c.space.streams ok err) rest follows p
  stream_behaves b c u t (stopped id code step rest) follows p =
      called_behaves b c t _ (stops_call id code step (streams_of b c _ rest)) tt (on_own b c _ rest) (λ k. refl) refl refl follows p
  stream_behaves b c u t (took_reset id code step rest) follows p =
      called_behaves b c t (reset_acts id code) (takes_reset_call id code step (streams_of b c _ rest)) tt (on_own b c _ rest) (reset_written id code) (reset_in id code) (reset_out id code) follows p
  stream_behaves b c u t (concurrent dir count rest) follows p =
      called_behaves b c t [] (concurrent_call dir count (streams_of b c _ rest)) tt (on_own b c _ rest) (λ k. refl) refl refl follows p
  stream_behaves b c u t (send_window bytes rest) follows p =
      called_behaves b c t [] (send_window_call bytes (streams_of b c _ rest)) tt (on_own b c _ rest) (λ k. refl) refl refl follows p
  stream_behaves b c u t (receive_window bytes rest) follows p =
      called_behaves b c t [] (receive_window_call bytes (streams_of b c _ rest)) tt (on_own b c _ rest) (λ k. refl) refl refl follows p

  -- ---- any call

  local_behaves : (b c : Inner S) (u t : List Act) → IsLocalCall b c u → IsSameEnd b c → Follows c (t ++ u) → Behaves b t → Behaves c (t ++ u)
  local_behaves b c u t (timeout now timed _) same follows p = with_nil c t follows (λ f. timed_behaves now b c t timed same f p)
  local_behaves b c u t (closed now code reason ends stays) same follows p = with_nil c t follows (λ f. closed_behaves now code reason b c t ends stays same f p)
  local_behaves b c u t (polled told is) same follows p = with_nil c t follows (λ f. polled_behaves b c told t is same f p)
  local_behaves b c u t (endpoint_polled told is) same follows p = with_nil c t follows (λ f. drained_behaves b c told t is same f p)
  local_behaves b c u t (turned is) same follows p = with_nil c t follows (λ f. turned_behaves b c t is f p)
  local_behaves b c u t (on_streams _ call) same follows p = stream_behaves b c u t call follows p

  any_behaves : (accepts : AcceptsTags S) (sealed : MakesTagsOf S) (b c : Inner S) (u t : List Act) → AreNamed (accepts b.session) → MakesTags (sealed b.session)
      → IsAnyCall accepts sealed b c u → IsSameEnd b c → Follows c (t ++ u) → Behaves b t → Behaves c (t ++ u)
  any_behaves accepts sealed b c u t named tags (handed_in event taken _) same follows p = event_behaves (accepts b.session) event b c t named taken same follows p
  any_behaves accepts sealed b c u t named tags (lost event failed _) same follows p = failed_event event b c t failed follows p
  any_behaves accepts sealed b c u t named tags (datagram_out now before after transmit made back _) same follows p =
      made_behaves (sealed b.session) tags now b c before after transmit t made (inr back) follows (made_filled (sealed b.session) tags now b c before after transmit t made (inr back) p.filled) p
  any_behaves accepts sealed b c u t named tags (control_out now before after frames sent is _) same follows p =
      made_behaves (sealed b.session) tags now b c before after sent.transmit t is.made (inl is.opened) follows
      (made_filled (sealed b.session) tags now b c before after sent.transmit t is.made (inl is.opened) p.filled) p
  any_behaves accepts sealed b c u t named tags (nothing_sent none) same follows p = with_nil c t follows (λ f. none_behaves b c t none f p)
  any_behaves accepts sealed b c u t named tags (unsent failed) same follows p = with_nil c t follows (λ f. failed_behaves b c t failed f p)
  any_behaves accepts sealed b c u t named tags (local _ call) same follows p = local_behaves b c u t call same follows p

  pub made_on : (accepts : AcceptsTags S) (sealed : MakesTagsOf S) (old new : Inner S) (acts t : List Act) → AreNamed (accepts old.session) → MakesTags (sealed old.session)
      → AreMade accepts sealed old new acts → Behaves old t → Behaves new (t ++ acts)
  made_on accepts sealed old new acts t named tags made =
      carried_on accepts sealed Behaves old new acts t
      (λ b c u v session step p.
      any_behaves accepts sealed b c u v (subst (λ (s : S). AreNamed (accepts s)) (sym session) named) (subst (λ (s : S). MakesTags (sealed s)) (sym session) tags)
      step.0 step.1.same_end (step.1.follows v p.follows) p) made
