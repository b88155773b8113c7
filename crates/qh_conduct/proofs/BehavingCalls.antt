-- An end goes on as it behaved, over calls on its streams.
use Rattle.std.proofs.Common.{◌≡◌, ℕ, Bool, true, List, [], ◌∷◌, ◌++◌, Option, Some, None, Result, Ok, Err, refl, sym, ap, subst, ◌∙◌}
use Rattle.std.specs.Prelude.{MatchResult}
use Rattle.std.proofs.lemmas.List.{append-nil}
use Rattle.qh_buffers.specs.declared.assembler.Chunk.{Chunk}
use Rattle.qh_conduct.proofs.AnnouncedCalls as announced
use Rattle.qh_conduct.proofs.BehavingEnds.{same_end}
use Rattle.qh_conduct.proofs.FilledFrames.{quiet_filled}
use Rattle.qh_conduct.proofs.GrantedCalls as granted
use Rattle.qh_conduct.proofs.ReachConnections as reached
use Rattle.qh_conduct.proofs.ReachSteps.{parts_untouched}
use Rattle.qh_conduct.proofs.SizedCalls as sized
use Rattle.qh_conduct.specs.Behaves.{Behaves}
use Rattle.qh_conduct.specs.Calls.{IsCall}
use Rattle.qh_conduct.specs.Calls.IsCall.{same as same_call, opened as opened_call, accepted as accepted_call, takes as takes_call, finishes as finishes_call, resets as resets_call, goes_first as goes_first_call, refused as refused_call, reads as reads_call, stops as stops_call, takes_reset as takes_reset_call, concurrent as concurrent_call, send_window as send_window_call, receive_window as receive_window_call, polls as polls_call}
use Rattle.qh_conduct.specs.Reached.{HasReached}
use Rattle.qh_conduct.specs.Sized.{MayWrite, written_by}
use Rattle.qh_core.specs.Follows.{Follows, take_acts}
use Rattle.qh_core.specs.Inner.{is_open, with_streams}
use Rattle.qh_core.specs.Streams.{IsRead, IsReadFault, IsWriteRefused}
use Rattle.qh_core.specs.Streams.IsWriteRefused.{closed, wanting, refused}
use Rattle.qh_core.specs.declared.fault.TakeFault.{TakeFault}
use Rattle.qh_core.specs.declared.fault.TakeFault.TheVariants.{Readable, Read}
use Rattle.qh_core.specs.declared.inner.Inner.{Inner}
use Rattle.qh_half.specs.declared.fault.ReadFault.{ReadFault}
use Rattle.qh_half.specs.declared.fault.ReadFault.TheVariants as fault
use Rattle.qh_half.specs.declared.fault.WriteFault.{WriteFault}
use Rattle.qh_halves.specs.SendHalves.{Finishes, IsResetWith, IsStep, Takes, write_fault_at}
use Rattle.qh_spec.specs.StreamId.{stream_id}
use Rattle.qh_spec.specs.Transcript.{Act, Finished, Reset, Wrote, handed_in, handed_out, written}
use Rattle.qh_spec.specs.declared.sides.Dir.{Dir}
use Rattle.qh_streams.specs.Streams.{PlainStreams, IsOpened, counts_of, is_two_way, with_accepted, with_counts}
use Rattle.qh_transcript.specs.Receiving.{piece_acts, read_acts}

-- ---- acts of a reader

-- they hand over no datagram, and write nothing
pub record AreAside (u : List Act) : Type 0 where
  pub into : handed_in u ≡ []
  pub out : handed_out u ≡ []
  pub wrote : (stream : ℕ) → written u stream ≡ []

piece_aside : (id offset : ℕ) (bytes : List ℕ) → AreAside (piece_acts id offset bytes)
piece_aside id offset [] = record { into = refl; out = refl; wrote = λ k. refl }
piece_aside id offset (b ∷ bytes) = record { into = refl; out = refl; wrote = λ k. refl }

read_aside : (id : ℕ) (answer : Result (Option Chunk) ReadFault) → AreAside (read_acts id answer)
read_aside id (Ok (Some c)) = piece_aside id c.offset c.bytes
read_aside id (Ok None) = record { into = refl; out = refl; wrote = λ k. refl }
read_aside id (Err (fault.Reset code)) = record { into = refl; out = refl; wrote = λ k. refl }
read_aside id (Err fault.Blocked) = record { into = refl; out = refl; wrote = λ k. refl }
read_aside id (Err fault.Memory) = record { into = refl; out = refl; wrote = λ k. refl }

module _ {S : Type 0} where
  -- ---- any call

  -- the streams are these now
  on_those : (old new : Inner S) (s : PlainStreams) → new ≡ with_streams old new.space.streams → new.space.streams ≡ s → new ≡ with_streams old s
  on_those old new s rest e = rest ∙ ap (λ (s : PlainStreams). with_streams old s) e

  -- they are those that a call left
  pub on_own : (old new : Inner S) (s : PlainStreams) → new ≡ with_streams old s → new ≡ with_streams old new.space.streams
  on_own old new s e = e ∙ ap (λ (s : PlainStreams). with_streams old s) (sym (ap (λ (c : Inner S). c.space.streams) e))

  call_reached : (old new : Inner S) (t : List Act) → IsCall old.space.streams new.space.streams → new ≡ with_streams old new.space.streams → HasReached old t → HasReached new t
  call_reached old new t (same_call e) rest = reached.untouched_law old new new.space.streams t rest (parts_untouched old.space.streams new.space.streams _ e refl refl refl refl refl)
  call_reached old new t (opened_call id dir id_is o) rest = reached.opened_law old new id dir t id_is o rest
  call_reached old new t (accepted_call dir e) rest = reached.accepted_law old new dir t (on_those old new _ rest e)
  call_reached old new t (takes_call id count bytes step e) rest = reached.written_law old new t (on_those old new _ rest e)
  call_reached old new t (finishes_call id step e) rest = reached.written_law old new t (on_those old new _ rest e)
  call_reached old new t (resets_call id code step e) rest = reached.written_law old new t (on_those old new _ rest e)
  call_reached old new t (goes_first_call id priority step e) rest = reached.written_law old new t (on_those old new _ rest e)
  call_reached old new t (refused_call id why e) rest = reached.untouched_law old new _ t (on_those old new _ rest e) (reached.blocked_untouched old.space.streams id why)
  call_reached old new t (reads_call max ordered id answer r) rest = reached.read_law old new max ordered id answer t r rest
  call_reached old new t (stops_call id code step e) rest = reached.stopped_law old new id code t step (on_those old new _ rest e)
  call_reached old new t (takes_reset_call id code step e) rest = reached.told_reset_law old new id code t step (on_those old new _ rest e)
  call_reached old new t (concurrent_call dir count e) rest = reached.concurrent_law old new dir count t (on_those old new _ rest e)
  call_reached old new t (send_window_call bytes e) rest = reached.untouched_law old new new.space.streams t rest (parts_untouched old.space.streams new.space.streams _ e refl refl refl refl refl)
  call_reached old new t (receive_window_call bytes e) rest = reached.window_law old new bytes t (on_those old new _ rest e)
  call_reached old new t (polls_call o p) rest = reached.untouched_law old new new.space.streams t rest (reached.polled_untouched old.space.streams new.space.streams o p)

  pub called_behaves : (old new : Inner S) (t u : List Act) → (call : IsCall old.space.streams new.space.streams) → MayWrite (is_open old.state) call → new ≡ with_streams old new.space.streams
      → ((stream : ℕ) → written u stream ≡ written_by call stream) → handed_in u ≡ [] → handed_out u ≡ [] → Follows new (t ++ u) → Behaves old t → Behaves new (t ++ u)
  called_behaves old new t u call may rest wrote into out follows b = record {
    follows = follows;
    reached = reached.acts_law new t u (call_reached old new t call rest b.reached);
    announced = announced.called old new t u call rest into out b.announced;
    granted = granted.called old new call rest b.granted;
    sized = sized.called_sized old new t u call may rest wrote out b.sized;
    filled = quiet_filled old new t u (same_end old new _ rest (record { side = refl; local_id = refl; remote_length = refl; config = refl })) out b.filled;
  }

  -- one that adds nothing
  unsaid : (old new : Inner S) (t : List Act) → (call : IsCall old.space.streams new.space.streams) → MayWrite (is_open old.state) call → new ≡ with_streams old new.space.streams
      → ((stream : ℕ) → written_by call stream ≡ []) → Follows new t → Behaves old t → Behaves new t
  unsaid old new t call may rest none follows b =
      subst (λ (u : List Act). Behaves new u) (append-nil t)
      (called_behaves old new t [] call may rest (λ k. sym (none k)) refl refl (subst (λ (u : List Act). Follows new u) (sym (append-nil t)) follows) b)

  -- ---- streams are opened, and given

  pub opened_behaves : (dir : Dir) (id : ℕ) (old new : Inner S) (t : List Act) → id ≡ stream_id old.space.streams.side dir (counts_of old.space.streams (is_two_way dir)).opened → IsOpened old.space.streams new.space.streams id
      → new ≡ with_streams old new.space.streams → Follows new t → Behaves old t → Behaves new t
  opened_behaves dir id old new t id_is opened rest = unsaid old new t (opened_call id dir id_is opened) tt rest (λ k. refl)

  pub accepted_behaves : (dir : Dir) (old new : Inner S) (t : List Act) → new ≡ with_streams old (with_counts old.space.streams (is_two_way dir) (with_accepted (counts_of old.space.streams (is_two_way dir)))) → Follows new t
      → Behaves old t → Behaves new t
  accepted_behaves dir old new t e = unsaid old new t (accepted_call dir (ap (λ (c : Inner S). c.space.streams) e)) tt (on_own old new _ e) (λ k. refl)

  -- ---- writers

  pub wrote_behaves : (id count : ℕ) (bytes : List ℕ) (old new : Inner S) (t : List Act) → is_open old.state ≡ true → write_fault_at old.space.streams.send id ≡ None
      → IsStep (Takes bytes) old.space.streams.send new.space.streams.send id count → new ≡ with_streams old (record old.space.streams { send = new.space.streams.send }) → Follows new (t ++ Wrote id bytes ∷ [])
      → Behaves old t → Behaves new (t ++ Wrote id bytes ∷ [])
  wrote_behaves id count bytes old new t up free step e =
      called_behaves old new t (Wrote id bytes ∷ []) (takes_call id count bytes step (ap (λ (c : Inner S). c.space.streams) e)) (up, free) (on_own old new _ e) (λ k. append-nil _) refl refl

  pub same_behaves : (old new : Inner S) (t : List Act) → new ≡ old → Behaves old t → Behaves new t
  same_behaves old new t e = subst (λ (c : Inner S). Behaves c t) (sym e)

  pub unwritten_behaves : (id : ℕ) (why : WriteFault) (old new : Inner S) (t : List Act) → IsWriteRefused id why old new → Follows new t → Behaves old t → Behaves new t
  unwritten_behaves id why old new t (closed shut blocked e) follows = same_behaves old new t e
  unwritten_behaves id why old new t (wanting is may memory e) follows = same_behaves old new t e
  unwritten_behaves id why old new t (refused up is e) follows = unsaid old new t (refused_call id why (ap (λ (c : Inner S). c.space.streams) e)) tt (on_own old new _ e) (λ k. refl) follows

  pub finished_behaves : (id : ℕ) (old new : Inner S) (t : List Act) → IsStep Finishes old.space.streams.send new.space.streams.send id 0 → new ≡ with_streams old (record old.space.streams { send = new.space.streams.send })
      → Follows new (t ++ Finished id ∷ []) → Behaves old t → Behaves new (t ++ Finished id ∷ [])
  finished_behaves id old new t step e = called_behaves old new t (Finished id ∷ []) (finishes_call id step (ap (λ (c : Inner S). c.space.streams) e)) tt (on_own old new _ e) (λ k. refl) refl refl

  pub reset_behaves : (id code : ℕ) (old new : Inner S) (t : List Act) → IsStep (IsResetWith code) old.space.streams.send new.space.streams.send id 0 → new ≡ with_streams old (record old.space.streams { send = new.space.streams.send })
      → Follows new (t ++ Reset id code ∷ []) → Behaves old t → Behaves new (t ++ Reset id code ∷ [])
  reset_behaves id code old new t step e = called_behaves old new t (Reset id code ∷ []) (resets_call id code step (ap (λ (c : Inner S). c.space.streams) e)) tt (on_own old new _ e) (λ k. refl) refl refl

  -- ---- readers

  got_behaves : (max_length : ℕ) (ordered : Bool) (id : ℕ) (answer : Result (Option Chunk) ReadFault) (old new : Inner S) (t : List Act) → IsRead max_length ordered id answer old.space.streams new.space.streams
      → new ≡ with_streams old new.space.streams → Follows new (t ++ read_acts id answer) → Behaves old t → Behaves new (t ++ read_acts id answer)
  got_behaves max ordered id answer old new t r rest =
      let aside = read_aside id answer in called_behaves old new t (read_acts id answer) (reads_call max ordered id answer r) tt rest aside.wrote aside.into aside.out

  pub read_behaves : (max_length : ℕ) (ordered : Bool) (id : ℕ) (result : Result (Option Chunk) TakeFault) (old new : Inner S) (t : List Act)
      → MatchResult result (λ o. IsRead max_length ordered id (Ok o) old.space.streams new.space.streams) (λ e. IsReadFault max_length ordered id e old.space.streams new.space.streams)
      → new ≡ with_streams old new.space.streams → Follows new (t ++ take_acts id result) → Behaves old t → Behaves new (t ++ take_acts id result)
  read_behaves max ordered id (Ok o) old new t r rest = got_behaves max ordered id (Ok o) old new t r rest
  read_behaves max ordered id (Err (Read why)) old new t r rest = got_behaves max ordered id (Err why) old new t r rest
  read_behaves max ordered id (Err (Readable why)) old new t r rest = called_behaves old new t [] (same_call r.1) tt rest (λ k. refl) refl refl
