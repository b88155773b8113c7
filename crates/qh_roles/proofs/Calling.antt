-- What a call's contract tells, in the form that the laws of how an end behaves take.
use Rattle.std.proofs.Common.{◌≡◌, ℕ, ◌<◌, true, List, [], ◌∷◌, ◌++◌, length, take, Option, Some, None, Result, Ok, Err, OnOk, OnErr, IfOk, IfErr, IfSome, refl, sym, subst, append-nil}
use Rattle.qh_buffers.specs.declared.assembler.Chunk.{Chunk}
use Rattle.qh_conduct.specs.Behaves.{Behaves}
use Rattle.qh_core.specs.Follows.{Follows, write_acts, finish_acts, reset_by_acts}
use Rattle.qh_core.specs.Inner.{is_open, with_streams}
use Rattle.qh_core.specs.Streams.{IsWriteRefused}
use Rattle.qh_core.specs.declared.fault.TakeFault.{TakeFault}
use Rattle.qh_core.specs.declared.inner.Inner.{Inner}
use Rattle.qh_half.specs.declared.fault.ClosedStream.{ClosedStream}
use Rattle.qh_half.specs.declared.fault.FinishFault.{FinishFault}
use Rattle.qh_half.specs.declared.fault.WriteFault.{WriteFault}
use Rattle.qh_halves.specs.SendHalves.{Finishes, IsResetWith, IsStep, Takes, finish_fault_at, is_reset_refused_at, write_fault_at}
use Rattle.qh_roles.proofs.Acts.{none_fresh, none_on, reset_on}
use Rattle.qh_roles.specs.Going.{WentFrom}
use Rattle.qh_roles.specs.Streams.{AreOn, IsFresh}
use Rattle.qh_spec.specs.Transcript.{Act, Finished, Reset, Wrote, read}

-- what a reset adds neither writes nor reads anything
pub reset_alone : (id code : ℕ) (r : Result Unit ClosedStream) → AreOn id (reset_by_acts id code r) × IsFresh (reset_by_acts id code r) id
reset_alone id code (Ok _) = (reset_on id code, ((refl, refl), (refl, refl)))
reset_alone id code (Err e) = (none_on id, none_fresh id)

module _ {S : Type 0} where
  -- nothing was done
  pub still_behaves : (old new : Inner S) (t : List Act) → new ≡ old → Behaves old t → Behaves new (t ++ [])
  still_behaves old new t same b = subst (λ (c : Inner S). Behaves c (t ++ [])) (sym same) (subst (Behaves old) (sym (append-nil t)) b)

  pub read_in_order : (id : ℕ) (r : Result (Option Chunk) TakeFault) (old : Inner S)
      → IfOk r (λ o. IfSome o (λ c. (t : List Act) → Follows old t → true ≡ true → 0 < length c.bytes → c.offset ≡ length (read t id)))
      → IfOk r (λ o. IfSome o (λ c. (start : Inner S) (before t : List Act) → WentFrom start before old t → 0 < length c.bytes → c.offset ≡ length (read t id)))
  read_in_order id (Ok None) old f = tt
  read_in_order id (Ok (Some c)) old f = λ start before t w some. f t w.behaves.follows refl some
  read_in_order id (Err e) old f = tt

  -- a refused call changes nothing
  pub same_by_fault : {E : Type 0} (A : E → Type 0) (r : Result Unit E) (old new : Inner S) → IfErr r (λ e. A e × (new ≡ old)) → OnErr r (new ≡ old)
  same_by_fault A (Ok _) old new h = tt
  same_by_fault A (Err e) old new h = h.1

  pub same_on_error : {E : Type 0} (A : Type 0) (r : Result Unit E) (old new : Inner S) → OnErr r (A × (new ≡ old)) → OnErr r (new ≡ old)
  same_on_error A (Ok _) old new h = tt
  same_on_error A (Err e) old new h = h.1

  module _ (id : ℕ) (old new : Inner S) (t : List Act) where
    pub write_behaves : (payload : List ℕ) (r : Result ℕ WriteFault)
        → ((count : ℕ) (bytes : List ℕ) → is_open old.state ≡ true → write_fault_at old.space.streams.send id ≡ None → IsStep (Takes bytes) old.space.streams.send new.space.streams.send id count
        → new ≡ with_streams old (record old.space.streams { send = new.space.streams.send }) → Follows new (t ++ Wrote id bytes ∷ []) → Behaves new (t ++ Wrote id bytes ∷ []))
        → ((fault : WriteFault) → IsWriteRefused id fault old new → Follows new t → Behaves new t)
        → IfOk r (λ n. (is_open old.state ≡ true) × IsStep (Takes (take n payload)) old.space.streams.send new.space.streams.send id n × (new ≡ with_streams old (record old.space.streams { send = new.space.streams.send })))
        → OnOk r (write_fault_at old.space.streams.send id ≡ None) → IfErr r (λ e. IsWriteRefused id e old new)
        → Follows new (t ++ write_acts id payload r) → Behaves new (t ++ write_acts id payload r)
    write_behaves payload (Ok n) wrote unwritten ok taken fault follows = wrote n (take n payload) ok.0 taken ok.1 ok.2 follows
    write_behaves payload (Err e) wrote unwritten ok taken fault follows =
        subst (Behaves new) (sym (append-nil t)) (unwritten e fault (subst (Follows new) (append-nil t) follows))

    pub finish_behaves : (r : Result Unit FinishFault)
        → (IsStep Finishes old.space.streams.send new.space.streams.send id 0 → new ≡ with_streams old (record old.space.streams { send = new.space.streams.send })
        → Follows new (t ++ Finished id ∷ []) → Behaves new (t ++ Finished id ∷ []))
        → OnOk r (IsStep Finishes old.space.streams.send new.space.streams.send id 0 × (new ≡ with_streams old (record old.space.streams { send = new.space.streams.send })))
        → IfErr r (λ e. (finish_fault_at old.space.streams.send id ≡ Some e) × (new ≡ old))
        → Follows new (t ++ finish_acts id r) → Behaves old t → Behaves new (t ++ finish_acts id r)
    finish_behaves (Ok _) finished ok fault follows b = finished ok.0 ok.1 follows
    finish_behaves (Err e) finished ok fault follows b = still_behaves old new t fault.1 b

    pub reset_behaves : (code : ℕ) (r : Result Unit ClosedStream)
        → (IsStep (IsResetWith code) old.space.streams.send new.space.streams.send id 0 → new ≡ with_streams old (record old.space.streams { send = new.space.streams.send })
        → Follows new (t ++ Reset id code ∷ []) → Behaves new (t ++ Reset id code ∷ []))
        → OnOk r (IsStep (IsResetWith code) old.space.streams.send new.space.streams.send id 0 × (new ≡ with_streams old (record old.space.streams { send = new.space.streams.send })))
        → OnErr r ((is_reset_refused_at old.space.streams.send id ≡ true) × (new ≡ old))
        → Follows new (t ++ reset_by_acts id code r) → Behaves old t → Behaves new (t ++ reset_by_acts id code r)
    reset_behaves code (Ok _) reset ok fault follows b = reset ok.0 ok.1 follows
    reset_behaves code (Err e) reset ok fault follows b = still_behaves old new t fault.1 b
