-- The streams that are looked at until one is found on which bytes may be written again.
use Rattle.std.proofs.Common.{◌≡◌, ℕ, ◌<◌, ◌==◌, Bool, true, false, List, [], ◌∷◌, ◌++◌, length, drop, Option, Some, None, append_assoc, append-nil, refl, sym, ap, ◌∙◌, arith, inl, inr}
use Rattle.std.specs.List.{list_any}
use Rattle.std.specs.Option.{option_to_list}
use Rattle.std.proofs.lemmas.Bool.{cases_Bool, false≢true}
use Rattle.std.proofs.lemmas.Bool.Decides.{eqb_tells}
use Rattle.qh_base.specs.declared.stream_id.StreamId.{StreamId}
use Rattle.qh_streams.specs.declared.frames.StreamEvent.{StreamEvent}
use Rattle.qh_streams.specs.declared.frames.StreamEvent.TheVariants.{Writable}
use Rattle.qh_halves.specs.SendHalves.{send_at, write_limit, half_is_writable}
use Rattle.qh_streams.specs.Streams.{PlainStreams, AreStreams, NoneWritable, IsWritablePolled, still_blocked, IsPolled, KeepsOut, some as found, none as nothing, writable, queued}
use Rattle.qh_streams.proofs.StreamsKept.{halves_kept, send_same, recv_same, out_kept, later_same}

-- those in front were taken out, and none of them may be written
pub record IsPolling (old now : PlainStreams) (capacity : ℕ) : Type 0 where
  pub front : List ℕ
  pub kept : AreStreams now capacity
  pub rest_is : old ≡ record now { blocked = front ++ now.blocked }
  pub none : NoneWritable now front

none_behind : (test : ℕ → Bool) (k id : ℕ) (front : List ℕ) → (list_any (λ (j : ℕ). j == k) front ≡ true → test k ≡ false) → test id ≡ false → list_any (λ (j : ℕ). j == k) (front ++ id ∷ []) ≡ true → test k ≡ false
none_behind test k id [] none now there = elim (eqb_tells id k) [
  | inl same ↦ rw (sym same.1) now
  | inr apart ↦ absurd (false≢true (rw apart.0 at there))
]
none_behind test k id (j ∷ js) none now there = elim (cases_Bool (j == k)) [
  | inl here ↦ none (rw here refl)
  | inr apart ↦ none_behind test k id js (λ later. none (rw apart later)) now (rw apart at there)
]

none_left : (l : List ℕ) → (0 < length l → false ≡ true) → l ≡ []
none_left [] e = refl
none_left (x ∷ xs) e = absurd (false≢true (e (omega arith)))

module _ {old now : PlainStreams} {capacity : ℕ} (p : IsPolling old now capacity) where
  send_is : old.send ≡ now.send
  send_is = ap (λ (s : PlainStreams). s.send) p.rest_is

  -- one more is taken out, on which nothing may be written
  pub polling_on : (id : ℕ) (rest : List ℕ) → now.blocked ≡ id ∷ rest → half_is_writable (send_at now.send id) ≡ false → IsPolling old (record now { blocked = rest }) capacity
  polling_on id rest blocked_is not_now = record {
    front = p.front ++ id ∷ [];
    kept = halves_kept p.kept (send_same refl) (recv_same refl) refl refl refl p.kept.room;
    rest_is = p.rest_is ∙ ap (λ (l : List ℕ). record now { blocked = l }) (ap (λ (l : List ℕ). p.front ++ l) blocked_is ∙ sym (append_assoc p.front (id ∷ []) rest));
    none = λ k. none_behind (λ (j : ℕ). half_is_writable (send_at now.send j)) k id p.front (p.none k) not_now;
  }

  -- the first on which bytes may be written
  pub polled_some : (id : StreamId) (rest : List ℕ) → now.blocked ≡ id.0 ∷ rest → 0 < write_limit old.send → half_is_writable (send_at now.send id.0) ≡ true → IsWritablePolled old (record now { blocked = rest }) (Some id)
  polled_some id rest blocked_is open_now writable_now =
      found id p.front rest open_now (ap (λ (s : PlainStreams). s.blocked) p.rest_is ∙ ap (λ (l : List ℕ). p.front ++ l) blocked_is) (rw send_is p.none) (rw send_is writable_now)
      (rw p.rest_is refl)

  -- none is left
  pub polled_none : (rest : List ℕ) → (0 < length now.blocked → false ≡ true) → rest ≡ now.blocked → 0 < write_limit old.send → IsWritablePolled old (record now { blocked = rest }) None
  polled_none rest empty rest_is open_now =
      let shut : (write_limit old.send == 0) ≡ false = grind (arith, open_now) in
      let blocked_is = none_left now.blocked empty in
      let all : old.blocked ≡ p.front = ap (λ (s : PlainStreams). s.blocked) p.rest_is ∙ ap (λ (l : List ℕ). p.front ++ l) blocked_is ∙ append-nil p.front in
      nothing (inr (rw (send_is, all) p.none)) (rw shut (rw p.rest_is (ap (λ (l : List ℕ). record now { blocked = l }) (rest_is ∙ blocked_is))))

-- ---- what is told next

pub told_writable : (old new : PlainStreams) (id : StreamId) → IsWritablePolled old new (Some id) → IsPolled old new (Some (Writable id))
told_writable old new id (found _ front rest open_now blocked_is shut on e) = writable id front rest open_now blocked_is shut on e

none_fewer : (es : List StreamEvent) → es ≡ drop 1 es → es ≡ []
none_fewer [] e = refl
none_fewer (x ∷ xs) e = let n = ap length e in absurd (omega (arith, n))

pub told_queued : (old mid : PlainStreams) → IsWritablePolled old mid None → (o : Option StreamEvent) (es : List StreamEvent) → mid.events ≡ option_to_list o ++ es → es ≡ drop 1 mid.events
    → IsPolled old (record mid { events = es }) o
told_queued old mid (nothing left e) (Some told) es items rest = queued told es left (sym (ap (λ (s : PlainStreams). s.events) e) ∙ items) (rw e refl)
told_queued old mid (nothing left e) None es items rest =
    let empty : mid.events ≡ [] = none_fewer mid.events (items ∙ rest) in
    nothing left (sym (ap (λ (s : PlainStreams). s.events) e) ∙ empty) (rw (sym items) e)

pub told_out : (old new : PlainStreams) (o : Option StreamEvent) → IsPolled old new o → KeepsOut old new
told_out old new _ (writable id front rest open_now blocked_is shut on e) = rw e (out_kept (later_same old (record old { blocked = rest }) refl refl refl) (λ _ _ out. out))
told_out old new _ (queued told es left events_are e) = rw e (out_kept (later_same old (record old { blocked = still_blocked old; events = es }) refl refl refl) (λ _ _ out. out))
told_out old new _ (nothing left none e) = rw e (out_kept (later_same old (record old { blocked = still_blocked old }) refl refl refl) (λ _ _ out. out))
