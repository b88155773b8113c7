-- What a call on a stream changes of a connection: its streams alone, and none is opened or accepted.
use Rattle.std.proofs.Common.{◌≡◌, ℕ, ◌==◌, Bool, true, false, ◌&&◌, not, Option, Result, Ok, Err, IfOk, IfErr, refl, sym, ap, ◌∙◌, subst, inl, inr}
use Rattle.std.proofs.lemmas.Bool.{cases_Bool}
use Rattle.qh_buffers.specs.declared.assembler.Chunk.{Chunk}
use Rattle.qh_core.specs.Inner.{HaveSameCounts, with_streams}
use Rattle.qh_core.specs.Streams.{IsRead, IsReadFault, IsWriteRefused}
use Rattle.qh_core.specs.Streams.IsWriteRefused.{closed, wanting, refused}
use Rattle.qh_core.specs.declared.fault.TakeFault.{TakeFault}
use Rattle.qh_core.specs.declared.fault.TakeFault.TheVariants.{Readable, Read}
use Rattle.qh_core.specs.declared.inner.Inner.{Inner}
use Rattle.qh_half.specs.declared.fault.ReadFault.{ReadFault}
use Rattle.qh_half.specs.declared.fault.WriteFault.{WriteFault}
use Rattle.qh_half.specs.declared.fault.WriteFault.TheVariants as fault
use Rattle.qh_halves.specs.Counts.{is_own, is_bi}
use Rattle.qh_halves.specs.SendHalves.{write_limit}
use Rattle.qh_roles.specs.Streams.{IsStirred}
use Rattle.qh_streams.specs.Streams.{PlainStreams, counts_of, with_counts, counted_closed, is_live, with_blocked}

pub counts_same : (s : PlainStreams) → HaveSameCounts s s
counts_same s = record { bi_opened = refl; bi_accepted = refl; uni_opened = refl; uni_accepted = refl }

pub counts_after : (old mid new : PlainStreams) → HaveSameCounts old mid → HaveSameCounts mid new → HaveSameCounts old new
counts_after old mid new first second = record {
  bi_opened = second.bi_opened ∙ first.bi_opened;
  bi_accepted = second.bi_accepted ∙ first.bi_accepted;
  uni_opened = second.uni_opened ∙ first.uni_opened;
  uni_accepted = second.uni_accepted ∙ first.uni_accepted;
}

counts_blocked : (s : PlainStreams) (id : ℕ) (e : WriteFault) → HaveSameCounts s (with_blocked s id e)
counts_blocked s id fault.Blocked = elim (cases_Bool (write_limit s.send == 0)) [
  | inl none ↦ rw none (record { bi_opened = refl; bi_accepted = refl; uni_opened = refl; uni_accepted = refl })
  | inr some ↦ rw some (counts_same s)
]
counts_blocked s id fault.ClosedStream = counts_same s
counts_blocked s id (fault.Stopped code) = counts_same s
counts_blocked s id fault.Memory = counts_same s

counts_closed_more : (s : PlainStreams) (two_way : Bool) (n : ℕ) → HaveSameCounts s (with_counts s two_way (record (counts_of s two_way) { closed = n }))
counts_closed_more s true n = record { bi_opened = refl; bi_accepted = refl; uni_opened = refl; uni_accepted = refl }
counts_closed_more s false n = record { bi_opened = refl; bi_accepted = refl; uni_opened = refl; uni_accepted = refl }

counts_closed : (s : PlainStreams) (id : ℕ) (was_live : Bool) → HaveSameCounts s (counted_closed s id was_live)
counts_closed s id was_live = elim (cases_Bool (not (is_own s.side id) && (was_live && not (is_live s id)))) [
  | inl gone ↦ rw gone (counts_closed_more s (is_bi id) _)
  | inr there ↦ rw there (counts_same s)
]

counts_read : (max id : ℕ) (ordered : Bool) (answer : Result (Option Chunk) ReadFault) (old new : PlainStreams) → IsRead max ordered id answer old new → HaveSameCounts old new
counts_read max id ordered answer old new r =
    let begun : HaveSameCounts old r.mid = subst (λ (s : PlainStreams). HaveSameCounts old s) (sym r.mid_is) (record { bi_opened = refl; bi_accepted = refl; uni_opened = refl; uni_accepted = refl }) in
    let given : HaveSameCounts r.mid (record r.mid { recv = new.recv }) = record { bi_opened = refl; bi_accepted = refl; uni_opened = refl; uni_accepted = refl } in
    let last : HaveSameCounts (record r.mid { recv = new.recv }) new =
    subst (λ (s : PlainStreams). HaveSameCounts (record r.mid { recv = new.recv }) s) (sym r.new_is) (counts_closed (record r.mid { recv = new.recv }) id (is_live r.mid id)) in
    counts_after old r.mid new begun (counts_after r.mid (record r.mid { recv = new.recv }) new given last)

module _ {S : Type 0} where
  pub stirred_same : (c : Inner S) → IsStirred c c
  stirred_same c = record { rest_is = refl; counts = counts_same c.space.streams }

  pub stirred_to : (old new : Inner S) → new ≡ old → IsStirred old new
  stirred_to old new same = subst (λ (c : Inner S). IsStirred old c) (sym same) (stirred_same old)

  -- one call behind another
  pub stirred_after : (old mid new : Inner S) → IsStirred old mid → IsStirred mid new → IsStirred old new
  stirred_after old mid new first second = record {
    rest_is = second.rest_is ∙ ap (λ (c : Inner S). with_streams c new.space.streams) first.rest_is;
    counts = counts_after old.space.streams mid.space.streams new.space.streams first.counts second.counts;
  }

  pub stirred_by : (old new : Inner S) (s : PlainStreams) → new ≡ with_streams old s → HaveSameCounts old.space.streams s → IsStirred old new
  stirred_by old new s is counts = subst (λ (c : Inner S). IsStirred old c) (sym is) (record { rest_is = refl; counts = counts })

  -- a step of the sending halves alone
  pub stirred_send : (old new : Inner S) → new ≡ with_streams old (record old.space.streams { send = new.space.streams.send }) → IsStirred old new
  stirred_send old new is = stirred_by old new (record old.space.streams { send = new.space.streams.send }) is (record { bi_opened = refl; bi_accepted = refl; uni_opened = refl; uni_accepted = refl })

  pub stirred_refused : (old new : Inner S) (id : ℕ) (e : WriteFault) → IsWriteRefused id e old new → IsStirred old new
  stirred_refused old new id e (closed is blocked same) = stirred_to old new same
  stirred_refused old new id e (wanting is may memory same) = stirred_to old new same
  stirred_refused old new id e (refused is_open why is) = stirred_by old new (with_blocked old.space.streams id e) is (counts_blocked old.space.streams id e)

  pub stirred_read : (old new : Inner S) (max id : ℕ) (ordered : Bool) (r : Result (Option Chunk) TakeFault) → IfOk r (λ o. IsRead max ordered id (Ok o) old.space.streams new.space.streams)
      → IfErr r (λ e. IsReadFault max ordered id e old.space.streams new.space.streams) → new ≡ with_streams old new.space.streams → IsStirred old new
  stirred_read old new max id ordered (Ok o) ok err is = record { rest_is = is; counts = counts_read max id ordered (Ok o) old.space.streams new.space.streams ok }
  stirred_read old new max id ordered (Err (Read e)) ok err is = record { rest_is = is; counts = counts_read max id ordered (Err e) old.space.streams new.space.streams err }
  stirred_read old new max id ordered (Err (Readable e)) ok err is = record {
    rest_is = is;
    counts = subst (λ (s : PlainStreams). HaveSameCounts old.space.streams s) (sym err.1) (counts_same old.space.streams);
  }
