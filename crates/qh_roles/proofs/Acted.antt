-- One call of a role behind another, and messages that are whole on their streams.
use Rattle.std.proofs.Common.{ℕ, List, [], ◌++◌, drop, Result, Ok, Err, refl, sym, ap, ◌∙◌, subst, append_assoc, append-nil}
use Rattle.std.proofs.lemmas.Bool.{false≢true}
use Rattle.std.proofs.lemmas.List.{take-append-drop}
use Rattle.qh_base.specs.declared.memory.Memory.{Memory as OutOfMemory}
use Rattle.qh_core.specs.declared.inner.Inner.{Inner}
use Rattle.qh_roles.proofs.Acts.{calls_append, none_calls, same_written, same_finished, same_pieces, same_read, same_ended}
use Rattle.qh_roles.specs.Going.{WentFrom}
use Rattle.qh_roles.specs.Streams.{Outgoing, Incoming, Acted, IsUntouched, IsUnread, IsWriting, HasWritten, IsWrittenTo, HasRead}
use Rattle.qh_roles.specs.declared.outgoing.WriteState.{WriteState}
use Rattle.qh_roles.specs.declared.outgoing.WriteState.TheVariants as writing
use Rattle.qh_spec.specs.Lawful.{AreInOrder, WritesMessage, ReadsMessage}
use Rattle.qh_spec.specs.Message.{PlainMessage}
use Rattle.qh_spec.specs.Spelling.{Spells}
use Rattle.qh_spec.specs.Transcript.{Act, written}

-- ---- messages

-- a front of the message was written
pub writing_message : (t : List Act) (o : Outgoing) (m : PlainMessage) → Spells o.bytes m → IsWriting t o → WritesMessage t o.stream m
writing_message t o m spells w = record {
  bytes = o.bytes;
  spells = spells;
  rest = drop o.taken o.bytes;
  front = sym (take-append-drop o.taken o.bytes) ∙ ap (λ (z : List ℕ). z ++ drop o.taken o.bytes) (sym w.written_is);
  whole = λ e. absurd (false≢true (sym w.unfinished ∙ e));
}

-- all of it was
pub written_message : (t : List Act) (o : Outgoing) (m : PlainMessage) → Spells o.bytes m → HasWritten t o → WritesMessage t o.stream m
written_message t o m spells w = record {
  bytes = o.bytes;
  spells = spells;
  rest = [];
  front = sym w.written_is ∙ sym (append-nil (written t o.stream));
  whole = λ e. refl;
}

-- however the write ended
pub written_to_message : (result : Result WriteState OutOfMemory) (t : List Act) (o : Outgoing) (m : PlainMessage) → Spells o.bytes m → IsWrittenTo result t o → WritesMessage t o.stream m
written_to_message (Ok writing.Finished) t o m spells w = written_message t o m spells w
written_to_message (Ok writing.Blocked) t o m spells w = writing_message t o m spells w
written_to_message (Ok writing.Refused) t o m spells w = writing_message t o m spells w
written_to_message (Err e) t o m spells w = writing_message t o m spells w

pub read_message : (t : List Act) (i : Incoming) (m : PlainMessage) → Spells i.bytes m → HasRead t i → ReadsMessage t i.stream m
read_message t i m spells r = record {
  in_order = r.in_order;
  to_the_end = r.to_the_end;
  spells = subst (λ (bytes : List ℕ). Spells bytes m) (sym r.bytes_are) spells;
}

-- acts that don't touch its stream leave it
pub writes_kept : (t u : List Act) (stream : ℕ) (m : PlainMessage) → IsUntouched u stream → WritesMessage t stream m → WritesMessage (t ++ u) stream m
writes_kept t u stream m untouched w = record {
  bytes = w.bytes;
  spells = w.spells;
  rest = w.rest;
  front = w.front ∙ ap (λ (z : List ℕ). z ++ w.rest) (sym (same_written t u stream untouched.0));
  whole = λ e. w.whole (sym (same_finished t u stream untouched.1) ∙ e);
}

pub reads_kept : (t u : List Act) (stream : ℕ) (m : PlainMessage) → IsUnread u stream → ReadsMessage t stream m → ReadsMessage (t ++ u) stream m
reads_kept t u stream m unread r = record {
  in_order = subst (AreInOrder 0) (sym (same_pieces t u stream unread.0)) r.in_order;
  to_the_end = same_ended t u stream unread.1 ∙ r.to_the_end;
  spells = subst (λ (bytes : List ℕ). Spells bytes m) (sym (same_read t u stream unread.0)) r.spells;
}

-- ---- calls

module _ {S : Type 0} (start : Inner S) (before : List Act) where
  -- no call was made
  pub acted_nothing : (Holds : List Act → Type 0) (c : Inner S) (t : List Act) → WentFrom start before c t → Holds t → Acted start before Holds c t
  acted_nothing Holds c t follows holds = record {
    acts = [];
    calls = none_calls;
    follows = subst (WentFrom start before c) (sym (append-nil t)) follows;
    holds = subst Holds (sym (append-nil t)) holds;
  }

  -- calls behind calls
  pub acted_then : (Before After : List Act → Type 0) (mid new : Inner S) (t : List Act) → Acted start before Before mid t
      → ((u : List Act) → WentFrom start before mid u → Before u → Acted start before After new u) → Acted start before After new t
  acted_then Before After mid new t first next =
      let second = next (t ++ first.acts) first.follows first.holds in
      record {
        acts = first.acts ++ second.acts;
        calls = calls_append first.acts second.acts first.calls second.calls;
        follows = subst (WentFrom start before new) (append_assoc t first.acts second.acts) second.follows;
        holds = subst After (append_assoc t first.acts second.acts) second.holds;
      }

  -- what holds may be said in another way
  pub acted_weaker : (Before After : List Act → Type 0) (new : Inner S) (t : List Act) → ((u : List Act) → Before u → After u) → Acted start before Before new t → Acted start before After new t
  acted_weaker Before After new t weaker a = record { acts = a.acts; calls = a.calls; follows = a.follows; holds = weaker (t ++ a.acts) a.holds }
