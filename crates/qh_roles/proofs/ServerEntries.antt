-- What a server records, and with which response a stream goes on.
use Rattle.std.proofs.Common.{◌≡◌, ℕ, List, [], ◌∷◌, ◌++◌, Result, IfOk, inl, inr, refl, sym, subst, append-nil}
use Rattle.qh_base.specs.declared.memory.Memory.{Memory as OutOfMemory}
use Rattle.qh_roles.specs.Handling.{CameOn, IsAnswering, IsServed}
use Rattle.qh_roles.specs.Server.{GrewByAnswers}
use Rattle.qh_roles.specs.Streams.{Outgoing}
use Rattle.qh_roles.specs.declared.server.HandlerState.{HandlerState}
use Rattle.qh_roles.specs.declared.server.HandlerState.TheVariants.{Responding}
use Rattle.qh_spec.specs.Message.{PlainMessage, PlainHead, Request, Response, IsRequest, IsResponse}
use Rattle.qh_spec.specs.Record.{PlainEntry}
use Rattle.qh_spec.specs.Service.{IsAnswerHead}
use Rattle.qh_spec.specs.Spelling.{Spells}

pub is_response : (head : PlainHead) → IsAnswerHead head → IsResponse head
is_response (Request method target) is = is
is_response (Response status) is = tt

-- the request that the bytes spell was recorded
pub recorded : (stream : ℕ) (bytes : List ℕ) (request response : PlainMessage) (result : Result HandlerState OutOfMemory) (before after : List PlainEntry)
    → IsRequest request.head → Spells bytes request → after ≡ before ++ record { stream = stream; request = request; response = response } ∷ []
    → IfOk result (IsAnswering (record { stream = stream; request = request; response = response } ∷ []) stream) → IsServed stream bytes result before after
recorded stream bytes request response result before after is spells longer state = record {
  fresh = record { stream = stream; request = request; response = response } ∷ [];
  longer = longer;
  each = λ e among. elim among [
    | inl same ↦ subst (CameOn stream bytes) same (record { stream_is = refl; is_request = is; spells = spells })
    | inr none ↦ absurd none
  ];
  once = ((λ h. h), tt);
  state = state;
}

-- its response waits whole
pub answering : (stream : ℕ) (bytes : List ℕ) (request response : PlainMessage) (o : Outgoing) → IsAnswerHead response.head → Spells bytes response
    → o ≡ record { stream = stream; bytes = bytes; taken = 0 } → IsAnswering (record { stream = stream; request = request; response = response } ∷ []) stream (Responding o)
answering stream bytes request response o lawful spells is =
    subst (λ (x : Outgoing). IsAnswering (record { stream = stream; request = request; response = response } ∷ []) stream (Responding x)) (sym is) (
      refl,
      refl,
      record {
        entry = record { stream = stream; request = request; response = response };
        among = inl refl;
        stream_is = refl;
        is_response = is_response response.head lawful;
        spells = spells;
      },
    )

-- nothing was recorded
pub none_recorded : (stream : ℕ) (bytes : List ℕ) (result : Result HandlerState OutOfMemory) (before : List PlainEntry) → IfOk result (IsAnswering [] stream) → IsServed stream bytes result before before
none_recorded stream bytes result before state = record {
  fresh = [];
  longer = sym (append-nil before);
  each = λ e among. absurd among;
  once = tt;
  state = state;
}

pub none_answered : (Answer : PlainMessage → PlainMessage → Type 0) (before : List PlainEntry) → GrewByAnswers Answer before before
none_answered Answer before = record { fresh = []; longer = sym (append-nil before); each = λ e among. absurd among }
