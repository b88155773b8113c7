-- What is done behind a transcript leaves what it tells of the streams that it doesn't speak of.
use Rattle.std.proofs.Common.{◌≡◌, ℕ, ◌+◌, ◌==◌, Bool, true, false, List, [], ◌∷◌, ◌++◌, length, Result, Ok, Err, refl, sym, ap, ◌∙◌, subst, arith, append-nil, length-append}
use Rattle.std.specs.Prelude.{◌||◌}
use Rattle.std.proofs.lemmas.Bool.{ne_eqb}
use Rattle.qh_base.specs.declared.memory.Memory.{Memory as OutOfMemory}
use Rattle.qh_roles.specs.Streams.{Outgoing, Incoming, IsUntouched, IsUnread, IsFresh, AreCalls, AreOn, IsWriting, HasWritten, IsWrittenTo, IsReading, HasRead}
use Rattle.qh_roles.specs.declared.outgoing.WriteState.{WriteState}
use Rattle.qh_roles.specs.declared.outgoing.WriteState.TheVariants as writing
use Rattle.qh_spec.proofs.TranscriptLaws.{handed_in-append, handed_out-append, written-append, finished-append, pieces_read-append, ended-append}
use Rattle.qh_spec.specs.Lawful.{AreInOrder}
use Rattle.qh_spec.specs.Transcript.{Act, Wrote, Finished, Reset, Stopped, ReadBytes, ReadEnd, ReadReset, if_same_stream, handed_in, handed_out, written, finished, pieces_read, joined, read, ended}

or_false : (a b : Bool) → b ≡ false → (a || b) ≡ a
or_false true b e = refl
or_false false b e = e

-- ---- what acts leave that don't touch a stream

pub same_written : (t u : List Act) (k : ℕ) → written u k ≡ [] → written (t ++ u) k ≡ written t k
same_written t u k none = written-append t u k ∙ ap (λ (z : List ℕ). written t k ++ z) none ∙ append-nil (written t k)

pub same_finished : (t u : List Act) (k : ℕ) → finished u k ≡ false → finished (t ++ u) k ≡ finished t k
same_finished t u k none = finished-append t u k ∙ or_false (finished t k) (finished u k) none

pub same_pieces : (t u : List Act) (k : ℕ) → pieces_read u k ≡ [] → pieces_read (t ++ u) k ≡ pieces_read t k
same_pieces t u k none = pieces_read-append t u k ∙ ap (λ (z : List (ℕ × List ℕ)). pieces_read t k ++ z) none ∙ append-nil (pieces_read t k)

pub same_read : (t u : List Act) (k : ℕ) → pieces_read u k ≡ [] → read (t ++ u) k ≡ read t k
same_read t u k none = ap joined (same_pieces t u k none)

pub same_ended : (t u : List Act) (k : ℕ) → ended u k ≡ false → ended (t ++ u) k ≡ ended t k
same_ended t u k none = ended-append t u k ∙ or_false (ended t k) (ended u k) none

pub same_handed_in : (t u : List Act) → AreCalls u → handed_in (t ++ u) ≡ handed_in t
same_handed_in t u calls = handed_in-append t u ∙ ap (λ (z : List (List ℕ)). handed_in t ++ z) calls.0 ∙ append-nil (handed_in t)

pub same_handed_out : (t u : List Act) → AreCalls u → handed_out (t ++ u) ≡ handed_out t
same_handed_out t u calls = handed_out-append t u ∙ ap (λ (z : List (List ℕ)). handed_out t ++ z) calls.1 ∙ append-nil (handed_out t)

-- ---- one list of acts behind another

pub untouched_append : (t u : List Act) (k : ℕ) → IsUntouched t k → IsUntouched u k → IsUntouched (t ++ u) k
untouched_append t u k first second = (same_written t u k second.0 ∙ first.0, same_finished t u k second.1 ∙ first.1)

pub unread_append : (t u : List Act) (k : ℕ) → IsUnread t k → IsUnread u k → IsUnread (t ++ u) k
unread_append t u k first second = (same_pieces t u k second.0 ∙ first.0, same_ended t u k second.1 ∙ first.1)

pub fresh_append : (t u : List Act) (k : ℕ) → IsFresh t k → IsFresh u k → IsFresh (t ++ u) k
fresh_append t u k first second = (untouched_append t u k first.0 second.0, unread_append t u k first.1 second.1)

pub calls_append : (t u : List Act) → AreCalls t → AreCalls u → AreCalls (t ++ u)
calls_append t u first second = (same_handed_in t u second ∙ first.0, same_handed_out t u second ∙ first.1)

pub on_append : (stream : ℕ) (t u : List Act) → AreOn stream t → AreOn stream u → AreOn stream (t ++ u)
on_append stream t u first second = record {
  calls = calls_append t u first.calls second.calls;
  others = λ k apart. fresh_append t u k (first.others k apart) (second.others k apart);
}

-- ---- no act

pub none_untouched : (k : ℕ) → IsUntouched [] k
none_untouched k = (refl, refl)

pub none_unread : (k : ℕ) → IsUnread [] k
none_unread k = (refl, refl)

pub none_fresh : (k : ℕ) → IsFresh [] k
none_fresh k = (none_untouched k, none_unread k)

pub none_calls : AreCalls []
none_calls = (refl, refl)

pub none_on : (stream : ℕ) → AreOn stream []
none_on stream = record { calls = none_calls; others = λ k apart. none_fresh k }

-- ---- how far a message is, behind acts that don't touch its stream

pub writing_kept : (t u : List Act) (o : Outgoing) → IsUntouched u o.stream → IsWriting t o → IsWriting (t ++ u) o
writing_kept t u o untouched is = record {
  written_is = same_written t u o.stream untouched.0 ∙ is.written_is;
  unfinished = same_finished t u o.stream untouched.1 ∙ is.unfinished;
}

pub written_kept : (t u : List Act) (o : Outgoing) → IsUntouched u o.stream → HasWritten t o → HasWritten (t ++ u) o
written_kept t u o untouched is = record {
  written_is = same_written t u o.stream untouched.0 ∙ is.written_is;
  is_finished = same_finished t u o.stream untouched.1 ∙ is.is_finished;
}

pub written_to_kept : (result : Result WriteState OutOfMemory) (t u : List Act) (o : Outgoing) → IsUntouched u o.stream → IsWrittenTo result t o → IsWrittenTo result (t ++ u) o
written_to_kept (Ok writing.Finished) t u o untouched is = written_kept t u o untouched is
written_to_kept (Ok writing.Blocked) t u o untouched is = writing_kept t u o untouched is
written_to_kept (Ok writing.Refused) t u o untouched is = writing_kept t u o untouched is
written_to_kept (Err e) t u o untouched is = writing_kept t u o untouched is

pub reading_kept : (t u : List Act) (i : Incoming) → IsUnread u i.stream → IsReading t i → IsReading (t ++ u) i
reading_kept t u i unread is = record {
  in_order = subst (AreInOrder 0) (sym (same_pieces t u i.stream unread.0)) is.in_order;
  bytes_are = same_read t u i.stream unread.0 ∙ is.bytes_are;
  endless = same_ended t u i.stream unread.1 ∙ is.endless;
}

pub read_kept : (t u : List Act) (i : Incoming) → IsUnread u i.stream → HasRead t i → HasRead (t ++ u) i
read_kept t u i unread is = record {
  in_order = subst (AreInOrder 0) (sym (same_pieces t u i.stream unread.0)) is.in_order;
  bytes_are = same_read t u i.stream unread.0 ∙ is.bytes_are;
  to_the_end = same_ended t u i.stream unread.1 ∙ is.to_the_end;
}

-- ---- a message before its first byte

pub fresh_writing : (t : List Act) (stream : ℕ) (bytes : List ℕ) → IsUntouched t stream → IsWriting t (record { stream = stream; bytes = bytes; taken = 0 })
fresh_writing t stream bytes untouched = record { written_is = untouched.0; unfinished = untouched.1 }

pub fresh_reading : (t : List Act) (stream : ℕ) → IsUnread t stream → IsReading t (record { stream = stream; bytes = [] })
fresh_reading t stream unread = record {
  in_order = subst (AreInOrder 0) (sym unread.0) tt;
  bytes_are = ap joined unread.0;
  endless = unread.1;
}

-- ---- one act

apart_from : {X : Type 0} (stream k : ℕ) (x y : X) → (k ≡ stream → ⊥) → if_same_stream k stream x y ≡ y
apart_from stream k x y apart = rw (ne_eqb stream k (λ e. apart (sym e))) refl

apart_test : (stream k : ℕ) → (k ≡ stream → ⊥) → (stream == k) ≡ false
apart_test stream k apart = ne_eqb stream k (λ e. apart (sym e))

pub wrote_on : (stream : ℕ) (bytes : List ℕ) → AreOn stream (Wrote stream bytes ∷ [])
wrote_on stream bytes = record {
  calls = (refl, refl);
  others = λ k apart. ((ap (λ (z : List ℕ). z ++ []) (apart_from stream k bytes [] apart), refl), (refl, refl));
}

pub finished_on : (stream : ℕ) → AreOn stream (Finished stream ∷ [])
finished_on stream = record {
  calls = (refl, refl);
  others = λ k apart. ((refl, ap (λ (b : Bool). b || false) (apart_test stream k apart)), (refl, refl));
}

pub reset_on : (stream code : ℕ) → AreOn stream (Reset stream code ∷ [])
reset_on stream code = record { calls = (refl, refl); others = λ k apart. ((refl, refl), (refl, refl)) }

pub stopped_on : (stream code : ℕ) → AreOn stream (Stopped stream code ∷ [])
stopped_on stream code = record { calls = (refl, refl); others = λ k apart. ((refl, refl), (refl, refl)) }

pub reset_told_on : (stream code : ℕ) → AreOn stream (ReadReset stream code ∷ [])
reset_told_on stream code = record { calls = (refl, refl); others = λ k apart. ((refl, refl), (refl, refl)) }

pub piece_on : (stream offset : ℕ) (bytes : List ℕ) → AreOn stream (ReadBytes stream offset bytes ∷ [])
piece_on stream offset bytes = record {
  calls = (refl, refl);
  others = λ k apart. ((refl, refl), (ap (λ (z : List (ℕ × List ℕ)). z ++ []) (apart_from stream k ((offset, bytes) ∷ []) [] apart), refl));
}

pub end_on : (stream : ℕ) → AreOn stream (ReadEnd stream ∷ [])
end_on stream = record {
  calls = (refl, refl);
  others = λ k apart. ((refl, refl), (refl, ap (λ (b : Bool). b || false) (apart_test stream k apart)));
}

-- ---- pieces in order

-- a piece behind those that stand in order
pub in_order_append : (n : ℕ) (ps : List (ℕ × List ℕ)) (at : ℕ) (bytes : List ℕ) → AreInOrder n ps → at ≡ n + length (joined ps) → AreInOrder n (ps ++ (at, bytes) ∷ [])
in_order_append n [] at bytes order here = (omega (arith, here), tt)
in_order_append n (p ∷ ps) at bytes order here =
    (order.0, in_order_append (n + length p.1) ps at bytes order.1 (let sizes = length-append p.1 (joined ps) in omega (arith, here, sizes)))
