-- What runs carry that were sent, and what they carried that came.
use Rattle.std.proofs.Common.{◌≡◌, ℕ, ◌+◌, ◌-◌, ◌≤◌, true, List, length, slice_get, Some, sym, ap, ◌∙◌, arith}
use Rattle.qh_spec.specs.declared.sides.Side.{Side}
use Rattle.qh_spec.specs.Carried.{HasRun, Carries, CarriesEnd}
use Rattle.qh_spec.specs.Lists.{In}
use Rattle.qh_spec.specs.QuicFrame.{StreamFrame}
use Rattle.qh_spec.specs.Lawful.{Lawful}
use Rattle.qh_spec.specs.Link.{other}
use Rattle.qh_spec.specs.Transcript.{Act, handed_in, handed_out, written, finished, read}
use Rattle.qh_streams.specs.Streams.{PlainStreams}
use Rattle.qh_transcript.specs.Receiving.{HasCome, HasEndCome, StandsIn}
use Rattle.qh_transcript.specs.Sending.{IsRunOf, StandsOut}

byte_sent : (t : List Act) (run : StreamFrame) (stream offset byte : ℕ) → IsRunOf (written t run.id) (finished t run.id) run → run.id ≡ stream → run.offset ≤ offset
    → slice_get run.payload (offset - run.offset) ≡ Some byte → slice_get (written t stream) offset ≡ Some byte
byte_sent t run stream offset byte is same from has =
    let at : offset ≡ run.offset + (offset - run.offset) = omega (arith, from) in
    ap (λ (id : ℕ). slice_get (written t id) offset) (sym same) ∙ ap (λ (n : ℕ). slice_get (written t run.id) n) at ∙ is.byte (offset - run.offset) byte has

end_sent : (t : List Act) (run : StreamFrame) (stream end : ℕ) → IsRunOf (written t run.id) (finished t run.id) run → run.id ≡ stream → run.fin ≡ true
    → end ≡ run.offset + length run.payload → (finished t stream ≡ true) × (end ≡ length (written t stream))
end_sent t run stream end is same fin end_is =
    let ends = is.end fin in
    (ap (λ (id : ℕ). finished t id) (sym same) ∙ ends.0, end_is ∙ ends.1 ∙ ap (λ (id : ℕ). length (written t id)) same)

byte_carried : (id_length : ℕ) (datagrams : List (List ℕ)) (side : Side) (came : List StreamFrame) (stream offset byte : ℕ)
    → ((run : StreamFrame) → In run came → HasRun id_length datagrams side run) → HasCome came stream offset byte → Carries id_length datagrams side stream offset byte
byte_carried id_length datagrams side came stream offset byte carried h =
    record { run = h.run; has = carried h.run h.is; stream_is = h.stream_is; from = h.from; byte_is = h.byte_is }

end_carried : (id_length : ℕ) (datagrams : List (List ℕ)) (side : Side) (came : List StreamFrame) (stream end : ℕ)
    → ((run : StreamFrame) → In run came → HasRun id_length datagrams side run) → HasEndCome came stream end → CarriesEnd id_length datagrams side stream end
end_carried id_length datagrams side came stream end carried h =
    record { run = h.run; has = carried h.run h.is; stream_is = h.stream_is; fin = h.fin; end_is = h.end_is }

-- ---- an end whose streams stand so to all that it handed out and to what was handed to it

pub lawful : (s : PlainStreams) (side : Side) (own_length peer_length : ℕ) (sent came : List StreamFrame) (t : List Act)
    → ((run : StreamFrame) → HasRun peer_length (handed_out t) side run → In run sent) → ((run : StreamFrame) → In run came → HasRun own_length (handed_in t) (other side) run)
    → StandsOut s sent t → StandsIn s came t → Lawful side own_length peer_length t
lawful s side own_length peer_length sent came t all_sent all_came out into = record {
  sent_byte = λ stream offset byte carried. byte_sent t carried.run stream offset byte (out.runs carried.run (all_sent carried.run carried.has)) carried.stream_is carried.from carried.byte_is;
  sent_end = λ stream end carried. end_sent t carried.run stream end (out.runs carried.run (all_sent carried.run carried.has)) carried.stream_is carried.fin carried.end_is;
  read_byte = λ stream offset bytes k byte among is. byte_carried own_length (handed_in t) (other side) came stream _ byte all_came (into.pieces stream (offset, bytes) among k byte is);
  read_end = λ stream told. end_carried own_length (handed_in t) (other side) came stream (length (read t stream)) all_came (into.end stream told);
}
