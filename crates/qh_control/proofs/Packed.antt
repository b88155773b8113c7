-- Queued payloads in DATAGRAM frames.
use Rattle.std.proofs.Common.{◌≡◌, ℕ, zero, suc, ◌+◌, ◌≤◌, List, [], ◌∷◌, ◌++◌, length, IfSome, map, take, Option, Some, None, sym, ap, subst, ◌∙◌, add-one, arith}
use Rattle.std.specs.List.{AllByRecursion, slice_get}
use Rattle.std.proofs.lemmas.List.Sums.{sum_by_push}
use Rattle.qh_control.specs.Control.{IsTakenBy}
use Rattle.qh_core.specs.Control.{MaySend}
use Rattle.qh_datagrams.specs.Datagrams.{bytes_of}
use Rattle.qh_spec.specs.declared.sides.Side.{Side}
use Rattle.qh_core.specs.declared.control.ControlFrame.{ControlFrame}
use Rattle.qh_core.specs.declared.control.ControlFrame.TheVariants as sending

abbrev pub packed : List (List ℕ) → List ControlFrame
packed = map (λ (payload : List ℕ). sending.Datagram payload)

by_suc : (payloads : List (List ℕ)) (i : ℕ) (payload : List ℕ) → slice_get payloads i ≡ Some payload → packed (take (suc i) payloads) ≡ packed (take i payloads) ++ sending.Datagram payload ∷ []
by_suc [] i payload found = cc
by_suc (first ∷ payloads) zero payload found = let same : first ≡ payload = cc in ap (λ (p : List ℕ). sending.Datagram p ∷ []) same
by_suc (first ∷ payloads) (suc i) payload found = ap (λ (rest : List ControlFrame). sending.Datagram first ∷ rest) (by_suc payloads i payload found)

-- one more payload
pub packed_more : (payloads : List (List ℕ)) (i : ℕ) (payload : List ℕ) → slice_get payloads i ≡ Some payload → packed (take (i + 1) payloads) ≡ packed (take i payloads) ++ sending.Datagram payload ∷ []
packed_more payloads i payload found = rw (add-one) (by_suc payloads i payload found)

taken_by_suc : (payloads : List (List ℕ)) (i : ℕ) (payload : List ℕ) → slice_get payloads i ≡ Some payload → take (suc i) payloads ≡ take i payloads ++ payload ∷ []
taken_by_suc [] i payload found = cc
taken_by_suc (first ∷ payloads) zero payload found = let same : first ≡ payload = cc in ap (λ (p : List ℕ). p ∷ []) same
taken_by_suc (first ∷ payloads) (suc i) payload found = ap (λ (rest : List (List ℕ)). first ∷ rest) (taken_by_suc payloads i payload found)

-- it has so many bytes more
pub bytes_more : (payloads : List (List ℕ)) (i : ℕ) (payload : List ℕ) → slice_get payloads i ≡ Some payload → bytes_of (take (i + 1) payloads) ≡ bytes_of (take i payloads) + length payload
bytes_more payloads i payload found =
    rw (add-one) (ap (λ (l : List (List ℕ)). bytes_of l) (taken_by_suc payloads i payload found) ∙ sum_by_push (λ (p : List ℕ). length p) (take i payloads) payload)

-- they may be sent, if the payloads have no more than the peer takes
short : (peer : Option ℕ) (payload : List ℕ) → IfSome peer (λ most. most ≤ 1140) → IsTakenBy peer payload → length payload ≤ 1140
short None payload bounded taken = absurd taken
short (Some most) payload bounded taken = omega (arith, bounded, taken)

packed_sendable : (side : Side) (peer : Option ℕ) (count : ℕ) (payloads : List (List ℕ)) → IfSome peer (λ most. most ≤ 1140) → AllByRecursion (IsTakenBy peer) payloads → AllByRecursion (MaySend side peer) (packed (take count payloads))
packed_sendable side peer zero [] bounded all = tt
packed_sendable side peer zero (payload ∷ payloads) bounded all = tt
packed_sendable side peer (suc count) [] bounded all = tt
packed_sendable side peer (suc count) (payload ∷ payloads) bounded all = ((all.0, short peer payload bounded all.0), packed_sendable side peer count payloads bounded all.1)

pub sendable_packed : (side : Side) (peer : Option ℕ) (count : ℕ) (payloads : List (List ℕ)) (frames : List ControlFrame) → frames ≡ packed (take count payloads) → IfSome peer (λ most. most ≤ 1140) → AllByRecursion (IsTakenBy peer) payloads
    → AllByRecursion (MaySend side peer) frames
sendable_packed side peer count payloads frames same bounded all = subst (AllByRecursion (MaySend side peer)) (sym same) (packed_sendable side peer count payloads bounded all)
