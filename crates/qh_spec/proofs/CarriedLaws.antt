-- What several lists of datagrams carry is what one of them carries.
use Rattle.std.proofs.Common.{◌⊎◌, inl, inr, ℕ, List, ◌++◌}
use Rattle.qh_spec.specs.declared.sides.Side.{Side}
use Rattle.qh_spec.specs.Lists.{In}
use Rattle.qh_spec.specs.QuicFrame.{StreamFrame}
use Rattle.qh_spec.specs.Carried.{HasRun, Carries, CarriesEnd}
use Rattle.qh_spec.proofs.Members.{in_left, in_right, in_split}

run_more : (k : ℕ) (xs ys : List (List ℕ)) → ((d : List ℕ) → In d xs → In d ys) → (s : Side) (r : StreamFrame) → HasRun k xs s r → HasRun k ys s r
run_more k xs ys f s r q = record {
  datagram = q.datagram;
  among = f q.datagram q.among;
  packet = q.packet;
  has = q.has;
  space_is = q.space_is;
  sender_is = q.sender_is;
  frame = q.frame;
  frame_among = q.frame_among;
  is = q.is;
}

-- more datagrams carry more
pub carries_more : (k : ℕ) (xs ys : List (List ℕ)) → ((d : List ℕ) → In d xs → In d ys) → (s : Side) (stream o b : ℕ) → Carries k xs s stream o b → Carries k ys s stream o b
carries_more k xs ys f s stream o b q = record { run = q.run; has = run_more k xs ys f s q.run q.has; stream_is = q.stream_is; from = q.from; byte_is = q.byte_is }

pub carries_end_more : (k : ℕ) (xs ys : List (List ℕ)) → ((d : List ℕ) → In d xs → In d ys) → (s : Side) (stream n : ℕ) → CarriesEnd k xs s stream n → CarriesEnd k ys s stream n
carries_end_more k xs ys f s stream n q = record { run = q.run; has = run_more k xs ys f s q.run q.has; stream_is = q.stream_is; fin = q.fin; end_is = q.end_is }

run_split : (k : ℕ) (xs ys : List (List ℕ)) (s : Side) (r : StreamFrame) → HasRun k (xs ++ ys) s r → HasRun k xs s r ⊎ HasRun k ys s r
run_split k xs ys s r q =
    elim (in_split q.datagram xs ys q.among) [
      | inl a ↦ inl (record { datagram = q.datagram; among = a; packet = q.packet; has = q.has; space_is = q.space_is; sender_is = q.sender_is; frame = q.frame; frame_among = q.frame_among; is = q.is })
      | inr b ↦ inr (record { datagram = q.datagram; among = b; packet = q.packet; has = q.has; space_is = q.space_is; sender_is = q.sender_is; frame = q.frame; frame_among = q.frame_among; is = q.is })
    ]

pub carries_split : (k : ℕ) (xs ys : List (List ℕ)) (s : Side) (stream o b : ℕ) → Carries k (xs ++ ys) s stream o b → Carries k xs s stream o b ⊎ Carries k ys s stream o b
carries_split k xs ys s stream o b q =
    elim (run_split k xs ys s q.run q.has) [
      | inl h ↦ inl (record { run = q.run; has = h; stream_is = q.stream_is; from = q.from; byte_is = q.byte_is })
      | inr h ↦ inr (record { run = q.run; has = h; stream_is = q.stream_is; from = q.from; byte_is = q.byte_is })
    ]

pub carries_left : (k : ℕ) (xs ys : List (List ℕ)) (s : Side) (stream o b : ℕ) → Carries k xs s stream o b → Carries k (xs ++ ys) s stream o b
carries_left k xs ys s stream o b q = carries_more k xs (xs ++ ys) (λ d i. in_left d xs ys i) s stream o b q

pub carries_right : (k : ℕ) (xs ys : List (List ℕ)) (s : Side) (stream o b : ℕ) → Carries k ys s stream o b → Carries k (xs ++ ys) s stream o b
carries_right k xs ys s stream o b q = carries_more k ys (xs ++ ys) (λ d i. in_right d xs ys i) s stream o b q

pub carries_end_split : (k : ℕ) (xs ys : List (List ℕ)) (s : Side) (stream n : ℕ) → CarriesEnd k (xs ++ ys) s stream n → CarriesEnd k xs s stream n ⊎ CarriesEnd k ys s stream n
carries_end_split k xs ys s stream n q =
    elim (run_split k xs ys s q.run q.has) [
      | inl h ↦ inl (record { run = q.run; has = h; stream_is = q.stream_is; fin = q.fin; end_is = q.end_is })
      | inr h ↦ inr (record { run = q.run; has = h; stream_is = q.stream_is; fin = q.fin; end_is = q.end_is })
    ]

pub carries_end_left : (k : ℕ) (xs ys : List (List ℕ)) (s : Side) (stream n : ℕ) → CarriesEnd k xs s stream n → CarriesEnd k (xs ++ ys) s stream n
carries_end_left k xs ys s stream n q = carries_end_more k xs (xs ++ ys) (λ d i. in_left d xs ys i) s stream n q

pub carries_end_right : (k : ℕ) (xs ys : List (List ℕ)) (s : Side) (stream n : ℕ) → CarriesEnd k ys s stream n → CarriesEnd k (xs ++ ys) s stream n
carries_end_right k xs ys s stream n q = carries_end_more k ys (xs ++ ys) (λ d i. in_right d xs ys i) s stream n q
