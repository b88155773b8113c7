-- What a worked datagram carries, and what it doesn't.
use Rattle.std.proofs.Common.{◌≡◌, inl, inr, ℕ, List, [], ◌∷◌, ◌+◌, ◌-◌, length, Option, Some, None, refl, sym, ap, ◌∙◌, arith, subst}
use Rattle.qh_spec.specs.declared.sides.Side.{Side}
use Rattle.qh_spec.specs.declared.sides.Side.TheVariants.{Client, Server}
use Rattle.qh_spec.specs.declared.sides.Space.TheVariants.{Data}
use Rattle.std.specs.Prelude.{slice_get}
use Rattle.qh_spec.specs.Carried.{HasRun, Carries, CarriesEnd}
use Rattle.qh_spec.specs.Datagram.{Packet, IsOneRttPacket, HasPacket, one_rtt}
use Rattle.qh_spec.specs.FrameViews.{stream_of}
use Rattle.qh_spec.specs.Lists.{In}
use Rattle.qh_spec.specs.QuicFrame.{StreamFrame}
use Rattle.qh_spec.specs.QuicFrames.{Number, Counted, shape_of, AreQuicFrames}
use Rattle.qh_spec.specs.Varint.{one}
use Rattle.qh_spec.specs.WireRows.{carrying_hi, hi_run, hi_frame}
use Rattle.qh_spec.proofs.PacketLaws.{one_packet}
use Rattle.qh_spec.proofs.PacketRows.{client_tag, client_tagged}

fin_shape : shape_of 15 ≡ Some (Number ∷ Number ∷ Counted ∷ [])
unfolding shape_of
fin_shape = refl

hi_frames : AreQuicFrames (15 ∷ 4 ∷ 3 ∷ 2 ∷ 104 ∷ 105 ∷ []) (hi_frame ∷ [])
hi_frames = (
  [],
  record {
    fields = 4 ∷ 3 ∷ 2 ∷ 104 ∷ 105 ∷ [];
    shape = Number ∷ Number ∷ Counted ∷ [];
    kind = (15 ∷ [], refl, one (omega arith) refl);
    shaped = fin_shape;
    values = (
      3 ∷ 2 ∷ 104 ∷ 105 ∷ [],
      (4 ∷ [], refl, one (omega arith) refl),
      (
        2 ∷ 104 ∷ 105 ∷ [],
        (3 ∷ [], refl, one (omega arith) refl),
        ([], (104 ∷ 105 ∷ [], (2 ∷ [], refl, one (omega arith) refl), refl), refl),
      ),
    );
  },
  refl,
)

abbrev hi_packet : Packet
hi_packet = record { space = Data; sender = Client; number = 1000; frames = hi_frame ∷ [] }

hi_whole : IsOneRttPacket 8 carrying_hi hi_packet
unfolding client_tag
hi_whole = record {
  short = record { destination = 80 ∷ 0 ∷ 0 ∷ 0 ∷ 0 ∷ 0 ∷ 0 ∷ 0 ∷ []; number = 0 ∷ 0 ∷ 3 ∷ 232 ∷ []; frames = 15 ∷ 4 ∷ 3 ∷ 2 ∷ 104 ∷ 105 ∷ []; tag = client_tag };
  fits = record { destination = refl; some_number = omega arith; short_number = omega arith; tag = refl };
  whole = refl;
  content = record { space_is = refl; tagged = client_tagged; low = refl; frames = hi_frames };
}

hi_has : HasPacket 8 hi_packet carrying_hi
hi_has = one_rtt carrying_hi hi_whole

hi_there : HasRun 8 (carrying_hi ∷ []) Client hi_run
hi_there = record {
  datagram = carrying_hi;
  among = inl refl;
  packet = hi_packet;
  has = hi_has;
  space_is = refl;
  sender_is = refl;
  frame = hi_frame;
  frame_among = inl refl;
  is = refl;
}

-- a byte and the end
pub hi_carried : Carries 8 (carrying_hi ∷ []) Client 4 4 105 × CarriesEnd 8 (carrying_hi ∷ []) Client 4 5
hi_carried = (
  record { run = hi_run; has = hi_there; stream_is = refl; from = omega arith; byte_is = refl },
  record { run = hi_run; has = hi_there; stream_is = refl; fin = refl; end_is = refl },
)

only_one : {X : Type 0} (x y : X) → In x (y ∷ []) → y ≡ x
only_one x y (inl e) = e
only_one x y (inr h) = absurd h

-- the datagram has no other packet and no other frame
hi_only : (s : Side) (run : StreamFrame) → HasRun 8 (carrying_hi ∷ []) s run → (s ≡ Client) × (hi_run ≡ run)
hi_only s run h =
    let here : carrying_hi ≡ h.datagram = only_one h.datagram carrying_hi h.among in
    let has : HasPacket 8 h.packet carrying_hi = subst (λ (z : List ℕ). HasPacket 8 h.packet z) (sym here) h.has in
    let same : h.packet ≡ hi_packet = one_packet 8 h.packet hi_packet carrying_hi (omega arith) has hi_has in
    let frame_in : In h.frame (hi_frame ∷ []) = subst (λ (z : Packet). In h.frame z.frames) same h.frame_among in
    let frame : hi_frame ≡ h.frame = only_one h.frame hi_frame frame_in in
    let run_is : ◌≡◌ {A = Option StreamFrame} (Some hi_run) (Some run) = ap stream_of frame ∙ h.is in
    let found : hi_run ≡ run = cc in
    (sym h.sender_is ∙ ap (λ (z : Packet). z.sender) same, found)

past_hi : (run : StreamFrame) (b : ℕ) → hi_run ≡ run → slice_get run.payload (5 - run.offset) ≡ Some b → ⊥
past_hi run b e h =
    let none : ◌≡◌ {A = Option ℕ} None (Some b) = ap (λ (z : StreamFrame). slice_get z.payload (5 - z.offset)) e ∙ h in
    cc

client_is_not_server : Server ≡ Client → ⊥
client_is_not_server e = cc

end_of_hi : (run : StreamFrame) (n : ℕ) → hi_run ≡ run → n ≡ run.offset + length run.payload → n ≡ 5
end_of_hi run n e h = h ∙ sym (ap (λ (z : StreamFrame). z.offset + length z.payload) e)

-- no byte behind the end, no other end, and nothing of the other sender
pub hi_not_carried : ((b : ℕ) → Carries 8 (carrying_hi ∷ []) Client 4 5 b → ⊥) × ((n : ℕ) → CarriesEnd 8 (carrying_hi ∷ []) Client 4 n → n ≡ 5)
    × ((o b : ℕ) → Carries 8 (carrying_hi ∷ []) Server 4 o b → ⊥)
hi_not_carried = (
  λ b q. past_hi q.run b (hi_only Client q.run q.has).1 q.byte_is,
  λ n q. end_of_hi q.run n (hi_only Client q.run q.has).1 q.end_is,
  λ o b q. client_is_not_server (hi_only Server q.run q.has).0,
)
