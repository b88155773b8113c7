-- Steps of gathering what datagrams carry.
use Rattle.std.proofs.Common.{◌≡◌, inl, inr, ℕ, ◌+◌, ◌-◌, ◌<◌, ◌≤◌, zero, suc, Bool, true, false, ◌==◌, ◌&&◌, List, [], ◌∷◌, ◌++◌, length, Option, Some, None, refl, sym, ap, ◌∙◌, arith, subst, append_assoc, take, get_or}
use Rattle.std.proofs.lemmas.List.{length-take-le, take_more}
use Rattle.std.specs.Prelude.{slice_get}
use Rattle.std.specs.List.{flat_map}
use Rattle.std.proofs.lemmas.Bool.{cases_Bool, eqb-true, eq-eqb}
use Rattle.qh_spec.specs.declared.sides.Side.{Side}
use Rattle.qh_spec.specs.declared.sides.Side.TheVariants.{Client, Server}
use Rattle.qh_spec.specs.declared.sides.Space.{Space}
use Rattle.qh_spec.specs.declared.sides.Space.TheVariants.{Initial, Data}
use Rattle.qh_spec.specs.Carried.{HasRun, Carries, CarriesEnd}
use Rattle.qh_spec.specs.Datagram.{Packet, HasPacket}
use Rattle.qh_spec.specs.FrameViews.{stream_of}
use Rattle.qh_spec.specs.Lists.{In}
use Rattle.qh_spec.specs.QuicFrame.{StreamFrame}
use Rattle.qh_spec.specs.QuicFrames.{QuicFrame}
use Rattle.qh_spec.proofs.Members.{in_left, in_right, in_split, in_last, in_more}
use Rattle.qh_plain.specs.Carried.{listed, runs_in, is_data, same_side, from_sender, runs_of, placed, bytes_in, ends_in}

-- what a gathered list has comes from an element
from_flat : {X Y : Type 0} (f : X → List Y) (y : Y) (xs : List X) → In y (flat_map f xs) → (x : X) × In x xs × In y (f x)
from_flat f y [] h = absurd h
from_flat f y (x ∷ xs) h =
    elim (in_split y (f x) (flat_map f xs) h) [
      | inl a ↦ (x, inl refl, a)
      | inr b ↦ let r = from_flat f y xs b in (r.0, inr r.1, r.2)
    ]

in_flat : {X Y : Type 0} (f : X → List Y) (y : Y) (x : X) (xs : List X) → In x xs → In y (f x) → In y (flat_map f xs)
in_flat f y x [] i h = absurd i
in_flat f y x (z ∷ xs) (inl e) h = in_left y (f z) (flat_map f xs) (subst (λ (w : _). In y (f w)) (sym e) h)
in_flat f y x (z ∷ xs) (inr i) h = in_right y (f z) (flat_map f xs) (in_flat f y x xs i h)

from_listed : {X : Type 0} (x : X) (r : Option X) → In x (listed r) → r ≡ Some x
from_listed x None h = absurd h
from_listed x (Some y) (inl e) = ap Some e
from_listed x (Some y) (inr h) = absurd h

in_listed : {X : Type 0} (x : X) (r : Option X) → r ≡ Some x → In x (listed r)
in_listed x None e = cc
in_listed x (Some y) e = inl cc

-- bytes at their offsets
from_placed : (o : ℕ) (bytes : List ℕ) (x b : ℕ) → In (x, b) (placed o bytes) → (o ≤ x) × (slice_get bytes (x - o) ≡ Some b)
from_placed o [] x b h = absurd h
from_placed o (c ∷ bytes) x b (inl e) =
    let place : o ≡ x = ap (λ (z : ℕ × ℕ). z.0) e in
    let same : c ≡ b = ap (λ (z : ℕ × ℕ). z.1) e in
    let none : x - o ≡ 0 = omega arith in
    (omega arith, ap (slice_get (c ∷ bytes)) none ∙ ap Some same)
from_placed o (c ∷ bytes) x b (inr h) =
    let r = from_placed (o + 1) bytes x b h in
    let low = r.0 in
    let next : x - o ≡ suc (x - (o + 1)) = omega arith in
    (omega arith, ap (slice_get (c ∷ bytes)) next ∙ r.1)

in_placed : (k o : ℕ) (bytes : List ℕ) (b : ℕ) → slice_get bytes k ≡ Some b → In (o + k, b) (placed o bytes)
in_placed k o [] b e = cc
in_placed zero o (c ∷ bytes) b e =
    let same : c ≡ b = cc in
    let place : o ≡ o + 0 = omega arith in
    inl (ap (λ (z : ℕ). (z, c)) place ∙ ap (λ (z : ℕ). (o + 0, z)) same)
in_placed (suc k) o (c ∷ bytes) b e =
    let place : o + 1 + k ≡ o + suc k = omega arith in
    inr (subst (λ (z : ℕ). In (z, b) (placed (o + 1) bytes)) place (in_placed k (o + 1) bytes b e))

pub placed_more : (o : ℕ) (bytes : List ℕ) (b : ℕ) → placed o (bytes ++ b ∷ []) ≡ placed o bytes ++ (o + length bytes, b) ∷ []
placed_more o [] b = let place : o ≡ o + 0 = omega arith in ap (λ (z : ℕ). (z, b) ∷ []) place
placed_more o (c ∷ bytes) b =
    let place : o + 1 + length bytes ≡ o + length (c ∷ bytes) = omega arith in
    ap (λ (z : List (ℕ × ℕ)). (o, c) ∷ z) (placed_more (o + 1) bytes b ∙ ap (λ (z : ℕ). placed (o + 1) bytes ++ (z, b) ∷ []) place)

-- a 1-RTT packet of the side
tells : (x : Space) (t s : Side) → (is_data x && same_side t s) ≡ true → (x ≡ Data) × (t ≡ s)
tells Initial t s e = cc
tells Data Client Client e = (refl, refl)
tells Data Server Server e = (refl, refl)
tells Data Client Server e = cc
tells Data Server Client e = cc

told : (s : Side) → (is_data Data && same_side s s) ≡ true
told Client = refl
told Server = refl

from_packet : (side : Side) (p : Packet) (s : StreamFrame) → In s (runs_of side p) → (p.space ≡ Data) × (p.sender ≡ side) × (f : QuicFrame) × In f p.frames × (stream_of f ≡ Some s)
from_packet side p s h =
    elim (cases_Bool (from_sender side p)) [
      | inl t ↦
          let is = tells p.space p.sender side t in
          let there = rw t at h in
          let r = from_flat runs_in s p.frames there in
          (is.0, is.1, r.0, r.1, from_listed s (stream_of r.0) r.2)
      | inr t ↦ let there = rw t at h in absurd there
    ]

in_packet : (side : Side) (p : Packet) (s : StreamFrame) (f : QuicFrame) → p.space ≡ Data → p.sender ≡ side → In f p.frames → stream_of f ≡ Some s → In s (runs_of side p)
in_packet side p s f e g i is =
    let t : from_sender side p ≡ true = ap (λ (z : Space). is_data z && same_side p.sender side) e ∙ ap (λ (z : Side). is_data Data && same_side z side) g ∙ told side in
    rw t (in_flat runs_in s f p.frames i (in_listed s (stream_of f) is))

-- these runs are those of the datagrams
pub record RunsRead (k : ℕ) (datagrams : List (List ℕ)) (side : Side) (runs : List StreamFrame) : Type 0 where
  pub found : (s : StreamFrame) → In s runs → HasRun k datagrams side s
  pub there : (s : StreamFrame) → HasRun k datagrams side s → In s runs

run_of_packet : (k : ℕ) (ds : List (List ℕ)) (d : List ℕ) (side : Side) (s : StreamFrame) (p : Packet) → In d ds → HasPacket k p d → In s (runs_of side p) → HasRun k ds side s
run_of_packet k ds d side s p i h m =
    let r = from_packet side p s m in
    record { datagram = d; among = i; packet = p; has = h; space_is = r.0; sender_is = r.1; frame = r.2; frame_among = r.3; is = r.4 }

run_more : (k : ℕ) (ds : List (List ℕ)) (d : List ℕ) (side : Side) (s : StreamFrame) → HasRun k ds side s → HasRun k (ds ++ d ∷ []) side s
run_more k ds d side s h = record {
  datagram = h.datagram;
  among = in_left h.datagram ds (d ∷ []) h.among;
  packet = h.packet;
  has = h.has;
  space_is = h.space_is;
  sender_is = h.sender_is;
  frame = h.frame;
  frame_among = h.frame_among;
  is = h.is;
}

pub one_datagram_more : (k : ℕ) (ds : List (List ℕ)) (d : List ℕ) (side : Side) (runs : List StreamFrame) (ps : List Packet) → ((p : Packet) → In p ps → HasPacket k p d)
    → ((p : Packet) → HasPacket k p d → In p ps) → RunsRead k ds side runs → RunsRead k (ds ++ d ∷ []) side (runs ++ flat_map (runs_of side) ps)
one_datagram_more k ds d side runs ps found all r = record {
  found = λ s m. elim (in_split s runs (flat_map (runs_of side) ps) m) [
    | inl a ↦ run_more k ds d side s (r.found s a)
    | inr b ↦ let p = from_flat (runs_of side) s ps b in run_of_packet k (ds ++ d ∷ []) d side s p.0 (in_last d ds) (found p.0 p.1) p.2
  ];
  there = λ s h. elim (in_more h.datagram d ds h.among) [
    | inl a ↦ in_left s runs (flat_map (runs_of side) ps) (
        r.there s (
        record { datagram = h.datagram; among = a; packet = h.packet; has = h.has; space_is = h.space_is; sender_is = h.sender_is; frame = h.frame; frame_among = h.frame_among; is = h.is }
        )
        )
    | inr e ↦ in_right s runs (flat_map (runs_of side) ps) (
        in_flat (runs_of side) s h.packet ps (all h.packet (subst (λ (z : List ℕ). HasPacket k h.packet z) (sym e) h.has))
        (in_packet side h.packet s h.frame h.space_is h.sender_is h.frame_among h.is)
        )
  ];
}

-- what the runs carry
run_byte : (stream o b : ℕ) (s : StreamFrame) → In (o, b) (bytes_in stream s) → (s.id ≡ stream) × (s.offset ≤ o) × (slice_get s.payload (o - s.offset) ≡ Some b)
run_byte stream o b s h =
    elim (cases_Bool (s.id == stream)) [
      | inl t ↦ let there = rw t at h in let r = from_placed s.offset s.payload o b there in (eqb-true s.id stream t, r.0, r.1)
      | inr t ↦ let there = rw t at h in absurd there
    ]

byte_run : (stream o b : ℕ) (s : StreamFrame) → s.id ≡ stream → s.offset ≤ o → slice_get s.payload (o - s.offset) ≡ Some b → In (o, b) (bytes_in stream s)
byte_run stream o b s e low is =
    let t : (s.id == stream) ≡ true = eq-eqb s.id stream e in
    let place : s.offset + (o - s.offset) ≡ o = omega arith in
    rw t (subst (λ (z : ℕ). In (z, b) (placed s.offset s.payload)) place (in_placed (o - s.offset) s.offset s.payload b is))

pub bytes_found : (k : ℕ) (ds : List (List ℕ)) (side : Side) (stream : ℕ) (runs : List StreamFrame) → ((s : StreamFrame) → In s runs → HasRun k ds side s)
    → (o b : ℕ) → In (o, b) (flat_map (bytes_in stream) runs) → Carries k ds side stream o b
bytes_found k ds side stream runs found o b h =
    let r = from_flat (bytes_in stream) (o, b) runs h in
    let is = run_byte stream o b r.0 r.2 in
    record { run = r.0; has = found r.0 r.1; stream_is = is.0; from = is.1; byte_is = is.2 }

pub bytes_there : (k : ℕ) (ds : List (List ℕ)) (side : Side) (stream : ℕ) (runs : List StreamFrame) → ((s : StreamFrame) → HasRun k ds side s → In s runs)
    → (o b : ℕ) → Carries k ds side stream o b → In (o, b) (flat_map (bytes_in stream) runs)
bytes_there k ds side stream runs all o b h = in_flat (bytes_in stream) (o, b) h.run runs (all h.run h.has) (byte_run stream o b h.run h.stream_is h.from h.byte_is)

both_true : (a b : Bool) → (a && b) ≡ true → (a ≡ true) × (b ≡ true)
both_true true true e = (refl, refl)
both_true true false e = cc
both_true false b e = cc

run_end : (stream n : ℕ) (s : StreamFrame) → In n (ends_in stream s) → (s.id ≡ stream) × (s.fin ≡ true) × (n ≡ s.offset + length s.payload)
run_end stream n s h =
    elim (cases_Bool ((s.id == stream) && s.fin)) [
      | inl t ↦
          let both = both_true (s.id == stream) s.fin t in
          let there = rw t at h in
          (eqb-true s.id stream both.0, both.1, elim there [ inl e ↦ sym e | inr none ↦ absurd none ])
      | inr t ↦ let there = rw t at h in absurd there
    ]

end_run : (stream n : ℕ) (s : StreamFrame) → s.id ≡ stream → s.fin ≡ true → n ≡ s.offset + length s.payload → In n (ends_in stream s)
end_run stream n s e f is =
    let t : (s.id == stream) ≡ true = eq-eqb s.id stream e in
    rw (t, f) (inl (sym is))

pub ends_found : (k : ℕ) (ds : List (List ℕ)) (side : Side) (stream : ℕ) (runs : List StreamFrame) → ((s : StreamFrame) → In s runs → HasRun k ds side s)
    → (n : ℕ) → In n (flat_map (ends_in stream) runs) → CarriesEnd k ds side stream n
ends_found k ds side stream runs found n h =
    let r = from_flat (ends_in stream) n runs h in
    let is = run_end stream n r.0 r.2 in
    record { run = r.0; has = found r.0 r.1; stream_is = is.0; fin = is.1; end_is = is.2 }

pub ends_there : (k : ℕ) (ds : List (List ℕ)) (side : Side) (stream : ℕ) (runs : List StreamFrame) → ((s : StreamFrame) → HasRun k ds side s → In s runs)
    → (n : ℕ) → CarriesEnd k ds side stream n → In n (flat_map (ends_in stream) runs)
ends_there k ds side stream runs all n h = in_flat (ends_in stream) n h.run runs (all h.run h.has) (end_run stream n h.run h.stream_is h.fin h.end_is)

-- steps of the loops
pub placed_step : (o i at : ℕ) (all : List ℕ) (old before : List (ℕ × ℕ)) → i < length all → before ≡ old ++ placed o (take i all) → at ≡ o + i
    → before ++ (at, get_or all i 0) ∷ [] ≡ old ++ placed o (take (i + 1) all)
placed_step o i at all old before h e a =
    let len : length (take i all) ≡ i = length-take-le i all (omega arith) in
    let place : at ≡ o + length (take i all) = omega arith in
    ap (λ (z : List (ℕ × ℕ)). z ++ (at, get_or all i 0) ∷ []) e ∙ append_assoc old (placed o (take i all)) ((at, get_or all i 0) ∷ [])
    ∙ ap (λ (z : ℕ). old ++ (placed o (take i all) ++ (z, get_or all i 0) ∷ [])) place ∙ ap (λ (z : List (ℕ × ℕ)). old ++ z) (sym (placed_more o (take i all) (get_or all i 0)))
    ∙ ap (λ (z : List ℕ). old ++ placed o z) (sym (take_more all i 0 h))

pub datagram_step : (k : ℕ) (side : Side) (ds : List (List ℕ)) (i : ℕ) (d e : List ℕ) (runs : List StreamFrame) (ps qs : List Packet) → i < length ds → d ≡ get_or ds i d → e ≡ d → qs ≡ ps
    → ((p : Packet) → In p ps → HasPacket k p e) → ((p : Packet) → HasPacket k p e → In p ps) → RunsRead k (take i ds) side runs
    → RunsRead k (take (i + 1) ds) side (runs ++ flat_map (runs_of side) qs)
datagram_step k side ds i d e runs ps qs h is same listed_same found all r =
    let found' : (p : Packet) → In p qs → HasPacket k p d = λ p m. subst (λ (z : List ℕ). HasPacket k p z) same (found p (subst (λ (z : List Packet). In p z) listed_same m)) in
    let all' : (p : Packet) → HasPacket k p d → In p qs = λ p m. subst (λ (z : List Packet). In p z) (sym listed_same) (all p (subst (λ (z : List ℕ). HasPacket k p z) (sym same) m)) in
    let more : take i ds ++ d ∷ [] ≡ take (i + 1) ds = ap (λ (z : List ℕ). take i ds ++ z ∷ []) is ∙ sym (take_more ds i d h) in
    subst (λ (z : List (List ℕ)). RunsRead k z side (runs ++ flat_map (runs_of side) qs)) more (one_datagram_more k (take i ds) d side runs qs found' all' r)
