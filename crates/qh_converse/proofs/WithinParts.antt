-- What the part of the 1-RTT packets tells of the whole: a datagram that keeps within the limits by the part keeps within them by the whole.
use Rattle.std.proofs.Common.{◌≡◌, inl, inr, ℕ, List, [], ◌∷◌, ◌++◌, refl, sym, subst}
use Rattle.qh_converse.proofs.ShakeLaws.{is_handed_out, out_kept, out_last}
use Rattle.qh_converse.specs.Converses.{IsDataPart}
use Rattle.qh_core.specs.Follows.{HasFrame, IsWithinLimits, Reaches}
use Rattle.qh_core.specs.Follows.Reaches.{run as by_run, reset as by_reset}
use Rattle.qh_core.specs.declared.config.ConnConfig.{ConnConfig}
use Rattle.qh_spec.proofs.Members.{in_left, in_right, in_split}
use Rattle.qh_spec.proofs.PartLaws.{alone_has_none, ends_has, out_more, part_finished, part_in, part_out, part_read, part_written}
use Rattle.qh_spec.specs.Datagram.{Packet, HasPacket}
use Rattle.qh_spec.specs.Link.{other}
use Rattle.qh_spec.specs.Lists.{In}
use Rattle.qh_spec.specs.Parted.{IsPartOf}
use Rattle.qh_spec.specs.Parted.IsPartOf.{none, same, rest, unheard, initial}
use Rattle.qh_spec.specs.QuicFrames.{QuicFrame}
use Rattle.qh_spec.specs.Transcript.{Act, HandedIn, HandedOut, handed_in, handed_out, out_of}
use Rattle.qh_spec.specs.declared.sides.Side.{Side}
use Rattle.qh_spec.specs.declared.sides.Space.TheVariants.{Data}

came_in : (k : ℕ) (u t : List Act) (s : Side) (f : QuicFrame) → IsPartOf u t → HasFrame k (handed_in u) s f → HasFrame k (handed_in t) s f
came_in k u t s f p h =
    let e = part_in u t p h.datagram h.among in
    record {
      datagram = e.datagram;
      among = e.among;
      packet = h.packet;
      has = ends_has k h.packet h.datagram e.datagram e.ends h.has;
      space_is = h.space_is;
      sender_is = h.sender_is;
      frame_among = h.frame_among;
    }

-- a 1-RTT packet that was handed out was handed out by the part
went_out : (k : ℕ) (u t : List Act) (d x : List ℕ) (p : Packet) → IsPartOf u t → HasPacket k p x → p.space ≡ Data → In x (handed_out t ++ d ∷ []) → In x (handed_out u ++ d ∷ [])
went_out k u t d x p part has space i = elim (in_split x (handed_out t) (d ∷ []) i) [
  | inl h ↦ elim (part_out u t part x h) [ inl y ↦ in_left x (handed_out u) (d ∷ []) y | inr a ↦ absurd (alone_has_none k p x a has space) ]
  | inr h ↦ in_right x (handed_out u) (d ∷ []) h
]

reaches_out : (k : ℕ) (u t : List Act) (d : List ℕ) (s : Side) (id end : ℕ) → IsPartOf u t → Reaches k (handed_out t ++ d ∷ []) s id end → Reaches k (handed_out u ++ d ∷ []) s id end
reaches_out k u t d s _ _ part (by_run r h some) = by_run r (record {
  datagram = h.datagram;
  among = went_out k u t d h.datagram h.packet part h.has h.space_is h.among;
  packet = h.packet;
  has = h.has;
  space_is = h.space_is;
  sender_is = h.sender_is;
  frame = h.frame;
  frame_among = h.frame_among;
  is = h.is;
}) some
reaches_out k u t d s _ _ part (by_reset id code size h) = by_reset id code size (record {
  datagram = h.datagram;
  among = went_out k u t d h.datagram h.packet part h.has h.space_is h.among;
  packet = h.packet;
  has = h.has;
  space_is = h.space_is;
  sender_is = h.sender_is;
  frame_among = h.frame_among;
})

pub within_whole : (own peer : ℕ) (side : Side) (config : ConnConfig) (u t : List Act) (d : List ℕ) → IsPartOf u t → IsWithinLimits own peer side config u d → IsWithinLimits own peer side config t d
within_whole own peer side config u t d p w = record {
  streams = w.streams;
  of = w.of;
  given = w.given;
  came = λ f i. let h = w.came f i in record { frame = h.frame; is = h.is; has = came_in own u t (other side) _ p h.has };
  all_bytes = λ ends distinct reach. w.all_bytes ends distinct (λ e i. reaches_out peer u t d side e.0 e.1 p (reach e i));
  stream_bytes = w.stream_bytes;
  count = w.count;
}

-- ---- what the part tells of the whole

part_went : (u t : List Act) → IsPartOf u t → (d : List ℕ) → In d (handed_out u) → In d (handed_out t)
part_went u t none d i = absurd i
part_went u t (same part whole a quiet p) d i =
    elim (out_more d part a (out_of a) refl i) [
      | inl h ↦ out_kept d whole a (part_went part whole p d h)
      | inr h ↦ subst (λ (z : Act). In d (handed_out (whole ++ z ∷ []))) (sym (is_handed_out a d h)) (out_last d whole d (inl refl))
    ]
part_went u t (rest part whole tail g ends short p) d i =
    elim (out_more d part (HandedIn tail) [] refl i) [ inl h ↦ out_kept d whole (HandedIn g) (part_went part whole p d h) | inr h ↦ absurd h ]
part_went u t (unheard part whole g p) d i = out_kept d whole (HandedIn g) (part_went part whole p d i)
part_went u t (initial part whole g alone p) d i = out_kept d whole (HandedOut g) (part_went part whole p d i)

pub data_part : (u t : List Act) → IsPartOf u t → IsDataPart u t
data_part u t p = record {
  is_part = p;
  came = λ tail i. let e = part_in u t p tail i in record { datagram = e.datagram; among = e.among; ends = e.ends };
  went = part_went u t p;
  all_went = part_out u t p;
  written_is = part_written u t p;
  finished_is = part_finished u t p;
  read_is = part_read u t p;
}
