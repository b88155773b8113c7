-- The frames that are written are frames.
use Rattle.std.proofs.Common.{◌≡◌, ℕ, ◌^◌, ◌<◌, List, [], ◌∷◌, ◌++◌, length, inl, inr, refl, sym, ap, ◌∙◌, arith, subst, append_assoc, length-append}
use Rattle.std.specs.Prelude.{MatchBool}
use Rattle.std.proofs.lemmas.Bool.{cases_Bool}
use Rattle.std.proofs.lemmas.Bool.Decides.{eqb_tells}
use Rattle.qh_spec.specs.HttpFrame.{HttpFrame, IsHttpFrame, http_frame}
use Rattle.qh_spec.specs.QuicFrame.{StreamFrame, IsStreamFrame, stream_frame, has_bit}
use Rattle.qh_spec.specs.Varint.{IsVarint, varint, one}
use Rattle.qh_spec.specs.WireRows.{hi_run}
use Rattle.qh_spec.proofs.Cuts.{varints_agree}
use Rattle.qh_spec.proofs.Varints.{varint_spelled}

-- a frame of HTTP/3
pub http_written : (f : HttpFrame) → f.kind < 2 ^ 62 → length f.payload < 2 ^ 62 → IsHttpFrame (http_frame f) f
http_written f kind short = record {
  kind_bytes = varint f.kind;
  length_bytes = varint (length f.payload);
  whole = refl;
  kind_is = varint_spelled f.kind kind;
  length_is = varint_spelled (length f.payload) short;
}

-- three parts and a rest
four_parts : (a b c d rest : List ℕ) → (a ++ (b ++ (c ++ d))) ++ rest ≡ a ++ (b ++ (c ++ (d ++ rest)))
four_parts a b c d rest =
    append_assoc a (b ++ (c ++ d)) rest ∙ ap (λ (z : List ℕ). a ++ z) (append_assoc b (c ++ d) rest ∙ ap (λ (z : List ℕ). b ++ z) (append_assoc c d rest))

-- a STREAM frame
pub stream_written : (f : StreamFrame) (rest : List ℕ) → f.id < 2 ^ 62 → f.offset < 2 ^ 62 → length f.payload < 2 ^ 62 → IsStreamFrame (stream_frame f ++ rest) f rest
stream_written f rest id_fits offset_fits payload_fits =
    let id : List ℕ = varint f.id in
    let offset : List ℕ = varint f.offset in
    let count : List ℕ = varint (length f.payload) in
    let id_is = varint_spelled f.id id_fits in
    let offset_is = varint_spelled f.offset offset_fits in
    let length_is = varint_spelled (length f.payload) payload_fits in
    elim (eqb_tells f.offset 0) [
      | inl none ↦
          let t = none.0 in
          elim (cases_Bool f.fin) [
            | inl u ↦ rw (t, u) (record {
              kind = 11;
              kind_bytes = 11 ∷ [];
              id_bytes = id;
              offset_bytes = [];
              length_bytes = count;
              whole = ap (λ (z : List ℕ). 11 ∷ z) (four_parts id [] count f.payload rest);
              kind_is = one (omega arith) refl;
              is_stream = refl;
              id_is = id_is;
              offset_is = (refl, none.1);
              length_is = length_is;
              fin_is = refl;
            })
            | inr u ↦ rw (t, u) (record {
              kind = 10;
              kind_bytes = 10 ∷ [];
              id_bytes = id;
              offset_bytes = [];
              length_bytes = count;
              whole = ap (λ (z : List ℕ). 10 ∷ z) (four_parts id [] count f.payload rest);
              kind_is = one (omega arith) refl;
              is_stream = refl;
              id_is = id_is;
              offset_is = (refl, none.1);
              length_is = length_is;
              fin_is = refl;
            })
          ]
      | inr there ↦
          let t = there.0 in
          elim (cases_Bool f.fin) [
            | inl u ↦ rw (t, u) (record {
              kind = 15;
              kind_bytes = 15 ∷ [];
              id_bytes = id;
              offset_bytes = offset;
              length_bytes = count;
              whole = ap (λ (z : List ℕ). 15 ∷ z) (four_parts id offset count f.payload rest);
              kind_is = one (omega arith) refl;
              is_stream = refl;
              id_is = id_is;
              offset_is = offset_is;
              length_is = length_is;
              fin_is = refl;
            })
            | inr u ↦ rw (t, u) (record {
              kind = 14;
              kind_bytes = 14 ∷ [];
              id_bytes = id;
              offset_bytes = offset;
              length_bytes = count;
              whole = ap (λ (z : List ℕ). 14 ∷ z) (four_parts id offset count f.payload rest);
              kind_is = one (omega arith) refl;
              is_stream = refl;
              id_is = id_is;
              offset_is = offset_is;
              length_is = length_is;
              fin_is = refl;
            })
          ]
    ]

-- a worked STREAM frame
pub hi_is : IsStreamFrame (15 ∷ 4 ∷ 3 ∷ 2 ∷ 104 ∷ 105 ∷ []) hi_run []
hi_is = record {
  kind = 15;
  kind_bytes = 15 ∷ [];
  id_bytes = 4 ∷ [];
  offset_bytes = 3 ∷ [];
  length_bytes = 2 ∷ [];
  whole = refl;
  kind_is = one (omega arith) refl;
  is_stream = refl;
  id_is = one (omega arith) refl;
  offset_is = one (omega arith) refl;
  length_is = one (omega arith) refl;
  fin_is = refl;
}

-- one that is cut
pub cut_stream_none : (s : StreamFrame) (rest : List ℕ) → IsStreamFrame (15 ∷ 4 ∷ 3 ∷ 3 ∷ 104 ∷ 105 ∷ []) s rest → ⊥
cut_stream_none s rest q =
    let kinds = varints_agree (15 ∷ []) (4 ∷ 3 ∷ 3 ∷ 104 ∷ 105 ∷ []) q.kind_bytes (q.id_bytes ++ (q.offset_bytes ++ (q.length_bytes ++ (s.payload ++ rest)))) 15 q.kind
    (one (omega arith) refl) q.kind_is q.whole in
    let offset_is : IsVarint q.offset_bytes s.offset
    = subst (λ (z : ℕ). MatchBool (has_bit 4 z) (IsVarint q.offset_bytes s.offset) ((q.offset_bytes ≡ []) × (s.offset ≡ 0))) (sym kinds.0) q.offset_is in
    let length_is : IsVarint q.length_bytes (length s.payload)
    = subst (λ (z : ℕ). MatchBool (has_bit 2 z) (IsVarint q.length_bytes (length s.payload)) ((q.length_bytes ≡ []) × (rest ≡ []))) (sym kinds.0) q.length_is in
    let ids = varints_agree (4 ∷ []) (3 ∷ 3 ∷ 104 ∷ 105 ∷ []) q.id_bytes (q.offset_bytes ++ (q.length_bytes ++ (s.payload ++ rest))) 4 s.id (one (omega arith) refl) q.id_is kinds.1 in
    let offsets = varints_agree (3 ∷ []) (3 ∷ 104 ∷ 105 ∷ []) q.offset_bytes (q.length_bytes ++ (s.payload ++ rest)) 3 s.offset (one (omega arith) refl) offset_is ids.1 in
    let counts = varints_agree (3 ∷ []) (104 ∷ 105 ∷ []) q.length_bytes (s.payload ++ rest) 3 (length s.payload) (one (omega arith) refl) length_is offsets.1 in
    let said : 3 ≡ length s.payload = counts.0 in
    let two : 2 ≡ length (s.payload ++ rest) = ap length counts.1 in
    absurd (omega (arith, said, two, length-append s.payload rest))
