-- The parts of frames that are in order.
use Rattle.std.proofs.Common.{◌≡◌, ℕ, ◌==◌, true, List, [], ◌∷◌, ◌++◌, map, refl, sym, ap, ◌∙◌, inl, inr, Option, Some, None, subst}
use Rattle.std.specs.List.{concat}
use Rattle.std.proofs.lemmas.Bool.{cases_Bool, eqb-true}
use Rattle.qh_spec.specs.HttpFrame.{HttpFrame, AreHttpFrames, data_frame, headers_frame}
use Rattle.qh_spec.specs.Spelling.{known_frames, trailer_frames}
use Rattle.qh_spec.proofs.HttpFrameLaws.{frames_are_one}
use Rattle.qh_plain.specs.Frames.{Parts, AreInOrder, AreParts, data_payloads, after_data, last_at, parts_at}
use Rattle.qh_plain.proofs.SectionTakes.{bind_some}

frame_of : (f : HttpFrame) (n : ℕ) → (f.kind == n) ≡ true → f ≡ record { kind = n; payload = f.payload }
frame_of f n t = ap (λ (z : ℕ). record { kind = z; payload = f.payload }) (eqb-true f.kind n t)

-- the DATA frames in front, and what follows them
data_split : (fs : List HttpFrame) → fs ≡ map data_frame (data_payloads fs) ++ after_data fs
data_split [] = refl
data_split (f ∷ fs) =
    elim (cases_Bool (f.kind == 0)) [
      | inl t ↦ let later = data_split fs in let first : f ≡ data_frame f.payload = frame_of f 0 t in rw t (let e : f ∷ fs ≡ data_frame f.payload ∷ (map data_frame (data_payloads fs) ++ after_data fs) = cc in e)
      | inr t ↦ rw t refl
    ]

data_again : (payloads : List (List ℕ)) (last : Option (List ℕ)) → data_payloads (map data_frame payloads ++ trailer_frames last) ≡ payloads
data_again [] None = refl
data_again [] (Some s) = refl
data_again (p ∷ payloads) last = ap (λ (z : List (List ℕ)). p ∷ z) (data_again payloads last)

after_again : (payloads : List (List ℕ)) (last : Option (List ℕ)) → after_data (map data_frame payloads ++ trailer_frames last) ≡ trailer_frames last
after_again [] None = refl
after_again [] (Some s) = refl
after_again (p ∷ payloads) last = after_again payloads last

last_again : (last : Option (List ℕ)) → last_at (trailer_frames last) ≡ Some last
last_again None = refl
last_again (Some s) = refl

last_takes : (fs : List HttpFrame) (last : Option (List ℕ)) → last_at fs ≡ Some last → fs ≡ trailer_frames last
last_takes [] last h = let e : None ≡ last = cc in ap trailer_frames e
last_takes (f ∷ []) last h =
    elim (cases_Bool (f.kind == 1)) [
      | inl t ↦ let e = rw t at h in let same : Some f.payload ≡ last = cc in ap (λ (z : HttpFrame). z ∷ []) (frame_of f 1 t) ∙ ap trailer_frames same
      | inr t ↦ let e = rw t at h in cc
    ]
last_takes (f ∷ g ∷ fs) last h = cc

headers_step : (f : HttpFrame) (fs : List HttpFrame) (last : Option (List ℕ)) → (f.kind == 1) ≡ true → last_at (after_data fs) ≡ Some last
    → parts_at (f ∷ fs) ≡ Some (record { section = f.payload; body = concat (data_payloads fs); last = last })
headers_step f fs last t e = rw (t, e) refl

parts_is : (section body : List ℕ) (last : Option (List ℕ)) (parts : Parts) → section ≡ parts.section → body ≡ parts.body → last ≡ parts.last → record { section = section; body = body; last = last } ≡ parts
parts_is section body last parts a b c = let e : ◌≡◌ {A = Parts} (record { section = section; body = body; last = last }) (record { section = parts.section; body = parts.body; last = parts.last }) = rw (a, b, c) refl in e

-- what is in order is read
pub order_again : (fs : List HttpFrame) (parts : Parts) → AreInOrder fs parts → parts_at fs ≡ Some parts
order_again fs parts p =
    let rest : List HttpFrame = map data_frame p.payloads ++ trailer_frames parts.last in
    let last : last_at (after_data rest) ≡ Some parts.last = ap last_at (after_again p.payloads parts.last) ∙ last_again parts.last in
    let step : parts_at (headers_frame parts.section ∷ rest) ≡ Some (record { section = parts.section; body = concat (data_payloads rest); last = parts.last }) =
    headers_step (headers_frame parts.section) rest parts.last refl last in
    let body : concat (data_payloads rest) ≡ parts.body = ap concat (data_again p.payloads parts.last) ∙ sym p.body in
    ap parts_at p.order ∙ step ∙ ap Some (parts_is parts.section (concat (data_payloads rest)) parts.last parts refl body refl)

-- what is read is in order
pub order_takes : (fs : List HttpFrame) (parts : Parts) → parts_at fs ≡ Some parts → AreInOrder fs parts
order_takes [] parts h = cc
order_takes (f ∷ fs) parts h =
    elim (cases_Bool (f.kind == 1)) [
      | inl t ↦
          let e = rw t at h in
          let step = bind_some (last_at (after_data fs)) _ parts e in
          let same : ◌≡◌ {A = Parts} (record { section = f.payload; body = concat (data_payloads fs); last = step.0 }) parts = cc in
          let rest : fs ≡ map data_frame (data_payloads fs) ++ trailer_frames step.0 =
          data_split fs ∙ ap (λ (z : List HttpFrame). map data_frame (data_payloads fs) ++ z) (last_takes (after_data fs) step.0 step.1) in
          subst (AreInOrder (f ∷ fs)) same
          (record {
            payloads = data_payloads fs;
            order = let first : f ≡ headers_frame f.payload = frame_of f 1 t in ap (λ (z : HttpFrame). z ∷ fs) first ∙ ap (λ (z : List HttpFrame). headers_frame f.payload ∷ z) rest;
            body = refl;
          })
      | inr t ↦ let e = rw t at h in cc
    ]

-- the bytes' frames tell their parts
pub parts_found : (bytes : List ℕ) (frames : List HttpFrame) (parts : Parts) → AreHttpFrames bytes frames → parts_at (known_frames frames) ≡ Some parts → AreParts bytes parts
parts_found bytes frames parts f h =
    let o = order_takes (known_frames frames) parts h in
    record { frames = frames; payloads = o.payloads; framed = f; order = o.order; body = o.body }

-- the frames of the bytes that have parts tell them
parts_again : (bytes : List ℕ) (frames : List HttpFrame) (parts : Parts) → AreHttpFrames bytes frames → AreParts bytes parts → parts_at (known_frames frames) ≡ Some parts
parts_again bytes frames parts f p =
    let same : frames ≡ p.frames = frames_are_one bytes frames p.frames f p.framed in
    ap (λ (z : List HttpFrame). parts_at (known_frames z)) same
    ∙ order_again (known_frames p.frames) parts (record { payloads = p.payloads; order = p.order; body = p.body })

pub no_parts : (bytes : List ℕ) (frames : List HttpFrame) (parts : Parts) → AreHttpFrames bytes frames → parts_at (known_frames frames) ≡ None → AreParts bytes parts → ⊥
no_parts bytes frames parts f h p = let both : ◌≡◌ {A = Option Parts} None (Some parts) = sym h ∙ parts_again bytes frames parts f p in cc

-- the bytes have one message's parts
pub parts_are_one : (bytes : List ℕ) (parts others : Parts) → AreParts bytes parts → AreParts bytes others → parts ≡ others
parts_are_one bytes parts others p q =
    let both : ◌≡◌ {A = Option Parts} (Some parts) (Some others) = sym (parts_again bytes p.frames parts p.framed p) ∙ parts_again bytes p.frames others p.framed q in
    cc
