-- Streams that reach no farther than was written on them reach in all no farther than all that was written, and frames of one that
-- keeps to that, and to one final size of each stream, aren't refused.
use Rattle.std.proofs.Common.{◌≡◌, ◌⊎◌, ℕ, ◌+◌, ◌-◌, ◌≤◌, ◌^◌, ◌==◌, nat_lt, Bool, true, false, ◌&&◌, ◌||◌, not, List, [], ◌∷◌, length, length-append, Option, Some, None, if◌then◌else◌, refl, sym, ap, subst, ◌∙◌, arith, inl, inr}
use Rattle.std.proofs.lemmas.Bool.{cases_Bool, le-ltb, lt-ltb, ltb-false, ltb-true}
use Rattle.std.proofs.lemmas.Bool.Decides.{eqb_tells}
use Rattle.std.proofs.lemmas.Option.{same_Some}
use Rattle.qh_conduct.proofs.ReachLists.{any_first, any_more, grow}
use Rattle.qh_conduct.specs.Fitting.{AgreeOnSizes, AreWithinWritten, IsStreamKnown, IsWithinStream, NamesKnown}
use Rattle.qh_conduct.specs.Reached.{AreApart, AreReached, EndsAt, IsAny, Reaches, end_of, sum_of}
use Rattle.qh_half.specs.Recv.{PlainRecv, contradicts, final_size, new_recv}
use Rattle.qh_half.specs.declared.recv.IngestFault.TheVariants.{FlowControl, FinalSize}
use Rattle.qh_halves.specs.Counts.{has_recv, has_send, index_of, is_bi, is_own}
use Rattle.qh_halves.specs.RecvHalves.{half_ingest_fault}
use Rattle.qh_spec.specs.Lists.{In}
use Rattle.qh_spec.specs.Transcript.{Act, HandedIn, HandedOut, Wrote, Finished, Reset, Stopped, ReadBytes, ReadEnd, ReadReset, written}
use Rattle.qh_spec.specs.declared.sides.Dir.TheVariants.{Bi, Uni}
use Rattle.qh_spec.specs.declared.sides.Side.{Side}
use Rattle.qh_streams.specs.Streams.{PlainStreams, Refusal, counts_of, id_refusal, ingest_refusal, or_refusal, recv_or_new, refusal_of, refused, size_refusal, was_opened}
use Rattle.qh_streams.specs.declared.frames.StreamFrame.{StreamFrame}
use Rattle.qh_streams.specs.declared.frames.StreamFrame.TheVariants as coming
use Rattle.qh_transcript.proofs.ReceivingLists.{none_some}
use Rattle.qh_transcript.specs.Within.{written_in_all}

-- ---- sums over streams

abbrev sum_by : (g : ℕ → ℕ) → (ends : List (ℕ × ℕ)) → ℕ
sum_by g [] = 0
sum_by g (e ∷ es) = g e.0 + sum_by g es

below : (g : ℕ → ℕ) (es : List (ℕ × ℕ)) → ((k n : ℕ) → In (k, n) es → n ≤ g k) → sum_of es ≤ sum_by g es
below g [] h = omega arith
below g (e ∷ es) h =
    let first : e.1 ≤ g e.0 = h e.0 e.1 (inl refl) in
    let rest = below g es (λ k n is. h k n (inr is)) in
    omega (arith, first, rest)

abbrev count_at : List Act → ℕ → ℕ
count_at t k = length (written t k)

wrote_here : (s : ℕ) (bytes : List ℕ) (t : List Act) (k : ℕ) → (s == k) ≡ true → count_at (Wrote s bytes ∷ t) k ≡ length bytes + count_at t k
wrote_here s bytes t k here = rw here (length-append bytes (written t k))

wrote_apart : (s : ℕ) (bytes : List ℕ) (t : List Act) (k : ℕ) → (s == k) ≡ false → count_at (Wrote s bytes ∷ t) k ≡ count_at t k
wrote_apart s bytes t k apart = rw apart refl

others_wrote : (s : ℕ) (bytes : List ℕ) (t : List Act) (es : List (ℕ × ℕ)) → ((to : ℕ) → In (s, to) es → ⊥) → sum_by (count_at (Wrote s bytes ∷ t)) es ≡ sum_by (count_at t) es
others_wrote s bytes t [] none = refl
others_wrote s bytes t (e ∷ es) none =
    let rest = others_wrote s bytes t es (λ to is. none to (inr is)) in
    elim (eqb_tells s e.0) [
      | inl here ↦ absurd (none e.1 (inl (ap (λ (k : ℕ). (k, e.1)) (sym here.1))))
      | inr apart ↦ let first = wrote_apart s bytes t e.0 apart.0 in omega (arith, first, rest)
    ]

one_wrote : (s : ℕ) (bytes : List ℕ) (t : List Act) (es : List (ℕ × ℕ)) → AreApart es → sum_by (count_at (Wrote s bytes ∷ t)) es ≤ length bytes + sum_by (count_at t) es
one_wrote s bytes t [] apart = omega arith
one_wrote s bytes t (e ∷ es) apart = elim (eqb_tells s e.0) [
  | inl here ↦
      let first = wrote_here s bytes t e.0 here.0 in
      let rest = others_wrote s bytes t es (subst (λ (k : ℕ). (to : ℕ) → In (k, to) es → ⊥) (sym here.1) apart.0) in
      omega (arith, first, rest)
  | inr away ↦
      let first = wrote_apart s bytes t e.0 away.0 in
      let rest = one_wrote s bytes t es apart.1 in
      omega (arith, first, rest)
]

none_wrote : (es : List (ℕ × ℕ)) → sum_by (count_at []) es ≡ 0
none_wrote [] = refl
none_wrote (e ∷ es) = let rest = none_wrote es in omega (arith, rest)

all_wrote : (t : List Act) (es : List (ℕ × ℕ)) → AreApart es → sum_by (count_at t) es ≤ written_in_all t
all_wrote [] es apart = let none = none_wrote es in omega (arith, none)
all_wrote (Wrote s bytes ∷ t) es apart =
    let rest = all_wrote t es apart in
    let first = one_wrote s bytes t es apart in
    omega (arith, first, rest)
all_wrote (HandedIn d ∷ t) es apart = let rest : sum_by (count_at (HandedIn d ∷ t)) es ≤ written_in_all t = all_wrote t es apart in omega (arith, rest)
all_wrote (HandedOut d ∷ t) es apart = let rest : sum_by (count_at (HandedOut d ∷ t)) es ≤ written_in_all t = all_wrote t es apart in omega (arith, rest)
all_wrote (Finished s ∷ t) es apart = let rest : sum_by (count_at (Finished s ∷ t)) es ≤ written_in_all t = all_wrote t es apart in omega (arith, rest)
all_wrote (Reset s code ∷ t) es apart = let rest : sum_by (count_at (Reset s code ∷ t)) es ≤ written_in_all t = all_wrote t es apart in omega (arith, rest)
all_wrote (Stopped s code ∷ t) es apart = let rest : sum_by (count_at (Stopped s code ∷ t)) es ≤ written_in_all t = all_wrote t es apart in omega (arith, rest)
all_wrote (ReadBytes s offset bytes ∷ t) es apart = let rest : sum_by (count_at (ReadBytes s offset bytes ∷ t)) es ≤ written_in_all t = all_wrote t es apart in omega (arith, rest)
all_wrote (ReadEnd s ∷ t) es apart = let rest : sum_by (count_at (ReadEnd s ∷ t)) es ≤ written_in_all t = all_wrote t es apart in omega (arith, rest)
all_wrote (ReadReset s code ∷ t) es apart = let rest : sum_by (count_at (ReadReset s code ∷ t)) es ≤ written_in_all t = all_wrote t es apart in omega (arith, rest)

pub sum_within : (t : List Act) (ends : List (ℕ × ℕ)) → AreApart ends → ((k n : ℕ) → In (k, n) ends → n ≤ length (written t k)) → sum_of ends ≤ written_in_all t
sum_within t ends apart each =
    let first = below (count_at t) ends each in
    let rest = all_wrote t ends apart in
    omega (arith, first, rest)

-- ---- a half, there or new

new_half_end : (b : Bool) (limit : ℕ) (h : PlainRecv) → (if b then Some (new_recv limit) else None) ≡ Some h → (h.end ≡ 0) × (final_size h.state ≡ None)
new_half_end true limit h e = subst (λ (h : PlainRecv). (h.end ≡ 0) × (final_size h.state ≡ None)) (same_Some (new_recv limit) h e) (refl, refl)
new_half_end false limit h e = absurd (cc)

end_among : (ends : List (ℕ × ℕ)) (stream : ℕ) → (end_of ends stream ≡ 0) ⊎ In (stream, end_of ends stream) ends
end_among [] stream = inl refl
end_among (e ∷ es) stream = elim (eqb_tells e.0 stream) [
  | inl here ↦
      let same : end_of (e ∷ es) stream ≡ e.1 = rw here.0 refl in
      subst (λ (n : ℕ). (n ≡ 0) ⊎ In (stream, n) (e ∷ es)) (sym same) (inr (inl (ap (λ (k : ℕ). (k, e.1)) here.1)))
  | inr apart ↦
      let same : end_of (e ∷ es) stream ≡ end_of es stream = rw apart.0 refl in
      subst (λ (n : ℕ). (n ≡ 0) ⊎ In (stream, n) (e ∷ es)) (sym same) (elim (end_among es stream) [ inl none ↦ inl none | inr there ↦ inr (inr there) ])
]

module _ (side : Side) (s : PlainStreams) (frames : List StreamFrame) (p : AreReached side s frames) where
  half_end : (stream : ℕ) (h : PlainRecv) → recv_or_new s stream ≡ Some h → h.end ≡ end_of p.ends stream
  half_end stream h is = elim (cases_Bool (was_opened s stream)) [
    | inl known ↦ p.halves stream h (rw known at is)
    | inr fresh ↦ (new_half_end (has_recv s.side stream) _ h (rw fresh at is)).0 ∙ sym (p.unopened stream fresh)
  ]

  pub half_came : (stream : ℕ) (h : PlainRecv) → recv_or_new s stream ≡ Some h → (h.end ≡ 0) ⊎ IsAny (Reaches stream h.end) frames
  half_came stream h is =
      let end = half_end stream h is in
      elim (end_among p.ends stream) [
        | inl none ↦ inl (end ∙ none)
        | inr there ↦ inr (rw end (p.came stream (end_of p.ends stream) there))
      ]

  pub size_came : (stream size : ℕ) (h : PlainRecv) → recv_or_new s stream ≡ Some h → final_size h.state ≡ Some size → IsAny (EndsAt stream size) frames
  size_came stream size h is known = elim (cases_Bool (was_opened s stream)) [
    | inl there ↦ p.sizes stream size h (rw there at is) known
    | inr fresh ↦ none_some _ (final_size h.state) size (new_half_end (has_recv s.side stream) _ h (rw fresh at is)).1 known
  ]

  -- what was received, with what the frame brings, is no more than all that was written
  pub received_within : (t : List Act) (f : StreamFrame) (stream to : ℕ) (h : PlainRecv) → AreWithinWritten (f ∷ frames) t → Reaches stream to f → recv_or_new s stream ≡ Some h
      → s.recv.received + (to - h.end) ≤ written_in_all t
  received_within t f stream to h fits reaches is =
      let end = half_end stream h is in
      let total = p.total in
      elim (cases_Bool (nat_lt h.end to)) [
        | inl less ↦
            let sum : to ≡ h.end + (to - h.end) = let below = ltb-true h.end to less in omega (arith, below) in
            let g = grow (f ∷ frames) p.ends stream h.end to (to - h.end) p.apart (λ k n there. any_more f frames (p.came k n there)) end sum (inr (any_first f frames reaches)) in
            let more = g.1.total in
            let all = sum_within t g.0 g.1.apart (λ k n there. let one = g.1.came k n there in fits one.frame k n one.among one.is) in
            omega (arith, total, more, all)
        | inr not ↦
            let all = sum_within t p.ends p.apart (λ k n there. let one = p.came k n there in fits one.frame k n (inr one.among) one.is) in
            let past = ltb-false h.end to not in
            omega (arith, past, total, all)
      ]

  -- ---- no refusal

  ends_reach : (f : StreamFrame) (stream size : ℕ) → EndsAt stream size f → Reaches stream size f
  ends_reach (coming.Stream id offset payload fin) stream size e = (e.0, e.2)
  ends_reach (coming.Reset id code known) stream size e = e
  ends_reach (coming.Stop id code) stream size e = absurd e
  ends_reach (coming.MaxData limit) stream size e = absurd e
  ends_reach (coming.MaxStreamData id limit) stream size e = absurd e
  ends_reach (coming.MaxStreams dir count) stream size e = absurd e

  module _ (f : StreamFrame) (stream to : ℕ) (is_end : Bool) (agree : AgreeOnSizes (f ∷ frames)) (reaches : Reaches stream to f) (ends : is_end ≡ true → EndsAt stream to f) where
    known_fits : (n : ℕ) (end : Bool) → IsAny (EndsAt stream n) frames → (end ≡ true → EndsAt stream to f) → (nat_lt n to || (end && nat_lt to n)) ≡ false
    known_fits n end one ends =
        let most : to ≤ n = agree one.frame f stream n to (inr one.among) (inl refl) one.is reaches in
        at_end end (ends_case end ends) most
      where
        ends_case : (end : Bool) → (end ≡ true → EndsAt stream to f) → (end ≡ true → n ≤ to)
        ends_case end ends same = agree f one.frame stream to n (inl refl) (inr one.among) (ends same) (ends_reach one.frame stream n one.is)

        at_end : (end : Bool) → (end ≡ true → n ≤ to) → to ≤ n → (nat_lt n to || (end && nat_lt to n)) ≡ false
        at_end true least most = let l = least refl in rw (le-ltb n to most, le-ltb to n l) refl
        at_end false least most = rw (le-ltb n to most) refl

    unknown_fits : (e : ℕ) (end : Bool) → (e ≡ 0) ⊎ IsAny (Reaches stream e) frames → (end ≡ true → EndsAt stream to f) → (end && nat_lt to e) ≡ false
    unknown_fits e false came ends = refl
    unknown_fits e true (inl none) ends = le-ltb to e (omega (arith, none))
    unknown_fits e true (inr one) ends = le-ltb to e (agree f one.frame stream to e (inl refl) (inr one.among) (ends refl) one.is)

    size_fits : (o : Option ℕ) (e : ℕ) → ((n : ℕ) → o ≡ Some n → IsAny (EndsAt stream n) frames) → (e ≡ 0) ⊎ IsAny (Reaches stream e) frames → contradicts o e to is_end ≡ false
    size_fits None e known came = unknown_fits e is_end came ends
    size_fits (Some n) e known came = known_fits n is_end (known n refl) ends

    no_fault : (passes contradicted : Bool) (frame : ℕ) → passes ≡ false → contradicted ≡ false
        → ingest_refusal (if passes then Some FlowControl else if contradicted then Some FinalSize else None) frame ≡ None
    no_fault passes contradicted frame a b = rw (a, b) refl

    half_fits : (o : Option PlainRecv) (frame : ℕ) → recv_or_new s stream ≡ o → ((h : PlainRecv) → recv_or_new s stream ≡ Some h → to ≤ h.sent_max_stream_data)
        → ((h : PlainRecv) → recv_or_new s stream ≡ Some h → s.recv.received + (to - h.end) ≤ s.recv.announced.value)
        → ingest_refusal (half_ingest_fault o to is_end s.recv.received s.recv.announced.value) frame ≡ None
    half_fits None frame is limit total = refl
    half_fits (Some h) frame is limit total =
        let passes : (nat_lt h.sent_max_stream_data to || nat_lt s.recv.announced.value (s.recv.received + (to - h.end))) ≡ false =
        rw (le-ltb h.sent_max_stream_data to (limit h is), le-ltb s.recv.announced.value (s.recv.received + (to - h.end)) (total h is)) refl in
        no_fault _ _ frame passes (size_fits (final_size h.state) h.end (λ n known. size_came stream n h is known) (half_came stream h is))

    pub unrefused : (t : List Act) (frame : ℕ) → AreWithinWritten (f ∷ frames) t → written_in_all t ≤ s.recv.announced.value → ((h : PlainRecv) → recv_or_new s stream ≡ Some h → to ≤ h.sent_max_stream_data)
        → size_refusal s stream to is_end frame ≡ None
    unrefused t frame fits all limit = half_fits (recv_or_new s stream) frame refl limit
        (λ h is. let most = received_within t f stream to h fits reaches is in omega (arith, most, all))

  -- ---- the whole frame

  by_none : (a b : Option Refusal) → a ≡ None → b ≡ None → or_refusal a b ≡ None
  by_none a b none same = rw none same

  known : (half own live within : Bool) (frame : ℕ) → half ≡ true → (own ≡ true → live ≡ true) → (own ≡ false → within ≡ true)
      → (if not half then refused 5 frame else if own then (if live then None else refused 5 frame) else (if within then None else refused 4 frame)) ≡ None
  known half true live within frame has there count = rw (has, there refl) refl
  known half false live within frame has there count = rw (has, count refl) refl

  id_known : (id : ℕ) (half : Bool) (frame : ℕ) → IsStreamKnown s id half → id_refusal s id half frame ≡ None
  id_known id half frame k =
      known half (is_own s.side id) (was_opened s id) (nat_lt (index_of id) (counts_of s (is_bi id)).announced.value) frame k.half k.opened
      (λ peers. lt-ltb (index_of id) (counts_of s (is_bi id)).announced.value (k.within peers))

  pub frame_unrefused : (f : StreamFrame) (t : List Act) → AgreeOnSizes (f ∷ frames) → AreWithinWritten (f ∷ frames) t → written_in_all t ≤ s.recv.announced.value → IsWithinStream s f → NamesKnown s f → refusal_of s f ≡ None
  frame_unrefused (coming.Stream id offset payload fin) t agree fits all limit named =
      let g : StreamFrame = coming.Stream id offset payload fin in
      let to = offset + length payload in
      by_none _ _ (id_known id.0 (has_recv s.side id.0) 8 named)
      (unrefused g id.0 to fin agree (refl, refl) (λ end. (refl, end, refl)) t 8 fits all (λ h is. limit id.0 to h (refl, refl) is))
  frame_unrefused (coming.Reset id code size) t agree fits all limit named =
      let g : StreamFrame = coming.Reset id code size in
      by_none _ _ (id_known id.0 (has_recv s.side id.0) 4 named)
      (unrefused g id.0 size true agree (refl, refl) (λ end. (refl, refl)) t 4 fits all (λ h is. limit id.0 size h (refl, refl) is))
  frame_unrefused (coming.Stop id code) t agree fits all limit named = id_known id.0 (has_send s.side id.0) 5 named
  frame_unrefused (coming.MaxStreamData id limit) t agree fits all within named = id_known id.0 (has_send s.side id.0) 17 named
  frame_unrefused (coming.MaxData limit) t agree fits all within named = refl
  frame_unrefused (coming.MaxStreams Bi count) t agree fits all limit named = rw (le-ltb (2 ^ 60) count named) refl
  frame_unrefused (coming.MaxStreams Uni count) t agree fits all limit named = rw (le-ltb (2 ^ 60) count named) refl
