-- Which packets were accepted is told by the datagrams: there is but one list of them.
use Rattle.std.proofs.Common.{◌≡◌, ℕ, ◌-◌, List, [], ◌∷◌, ◌++◌, length, refl, sym, ap, subst, ◌∙◌, inl, inr, arith}
use Rattle.std.proofs.lemmas.Bool.{cases_order}
use Rattle.qh_owing.specs.Owing.{AreAccepted, numbers_of}
use Rattle.qh_packet.specs.Session.{AcceptsTag}
use Rattle.qh_owing.specs.Owing.AreAccepted.{none, taken, repeated, dropped}
use Rattle.qh_packet.proofs.Packets.{parts_of}
use Rattle.qh_packet.specs.Packet.{IsOpened}
use Rattle.qh_recovery.proofs.PacketNumbers.{meant_once}
use Rattle.qh_recovery.specs.Accepted.{IsNew, IsNextOf}
use Rattle.qh_spec.proofs.FrameLaws.{quic_frames_agree}
use Rattle.qh_spec.specs.Datagram.{Packet}
use Rattle.qh_spec.specs.Packet.{be_value}
use Rattle.qh_spec.specs.QuicFrames.{QuicFrame, AreQuicFrames}
use Rattle.qh_spec.specs.declared.sides.Side.{Side}
use Rattle.qh_spec.specs.declared.sides.Space.{Space}

-- ---- lists by their last entry

never_empty : (es : List (List ℕ)) (e : List ℕ) → [] ≡ es ++ e ∷ [] → ⊥
never_empty [] e same = absurd (cc)
never_empty (x ∷ es) e same = absurd (cc)

same_last : (ds es : List (List ℕ)) (d e : List ℕ) → ds ++ d ∷ [] ≡ es ++ e ∷ [] → (ds ≡ es) × (d ≡ e)
same_last [] [] d e same = let one : d ≡ e = cc in (refl, one)
same_last [] (y ∷ es) d e same = let rest : [] ≡ es ++ e ∷ [] = cc in absurd (never_empty es e rest)
same_last (x ∷ ds) [] d e same = let rest : [] ≡ ds ++ d ∷ [] = cc in absurd (never_empty ds d rest)
same_last (x ∷ ds) (y ∷ es) d e same =
    let front : x ≡ y = cc in
    let rest : ds ++ d ∷ [] ≡ es ++ e ∷ [] = cc in
    let r = same_last ds es d e rest in
    let all : ds ≡ es = r.0 in
    let whole : x ∷ ds ≡ y ∷ es = cc in
    (whole, r.1)

-- ---- numbers and packets

next_once : (accepted : List ℕ) (e f : ℕ) → IsNextOf accepted e → IsNextOf accepted f → e ≡ f
next_once accepted e f p q = elim (cases_order e f) [
  | inl same ↦ same
  | inr (inl less) ↦ let below = p.is_above (f - 1) (q.is_least (omega (arith, less))) in absurd (omega (arith, less, below))
  | inr (inr more) ↦ let below = q.is_above (e - 1) (p.is_least (omega (arith, more))) in absurd (omega (arith, more, below))
]

next_same : (xs ys : List Packet) (e f : ℕ) → xs ≡ ys → IsNextOf (numbers_of xs) e → IsNextOf (numbers_of ys) f → e ≡ f
next_same xs ys e f same p q = next_once (numbers_of xs) e f p (subst (λ (l : List Packet). IsNextOf (numbers_of l) f) (sym same) q)

one_more : (p q : Packet) (xs ys : List Packet) → p.space ≡ q.space → p.sender ≡ q.sender → p.number ≡ q.number → p.frames ≡ q.frames → xs ≡ ys → p ∷ xs ≡ q ∷ ys
one_more p q xs ys space sender number frames same =
    let packets : p ≡ q =
    ap (λ (s : Space). let x : Packet = record { space = s; sender = p.sender; number = p.number; frames = p.frames } in x) space
    ∙ (ap (λ (s : Side). let x : Packet = record { space = q.space; sender = s; number = p.number; frames = p.frames } in x) sender
    ∙ (ap (λ (n : ℕ). let x : Packet = record { space = q.space; sender = q.sender; number = n; frames = p.frames } in x) number
    ∙ ap (λ (fs : List QuicFrame). let x : Packet = record { space = q.space; sender = q.sender; number = q.number; frames = fs } in x) frames)) in
    cc

module _ (accepts : AcceptsTag) (id : List ℕ) (sender : Side) where
  -- a datagram opens in one way
  opened_once : (e f : ℕ) (d g : List ℕ) (m n : ℕ) (xs ys : List ℕ) → e ≡ f → d ≡ g → IsOpened accepts (length id) sender e d m xs → IsOpened accepts (length id) sender f g n ys → (m ≡ n) × (xs ≡ ys)
  opened_once e f d g m n xs ys same is p q =
      let there : IsOpened accepts (length id) sender e d n ys = rw (same, is) q in
      let parts = parts_of accepts (length id) sender e d p.packet n ys p.is.fits p.is.whole there in
      (meant_once e (be_value p.packet.number) (length p.packet.number) m n p.expanded parts.expanded, sym p.frames_are ∙ parts.frames_are)

  -- where one list has the packet as new, it is so in the other
  never_both : (xs ys : List Packet) (m n : ℕ) → xs ≡ ys → m ≡ n → IsNew (numbers_of xs) m → (IsNew (numbers_of ys) n → ⊥) → ⊥
  never_both xs ys m n same number new old = old (subst (λ (k : ℕ). IsNew (numbers_of ys) k) number (subst (λ (l : List Packet). IsNew (numbers_of l) m) same new))

  accepted_same : (ds es : List (List ℕ)) (xs ys : List Packet) → AreAccepted accepts id sender ds xs → AreAccepted accepts id sender es ys → ds ≡ es → xs ≡ ys
  accepted_same ds es xs ys none none same = refl
  accepted_same ds es xs ys none (taken gs g _ _ _ _ _ _ _ _ _ _ _) same = absurd (never_empty gs g same)
  accepted_same ds es xs ys none (repeated gs g _ _ _ _ _ _ _ _) same = absurd (never_empty gs g same)
  accepted_same ds es xs ys none (dropped gs g _ _ _ _ _) same = absurd (never_empty gs g same)
  accepted_same ds es xs ys (taken fs f _ _ _ _ _ _ _ _ _ _ _) none same = absurd (never_empty fs f (sym same))
  accepted_same ds es xs ys (taken fs f ps p e bytes before next opened are space from new) (taken gs g qs q e' bytes' before' next' opened' are' space' from' new') same =
      let s = same_last fs gs f g same in
      let all = accepted_same fs gs ps qs before before' s.0 in
      let one = opened_once e e' f g p.number q.number bytes bytes' (next_same ps qs e e' all next next') s.1 opened opened' in
      one_more p q ps qs (space ∙ sym space') (from ∙ sym from') one.0 (quic_frames_agree bytes p.frames q.frames are (subst (λ (z : List ℕ). AreQuicFrames z q.frames) (sym one.1) are')) all
  accepted_same ds es xs ys (taken fs f ps p e bytes before next opened are space from new) (repeated gs g qs e' number' bytes' before' next' opened' old') same =
      let s = same_last fs gs f g same in
      let all = accepted_same fs gs ps qs before before' s.0 in
      let one = opened_once e e' f g p.number number' bytes bytes' (next_same ps qs e e' all next next') s.1 opened opened' in
      absurd (never_both ps qs p.number number' all one.0 new old')
  accepted_same ds es xs ys (taken fs f ps p e bytes before next opened are space from new) (dropped gs g qs e' before' next' never') same =
      let s = same_last fs gs f g same in
      let all = accepted_same fs gs ps qs before before' s.0 in
      let there : IsOpened accepts (length id) sender e' g p.number bytes = rw (sym (next_same ps qs e e' all next next'), sym s.1) opened in
      absurd (never' p.number bytes there)
  accepted_same ds es xs ys (repeated fs f _ _ _ _ _ _ _ _) none same = absurd (never_empty fs f (sym same))
  accepted_same ds es xs ys (repeated fs f ps e number bytes before next opened old) (taken gs g qs q e' bytes' before' next' opened' are' space' from' new') same =
      let s = same_last fs gs f g same in
      let all = accepted_same fs gs ps qs before before' s.0 in
      let one = opened_once e e' f g number q.number bytes bytes' (next_same ps qs e e' all next next') s.1 opened opened' in
      absurd (never_both qs ps q.number number (sym all) (sym one.0) new' old)
  accepted_same ds es xs ys (repeated fs f ps e number bytes before next opened old) (repeated gs g qs e' number' bytes' before' next' opened' old') same =
      let s = same_last fs gs f g same in
      accepted_same fs gs ps qs before before' s.0
  accepted_same ds es xs ys (repeated fs f ps e number bytes before next opened old) (dropped gs g qs e' before' next' never') same =
      let s = same_last fs gs f g same in
      let all = accepted_same fs gs ps qs before before' s.0 in
      let there : IsOpened accepts (length id) sender e' g number bytes = rw (sym (next_same ps qs e e' all next next'), sym s.1) opened in
      absurd (never' number bytes there)
  accepted_same ds es xs ys (dropped fs f _ _ _ _ _) none same = absurd (never_empty fs f (sym same))
  accepted_same ds es xs ys (dropped fs f ps e before next never) (taken gs g qs q e' bytes' before' next' opened' are' space' from' new') same =
      let s = same_last fs gs f g same in
      let all = accepted_same fs gs ps qs before before' s.0 in
      let there : IsOpened accepts (length id) sender e f q.number bytes' = rw (next_same ps qs e e' all next next', s.1) opened' in
      absurd (never q.number bytes' there)
  accepted_same ds es xs ys (dropped fs f ps e before next never) (repeated gs g qs e' number' bytes' before' next' opened' old') same =
      let s = same_last fs gs f g same in
      let all = accepted_same fs gs ps qs before before' s.0 in
      let there : IsOpened accepts (length id) sender e f number' bytes' = rw (next_same ps qs e e' all next next', s.1) opened' in
      absurd (never number' bytes' there)
  accepted_same ds es xs ys (dropped fs f ps e before next never) (dropped gs g qs e' before' next' never') same =
      let s = same_last fs gs f g same in
      accepted_same fs gs ps qs before before' s.0

  -- there is one list
  pub accepted_once : (datagrams : List (List ℕ)) (xs ys : List Packet) → AreAccepted accepts id sender datagrams xs → AreAccepted accepts id sender datagrams ys → xs ≡ ys
  accepted_once datagrams xs ys p q = accepted_same datagrams datagrams xs ys p q refl
