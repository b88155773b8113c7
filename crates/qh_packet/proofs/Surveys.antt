-- The frames that were read so far, and what they say of the packet.
use Rattle.std.proofs.Common.{◌≡◌, ℕ, ◌/◌, ◌<◌, ◌≤◌, ◌==◌, Bool, true, false, not, List, [], ◌∷◌, ◌++◌, length, Option, Some, None, refl, sym, ap, ◌∙◌, inl, inr, arith, subst, length-append}
use Rattle.std.specs.Prelude.{◌||◌}
use Rattle.std.specs.List.{AllByRecursion, list_any}
use Rattle.std.proofs.lemmas.List.Folds.{list_any-append}
use Rattle.std.proofs.lemmas.Bool.{cases_Bool, eqb-true}
use Rattle.std.proofs.lemmas.Bool.Decides.{eqb_tells}
use Rattle.qh_frame.specs.FrameAt.{Begins, BeginsWithType, HasNoFrame}
use Rattle.qh_frame.specs.Range.{IsInRange}
use Rattle.qh_frame.specs.WrittenForm.{stream_form, ack_values, or_frame, written_form}
use Rattle.qh_spec.specs.FrameViews.{stream_values}
use Rattle.qh_spec.specs.QuicFrame.{StreamFrame, has_bit}
use Rattle.qh_spec.specs.QuicFrames.{Part, Number, Fixed, Counted, ShortCounted, Left, Ranges, Value, Num, Text, Nums, QuicFrame, IsNumber, AreNumbers, IsValue, AreValues, IsQuicFrame, AreQuicFrames}
use Rattle.qh_spec.specs.Varint.{IsVarint, one, two, four, eight}
use Rattle.qh_packet.specs.Frames.{is_ack_eliciting, AreValidFrames, BeginWithFrames, none, more, IsFaultyFrame}

-- a frame takes a byte at least

varint_takes : (bytes : List ℕ) (n : ℕ) → IsVarint bytes n → 1 ≤ length bytes
varint_takes bytes n (one l e) = omega (arith, ap length e)
varint_takes bytes n (two l e) = omega (arith, ap length e)
varint_takes bytes n (four l e) = omega (arith, ap length e)
varint_takes bytes n (eight l e) = omega (arith, ap length e)

number_takes : (bytes rest : List ℕ) (n : ℕ) → IsNumber bytes n rest → length rest < length bytes
number_takes bytes rest n h =
    let front = varint_takes h.0 n h.2 in
    omega (arith, front, ap length h.1, length-append h.0 rest)

numbers_take : (ns bytes rest : List ℕ) → AreNumbers bytes ns rest → length rest ≤ length bytes
numbers_take [] bytes rest h = omega (arith, ap length h)
numbers_take (n ∷ ns) bytes rest h = omega (arith, number_takes bytes h.0 n h.1, numbers_take ns h.0 rest h.2)

value_takes : (part : Part) (v : Value) (bytes rest : List ℕ) → IsValue part bytes v rest → length rest ≤ length bytes
value_takes Number (Num n) bytes rest h = omega (arith, number_takes bytes rest n h)
value_takes (Fixed n) (Text t) bytes rest h = omega (arith, ap length h.0, length-append t rest)
value_takes Counted (Text t) bytes rest h = omega (arith, number_takes bytes h.0 (length t) h.1, ap length h.2, length-append t rest)
value_takes ShortCounted (Text t) bytes rest h = omega (arith, ap length h.0, length-append t rest)
value_takes Left (Text t) bytes rest h = omega (arith, ap length h.1)
value_takes Ranges (Nums ns) bytes rest h = omega (arith, number_takes bytes h.1 h.0 h.2, numbers_take ns h.1 rest h.3)
value_takes Number (Text t) bytes rest h = absurd h
value_takes Number (Nums ns) bytes rest h = absurd h
value_takes (Fixed n) (Num m) bytes rest h = absurd h
value_takes (Fixed n) (Nums ns) bytes rest h = absurd h
value_takes Counted (Num m) bytes rest h = absurd h
value_takes Counted (Nums ns) bytes rest h = absurd h
value_takes ShortCounted (Num m) bytes rest h = absurd h
value_takes ShortCounted (Nums ns) bytes rest h = absurd h
value_takes Left (Num m) bytes rest h = absurd h
value_takes Left (Nums ns) bytes rest h = absurd h
value_takes Ranges (Num m) bytes rest h = absurd h
value_takes Ranges (Text t) bytes rest h = absurd h

values_take : (parts : List Part) (vs : List Value) (bytes rest : List ℕ) → AreValues parts bytes vs rest → length rest ≤ length bytes
values_take [] [] bytes rest h = omega (arith, ap length h)
values_take (p ∷ ps) (v ∷ vs) bytes rest h = omega (arith, value_takes p v bytes h.0 h.1, values_take ps vs h.0 rest h.2)
values_take [] (v ∷ vs) bytes rest h = absurd h
values_take (p ∷ ps) [] bytes rest h = absurd h

pub frame_takes : (bytes rest : List ℕ) (form : QuicFrame) → Begins bytes form rest → length rest < length bytes
frame_takes bytes rest form h = omega (arith, number_takes bytes h.is.fields h.frame.kind h.is.kind, values_take h.is.shape h.frame.values h.is.fields rest h.is.values)

-- the form in which a frame is written asks for an acknowledgement where the frame does

abbrev asks : ℕ → Bool
asks kind = not (kind == 0 || (kind == 2 || (kind == 3 || (kind == 28 || kind == 29))))

form_asks_at : (zero fin : Bool) (id offset : ℕ) (payload : List ℕ) → (offset == 0) ≡ zero
    → is_ack_eliciting (stream_form (record { id = id; offset = offset; payload = payload; fin = fin })) ≡ true
form_asks_at true true id offset payload e = rw e refl
form_asks_at true false id offset payload e = rw e refl
form_asks_at false true id offset payload e = rw e refl
form_asks_at false false id offset payload e = rw e refl

is_not : (a b : ℕ) → (a ≡ b → ⊥) → (a == b) ≡ false
is_not a b h = elim (eqb_tells a b) [ inl same ↦ absurd (h same.1) | inr apart ↦ apart.0 ]

stream_asks : (kind : ℕ) → kind / 8 ≡ 1 → asks kind ≡ true
stream_asks kind h =
    let a : (kind == 0) ≡ false = is_not kind 0 (λ e. let at : kind ≡ 0 = e in omega (arith, h)) in
    let b : (kind == 2) ≡ false = is_not kind 2 (λ e. let at : kind ≡ 2 = e in omega (arith, h)) in
    let c : (kind == 3) ≡ false = is_not kind 3 (λ e. let at : kind ≡ 3 = e in omega (arith, h)) in
    let d : (kind == 28) ≡ false = is_not kind 28 (λ e. let at : kind ≡ 28 = e in omega (arith, h)) in
    let f : (kind == 29) ≡ false = is_not kind 29 (λ e. let at : kind ≡ 29 = e in omega (arith, h)) in
    rw (a, b, c, d, f) refl

or_asks : (o : Option StreamFrame) (f : QuicFrame) → f.kind / 8 ≡ 1 → is_ack_eliciting (or_frame o f) ≡ is_ack_eliciting f
or_asks None f h = refl
or_asks (Some s) f h = form_asks_at (s.offset == 0) s.fin s.id s.offset s.payload refl ∙ sym (stream_asks f.kind h)

pub form_asks : (f : QuicFrame) → is_ack_eliciting (written_form f) ≡ is_ack_eliciting f
form_asks f =
    elim (cases_Bool (f.kind / 8 == 1)) [
      | inl t ↦
          let form : written_form f ≡ or_frame (stream_values (has_bit 1 f.kind) f.values) f = rw t refl in
          ap is_ack_eliciting form ∙ or_asks (stream_values (has_bit 1 f.kind) f.values) f (eqb-true (f.kind / 8) 1 t)
      | inr other ↦ elim (cases_Bool (f.kind == 3)) [
        | inl ack ↦
            let form : written_form f ≡ record { kind = 2; values = ack_values f.values } = rw (other, ack) refl in
            ap is_ack_eliciting form ∙ sym (ap asks (eqb-true f.kind 3 ack))
        | inr no_ack ↦ elim (cases_Bool (f.kind == 48)) [
          | inl datagram ↦
              let form : written_form f ≡ record { kind = 49; values = f.values } = rw (other, no_ack, datagram) refl in
              ap is_ack_eliciting form ∙ sym (ap asks (eqb-true f.kind 48 datagram))
          | inr same_kind ↦ let same : written_form f ≡ f = rw (other, no_ack, same_kind) refl in ap is_ack_eliciting same
        ]
      ]
    ]

-- the bytes begin with these frames and go on with the rest
abbrev pub AreFront : List ℕ → List QuicFrame → List ℕ → Type 0
AreFront bytes [] rest = bytes ≡ rest
AreFront bytes (f ∷ fs) rest = (mid : List ℕ) × IsQuicFrame bytes f mid × AreFront mid fs rest

-- the frames in front of the rest are in range, and this tells whether one of them asks for an acknowledgement
pub record IsSurveyed (bytes rest : List ℕ) (is_eliciting : Bool) : Type 0 where
  pub frames : List QuicFrame
  pub are : AreFront bytes frames rest
  pub in_range : AllByRecursion IsInRange frames
  pub eliciting_is : is_eliciting ≡ list_any is_ack_eliciting frames

pub surveyed_none : (bytes : List ℕ) → IsSurveyed bytes bytes false
surveyed_none bytes = record { frames = []; are = refl; in_range = tt; eliciting_is = refl }

front_more : (fs : List QuicFrame) (f : QuicFrame) (bytes mid rest : List ℕ) → AreFront bytes fs mid → IsQuicFrame mid f rest → AreFront bytes (fs ++ f ∷ []) rest
front_more [] f bytes mid rest are is = (rest, subst (λ (z : List ℕ). IsQuicFrame z f rest) (sym are) is, refl)
front_more (g ∷ fs) f bytes mid rest are is = (are.0, are.1, front_more fs f are.0 mid rest are.2 is)

range_more : (fs : List QuicFrame) (f : QuicFrame) → AllByRecursion IsInRange fs → IsInRange f → AllByRecursion IsInRange (fs ++ f ∷ [])
range_more [] f all is = (is, tt)
range_more (g ∷ fs) f all is = (all.0, range_more fs f all.1 is)

or-false : (b : Bool) → (b || false) ≡ b
or-false true = refl
or-false false = refl

asks_more : (fs : List QuicFrame) (f : QuicFrame) → list_any is_ack_eliciting (fs ++ f ∷ []) ≡ (list_any is_ack_eliciting fs || is_ack_eliciting f)
asks_more fs f = list_any-append is_ack_eliciting fs (f ∷ []) ∙ ap (λ (b : Bool). list_any is_ack_eliciting fs || b) (or-false (is_ack_eliciting f))

-- one more frame is read
pub surveyed_more : (bytes mid rest : List ℕ) (is_eliciting now : Bool) (form : QuicFrame) → IsSurveyed bytes mid is_eliciting → Begins mid form rest
    → now ≡ (is_eliciting || is_ack_eliciting form) → IsSurveyed bytes rest now
surveyed_more bytes mid rest is_eliciting now form h b e =
    let f : QuicFrame = b.frame in
    let same : is_ack_eliciting form ≡ is_ack_eliciting f = ap is_ack_eliciting (sym b.form_is) ∙ form_asks f in
    record {
      frames = h.frames ++ f ∷ [];
      are = front_more h.frames f bytes mid rest h.are b.is;
      in_range = range_more h.frames f h.in_range b.in_range;
      eliciting_is = e ∙ ap (λ (x : Bool). x || is_ack_eliciting form) h.eliciting_is ∙ ap (λ (x : Bool). list_any is_ack_eliciting h.frames || x) same ∙ sym (asks_more h.frames f);
    }

front_all : (fs : List QuicFrame) (bytes rest : List ℕ) → rest ≡ [] → AreFront bytes fs rest → AreQuicFrames bytes fs
front_all [] bytes rest e h = h ∙ e
front_all (f ∷ fs) bytes rest e h = (h.0, h.1, front_all fs h.0 rest e h.2)

front_some : (fs : List QuicFrame) (bytes rest : List ℕ) → rest ≡ [] → (bytes ≡ [] → ⊥) → AreFront bytes fs rest → fs ≡ [] → ⊥
front_some [] bytes rest e some h empty = some (h ∙ e)
front_some (f ∷ fs) bytes rest e some h empty = cc

-- all frames are read
pub surveyed_all : (bytes rest : List ℕ) (is_eliciting : Bool) → IsSurveyed bytes rest is_eliciting → rest ≡ [] → (bytes ≡ [] → ⊥) → AreValidFrames bytes is_eliciting
surveyed_all bytes rest is_eliciting h e some = record {
  frames = h.frames;
  are = front_all h.frames bytes rest e h.are;
  some = front_some h.frames bytes rest e some h.are;
  in_range = h.in_range;
  eliciting_is = h.eliciting_is;
}

front_begins : (fs : List QuicFrame) (bytes rest : List ℕ) → AreFront bytes fs rest → AllByRecursion IsInRange fs → BeginWithFrames bytes rest
front_begins [] bytes rest h all = subst (λ (z : List ℕ). BeginWithFrames z rest) (sym h) (none rest)
front_begins (f ∷ fs) bytes rest h all = more bytes h.0 rest f h.1 all.0 (front_begins fs h.0 rest h.2 all.1)

-- the next can't be read
pub surveyed_fault : (bytes rest : List ℕ) (is_eliciting : Bool) (kind : Option ℕ) → IsSurveyed bytes rest is_eliciting → HasNoFrame rest → (rest ≡ [] → ⊥) → BeginsWithType rest kind → IsFaultyFrame bytes kind
surveyed_fault bytes rest is_eliciting kind h unread some begins = record { rest = rest; behind = front_begins h.frames bytes rest h.are h.in_range; none = unread; some = some; type_is = begins }

pub is_empty : (xs : List ℕ) → true ≡ (length xs == 0) → xs ≡ []
is_empty [] e = refl
is_empty (x ∷ xs) e = let none_left = eqb-true (length (x ∷ xs)) 0 (sym e) in absurd (omega arith)

pub is_some : (xs : List ℕ) → false ≡ (length xs == 0) → xs ≡ [] → ⊥
is_some [] e h = cc
is_some (x ∷ xs) e h = cc
