-- What the frames mean that a connection may send, each kind of its own.
use Rattle.std.proofs.Common.{◌≡◌, ◌⊎◌, ℕ, ◌+◌, ◌/◌, ◌<◌, ◌≤◌, ◌==◌, Bool, true, false, List, [], ◌∷◌, if◌then◌else◌, refl, sym, ap, subst, ◌∙◌, arith, inl, inr}
use Rattle.std.proofs.lemmas.Bool.{eqb-true, or_cases}
use Rattle.qh_conduct.specs.Announced.{HasComeWith, IsKeptFrame, IsLimited, IsReading, IsSending}
use Rattle.qh_conduct.specs.Announced.IsKeptFrame.{ping, response, ack, stream, reset, stop, max_data, max_stream_data, max_streams, control, close}
use Rattle.qh_core.specs.Control.{control_frame}
use Rattle.qh_core.specs.Inner.{is_open}
use Rattle.qh_core.specs.Receiving.{is_close}
use Rattle.qh_core.specs.Sending.{close_frame}
use Rattle.qh_core.specs.declared.control.ControlFrame.{ControlFrame}
use Rattle.qh_core.specs.declared.control.ControlFrame.TheVariants.{NewToken, NewConnectionId, RetireConnectionId, Datagram}
use Rattle.qh_core.specs.declared.inner.Inner.{Inner}
use Rattle.qh_core.specs.declared.state.Close.{Close}
use Rattle.qh_core.specs.declared.state.Close.TheVariants.{Application, Connection}
use Rattle.qh_frame.specs.AckWritten.{ack_frame}
use Rattle.qh_frame.specs.Plain.{frame, by_dir}
use Rattle.qh_frame.specs.WrittenForm.{stream_form}
use Rattle.qh_frame.specs.declared.ack.AckRange.{AckRange}
use Rattle.qh_spec.specs.Acknowledged.{Covers}
use Rattle.qh_spec.specs.QuicFrame.{StreamFrame}
use Rattle.qh_spec.specs.QuicFrames.{QuicFrame, Value, Num, Text}
use Rattle.qh_spec.specs.declared.sides.Dir.{Dir}
use Rattle.qh_spec.specs.declared.sides.Dir.TheVariants.{Bi, Uni}
use Rattle.qh_streams.specs.Streams.{counts_of, is_two_way}

-- ---- the types of frames

abbrev pub Between : (low high : ℕ) → ℕ → Type 0
Between low high kind = (low ≤ kind) × (kind ≤ high)

pub exact_kind : (f : QuicFrame) (kind : ℕ) (values : List Value) → f ≡ frame kind values → Between kind kind f.kind
exact_kind f kind values is = let same : f.kind ≡ kind = ap (λ (g : QuicFrame). g.kind) is in (omega (arith, same), omega (arith, same))

pub ack_kind : (f : QuicFrame) (ranges : List AckRange) → f ≡ ack_frame 0 ranges → Between 2 2 f.kind
ack_kind f [] is = exact_kind f 2 [] is
ack_kind f (r ∷ more) is = exact_kind f 2 _ is

form_between : (zero fin : Bool) → Between 10 15 (10 + (if zero then 0 else 4) + (if fin then 1 else 0))
form_between true true = (omega arith, omega arith)
form_between true false = (omega arith, omega arith)
form_between false true = (omega arith, omega arith)
form_between false false = (omega arith, omega arith)

pub form_kind : (f : QuicFrame) (run : StreamFrame) → f ≡ stream_form run → Between 10 15 f.kind
form_kind f run is = subst (λ (k : ℕ). Between 10 15 k) (sym (ap (λ (g : QuicFrame). g.kind) is)) (form_between (run.offset == 0) run.fin)

pub count_kind : (f : QuicFrame) (dir : Dir) (count : ℕ) → f ≡ frame (by_dir dir 18 19) (Num count ∷ []) → Between 18 19 f.kind
count_kind f Bi count is = let b = exact_kind f 18 _ is in (omega (arith, b.0), omega (arith, b.1))
count_kind f Uni count is = let b = exact_kind f 19 _ is in (omega (arith, b.0), omega (arith, b.1))

pub close_kind : (f : QuicFrame) (reason : Close) → f ≡ close_frame reason → Between 28 29 f.kind
close_kind f (Connection c) is = let b = exact_kind f 28 _ is in (omega (arith, b.0), omega (arith, b.1))
close_kind f (Application a) is = let b = exact_kind f 29 _ is in (omega (arith, b.0), omega (arith, b.1))

-- the types of the frames of a connection's own
abbrev pub IsControlKind : ℕ → Type 0
IsControlKind kind = (kind ≡ 7) ⊎ ((kind ≡ 24) ⊎ ((kind ≡ 25) ⊎ (kind ≡ 49)))

kind_of : (g : ControlFrame) → IsControlKind (control_frame g).kind
kind_of (NewToken token) = inl refl
kind_of (NewConnectionId sequence prior id reset_token) = inr (inl refl)
kind_of (RetireConnectionId sequence) = inr (inr (inl refl))
kind_of (Datagram payload) = inr (inr (inr refl))

pub control_kind : (f : QuicFrame) (g : ControlFrame) → f ≡ control_frame g → IsControlKind f.kind
control_kind f g is = subst (λ (q : QuicFrame). IsControlKind q.kind) (sym is) (kind_of g)

-- a type between two bounds that have none of these between them isn't one
pub no_control : (low high kind : ℕ) → Between low high kind → IsControlKind kind → (7 < low) ⊎ (high < 7) → (25 < low) ⊎ (high < 24) → high < 49 → ⊥
no_control low high kind b (inl is) (inl above) apart last = let l = b.0 in omega (arith, is, l, above)
no_control low high kind b (inl is) (inr below) apart last = let h = b.1 in omega (arith, is, h, below)
no_control low high kind b (inr (inl is)) seven (inl above) last = let l = b.0 in omega (arith, is, l, above)
no_control low high kind b (inr (inl is)) seven (inr below) last = let h = b.1 in omega (arith, is, h, below)
no_control low high kind b (inr (inr (inl is))) seven (inl above) last = let l = b.0 in omega (arith, is, l, above)
no_control low high kind b (inr (inr (inl is))) seven (inr below) last = let h = b.1 in omega (arith, is, h, below)
no_control low high kind b (inr (inr (inr is))) seven apart last = let h = b.1 in omega (arith, is, h, last)

half_kind : (f : QuicFrame) → f.kind / 2 ≡ 1 → Between 2 3 f.kind
half_kind f e = (omega (arith, e), omega (arith, e))

pub closing_kind : (f : QuicFrame) → is_close f ≡ true → Between 28 29 f.kind
closing_kind f closing = elim (or_cases (f.kind == 28) (f.kind == 29) closing) [
  | inl one ↦ let same = eqb-true f.kind 28 one in (omega (arith, same), omega (arith, same))
  | inr other ↦ let same = eqb-true f.kind 29 other in (omega (arith, same), omega (arith, same))
]

-- ---- their values

abbrev pub number_of : List Value → ℕ
number_of (Num n ∷ more) = n
number_of other = 0

abbrev pub rest_of : List Value → List Value
rest_of (v ∷ more) = more
rest_of [] = []

pub front_number : {kind m n : ℕ} {more others : List Value} → frame kind (Num m ∷ more) ≡ frame kind (Num n ∷ others) → m ≡ n
front_number e = ap (λ (g : QuicFrame). number_of g.values) e

next_number : {kind a b m n : ℕ} {more others : List Value} → frame kind (Num a ∷ Num b ∷ more) ≡ frame kind (Num m ∷ Num n ∷ others) → b ≡ n
next_number e = ap (λ (g : QuicFrame). number_of (rest_of g.values)) e

form_number : (zero : Bool) (id offset : ℕ) (payload : List ℕ) → number_of (if zero then Num id ∷ Text payload ∷ [] else Num id ∷ Num offset ∷ Text payload ∷ []) ≡ id
form_number true id offset payload = refl
form_number false id offset payload = refl

same_stream : (a b : StreamFrame) → stream_form a ≡ stream_form b → a.id ≡ b.id
same_stream a b e = sym (form_number (a.offset == 0) a.id a.offset a.payload) ∙ (ap (λ (g : QuicFrame). number_of g.values) e ∙ form_number (b.offset == 0) b.id b.offset b.payload)

module _ {S : Type 0} (c : Inner S) (came : List (List ℕ)) where
  same_count : (way dir : Dir) (said count : ℕ) → frame (by_dir way 18 19) (Num said ∷ []) ≡ frame (by_dir dir 18 19) (Num count ∷ []) → count ≤ (counts_of c.space.streams (is_two_way dir)).announced.value
      → said ≤ (counts_of c.space.streams (is_two_way way)).announced.value
  same_count Bi Bi said count e below = let same : said ≡ count = front_number e in omega (arith, same, below)
  same_count Uni Uni said count e below = let same : said ≡ count = front_number e in omega (arith, same, below)
  same_count Bi Uni said count e below = let kinds : 18 ≡ 19 = ap (λ (g : QuicFrame). g.kind) e in absurd (omega (arith, kinds))
  same_count Uni Bi said count e below = let kinds : 19 ≡ 18 = ap (λ (g : QuicFrame). g.kind) e in absurd (omega (arith, kinds))

  pub says_limit : (f : QuicFrame) (said : ℕ) → f ≡ frame 16 (Num said ∷ []) → IsKeptFrame c came f → said ≤ c.space.streams.recv.announced.value
  says_limit f said e (ping is) = let a = exact_kind f 16 _ e in let b = exact_kind f 1 [] is in absurd (omega (arith, a.0, a.1, b.0, b.1))
  says_limit f said e (response echoed is) = let a = exact_kind f 16 _ e in let b = exact_kind f 27 _ is in absurd (omega (arith, a.0, a.1, b.0, b.1))
  says_limit f said e (ack ranges is apart all) = let a = exact_kind f 16 _ e in let b = ack_kind f ranges is in absurd (omega (arith, a.0, a.1, b.0, b.1))
  says_limit f said e (stream run is named) = let a = exact_kind f 16 _ e in let b = form_kind f run is in absurd (omega (arith, a.0, a.1, b.0, b.1))
  says_limit f said e (reset id code size is named) = let a = exact_kind f 16 _ e in let b = exact_kind f 4 _ is in absurd (omega (arith, a.0, a.1, b.0, b.1))
  says_limit f said e (stop id code is named) = let a = exact_kind f 16 _ e in let b = exact_kind f 5 _ is in absurd (omega (arith, a.0, a.1, b.0, b.1))
  says_limit f said e (max_data limit is below) = let same : said ≡ limit = front_number (sym e ∙ is) in omega (arith, same, below)
  says_limit f said e (max_stream_data id limit is named below) = let a = exact_kind f 16 _ e in let b = exact_kind f 17 _ is in absurd (omega (arith, a.0, a.1, b.0, b.1))
  says_limit f said e (max_streams dir count is below) = let a = exact_kind f 16 _ e in let b = count_kind f dir count is in absurd (omega (arith, a.0, a.1, b.0, b.1))
  says_limit f said e (control g is may) = absurd (no_control 16 16 f.kind (exact_kind f 16 _ e) (control_kind f g is) (inl (omega arith)) (inr (omega arith)) (omega arith))
  says_limit f said e (close reason is shut) = let a = exact_kind f 16 _ e in let b = close_kind f reason is in absurd (omega (arith, a.0, a.1, b.0, b.1))

  pub says_count : (f : QuicFrame) (way : Dir) (said : ℕ) → f ≡ frame (by_dir way 18 19) (Num said ∷ []) → IsKeptFrame c came f → said ≤ (counts_of c.space.streams (is_two_way way)).announced.value
  says_count f way said e (ping is) = let a = count_kind f way said e in let b = exact_kind f 1 [] is in absurd (omega (arith, a.0, a.1, b.0, b.1))
  says_count f way said e (response echoed is) = let a = count_kind f way said e in let b = exact_kind f 27 _ is in absurd (omega (arith, a.0, a.1, b.0, b.1))
  says_count f way said e (ack ranges is apart all) = let a = count_kind f way said e in let b = ack_kind f ranges is in absurd (omega (arith, a.0, a.1, b.0, b.1))
  says_count f way said e (stream run is named) = let a = count_kind f way said e in let b = form_kind f run is in absurd (omega (arith, a.0, a.1, b.0, b.1))
  says_count f way said e (reset id code size is named) = let a = count_kind f way said e in let b = exact_kind f 4 _ is in absurd (omega (arith, a.0, a.1, b.0, b.1))
  says_count f way said e (stop id code is named) = let a = count_kind f way said e in let b = exact_kind f 5 _ is in absurd (omega (arith, a.0, a.1, b.0, b.1))
  says_count f way said e (max_data limit is below) = let a = count_kind f way said e in let b = exact_kind f 16 _ is in absurd (omega (arith, a.0, a.1, b.0, b.1))
  says_count f way said e (max_stream_data id limit is named below) = let a = count_kind f way said e in let b = exact_kind f 17 _ is in absurd (omega (arith, a.0, a.1, b.0, b.1))
  says_count f way said e (max_streams dir count is below) = same_count way dir said count (sym e ∙ is) below
  says_count f way said e (control g is may) = absurd (no_control 18 19 f.kind (count_kind f way said e) (control_kind f g is) (inl (omega arith)) (inr (omega arith)) (omega arith))
  says_count f way said e (close reason is shut) = let a = count_kind f way said e in let b = close_kind f reason is in absurd (omega (arith, a.0, a.1, b.0, b.1))

  pub says_stream_limit : (f : QuicFrame) (stream_id said : ℕ) → f ≡ frame 17 (Num stream_id ∷ Num said ∷ []) → IsKeptFrame c came f → IsReading c.space.streams stream_id × IsLimited c.space.streams stream_id said
  says_stream_limit f stream_id said e (ping is) = let a = exact_kind f 17 _ e in let b = exact_kind f 1 [] is in absurd (omega (arith, a.0, a.1, b.0, b.1))
  says_stream_limit f stream_id said e (response echoed is) = let a = exact_kind f 17 _ e in let b = exact_kind f 27 _ is in absurd (omega (arith, a.0, a.1, b.0, b.1))
  says_stream_limit f stream_id said e (ack ranges is apart all) = let a = exact_kind f 17 _ e in let b = ack_kind f ranges is in absurd (omega (arith, a.0, a.1, b.0, b.1))
  says_stream_limit f stream_id said e (stream run is named) = let a = exact_kind f 17 _ e in let b = form_kind f run is in absurd (omega (arith, a.0, a.1, b.0, b.1))
  says_stream_limit f stream_id said e (reset id code size is named) = let a = exact_kind f 17 _ e in let b = exact_kind f 4 _ is in absurd (omega (arith, a.0, a.1, b.0, b.1))
  says_stream_limit f stream_id said e (stop id code is named) = let a = exact_kind f 17 _ e in let b = exact_kind f 5 _ is in absurd (omega (arith, a.0, a.1, b.0, b.1))
  says_stream_limit f stream_id said e (max_data limit is below) = let a = exact_kind f 17 _ e in let b = exact_kind f 16 _ is in absurd (omega (arith, a.0, a.1, b.0, b.1))
  says_stream_limit f stream_id said e (max_stream_data id limit is named below) = let first : stream_id ≡ id = front_number (sym e ∙ is) in let second : said ≡ limit = next_number (sym e ∙ is) in rw (first, second) (named, below)
  says_stream_limit f stream_id said e (max_streams dir count is below) = let a = exact_kind f 17 _ e in let b = count_kind f dir count is in absurd (omega (arith, a.0, a.1, b.0, b.1))
  says_stream_limit f stream_id said e (control g is may) = absurd (no_control 17 17 f.kind (exact_kind f 17 _ e) (control_kind f g is) (inl (omega arith)) (inr (omega arith)) (omega arith))
  says_stream_limit f stream_id said e (close reason is shut) = let a = exact_kind f 17 _ e in let b = close_kind f reason is in absurd (omega (arith, a.0, a.1, b.0, b.1))

  pub says_stream : (f : QuicFrame) (said : StreamFrame) → f ≡ stream_form said → IsKeptFrame c came f → IsSending c.space.streams said.id
  says_stream f said e (ping is) = let a = form_kind f said e in let b = exact_kind f 1 [] is in absurd (omega (arith, a.0, a.1, b.0, b.1))
  says_stream f said e (response echoed is) = let a = form_kind f said e in let b = exact_kind f 27 _ is in absurd (omega (arith, a.0, a.1, b.0, b.1))
  says_stream f said e (ack ranges is apart all) = let a = form_kind f said e in let b = ack_kind f ranges is in absurd (omega (arith, a.0, a.1, b.0, b.1))
  says_stream f said e (stream run is named) = let same : said.id ≡ run.id = same_stream said run (sym e ∙ is) in rw same named
  says_stream f said e (reset id code size is named) = let a = form_kind f said e in let b = exact_kind f 4 _ is in absurd (omega (arith, a.0, a.1, b.0, b.1))
  says_stream f said e (stop id code is named) = let a = form_kind f said e in let b = exact_kind f 5 _ is in absurd (omega (arith, a.0, a.1, b.0, b.1))
  says_stream f said e (max_data limit is below) = let a = form_kind f said e in let b = exact_kind f 16 _ is in absurd (omega (arith, a.0, a.1, b.0, b.1))
  says_stream f said e (max_stream_data id limit is named below) = let a = form_kind f said e in let b = exact_kind f 17 _ is in absurd (omega (arith, a.0, a.1, b.0, b.1))
  says_stream f said e (max_streams dir count is below) = let a = form_kind f said e in let b = count_kind f dir count is in absurd (omega (arith, a.0, a.1, b.0, b.1))
  says_stream f said e (control g is may) = absurd (no_control 10 15 f.kind (form_kind f said e) (control_kind f g is) (inl (omega arith)) (inr (omega arith)) (omega arith))
  says_stream f said e (close reason is shut) = let a = form_kind f said e in let b = close_kind f reason is in absurd (omega (arith, a.0, a.1, b.0, b.1))

  pub says_reset : (f : QuicFrame) (stream_id said final : ℕ) → f ≡ frame 4 (Num stream_id ∷ Num said ∷ Num final ∷ []) → IsKeptFrame c came f → IsSending c.space.streams stream_id
  says_reset f stream_id said final e (ping is) = let a = exact_kind f 4 _ e in let b = exact_kind f 1 [] is in absurd (omega (arith, a.0, a.1, b.0, b.1))
  says_reset f stream_id said final e (response echoed is) = let a = exact_kind f 4 _ e in let b = exact_kind f 27 _ is in absurd (omega (arith, a.0, a.1, b.0, b.1))
  says_reset f stream_id said final e (ack ranges is apart all) = let a = exact_kind f 4 _ e in let b = ack_kind f ranges is in absurd (omega (arith, a.0, a.1, b.0, b.1))
  says_reset f stream_id said final e (stream run is named) = let a = exact_kind f 4 _ e in let b = form_kind f run is in absurd (omega (arith, a.0, a.1, b.0, b.1))
  says_reset f stream_id said final e (reset id code size is named) = let same : stream_id ≡ id = front_number (sym e ∙ is) in rw same named
  says_reset f stream_id said final e (stop id code is named) = let a = exact_kind f 4 _ e in let b = exact_kind f 5 _ is in absurd (omega (arith, a.0, a.1, b.0, b.1))
  says_reset f stream_id said final e (max_data limit is below) = let a = exact_kind f 4 _ e in let b = exact_kind f 16 _ is in absurd (omega (arith, a.0, a.1, b.0, b.1))
  says_reset f stream_id said final e (max_stream_data id limit is named below) = let a = exact_kind f 4 _ e in let b = exact_kind f 17 _ is in absurd (omega (arith, a.0, a.1, b.0, b.1))
  says_reset f stream_id said final e (max_streams dir count is below) = let a = exact_kind f 4 _ e in let b = count_kind f dir count is in absurd (omega (arith, a.0, a.1, b.0, b.1))
  says_reset f stream_id said final e (control g is may) = absurd (no_control 4 4 f.kind (exact_kind f 4 _ e) (control_kind f g is) (inr (omega arith)) (inr (omega arith)) (omega arith))
  says_reset f stream_id said final e (close reason is shut) = let a = exact_kind f 4 _ e in let b = close_kind f reason is in absurd (omega (arith, a.0, a.1, b.0, b.1))

  pub says_stop : (f : QuicFrame) (stream_id said : ℕ) → f ≡ frame 5 (Num stream_id ∷ Num said ∷ []) → IsKeptFrame c came f → IsReading c.space.streams stream_id
  says_stop f stream_id said e (ping is) = let a = exact_kind f 5 _ e in let b = exact_kind f 1 [] is in absurd (omega (arith, a.0, a.1, b.0, b.1))
  says_stop f stream_id said e (response echoed is) = let a = exact_kind f 5 _ e in let b = exact_kind f 27 _ is in absurd (omega (arith, a.0, a.1, b.0, b.1))
  says_stop f stream_id said e (ack ranges is apart all) = let a = exact_kind f 5 _ e in let b = ack_kind f ranges is in absurd (omega (arith, a.0, a.1, b.0, b.1))
  says_stop f stream_id said e (stream run is named) = let a = exact_kind f 5 _ e in let b = form_kind f run is in absurd (omega (arith, a.0, a.1, b.0, b.1))
  says_stop f stream_id said e (reset id code size is named) = let a = exact_kind f 5 _ e in let b = exact_kind f 4 _ is in absurd (omega (arith, a.0, a.1, b.0, b.1))
  says_stop f stream_id said e (stop id code is named) = let same : stream_id ≡ id = front_number (sym e ∙ is) in rw same named
  says_stop f stream_id said e (max_data limit is below) = let a = exact_kind f 5 _ e in let b = exact_kind f 16 _ is in absurd (omega (arith, a.0, a.1, b.0, b.1))
  says_stop f stream_id said e (max_stream_data id limit is named below) = let a = exact_kind f 5 _ e in let b = exact_kind f 17 _ is in absurd (omega (arith, a.0, a.1, b.0, b.1))
  says_stop f stream_id said e (max_streams dir count is below) = let a = exact_kind f 5 _ e in let b = count_kind f dir count is in absurd (omega (arith, a.0, a.1, b.0, b.1))
  says_stop f stream_id said e (control g is may) = absurd (no_control 5 5 f.kind (exact_kind f 5 _ e) (control_kind f g is) (inr (omega arith)) (inr (omega arith)) (omega arith))
  says_stop f stream_id said e (close reason is shut) = let a = exact_kind f 5 _ e in let b = close_kind f reason is in absurd (omega (arith, a.0, a.1, b.0, b.1))

  pub says_ack : (f : QuicFrame) (n : ℕ) → Covers f n → IsKeptFrame c came f → HasComeWith c came n
  says_ack f n covers (ping is) = let a = half_kind f covers.0 in let b = exact_kind f 1 [] is in absurd (omega (arith, a.0, a.1, b.0, b.1))
  says_ack f n covers (response echoed is) = let a = half_kind f covers.0 in let b = exact_kind f 27 _ is in absurd (omega (arith, a.0, a.1, b.0, b.1))
  says_ack f n covers (ack ranges is apart all) = all n covers
  says_ack f n covers (stream run is named) = let a = half_kind f covers.0 in let b = form_kind f run is in absurd (omega (arith, a.0, a.1, b.0, b.1))
  says_ack f n covers (reset id code size is named) = let a = half_kind f covers.0 in let b = exact_kind f 4 _ is in absurd (omega (arith, a.0, a.1, b.0, b.1))
  says_ack f n covers (stop id code is named) = let a = half_kind f covers.0 in let b = exact_kind f 5 _ is in absurd (omega (arith, a.0, a.1, b.0, b.1))
  says_ack f n covers (max_data limit is below) = let a = half_kind f covers.0 in let b = exact_kind f 16 _ is in absurd (omega (arith, a.0, a.1, b.0, b.1))
  says_ack f n covers (max_stream_data id limit is named below) = let a = half_kind f covers.0 in let b = exact_kind f 17 _ is in absurd (omega (arith, a.0, a.1, b.0, b.1))
  says_ack f n covers (max_streams dir count is below) = let a = half_kind f covers.0 in let b = count_kind f dir count is in absurd (omega (arith, a.0, a.1, b.0, b.1))
  says_ack f n covers (control g is may) = absurd (no_control 2 3 f.kind (half_kind f covers.0) (control_kind f g is) (inr (omega arith)) (inr (omega arith)) (omega arith))
  says_ack f n covers (close reason is shut) = let a = half_kind f covers.0 in let b = close_kind f reason is in absurd (omega (arith, a.0, a.1, b.0, b.1))

  pub says_close : (f : QuicFrame) → is_close f ≡ true → IsKeptFrame c came f → is_open c.state ≡ false
  says_close f closing (ping is) = let a = closing_kind f closing in let b = exact_kind f 1 [] is in absurd (omega (arith, a.0, a.1, b.0, b.1))
  says_close f closing (response echoed is) = let a = closing_kind f closing in let b = exact_kind f 27 _ is in absurd (omega (arith, a.0, a.1, b.0, b.1))
  says_close f closing (ack ranges is apart all) = let a = closing_kind f closing in let b = ack_kind f ranges is in absurd (omega (arith, a.0, a.1, b.0, b.1))
  says_close f closing (stream run is named) = let a = closing_kind f closing in let b = form_kind f run is in absurd (omega (arith, a.0, a.1, b.0, b.1))
  says_close f closing (reset id code size is named) = let a = closing_kind f closing in let b = exact_kind f 4 _ is in absurd (omega (arith, a.0, a.1, b.0, b.1))
  says_close f closing (stop id code is named) = let a = closing_kind f closing in let b = exact_kind f 5 _ is in absurd (omega (arith, a.0, a.1, b.0, b.1))
  says_close f closing (max_data limit is below) = let a = closing_kind f closing in let b = exact_kind f 16 _ is in absurd (omega (arith, a.0, a.1, b.0, b.1))
  says_close f closing (max_stream_data id limit is named below) = let a = closing_kind f closing in let b = exact_kind f 17 _ is in absurd (omega (arith, a.0, a.1, b.0, b.1))
  says_close f closing (max_streams dir count is below) = let a = closing_kind f closing in let b = count_kind f dir count is in absurd (omega (arith, a.0, a.1, b.0, b.1))
  says_close f closing (control g is may) = absurd (no_control 28 29 f.kind (closing_kind f closing) (control_kind f g is) (inl (omega arith)) (inl (omega arith)) (omega arith))
  says_close f closing (close reason is shut) = shut
