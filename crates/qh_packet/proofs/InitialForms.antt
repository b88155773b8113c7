-- Steps of reading and writing Initial packets.
use Rattle.std.proofs.Common.{◌≡◌, ℕ, ◌+◌, ◌-◌, ◌<◌, ◌≤◌, ◌^◌, max, replicate, Bool, true, false, inl, inr, List, ◌∷◌, ◌++◌, length, refl, sym, ap, ◌∙◌, arith, subst, append_assoc, length-append}
use Rattle.std.proofs.lemmas.Bool.{cases_lt, lt-ltb, le-ltb}
use Rattle.std.proofs.lemmas.List.{length-replicate}
use Rattle.qh_spec.specs.Datagram.{IsInitialForm}
use Rattle.qh_spec.specs.QuicFrames.{Counted, Text, IsValue}
use Rattle.qh_spec.specs.Varint.{IsVarint, two, varint}
use Rattle.qh_spec.proofs.Cuts.{halves}
use Rattle.qh_spec.proofs.FrameLaws.{numbers_agree}
use Rattle.qh_spec.proofs.Varints.{varint_spelled}
use Rattle.qh_packet.specs.Initial.{BeginsWithInitial, body_length, initial_bytes, initial_filled, initial_size, bare_size, is_short, filled}
use Rattle.qh_packet.specs.LongHeader.{IsLongHeader, long_head}
use Rattle.qh_packet.specs.Packet.{low_bytes}
use Rattle.qh_packet.proofs.LongHeaders.{long_whole}

-- counted bytes are read in one way
pub after_counted : (bytes v x w y : List ℕ) → IsValue Counted bytes (Text v) x → IsValue Counted bytes (Text w) y → x ≡ y
after_counted bytes v x w y p q =
    let r = numbers_agree bytes p.0 q.0 (length v) (length w) p.1 q.1 in
    (halves v x w y r.0 (sym p.2 ∙ r.1 ∙ q.2)).1

pub counted_at : (x y v a : List ℕ) → x ≡ y → IsValue Counted x (Text v) a → IsValue Counted y (Text v) a
counted_at x y v a e p = subst (λ (z : List ℕ). IsValue Counted z (Text v) a) e p

-- an Initial packet's parts, read one after another
pub record FormParts (bytes : List ℕ) (first : ℕ) (d s t body rest : List ℕ) : Type 0 where
  pub after_source : List ℕ
  pub after_token : List ℕ
  pub header : IsLongHeader bytes first 1 d s after_source
  pub initial_type : first < 208
  pub token_is : IsValue Counted after_source (Text t) after_token
  pub body_is : IsValue Counted after_token (Text body) rest

pub form_parts : (bytes front rest body : List ℕ) (first : ℕ) → bytes ≡ front ++ rest → (i : IsInitialForm front first body) → FormParts bytes first i.destination i.source i.token body rest
form_parts bytes front rest body first e i =
    let d : List ℕ = i.destination in
    let s : List ℕ = i.source in
    let t : List ℕ = i.token ++ (i.body_length ++ body) in
    let x : List ℕ = i.token_length ++ t in
    let initial = i.initial_type in
    record {
      after_source = i.token_length ++ (t ++ rest);
      after_token = i.body_length ++ (body ++ rest);
      header = record {
        whole = e ∙ ap (λ (z : List ℕ). z ++ rest) i.whole
            ∙ ap (λ (z : List ℕ). first ∷ 0 ∷ 0 ∷ 0 ∷ 1 ∷ length d ∷ z) (append_assoc d (length s ∷ (s ++ x)) rest ∙ ap (λ (z : List ℕ). d ++ (length s ∷ z)) (append_assoc s x rest ∙ ap (λ (z : List ℕ). s ++ z) (append_assoc i.token_length t rest)))
            ∙ sym (long_whole first 1 d s (i.token_length ++ (t ++ rest)));
        long_form = i.long_header;
        first_fits = omega arith;
        version_fits = omega arith;
        destination_fits = i.destination_fits;
        source_fits = i.source_fits;
      };
      initial_type = i.initial_type;
      token_is = (t ++ rest, (i.token_length, refl, i.token_is), append_assoc i.token (i.body_length ++ body) rest ∙ ap (λ (z : List ℕ). i.token ++ z) (append_assoc i.body_length body rest));
      body_is = (body ++ rest, (i.body_length, refl, i.body_is), refl);
    }

pub form_from : (bytes : List ℕ) (first : ℕ) (d s t body rest : List ℕ) → FormParts bytes first d s t body rest → BeginsWithInitial bytes first d s t body rest
form_from bytes first d s t body rest p =
    let token = p.token_is in
    let number_t = token.1 in
    let body_is = p.body_is in
    let number_b = body_is.1 in
    let lt : List ℕ = number_t.0 in
    let lb : List ℕ = number_b.0 in
    let y : List ℕ = t ++ (lb ++ body) in
    let x : List ℕ = lt ++ y in
    let header = p.header in
    let e4 : p.after_token ≡ (lb ++ body) ++ rest = number_b.1 ∙ ap (λ (z : List ℕ). lb ++ z) body_is.2 ∙ sym (append_assoc lb body rest) in
    let e3 : p.after_source ≡ x ++ rest =
    number_t.1 ∙ ap (λ (z : List ℕ). lt ++ z) (token.2 ∙ ap (λ (z : List ℕ). t ++ z) e4 ∙ sym (append_assoc t (lb ++ body) rest)) ∙ sym (append_assoc lt y rest) in
    let e2 : d ++ (length s ∷ (s ++ p.after_source)) ≡ (d ++ (length s ∷ (s ++ x))) ++ rest =
    ap (λ (z : List ℕ). d ++ (length s ∷ z)) (ap (λ (z : List ℕ). s ++ z) e3 ∙ sym (append_assoc s x rest)) ∙ sym (append_assoc d (length s ∷ (s ++ x)) rest) in
    record {
      front = first ∷ 0 ∷ 0 ∷ 0 ∷ 1 ∷ length d ∷ (d ++ (length s ∷ (s ++ x)));
      whole = header.whole ∙ long_whole first 1 d s p.after_source ∙ ap (λ (z : List ℕ). first ∷ 0 ∷ 0 ∷ 0 ∷ 1 ∷ length d ∷ z) e2;
      form = record {
        destination = d;
        source = s;
        token_length = lt;
        token = t;
        body_length = lb;
        body_is = number_b.2;
        whole = refl;
        long_header = header.long_form;
        initial_type = p.initial_type;
        destination_fits = header.destination_fits;
        source_fits = header.source_fits;
        token_is = number_t.2;
      };
      destination_is = refl;
      source_is = refl;
      token_is = refl;
    }

joined : (h v t l b r : List ℕ) → ((h ++ (v ++ t)) ++ (l ++ b)) ++ r ≡ h ++ (v ++ (t ++ (l ++ (b ++ r))))
joined h v t l b r =
    append_assoc (h ++ (v ++ t)) (l ++ b) r ∙ ap (λ (z : List ℕ). (h ++ (v ++ t)) ++ z) (append_assoc l b r) ∙ append_assoc h (v ++ t) (l ++ (b ++ r))
    ∙ ap (λ (z : List ℕ). h ++ z) (append_assoc v t (l ++ (b ++ r)))

-- a length is read from each form
pub body_length_is : (is_wide : Bool) (n : ℕ) → n < 2 ^ 14 → IsVarint (body_length is_wide n) n
body_length_is true n bound = two bound refl
body_length_is false n bound = varint_spelled n (omega arith)

-- what is written is read
pub written_form : (d s t frames tag rest : List ℕ) (number : ℕ) (is_wide : Bool) → length d ≤ 20 → length s ≤ 20 → length t < 2 ^ 14 → 36 + length frames < 2 ^ 14 → length tag ≡ 32
    → BeginsWithInitial (initial_bytes d s t number is_wide frames tag ++ rest) 195 d s t (low_bytes number ++ (frames ++ tag)) rest
written_form d s t frames tag rest number is_wide fits_d fits_s fits_t fits_f tag_is =
    let body : List ℕ = low_bytes number ++ (frames ++ tag) in
    let lb : List ℕ = body_length is_wide (36 + length frames) in
    let size : 36 + length frames ≡ length body = omega (arith, length-append frames tag, tag_is) in
    form_from (initial_bytes d s t number is_wide frames tag ++ rest) 195 d s t body rest (record {
      after_source = varint (length t) ++ (t ++ (lb ++ (body ++ rest)));
      after_token = lb ++ (body ++ rest);
      header = record {
        whole = joined (long_head 195 1 d s) (varint (length t)) t lb body rest;
        long_form = omega arith;
        first_fits = omega arith;
        version_fits = omega arith;
        destination_fits = fits_d;
        source_fits = fits_s;
      };
      initial_type = omega arith;
      token_is = (t ++ (lb ++ (body ++ rest)), (varint (length t), refl, varint_spelled (length t) (omega arith)), refl);
      body_is = (body ++ rest, (lb, refl, subst (λ (n : ℕ). IsVarint lb n) size (body_length_is is_wide (36 + length frames) fits_f)), refl);
    })

-- a number below 2^14 has one byte or two
varint_small : (n : ℕ) → n < 2 ^ 14 → (1 ≤ length (varint n)) × (length (varint n) ≤ 2)
unfolding varint
varint_small n bound =
    elim (cases_lt n (2 ^ 6)) [
      | inl one ↦ rw (lt-ltb n (2 ^ 6) one) (omega arith, omega arith)
      | inr more ↦ rw (le-ltb n (2 ^ 6) more, lt-ltb n (2 ^ 14) bound) (omega arith, omega arith)
    ]

bytes_size : (d s t frames tag : List ℕ) (number : ℕ) (is_wide : Bool) → length tag ≡ 32
    → length (initial_bytes d s t number is_wide frames tag) ≡ bare_size d s t frames + length (body_length is_wide (36 + length frames))
bytes_size d s t frames tag number is_wide tag_is =
    omega (
      arith,
      length-append (long_head 195 1 d s ++ (varint (length t) ++ t)) (body_length is_wide (36 + length frames) ++ (low_bytes number ++ (frames ++ tag))),
      length-append (long_head 195 1 d s) (varint (length t) ++ t),
      length-append d (length s ∷ s),
      length-append (varint (length t)) t,
      length-append (body_length is_wide (36 + length frames)) (low_bytes number ++ (frames ++ tag)),
      length-append frames tag,
      tag_is,
    )

-- as many bytes as are wanted, or as are needed
pub written_size : (d s t frames tag : List ℕ) (number size : ℕ) → 36 + length frames < 2 ^ 14 → length tag ≡ 32
    → length (initial_filled d s t number frames size tag) ≡ max size (initial_size d s t frames)
written_size d s t frames tag number size fits tag_is =
    let small = varint_small (36 + length frames) fits in
    let gap : ℕ = size - (bare_size d s t frames + 2) in
    let all : length (filled d s t frames size) ≡ length frames + gap = length-append frames (replicate gap 0) ∙ ap (λ (n : ℕ). length frames + n) (length-replicate {A = ℕ} gap 0) in
    let whole = bytes_size d s t (filled d s t frames size) tag number (is_short d s t frames size) tag_is in
    elim (cases_lt (initial_size d s t frames) size) [
      | inl less ↦
          let wide : is_short d s t frames size ≡ true = lt-ltb (initial_size d s t frames) size less in
          let two_bytes : length (body_length (is_short d s t frames size) (36 + length (filled d s t frames size))) ≡ 2 = rw wide refl in
          omega (arith, whole, two_bytes, all, small.0, small.1, less)
      | inr enough ↦
          let narrow : is_short d s t frames size ≡ false = le-ltb (initial_size d s t frames) size enough in
          let none : gap ≡ 0 = omega (arith, small.1, enough) in
          let same : length (filled d s t frames size) ≡ length frames = omega (arith, all, none) in
          let shortest : length (body_length (is_short d s t frames size) (36 + length (filled d s t frames size))) ≡ length (varint (36 + length frames)) =
          ap (λ (b : Bool). length (body_length b (36 + length (filled d s t frames size)))) narrow ∙ ap (λ (n : ℕ). length (varint (36 + n))) same in
          omega (arith, whole, shortest, same, enough)
    ]
