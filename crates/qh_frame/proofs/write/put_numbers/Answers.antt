use Rattle.std.proofs.Common.{◌≡◌, ℕ, ◌+◌, ◌<◌, List, [], ◌∷◌, ◌++◌, length, take, get_or, refl, sym, ap, ◌∙◌, append_assoc}
use Rattle.std.proofs.lemmas.List.{take_more, append-nil}
use Rattle.qh_frame.proofs.FramesWritten.{on_ok}
use Rattle.qh_frame.specs.FrameBytes.{numbers_bytes}
use Rattle.qh_spec.specs.Varint.{varint}
use Rattle.qh_frame.proofs.write.put_numbers.Goals as goal

bytes_append : (ns ms : List ℕ) → numbers_bytes (ns ++ ms) ≡ numbers_bytes ns ++ numbers_bytes ms
bytes_append [] ms = refl
bytes_append (n ∷ ns) ms = ap (λ (z : List ℕ). varint n ++ z) (bytes_append ns ms) ∙ sym (append_assoc (varint n) (numbers_bytes ns) (numbers_bytes ms))

more_numbers : (old mid new ns : List ℕ) (i n : ℕ) → mid ≡ old ++ numbers_bytes (take i ns) → new ≡ mid ++ varint n → i < length ns → n ≡ get_or ns i 0
    → new ≡ old ++ numbers_bytes (take (i + 1) ns)
more_numbers old mid new ns i n a b inside is =
    let next : take (i + 1) ns ≡ take i ns ++ n ∷ [] = take_more ns i 0 inside ∙ ap (λ (m : ℕ). take i ns ++ m ∷ []) (sym is) in
    let all : numbers_bytes (take (i + 1) ns) ≡ numbers_bytes (take i ns) ++ varint n =
    ap numbers_bytes next ∙ bytes_append (take i ns) (n ∷ []) ∙ ap (λ (z : List ℕ). numbers_bytes (take i ns) ++ z) (append-nil (varint n)) in
    b ∙ ap (λ (z : List ℕ). z ++ varint n) a ∙ append_assoc old (numbers_bytes (take i ns)) (varint n) ∙ ap (λ (z : List ℕ). old ++ z) (sym all)

pub loop-n-preserved : goal.loop-n-preserved
loop-n-preserved c = (
  more_numbers c.args.out.now.items c.loop-n.out.items c.put_varint.new.out.items c.args.numbers.now c.loop-n.n-index c.number.result c.loop-n.invariant.0
      (on_ok c.put_varint.result c.if-is_err.ensures.value c.put_varint.ensures.ok) c.loop-n-test.true c.number.ensures,
  c.loop-n.invariant.1,
)
