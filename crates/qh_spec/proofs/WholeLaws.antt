-- A stream that is whole is so with one list of bytes, and with one message of a kind.
use Rattle.std.proofs.Common.{◌≡◌, ◌<◌, ℕ, ◌-◌, true, List, [], length, get_or, Some, refl, sym, ap, ◌∙◌, subst, arith}
use Rattle.std.specs.Prelude.{slice_get}
use Rattle.std.proofs.lemmas.Option.{slice_get-get_or}
use Rattle.qh_spec.specs.declared.sides.Side.{Side}
use Rattle.qh_spec.specs.Carried.{HasRun, Carries, CarriesEnd}
use Rattle.qh_spec.specs.Lists.{In}
use Rattle.qh_spec.specs.Message.{PlainMessage}
use Rattle.qh_spec.specs.QuicFrame.{StreamFrame}
use Rattle.qh_spec.specs.Same.{SameMessage, SameKind}
use Rattle.qh_spec.specs.Spelling.{Spells}
use Rattle.qh_spec.specs.Whole.{IsWholeStream, IsWhole}
use Rattle.qh_spec.proofs.CarriedLaws.{carries_more, carries_end_more}
use Rattle.qh_spec.proofs.Members.{same_list}
use Rattle.qh_spec.proofs.MessageLaws.{spells_one, spells_closed}

pub whole_follows : (k : ℕ) (ds : List (List ℕ)) (s : Side) (stream : ℕ) (bytes : List ℕ) (m : PlainMessage)
    → IsWholeStream k ds s stream bytes → Spells bytes m → IsWhole k ds s stream m
whole_follows k ds s stream bytes m w p = record { bytes = bytes; stream_is = w; spells = p }

-- bytes that are carried up to an end, in datagrams that don't contradict themselves and carry nothing behind it
pub whole_where_one : (k : ℕ) (ds : List (List ℕ)) (s : Side) (stream : ℕ) (bytes : List ℕ)
    → ((offset byte : ℕ) → slice_get bytes offset ≡ Some byte → Carries k ds s stream offset byte)
    → ((offset b c : ℕ) → Carries k ds s stream offset b → Carries k ds s stream offset c → b ≡ c)
    → ((offset byte : ℕ) → Carries k ds s stream offset byte → offset < length bytes)
    → CarriesEnd k ds s stream (length bytes) → ((m n : ℕ) → CarriesEnd k ds s stream m → CarriesEnd k ds s stream n → m ≡ n)
    → IsWholeStream k ds s stream bytes
whole_where_one k ds s stream bytes all one within ends once = record {
  all = all;
  only = λ o b q.
      let here : slice_get bytes o ≡ Some (get_or bytes o 0) = slice_get-get_or bytes o 0 (within o b q) in
      here ∙ ap Some (one o (get_or bytes o 0) b (all o (get_or bytes o 0) here) q);
  ends = ends;
  once = λ n q. once n (length bytes) q ends;
}

pub one_stream : (k : ℕ) (ds : List (List ℕ)) (s : Side) (stream : ℕ) (bytes others : List ℕ)
    → IsWholeStream k ds s stream bytes → IsWholeStream k ds s stream others → bytes ≡ others
one_stream k ds s stream bytes others p q =
    same_list bytes others (q.once (length bytes) p.ends) (λ o b e. q.only o b (p.all o b e))

pub one_whole : (k : ℕ) (ds : List (List ℕ)) (s : Side) (stream : ℕ) (m n : PlainMessage)
    → IsWhole k ds s stream m → IsWhole k ds s stream n → SameKind m.head n.head → SameMessage m n
one_whole k ds s stream m n p q kind =
    let same = one_stream k ds s stream p.bytes q.bytes p.stream_is q.stream_is in
    spells_one q.bytes m n kind (subst (λ (z : List ℕ). Spells z m) same p.spells) q.spells

pub same_whole : (k : ℕ) (ds : List (List ℕ)) (s : Side) (stream : ℕ) (m n : PlainMessage)
    → IsWhole k ds s stream m → SameMessage m n → IsWhole k ds s stream n
same_whole k ds s stream m n p e = record { bytes = p.bytes; stream_is = p.stream_is; spells = spells_closed p.bytes m n e p.spells }

-- the same datagrams, in any order and however often
pub whole_in_any_order : (k : ℕ) (xs ys : List (List ℕ)) → ((d : List ℕ) → In d xs → In d ys) → ((d : List ℕ) → In d ys → In d xs)
    → (s : Side) (stream : ℕ) (m : PlainMessage) → IsWhole k xs s stream m → IsWhole k ys s stream m
whole_in_any_order k xs ys f g s stream m p = record {
  bytes = p.bytes;
  stream_is = record {
    all = λ o b e. carries_more k xs ys f s stream o b (p.stream_is.all o b e);
    only = λ o b q. p.stream_is.only o b (carries_more k ys xs g s stream o b q);
    ends = carries_end_more k xs ys f s stream (length p.bytes) p.stream_is.ends;
    once = λ n q. p.stream_is.once n (carries_end_more k ys xs g s stream n q);
  };
  spells = p.spells;
}

-- no datagrams carry nothing
pub nothing_whole : (k : ℕ) (s : Side) (stream : ℕ) (m : PlainMessage) → IsWhole k [] s stream m → ⊥
nothing_whole k s stream m p = p.stream_is.ends.has.among

-- a STREAM frame from the start to the end of a stream, alone on it, makes it whole
pub one_frame_whole : (k : ℕ) (ds : List (List ℕ)) (s : Side) (run : StreamFrame) → HasRun k ds s run → run.offset ≡ 0 → run.fin ≡ true
    → ((r : StreamFrame) → HasRun k ds s r → r.id ≡ run.id → run ≡ r) → IsWholeStream k ds s run.id run.payload
one_frame_whole k ds s run has start fin only = record {
  all = λ o b e. record {
    run = run;
    has = has;
    stream_is = refl;
    from = omega (arith, start);
    byte_is = let here : o - run.offset ≡ o = omega (arith, start) in rw here e;
  };
  only = λ o b q.
      let same : run ≡ q.run = only q.run q.has q.stream_is in
      let zero_too : q.run.offset ≡ 0 = ap (λ (z : StreamFrame). z.offset) (sym same) ∙ start in
      let here : o - q.run.offset ≡ o = omega (arith, zero_too) in
      let there : slice_get q.run.payload o ≡ Some b = subst (λ (z : ℕ). slice_get q.run.payload z ≡ Some b) here q.byte_is in
      subst (λ (z : StreamFrame). slice_get z.payload o ≡ Some b) (sym same) there;
  ends = record { run = run; has = has; stream_is = refl; fin = fin; end_is = omega (arith, start) };
  once = λ n q.
      let same : run ≡ q.run = only q.run q.has q.stream_is in
      let zero_too : q.run.offset ≡ 0 = ap (λ (z : StreamFrame). z.offset) (sym same) ∙ start in
      let long : length q.run.payload ≡ length run.payload = ap (λ (z : StreamFrame). length z.payload) (sym same) in
      let end = q.end_is in
      omega (arith, zero_too, long, end);
}
