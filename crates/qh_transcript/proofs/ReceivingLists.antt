-- What readers got by two transcripts, one after the other, and what more runs that came change of it.
use Rattle.std.proofs.Common.{◌≡◌, ℕ, ◌+◌, ◌==◌, nat_lt, Bool, true, false, ◌||◌, List, [], ◌∷◌, ◌++◌, length, length-append, append-nil, slice_get, Option, Some, None, refl, sym, ap, ◌∙◌, subst, arith, inl, inr}
use Rattle.std.proofs.lemmas.Bool.{eq-eqb, eqb-false, ne_eqb}
use Rattle.qh_half.specs.Recv.{PlainRecv}
use Rattle.qh_spec.specs.Lists.{In}
use Rattle.qh_spec.specs.QuicFrame.{StreamFrame as Run}
use Rattle.qh_spec.specs.Transcript.{Act, Stopped, ReadBytes, ReadEnd, ReadReset, pieces_read, joined, read, ended}
use Rattle.qh_spec.proofs.Members.{in_split}
use Rattle.qh_spec.proofs.TranscriptLaws.{pieces_read-append, read-append, ended-append}
use Rattle.qh_streams.specs.Streams.{PlainStreams}
use Rattle.qh_transcript.specs.Receiving.{HasCome, HasEndCome, IsReaderOf, StandsIn, ReadNothing, piece_acts, reset_acts}

pub none_some : {X : Type 0} (Y : Type 0) (o : Option X) (x : X) → o ≡ None → o ≡ Some x → Y
none_some Y o x none some = cc

pub some_is : {X : Type 0} (x y : X) → Some x ≡ Some y → x ≡ y
some_is x y e = cc

pub apart_back : (k id : ℕ) → (k == id) ≡ false → (id == k) ≡ false
apart_back k id apart = ne_eqb id k (λ same. eqb-false k id apart (sym same))

-- ---- one transcript after another

or_false : (a b : Bool) → b ≡ false → (a || b) ≡ a
or_false true b e = refl
or_false false b e = e

pub same_pieces : (t u : List Act) (id : ℕ) → pieces_read u id ≡ [] → pieces_read (t ++ u) id ≡ pieces_read t id
same_pieces t u id none =
    pieces_read-append t u id ∙ ap (λ (ps : List (ℕ × List ℕ)). pieces_read t id ++ ps) none ∙ append-nil (pieces_read t id)

pub same_count : (t u : List Act) (id : ℕ) → pieces_read u id ≡ [] → length (read (t ++ u) id) ≡ length (read t id)
same_count t u id none = ap (λ (ps : List (ℕ × List ℕ)). length (joined ps)) (same_pieces t u id none)

pub same_end : (t u : List Act) (id : ℕ) → ended u id ≡ false → ended (t ++ u) id ≡ ended t id
same_end t u id none = ended-append t u id ∙ or_false (ended t id) (ended u id) none

-- ---- a piece, an end, and what gives nothing

pub one_piece : (id offset : ℕ) (bytes : List ℕ) → pieces_read (ReadBytes id offset bytes ∷ []) id ≡ (offset, bytes) ∷ []
one_piece id offset bytes = rw (eq-eqb id id refl) refl

pub other_piece : (id offset : ℕ) (bytes : List ℕ) (k : ℕ) → (k == id) ≡ false → pieces_read (ReadBytes id offset bytes ∷ []) k ≡ []
other_piece id offset bytes k apart = rw (apart_back k id apart) refl

pub other_end : (id k : ℕ) → (k == id) ≡ false → ended (ReadEnd id ∷ []) k ≡ false
other_end id k apart = rw (apart_back k id apart) refl

pub more_read : (t : List Act) (id offset : ℕ) (bytes : List ℕ) → length (read (t ++ ReadBytes id offset bytes ∷ []) id) ≡ length (read t id) + length bytes
more_read t id offset bytes =
    let here : read (ReadBytes id offset bytes ∷ []) id ≡ bytes = ap joined (one_piece id offset bytes) ∙ append-nil bytes in
    ap length (read-append t (ReadBytes id offset bytes ∷ []) id) ∙ length-append (read t id) (read (ReadBytes id offset bytes ∷ []) id)
    ∙ ap (λ (xs : List ℕ). length (read t id) + length xs) here

pub nothing_read : ReadNothing []
nothing_read = record { pieces = λ k. refl; ends = λ k. refl }

pub empty_read : (id offset : ℕ) (bytes : List ℕ) → length bytes ≡ 0 → ReadNothing (piece_acts id offset bytes)
empty_read id offset [] none = record { pieces = λ k. refl; ends = λ k. refl }
empty_read id offset (b ∷ bytes) none = absurd (omega arith)

pub stop_reads : (id code : ℕ) → ReadNothing (Stopped id code ∷ [])
stop_reads id code = record { pieces = λ k. refl; ends = λ k. refl }

pub reset_reads : (id code : ℕ) → ReadNothing (ReadReset id code ∷ [])
reset_reads id code = record { pieces = λ k. refl; ends = λ k. refl }

pub told_reads : (id : ℕ) (code : Option ℕ) → ReadNothing (reset_acts id code)
told_reads id None = nothing_read
told_reads id (Some code) = reset_reads id code

-- ---- what a reader got

abbrev pub AllCame : (came : List Run) (id : ℕ) → List (ℕ × List ℕ) → Type 0
AllCame came id ps = (piece : ℕ × List ℕ) → In piece ps → (k byte : ℕ) → slice_get piece.1 k ≡ Some byte → HasCome came id (piece.0 + k) byte

pub none_came : (came : List Run) (id : ℕ) (ps : List (ℕ × List ℕ)) → ps ≡ [] → AllCame came id ps
none_came came id [] e piece there = absurd there
none_came came id (p ∷ ps) e piece there = cc

pub all_came : (came : List Run) (t u : List Act) (id : ℕ) → AllCame came id (pieces_read t id) → AllCame came id (pieces_read u id) → AllCame came id (pieces_read (t ++ u) id)
all_came came t u id before now piece there =
    elim (in_split piece (pieces_read t id) (pieces_read u id) (subst (λ (ps : List (ℕ × List ℕ)). In piece ps) (pieces_read-append t u id) there)) [
      | inl a ↦ before piece a
      | inr b ↦ now piece b
    ]

pub same_reader : (came : List Run) (id : ℕ) (t u : List Act) (r : PlainRecv) → length (read u id) ≡ length (read t id) → ended u id ≡ ended t id → IsReaderOf came id t r → IsReaderOf came id u r
same_reader came id t u r count_is end_is p = record {
  waits = p.waits;
  size = p.size;
  count = p.count ∙ sym count_is;
  in_order = λ ordered k. p.in_order ordered k ∙ ap (λ (n : ℕ). nat_lt k n) (sym count_is);
  ends = λ told. p.ends (sym end_is ∙ told);
}

-- ---- acts that give nothing, and more runs that came

pub others_stand : (s : PlainStreams) (came : List Run) (t u : List Act) → ReadNothing u → StandsIn s came t → StandsIn s came (t ++ u)
others_stand s came t u nothing p = record {
  halves = λ id r is. same_reader came id t (t ++ u) r (same_count t u id (nothing.pieces id)) (same_end t u id (nothing.ends id)) (p.halves id r is);
  pieces = λ id. all_came came t u id (p.pieces id) (none_came came id (pieces_read u id) (nothing.pieces id));
  end = λ id told. subst (λ (n : ℕ). HasEndCome came id n) (sym (same_count t u id (nothing.pieces id))) (p.end id (sym (same_end t u id (nothing.ends id)) ∙ told));
  unopened = λ id closed. let none = p.unopened id closed in (none.0, same_pieces t u id (nothing.pieces id) ∙ none.1, same_end t u id (nothing.ends id) ∙ none.2);
}

more_come : (came more : List Run) → ((run : Run) → In run came → In run more) → (id offset byte : ℕ) → HasCome came id offset byte → HasCome more id offset byte
more_come came more among id offset byte h = record { run = h.run; is = among h.run h.is; stream_is = h.stream_is; from = h.from; byte_is = h.byte_is }

more_end : (came more : List Run) → ((run : Run) → In run came → In run more) → (id end : ℕ) → HasEndCome came id end → HasEndCome more id end
more_end came more among id end h = record { run = h.run; is = among h.run h.is; stream_is = h.stream_is; fin = h.fin; end_is = h.end_is }

more_reader : (came more : List Run) → ((run : Run) → In run came → In run more) → (id : ℕ) (t : List Act) (r : PlainRecv) → IsReaderOf came id t r → IsReaderOf more id t r
more_reader came more among id t r p = record {
  waits = λ k byte e. more_come came more among id k byte (p.waits k byte e);
  size = λ n e. more_end came more among id n (p.size n e);
  count = p.count;
  in_order = p.in_order;
  ends = p.ends;
}

pub more_stand : (s : PlainStreams) (came more : List Run) (t : List Act) → ((run : Run) → In run came → In run more) → StandsIn s came t → StandsIn s more t
more_stand s came more t among p = record {
  halves = λ id r is. more_reader came more among id t r (p.halves id r is);
  pieces = λ id piece there k byte e. more_come came more among id (piece.0 + k) byte (p.pieces id piece there k byte e);
  end = λ id told. more_end came more among id (length (read t id)) (p.end id told);
  unopened = p.unopened;
}
