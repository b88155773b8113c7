use Rattle.std.proofs.Common.{◌≡◌, ◌-◌, ◌++◌, ℕ, List, length, refl, sym, ap, ◌∙◌, subst}
use Rattle.qh_buffers.specs.Assembler.{IsGiven, IsFrontPiece}
use Rattle.qh_hello.specs.Crypto.{PlainCrypto, IsCrypto, IsInFront, came_at}
use Rattle.qh_hello.proofs.CryptoPieces.{some_of, front_taken, kept_taken, next_taken, next_lacks}
use Rattle.qh_hello.proofs.crypto_stream.CryptoStream.take_front.Goals as goal

-- the bytes in front, with those of the piece behind them
items_are : (c : goal.Joined-chunk-2) → c.extend_from_slice.new.self.items ≡ c.self.inside.bytes.items ++ c.in-Some.chunk.bytes
items_are c = c.in_ok-extend_from_slice.ensures.items ∙ ap (λ (z : List ℕ). z ++ c.deref.result.now) c.in_ok-try_reserve.ensures.items ∙ ap (λ (z : List ℕ). c.self.inside.bytes.items ++ z) c.deref.ensures

given : (c : goal.Joined-chunk-2) → IsGiven c.self.inside.waiting c.read.new.self (c.self.inside.end - c.len.result) c.in-Some.chunk
given c = some_of (IsGiven c.self.inside.waiting c.read.new.self (c.self.inside.end - c.len.result)) _ c.in-Some.chunk c.in-Some.is c.in_ok-chunk.ensures.some

front : (c : goal.Joined-chunk-2) → IsFrontPiece c.self.inside.waiting (c.self.inside.end - c.len.result) c.in-Some.chunk
front c = some_of (IsFrontPiece c.self.inside.waiting (c.self.inside.end - c.len.result)) _ c.in-Some.chunk c.in-Some.is (c.in_ok-chunk.ensures.front refl)

left : (c : goal.Joined-chunk-2) → c.self.inside.end - c.len.result ≡ c.self.inside.end - length c.self.inside.bytes.items
left c = ap (λ (n : ℕ). c.self.inside.end - n) (c.len.ensures ∙ c.self.inside.bytes.ok.0)

pub returns-in_default-clause-front : goal.returns-in_default-clause-front
returns-in_default-clause-front c =
    let lacks = next_lacks (record { waiting = c.self.inside.waiting; bytes = c.self.inside.bytes.items; end = c.self.inside.end }) c.self.invariant (c.in_ok-chunk.ensures.none_ordered c.in_default.is refl) in
    rw (c.in_ok-chunk.ensures.none c.in_default.is, c.in_ok-try_reserve.ensures.items) lacks

pub invariant_of-self-2 : goal.invariant_of-self-2
invariant_of-self-2 c =
    subst (λ (z : List ℕ). IsCrypto (record { waiting = c.read.new.self; bytes = z; end = c.self.inside.end })) (sym (items_are c))
    (front_taken c.self.inside.waiting c.read.new.self (c.self.inside.end - c.len.result) c.self.inside.end c.in-Some.chunk c.self.inside.bytes.items (given c) (front c) (left c) c.self.invariant)

pub returns-clause-kept : goal.returns-clause-kept
returns-clause-kept c k =
    let taken = kept_taken c.self.inside.waiting c.read.new.self (c.self.inside.end - c.len.result) c.self.inside.end c.in-Some.chunk c.self.inside.bytes.items (given c) (front c) c.self.invariant k in
    ap (λ (z : List ℕ). came_at (record { waiting = c.read.new.self; bytes = z; end = c.self.inside.end }) k) (items_are c) ∙ taken ∙ ap (λ (v : PlainCrypto). came_at v k) c.self.view_is

pub returns-clause-front : goal.returns-clause-front
returns-clause-front c =
    subst (λ (z : List ℕ). IsInFront (record { waiting = c.read.new.self; bytes = z; end = c.self.inside.end })) (sym (items_are c))
    (next_taken c.self.inside.waiting c.read.new.self (c.self.inside.end - c.len.result) c.self.inside.end c.in-Some.chunk c.self.inside.bytes.items (given c) (front c) (left c) c.self.invariant)

pub returns-clause-grows : goal.returns-clause-grows
returns-clause-grows c = (c.in-Some.chunk.bytes, items_are c ∙ ap (λ (v : PlainCrypto). v.bytes ++ c.in-Some.chunk.bytes) c.self.view_is)
