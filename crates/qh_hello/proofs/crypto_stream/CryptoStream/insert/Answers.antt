use Rattle.std.proofs.Common.{◌∙◌, Result, Ok, Err, OnOk, inr, subst}
use Rattle.qh_buffers.proofs.AssemblerReads.{at_err}
use Rattle.qh_buffers.specs.declared.assembler.Chunk.{Chunk}
use Rattle.qh_hello.specs.Crypto.{PlainCrypto, HasTaken}
use Rattle.qh_hello.proofs.CryptoPieces.{taken_inserted}
use Rattle.qh_hello.proofs.crypto_stream.CryptoStream.insert.Goals as goal

at_ok : {T E : Type 0} (r : Result T E) (P : Type 0) → P → OnOk r P
at_ok (Ok x) P p = p
at_ok (Err e) P p = tt

taken : (c : goal.After-take_front) → HasTaken c.args.self.now c.take_front.new.self (record { offset = c.args.offset; bytes = c.args.payload })
taken c k =
    let old : PlainCrypto = record { waiting = c.self.inside.waiting; bytes = c.self.inside.bytes.items; end = c.self.inside.end } in
    let piece : Chunk = record { offset = c.args.offset; bytes = c.args.payload } in
    let mid : PlainCrypto = record { waiting = c.insert.new.self; bytes = c.self.inside.bytes.items; end = c.max-self-inside.result } in
    c.take_front.ensures.kept k
    ∙ subst (λ (v : PlainCrypto). HasTaken v mid piece) c.self.view_is (taken_inserted old c.insert.new.self c.max-self-inside.result piece c.self.invariant c.in_ok-insert.ensures.ok) k

pub returns-clause-ok : goal.returns-clause-ok
returns-clause-ok c = at_ok c.take_front.result _ (taken c)

pub returns-clause-err : goal.returns-clause-err
returns-clause-err c = at_err c.take_front.result _ (inr (taken c))
