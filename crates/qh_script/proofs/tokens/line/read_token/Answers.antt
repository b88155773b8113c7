use Rattle.qh_script.proofs.TokenLines.{no_token_alone, no_token_short, no_token_nonce, no_token_issued, no_token_lifetime, is_token}
use Rattle.qh_script.proofs.tokens.line.read_token.Goals as goal

pub returns-in_err-nonce : goal.returns-in_err-nonce
returns-in_err-nonce c = rw (c.from_residual.ensures) (no_token_alone c.args.text.now c.in_err-nonce.ensures)

pub returns-in_err-issued : goal.returns-in_err-issued
returns-in_err-issued c =
    rw (c.from_residual-in_err-issued.ensures)
    (no_token_short c.args.text.now c.in_ok-nonce.nonce.now c.in_ok-nonce.behind.now c.in_ok-nonce.ensures c.in_err-issued.ensures)

pub returns-in_err-nonce-2 : goal.returns-in_err-nonce-2
returns-in_err-nonce-2 c =
    rw (c.from_residual-in_err-nonce-2.ensures)
    (no_token_nonce c.args.text.now c.in_ok-nonce.nonce.now c.in_ok-nonce.behind.now c.in_ok-nonce.ensures c.in_err-nonce-2.ensures)

pub returns-in_err-issued-2 : goal.returns-in_err-issued-2
returns-in_err-issued-2 c =
    rw (c.from_residual-in_err-issued-2.ensures)
    (no_token_issued c.args.text.now c.in_ok-nonce.nonce.now c.in_ok-nonce.behind.now c.in_ok-issued.issued.now c.in_ok-issued.lifetime.now
    c.in_ok-nonce.ensures c.in_ok-issued.ensures c.in_err-issued-2.ensures)

pub returns-in_err-lifetime : goal.returns-in_err-lifetime
returns-in_err-lifetime c =
    rw (c.from_residual-in_err-lifetime.ensures)
    (no_token_lifetime c.args.text.now c.in_ok-nonce.nonce.now c.in_ok-nonce.behind.now c.in_ok-issued.issued.now c.in_ok-issued.lifetime.now
    c.in_ok-nonce.ensures c.in_ok-issued.ensures c.in_err-lifetime.ensures)

pub returns : goal.returns
returns c =
    let i = c.in_ok-issued-2.ensures in
    let l = c.in_ok-lifetime.ensures in
    is_token c.args.text.now c.in_ok-nonce.nonce.now c.in_ok-nonce.behind.now c.in_ok-issued.issued.now c.in_ok-issued.lifetime.now
    c.in_ok-nonce-2.nonce c.in_ok-issued-2.issued c.in_ok-lifetime.lifetime c.in_ok-nonce.ensures c.in_ok-issued.ensures c.in_ok-nonce-2.ensures i.0 i.1 l.0 l.1
