use Rattle.std.proofs.Common.{refl}
use Rattle.qh_incoming_token.specs.IncomingToken.{retry, valid}
use Rattle.qh_endpoint.proofs.Tokens.{by_the_log, only_retried}
use Rattle.qh_endpoint.proofs.laws.tokens_come_back.Goals as goal

pub returns-clause-retried : goal.returns-clause-retried
returns-clause-retried g c now later w old new written lifetimes log lives r = (r.id, r.token, r.written_is, retry _ r.token_is refl (record { sender = record { address = refl; lives = lives }; port = refl }) refl)

pub returns-clause-validated : goal.returns-clause-validated
returns-clause-validated g c now later nonce remote token id lifetimes before after lives is look = valid _ is refl (record { address = refl; lives = lives }) look

pub returns-clause-only_retried : goal.returns-clause-only_retried
returns-clause-only_retried g c now later w old new written lifetimes lives r =
    (r.id, r.token, r.written_is, λ before after. only_retried g.K.T.TokenLog.limits g.K.T.TokenLog.stands lifetimes w.addresses.remote later r.id r.token _ r.token_is before after refl (record { sender = record { address = refl; lives = lives }; port = refl }))

pub returns-clause-by_the_log : goal.returns-clause-by_the_log
returns-clause-by_the_log g c now later nonce remote token id lifetimes before after answer lives is taken =
    by_the_log g.K.T.TokenLog.limits g.K.T.TokenLog.stands lifetimes remote later id token _ is before after refl (record { address = refl; lives = lives }) answer taken
