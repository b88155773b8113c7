-- Worked rows of a token log and of commands on it.
use Rattle.std.proofs.Common.{◌≡◌, ℕ, List, [], ◌∷◌, ◌++◌, codes, Some, None, refl, sym, ap, ◌∙◌, arith}
use Rattle.std.specs.Fmt.{digits}
use Rattle.qh_spec.specs.TokenScript.{TokenLine, Empty, Log, Look, IsTokenLine, empty, log, look, TokenScript, empty_tokens, applied, IsTaken, IsTokenRefusedAt, at_line, unlimited, token_report}
use Rattle.qh_spec.proofs.TokenTexts.{token_line_one}

-- a line that makes nothing of these commands isn't taken
untaken : (text : List ℕ) (l : TokenLine) (s t : TokenScript) → IsTokenLine text l → applied l s ≡ None → IsTaken text s t → ⊥
untaken text l s t is none taken =
    let same = token_line_one text l taken.line is taken.is in
    let both : None ≡ Some t = sym none ∙ ap (λ (m : TokenLine). applied m s) same ∙ taken.makes in
    absurd cc

pub repeated : token_report (record { max_bytes = 800; k_num = 22 })
    (record { nonce = 7; issued = 0; lifetime = 10 } ∷ record { nonce = 7; issued = 0; lifetime = 10 } ∷ record { nonce = 8; issued = 0; lifetime = 0 } ∷ [])
    ≡ codes "ok" ++ 10 ∷ codes "reused" ++ 10 ∷ codes "reused" ++ 10 ∷ codes "ok 3" ++ 10 ∷ []
unfolding digits
repeated = refl

pub tiny : token_report (record { max_bytes = 0; k_num = 1 })
    (record { nonce = 7; issued = 0; lifetime = 10 } ∷ record { nonce = 8; issued = 0; lifetime = 10 } ∷ [])
    ≡ codes "ok" ++ 10 ∷ codes "reused" ++ 10 ∷ codes "ok 2" ++ 10 ∷ []
unfolding digits
tiny = refl

pub moving : token_report (record { max_bytes = 800; k_num = 22 })
    (record { nonce = 7; issued = 0; lifetime = 10 } ∷ record { nonce = 8; issued = 10; lifetime = 10 } ∷ record { nonce = 7; issued = 0; lifetime = 10 }
    ∷ record { nonce = 7; issued = 30; lifetime = 10 } ∷ record { nonce = 8; issued = 10; lifetime = 10 } ∷ [])
    ≡ codes "ok" ++ 10 ∷ codes "ok" ++ 10 ∷ codes "reused" ++ 10 ∷ codes "ok" ++ 10 ∷ codes "reused" ++ 10 ∷ codes "ok 5" ++ 10 ∷ []
unfolding digits
moving = refl

pub nothing_refused : IsTokenRefusedAt [] 1
nothing_refused = unlimited (omega arith) refl

look_line : IsTokenLine (codes "token 1 2 3") (Look (record { nonce = 1; issued = 2; lifetime = 3 }))
unfolding digits
look_line = look 1 2 3 refl (omega arith) (omega arith) (omega arith)

pub unlimited_refused : IsTokenRefusedAt (codes "token 1 2 3") 1
unlimited_refused = at_line [] (codes "token 1 2 3") [] empty_tokens (omega arith) refl refl (λ t taken. untaken _ _ empty_tokens t look_line refl taken)

log_line : IsTokenLine (codes "tokenlog 1 1") (Log (record { max_bytes = 1; k_num = 1 }))
unfolding digits
log_line = log 1 1 refl (omega arith) (omega arith)

abbrev limited : TokenScript
limited = record { limits = Some (record { max_bytes = 1; k_num = 1 }); tokens = [] }

pub twice_refused : IsTokenRefusedAt (codes "tokenlog 1 1" ++ 10 ∷ 10 ∷ codes "tokenlog 1 1") 3
twice_refused =
    at_line (codes "tokenlog 1 1" ∷ [] ∷ []) (codes "tokenlog 1 1") [] limited (omega arith) refl (
      limited,
      record { line = Log (record { max_bytes = 1; k_num = 1 }); is = log_line; makes = refl },
      (limited, record { line = Empty; is = empty refl; makes = refl }, refl),
    )
    (λ t taken. untaken _ _ limited t log_line refl taken)
