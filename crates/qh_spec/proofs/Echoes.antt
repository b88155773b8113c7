-- What is written of requests that were echoed is the report of the requests.
use Rattle.std.proofs.Common.{◌≡◌, ℕ, ◌+◌, ◌*◌, List, [], ◌∷◌, ◌++◌, length, take, codes, refl, ap, ◌∙◌, subst, arith}
use Rattle.qh_spec.specs.Echoed.{HasMaps, IsEchoed, AreEchoed}
use Rattle.qh_spec.specs.Message.{PlainHead, Request, Response, PlainMessage}
use Rattle.qh_spec.specs.Record.{PlainEntry}
use Rattle.qh_spec.specs.Report.{entry_block, answer_block, blocks, ok_line, report, echoed_from, echoes, report_of}
use Rattle.qh_spec.specs.Same.{SameHead, SameMessage}
use Rattle.qh_spec.specs.Service.{request_line, echo}
use Rattle.qh_spec.proofs.MapAppend.{named_nil, named_is_map}
use Rattle.qh_spec.proofs.ReportSame.{same_head, same_block}
use Rattle.qh_spec.proofs.SameLaws.{same_trans}

same_line : (a b : PlainHead) → SameHead a b → request_line a ≡ request_line b
same_line (Request m t) (Request n u) s = same_head (Request m t) (Request n u) s
same_line (Response c) (Response d) s = refl
same_line (Request m t) (Response c) s = absurd s
same_line (Response c) (Request m t) s = absurd s

-- requests that are the same are echoed alike
same_echo : (limit : ℕ) (m n : PlainMessage) → SameMessage m n → SameMessage (echo limit m) (echo limit n)
same_echo limit m n s =
    let lines = same_line m.head n.head s.head in
    let bodies = s.body in
    record {
      head = refl;
      fields = λ name. refl;
      body = ap (take limit) (ap (λ (z : List ℕ). z ++ 10 ∷ m.body) lines ∙ ap (λ (z : List ℕ). request_line n.head ++ 10 ∷ z) bodies);
      trailers = s.trailers;
    }

entry_told : (i limit : ℕ) (m : PlainMessage) (e : PlainEntry) (a : PlainMessage) → IsEchoed i limit m e a → HasMaps m → HasMaps e.request
    → entry_block e ≡ entry_block (record { stream = 4 * i; request = m; response = echo limit m })
entry_told i limit m e a is h g =
    same_block (codes "entry") e.stream e.request m g.fields h.fields g.trailers h.trailers is.asked
    ∙ ap (λ (z : ℕ). entry_block (record { stream = z; request = m; response = echo limit m })) is.stream_is

answer_told : (i limit : ℕ) (m : PlainMessage) (e : PlainEntry) (a : PlainMessage) → IsEchoed i limit m e a → HasMaps m → HasMaps a
    → answer_block e.stream a ≡ answer_block (4 * i) (echo limit m)
answer_told i limit m e a is h g =
    let echoed = same_echo limit e.request m is.asked in
    let same : SameMessage a (echo limit m) =
    same_trans a (echo limit e.request) (echo limit m) (subst (SameMessage a) is.response_is is.told) echoed in
    same_block (codes "answer") e.stream a (echo limit m) g.fields (named_is_map [] named_nil (omega arith)) g.trailers h.trailers same
    ∙ ap (λ (z : ℕ). answer_block z (echo limit m)) is.stream_is

blocks_told : (i limit : ℕ) (ms : List PlainMessage) (es : List PlainEntry) (answers : List PlainMessage) → AreEchoed i limit ms es answers
    → (blocks es answers ≡ blocks (echoed_from i limit ms) (echoes limit ms)) × (length answers ≡ length (echoes limit ms))
blocks_told i limit [] [] [] h = (refl, refl)
blocks_told i limit [] [] (a ∷ answers) h = absurd h
blocks_told i limit [] (e ∷ es) answers h = absurd h
blocks_told i limit (m ∷ ms) [] answers h = absurd h
blocks_told i limit (m ∷ ms) (e ∷ es) [] h = absurd h
blocks_told i limit (m ∷ ms) (e ∷ es) (a ∷ answers) h =
    let entry = entry_told i limit m e a h.0 h.1 h.2 in
    let answer = answer_told i limit m e a h.0 h.1 h.3 in
    let rest = blocks_told (i + 1) limit ms es answers h.4 in
    let later : blocks es answers ≡ blocks (echoed_from (i + 1) limit ms) (echoes limit ms) = rest.0 in
    (cc, omega (arith, rest.1))

pub echoes_told : (limit : ℕ) (requests : List PlainMessage) (entries : List PlainEntry) (answers : List PlainMessage) → AreEchoed 0 limit requests entries answers
    → report entries answers ≡ report_of limit requests
echoes_told limit requests entries answers h =
    let w = blocks_told 0 limit requests entries answers h in
    ap (λ (z : List ℕ). z ++ ok_line (length answers)) w.0 ∙ ap (λ (n : ℕ). blocks (echoed_from 0 limit requests) (echoes limit requests) ++ ok_line n) w.1
