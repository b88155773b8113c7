-- Lists of requests that may be asked.
use Rattle.std.proofs.Common.{◌≡◌, ◌≢◌, ℕ, List, [], ◌∷◌, length, None, refl, sym, ap, ◌∙◌, subst, arith}
use Rattle.std.specs.Prelude.{codes, false}
use Rattle.qh_conn.specs.declared.config.ConnConfig.{ConnConfig}
use Rattle.qh_message.specs.Written.{CanBeWritten}
use Rattle.qh_roles.specs.Client.{AreAskable, PlainClient, held}
use Rattle.qh_service.specs.declared.service.Limits.{Limits}
use Rattle.qh_spec.specs.Message.{IsRequest, PlainHead, PlainMessage, Request, Response}
use Rattle.qh_spec.specs.Same.{bytes_under}
use Rattle.qh_spec.specs.Validity.{IsValidHead, IsValidList, IsValidRequest}
use Rattle.qh_pair.specs.Asked.{IsAsked}
use Rattle.qh_pair.specs.Clock.{IsClocked}
use Rattle.qh_pair.specs.Pair.{PairState, Running}

-- a valid list may be asked
valid_request : (h : PlainHead) (hosts : List (List ℕ)) → IsValidHead h hosts → IsRequest h
valid_request (Request m t) hosts v = tt
valid_request (Response s) hosts v = absurd v

pub askable : (most section body : ℕ) (requests : List PlainMessage) → ((m : PlainMessage) → IsValidRequest section body m → CanBeWritten m)
    → IsValidList most section body requests → AreAskable requests
askable most section body requests written valid index m at =
    let v : IsValidRequest section body m = valid.each index m at in
    (valid_request m.head (bytes_under m.fields (codes "host")) v.head, written m v)

pub nothing_of : {X : Type 0} (xs : List X) → length xs ≡ 0 → xs ≡ []
nothing_of [] e = refl
nothing_of (x ∷ xs) e = absurd (omega (arith, e))

-- no clock runs before the ends are there
pub unused_clock : (p : PairState) (client : PlainClient) (config : ConnConfig)
    → p ≡ record { ids = p.ids; config = config; client = client; server = p.server; client_end = None; server_end = None; is_over = false } → IsClocked p []
unused_clock p client config is = subst (λ (z : PairState). IsClocked z []) (sym is) (record { client = tt; server = tt })

-- a pair of a client that took the requests
pub asked : (k : ℕ) (config : ConnConfig) (limits : Limits) (requests : List PlainMessage) (p : PairState) (client : PlainClient) → requests ≢ [] → Running p [] [] → length p.ids.client ≡ k
    → p.server.limits ≡ limits
    → p ≡ record { ids = p.ids; config = config; client = client; server = p.server; client_end = None; server_end = None; is_over = false }
    → client.requests ≡ requests → held client.answers ≡ 0 → IsAsked k config limits requests p
asked k config limits requests p client some run ids lim is taken none =
    let requests_are : p.client.requests ≡ requests = ap (λ (z : PairState). z.client.requests) is ∙ taken in
    let held_none : held p.client.answers ≡ 0 = ap (λ (z : PairState). held z.client.answers) is ∙ none in record {
      running = run;
      clocked = unused_clock p client config is;
      ids = ids;
      config_is = ap (λ (z : PairState). z.config) is;
      limits_are = lim;
      asked = requests_are;
      lacks = λ e. some (nothing_of requests (sym (ap length requests_are) ∙ (sym e ∙ held_none)));
      going = ap (λ (z : PairState). z.is_over) is;
    }
