-- Attempts that wait still do when a datagram came, and none that left comes back.
use Rattle.std.proofs.Common.{◌≡◌, ℕ, List, [], ◌∷◌, ◌++◌, Option, Some, None, IsSomeAnd, refl, sym, ap, ◌∙◌, subst, arith, inl, inr}
use Rattle.std.proofs.lemmas.Bool.{cases_eq}
use Rattle.qh_attempts.proofs.Names.{later_come, later_more, later_same}
use Rattle.qh_attempts.proofs.Slots.{same_attempt}
use Rattle.qh_attempts.specs.Attempts.{IsLater, PlainAttempt, PlainBuffers, attempt_at}
use Rattle.qh_base.specs.declared.path.FourTuple.{FourTuple}
use Rattle.qh_base.specs.declared.time.Moment.{Moment}
use Rattle.qh_endpoint.proofs.After.{only_log}
use Rattle.qh_endpoint.specs.Endpoint.{PlainEndpoint}
use Rattle.qh_endpoint.specs.Handled.{IsHandled, IsKept, IsLetGo, IsNegotiated, IsReset, IsUnhandled, IsWaiting, StillWaits, malformed, unsupported, kept, connection, ignored, unknown, refused, attempt, negotiating, keeping, looking, resetting, closing, waiting}
use Rattle.qh_endpoint.specs.Handled as handled
use Rattle.qh_endpoint.specs.Stranger.{unnoted}
use Rattle.qh_endpoint.specs.declared.event.DatagramEvent.{DatagramEvent}
use Rattle.qh_endpoint.specs.declared.incoming.FirstPacket.{FirstPacket}
use Rattle.qh_endpoint.specs.declared.incoming.Incoming.{Incoming}
use Rattle.qh_endpoint.specs.declared.incoming.Waiting.{Waiting}
use Rattle.qh_kit.specs.declared.config.ServerConfig.{ServerConfig}
use Rattle.qh_packet.specs.Session.{SealsTag}
use Rattle.qh_spec.specs.TokenFilter.{TokenLimits}
use Rattle.qh_spec.specs.TokenLog.{TokenLog}

module _ {K G R T S : Type 0} (cid_len : G → ℕ) (validates : G → List ℕ → Type 0) (given : G → List (List ℕ)) (drawn : R → List ℕ) (limits : T → TokenLimits) (stands : T → TokenLog → Type 0) (key : S → List ℕ)
    (sealed : S → SealsTag) (now : Moment) (addresses : FourTuple) (datagram written : List ℕ) (old new : PlainEndpoint K G R T) (k : ℕ) (a : PlainAttempt Waiting) (was : attempt_at old.incoming k ≡ Some a) where
  abbrev pub Still : Type 0
  Still = StillWaits now addresses.remote datagram a (attempt_at new.incoming k)

  as_they_were : new.incoming ≡ old.incoming → Still
  as_they_were e = inl (ap (λ (b : PlainBuffers Waiting). attempt_at b k) e ∙ was)

  unchanged : new ≡ old → Still
  unchanged e = as_they_were (ap (λ (z : PlainEndpoint K G R T). z.incoming) e)

  of_kept : (at : ℕ) → IsKept at now addresses.remote datagram old new → Still
  of_kept at (handled.kept w room there put numbered count total rest) = elim (cases_eq k at) [
    | inl e ↦ inr (ap (attempt_at new.incoming) e ∙ put.there
        ∙ ap (λ (z : PlainAttempt Waiting). Some (record z { datagrams = z.datagrams ++ record { now = now; remote = addresses.remote; payload = datagram } ∷ [] })) (same_attempt w a (sym there ∙ ap (attempt_at old.incoming) (sym e) ∙ was)))
    | inr apart ↦ inl (put.others k apart ∙ was)
  ]
  of_kept at (handled.dropped none e) = unchanged e

  of_negotiated : (version : ℕ) (destination source : List ℕ) (event : Option DatagramEvent) → IsNegotiated {S = S} cid_len validates given drawn limits stands key sealed now addresses datagram version destination source old new written event → Still
  of_negotiated version destination source event (handled.silent why e none) = unchanged e
  of_negotiated version destination source event (handled.told server word has large words bytes rest) = as_they_were (ap (λ (z : PlainEndpoint K G R T). z.incoming) rest)

  of_reset : (mid : PlainEndpoint K G R T) (id : List ℕ) (event : Option DatagramEvent) → IsReset {S = S} cid_len validates given drawn limits stands key sealed now addresses datagram id mid new written event → mid.incoming ≡ old.incoming → Still
  of_reset mid id event (handled.none why e empty) same = as_they_were (ap (λ (z : PlainEndpoint K G R T). z.incoming) e ∙ same)
  of_reset mid id event (handled.sent words late large is bytes short rest) same = as_they_were (ap (λ (z : PlainEndpoint K G R T). z.incoming) rest ∙ same)

  of_waiting : (mid : PlainEndpoint K G R T) (first : FirstPacket) (server : ServerConfig) (incoming : Incoming) → IsWaiting {S = S} cid_len validates given drawn limits stands key sealed now addresses datagram first server mid new incoming
      → mid.incoming ≡ old.incoming → Still
  of_waiting mid first server incoming w same =
      let there : attempt_at mid.incoming k ≡ Some a = ap (λ (b : PlainBuffers Waiting). attempt_at b k) same ∙ was in
      elim (cases_eq k incoming.key.key) [
        | inl e ↦ absurd (let both : ◌≡◌ {A = Option (PlainAttempt Waiting)} None (Some a) = sym w.free ∙ ap (attempt_at mid.incoming) (sym e) ∙ there in cc)
        | inr apart ↦ inl (w.waits.others k apart ∙ there)
      ]

  let_go : (mid : PlainEndpoint K G R T) → IsLetGo mid new → mid.incoming ≡ old.incoming → Still
  let_go mid gone same = inl (gone.attempts k ∙ ap (λ (b : PlainBuffers Waiting). attempt_at b k) same ∙ was)

  pub stays : (event : Option DatagramEvent) → IsHandled {S = S} cid_len validates given drawn limits stands key sealed now addresses datagram old new written event → Still
  stays event (malformed bad e none) = unchanged e
  stays event (unsupported version d s event' bad negotiated) = of_negotiated version d s event' negotiated
  stays event (kept h at is to is_kept none) = of_kept at is_kept
  stays event (connection h handle is to e none) = unchanged e
  stays event (ignored h is to judged none) = as_they_were (ap (λ (z : PlainEndpoint K G R T). z.incoming) (only_log judged))
  stays event (unknown h mid id event' is to judged reset) = of_reset mid id event' reset (ap (λ (z : PlainEndpoint K G R T). z.incoming) (only_log judged))
  stays event (refused h mid d s code is to judged closed) = as_they_were (ap (λ (z : PlainEndpoint K G R T). z.incoming) closed.from.rest ∙ ap (λ (z : PlainEndpoint K G R T). z.incoming) (only_log judged))
  stays event (attempt h mid first server incoming is to judged w none) = of_waiting mid first server incoming w (ap (λ (z : PlainEndpoint K G R T). z.incoming) (only_log judged))

  pub stays_unhandled : IsUnhandled {S = S} cid_len validates given drawn limits stands key sealed now addresses datagram old new written → Still
  stays_unhandled (negotiating version d s server word bad has large words rest none) = as_they_were (ap (λ (z : PlainEndpoint K G R T). z.incoming) rest)
  stays_unhandled (keeping h at is to room e none) = unchanged e
  stays_unhandled (looking h is to (unnoted version first d s token server has can first_id bits taken rest) none) = as_they_were (ap (λ (z : PlainEndpoint K G R T). z.incoming) rest)
  stays_unhandled (resetting h mid id is to judged late large words rest none) = as_they_were (ap (λ (z : PlainEndpoint K G R T). z.incoming) rest ∙ ap (λ (z : PlainEndpoint K G R T). z.incoming) (only_log judged))
  stays_unhandled (closing h mid d s code is to judged unclosed) = as_they_were (ap (λ (z : PlainEndpoint K G R T). z.incoming) unclosed.rest ∙ ap (λ (z : PlainEndpoint K G R T). z.incoming) (only_log judged))
  stays_unhandled (waiting h mid first server is to judged gone none) = let_go mid gone (ap (λ (z : PlainEndpoint K G R T). z.incoming) (only_log judged))

-- ---- and none that left comes back

module _ {K G R T S : Type 0} (cid_len : G → ℕ) (validates : G → List ℕ → Type 0) (given : G → List (List ℕ)) (drawn : R → List ℕ) (limits : T → TokenLimits) (stands : T → TokenLog → Type 0) (key : S → List ℕ)
    (sealed : S → SealsTag) (now : Moment) (addresses : FourTuple) (datagram written : List ℕ) (old new : PlainEndpoint K G R T) where
  abbrev pub Later : Type 0
  Later = IsLater old.incoming new.incoming

  with_the_same : new.incoming ≡ old.incoming → Later
  with_the_same e = subst (λ (b : PlainBuffers Waiting). IsLater old.incoming b) (sym e) (later_same old.incoming)

  with_nothing_new : new ≡ old → Later
  with_nothing_new e = with_the_same (ap (λ (z : PlainEndpoint K G R T). z.incoming) e)

  with_more : (at : ℕ) → IsKept at now addresses.remote datagram old new → Later
  with_more at (handled.kept w room there put numbered count total rest) =
      later_more old.incoming new.incoming at w (record w { datagrams = w.datagrams ++ record { now = now; remote = addresses.remote; payload = datagram } ∷ [] }) there refl put numbered
  with_more at (handled.dropped none e) = with_nothing_new e

  with_negotiated : (version : ℕ) (destination source : List ℕ) (event : Option DatagramEvent) → IsNegotiated {S = S} cid_len validates given drawn limits stands key sealed now addresses datagram version destination source old new written event → Later
  with_negotiated version destination source event (handled.silent why e none) = with_nothing_new e
  with_negotiated version destination source event (handled.told server word has large words bytes rest) = with_the_same (ap (λ (z : PlainEndpoint K G R T). z.incoming) rest)

  with_reset : (mid : PlainEndpoint K G R T) (id : List ℕ) (event : Option DatagramEvent) → IsReset {S = S} cid_len validates given drawn limits stands key sealed now addresses datagram id mid new written event → mid.incoming ≡ old.incoming → Later
  with_reset mid id event (handled.none why e empty) same = with_the_same (ap (λ (z : PlainEndpoint K G R T). z.incoming) e ∙ same)
  with_reset mid id event (handled.sent words late large is bytes short rest) same = with_the_same (ap (λ (z : PlainEndpoint K G R T). z.incoming) rest ∙ same)

  with_one : (mid : PlainEndpoint K G R T) (first : FirstPacket) (server : ServerConfig) (incoming : Incoming) → IsWaiting {S = S} cid_len validates given drawn limits stands key sealed now addresses datagram first server mid new incoming
      → mid.incoming ≡ old.incoming → Later
  with_one mid first server incoming w same =
      let next = w.numbered in
      subst (λ (b : PlainBuffers Waiting). IsLater b new.incoming) same (later_come mid.incoming new.incoming incoming.key.key _ w.waits w.number (omega (arith, next)))

  with_a_number : (mid : PlainEndpoint K G R T) → IsLetGo mid new → mid.incoming ≡ old.incoming → Later
  with_a_number mid gone same = subst (λ (b : PlainBuffers Waiting). IsLater b new.incoming) same (record {
    numbered = elim gone.numbered [ inl e ↦ omega (arith, e) | inr e ↦ omega (arith, e) ];
    waited = λ k below p. subst (λ (o : Option (PlainAttempt Waiting)). IsSomeAnd o (λ a. a.number ≡ k.number)) (gone.attempts k.key) p;
  })

  pub later : (event : Option DatagramEvent) → IsHandled {S = S} cid_len validates given drawn limits stands key sealed now addresses datagram old new written event → Later
  later event (malformed bad e none) = with_nothing_new e
  later event (unsupported version d s event' bad negotiated) = with_negotiated version d s event' negotiated
  later event (kept h at is to is_kept none) = with_more at is_kept
  later event (connection h handle is to e none) = with_nothing_new e
  later event (ignored h is to judged none) = with_the_same (ap (λ (z : PlainEndpoint K G R T). z.incoming) (only_log judged))
  later event (unknown h mid id event' is to judged reset) = with_reset mid id event' reset (ap (λ (z : PlainEndpoint K G R T). z.incoming) (only_log judged))
  later event (refused h mid d s code is to judged closed) = with_the_same (ap (λ (z : PlainEndpoint K G R T). z.incoming) closed.from.rest ∙ ap (λ (z : PlainEndpoint K G R T). z.incoming) (only_log judged))
  later event (attempt h mid first server incoming is to judged w none) = with_one mid first server incoming w (ap (λ (z : PlainEndpoint K G R T). z.incoming) (only_log judged))

  pub later_unhandled : IsUnhandled {S = S} cid_len validates given drawn limits stands key sealed now addresses datagram old new written → Later
  later_unhandled (negotiating version d s server word bad has large words rest none) = with_the_same (ap (λ (z : PlainEndpoint K G R T). z.incoming) rest)
  later_unhandled (keeping h at is to room e none) = with_nothing_new e
  later_unhandled (looking h is to (unnoted version first d s token server has can first_id bits taken rest) none) = with_the_same (ap (λ (z : PlainEndpoint K G R T). z.incoming) rest)
  later_unhandled (resetting h mid id is to judged late large words rest none) = with_the_same (ap (λ (z : PlainEndpoint K G R T). z.incoming) rest ∙ ap (λ (z : PlainEndpoint K G R T). z.incoming) (only_log judged))
  later_unhandled (closing h mid d s code is to judged unclosed) = with_the_same (ap (λ (z : PlainEndpoint K G R T). z.incoming) unclosed.rest ∙ ap (λ (z : PlainEndpoint K G R T). z.incoming) (only_log judged))
  later_unhandled (waiting h mid first server is to judged gone none) = with_a_number mid gone (ap (λ (z : PlainEndpoint K G R T). z.incoming) (only_log judged))
