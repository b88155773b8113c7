-- What a server does that accepts streams.
use Rattle.std.proofs.Common.{◌≡◌, ℕ, ◌+◌, ◌*◌, ◌<◌, ◌^◌, min, Bool, true, List, [], ◌∷◌, ◌++◌, None, inl, inr, refl, sym, ap, ◌∙◌, subst, arith}
use Rattle.std.proofs.lemmas.List.{map-append}
use Rattle.std.specs.List.{items_where_true}
use Rattle.std.specs.Prelude.{map}
use Rattle.qh_conduct.specs.Behaves.{Behaves}
use Rattle.qh_core.specs.Follows.{Follows}
use Rattle.qh_core.specs.Inner.{with_streams}
use Rattle.qh_core.specs.declared.inner.Inner.{Inner}
use Rattle.qh_halves.specs.Counts.{other_side}
use Rattle.qh_roles.proofs.Acts.{fresh_reading}
use Rattle.qh_roles.proofs.ServerEntries.{none_answered}
use Rattle.qh_roles.proofs.ServerSteps.{no_step, quiet_step, steps_after, kept_step}
use Rattle.qh_roles.specs.Going.{WentFrom}
use Rattle.qh_roles.specs.Handling.{AcceptStep, Advances, HandlersStep}
use Rattle.qh_roles.specs.Server.{IsHandledIn, HasAccepted, Serving}
use Rattle.qh_roles.specs.Streams.{Incoming, IsFresh}
use Rattle.qh_roles.specs.declared.server.Handler.{Handler}
use Rattle.qh_roles.specs.declared.server.HandlerState.TheVariants.{Reading}
use Rattle.qh_service.specs.declared.service.Limits.{Limits}
use Rattle.qh_spec.proofs.Members.{in_more, from_map, distinct_more}
use Rattle.qh_spec.specs.Lists.{Distinct}
use Rattle.qh_spec.specs.Message.{PlainMessage}
use Rattle.qh_spec.specs.Record.{PlainEntry}
use Rattle.qh_spec.specs.StreamId.{stream_id}
use Rattle.qh_spec.specs.Transcript.{Act}
use Rattle.qh_spec.specs.declared.sides.Dir.TheVariants.{Bi}
use Rattle.qh_spec.specs.declared.sides.Side.{Side}
use Rattle.qh_spec.specs.declared.sides.Side.TheVariants.{Client, Server}
use Rattle.qh_streams.specs.Streams.{with_counts, with_accepted}

-- the count of what was accepted rises, with a handler of the stream or without
counted : (limits : Limits) (n : ℕ) (handlers : List Handler) (entries : List PlainEntry) (t : List Act) → Serving (record { limits = limits; accepted = n; handlers = handlers }) entries t
    → Serving (record { limits = limits; accepted = n + 1; handlers = handlers }) entries t
counted limits n handlers entries t serving = record {
  served = serving.served;
  once = serving.once;
  responds = serving.responds;
  handlers = record {
    each = serving.handlers.each;
    accepted = λ h among. let below = serving.handlers.accepted h among in omega (arith, below);
    apart = serving.handlers.apart;
    fresh = λ k beyond. serving.handlers.fresh k (omega (arith, beyond));
  };
}

begun : (limits : Limits) (n : ℕ) (handlers : List Handler) (h : Handler) (i : Incoming) (entries : List PlainEntry) (t : List Act) → h.stream.0 ≡ 4 * n → h.state ≡ Reading i → i ≡ record { stream = h.stream.0; bytes = [] }
    → Serving (record { limits = limits; accepted = n; handlers = handlers }) entries t → Serving (record { limits = limits; accepted = n + 1; handlers = handlers ++ h ∷ [] }) entries t
begun limits n handlers h i entries t stream state new serving =
    let fresh = subst (λ (k : ℕ). IsFresh t k) (sym stream) (serving.handlers.fresh n (omega arith)) in
    record {
      served = serving.served;
      once = serving.once;
      responds = serving.responds;
      handlers = record {
        each = λ x among. elim (in_more x h handlers among) [
          | inl there ↦ serving.handlers.each x there
          | inr same ↦ subst (λ (z : Handler). IsHandledIn entries t z.stream.0 z.state) same
              (rw (state, new) (refl, fresh_reading t h.stream.0 fresh.1, fresh.0))
        ];
        accepted = λ x among. elim (in_more x h handlers among) [
          | inl there ↦ let below = serving.handlers.accepted x there in omega (arith, below)
          | inr same ↦ subst (λ (z : Handler). z.stream.0 < 4 * (n + 1)) same (omega (arith, stream))
        ];
        apart = subst Distinct (sym (map-append (λ (x : Handler). x.stream.0) handlers (h ∷ [])))
            (distinct_more (map (λ (x : Handler). x.stream.0) handlers) h.stream.0 serving.handlers.apart (λ among.
            let one = from_map (λ (x : Handler). x.stream.0) h.stream.0 handlers among in
            let below = serving.handlers.accepted one.0 one.1 in absurd (omega (arith, below, one.2, stream))));
        fresh = λ k beyond. serving.handlers.fresh k (omega (arith, beyond));
      };
    }

-- a stream of the client's
client_stream : (side : Side) (n id : ℕ) → side ≡ Server → id ≡ stream_id (other_side side) Bi n → id ≡ 4 * n
client_stream side n id is e = let at : id ≡ stream_id (other_side Server) Bi n = e ∙ ap (λ (s : Side). stream_id (other_side s) Bi n) is in omega (arith, at)

-- a count that gives an id doesn't stand still
pub rises : (side : Side) (n more id : ℕ) → id ≡ stream_id side Bi n → id < 2 ^ 64 → more ≡ min (n + 1) 18446744073709551615 → more ≡ n + 1
rises Client n more id e below is = omega (arith, e, below, is)
rises Server n more id e below is = omega (arith, e, below, is)

module _ {S : Type 0} where
  -- where the connection isn't lost, its streams are those of its side
  side_follows : (c : Inner S) (t : List Act) → c.error ≡ None → Behaves c t → c.space.streams.side ≡ c.side
  unfolding Follows
  side_follows c t sound f = elim f.follows.is_space [
    | inl failed ↦ absurd (let e = sym sound ∙ failed in cc)
    | inr same ↦ ap (λ s. s.streams.side) same ∙ f.follows.of.side_is
  ]

  pub none_accepted : (n : ℕ) (handlers : List Handler) (c : Inner S) → c.space.streams.bi.accepted ≡ n → AcceptStep n n handlers handlers c c
  none_accepted n handlers c same = record {
    rest = refl;
    counts = same;
    serves = λ limits recorded. no_step (record { limits = limits; accepted = n; handlers = handlers }) c recorded;
  }

  pub accepts_after : (a b c : ℕ) (xs ys zs : List Handler) (old mid new : Inner S) → AcceptStep a b xs ys old mid → AcceptStep b c ys zs mid new → AcceptStep a c xs zs old new
  accepts_after a b c xs ys zs old mid new first second = record {
    rest = second.rest ∙ ap (λ (z : Inner S). with_streams z new.space.streams) first.rest;
    counts = second.counts;
    serves = λ limits recorded. steps_after (record { limits = limits; accepted = a; handlers = xs }) (record { limits = limits; accepted = b; handlers = ys }) (record { limits = limits; accepted = c; handlers = zs })
        old mid new recorded recorded recorded (first.serves limits recorded) (second.serves limits recorded);
  }

  pub accepts_more : (a b c : ℕ) (xs ys zs : List Handler) (old mid new : Inner S) → (old.space.streams.bi.accepted ≡ a → AcceptStep a b xs ys old mid)
      → (mid.space.streams.bi.accepted ≡ b → AcceptStep b c ys zs mid new) → old.space.streams.bi.accepted ≡ a → AcceptStep a c xs zs old new
  accepts_more a b c xs ys zs old mid new first second same = let one = first same in accepts_after a b c xs ys zs old mid new one (second one.counts)

  pub rest_after : (old mid new : Inner S) → mid ≡ with_streams old mid.space.streams → new ≡ with_streams mid new.space.streams → new ≡ with_streams old new.space.streams
  rest_after old mid new first second = second ∙ ap (λ (z : Inner S). with_streams z new.space.streams) first

  -- the connection counted a stream as accepted
  accepted_rest : (old new : Inner S) → new ≡ with_streams old (with_counts old.space.streams true (with_accepted old.space.streams.bi)) → new ≡ with_streams old new.space.streams
  accepted_rest old new is = is ∙ ap (λ (c : Inner S). with_streams old c.space.streams) (sym is)

  module _ (n more : ℕ) (handlers : List Handler) (id : ℕ) (old new : Inner S) (sound : old.error ≡ None) (side : old.side ≡ Server) (same : old.space.streams.bi.accepted ≡ n)
      (is : new ≡ with_streams old (with_counts old.space.streams true (with_accepted old.space.streams.bi))) (named : id ≡ stream_id (other_side old.space.streams.side) Bi old.space.streams.bi.accepted)
      (below : id < 2 ^ 64) (rose : more ≡ min (n + 1) 18446744073709551615) (follow : (start : Inner S) (done t : List Act) → WentFrom start done old t → WentFrom start done new t) where
    count_is : more ≡ n + 1
    count_is = rises (other_side old.space.streams.side) n more id (named ∙ ap (λ (k : ℕ). stream_id (other_side old.space.streams.side) Bi k) same) below rose

    counts_are : new.space.streams.bi.accepted ≡ more
    counts_are = ap (λ (c : Inner S). c.space.streams.bi.accepted) is ∙ ap (λ (k : ℕ). k + 1) same ∙ sym count_is

    at_client : (t : List Act) → Behaves old t → id ≡ 4 * n
    at_client t follows = client_stream old.space.streams.side n id (side_follows old t sound follows ∙ side) (named ∙ ap (λ (k : ℕ). stream_id (other_side old.space.streams.side) Bi k) same)

    -- there was no memory for its handler
    pub left_out : AcceptStep n more handlers handlers old new
    left_out = record {
      rest = accepted_rest old new is;
      counts = counts_are;
      serves = λ limits recorded. rw count_is (quiet_step (record { limits = limits; accepted = n; handlers = handlers }) (record { limits = limits; accepted = n + 1; handlers = handlers }) old new recorded follow
          (λ start done t entries follows serving. counted limits n handlers entries t serving));
    }

    pub taken_in : (h : Handler) (i : Incoming) → h.stream.0 ≡ id → h.state ≡ Reading i → i ≡ record { stream = h.stream.0; bytes = [] } → AcceptStep n more handlers (handlers ++ h ∷ []) old new
    taken_in h i stream state begins = record {
      rest = accepted_rest old new is;
      counts = counts_are;
      serves = λ limits recorded. rw count_is (quiet_step (record { limits = limits; accepted = n; handlers = handlers }) (record { limits = limits; accepted = n + 1; handlers = handlers ++ h ∷ [] }) old new recorded follow
          (λ start done t entries follows serving. begun limits n handlers h i entries t (stream ∙ at_client t follows.behaves) state begins serving));
    }

  -- ---- all that one call of the server does

  -- an end that isn't lost has accepted as many streams as were counted
  has_accepted : (limits : Limits) (n : ℕ) (handlers : List Handler) (c : Inner S) → c.error ≡ None → HasAccepted (record { limits = limits; accepted = n; handlers = handlers }) c → c.space.streams.bi.accepted ≡ n
  has_accepted limits n handlers c sound h = elim h [ inl failed ↦ absurd (let e = sym sound ∙ failed in cc) | inr same ↦ same ]

  module _ (Answer : PlainMessage → PlainMessage → Type 0) (limits : Limits) (n more : ℕ) (xs ys : List Handler) (old mid : Inner S) (before : List PlainEntry)
      (sound : old.error ≡ None) (rest : mid ≡ with_streams old mid.space.streams) (accepts : old.space.streams.bi.accepted ≡ n → AcceptStep n more xs ys old mid) where
    -- streams were accepted, and memory was wanting
    pub accepted_alone : Advances Answer limits n more xs ys old mid before before
    accepted_alone = record {
      rest = rest;
      accepted = λ h. inr (accepts (has_accepted limits n xs old sound h)).counts;
      serves = λ h. (accepts (has_accepted limits n xs old sound h)).serves limits before;
      answered = none_answered Answer before;
    }

    -- and the handlers went on
    pub advanced : (zs : List Handler) (new : Inner S) (after : List PlainEntry) → ((k : ℕ) → HandlersStep Answer limits k ys zs mid new before after) → Advances Answer limits n more xs zs old new before after
    advanced zs new after steps = record {
      rest = rest_after old mid new rest (steps more).stirred.rest_is;
      accepted = λ h. inr ((steps more).stirred.counts.bi_accepted ∙ (accepts (has_accepted limits n xs old sound h)).counts);
      serves = λ h. steps_after (record { limits = limits; accepted = n; handlers = xs }) (record { limits = limits; accepted = more; handlers = ys }) (record { limits = limits; accepted = more; handlers = zs })
          old mid new before before after ((accepts (has_accepted limits n xs old sound h)).serves limits before) (steps more).serves;
      answered = (steps more).answered;
    }

  -- and some handlers were dropped
  pub advanced_kept : (Answer : PlainMessage → PlainMessage → Type 0) (limits : Limits) (n more : ℕ) (xs ys : List Handler) (old new : Inner S) (before after : List PlainEntry) (bs : List Bool)
      → Advances Answer limits n more xs ys old new before after → Advances Answer limits n more xs (items_where_true bs ys) old new before after
  advanced_kept Answer limits n more xs ys old new before after bs a = record {
    rest = a.rest;
    accepted = a.accepted;
    serves = λ h. steps_after (record { limits = limits; accepted = n; handlers = xs }) (record { limits = limits; accepted = more; handlers = ys }) (record { limits = limits; accepted = more; handlers = items_where_true bs ys })
        old new new before after after (a.serves h) (kept_step limits more bs ys new after);
    answered = a.answered;
  }
