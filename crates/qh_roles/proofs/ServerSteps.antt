-- What steps of a server do to what it serves: a handler goes on with its stream, and all others stay.
use Rattle.std.proofs.Common.{◌≡◌, ◌⊎◌, ℕ, ◌*◌, ◌<◌, ◌≤◌, true, Bool, List, [], ◌++◌, length, get_or, inl, inr, sym, ap, ◌∙◌, subst, arith, append_assoc, append-nil}
use Rattle.std.proofs.Math.ListN.{set}
use Rattle.std.proofs.Math.Seq.{map-set_same}
use Rattle.std.proofs.lemmas.Bool.{cases_eq, false≢true}
use Rattle.std.proofs.lemmas.List.{map-append}
use Rattle.std.specs.List.{items_where_true}
use Rattle.qh_core.specs.declared.inner.Inner.{Inner}
use Rattle.qh_roles.proofs.Acts.{none_calls, calls_append, untouched_append, same_written, same_finished, same_pieces, same_read, same_ended, fresh_append, writing_kept, reading_kept}
use Rattle.qh_roles.proofs.HandlerLists.{same_default, in_set, in_kept, distinct_kept}
use Rattle.qh_roles.proofs.HandlerSteps.{spells_left}
use Rattle.qh_roles.proofs.Stirred.{stirred_after, stirred_same}
use Rattle.qh_roles.specs.Going.{WentFrom}
use Rattle.qh_roles.specs.Handling.{Handles, HandlerStep, HandlersStep}
use Rattle.qh_roles.specs.Server.{PlainServer, IsHandledIn, Responds, Serving, ServerStep, GrewByAnswers}
use Rattle.qh_roles.specs.Streams.{IsFresh, IsUnread, IsUntouched, IsStirred}
use Rattle.qh_roles.specs.declared.server.Handler.{Handler}
use Rattle.qh_roles.specs.declared.server.HandlerState.{HandlerState}
use Rattle.qh_roles.specs.declared.server.HandlerState.TheVariants.{Reading, Responding, Done}
use Rattle.qh_service.specs.declared.service.Limits.{Limits}
use Rattle.qh_spec.proofs.Members.{in_left, in_split, in_index, from_map}
use Rattle.qh_spec.proofs.RecordLaws.{distinct_append}
use Rattle.qh_spec.specs.Growth.{streams_of}
use Rattle.qh_spec.specs.Lawful.{AreInOrder, ReadsMessage}
use Rattle.qh_spec.specs.Lists.{In, Distinct}
use Rattle.qh_spec.specs.Message.{PlainMessage, IsRequest}
use Rattle.qh_spec.specs.Record.{PlainEntry}
use Rattle.qh_spec.specs.Spelling.{Spells}
use Rattle.qh_spec.specs.Transcript.{Act, ended}

-- ---- what stays behind acts that don't touch a stream

reads_kept : (t u : List Act) (k : ℕ) (m : PlainMessage) → IsUnread u k → ReadsMessage t k m → ReadsMessage (t ++ u) k m
reads_kept t u k m unread r = record {
  in_order = subst (AreInOrder 0) (sym (same_pieces t u k unread.0)) r.in_order;
  to_the_end = same_ended t u k unread.1 ∙ r.to_the_end;
  spells = subst (λ (bytes : List ℕ). Spells bytes m) (sym (same_read t u k unread.0)) r.spells;
}

responds_kept : (entries fresh : List PlainEntry) (t u : List Act) (k : ℕ) → IsUntouched u k → Responds entries t k → Responds (entries ++ fresh) (t ++ u) k
responds_kept entries fresh t u k untouched r = record {
  entry = r.entry;
  among = in_left r.entry entries fresh r.among;
  stream_is = r.stream_is;
  is_response = r.is_response;
  writes = record {
    bytes = r.writes.bytes;
    spells = r.writes.spells;
    rest = r.writes.rest;
    front = r.writes.front ∙ ap (λ (z : List ℕ). z ++ r.writes.rest) (sym (same_written t u k untouched.0));
    whole = λ f. r.writes.whole (sym (same_finished t u k untouched.1) ∙ f);
  };
}

handled_kept : (entries fresh : List PlainEntry) (t u : List Act) (k : ℕ) (state : HandlerState) → IsFresh u k → IsHandledIn entries t k state → IsHandledIn (entries ++ fresh) (t ++ u) k state
handled_kept entries fresh t u k (Reading i) none h =
    (h.0, reading_kept t u i (subst (λ (s : ℕ). IsUnread u s) (sym h.0) none.1) h.1, untouched_append t u k h.2 none.0)
handled_kept entries fresh t u k (Responding o) none h =
    (h.0, spells_left entries fresh k o.bytes h.1, writing_kept t u o (subst (λ (s : ℕ). IsUntouched u s) (sym h.0) none.0) h.2)
handled_kept entries fresh t u k Done none h = tt

-- ---- one after another

pub answered_after : (Answer : PlainMessage → PlainMessage → Type 0) (before mid after : List PlainEntry) → GrewByAnswers Answer before mid → GrewByAnswers Answer mid after → GrewByAnswers Answer before after
answered_after Answer before mid after first second = record {
  fresh = first.fresh ++ second.fresh;
  longer = second.longer ∙ ap (λ (z : List PlainEntry). z ++ second.fresh) first.longer ∙ append_assoc before first.fresh second.fresh;
  each = λ e among. elim (in_split e first.fresh second.fresh among) [ inl one ↦ first.each e one | inr two ↦ second.each e two ];
}

-- nothing more was recorded, and nothing done
pub still : (s : PlainServer) (entries : List PlainEntry) (t : List Act) → Serving s entries t → Serving s (entries ++ []) (t ++ [])
still s entries t serving = subst (λ (u : List Act). Serving s (entries ++ []) u) (sym (append-nil t)) (subst (λ (es : List PlainEntry). Serving s es t) (sym (append-nil entries)) serving)

module _ {S : Type 0} where
  pub steps_after : (a b c : PlainServer) (old mid new : Inner S) (before between after : List PlainEntry) → ServerStep a b old mid before between → ServerStep b c mid new between after
      → ServerStep a c old new before after
  steps_after a b c old mid new before between after first second = record {
    fresh = first.fresh ++ second.fresh;
    served_is = second.served_is ∙ ap (λ (z : List PlainEntry). z ++ second.fresh) first.served_is ∙ append_assoc before first.fresh second.fresh;
    does = λ start done t entries follows serving.
        let d = first.does start done t entries follows serving in
        let e = second.does start done (t ++ d.acts) (entries ++ first.fresh) d.follows d.holds in
        record {
          acts = d.acts ++ e.acts;
          calls = calls_append d.acts e.acts d.calls e.calls;
          follows = subst (WentFrom start done new) (append_assoc t d.acts e.acts) e.follows;
          holds = subst (λ (u : List Act). Serving c (entries ++ (first.fresh ++ second.fresh)) u) (append_assoc t d.acts e.acts)
              (subst (λ (es : List PlainEntry). Serving c es ((t ++ d.acts) ++ e.acts)) (append_assoc entries first.fresh second.fresh) e.holds);
        };
  }

  -- where what is served stays as it is, and nothing was done
  pub quiet_step : (a b : PlainServer) (old new : Inner S) (recorded : List PlainEntry) → ((start : Inner S) (done t : List Act) → WentFrom start done old t → WentFrom start done new t)
      → ((start : Inner S) (done t : List Act) (entries : List PlainEntry) → WentFrom start done old t → Serving a entries t → Serving b entries t) → ServerStep a b old new recorded recorded
  quiet_step a b old new recorded follow serve = record {
    fresh = [];
    served_is = sym (append-nil recorded);
    does = λ start done t entries follows serving. record {
      acts = [];
      calls = none_calls;
      follows = subst (WentFrom start done new) (sym (append-nil t)) (follow start done t follows);
      holds = still b entries t (serve start done t entries follows serving);
    };
  }

  pub no_step : (s : PlainServer) (c : Inner S) (recorded : List PlainEntry) → ServerStep s s c c recorded recorded
  no_step s c recorded = quiet_step s s c c recorded (λ start done t follows. follows) (λ start done t entries follows serving. serving)

  -- ---- a handler goes on

  module _ (limits : Limits) (accepted : ℕ) (old : List Handler) (at : ℕ) (was new : Handler) (end_after : Inner S) (entries fresh : List PlainEntry) (start : Inner S) (done t : List Act)
      (within : at < length old) (is : get_or old at was ≡ was) (same : new.stream.0 ≡ was.stream.0)
      (serving : Serving (record { limits = limits; accepted = accepted; handlers = old }) entries t) (d : Handles start done was.stream.0 new.state end_after entries fresh t) where
    here : In was old
    here = subst (λ (z : Handler). In z old) is (in_index old at was within)

    -- what was read of a stream whose end was told is what was
    unread_on : (k : ℕ) → ended t k ≡ true → IsUnread d.acts k
    unread_on k end = elim (cases_eq k was.stream.0) [
      | inl e ↦ elim d.reads [ inl unread ↦ subst (λ (s : ℕ). IsUnread d.acts s) (sym e) unread | inr first ↦ absurd (false≢true (sym first ∙ ap (ended t) (sym e) ∙ end)) ]
      | inr apart ↦ (d.on.others k apart).1
    ]

    served_on : (e : PlainEntry) → In e (entries ++ fresh) → IsRequest e.request.head × ReadsMessage (t ++ d.acts) e.stream e.request
    served_on e among = elim (in_split e entries fresh among) [
      | inl old_one ↦ let s = serving.served e old_one in (s.0, reads_kept t d.acts e.stream e.request (unread_on e.stream s.1.to_the_end) s.1)
      | inr new_one ↦ let f = d.each e new_one in (f.is_request, subst (λ (k : ℕ). ReadsMessage (t ++ d.acts) k e.request) (sym f.stream_is) f.reads)
    ]

    -- the stream of a new entry has no older one
    not_twice : (k : ℕ) → In k (streams_of entries) → In k (streams_of fresh) → ⊥
    not_twice k one two =
        let a = from_map (λ (e : PlainEntry). e.stream) k entries one in
        let b = from_map (λ (e : PlainEntry). e.stream) k fresh two in
        let f = d.each b.0 b.1 in
        let end = (serving.served a.0 a.1).1.to_the_end in
        false≢true (sym f.first ∙ ap (ended t) (sym f.stream_is ∙ b.2 ∙ sym a.2) ∙ end)

    responds_on : (k : ℕ) → IsUntouched (t ++ d.acts) k ⊎ Responds (entries ++ fresh) (t ++ d.acts) k
    responds_on k =
        let kept : IsUntouched d.acts k → IsUntouched (t ++ d.acts) k ⊎ Responds (entries ++ fresh) (t ++ d.acts) k =
        λ untouched. elim (serving.responds k) [
          | inl u ↦ inl (untouched_append t d.acts k u untouched)
          | inr r ↦ inr (responds_kept entries fresh t d.acts k untouched r)
        ] in
        elim (cases_eq k was.stream.0) [
          | inl e ↦ elim d.writes [
            | inl untouched ↦ kept (subst (λ (s : ℕ). IsUntouched d.acts s) (sym e) untouched)
            | inr r ↦ inr (subst (λ (s : ℕ). Responds (entries ++ fresh) (t ++ d.acts) s) (sym e) r)
          ]
          | inr apart ↦ kept (d.on.others k apart).0
        ]

    each_handled : (h : Handler) → In h (set old at new) → IsHandledIn (entries ++ fresh) (t ++ d.acts) h.stream.0 h.state
    each_handled h among = elim (in_set (λ (h : Handler). h.stream.0) old at was new h within serving.handlers.apart is among) [
      | inl e ↦ subst (λ (z : Handler). IsHandledIn (entries ++ fresh) (t ++ d.acts) z.stream.0 z.state) e
          (subst (λ (k : ℕ). IsHandledIn (entries ++ fresh) (t ++ d.acts) k new.state) (sym same) d.handled)
      | inr other ↦ handled_kept entries fresh t d.acts h.stream.0 h.state (d.on.others h.stream.0 other.1) (serving.handlers.each h other.0)
    ]

    each_accepted : (h : Handler) → In h (set old at new) → h.stream.0 < 4 * accepted
    each_accepted h among = elim (in_set (λ (h : Handler). h.stream.0) old at was new h within serving.handlers.apart is among) [
      | inl e ↦ subst (λ (z : Handler). z.stream.0 < 4 * accepted) e (subst (λ (k : ℕ). k < 4 * accepted) (sym same) (serving.handlers.accepted was here))
      | inr other ↦ serving.handlers.accepted h other.0
    ]

    still_fresh : (k : ℕ) → accepted ≤ k → IsFresh (t ++ d.acts) (4 * k)
    still_fresh k beyond =
        let below = serving.handlers.accepted was here in
        fresh_append t d.acts (4 * k) (serving.handlers.fresh k beyond) (d.on.others (4 * k) (λ e. absurd (omega (arith, below, e, beyond))))

  pub handler_goes : (limits : Limits) (accepted : ℕ) (old : List Handler) (at : ℕ) (was new : Handler) (end_before end_after : Inner S) (before after : List PlainEntry)
      → at < length old → get_or old at was ≡ was → new.stream.0 ≡ was.stream.0 → HandlerStep was.stream.0 was.state new.state end_before end_after before after
      → ServerStep (record { limits = limits; accepted = accepted; handlers = old }) (record { limits = limits; accepted = accepted; handlers = set old at new }) end_before end_after before after
  handler_goes limits accepted old at was new end_before end_after before after within is same step = record {
    fresh = step.fresh;
    served_is = step.longer;
    does = λ start done t entries follows serving.
        let here = subst (λ (z : Handler). In z old) is (in_index old at was within) in
        let d = step.does start done t entries follows (serving.handlers.each was here) in
        record {
          acts = d.acts;
          calls = d.on.calls;
          follows = d.follows;
          holds = record {
            served = served_on limits accepted old at was new end_after entries step.fresh start done t within is same serving d;
            once = subst Distinct (sym (map-append (λ (e : PlainEntry). e.stream) entries step.fresh))
                (distinct_append (streams_of entries) (streams_of step.fresh) serving.once step.once (not_twice limits accepted old at was new end_after entries step.fresh start done t within is same serving d));
            responds = responds_on limits accepted old at was new end_after entries step.fresh start done t within is same serving d;
            handlers = record {
              each = each_handled limits accepted old at was new end_after entries step.fresh start done t within is same serving d;
              accepted = each_accepted limits accepted old at was new end_after entries step.fresh start done t within is same serving d;
              apart = subst Distinct (sym (map-set_same (λ (h : Handler). h.stream.0) old at new was (same ∙ ap (λ (h : Handler). h.stream.0) (sym is)))) serving.handlers.apart;
              fresh = still_fresh limits accepted old at was new end_after entries step.fresh start done t within is same serving d;
            };
          };
        };
  }

  -- ---- all handlers

  module _ (Answer : PlainMessage → PlainMessage → Type 0) (limits : Limits) (accepted : ℕ) where
    pub no_handlers : (handlers : List Handler) (c : Inner S) (recorded : List PlainEntry) → HandlersStep Answer limits accepted handlers handlers c c recorded recorded
    no_handlers handlers c recorded = record {
      stirred = stirred_same c;
      serves = no_step (record { limits = limits; accepted = accepted; handlers = handlers }) c recorded;
      answered = record { fresh = []; longer = sym (append-nil recorded); each = λ e among. absurd among };
    }

    -- one handler more
    pub handlers_more : (first old : List Handler) (at : ℕ) (d new : Handler) (start end_before end_after : Inner S) (recorded before after : List PlainEntry)
        → HandlersStep Answer limits accepted first old start end_before recorded before
        → at < length old → new.stream.0 ≡ (get_or old at d).stream.0 → IsStirred end_before end_after
        → HandlerStep (get_or old at d).stream.0 (get_or old at d).state new.state end_before end_after before after → GrewByAnswers Answer before after
        → HandlersStep Answer limits accepted first (set old at new) start end_after recorded after
    handlers_more first old at d new start end_before end_after recorded before after so_far within same stirred step answered = record {
      stirred = stirred_after start end_before end_after so_far.stirred stirred;
      serves = steps_after (record { limits = limits; accepted = accepted; handlers = first }) (record { limits = limits; accepted = accepted; handlers = old })
          (record { limits = limits; accepted = accepted; handlers = set old at new }) start end_before end_after recorded before after
          so_far.serves (handler_goes limits accepted old at (get_or old at d) new end_before end_after before after within (same_default old at (get_or old at d) d within) same step);
      answered = answered_after Answer recorded before after so_far.answered answered;
    }

  -- ---- some handlers are dropped

  pub kept_step : (limits : Limits) (accepted : ℕ) (bs : List Bool) (handlers : List Handler) (c : Inner S) (recorded : List PlainEntry)
      → ServerStep (record { limits = limits; accepted = accepted; handlers = handlers }) (record { limits = limits; accepted = accepted; handlers = items_where_true bs handlers }) c c recorded recorded
  kept_step limits accepted bs handlers c recorded =
      quiet_step (record { limits = limits; accepted = accepted; handlers = handlers }) (record { limits = limits; accepted = accepted; handlers = items_where_true bs handlers }) c c recorded
      (λ start done t follows. follows) (λ start done t entries follows serving. record {
        served = serving.served;
        once = serving.once;
        responds = serving.responds;
        handlers = record {
          each = λ h among. serving.handlers.each h (in_kept bs handlers h among);
          accepted = λ h among. serving.handlers.accepted h (in_kept bs handlers h among);
          apart = distinct_kept (λ (h : Handler). h.stream.0) bs handlers serving.handlers.apart;
          fresh = serving.handlers.fresh;
        };
      })
