-- What the promises of an exchange say of each request, and what refutes them.
use Rattle.std.proofs.Common.{◌≡◌, inl, inr, ℕ, zero, suc, ◌*◌, List, [], ◌∷◌, ◌++◌, get_or, Some, refl, sym, ap, ◌∙◌, subst, arith, append-nil}
use Rattle.std.specs.Prelude.{slice_get, map}
use Rattle.std.proofs.lemmas.List.{append_cancel_left}
use Rattle.std.proofs.lemmas.Option.{slice_get-get_or, slice_get_within}
use Rattle.qh_spec.specs.declared.sides.Side.TheVariants.{Client, Server}
use Rattle.qh_spec.specs.declared.link.Event.{Event}
use Rattle.qh_spec.specs.EventRows.{entry_on}
use Rattle.qh_spec.specs.Growth.{streams_of}
use Rattle.qh_spec.specs.Headline.{ServedOnce, IsRecordedAnswer, AnsweredOnce}
use Rattle.qh_spec.specs.Link.{given_to}
use Rattle.qh_spec.specs.Lists.{In, Distinct}
use Rattle.qh_spec.specs.Message.{PlainMessage}
use Rattle.qh_spec.specs.MessageRows.{get_message, other_message, ok_message, get_bytes, ok_bytes}
use Rattle.qh_spec.specs.Record.{PlainEntry}
use Rattle.qh_spec.specs.Same.{SameMessage}
use Rattle.qh_spec.specs.Whole.{IsWhole}
use Rattle.qh_spec.specs.WholeRows.{carrying_get, get_events, answered_events}
use Rattle.qh_spec.proofs.EventRows.{entry_grew}
use Rattle.qh_spec.proofs.Members.{in_map, in_right}
use Rattle.qh_spec.proofs.MessageLaws.{spells_closed}
use Rattle.qh_spec.proofs.MessageRows.{get_spells, get_spells_no_other, ok_spells}
use Rattle.qh_spec.proofs.SameLaws.{same_refl}
use Rattle.qh_spec.proofs.WholeLaws.{nothing_whole}
use Rattle.qh_spec.proofs.WholeRows.{carrying_whole, get_whole}

-- where nothing is new
pub served_nothing : (k : ℕ) (events : List Event) (requests : List PlainMessage) (entries : List PlainEntry) → ServedOnce k events requests entries entries
served_nothing k events requests entries = record {
  grew = record { fresh = []; longer = sym (append-nil entries); once = tt; as_asked = λ e i. absurd i };
  whole = λ e i. absurd i;
}

none_in : {X : Type 0} (xs : List X) → ((x : X) → In x xs → ⊥) → xs ≡ []
none_in [] f = refl
none_in (x ∷ xs) f = absurd (f x (inl refl))

-- a server that was given nothing has served nothing
pub served_of_nothing : (k : ℕ) (events : List Event) (requests : List PlainMessage) (before after : List PlainEntry) → given_to Server events ≡ []
    → ServedOnce k events requests before after → after ≡ before
served_of_nothing k events requests before after quiet p =
    let no_one : (e : PlainEntry) → In e p.grew.fresh → ⊥
    = λ e i. nothing_whole k Client e.stream e.request (subst (λ (z : List (List ℕ)). IsWhole k z Client e.stream e.request) quiet (p.whole e i)) in
    p.grew.longer ∙ ap (λ (z : List PlainEntry). before ++ z) (none_in p.grew.fresh no_one) ∙ append-nil before

not_twice : (front mid rest : List PlainEntry) (d e : PlainEntry) → d.stream ≡ e.stream → Distinct (streams_of (front ++ d ∷ (mid ++ e ∷ rest))) → ⊥
not_twice [] mid rest d e same h =
    h.0 (subst (λ (z : ℕ). In z (streams_of (mid ++ e ∷ rest))) (sym same) (in_map (λ (x : PlainEntry). x.stream) e (mid ++ e ∷ rest) (in_right e mid (e ∷ rest) (inl refl))))
not_twice (x ∷ front) mid rest d e same h = not_twice front mid rest d e same h.1

-- two new entries on one stream
pub served_not_twice : (k : ℕ) (events : List Event) (requests : List PlainMessage) (before front mid rest : List PlainEntry) (d e : PlainEntry) → d.stream ≡ e.stream
    → ServedOnce k events requests before (before ++ (front ++ d ∷ (mid ++ e ∷ rest))) → ⊥
served_not_twice k events requests before front mid rest d e same p =
    let fresh : p.grew.fresh ≡ front ++ d ∷ (mid ++ e ∷ rest) = sym (append_cancel_left before (front ++ d ∷ (mid ++ e ∷ rest)) p.grew.fresh p.grew.longer) in
    not_twice front mid rest d e same (subst (λ (z : List PlainEntry). Distinct (streams_of z)) fresh p.grew.once)

distinct_one : {X Y : Type 0} (f : X → Y) (xs : List X) → Distinct (map f xs) → (x y : X) → In x xs → In y xs → f x ≡ f y → x ≡ y
distinct_one f [] d x y i j e = absurd i
distinct_one f (z ∷ zs) d x y (inl p) (inl q) e = sym p ∙ q
distinct_one f (z ∷ zs) d x y (inl p) (inr j) e = absurd (d.0 (subst (λ (w : _). In w (map f zs)) (sym e ∙ ap f (sym p)) (in_map f y zs j)))
distinct_one f (z ∷ zs) d x y (inr i) (inl q) e = absurd (d.0 (subst (λ (w : _). In w (map f zs)) (e ∙ ap f (sym q)) (in_map f x zs i)))
distinct_one f (z ∷ zs) d x y (inr i) (inr j) e = distinct_one f zs d.1 x y i j e

-- the answer is the response of whatever new entry is on the stream
pub answer_is_recorded : (k : ℕ) (events : List Event) (requests : List PlainMessage) (before after : List PlainEntry) (answers : List PlainMessage)
    → (p : AnsweredOnce k events requests before after answers) → (index : ℕ) (answer : PlainMessage) (e : PlainEntry)
    → slice_get answers index ≡ Some answer → In e p.served.grew.fresh → e.stream ≡ 4 * index → SameMessage answer e.response
answer_is_recorded k events requests before after answers p index answer e at among stream =
    let r = p.each index answer at in
    let one : r.entry ≡ e
    = distinct_one (λ (x : PlainEntry). x.stream) p.served.grew.fresh p.served.grew.once r.entry e r.among among (r.stream_is ∙ sym stream) in
    subst (λ (z : PlainEntry). SameMessage answer z.response) one r.same

-- each request was served, on its stream, as asked, and answered by what was recorded
pub each_was_answered : (k : ℕ) (events : List Event) (requests : List PlainMessage) (before after : List PlainEntry) (answers : List PlainMessage)
    → (p : AnsweredOnce k events requests before after answers) → (index : ℕ) (request : PlainMessage) → slice_get requests index ≡ Some request
    → (e : PlainEntry) × (answer : PlainMessage) × In e p.served.grew.fresh × (e.stream ≡ 4 * index) × SameMessage e.request request
    × (slice_get answers index ≡ Some answer) × SameMessage answer e.response
each_was_answered k events requests before after answers p index request at =
    let within = slice_get_within requests index request at in
    let count = p.count in
    let answer : PlainMessage = get_or answers index request in
    let answer_at : slice_get answers index ≡ Some answer = slice_get-get_or answers index request (omega (arith, within, count)) in
    let r = p.each index answer answer_at in
    let asked = p.served.grew.as_asked r.entry r.among in
    let here = r.stream_is in
    let there = asked.stream_is in
    let same : asked.index ≡ index = omega (arith, here, there) in
    let both : Some asked.asked ≡ Some request = sym asked.asked_is ∙ ap (slice_get requests) same ∙ at in
    let one : asked.asked ≡ request = cc in
    (r.entry, answer, r.among, r.stream_is, subst (λ (z : PlainMessage). SameMessage r.entry.request z) one asked.same, answer_at, r.same)

only_one : {X : Type 0} (x y : X) → In x (y ∷ []) → y ≡ x
only_one x y (inl e) = e
only_one x y (inr h) = absurd h

fresh_is : (e : PlainEntry) → In e entry_grew.fresh → IsWhole 8 (carrying_get ∷ []) Client e.stream e.request
fresh_is e i =
    let there : In e (entry_on 0 ∷ []) = subst (λ (z : List PlainEntry). In e z) (sym entry_grew.longer) i in
    subst (λ (z : PlainEntry). IsWhole 8 (carrying_get ∷ []) Client z.stream z.request) (only_one e (entry_on 0) there) get_whole

pub get_served : ServedOnce 8 get_events (get_message ∷ []) [] (entry_on 0 ∷ [])
get_served = record { grew = entry_grew; whole = fresh_is }

only_asked : (index : ℕ) (m : PlainMessage) → slice_get (other_message ∷ []) index ≡ Some m → other_message ≡ m
only_asked zero m e = cc
only_asked (suc index) m e = cc

-- a request that wasn't asked
pub not_altered : (k : ℕ) (events : List Event) → ServedOnce k events (other_message ∷ []) [] (entry_on 0 ∷ []) → ⊥
not_altered k events p =
    let among : In (entry_on 0) p.grew.fresh = subst (λ (z : List PlainEntry). In (entry_on 0) z) p.grew.longer (inl refl) in
    let asked = p.grew.as_asked (entry_on 0) among in
    let one = only_asked asked.index asked.asked asked.asked_is in
    get_spells_no_other (spells_closed get_bytes get_message other_message (subst (λ (z : PlainMessage). SameMessage get_message z) (sym one) asked.same) get_spells)

served_then : ServedOnce 8 answered_events (get_message ∷ []) [] (entry_on 0 ∷ [])
served_then = record { grew = entry_grew; whole = fresh_is }

recorded : (index : ℕ) (answer : PlainMessage) → slice_get (ok_message ∷ []) index ≡ Some answer
    → IsRecordedAnswer 8 answered_events served_then.grew.fresh index answer
recorded zero answer e =
    let same : ok_message ≡ answer = cc in
    subst (λ (z : PlainMessage). IsRecordedAnswer 8 answered_events served_then.grew.fresh 0 z) same
    (record {
      entry = entry_on 0;
      among = subst (λ (z : List PlainEntry). In (entry_on 0) z) served_then.grew.longer (inl refl);
      stream_is = refl;
      same = same_refl ok_message;
      whole = record { bytes = ok_bytes; stream_is = carrying_whole Server ok_bytes (omega arith); spells = ok_spells };
    })
recorded (suc index) answer e = cc

pub get_answered : AnsweredOnce 8 answered_events (get_message ∷ []) [] (entry_on 0 ∷ []) (ok_message ∷ [])
get_answered = record { served = served_then; count = refl; each = recorded }

pub not_left_out : (k : ℕ) (events : List Event) (before after : List PlainEntry) → AnsweredOnce k events (get_message ∷ []) before after [] → ⊥
not_left_out k events before after p = let count = p.count in omega (arith, count)

-- an answer that the client wasn't given
pub not_made_up : (k : ℕ) (requests : List PlainMessage) (before after : List PlainEntry) (m : PlainMessage) → AnsweredOnce k get_events requests before after (m ∷ []) → ⊥
not_made_up k requests before after m p = nothing_whole k Server 0 m (p.each 0 m refl).whole

pub not_another : (events : List Event) (m : PlainMessage) → AnsweredOnce 8 events (get_message ∷ []) [] (entry_on 0 ∷ []) (m ∷ []) → SameMessage m ok_message
not_another events m p =
    let among : In (entry_on 0) p.served.grew.fresh = subst (λ (z : List PlainEntry). In (entry_on 0) z) p.served.grew.longer (inl refl) in
    answer_is_recorded 8 events (get_message ∷ []) [] (entry_on 0 ∷ []) (m ∷ []) p 0 m (entry_on 0) refl among refl
