-- Turns in which all was done that could be.
use Rattle.std.proofs.Common.{◌≡◌, inl, inr, Bool, true, false, List, [], ◌∷◌, ◌++◌, ℕ, Option, Some, None, Ok, Err, refl, sym, ◌∙◌, ap, subst, append_assoc, append-nil}
use Rattle.std.specs.Prelude.{IfOk, Result, is_some, length}
use Rattle.qh_base.specs.declared.connection_error.ConnectionError.{ConnectionError}
use Rattle.qh_core.specs.Inner.{is_open}
use Rattle.qh_roles.specs.Client.{PlainClient}
use Rattle.qh_roles.specs.Server.{PlainServer}
use Rattle.qh_spec.specs.declared.link.Event.{Event}
use Rattle.qh_spec.specs.declared.link.Event.TheVariants.{Round}
use Rattle.qh_pair.specs.Full.{AsksWhereItMay, HasAcceptedWhatArrived, IsFullTurn, ToldAsBefore}
use Rattle.qh_pair.specs.Ends.{End}
use Rattle.qh_pair.specs.Pair.{PairState}
use Rattle.qh_pair.specs.Steps.{AreIntakes, AreOutputs, HasAcceptedAll, HasOpenedAll, IsCounted, is_done}
use Rattle.qh_pair.specs.declared.ends.Ids.{Ids}
use Rattle.qh_pair.specs.declared.error.ExchangeError.{ExchangeError}
use Rattle.qh_pair.specs.Turn.{IsNotLost}

-- what isn't closed is open
pub not_closed : (up : Bool) (error : Option ConnectionError) → error ≡ None → (up ≡ false → is_some error ≡ true) → up ≡ true
not_closed true error none lost = refl
not_closed false error none lost = subst (λ (o : Option ConnectionError). is_some o ≡ true) none (lost refl)

pub unset_of : {A : Type 0} (o : Option A) (known : Bool) → known ≡ is_some o → known ≡ false → o ≡ None
unset_of None known is e = refl
unset_of (Some x) known is e = let f : true ≡ false = sym is ∙ e in cc

pub set_of : {A : Type 0} (o : Option A) (known : Bool) → known ≡ is_some o → known ≡ true → is_some o ≡ true
set_of o known is e = sym is ∙ e

same_end : (c d : End) → ◌≡◌ {A = Option End} (Some c) (Some d) → c ≡ d
same_end c d e = cc

-- an end that isn't lost is open
pub up_of : (o : Option End) (e : End) → o ≡ Some e → IsNotLost o → (is_open e.core.state ≡ false → is_some e.core.error ≡ true) → (c : End) → o ≡ Some c → is_open c.core.state ≡ true
up_of o e was going closed c is =
    let same : e ≡ c = same_end e c (sym was ∙ is) in
    subst (λ (z : End). is_open z.core.state ≡ true) same (not_closed (is_open e.core.state) e.core.error (subst IsNotLost was going) closed)

-- a client that asked wherever it might, at an end that is open, still does behind what its end sent
asks_on : (k l : PlainClient) (b d : Option End) → l ≡ k → ToldAsBefore b d → HasOpenedAll k b → HasOpenedAll l d
    → ((c : End) → b ≡ Some c → is_open c.core.state ≡ true) → AsksWhereItMay k b → AsksWhereItMay l d
asks_on k l None None same told old new up asks = absurd asks
asks_on k l None (Some d) same told old new up asks = absurd told
asks_on k l (Some c) None same told old new up asks = absurd told
asks_on k l (Some c) (Some e) same told old new up (inl unknown) = inl (told.0 ∙ unknown)
asks_on k l (Some c) (Some e) same told old new up (inr (inl all)) = inr (inl (subst (λ (z : PlainClient). z.next ≡ length z.requests) (sym same) all))
asks_on k l (Some c) (Some e) same told old new up (inr (inr (inl closed))) = let never : true ≡ false = sym (up c refl) ∙ closed in cc
asks_on k l (Some c) (Some e) same told old new up (inr (inr (inr full))) =
    inr (inr (inr (new.0 ∙ (ap (λ (z : PlainClient). z.next) same ∙ (sym old.0 ∙ (full ∙ sym (told.1 true).0))))))

-- a server that accepted all, too
accepts_on : (k l : PlainServer) (b d : Option End) → l ≡ k → ToldAsBefore b d → HasAcceptedAll k b → HasAcceptedAll l d → HasAcceptedWhatArrived b → HasAcceptedWhatArrived d
accepts_on k l None None same told old new all = tt
accepts_on k l None (Some d) same told old new all = absurd told
accepts_on k l (Some c) None same told old new all = absurd told
accepts_on k l (Some c) (Some e) same told old new (inl unknown) = inl (told.0 ∙ unknown)
accepts_on k l (Some c) (Some e) same told old new (inr all) = inr (new.0 ∙ (ap (λ (z : PlainServer). z.accepted) same ∙ (sym old.0 ∙ (all ∙ sym (told.1 true).1))))

-- what the steps of a turn leave, and its events
full_turn : (p : PairState) (m : ℕ) (is_there : Bool) (a b d : List Event) → a ≡ Round m ∷ [] → AreIntakes p.ids is_there b → (is_there ≡ true → is_some p.server_end ≡ true) → AreOutputs p d
    → AsksWhereItMay p.client p.client_end → HasAcceptedWhatArrived p.server_end → IsFullTurn p ((((a ++ b) ++ []) ++ []) ++ d)
full_turn p m is_there a b d ea eb stays ed asks accepts = record {
  turn = record {
    moment = m;
    to_client = eb.to_client;
    to_server = eb.to_server;
    by_client = ed.by_client;
    by_server = ed.by_server;
    is = ap (λ (z : List Event). z ++ d) (append-nil ((a ++ b) ++ []) ∙ append-nil (a ++ b))
        ∙ (ap (λ (z : List Event). (z ++ b) ++ d) ea
        ∙ (ap (λ (z : List Event). Round m ∷ (z ++ d)) eb.are
        ∙ (ap (λ (z : List Event). Round m ∷ ((eb.to_client ++ eb.to_server) ++ z)) ed.are
        ∙ ap (λ (z : List Event). Round m ∷ z) (append_assoc eb.to_client eb.to_server (ed.by_client ++ ed.by_server)))));
    client_takes = eb.client_takes;
    server_takes = eb.server_takes;
    client_sends = ed.client_sends;
    server_sends = ed.server_sends;
  };
  client_sent = ed.client_is_done;
  server_sent = ed.server_is_done;
  opened = λ x i first. stays (eb.opened x i first);
  asks = asks;
  accepts = accepts;
}

-- a turn is full where the ends sent, and the client and the server had done what they could before
pub turned_full : (r : Result (Unit {0}) ExchangeError) (o p q : PairState) (m : ℕ) (a b d x : List Event) → x ≡ ((a ++ b) ++ []) ++ [] → a ≡ Round m ∷ [] → AreIntakes o.ids (is_some o.server_end) b
    → q.ids ≡ o.ids → (is_some o.server_end ≡ true → is_some q.server_end ≡ true)
    → IfOk r (λ _. AreOutputs q d) → IfOk r (λ _. ToldAsBefore p.client_end q.client_end × ToldAsBefore p.server_end q.server_end)
    → (q.client ≡ p.client) × (q.server ≡ p.server) → IsCounted p → (is_done r ≡ true → IsCounted q) → ((c : End) → p.client_end ≡ Some c → is_open c.core.state ≡ true)
    → AsksWhereItMay p.client p.client_end → HasAcceptedWhatArrived p.server_end → IfOk r (λ _. IsFullTurn q (x ++ d))
turned_full (Ok u) o p q m a b d x is ea eb ids there out told same old new up asks accepts =
    subst (λ (z : List Event). IsFullTurn q (z ++ d)) (sym is)
    (full_turn q m (is_some o.server_end) a b d ea (subst (λ (z : Ids). AreIntakes z (is_some o.server_end) b) (sym ids) eb) there out (asks_on p.client q.client p.client_end q.client_end same.0 told.0 old.client (new refl).client up asks)
    (accepts_on p.server q.server p.server_end q.server_end same.1 told.1 old.server (new refl).server accepts))
turned_full (Err e) o p q m a b d x is ea eb ids there out told same old new up asks accepts = tt

-- the same, where the pair is seen as another value that is equal
pub full_as : (v b : PairState) (over : Bool) (x : List Event) → v ≡ b → IsFullTurn b x → IsFullTurn (record v { is_over = over }) x
full_as v b over x same full =
    let f : IsFullTurn v x = subst (λ (z : PairState). IsFullTurn z x) (sym same) full in
    record { turn = f.turn; client_sent = f.client_sent; server_sent = f.server_sent; opened = f.opened; asks = f.asks; accepts = f.accepts }
