-- What the rounds of an exchange over an honest link leave of its failures: no connection is lost but by its idle time.
use Rattle.std.proofs.Common.{◌≡◌, ℕ, Bool, List, [], ◌++◌, length, Option, Some, Err, sym, ◌∙◌, subst, append-nil}
use Rattle.std.specs.Prelude.{Result}
use Rattle.std.proofs.lemmas.List.{append_cancel_left}
use Rattle.qh_base.specs.declared.time.Span.{Span}
use Rattle.qh_conn.specs.declared.config.ConnConfig.{ConnConfig}
use Rattle.qh_spec.specs.declared.link.Event.{Event}
use Rattle.qh_spec.specs.Honest.{IsHonest}
use Rattle.qh_spec.specs.Record.{PlainEntry}
use Rattle.qh_pair.specs.declared.ends.Ids.{Ids}
use Rattle.qh_pair.specs.declared.error.ExchangeError.{ExchangeError}
use Rattle.qh_pair.specs.declared.error.ExchangeError.TheVariants as error
use Rattle.qh_pair.specs.Errors.{EndsAs}
use Rattle.qh_exchange.specs.Exchange.{IsListError}
use Rattle.qh_pair.specs.Pair.{GoesOn, IsFair, PairState, Running, WentOn}
use Rattle.qh_exchange.specs.Rounds.{AreFair}
use Rattle.qh_pair.specs.Sound.{EndsFairly}
use Rattle.qh_pair.proofs.Fairness.{fair_again}
use Rattle.qh_exchange.proofs.ExchangeEnds.{ends_by}
use Rattle.qh_exchange.proofs.Rounds.{AreMade}

-- the errors of a list that may not be asked
pub list_fairly : (U : Type 0) (k : ℕ) (idle : Option Span) (events : List Event) (e : ExchangeError) → IsListError e → EndsFairly {T = U} k idle events (Err e)
list_fairly U k idle events error.Link h = tt
list_fairly U k idle events error.Memory h = tt
list_fairly U k idle events error.TimedOut h = absurd h
list_fairly U k idle events error.OutOfRounds h = tt
list_fairly U k idle events (error.Invalid index) h = tt
list_fairly U k idle events (error.Protocol x) h = absurd h

-- a turn behind rounds that went on ended them by its error
pub rounds_fair : (n : ℕ) (e : ExchangeError) (p q q' : PairState) (t u u' : Option (List Event)) (m k : List ℕ) (f g : ℕ) (r s s' : List PlainEntry) → AreMade n p q t u m k f g r s
    → GoesOn q u s q' u' s' → IsFair {T = Bool} q u u' (Err e) → AreFair p t u' r (Err e)
rounds_fair n e p q q' t u u' m k f g r s s' made goes fair earlier events more before entries run te re ue honest =
    let x : WentOn p q earlier events u before entries s = made.goes earlier events before entries run te re in
    let y : WentOn q q' earlier (events ++ x.more) u' before (entries ++ x.fresh) s'
    = goes earlier (events ++ x.more) before (entries ++ x.fresh) x.running x.told_is x.served_is in
    let told : Some (earlier ++ ((events ++ x.more) ++ y.more)) ≡ Some (earlier ++ (events ++ more)) = sym y.told_is ∙ ue in
    let whole : earlier ++ ((events ++ x.more) ++ y.more) ≡ earlier ++ (events ++ more) = cc in
    let same : (events ++ x.more) ++ y.more ≡ events ++ more = append_cancel_left earlier ((events ++ x.more) ++ y.more) (events ++ more) whole in
    let ends : EndsFairly {T = Bool} (length q.ids.client) q.config.idle ((events ++ x.more) ++ y.more) (Err e)
    = fair earlier (events ++ x.more) y.more (entries ++ x.fresh) x.running x.told_is y.told_is (subst IsHonest (sym same) honest) in
    fair_again Bool (Unit {0}) (length p.ids.client) p.config.idle (events ++ more) e
    (subst (λ (z : List Event). EndsFairly {T = Bool} (length p.ids.client) p.config.idle z (Err e)) same
    (subst (λ (z : ConnConfig). EndsFairly {T = Bool} (length p.ids.client) z.idle ((events ++ x.more) ++ y.more) (Err e)) x.same_config
    (subst (λ (z : Ids). EndsFairly {T = Bool} (length z.client) q.config.idle ((events ++ x.more) ++ y.more) (Err e)) x.same_ids ends)))

-- the rounds of a pair before its first turn ended an exchange by their error
pub ends_fairly : (U : Type 0) (e : ExchangeError) (n : ℕ) (config : ConnConfig) (p : PairState) (t u : Option (List Event)) (r : List PlainEntry) → Running p [] [] → length p.ids.client ≡ n
    → p.config ≡ config → AreFair p t u r (Err e) → (events : List Event) → t ≡ Some [] → u ≡ Some events → IsHonest events
    → EndsFairly {T = U} n config.idle events (Err e)
ends_fairly U e n config p t u r run ids conf fair events te ue honest =
    fair_again (Unit {0}) U n config.idle events e
    (subst (λ (z : ConnConfig). EndsFairly {T = Unit {0}} n z.idle events (Err e)) conf
    (subst (λ (z : ℕ). EndsFairly {T = Unit {0}} z p.config.idle events (Err e)) ids (fair [] [] events r [] run te (sym (append-nil r)) ue honest)))

-- so the exchange, however it ends by them, ends fairly
pub fair_by : {U : Type 0} (made : Result (Unit {0}) ExchangeError) (result : Result U ExchangeError) (n : ℕ) (config : ConnConfig) (p : PairState) (t u : Option (List Event)) (r : List PlainEntry)
    → EndsAs made result → Running p [] [] → length p.ids.client ≡ n → p.config ≡ config → AreFair p t u r made
    → (events : List Event) → t ≡ Some [] → u ≡ Some events → IsHonest events → EndsFairly n config.idle events result
fair_by {U} made result n config p t u r ends run ids conf fair events te ue honest =
    ends_by made result (λ (z : Result U ExchangeError). EndsFairly n config.idle events z) ends
    (λ e is. ends_fairly U e n config p t u r run ids conf (subst (λ (z : Result (Unit {0}) ExchangeError). AreFair p t u r z) is fair) events te ue honest) (λ v is. tt) (λ x v is ok. tt)
