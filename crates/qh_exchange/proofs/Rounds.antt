-- Rounds of an exchange: what turns in a row leave behind.
use Rattle.std.proofs.Common.{◌≡◌, ◌≢◌, inl, inr, ℕ, zero, suc, ◌+◌, ◌≤◌, Bool, false, List, [], ◌∷◌, ◌++◌, length, Option, Some, Ok, Err, refl, sym, ap, ◌∙◌, subst, arith, append_assoc, append-nil}
use Rattle.std.proofs.lemmas.List.{append_cancel_left}
use Rattle.qh_roles.specs.Client.{held}
use Rattle.qh_roles.specs.Server.{GrewByAnswers}
use Rattle.qh_service.specs.declared.service.Limits.{Limits}
use Rattle.qh_spec.specs.declared.link.Event.{Event}
use Rattle.qh_spec.specs.Message.{PlainMessage}
use Rattle.qh_spec.specs.Record.{PlainEntry}
use Rattle.qh_spec.specs.Turns.{IsWholeTurn, AreWholeTurns}
use Rattle.qh_spec.proofs.Members.{in_split}
use Rattle.qh_pair.specs.declared.error.ExchangeError.{ExchangeError}
use Rattle.qh_pair.specs.declared.error.ExchangeError.TheVariants as error
use Rattle.qh_pair.specs.Clock.{ClocksOn, HasTimedOut, IsClocked, RunsByTheClock}
use Rattle.qh_pair.specs.Errors.{IfOutOfRounds, IfProtocol, IfTimedOut}
use Rattle.qh_pair.specs.Full.{EndsInFullTurn, IsFullTurn}
use Rattle.qh_pair.specs.Pair.{PairState, Running, WentOn, GoesOn}
use Rattle.qh_exchange.specs.Rounds.{IsRoundsError, IsRunOut, RoundsMade}
use Rattle.qh_pair.specs.Turn.{Adds, IsProtocolLoss, IsTurnError, WasTimedOut}
use Rattle.qh_exchange.proofs.FullRounds.{AddsFullTurns, adds_full, ends_full}
use Rattle.qh_pair.proofs.Turns.{protocol_again}

-- a pair that did nothing, and one that went on twice
pub goes_refl : (p : PairState) (t : Option (List Event)) (r : List PlainEntry) → GoesOn p t r p t r
goes_refl p t r earlier events before entries run te re = record {
  same_requests = refl;
  same_ids = refl;
  same_config = refl;
  more = [];
  told_is = te ∙ ap (λ (z : List Event). Some (earlier ++ z)) (sym (append-nil events));
  fresh = [];
  served_is = re ∙ ap (λ (z : List PlainEntry). before ++ z) (sym (append-nil entries));
  running = subst (λ (z : List Event). Running p z (entries ++ [])) (sym (append-nil events)) (subst (λ (z : List PlainEntry). Running p events z) (sym (append-nil entries)) run);
}

pub goes_trans : (a b c : PairState) (t u v : Option (List Event)) (r s q : List PlainEntry) → GoesOn a t r b u s → GoesOn b u s c v q → GoesOn a t r c v q
goes_trans a b c t u v r s q first second earlier events before entries run te re =
    let x : WentOn a b earlier events u before entries s = first earlier events before entries run te re in
    let y : WentOn b c earlier (events ++ x.more) v before (entries ++ x.fresh) q
    = second earlier (events ++ x.more) before (entries ++ x.fresh) x.running x.told_is x.served_is in
    record {
      same_requests = y.same_requests ∙ x.same_requests;
      same_ids = y.same_ids ∙ x.same_ids;
      same_config = y.same_config ∙ x.same_config;
      more = x.more ++ y.more;
      told_is = y.told_is ∙ ap (λ (z : List Event). Some (earlier ++ z)) (append_assoc events x.more y.more);
      fresh = x.fresh ++ y.fresh;
      served_is = y.served_is ∙ ap (λ (z : List PlainEntry). before ++ z) (append_assoc entries x.fresh y.fresh);
      running = subst (λ (z : List Event). Running c z (entries ++ (x.fresh ++ y.fresh))) (append_assoc events x.more y.more)
          (subst (λ (z : List PlainEntry). Running c ((events ++ x.more) ++ y.more) z) (append_assoc entries x.fresh y.fresh) y.running);
    }

-- one whole turn more
turns_more : (n : ℕ) (es turn : List Event) → AreWholeTurns n es → IsWholeTurn turn → AreWholeTurns (suc n) (es ++ turn)
turns_more zero es turn none w = (turn, [], ap (λ (z : List Event). z ++ turn) none ∙ sym (append-nil turn), w, refl)
turns_more (suc n) es turn h w =
    (h.0, h.1 ++ turn, ap (λ (z : List Event). z ++ turn) h.2 ∙ append_assoc h.0 h.1 turn, h.3, turns_more n h.1 turn h.4 w)

adds_turn : (n : ℕ) (q : PairState) (t u v : Option (List Event)) → Adds (AreWholeTurns n) t u → Adds (IsFullTurn q) u v → Adds (AreWholeTurns (suc n)) t v
adds_turn n q t u v first second events te =
    let x = first events te in
    let y = second (events ++ x.0) x.1 in
    (x.0 ++ y.0, y.1 ∙ ap Some (append_assoc events x.0 y.0), turns_more n x.0 y.0 x.2 y.2.turn)

-- So many whole turns were made, each a full one, that answered that an answer lacks: between a pair, what a link tells,
-- its moments and its faults, and what a service recorded, before and after them.
pub record AreMade (n : ℕ) (p q : PairState) (t u : Option (List Event)) (m k : List ℕ) (f g : ℕ) (r s : List PlainEntry) : Type 0 where
  pub goes : GoesOn p t r q u s
  pub going : q.is_over ≡ false
  pub requests : q.client.requests ≡ p.client.requests
  pub config : q.config ≡ p.config
  pub ids : q.ids ≡ p.ids
  pub limits : q.server.limits ≡ p.server.limits
  pub lacks : held q.client.answers ≢ length q.client.requests
  pub turns : Adds (AreWholeTurns n) t u
  pub full : AddsFullTurns n p t u r
  pub last : (j : ℕ) → n ≡ suc j → Adds (EndsInFullTurn q) t u
  pub moments : List ℕ
  pub moments_are : k ≡ m ++ moments
  pub rounds_are : length moments ≡ n
  pub clocked : IsClocked q moments
  pub still : g ≡ f

pub none_made : (p : PairState) (t : Option (List Event)) (m : List ℕ) (f : ℕ) (r : List PlainEntry) → p.is_over ≡ false → held p.client.answers ≢ length p.client.requests → IsClocked p []
    → AreMade 0 p p t t m m f f r r
none_made p t m f r going lacks clocked = record {
  goes = goes_refl p t r;
  going = going;
  requests = refl;
  config = refl;
  ids = refl;
  limits = refl;
  lacks = lacks;
  turns = λ events te. ([], te ∙ ap Some (sym (append-nil events)), refl);
  full = λ earlier events before entries run te re told de. ([], de ∙ ap Some (sym (append-nil told)), refl);
  last = λ j e. absurd (omega (arith, e));
  moments = [];
  moments_are = sym (append-nil m);
  rounds_are = refl;
  clocked = clocked;
  still = refl;
}

snoc_length : (xs : List ℕ) (x : ℕ) → length (xs ++ x ∷ []) ≡ length xs + 1
snoc_length [] x = refl
snoc_length (y ∷ xs) x = let e = snoc_length xs x in omega (arith, e)

pub one_more : {T : Type 0} (n : ℕ) (p q q' : PairState) (t u u' : Option (List Event)) (m k k' : List ℕ) (f g g' : ℕ) (r s s' : List PlainEntry) (done : T) → AreMade n p q t u m k f g r s
    → GoesOn q u s q' u' s' → RunsByTheClock q q' k k' (Ok done) → q'.is_over ≡ false → q'.client.requests ≡ q.client.requests → q'.config ≡ q.config → q'.ids ≡ q.ids → q'.server.limits ≡ q.server.limits
    → held q'.client.answers ≢ length q'.client.requests → Adds (IsFullTurn q') u u' → (moment : ℕ) × (k' ≡ k ++ moment ∷ [])
    → g' ≡ g → AreMade (n + 1) p q' t u' m k' f g' r s'
one_more n p q q' t u u' m k k' f g g' r s s' done made goes clock going same config ids limits lacks turn round still =
    let c : ClocksOn q q' m made.moments k' (Ok done) = clock m made.moments made.moments_are made.clocked in
    let sum : m ++ (made.moments ++ c.more) ≡ m ++ (made.moments ++ round.0 ∷ [])
    = sym c.are ∙ (round.1 ∙ (ap (λ (z : List ℕ). z ++ round.0 ∷ []) made.moments_are ∙ append_assoc m made.moments (round.0 ∷ []))) in
    let new : made.moments ++ c.more ≡ made.moments ++ round.0 ∷ [] = append_cancel_left m (made.moments ++ c.more) (made.moments ++ round.0 ∷ []) sum in
    let went : GoesOn p t r q' u' s' = goes_trans p q q' t u u' r s s' made.goes goes in
    let next : suc n ≡ n + 1 = omega arith in
    record {
      goes = went;
      going = going;
      requests = same ∙ made.requests;
      config = config ∙ made.config;
      ids = ids ∙ made.ids;
      limits = limits ∙ made.limits;
      lacks = lacks;
      turns = subst (λ (z : ℕ). Adds (AreWholeTurns z) t u') next (adds_turn n q' t u u' made.turns turn);
      full = subst (λ (z : ℕ). AddsFullTurns z p t u' r) next (adds_full n p q' t u u' r s' made.full went (same ∙ made.requests) going turn);
      last = λ j e. ends_full (AreWholeTurns n) q' t u u' made.turns turn;
      moments = made.moments ++ c.more;
      moments_are = c.are;
      rounds_are = ap length new ∙ (snoc_length made.moments round.0 ∙ ap (λ (z : ℕ). z + 1) made.rounds_are);
      clocked = c.clocked;
      still = still ∙ made.still;
    }

pub idle_of : (T U : Type 0) (e : ExchangeError) (H G : Type 0) → (H → G) → IfTimedOut {T = T} (Err e) H → IfTimedOut {T = U} (Err e) G
idle_of T U error.Link H G f h = tt
idle_of T U error.Memory H G f h = tt
idle_of T U error.TimedOut H G f h = f h
idle_of T U error.OutOfRounds H G f h = tt
idle_of T U (error.Invalid index) H G f h = tt
idle_of T U (error.Protocol x) H G f h = tt

pub was_timed_out : (U : Type 0) (e : ExchangeError) (n : ℕ) (p q q' : PairState) (t u : Option (List Event)) (m k k' : List ℕ) (f g : ℕ) (r s : List PlainEntry)
    → AreMade n p q t u m k f g r s → RunsByTheClock {T = Bool} q q' k k' (Err e) → IfTimedOut {T = U} (Err e) (WasTimedOut q' m k')
was_timed_out U e n p q q' t u m k k' f g r s made clock =
    let c : ClocksOn {T = Bool} q q' m made.moments k' (Err e) = clock m made.moments made.moments_are made.clocked in
    idle_of Bool U e (HasTimedOut q' (made.moments ++ c.more)) (WasTimedOut q' m k') (λ h. record { moments = made.moments ++ c.more; are = c.are; timed_out = h }) c.timed_out

-- records that grow by answers
pub grew_more : (Answer : PlainMessage → PlainMessage → Type 0) (r s t : List PlainEntry) → GrewByAnswers Answer r s → GrewByAnswers Answer s t
    → GrewByAnswers Answer r t
grew_more Answer r s t first second = record {
  fresh = first.fresh ++ second.fresh;
  longer = second.longer ∙ ap (λ (z : List PlainEntry). z ++ second.fresh) first.longer ∙ append_assoc r first.fresh second.fresh;
  each = λ e i. elim (in_split e first.fresh second.fresh i) [ inl l ↦ first.each e l | inr r ↦ second.each e r ];
}

-- the same, where the limits are kept
pub grew_within : (Answer : Limits → PlainMessage → PlainMessage → Type 0) (a b k : Limits) (r s t : List PlainEntry) → GrewByAnswers (Answer a) r s → b ≡ a
    → GrewByAnswers (Answer b) s t → a ≡ k → GrewByAnswers (Answer k) r t
grew_within Answer a b k r s t first same second limits =
    subst (λ (z : Limits). GrewByAnswers (Answer z) r t) limits
    (grew_more (Answer a) r s t first (subst (λ (z : Limits). GrewByAnswers (Answer z) s t) same second))

-- ---- what rounds leave

rounds_error : (e : ExchangeError) → IsTurnError e → IsRoundsError e
rounds_error error.Link h = tt
rounds_error error.Memory h = tt
rounds_error error.TimedOut h = tt
rounds_error error.OutOfRounds h = tt
rounds_error (error.Invalid index) h = h
rounds_error (error.Protocol x) h = tt

turn_not_out : (e : ExchangeError) (P : Type 0) → IsTurnError e → IfOutOfRounds {T = Unit {0}} (Err e) P
turn_not_out error.Link P h = tt
turn_not_out error.Memory P h = tt
turn_not_out error.TimedOut P h = tt
turn_not_out error.OutOfRounds P h = absurd h
turn_not_out (error.Invalid index) P h = tt
turn_not_out (error.Protocol x) P h = tt

-- a turn answered an error
pub rounds_lost : (n rounds : ℕ) (e : ExchangeError) (p q q' : PairState) (t u u' : Option (List Event)) (m k k' : List ℕ) (f g : ℕ) (r s s' : List PlainEntry) → AreMade n p q t u m k f g r s
    → GoesOn q u s q' u' s' → q'.client.requests ≡ q.client.requests → q'.config ≡ q.config → q'.ids ≡ q.ids → RunsByTheClock {T = Bool} q q' k k' (Err e) → IfProtocol {T = Bool} (Err e) (λ x. IsProtocolLoss x q')
    → IsTurnError e → RoundsMade rounds p q' t u' m k' r s' (Err e)
rounds_lost n rounds e p q q' t u u' m k k' f g r s s' made goes same config ids clock lost fault = record {
  goes = goes_trans p q q' t u u' r s s' made.goes goes;
  requests = same ∙ made.requests;
  config_is = config ∙ made.config;
  ids = ids ∙ made.ids;
  all = tt;
  out = turn_not_out e (IsRunOut rounds p q' t u' m k' r) fault;
  timed_out = was_timed_out (Unit {0}) e n p q q' t u m k k' f g r s made clock;
  lost = protocol_again Bool (Unit {0}) e (λ x. IsProtocolLoss x q') lost;
  errors = rounds_error e fault;
}

-- an answer is held for each request
pub rounds_done : (n rounds : ℕ) (x : Unit {0}) (p q q' : PairState) (t u u' : Option (List Event)) (m k k' : List ℕ) (f g : ℕ) (r s s' : List PlainEntry) → AreMade n p q t u m k f g r s
    → GoesOn q u s q' u' s' → q'.client.requests ≡ q.client.requests → q'.config ≡ q.config → q'.ids ≡ q.ids → held q'.client.answers ≡ length q'.client.requests → RoundsMade rounds p q' t u' m k' r s' (Ok x)
rounds_done n rounds x p q q' t u u' m k k' f g r s s' made goes same config ids all = record {
  goes = goes_trans p q q' t u u' r s s' made.goes goes;
  requests = same ∙ made.requests;
  config_is = config ∙ made.config;
  ids = ids ∙ made.ids;
  all = all;
  out = tt;
  timed_out = tt;
  lost = tt;
  errors = tt;
}

-- all rounds were made
pub rounds_out : (n rounds : ℕ) (p q : PairState) (t u : Option (List Event)) (m k : List ℕ) (f g : ℕ) (r s : List PlainEntry) → n ≡ rounds
    → held q.client.answers ≤ length q.client.requests → AreMade n p q t u m k f g r s → RoundsMade rounds p q t u m k r s (Err error.OutOfRounds)
rounds_out n rounds p q t u m k f g r s whole few made =
    let lacks = made.lacks in
    record {
      goes = made.goes;
      requests = made.requests;
      config_is = made.config;
      ids = made.ids;
      all = tt;
      out = record {
        turns = subst (λ (z : ℕ). Adds (AreWholeTurns z) t u) whole made.turns;
        full = subst (λ (z : ℕ). AddsFullTurns z p t u r) whole made.full;
        moments = made.moments;
        moments_are = made.moments_are;
        rounds_are = made.rounds_are ∙ whole;
        last = λ j e. made.last j (whole ∙ e);
        fewer = omega (arith, few, lacks);
      };
      timed_out = tt;
      lost = tt;
      errors = tt;
    }
