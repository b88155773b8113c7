use Rattle.std.proofs.Common.{◌≡◌, ℕ, List, [], ◌∷◌, ◌++◌, length, drop, refl, subst}
use Rattle.qh_converse.proofs.HandshakeDatagrams.{close_unsent_still, dropped_follows, dropped_sends, same_still, still_by as still_made, timed_still, unsent_still}
use Rattle.qh_converse.proofs.MadeQuietly.{locally_quiet}
use Rattle.qh_converse.proofs.ShakeLaws.{part_quiet, shake_quiet, short_out, short_quiet}
use Rattle.qh_converse.proofs.ShortDatagrams.{short_made}
use Rattle.qh_converse.proofs.StateKept.{acted_begun, called_begun, quiet_order, same_order, sent_order}
use Rattle.qh_converse.proofs.Steps.{goes, stays}
use Rattle.qh_converse.specs.Parts.IsShakeOf.{other as other_act}
use Rattle.qh_core.proofs.MadeTogether.{all_same, local_all, one_step}
use Rattle.qh_core.specs.Made.{IsMade}
use Rattle.qh_handshake.specs.Handshake.{dropping}
use Rattle.qh_spec.specs.Parted.{IsShort}
use Rattle.qh_spec.specs.Parted.IsPartOf.{same as same_act}
use Rattle.qh_spec.specs.Transcript.{HandedOut}
use Rattle.qh_converse.proofs.sending.sends.Goals as goal

pub returns-clause-made : goal.returns-clause-made
returns-clause-made g c = λ accepts sealed makes_it now before after hello old new size x k t makes whole made p.
    goes accepts sealed hello old new x k t (drop (length before) after) (still_made old new _ made.new_is (record { side = refl; id = refl; parameters = refl; peer = refl; remote = λ _. refl })) p
    (c.follows.ensures.made makes_it now before after hello old new size p.shake makes whole made p.follows)
    (c.sends.ensures.made makes_it now before after hello old new size p.shake makes whole made p.follows p.sends)

pub returns-clause-close : goal.returns-clause-close
returns-clause-close g c = λ accepts sealed makes_it close before after hello old new size x k t makes whole made p.
    goes accepts sealed hello old new x k t (drop (length before) after) (still_made old new _ made.new_is (record { side = refl; id = refl; parameters = refl; peer = refl; remote = λ _. refl })) p
    (c.follows.ensures.closed makes_it close before after hello old new size p.shake makes whole made p.follows)
    (c.sends.ensures.closed makes_it close before after hello old new size p.shake makes whole made p.sends)

pub returns-clause-short : goal.returns-clause-short
returns-clause-short g c = λ sealed now old new before after transmit made. short_made sealed now old new before after transmit made

pub returns-clause-sent : goal.returns-clause-sent
returns-clause-sent g c = λ accepts sealed hello d h x new k t named makes made short greeted connected p.
    let same = made.1.same_end in
    let behaves = c.behaves_on.ensures accepts sealed x new (HandedOut d ∷ []) p.part named makes (one_step (IsMade accepts sealed) x new (HandedOut d ∷ []) made) p.begun.behaves in
    record {
      shake = p.shake;
      is_shake = other_act p.shake t (HandedOut d) refl (λ y e. subst (λ (z : List ℕ). IsShort z) (let f : HandedOut d ≡ HandedOut y = e in cc) short) p.is_shake;
      follows = p.follows;
      sends = p.sends;
      part = p.part ++ HandedOut d ∷ [];
      is_part = same_act p.part t (HandedOut d) refl p.is_part;
      begun = acted_begun accepts sealed h x new p.part (HandedOut d) greeted made behaves (short_out p.part d short p.begun.short) p.begun;
      orders = sent_order h x new k t d greeted connected same.local_id p.orders;
    }

pub returns-clause-called : goal.returns-clause-called
returns-clause-called g c = λ accepts sealed hello h x new k acts t made none p.
    let silent = locally_quiet x new acts made in
    let same = (all_same accepts sealed x new acts (local_all accepts sealed x new acts made)).0 in
    record {
      shake = p.shake;
      is_shake = shake_quiet acts p.shake t silent p.is_shake;
      follows = p.follows;
      sends = p.sends;
      part = p.part ++ acts;
      is_part = part_quiet acts p.part t silent p.is_part;
      begun = called_begun accepts sealed h x new p.part acts made (short_quiet acts p.part silent p.begun.short) none p.begun;
      orders = quiet_order h new k acts t silent (same_order h h x new k t (same_still h h refl) same.local_id p.orders);
    }

pub returns-clause-unsent : goal.returns-clause-unsent
returns-clause-unsent g c = λ accepts sealed now hello old new x k t is p.
    let s = unsent_still now old new is in
    stays accepts sealed hello old new x k t s p (c.follows.ensures.unsent now hello old new p.shake is p.follows) (c.sends.ensures.unsent now hello old new p.shake is p.sends)

pub returns-clause-close_unsent : goal.returns-clause-close_unsent
returns-clause-close_unsent g c = λ accepts sealed hello old new x k t is p.
    let s = close_unsent_still old new is in
    stays accepts sealed hello old new x k t s p (c.follows.ensures.close_unsent hello old new p.shake is p.follows) (c.sends.ensures.close_unsent hello old new p.shake is p.sends)

pub returns-clause-timed_out : goal.returns-clause-timed_out
returns-clause-timed_out g c = λ accepts sealed now hello old new x k t is p.
    let s = timed_still now old new is in
    stays accepts sealed hello old new x k t s p (c.follows.ensures.timed_out now hello old new p.shake is p.follows) (c.sends.ensures.timed_out now hello old new p.shake is p.sends)

pub returns-clause-dropped : goal.returns-clause-dropped
returns-clause-dropped g c = λ accepts sealed hello h x k t p.
    stays accepts sealed hello h (dropping h) x k t (record { side = refl; id = refl; parameters = refl; peer = refl; remote = λ _. refl }) p (dropped_follows hello h p.shake p.follows) (dropped_sends hello h p.shake p.sends)
