use Rattle.std.proofs.Common.{ℕ, List, length, sym, subst, inl, inr, refl}
use Rattle.qh_base.specs.declared.connection_error.ConnectionError.TheVariants.{TransportError as Fault, VersionMismatch}
use Rattle.qh_conduct.specs.Peers.{AreLinked}
use Rattle.qh_converse.proofs.HandshakeDatagrams.{short_ends_none}
use Rattle.qh_converse.proofs.LawfulParts.{part_lawful, within_hello}
use Rattle.qh_converse.proofs.LinkedParts.{part_comes}
use Rattle.qh_converse.proofs.ShakeLaws.{shake_in, shake_out}
use Rattle.qh_converse.proofs.Steps.{are_peers}
use Rattle.qh_converse.proofs.WithinParts.{data_part, within_whole}
use Rattle.qh_hello.specs.Greetings.{limits_of}
use Rattle.qh_spec.specs.Greeted.{AreAnnouncedFirst, HasGreetedInOrder}
use Rattle.qh_spec.specs.Link.{other}
use Rattle.qh_spec.specs.declared.sides.Side.{Side}
use Rattle.qh_spec.specs.Transcript.{handed_in}
use Rattle.qh_converse.proofs.meaning.converses.Goals as goal

pub returns-clause-lawful : goal.returns-clause-lawful
returns-clause-lawful g c = λ accepts sealed hello h x k t p. c.parts.ensures.lawful _ _ _ p.part t p.is_part (c.lawful.ensures.faithful x p.part p.begun.behaves.follows)

pub returns-clause-lawful_open : goal.returns-clause-lawful_open
returns-clause-lawful_open g c = λ accepts sealed hello h x k t up p n long.
    c.parts.ensures.lawful _ _ n p.part t p.is_part (part_lawful accepts sealed h x p.part up p.begun n long (c.lawful.ensures.faithful x p.part p.begun.behaves.follows))

pub returns-clause-order : goal.returns-clause-order
returns-clause-order g c = λ accepts sealed hello h x k t p n long.
    subst (λ (s : Side). HasGreetedInOrder (length x.local_id) n s t) (sym p.begun.side_is) (p.orders n long).order

pub returns-clause-within : goal.returns-clause-within
returns-clause-within g c = λ accepts sealed hello h x k t before after d p e. elim (c.parts.ensures.split p.part t before after d p.is_part e) [
  | inl alone ↦ inl alone
  | inr s ↦ inr (within_whole _ _ _ _ s.front before d s.so_far (c.lawful.ensures.within x p.part s.front s.back d p.begun.behaves.follows s.is))
]

pub returns-clause-within_open : goal.returns-clause-within_open
returns-clause-within_open g c = λ accepts sealed hello h x k t before after d up p e. elim (c.parts.ensures.split p.part t before after d p.is_part e) [
  | inl alone ↦ inl alone
  | inr s ↦ inr (within_hello accepts sealed h x p.part up p.begun s.front s.back before d s.is
      (within_whole _ _ _ _ s.front before d s.so_far (c.lawful.ensures.within x p.part s.front s.back d p.begun.behaves.follows s.is)))
]

pub returns-clause-announced : goal.returns-clause-announced
returns-clause-announced g c = λ accepts sealed hello h x k t r p some.
    let w = p.follows.greeted r (length x.local_id) some in
    let here : AreAnnouncedFirst (length x.local_id) (handed_in p.shake) (other h.side) (limits_of r) = record { hello = w.hello; carried = w.carried; says = w.says.limits } in
    subst (λ (s : Side). AreAnnouncedFirst (length x.local_id) (handed_in t) (other s) (limits_of r)) (sym p.begun.side_is)
    (subst (λ (z : List (List ℕ)). AreAnnouncedFirst (length x.local_id) z (other h.side) (limits_of r)) (shake_in p.shake t p.is_shake) here)

pub returns-clause-faults : goal.returns-clause-faults
returns-clause-faults g c = λ accepts sealed takes now datagram rest own_hello peer_hello own new peer x y k m retried learned e tc tp named mine theirs sides whole ids to back among taken.
    elim (shake_out theirs.shake tp theirs.is_shake datagram among) [
      | inl h ↦ c.peers.ensures.faults takes now datagram rest own_hello peer_hello own new peer retried learned e mine.shake theirs.shake named
          (are_peers accepts sealed own_hello peer_hello own peer x y k m tc tp mine theirs sides whole ids to back) h taken
      | inr s ↦ short_ends_none takes now datagram rest own new retried learned (Fault e) s taken
    ]

pub returns-clause-versions : goal.returns-clause-versions
returns-clause-versions g c = λ accepts sealed takes now datagram rest own_hello peer_hello own new peer x y k m retried learned tc tp mine theirs sides whole ids to back among taken.
    elim (shake_out theirs.shake tp theirs.is_shake datagram among) [
      | inl h ↦ c.peers.ensures.versions takes now datagram rest own_hello peer_hello own new peer retried learned mine.shake theirs.shake
          (are_peers accepts sealed own_hello peer_hello own peer x y k m tc tp mine theirs sides whole ids to back) h taken
      | inr s ↦ short_ends_none takes now datagram rest own new retried learned VersionMismatch s taken
    ]

pub returns-clause-open : goal.returns-clause-open
returns-clause-open g c = λ accepts sealed takes named own_hello peer_hello own peer x p new k m tc tp now remote tail d peers to back mine theirs up peer_up well among ends short taken.
    let linked : AreLinked mine.part theirs.part = record {
      to = part_comes mine.part tc theirs.part tp mine.is_part theirs.is_part theirs.begun.short to;
      from = part_comes theirs.part tp mine.part tc theirs.is_part mine.is_part mine.begun.short back;
    } in
    c.behaves.ensures.open takes named x p new mine.part theirs.part now remote tail peers linked mine.begun.behaves theirs.begun.behaves up peer_up well
    (c.parts.ensures.end_handed_out theirs.part tp tail d theirs.is_part theirs.begun.short among ends short) taken

pub returns-clause-accords : goal.returns-clause-accords
returns-clause-accords g c = λ accepts sealed hello h x k t tags p.
    record { part = p.part; is = data_part p.part t p.is_part; accords = p.begun.accords (accepts x.session) (sealed x.session) (λ _. (refl, refl)) tags }

pub returns-clause-in_accord : goal.returns-clause-in_accord
returns-clause-in_accord g c = λ accepts sealed hello h x k t tags up p.
    record {
      part = p.part;
      is = data_part p.part t p.is_part;
      in_accord = c.accords.ensures.open (accepts x.session) (sealed x.session) x p.part up (p.begun.accords (accepts x.session) (sealed x.session) (λ _. (refl, refl)) tags);
    }
