-- Two ends are still those of one connection, and are linked, behind what is done with them.
use Rattle.std.proofs.Common.{◌≡◌, ℕ, ◌≤◌, ◌^◌, List, [], ◌++◌, length, refl, sym, ap, subst, ◌∙◌}
use Rattle.std.proofs.lemmas.List.{append-nil}
use Rattle.qh_conduct.specs.Peers.{AreLinked, ArePeers, TakesFrom}
use Rattle.qh_core.specs.Config.{peer_of}
use Rattle.qh_core.specs.Inner.{IsSameEnd}
use Rattle.qh_core.specs.declared.config.ConnConfig.{ConnConfig}
use Rattle.qh_core.specs.declared.inner.Inner.{Inner}
use Rattle.qh_spec.proofs.Members.{in_left}
use Rattle.qh_spec.proofs.TranscriptLaws.{handed_in-append, handed_out-append}
use Rattle.qh_spec.specs.Link.{other}
use Rattle.qh_spec.specs.Lists.{In}
use Rattle.qh_spec.specs.Transcript.{Act, handed_in, handed_out}
use Rattle.qh_spec.specs.declared.sides.Side.{Side}
use Rattle.qh_spec.specs.declared.sides.Side.TheVariants.{Client, Server}

other_back : (side : Side) → other (other side) ≡ side
other_back Client = refl
other_back Server = refl

abbrev FitsCounts : ConnConfig → Type 0
FitsCounts k = (k.limits.max_bidi ≤ 2 ^ 60) × (k.limits.max_uni ≤ 2 ^ 60)

module _ {S : Type 0} where
  pub turned : (c p : Inner S) → ArePeers c p → ArePeers p c
  turned c p peers = record {
    sides = sym (ap other peers.sides ∙ other_back c.side);
    there = peers.back;
    back = peers.there;
    known = peers.knows;
    knows = peers.known;
    fits = peers.fits_back;
    fits_back = peers.fits;
    datagrams = peers.datagrams_back;
    datagrams_back = peers.datagrams;
  }

  pub same_peers : (c p d q : Inner S) → IsSameEnd c d → IsSameEnd p q → ArePeers c p → ArePeers d q
  same_peers c p d q first second peers = record {
    sides = second.side ∙ peers.sides ∙ ap other (sym first.side);
    there = second.remote_length ∙ peers.there ∙ sym (ap length first.local_id);
    back = first.remote_length ∙ peers.back ∙ sym (ap length second.local_id);
    known = ap (λ (k : ConnConfig). k.peer) second.config ∙ peers.known ∙ ap (λ (k : ConnConfig). peer_of k.limits) (sym first.config);
    knows = ap (λ (k : ConnConfig). k.peer) first.config ∙ peers.knows ∙ ap (λ (k : ConnConfig). peer_of k.limits) (sym second.config);
    fits = subst (λ (k : ConnConfig). FitsCounts k) (sym first.config) peers.fits;
    fits_back = subst (λ (k : ConnConfig). FitsCounts k) (sym second.config) peers.fits_back;
    datagrams = subst (λ (k : ConnConfig). TakesFrom k q.config) (sym first.config) (subst (λ (k : ConnConfig). TakesFrom c.config k) (sym second.config) peers.datagrams);
    datagrams_back = subst (λ (k : ConnConfig). TakesFrom k d.config) (sym second.config) (subst (λ (k : ConnConfig). TakesFrom p.config k) (sym first.config) peers.datagrams_back);
  }

pub linked_back : (tc tp : List Act) → AreLinked tc tp → AreLinked tp tc
linked_back tc tp linked = record { to = linked.from; from = linked.to }

pub linked_more : (tc tp u : List Act) → handed_in u ≡ [] → AreLinked tc tp → AreLinked (tc ++ u) tp
linked_more tc tp u none linked = record {
  to = λ x is. linked.to x (subst (λ (l : List (List ℕ)). In x l) (handed_in-append tc u ∙ ap (λ (l : List (List ℕ)). handed_in tc ++ l) none ∙ append-nil (handed_in tc)) is);
  from = λ x is. subst (λ (l : List (List ℕ)). In x l) (sym (handed_out-append tc u)) (in_left x (handed_out tc) (handed_out u) (linked.from x is));
}
