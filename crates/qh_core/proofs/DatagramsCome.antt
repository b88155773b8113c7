-- A datagram that comes: how the space stands to all that was done, with that datagram handed in.
use Rattle.std.proofs.Common.{ℕ, Bool, List, [], ◌∷◌, ◌++◌, refl, ap, subst, inl, inr}
use Rattle.qh_core.proofs.Acts.{coming_before, number_before}
use Rattle.qh_core.proofs.Followed.{FollowsOf, same_streams}
use Rattle.qh_core.proofs.Handed.{before_those, resets_on, same_out}
use Rattle.qh_core.specs.Follows.{HasNumber}
use Rattle.qh_core.specs.Receiving.{IsAccepted}
use Rattle.qh_core.specs.declared.config.ConnConfig.{ConnConfig}
use Rattle.qh_history.proofs.Runs.{dropped}
use Rattle.qh_space.specs.declared.data_space.DataSpace.{DataSpace}
use Rattle.qh_spec.specs.Carried.{HasRun}
use Rattle.qh_spec.specs.Link.{other}
use Rattle.qh_spec.specs.Transcript.{Act, HandedIn, handed_in}
use Rattle.qh_spec.specs.declared.sides.Side.{Side}
use Rattle.qh_transcript.proofs.ReceivingLists.{others_stand}
use Rattle.qh_transcript.proofs.SendingSteps as step
use Rattle.qh_transcript.proofs.WithinKept as kept
use Rattle.qh_transcript.specs.Receiving.{ReadNothing}
use Rattle.qh_transcript.specs.Sending.{WriteNothing}

writes_nothing : (d : List ℕ) → WriteNothing (HandedIn d ∷ [])
writes_nothing d = record { bytes = λ id. refl; ends = λ id. refl }

reads_nothing : (d : List ℕ) → ReadNothing (HandedIn d ∷ [])
reads_nothing d = record { pieces = λ id. refl; ends = λ id. refl }

module _ (side : Side) (own peer : ℕ) (config : ConnConfig) where
  pub handed_in_follows : (s : DataSpace) (t : List Act) (d : List ℕ) → FollowsOf side own peer config s t → FollowsOf side own peer config s (t ++ HandedIn d ∷ [])
  handed_in_follows s t d p = record {
    of = p.of;
    datagrams = p.datagrams;
    sent = p.sent;
    came = p.came;
    is_sent = λ run has. p.is_sent run (subst (λ (z : List (List ℕ)). HasRun peer z side run) (same_out t (HandedIn d ∷ []) refl) has);
    has_come = dropped own side p.came t d p.has_come;
    stands = record {
      out = step.others s.streams p.sent t (HandedIn d ∷ []) (writes_nothing d) p.stands.out;
      into = others_stand s.streams p.came t (HandedIn d ∷ []) (reads_nothing d) p.stands.into;
    };
    given = p.given;
    gave = λ f is. coming_before own (other side) t d f (p.gave f is);
    within = kept.others s.streams p.given t (HandedIn d ∷ []) (writes_nothing d) p.within;
    resets = resets_on peer side t (HandedIn d ∷ []) refl p.resets;
    each_within = λ before after e is. let r = before_those t (HandedIn d ∷ []) before after e refl is in p.each_within before r.0 e r.1;
    accepted = p.accepted;
    remembers = p.remembers;
    numbers = λ n is. number_before own (other side) t d n (p.numbers n is);
  }

  -- a packet with a number is accepted, which is among those that came
  pub accepted_follows : (old new : DataSpace) (t : List Act) (number : ℕ) (is_eliciting : Bool) → IsAccepted number is_eliciting old new → HasNumber own (handed_in t) (other side) number
      → FollowsOf side own peer config old t → FollowsOf side own peer config new t
  accepted_follows old new t number is_eliciting a has p =
      let q = same_streams side own peer config old (record new { dedup = old.dedup }) t (ap (λ (s : DataSpace). s.streams) a.rest_is) refl (ap (λ (s : DataSpace). s.datagram_receive) a.rest_is) p in
      record {
        of = q.of;
        datagrams = q.datagrams;
        sent = q.sent;
        came = q.came;
        is_sent = q.is_sent;
        has_come = q.has_come;
        stands = record { out = q.stands.out; into = q.stands.into };
        given = q.given;
        gave = q.gave;
        within = q.within;
        resets = q.resets;
        each_within = q.each_within;
        accepted = number ∷ p.accepted;
        remembers = a.remembers p.accepted p.remembers;
        numbers = λ n is. elim is [
          | inl same ↦ subst (λ (n : ℕ). HasNumber own (handed_in t) (other side) n) same has
          | inr before ↦ p.numbers n before
        ];
      }
