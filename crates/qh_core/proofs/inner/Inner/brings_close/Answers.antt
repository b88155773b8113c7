use Rattle.std.proofs.Common.{◌≡◌, ℕ, List, Bool, true, false, length, sym, ◌∙◌, subst}
use Rattle.std.specs.List.{list_any}
use Rattle.qh_core.specs.Receiving.{IsOpenedBy, is_close}
use Rattle.qh_core.specs.declared.inner.Inner.{Inner}
use Rattle.qh_core.proofs.inner.Inner.brings_close.Goals as goal
use Rattle.qh_packet.proofs.Packets.{parts_of}
use Rattle.qh_spec.specs.Link.{other}
use Rattle.qh_spec.specs.QuicFrames.{AreQuicFrames}
use Rattle.qh_spec.specs.declared.sides.Side.{Side}
use Rattle.qh_spec.specs.declared.sides.Space.{Space}

-- a datagram bears the frames of one packet
same_frames : {S : Type 0} (accepts : Side → Space → ℕ → List ℕ → Bool) (c : Inner S) (datagram : List ℕ) (n m : ℕ) (xs ys : List ℕ) → IsOpenedBy accepts c datagram n xs
    → IsOpenedBy accepts c datagram m ys → xs ≡ ys
same_frames accepts c datagram n m xs ys o p =
    sym o.is.frames_are ∙ (parts_of accepts (length c.local_id) (other c.side) p.expected datagram o.is.packet m ys o.is.is.fits o.is.is.whole p.is).frames_are

pub returns-in-Some-clause-no : goal.returns-in-Some-clause-no
returns-in-Some-clause-no g c = λ e b.
    let same = same_frames (g.S.Session.accepts c.args.self.now.session) c.args.self.now c.args.datagram.now b.number c.in-Some.packet.number b.bytes c.in-Some.packet.frames.now b.opened c.in-Some.ensures.some.0 in
    let none : list_any is_close b.frames ≡ false = c.has_close.ensures.no e b.frames (subst (λ (z : List ℕ). AreQuicFrames z b.frames) same b.are) b.in_range in
    let both : true ≡ false = sym b.closes ∙ none in
    cc

pub returns-in-None-clause-no : goal.returns-in-None-clause-no
returns-in-None-clause-no g c = λ _ b. c.in-None.ensures.none b.number b.bytes b.opened
