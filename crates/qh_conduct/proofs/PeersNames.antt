-- The streams that the other end's frames name are there, or may be.
use Rattle.std.proofs.Common.{◌≡◌, ℕ, zero, suc, ◌%◌, ◌<◌, ◌≤◌, ◌==◌, nat_lt, Bool, true, false, ◌||◌, not, List, length, refl, sym, ap, subst, ◌∙◌, arith}
use Rattle.std.proofs.lemmas.Bool.{lt-ltb, ltb-true}
use Rattle.qh_conduct.proofs.PeersKept.{Says, says_came}
use Rattle.qh_conduct.proofs.PeersLimits.{opened_within}
use Rattle.qh_conduct.specs.Announced.{Announced, IsReading, IsSending}
use Rattle.qh_conduct.specs.Fitting.{IsStreamKnown, NamesKnown}
use Rattle.qh_conduct.specs.Granted.{AreGranted}
use Rattle.qh_conduct.specs.Peers.{ArePeers}
use Rattle.qh_conduct.specs.Reached.{Names, Reached}
use Rattle.qh_core.specs.Follows.{Following}
use Rattle.qh_core.specs.declared.inner.Inner.{Inner}
use Rattle.qh_halves.specs.Counts.{has_recv, has_send, index_of, is_bi, is_own}
use Rattle.qh_spec.specs.Link.{other}
use Rattle.qh_spec.specs.Lists.{In}
use Rattle.qh_spec.specs.Transcript.{Act, handed_in, handed_out}
use Rattle.qh_spec.specs.declared.sides.Side.{Side}
use Rattle.qh_spec.specs.declared.sides.Side.TheVariants.{Client, Server}
use Rattle.qh_streams.specs.Streams.{PlainStreams, counts_of, is_two_way, was_opened}
use Rattle.qh_streams.specs.declared.frames.StreamFrame.{StreamFrame}
use Rattle.qh_streams.specs.declared.frames.StreamFrame.TheVariants as coming

-- ---- the two sides

parity : (n : ℕ) → n < 2 → (1 == n) ≡ not (0 == n)
parity zero less = refl
parity (suc zero) less = refl
parity (suc (suc n)) less = absurd (omega (arith, less))

parity_back : (n : ℕ) → n < 2 → (0 == n) ≡ not (1 == n)
parity_back zero less = refl
parity_back (suc zero) less = refl
parity_back (suc (suc n)) less = absurd (omega (arith, less))

-- a stream is one end's own exactly where it isn't the other's
other_own : (side : Side) (id : ℕ) → is_own (other side) id ≡ not (is_own side id)
other_own Client id = parity (id % 2) (omega arith)
other_own Server id = parity_back (id % 2) (omega arith)

not_not : (b : Bool) → not (not b) ≡ b
not_not true = refl
not_not false = refl

sends_reads : (side : Side) (id : ℕ) → has_send (other side) id ≡ has_recv side id
sends_reads side id = ap (λ (b : Bool). b || is_bi id) (other_own side id)

reads_sends : (side : Side) (id : ℕ) → has_recv (other side) id ≡ has_send side id
reads_sends side id = ap (λ (b : Bool). not b || is_bi id) (other_own side id) ∙ ap (λ (b : Bool). b || is_bi id) (not_not (is_own side id))

-- ---- streams that were opened

own_below : (s : PlainStreams) (id : ℕ) → is_own s.side id ≡ true → was_opened s id ≡ true → index_of id < (counts_of s (is_bi id)).opened
own_below s id own opened =
    let counted : nat_lt (index_of id) (counts_of s (is_bi id)).opened ≡ true = rw own at opened in
    ltb-true (index_of id) (counts_of s (is_bi id)).opened counted

others_below : (s : PlainStreams) (id : ℕ) → is_own s.side id ≡ false → was_opened s id ≡ true → index_of id < (counts_of s (is_bi id)).arrived
others_below s id own opened =
    let counted : nat_lt (index_of id) (counts_of s (is_bi id)).arrived ≡ true = rw own at opened in
    ltb-true (index_of id) (counts_of s (is_bi id)).arrived counted

own_opened : (s : PlainStreams) (id : ℕ) → is_own s.side id ≡ true → index_of id < (counts_of s (is_bi id)).opened → was_opened s id ≡ true
own_opened s id own below = rw own (lt-ltb (index_of id) (counts_of s (is_bi id)).opened below)

-- a stream of its own that isn't behind another one of the same direction was opened where that one was
before_opened : (s : PlainStreams) (id stream : ℕ) → is_own s.side id ≡ true → is_own s.side stream ≡ true → is_bi stream ≡ is_bi id → index_of id ≤ index_of stream → was_opened s stream ≡ true → was_opened s id ≡ true
before_opened s id stream own same direction past opened =
    let below : index_of stream < (counts_of s (is_bi id)).opened = subst (λ (b : Bool). index_of stream < (counts_of s b).opened) direction (own_below s stream same opened) in
    own_opened s id own (omega (arith, past, below))

flipped : (a b : Bool) → a ≡ not b → (x : Bool) → b ≡ x → a ≡ not x
flipped a b e x is = e ∙ ap not is

flipped_back : (a b : Bool) → a ≡ not b → (x : Bool) → a ≡ x → b ≡ not x
flipped_back a b e x is = sym (not_not b) ∙ ap not (sym e ∙ is)

-- a frame names a stream that its sender opened, or that came to it
named_opened : {S : Type 0} (c : Inner S) (came : List (List ℕ)) (f : StreamFrame) (stream : ℕ) → Names stream f → Says c came f → was_opened c.space.streams stream ≡ true
named_opened c came (coming.Stream id offset payload fin) stream is says = rw (← is) says.0
named_opened c came (coming.Reset id code size) stream is says = rw (← is) says.0
named_opened c came (coming.Stop id code) stream is says = rw (← is) says.0
named_opened c came (coming.MaxStreamData id limit) stream is says = rw (← is) says.0.0
named_opened c came (coming.MaxData limit) stream is says = absurd is
named_opened c came (coming.MaxStreams dir count) stream is says = absurd is

module _ {S : Type 0} (c p : Inner S) (tc tp : List Act) (peers : ArePeers c p) (a : Announced c tc) (b : Announced p tp) (rc : Reached c tc) (rp : Reached p tp) (f : Following p tp) (space_is : p.space ≡ f.space)
    (among : (d : List ℕ) → In d (handed_in tp) → In d (handed_out tc)) (grants : AreGranted c) where
  side_is : p.space.streams.side ≡ other c.space.streams.side
  side_is = rp.are.side_is ∙ peers.sides ∙ ap other (sym rc.are.side_is)

  own_is : (id : ℕ) → is_own p.space.streams.side id ≡ not (is_own c.space.streams.side id)
  own_is id = ap (λ (s : Side). is_own s id) side_is ∙ other_own c.space.streams.side id

  -- a stream of this end's that came to the other was opened here
  came_opened : (id : ℕ) → was_opened p.space.streams id ≡ true → is_own c.space.streams.side id ≡ true → was_opened c.space.streams id ≡ true
  came_opened id opened own =
      let peers_not = flipped _ _ (own_is id) true own in
      let any = rp.are.arrived (is_bi id) (index_of id) (others_below p.space.streams id peers_not opened) in
      let n = any.is in
      let says = says_came c tc a (length p.local_id) (handed_in tp) (other p.side) peers.back among any.frame (rp.came any.frame any.among) in
      let there = named_opened c (handed_in tc) any.frame n.stream n.names says in
      let same : is_own c.space.streams.side n.stream ≡ true = flipped_back _ _ (own_is n.stream) false (ap (λ (s : Side). is_own s n.stream) rp.are.side_is ∙ n.peers) in
      before_opened c.space.streams id n.stream own same n.direction n.past there

  -- one of the other end's lies within the count that was announced here
  within_count : (id : ℕ) → was_opened p.space.streams id ≡ true → is_own c.space.streams.side id ≡ false → index_of id < (counts_of c.space.streams (is_bi id)).announced.value
  within_count id opened own =
      let theirs = flipped _ _ (own_is id) false own in
      let below = own_below p.space.streams id theirs opened in
      let most = opened_within c p tc tp peers a f among grants (is_bi id) in
      let same = ap (λ (s : _). (counts_of s (is_bi id)).opened) (ap (λ (d : _). d.streams) space_is) in
      omega (arith, below, most, same)

  known : (id : ℕ) (half : Bool) → half ≡ true → was_opened p.space.streams id ≡ true → IsStreamKnown c.space.streams id half
  known id half has opened = record { half = has; opened = came_opened id opened; within = within_count id opened }

  sent_known : (id : ℕ) → IsSending p.space.streams id → IsStreamKnown c.space.streams id (has_recv c.space.streams.side id)
  sent_known id k = known id _ (sym (sends_reads c.space.streams.side id) ∙ ap (λ (s : Side). has_send s id) (sym side_is) ∙ k.1) k.0

  read_known : (id : ℕ) → IsReading p.space.streams id → IsStreamKnown c.space.streams id (has_send c.space.streams.side id)
  read_known id k = known id _ (sym (reads_sends c.space.streams.side id) ∙ ap (λ (s : Side). has_recv s id) (sym side_is) ∙ k.1) k.0

  pub names_known : (g : StreamFrame) → Says p (handed_in tp) g → NamesKnown c.space.streams g
  names_known (coming.Stream id offset payload fin) says = sent_known id.0 says
  names_known (coming.Reset id code size) says = sent_known id.0 says
  names_known (coming.Stop id code) says = read_known id.0 says
  names_known (coming.MaxStreamData id limit) says = read_known id.0 says.0
  names_known (coming.MaxStreams dir count) says = let most = b.live.counts (is_two_way dir) in omega (arith, says, most)
  names_known (coming.MaxData limit) says = tt
