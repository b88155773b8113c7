-- What a turn of the driver does to the calls that wait.
use Rattle.std.proofs.Common.{◌≡◌, ℕ, Bool, true, false, ◌&&◌, List, [], ◌∷◌, Option, Some, None, is_some, if◌then◌else◌, refl, sym, ap, ◌∙◌}
use Rattle.std.proofs.lemmas.Bool.{and_from, and_parts}
use Rattle.qh_book.proofs.Waiting.{may_stay}
use Rattle.qh_book.specs.Book.{Book, with_tally}
use Rattle.qh_book.specs.Interests.{settled, waits}
use Rattle.qh_book.specs.Items.{bring, bring_all, confirmed, is_memory, on_recv, on_send, without_all_waiting}
use Rattle.qh_book.specs.Pages.{SendPage, RecvPage, Tally, is_reset, live_send, open_recv}
use Rattle.qh_book.specs.Promises.{MayStay}
use Rattle.qh_book.specs.Step.{Drives, driven}
use Rattle.qh_book.specs.declared.interest.Interest.{Interest}
use Rattle.qh_book.specs.declared.interest.Interest.TheVariants as waiting
use Rattle.qh_book.specs.declared.item.Item.{Item}
use Rattle.qh_book.specs.declared.item.Item.TheVariants as item
use Rattle.qh_book.specs.declared.reply.Reply.{Reply}
use Rattle.qh_book.specs.declared.reply.Reply.TheVariants as reply
use Rattle.qh_spec.specs.declared.sides.Dir.{Dir}
use Rattle.qh_spec.specs.declared.sides.Dir.TheVariants.{Bi, Uni}

-- ---- items change no interest

tally_interests : (b : Book) (dir : Dir) (t : Tally) → (with_tally b dir t).interests ≡ b.interests
tally_interests b Bi t = refl
tally_interests b Uni t = refl

recv_interests : (f : RecvPage → RecvPage) (o : Option RecvPage) (id : ℕ) (b : Book) → (on_recv f o id b).interests ≡ b.interests
recv_interests f None id b = refl
recv_interests f (Some p) id b = refl

send_interests : (f : SendPage → SendPage) (o : Option SendPage) (id : ℕ) (b : Book) → (on_send f o id b).interests ≡ b.interests
send_interests f None id b = refl
send_interests f (Some p) id b = refl

either_interests : (test : Bool) (b c d : Book) → b.interests ≡ d.interests → c.interests ≡ d.interests → (if test then b else c).interests ≡ d.interests
either_interests true b c d left right = left
either_interests false b c d left right = right

confirmed_interests : (to : ℕ) (has_end : Bool) (o : Option SendPage) (id : ℕ) (b : Book) → (confirmed to has_end o id b).interests ≡ b.interests
confirmed_interests to has_end None id b = refl
confirmed_interests to has_end (Some p) id b = either_interests (is_reset p.state) b _ b refl refl

bring_interests : (i : Item) (b : Book) → (bring i b).interests ≡ b.interests
bring_interests item.Connected b = refl
bring_interests (item.Arrived id credit) b = tally_interests _ _ _
bring_interests (item.Run id offset bytes) b = recv_interests _ (open_recv (b.recvs id.0)) id.0 b
bring_interests (item.End id size) b = recv_interests _ (open_recv (b.recvs id.0)) id.0 b
bring_interests (item.Reset id code size) b = recv_interests _ (open_recv (b.recvs id.0)) id.0 b
bring_interests (item.Stop id code) b = send_interests _ (live_send (b.sends id.0)) id.0 b
bring_interests (item.StreamCredit id limit) b = send_interests _ (live_send (b.sends id.0)) id.0 b
bring_interests (item.Credit limit) b = refl
bring_interests (item.Count dir count) b = tally_interests b dir _
bring_interests (item.FirstCredits bidi uni) b = refl
bring_interests (item.Confirmed id to has_end) b = confirmed_interests to has_end (live_send (b.sends id.0)) id.0 b
bring_interests (item.ResetConfirmed id) b = send_interests _ (live_send (b.sends id.0)) id.0 b
bring_interests (item.Datagram payload) b = refl
bring_interests (item.DatagramsSent count) b = refl
bring_interests (item.MaxDatagramSize size) b = refl
bring_interests (item.Lost e) b = either_interests (is_memory e) (without_all_waiting b) b b refl refl

all_interests : (items : List Item) (b : Book) → (bring_all items b).interests ≡ b.interests
all_interests [] b = refl
all_interests (i ∷ items) b = all_interests items (bring i b) ∙ bring_interests i b

-- ---- turns

-- which calls wait doesn't hang on those that were registered
pub others_wait : (m : Book) (interests : Interest → Bool) (i : Interest) → waits (record m { interests = interests }) i ≡ waits m i
others_wait m interests waiting.Connecting = refl
others_wait m interests waiting.HandshakeData = refl
others_wait m interests (waiting.Open Bi) = refl
others_wait m interests (waiting.Open Uni) = refl
others_wait m interests (waiting.Accept Bi) = refl
others_wait m interests (waiting.Accept Uni) = refl
others_wait m interests (waiting.Read id is_ordered) = refl
others_wait m interests (waiting.Write id) = refl
others_wait m interests (waiting.Stopped id) = refl
others_wait m interests (waiting.ReceivedReset id) = refl
others_wait m interests waiting.ReadDatagram = refl
others_wait m interests (waiting.SendDatagram size) = refl
others_wait m interests waiting.Closed = refl

settled_waits : (m : Book) (i : Interest) → waits (settled m) i ≡ waits m i
settled_waits m i = others_wait m (λ j. m.interests j && waits m j) i

-- none waits once an error is kept
none_waits : (m : Book) (i : Interest) → is_some m.error ≡ true → (m.interests i && waits m i) ≡ false
none_waits m i lost = rw lost (off (m.interests i))
  where
    off : (x : Bool) → (x && false) ≡ false
    off true = refl
    off false = refl

module _ {T : Type 0} where
  driven_to : (b c : Book) (items : List Item) (r : Reply T) → Drives b items r c → c ≡ driven items b
  driven_to b c items reply.Pending h = h
  driven_to b c items reply.Done h = h.1
  driven_to b c items reply.Failed h = h.3
  driven_to b c items reply.Memory h = h
  driven_to b c items r h = absurd h

  pub none_left : (b c : Book) (items : List Item) (r : Reply T) → Drives b items r c → (i : Interest) → c.interests i ≡ true → MayStay T c i
  none_left b c items r h i left = may_stay T c i (rw (driven_to b c items r h) (settled_waits (bring_all items b) i ∙ (and_parts _ _ (rw (driven_to b c items r h) at left)).1))

  pub none_lost : (b c : Book) (items : List Item) (r : Reply T) → Drives b items r c → (i : Interest) → b.interests i ≡ true → waits c i ≡ true → c.interests i ≡ true
  none_lost b c items r h i before w = rw (driven_to b c items r h)
      (and_from _ _ (ap (λ (f : Interest → Bool). f i) (all_interests items b) ∙ before) (sym (settled_waits (bring_all items b) i) ∙ (rw (driven_to b c items r h) at w)))

  pub none_made : (b c : Book) (items : List Item) (r : Reply T) → Drives b items r c → (i : Interest) → b.interests i ≡ false → c.interests i ≡ false
  none_made b c items r h i before = rw (driven_to b c items r h) (let off = ap (λ (f : Interest → Bool). f i) (all_interests items b) ∙ before in rw off refl)

  pub none_once_lost : (b c : Book) (items : List Item) (r : Reply T) → Drives b items r c → is_some c.error ≡ true → (i : Interest) → c.interests i ≡ false
  none_once_lost b c items r h lost i = rw (driven_to b c items r h) (none_waits (bring_all items b) i (rw (driven_to b c items r h) at lost))
