use Rattle.std.proofs.Common.{◌≡◌, ℕ, ◌∙◌, List, Option, Some, ap, refl, arith}
use Rattle.qh_space.specs.Receiving.{greatest_of}
use Rattle.qh_streams.specs.Items.{logged}
use Rattle.qh_streams.specs.declared.items.Item.{Item}
use Rattle.qh_space.specs.declared.data_space.DataSpace.{DataSpace}
use Rattle.qh_space.proofs.SpaceKept.{greatest_below, lost_space, next_left}
use Rattle.qh_space.proofs.data_space.DataSpace.take_ack.Goals as goal

pub returns-clause-ok : goal.returns-clause-ok
returns-clause-ok c =
    let old = c.args.self.now in
    let acked = c.acknowledge.new.self in
    let measured = rw c.into_inner-greatest.ensures.value at c.measure.ensures in
    let t = rw measured at c.acknowledge.ensures.taken in
    let log_is : c.give_back.new.self ≡ logged old.log t.items = c.give_back.ensures ∙ (t.log_is ∙ ap (λ (o : Option (List Item)). logged o t.items) c.in_ok-log.ensures.ok) in
    let rest = rw measured at c.acknowledge.ensures.rest in
    let largest_is : c.greatest_of-largest.result ≡ greatest_of old.largest_acked c.args.ack.now.greatest =
    (rw rest at c.greatest_of-largest.ensures) ∙ ap (λ (n : ℕ). greatest_of old.largest_acked n) c.into_inner-greatest.ensures.value in
    record {
      mid = record acked { log = c.give_back.new.self; largest_acked = Some (greatest_of old.largest_acked c.args.ack.now.greatest) };
      is_any = c.acknowledge.result;
      taken = t.taken;
      items = t.items;
      confirmed = t.confirmed;
      none_is = rw measured at c.acknowledge.ensures.none;
      some_is = rw measured at c.acknowledge.ensures.some;
      mid_is = rw log_is (ap (λ (s : DataSpace). record s { log = logged old.log t.items; largest_acked = Some (greatest_of old.largest_acked c.args.ack.now.greatest) }) rest);
      lost = rw largest_is at c.lose.ensures.lost;
    }

pub returns-clause-space : goal.returns-clause-space
returns-clause-space c =
    let space = c.requires in
    let rest = c.acknowledge.ensures.rest in
    let first = c.measure.ensures in
    let number_is = ap (λ (s : DataSpace). s.next_number) rest ∙ ap (λ (s : DataSpace). s.next_number) first in
    let acked_is = ap (λ (s : DataSpace). s.largest_acked) rest ∙ ap (λ (s : DataSpace). s.largest_acked) first in
    let acks_is = ap (λ (s : DataSpace). s.acks) rest ∙ ap (λ (s : DataSpace). s.acks) first in
    let sent_is = ap (λ (s : DataSpace). s.sent) first in
    let next = next_left _ c.args.self.now.next_number c.measure.new.self.sent c.acknowledge.new.self.sent _ c.acknowledge.ensures.taken.taken.packets (rw sent_is space.next) in
    lost_space _ _ _ _ c.lose.ensures.lost c.lose.ensures.owed refl
    (rw (c.greatest_of-largest.ensures) (rw acked_is (rw number_is (greatest_below c.args.self.now.largest_acked _ c.args.self.now.next_number space.acked (omega (arith, c.if-greatest-self.false))))))
    (rw number_is next) (rw number_is space.bound) (rw acks_is space.due)
