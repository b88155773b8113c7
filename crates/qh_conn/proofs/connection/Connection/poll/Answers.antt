use Rattle.std.proofs.Common.{◌≡◌, Option, Bool, false, refl, sym, ap, subst, ◌∙◌}
use Rattle.qh_conn.specs.Telling.{IsTold}
use Rattle.qh_conn.specs.declared.event.Event.{Event}
use Rattle.qh_control.specs.declared.control.ControlState.{ControlState}
use Rattle.qh_conn.proofs.SameParts.{told_same}
use Rattle.qh_conn.proofs.connection.Connection.poll.Goals as goal

quiet_news : (s : ControlState) → s.is_datagram_due ≡ false → record s { is_datagram_due = false } ≡ s
quiet_news s e = ap (λ (b : Bool). record s { is_datagram_due = b }) (sym e)

quiet_unblocked : (s : ControlState) → s.is_unblocked_due ≡ false → record s { is_unblocked_due = false } ≡ s
quiet_unblocked s e = ap (λ (b : Bool). record s { is_unblocked_due = b }) (sym e)

pub returns-then-self-clause-told : goal.returns-then-self-clause-told
returns-then-self-clause-told g c = IsTold.handshake_data c.if-self.true refl

pub returns-then-self-2-clause-told : goal.returns-then-self-2-clause-told
returns-then-self-2-clause-told g c = IsTold.connected c.if-self.false c.if-self-2.true refl

pub returns-then-take_datagram_news-clause-told : goal.returns-then-take_datagram_news-clause-told
returns-then-take_datagram_news-clause-told g c =
    IsTold.received c.if-self.false c.if-self-2.false (sym c.take_datagram_news.ensures.value ∙ c.if-take_datagram_news.true)
    (ap (λ (z : ControlState). record c.args.self.now { control = z }) c.take_datagram_news.ensures.rest)

pub returns-then-take_unblocked_news-clause-told : goal.returns-then-take_unblocked_news-clause-told
returns-then-take_unblocked_news-clause-told g c =
    let old = c.args.self.now in
    let no_news = sym c.take_datagram_news.ensures.value ∙ c.if-take_datagram_news.false in
    let same = c.take_datagram_news.ensures.rest ∙ quiet_news old.control no_news in
    IsTold.unblocked c.if-self.false c.if-self-2.false no_news
    (sym (ap (λ (z : ControlState). z.is_unblocked_due) same) ∙ sym c.take_unblocked_news.ensures.value ∙ c.if-take_unblocked_news.true)
    (ap (λ (z : ControlState). record old { control = z }) (c.take_unblocked_news.ensures.rest ∙ ap (λ (z : ControlState). record z { is_unblocked_due = false }) same))

pub returns-clause-told : goal.returns-clause-told
returns-clause-told g c =
    let old = c.args.self.now in
    let told = c.poll_core.ensures.told in
    let no_news = sym c.take_datagram_news.ensures.value ∙ c.if-take_datagram_news.false in
    let same = c.take_datagram_news.ensures.rest ∙ quiet_news old.control no_news in
    let no_room = sym (ap (λ (z : ControlState). z.is_unblocked_due) same) ∙ sym c.take_unblocked_news.ensures.value ∙ c.if-take_unblocked_news.false in
    let kept = c.take_unblocked_news.ensures.rest ∙ ap (λ (z : ControlState). record z { is_unblocked_due = false }) same ∙ quiet_unblocked old.control no_room in
    subst (λ (z : Option Event). IsTold old c.poll_core.new.self z) (sym told.1)
    (IsTold.of_core told.0 c.if-self.false c.if-self-2.false no_news no_room told.2
    (c.poll_core.ensures.rest ∙ ap (λ (z : ControlState). record old { control = z; core = c.poll_core.new.self.core }) kept))

pub returns-then-self-clause-same : goal.returns-then-self-clause-same
returns-then-self-clause-same g c = λ key. told_same key c.args.self.now _ _ (returns-then-self-clause-told g c)

pub returns-then-self-2-clause-same : goal.returns-then-self-2-clause-same
returns-then-self-2-clause-same g c = λ key. told_same key c.args.self.now _ _ (returns-then-self-2-clause-told g c)

pub returns-then-take_datagram_news-clause-same : goal.returns-then-take_datagram_news-clause-same
returns-then-take_datagram_news-clause-same g c = λ key. told_same key c.args.self.now _ _ (returns-then-take_datagram_news-clause-told g c)

pub returns-then-take_unblocked_news-clause-same : goal.returns-then-take_unblocked_news-clause-same
returns-then-take_unblocked_news-clause-same g c = λ key. told_same key c.args.self.now _ _ (returns-then-take_unblocked_news-clause-told g c)

pub returns-clause-same : goal.returns-clause-same
returns-clause-same g c = λ key. told_same key c.args.self.now c.poll_core.new.self _ (returns-clause-told g c)
