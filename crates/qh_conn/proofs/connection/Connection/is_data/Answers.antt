use Rattle.std.proofs.Common.{sym, ◌∙◌, subst, refl}
use Rattle.qh_conn.proofs.InData.{invalid, one_opening, opened_as}
use Rattle.qh_packet.specs.Frames.{AreValidFrames}
use Rattle.qh_conn.proofs.connection.Connection.is_data.Goals as goal

pub returns-in-Some-clause-no : goal.returns-in-Some-clause-no
returns-in-Some-clause-no g c = λ not_ok b.
    let opened = opened_as g.S.Session.accepts _ c.session.result.now _ c.len-id_length.result _ c.other-sender.result c.args.bytes.now b.number b.frames c.session.ensures c.len-id_length.ensures.value c.other-sender.ensures b.opened in
    let same = one_opening _ _ _ _ _ b.number c.in-Some.packet.number b.frames c.in-Some.packet.frames.now opened c.in-Some.ensures.some in
    invalid c.in-Some.packet.frames.now b.is_eliciting c.validate_frames.result c.validate_frames.ensures.empty c.validate_frames.ensures.frame
    (subst (λ z. AreValidFrames z b.is_eliciting) same b.valid) (sym c.is_ok.ensures.value ∙ not_ok)

pub returns-in-None-clause-no : goal.returns-in-None-clause-no
returns-in-None-clause-no g c = λ _ b.
    c.in-None.ensures.none refl b.number b.frames
    (opened_as g.S.Session.accepts _ c.session.result.now _ c.len-id_length.result _ c.other-sender.result c.args.bytes.now b.number b.frames c.session.ensures c.len-id_length.ensures.value c.other-sender.ensures b.opened)
