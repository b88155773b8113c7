use Rattle.std.proofs.Common.{sym, ◌∙◌}
use Rattle.http_header.specs.Token.{lowercase}
use Rattle.qh_spec.specs.ScriptLine as says
use Rattle.qh_script.specs.declared.line.Line.TheVariants.{Field, Trailer, Body, Fill}
use Rattle.qh_script.proofs.Outlines.{outlined, steps_as, none_as, request_step, field_step, trailer_step, body_step, fill_step, set_step, retry_step, grease_step, disturb_step, field_none, trailer_none, body_none, fill_none}
use Rattle.qh_script.proofs.script.outline.Outline.apply.Goals as goal

pub returns-in-Request-clause-taken : goal.returns-in-Request-clause-taken
returns-in-Request-clause-taken c = λ yes s h.
    let m = rw c.in-Request.is at c.requires in
    rw c.in-Request.is
    (outlined _ m.0 s c.begin_request.new.self m.1 (steps_as m.0 (says.Request c.in-Request.method.now m.1.0) s c.begin_request.new.self m.1.3 (request_step s c.args.self.now h c.in-Request.method.now m.1.0 c.begin_request.new.self c.begin_request.ensures)))

pub returns-in-Field-clause-taken : goal.returns-in-Field-clause-taken
returns-in-Field-clause-taken c = λ yes s h.
    let m = rw c.in-Field.is at c.requires in
    rw c.in-Field.is
    (outlined _ m.0 s c.add_field.new.self m.1 (steps_as m.0 (says.Field (lowercase c.in-Field.name.now) c.in-Field.value.now) s c.add_field.new.self m.1.1 (field_step s c.args.self.now h (lowercase c.in-Field.name.now) c.in-Field.value.now c.add_field.new.self (c.add_field.ensures.taken yes) c.add_field.ensures.config)))

pub returns-in-Field-clause-refused : goal.returns-in-Field-clause-refused
returns-in-Field-clause-refused c = λ never s h.
    let m = rw c.in-Field.is at c.requires in
    rw c.in-Field.is (none_as (Field c.in-Field.name c.in-Field.value) m.0 (says.Field (lowercase c.in-Field.name.now) c.in-Field.value.now) s m.1 m.1.1 (field_none s c.args.self.now h (lowercase c.in-Field.name.now) c.in-Field.value.now (c.add_field.ensures.refused never)))

pub returns-in-Trailer-clause-taken : goal.returns-in-Trailer-clause-taken
returns-in-Trailer-clause-taken c = λ yes s h.
    let m = rw c.in-Trailer.is at c.requires in
    rw c.in-Trailer.is
    (outlined _ m.0 s c.add_field-in-Trailer.new.self m.1 (steps_as m.0 (says.Trailer (lowercase c.in-Trailer.name.now) c.in-Trailer.value.now) s c.add_field-in-Trailer.new.self m.1.1 (trailer_step s c.args.self.now h (lowercase c.in-Trailer.name.now) c.in-Trailer.value.now c.add_field-in-Trailer.new.self (c.add_field-in-Trailer.ensures.taken yes) c.add_field-in-Trailer.ensures.config)))

pub returns-in-Trailer-clause-refused : goal.returns-in-Trailer-clause-refused
returns-in-Trailer-clause-refused c = λ never s h.
    let m = rw c.in-Trailer.is at c.requires in
    rw c.in-Trailer.is (none_as (Trailer c.in-Trailer.name c.in-Trailer.value) m.0 (says.Trailer (lowercase c.in-Trailer.name.now) c.in-Trailer.value.now) s m.1 m.1.1 (trailer_none s c.args.self.now h (lowercase c.in-Trailer.name.now) c.in-Trailer.value.now (c.add_field-in-Trailer.ensures.refused never)))

pub returns-in-Body-clause-taken : goal.returns-in-Body-clause-taken
returns-in-Body-clause-taken c = λ yes s h.
    let m = rw c.in-Body.is at c.requires in
    rw c.in-Body.is
    (outlined _ m.0 s c.args.self.now m.1 (steps_as m.0 (says.Body c.in-Body.field-0.now) s c.args.self.now m.1 (body_step s c.args.self.now h c.in-Body.field-0.now (sym c.has_request.ensures ∙ yes))))

pub returns-in-Body-clause-refused : goal.returns-in-Body-clause-refused
returns-in-Body-clause-refused c = λ never s h.
    let m = rw c.in-Body.is at c.requires in
    rw c.in-Body.is (none_as (Body c.in-Body.field-0) m.0 (says.Body c.in-Body.field-0.now) s m.1 m.1 (body_none s c.args.self.now h c.in-Body.field-0.now (sym c.has_request.ensures ∙ never)))

pub returns-in-Fill-clause-taken : goal.returns-in-Fill-clause-taken
returns-in-Fill-clause-taken c = λ yes s h.
    let m = rw c.in-Fill.is at c.requires in
    rw c.in-Fill.is
    (outlined _ m.0 s c.args.self.now m.1 (steps_as m.0 (says.Fill c.in-Fill.field-0) s c.args.self.now m.1 (fill_step s c.args.self.now h c.in-Fill.field-0 (sym c.has_request-in-Fill.ensures ∙ yes))))

pub returns-in-Fill-clause-refused : goal.returns-in-Fill-clause-refused
returns-in-Fill-clause-refused c = λ never s h.
    let m = rw c.in-Fill.is at c.requires in
    rw c.in-Fill.is (none_as (Fill c.in-Fill.field-0) m.0 (says.Fill c.in-Fill.field-0) s m.1 m.1 (fill_none s c.args.self.now h c.in-Fill.field-0 (sym c.has_request-in-Fill.ensures ∙ never)))

pub returns-in-Set-clause-taken : goal.returns-in-Set-clause-taken
returns-in-Set-clause-taken c = λ yes s h.
    let m = rw c.in-Set.is at c.requires in
    rw c.in-Set.is
    (outlined _ m.0 s c.set.new.self m.1 (steps_as m.0 (says.Set c.in-Set.setting c.in-Set.n) s c.set.new.self m.1 (set_step s c.args.self.now h c.in-Set.setting c.in-Set.n c.set.new.self c.set.ensures)))

pub returns-in-RetryOn-clause-taken : goal.returns-in-RetryOn-clause-taken
returns-in-RetryOn-clause-taken c = λ yes s h.
    let m = rw c.in-RetryOn.is at c.requires in
    rw c.in-RetryOn.is
    (outlined _ m.0 s c.set_retry.new.self m.1 (steps_as m.0 (says.RetryOn) s c.set_retry.new.self m.1 (retry_step s c.args.self.now h c.set_retry.new.self c.set_retry.ensures)))

pub returns-in-GreaseOff-clause-taken : goal.returns-in-GreaseOff-clause-taken
returns-in-GreaseOff-clause-taken c = λ yes s h.
    let m = rw c.in-GreaseOff.is at c.requires in
    rw c.in-GreaseOff.is
    (outlined _ m.0 s c.set_grease_off.new.self m.1 (steps_as m.0 (says.GreaseOff) s c.set_grease_off.new.self m.1 (grease_step s c.args.self.now h c.set_grease_off.new.self c.set_grease_off.ensures)))

pub returns-in-Disturb-clause-taken : goal.returns-in-Disturb-clause-taken
returns-in-Disturb-clause-taken c = λ yes s h.
    let m = rw c.in-Disturb.is at c.requires in
    rw c.in-Disturb.is
    (outlined _ m.0 s c.args.self.now m.1 (steps_as m.0 (says.Disturb m.1.0) s c.args.self.now m.1.2 (disturb_step s c.args.self.now h m.1.0)))
