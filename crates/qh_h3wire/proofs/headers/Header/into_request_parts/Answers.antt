use Rattle.qh_h3wire.specs.HeadFields.{with_fields}
use Rattle.qh_h3wire.proofs.Means.{parts_facts}
use Rattle.qh_h3wire.proofs.headers.Header.into_request_parts.Goals as goal

pub returns-clause-value : goal.returns-clause-value
returns-clause-value c =
    rw (← c.self.view_is) (parts_facts c.request_parts.result (with_fields c.self.inside.fields c.self.inside.pseudo) c.request_parts.ensures).value

pub returns-clause-missing_method : goal.returns-clause-missing_method
returns-clause-missing_method c =
    rw (← c.self.view_is) (parts_facts c.request_parts.result (with_fields c.self.inside.fields c.self.inside.pseudo) c.request_parts.ensures).missing_method

pub returns-clause-missing_authority : goal.returns-clause-missing_authority
returns-clause-missing_authority c =
    rw (← c.self.view_is) (parts_facts c.request_parts.result (with_fields c.self.inside.fields c.self.inside.pseudo) c.request_parts.ensures).missing_authority

pub returns-clause-contradicted : goal.returns-clause-contradicted
returns-clause-contradicted c =
    rw (← c.self.view_is) (parts_facts c.request_parts.result (with_fields c.self.inside.fields c.self.inside.pseudo) c.request_parts.ensures).contradicted

pub returns-clause-invalid : goal.returns-clause-invalid
returns-clause-invalid c =
    rw (← c.self.view_is) (parts_facts c.request_parts.result (with_fields c.self.inside.fields c.self.inside.pseudo) c.request_parts.ensures).invalid

pub returns-clause-memory : goal.returns-clause-memory
returns-clause-memory c =
    rw (← c.self.view_is) (parts_facts c.request_parts.result (with_fields c.self.inside.fields c.self.inside.pseudo) c.request_parts.ensures).memory

pub returns-clause-no_other : goal.returns-clause-no_other
returns-clause-no_other c =
    (parts_facts c.request_parts.result (with_fields c.self.inside.fields c.self.inside.pseudo) c.request_parts.ensures).no_other

pub returns-clause-means : goal.returns-clause-means
returns-clause-means c =
    rw (← c.self.view_is) (parts_facts c.request_parts.result (with_fields c.self.inside.fields c.self.inside.pseudo) c.request_parts.ensures).means

pub returns-clause-refused : goal.returns-clause-refused
returns-clause-refused c =
    rw (← c.self.view_is) (parts_facts c.request_parts.result (with_fields c.self.inside.fields c.self.inside.pseudo) c.request_parts.ensures).refused
