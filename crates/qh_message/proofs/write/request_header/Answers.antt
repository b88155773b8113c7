use Rattle.qh_spec.specs.Message.{target_of}
use Rattle.qh_message.proofs.Sections.{is_head}
use Rattle.qh_message.proofs.write.request_header.Goals as goal

pub unwrap-requires : goal.unwrap-requires
unwrap-requires c =
    is_head _ c.request.result c.args.method (target_of c.args.uri) c.args.fields c.requires c.request.ensures.missing c.request.ensures.contradicted c.request.ensures.no_other
