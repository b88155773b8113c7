-- Scripts, for laws that read them (own).
use Rattle.std.specs.Prelude.{[], ◌∷◌}
use Rattle.qh_spec.specs.Config.{default_config}
use Rattle.qh_spec.specs.MessageRows.{get_message}
use Rattle.qh_spec.specs.Script.{Script, empty_script}

-- GET https://a.test/, with field sections of at most 4,096 bytes and a response's body of at most 1,000
abbrev pub small_script : Script
small_script = record empty_script {
  requests = get_message ∷ [];
  config = record default_config { max_field_section_size = 4096; max_response_body = 1000 };
}
