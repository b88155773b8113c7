-- The settings of the code and the plain ones.
use Rattle.qh_h3wire.specs.Settings.{PlainSettings, no_limit}
use Rattle.std.specs.Prelude.{false, []}
use Rattle.qh_h3wire.specs.declared.settings.Settings.{Settings}

abbrev pub plain_of : Settings → PlainSettings
plain_of s = record {
  max_field_section_size = s.max_field_section_size;
  enable_extended_connect = s.enable_extended_connect;
  enable_datagram = s.enable_datagram;
  other = s.other.items;
}

abbrev pub settings_value : PlainSettings → Settings
settings_value s = record {
  max_field_section_size = s.max_field_section_size;
  enable_extended_connect = s.enable_extended_connect;
  enable_datagram = s.enable_datagram;
  other = record { items = s.other };
}

-- no limit, both flags off, and no other ids
abbrev pub default_settings : PlainSettings
default_settings = record { max_field_section_size = no_limit; enable_extended_connect = false; enable_datagram = false; other = [] }
