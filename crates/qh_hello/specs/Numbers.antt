-- The numbers that a hello says, as the code keeps them.
use Rattle.qh_hello.specs.declared.rules.Numbers.{Numbers}
use Rattle.qh_spec.specs.Hello.{Hello, FirstLimits, SaysLimits, SaysIdleTimeout, SaysIdLimit, SaysDatagramSize}

abbrev pub limits_in : Numbers → FirstLimits
limits_in n = record {
  max_data = n.initial_max_data;
  bidi_local = n.initial_max_stream_data_bidi_local;
  bidi_remote = n.initial_max_stream_data_bidi_remote;
  uni = n.initial_max_stream_data_uni;
  max_bidi = n.initial_max_streams_bidi;
  max_uni = n.initial_max_streams_uni;
}

pub record SaysNumbers (h : Hello) (n : Numbers) : Type 0 where
  pub limits : SaysLimits h (limits_in n)
  pub idle : SaysIdleTimeout h n.max_idle_timeout
  pub id_limit : SaysIdLimit h n.active_connection_id_limit
  pub datagram : SaysDatagramSize h n.max_datagram_frame_size
