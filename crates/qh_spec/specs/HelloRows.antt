-- Hellos in bytes, and what they say, for laws that read them (own).
use Rattle.std.specs.Prelude.{ℕ, List, [], ◌∷◌, ◌++◌, length, codes, Some, None}
use Rattle.qh_spec.specs.declared.sides.Side.{Side}
use Rattle.qh_spec.specs.declared.sides.Side.TheVariants.{Client, Server}
use Rattle.qh_spec.specs.Hello.{Parameter, Hello, hello_byte, FirstLimits, Greeting}
use Rattle.qh_spec.specs.HelloFaults.{IdsUsed}
use Rattle.qh_spec.specs.ParameterIds as parameter_ids

-- A client's hello with the name a.test: an idle timeout of 30,000 milliseconds, 1,000 bytes on all streams, 100 two-way streams, 8
-- ids in a longer form than need be, its source id, and a parameter with an id that nobody knows.
abbrev pub client_hello_bytes : List ℕ
client_hello_bytes =
    1 ∷ 6 ∷ 97 ∷ 46 ∷ 116 ∷ 101 ∷ 115 ∷ 116 ∷ 31
    ∷ 1 ∷ 4 ∷ 128 ∷ 0 ∷ 117 ∷ 48
    ∷ 4 ∷ 2 ∷ 67 ∷ 232
    ∷ 8 ∷ 2 ∷ 64 ∷ 100
    ∷ 14 ∷ 2 ∷ 64 ∷ 8
    ∷ 15 ∷ 8 ∷ 192 ∷ 0 ∷ 0 ∷ 0 ∷ 0 ∷ 0 ∷ 0 ∷ 0
    ∷ 27 ∷ 1 ∷ 7 ∷ []

-- the same as a hello
abbrev pub client_hello : Hello
client_hello = record {
  sender = Client;
  server_name = codes "a.test";
  parameters =
      record { id = parameter_ids.max_idle_timeout; value = 128 ∷ 0 ∷ 117 ∷ 48 ∷ [] }
      ∷ record { id = parameter_ids.initial_max_data; value = 67 ∷ 232 ∷ [] }
      ∷ record { id = parameter_ids.initial_max_streams_bidi; value = 64 ∷ 100 ∷ [] }
      ∷ record { id = parameter_ids.active_connection_id_limit; value = 64 ∷ 8 ∷ [] }
      ∷ record { id = parameter_ids.initial_source_connection_id; value = 192 ∷ 0 ∷ 0 ∷ 0 ∷ 0 ∷ 0 ∷ 0 ∷ 0 ∷ [] }
      ∷ record { id = 27; value = 7 ∷ [] } ∷ [];
}

-- the limits that it says
abbrev pub client_limits : FirstLimits
client_limits = record { max_data = 1000; bidi_local = 0; bidi_remote = 0; uni = 0; max_bidi = 100; max_uni = 0 }

-- the ids that its reader knows
abbrev pub client_ids : IdsUsed
client_ids = record { original = None; source = 192 ∷ 0 ∷ 0 ∷ 0 ∷ 0 ∷ 0 ∷ 0 ∷ 0 ∷ []; retry = None }

-- a side's hello without a name, with fewer than 64 bytes of parameters
abbrev pub short_hello : Side → List ℕ → List ℕ
short_hello sender parameters = hello_byte sender ∷ 0 ∷ length parameters ∷ parameters

-- the same as a hello
abbrev pub plain_hello : Side → List Parameter → Hello
plain_hello sender parameters = record { sender = sender; server_name = []; parameters = parameters }

-- a source id, as a parameter, and what a server knows whose client has it
abbrev pub source_bytes : List ℕ
source_bytes = 15 ∷ 2 ∷ 192 ∷ 1 ∷ []

abbrev pub source : Parameter
source = record { id = parameter_ids.initial_source_connection_id; value = 192 ∷ 1 ∷ [] }

abbrev pub known_at_server : IdsUsed
known_at_server = record { original = None; source = 192 ∷ 1 ∷ []; retry = None }

-- an original destination id, and what a client knows that took no Retry packet
abbrev pub original_bytes : List ℕ
original_bytes = 0 ∷ 2 ∷ 208 ∷ 1 ∷ []

abbrev pub original : Parameter
original = record { id = parameter_ids.original_destination_connection_id; value = 208 ∷ 1 ∷ [] }

abbrev pub known_at_client : IdsUsed
known_at_client = record { original = Some (208 ∷ 1 ∷ []); source = 192 ∷ 1 ∷ []; retry = None }

-- two ids, and 2^60 one-way streams: the bounds
abbrev pub least_ids : Parameter
least_ids = record { id = parameter_ids.active_connection_id_limit; value = 2 ∷ [] }

abbrev pub most_streams : Parameter
most_streams = record { id = parameter_ids.initial_max_streams_uni; value = 208 ∷ 0 ∷ 0 ∷ 0 ∷ 0 ∷ 0 ∷ 0 ∷ 0 ∷ [] }

-- 15 bytes
abbrev pub short_token : List ℕ
short_token = 1 ∷ 2 ∷ 3 ∷ 4 ∷ 5 ∷ 6 ∷ 7 ∷ 8 ∷ 9 ∷ 10 ∷ 11 ∷ 12 ∷ 13 ∷ 14 ∷ 15 ∷ []

-- what a server says that took a Retry's token, with a value of each parameter, and the bytes that it writes
abbrev pub full_greeting : Greeting
full_greeting = record {
  sender = Server;
  server_name = [];
  original_id = Some (208 ∷ 1 ∷ []);
  idle = 30000;
  reset_token = Some (short_token ++ 16 ∷ []);
  limits = record { max_data = 1000; bidi_local = 1; bidi_remote = 2; uni = 3; max_bidi = 100; max_uni = 4 };
  id_limit = 8;
  source_id = 192 ∷ 1 ∷ [];
  retry_id = Some (193 ∷ []);
  datagram = Some 1200;
}

abbrev pub full_bytes : List ℕ
full_bytes =
    2 ∷ 0 ∷ 62
    ∷ 0 ∷ 2 ∷ 208 ∷ 1
    ∷ 1 ∷ 4 ∷ 128 ∷ 0 ∷ 117 ∷ 48
    ∷ 2 ∷ 16 ∷ 1 ∷ 2 ∷ 3 ∷ 4 ∷ 5 ∷ 6 ∷ 7 ∷ 8 ∷ 9 ∷ 10 ∷ 11 ∷ 12 ∷ 13 ∷ 14 ∷ 15 ∷ 16
    ∷ 4 ∷ 2 ∷ 67 ∷ 232
    ∷ 5 ∷ 1 ∷ 1
    ∷ 6 ∷ 1 ∷ 2
    ∷ 7 ∷ 1 ∷ 3
    ∷ 8 ∷ 2 ∷ 64 ∷ 100
    ∷ 9 ∷ 1 ∷ 4
    ∷ 14 ∷ 1 ∷ 8
    ∷ 15 ∷ 2 ∷ 192 ∷ 1
    ∷ 16 ∷ 1 ∷ 193
    ∷ 32 ∷ 2 ∷ 68 ∷ 176 ∷ []

-- what a client says that takes no DATAGRAM frames, and the bytes that it writes
abbrev pub plain_greeting : Greeting
plain_greeting = record {
  sender = Client;
  server_name = codes "a.test";
  original_id = None;
  idle = 0;
  reset_token = None;
  limits = record { max_data = 63; bidi_local = 64; bidi_remote = 0; uni = 0; max_bidi = 0; max_uni = 0 };
  id_limit = 2;
  source_id = [];
  retry_id = None;
  datagram = None;
}

abbrev pub plain_bytes : List ℕ
plain_bytes =
    1 ∷ 6 ∷ 97 ∷ 46 ∷ 116 ∷ 101 ∷ 115 ∷ 116 ∷ 27
    ∷ 1 ∷ 1 ∷ 0
    ∷ 4 ∷ 1 ∷ 63
    ∷ 5 ∷ 2 ∷ 64 ∷ 64
    ∷ 6 ∷ 1 ∷ 0
    ∷ 7 ∷ 1 ∷ 0
    ∷ 8 ∷ 1 ∷ 0
    ∷ 9 ∷ 1 ∷ 0
    ∷ 14 ∷ 1 ∷ 2
    ∷ 15 ∷ 0 ∷ []
