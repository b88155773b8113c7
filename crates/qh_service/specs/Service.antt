-- What a call of a service adds to its record.
use Rattle.std.specs.Prelude.{ℕ, List, [], ◌∷◌, Result, Ok, Err}
use Rattle.qh_base.specs.declared.memory.Memory.{Memory}
use Rattle.qh_spec.specs.Message.{PlainMessage}
use Rattle.qh_spec.specs.Record.{PlainEntry}

abbrev pub entries_of : ℕ → PlainMessage → Result PlainMessage Memory → List PlainEntry
entries_of stream request (Ok response) = record { stream = stream; request = request; response = response } ∷ []
entries_of stream request (Err e) = []
