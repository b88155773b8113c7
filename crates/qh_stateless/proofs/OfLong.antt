-- What is read of any datagram that begins with a long header is read of this one.
use Rattle.std.proofs.Common.{ℕ, Bool, List, Result, Ok, Err}
use Rattle.std.specs.Prelude.{IfOk, IfErr}
use Rattle.qh_packet.specs.declared.long_header.LongHeader.{LongHeader}
use Rattle.qh_stateless.specs.Header.{IsFault, IsHeader, IsLong}
use Rattle.qh_stateless.specs.View.{fault_of, header_of}
use Rattle.qh_stateless.specs.declared.header.DatagramHeader.{DatagramHeader}
use Rattle.qh_stateless.specs.declared.header.HeaderFault.{HeaderFault}

abbrev pub IsLongOf : Bool → List ℕ → LongHeader → Type 0
IsLongOf grease datagram l = IsLong grease datagram l.first l.version l.destination.now l.source.now l.rest.now

pub header_there : (n : ℕ) (vs : List ℕ) (g : Bool) (dg : List ℕ) (l : LongHeader) → IsLongOf g dg l → (r : Result DatagramHeader HeaderFault)
    → IfOk r (λ h. (id_length : ℕ) (grease : Bool) (datagram : List ℕ) → IsLongOf grease datagram l → IsHeader id_length vs grease datagram (header_of h)) → IfOk r (λ h. IsHeader n vs g dg (header_of h))
header_there n vs g dg l long (Ok h) f = f n g dg long
header_there n vs g dg l long (Err e) f = tt

pub fault_there : (n : ℕ) (vs : List ℕ) (g : Bool) (dg : List ℕ) (l : LongHeader) → IsLongOf g dg l → (r : Result DatagramHeader HeaderFault)
    → IfErr r (λ e. (id_length : ℕ) (grease : Bool) (datagram : List ℕ) → IsLongOf grease datagram l → IsFault id_length vs grease datagram (fault_of e)) → IfErr r (λ e. IsFault n vs g dg (fault_of e))
fault_there n vs g dg l long (Ok h) f = tt
fault_there n vs g dg l long (Err e) f = f n g dg long
