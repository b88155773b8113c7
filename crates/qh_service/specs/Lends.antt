-- What a message ends as, where a `&mut` to one of its parts is returned.
use Rattle.std.specs.Borrow.{Lends, Fml, MutBor}
use Rattle.http_header.specs.contracts.map.HeaderMap.{the_row as map_row}
use Rattle.http_header.specs.contracts.value.HeaderValue.{the_row as value_row}
use Rattle.qh_spec.specs.Message.{PlainMessage}
use Rattle.qh_service.specs.contracts.message.Message.{the_row}

-- once the borrow r ends, the message has the fields last written through r
abbrev pub lends_fields : MutBor PlainMessage → MutBor (map_row value_row).Denot → Fml
lends_fields s r = Lends the_row (map_row value_row) s r (λ w. record s.now { fields = w })
