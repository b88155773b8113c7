-- What a source of ids that count keeps.
use Rattle.std.specs.Prelude.{◌≡◌, ◌<◌, ◌≤◌, ◌-◌, ◌%◌, ◌^◌}
use Rattle.qh_generator.specs.Counted.{Counting}
use Rattle.qh_generator.specs.declared.counting.CountingIds.TheInside.{Inside}

abbrev pub counting_of : Inside → Counting
counting_of c = record { len = c.len; mark = c.mark; given = c.given; counter = c.counter }

-- The ids have from 8 to 20 bytes. The counter is the number of ids given modulo 2^56, unless that has saturated.
pub record IsCounting (c : Inside) : Type 0 where
  pub room : 8 ≤ c.len
  pub short : c.len ≤ 20
  pub below : c.counter < 2 ^ 56
  pub counted : c.given < 2 ^ 64 - 1 → c.counter ≡ c.given % 2 ^ 56
