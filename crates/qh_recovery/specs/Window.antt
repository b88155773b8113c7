-- The window of congestion control (RFC 9002, section 7, with the NewReno of its appendix B), in bytes.
use Rattle.std.specs.Prelude.{ℕ, ◌+◌, ◌-◌, ◌/◌, ◌^◌, ◌==◌, nat_lt, nat_le, min, max, Bool, true, ◌||◌, Option, Some, None, if◌then◌else◌}
use Rattle.qh_recovery.specs.declared.congestion.WindowController.{WindowController}

-- a count saturates at the greatest number of its type
abbrev pub counted : ℕ → ℕ
counted n = min (2 ^ 64 - 1) n

-- no loss yet (section 7.2)
abbrev pub new_controller : (initial_window : ℕ) → WindowController
new_controller initial_window = record { window = initial_window; ssthresh = None; bytes_acked = 0; recovery_from = 0 }

abbrev pub is_below : (window : ℕ) → (ssthresh : Option ℕ) → Bool
is_below window None = true
is_below window (Some ssthresh) = nat_lt window ssthresh

-- the window is below the threshold, or there is none yet (section 7.3.1)
abbrev pub is_in_slow_start : WindowController → Bool
is_in_slow_start c = is_below c.window c.ssthresh

-- slow start: as many bytes as are acknowledged (section 7.3.1)
abbrev pub grown_by : (bytes : ℕ) → WindowController → WindowController
grown_by bytes c = record c { window = counted (c.window + bytes) }

-- congestion avoidance: one datagram of the least greatest size, 1,200 bytes, for each window of bytes that are acknowledged (section 7.3.3)
abbrev pub avoiding : (total : ℕ) → WindowController → WindowController
avoiding total c = if nat_le c.window total then record c { window = counted (c.window + 1200); bytes_acked = total - c.window }
    else record c { bytes_acked = total }

-- after these bytes are acknowledged
abbrev pub acked : (bytes : ℕ) → WindowController → WindowController
acked bytes c = if is_in_slow_start c then grown_by bytes c else avoiding (counted (c.bytes_acked + bytes)) c

-- half of the window, at least two datagrams of 1,200 bytes (sections 7.2 and 7.3.2)
abbrev pub halved : (window : ℕ) → ℕ
halved window = max (window / 2) 2400

-- a recovery period begins: what was sent before the next number no longer counts (section 7.3.2)
abbrev pub cut : (next_number : ℕ) → WindowController → WindowController
cut next_number c = record { window = halved c.window; ssthresh = Some (halved c.window); bytes_acked = 0; recovery_from = next_number }

-- after a packet is lost: nothing changes if it was sent before the last cut (section 7.3.2)
abbrev pub lost : (number next_number : ℕ) → WindowController → WindowController
lost number next_number c = if nat_le c.recovery_from number then cut next_number c else c

-- a datagram of 1,200 bytes fits into the window, or nothing is in flight (section 7)
abbrev pub allows : WindowController → (in_flight : ℕ) → Bool
allows c in_flight = in_flight == 0 || nat_le (in_flight + 1200) c.window
