-- The steps of a datagram at an end that is open.
use Rattle.std.proofs.Common.{◌≡◌, ◌∙◌, ◌⊎◌, ℕ, Bool, true, false, List, None, Some, Result, Ok, Err, is_some, length, inl, inr, sym, ap, subst}
use Rattle.std.specs.Prelude.{OnOk}
use Rattle.qh_base.specs.declared.connection_error.ConnectionError.{ConnectionError}
use Rattle.qh_base.specs.declared.connection_error.ConnectionError.TheVariants.{Memory}
use Rattle.qh_base.specs.declared.time.Moment.{Moment}
use Rattle.qh_conn.specs.Incoming.{EndsBy, IsClosingHeard, IsDatagramHandled, IsFed, IsMet, IsOpenHandled, IsRestTaken, IsRestarted, counted_at}
use Rattle.qh_conn.specs.Items.{IsLogCurrent}
use Rattle.qh_conn.specs.Whole.{IsSound, IsWhole}
use Rattle.qh_conn.specs.declared.connection.Connection.{Connection}
use Rattle.qh_control.specs.Control.{IsSendable}
use Rattle.qh_core.specs.Inner.{counted, is_open}
use Rattle.qh_core.specs.declared.stats.UdpStats.{UdpStats}
use Rattle.qh_handshake.specs.Incoming.{SessionView}

module _ {S : Type 0} where
  pub opened : (v : SessionView S) (now : Moment) (d : List ℕ) (old new : Connection S) → is_open old.core.state ≡ true → IsOpenHandled v now d (counted_at (length d) old) new → IsDatagramHandled v now d old new
  opened v now d old new up (IsOpenHandled.ended mid rest e fed ends is) = IsDatagramHandled.ended mid rest e up fed ends is
  opened v now d old new up (IsOpenHandled.taken fed restarted met rest is again meets takes) = IsDatagramHandled.taken fed restarted met rest up is again meets takes

  pub opened_by : {E : Type 0} (v : SessionView S) (now : Moment) (d : List ℕ) (old mid new : Connection S) (u : UdpStats) (r s : Result Unit E) → u ≡ counted (length d) old.udp_rx → s ≡ r → is_open old.core.state ≡ true
      → OnOk r (IsOpenHandled v now d (record old { udp_rx = u }) mid) → OnOk r (new ≡ mid) → OnOk s (IsDatagramHandled v now d old new)
  opened_by v now d old mid new u (Ok x) s same is up taken e =
      subst (λ (z : Result Unit _). OnOk z (IsDatagramHandled v now d old new)) (sym is)
      (opened v now d old new up (subst (λ (z : Connection S). IsOpenHandled v now d (counted_at (length d) old) z) (sym e) (subst (λ (z : UdpStats). IsOpenHandled v now d (record old { udp_rx = z }) mid) same taken)))
  opened_by v now d old mid new u (Err x) s same is up taken e = subst (λ (z : Result Unit _). OnOk z (IsDatagramHandled v now d old new)) (sym is) (cc)

  pub closed_by : (v : SessionView S) (now : Moment) (d : List ℕ) (old new : Connection S) (u : UdpStats) → u ≡ counted (length d) old.udp_rx → is_open old.core.state ≡ false
      → IsClosingHeard v now d (record old { udp_rx = u }) new → IsDatagramHandled v now d old new
  closed_by v now d old new u same shut heard = IsDatagramHandled.closing shut (subst (λ (z : UdpStats). IsClosingHeard v now d (record old { udp_rx = z }) new) same heard)

  pub ended_by : (v : SessionView S) (now : Moment) (d : List ℕ) (old mid new : Connection S) (e : ConnectionError) → (e ≡ Memory) ⊎ ((rest : List ℕ) × IsFed v now d old mid rest (Some e)) → (e ≡ Memory → ⊥)
      → EndsBy now e mid.core new.core → new ≡ record mid { core = new.core } → IsOpenHandled v now d old new
  ended_by v now d old mid new e (inl wanting) named ends is = absurd (named wanting)
  ended_by v now d old mid new e (inr (rest, fed)) named ends is = IsOpenHandled.ended mid rest e fed ends is

  abbrev pub IsUnready : Connection S → Type 0
  IsUnready c = (c.is_connected ≡ false) × IsSendable c.core.side None c.control

  pub still_unready : (c fed n : Connection S) → IsUnready c → fed ≡ record c { handshake = fed.handshake; core = record c.core { session = fed.core.session } } → n ≡ record fed { core = record fed.core { idle = n.core.idle } } → IsUnready n
  still_unready c fed n is e f =
      subst (λ (z : Connection S). IsUnready z) (sym f) (subst (λ (z : Connection S). IsUnready (record z { core = record z.core { idle = n.core.idle } })) (sym e) is)

  pub still_whole : (c fed n : Connection S) → IsWhole c → is_open c.core.state ≡ true → is_some c.handshake.peer ≡ true → fed.handshake.side ≡ c.handshake.side
      → fed ≡ record c { handshake = fed.handshake; core = record c.core { session = fed.core.session } } → n ≡ record fed { core = record fed.core { idle = n.core.idle } } → IsSound n → IsLogCurrent n → IsWhole n
  still_whole c fed n w up greeted sides e f sound current = record {
    sound = sound;
    current = current;
    client = λ side _. elim (w.client (sym sides ∙ (sym (ap (λ (z : Connection S). z.handshake.side) f) ∙ side)) greeted) [
      | inl k ↦ inl (ap (λ (z : Connection S). z.is_connected) f ∙ (ap (λ (z : Connection S). z.is_connected) e ∙ k))
      | inr shut ↦ let z : true ≡ false = sym up ∙ shut in cc
    ];
  }

  pub taken_by : (v : SessionView S) (now : Moment) (d rest : List ℕ) (old fed restarted met new : Connection S) (was : Bool) → IsFed v now d old fed rest None → IsRestarted now old.handshake fed restarted
      → was ≡ is_some old.handshake.peer → IsMet now was restarted met → IsRestTaken (v.accepts met.core.session) now d rest met new → IsOpenHandled v now d old new
  taken_by v now d rest old fed restarted met new was is again e meets takes =
      IsOpenHandled.taken fed restarted met rest is again (subst (λ (b : Bool). IsMet now b restarted met) e meets) takes
