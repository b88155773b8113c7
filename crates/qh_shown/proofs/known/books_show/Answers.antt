use Rattle.qh_shown.proofs.Keeping.{acked_keeps, first_keeps, keeps_self, received_keeps}
use Rattle.qh_shown.proofs.known.books_show.Goals as goal

pub returns : goal.returns
returns c = record {
  received = λ old new frame unrefused is. record { to = λ notes b shown. c.frames_shown.ensures.received old new notes b frame shown unrefused is; keeps = λ notes b shown. received_keeps old b frame shown unrefused };
  acked = λ old new frame is. record { to = λ notes b shown. c.frames_shown.ensures.acked old new notes b frame shown is; keeps = λ notes b shown. acked_keeps old new b frame };
  sent = λ old new room frame is. record { to = λ notes b shown. c.frames_shown.ensures.sent old new notes b room frame shown is; keeps = λ notes b shown. keeps_self b };
  lost = λ old new frame is. record { to = λ notes b shown. c.frames_shown.ensures.lost old new notes b frame shown is; keeps = λ notes b shown. keeps_self b };
  told = λ s events blocked. record { to = λ notes b shown. c.untold_shown.ensures.told s notes b events blocked shown; keeps = λ notes b shown. keeps_self b };
  first = c.first_shown.ensures.first;
  anew = λ s t f g side window. record { to = λ notes b shown. c.first_shown.ensures.anew s t notes b f g side window shown; keeps = λ notes b shown. keeps_self b };
  peer = λ s peer. record { to = λ notes b shown. c.first_shown.ensures.peer s notes b peer shown; keeps = λ notes b shown. first_keeps peer b };
  unsent = c.datagrams_shown.ensures.first;
  came = c.datagrams_shown.ensures.came;
  taken = c.datagrams_shown.ensures.sent;
  bounded = c.datagrams_shown.ensures.bounded;
  streams = c.kept_shown.ensures.streams;
  datagrams = c.kept_shown.ensures.datagrams;
  connects = c.kept_shown.ensures.connected;
  comes = c.kept_shown.ensures.came;
  goes = c.kept_shown.ensures.sent;
  bounds = c.kept_shown.ensures.bounded;
  items = c.kept_shown.ensures.items;
  changed = c.kept_shown.ensures.changed;
}
