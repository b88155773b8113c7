-- What a step of sending does, and then another one.
use Rattle.std.proofs.Common.{◌≡◌, ℕ, ◌+◌, ◌≤◌, List, [], ◌∷◌, ◌++◌, length, Option, None, Some, Result, Ok, Err, inl, refl, sym, ap, subst, ◌∙◌, append_assoc, append-nil, arith, length-append}
use Rattle.std.specs.Option.{option_map}
use Rattle.qh_base.specs.declared.time.Moment.{Moment}
use Rattle.qh_conn.specs.Whole.{IsWhole, Stands}
use Rattle.qh_conn.specs.declared.connection.Connection.{Connection}
use Rattle.qh_core.specs.Made.{AcceptsTags, MakesTagsOf}
use Rattle.qh_handles.specs.Turns.{AreSent}
use Rattle.qh_quinn.proofs.Bringing.{Both, brings_then}
use Rattle.qh_quinn.specs.Turning.{AreMade, IsBrought, IsBroughtBy, IsEnded, IsFilled, IsSending, IsShown, made_all, waits_in}
use Rattle.qh_quinn.specs.declared.inner.StateInner.{StateInner}
use Rattle.qh_runtime.specs.declared.runtime.IoFault.{IoFault}
use Rattle.qh_runtime.specs.declared.runtime.IoFault.TheVariants as faults
use Rattle.qh_runtime.specs.declared.runtime.OutMessage.{OutMessage}
use Rattle.qh_shown.specs.Brings.{Brings, BringsSome}
use Rattle.qh_spec.specs.Transcript.{Act, HandedOut}

-- ---- lists

made_behind : (xs ys : List OutMessage) → made_all (xs ++ ys) ≡ made_all xs ++ made_all ys
made_behind [] ys = refl
made_behind (x ∷ xs) ys = ap (λ (l : List Act). HandedOut x.bytes ∷ l) (made_behind xs ys)

ordered_then : (w0 w1 w2 m1 m2 out1 out2 : List OutMessage) → w0 ++ m1 ≡ out1 ++ w1 → w1 ++ m2 ≡ out2 ++ w2 → w0 ++ (m1 ++ m2) ≡ (out1 ++ out2) ++ w2
ordered_then w0 w1 w2 m1 m2 out1 out2 first second =
    sym (append_assoc w0 m1 m2) ∙ (ap (λ (l : List OutMessage). l ++ m2) first ∙ (append_assoc out1 w1 m2 ∙ (ap (λ (l : List OutMessage). out1 ++ l) second ∙ sym (append_assoc out1 out2 w2))))

-- ---- sockets

pub sent_none : (d : Option (List OutMessage)) → AreSent [] d d
sent_none None = refl
sent_none (Some d) = ap Some (sym (append-nil d))

mapped_then : (out1 out2 : List OutMessage) (d : Option (List OutMessage))
    → option_map (λ (sent : List OutMessage). sent ++ out2) (option_map (λ (sent : List OutMessage). sent ++ out1) d) ≡ option_map (λ (sent : List OutMessage). sent ++ (out1 ++ out2)) d
mapped_then out1 out2 None = refl
mapped_then out1 out2 (Some d) = ap Some (append_assoc d out1 out2)

pub sent_same : (old new : Option (List OutMessage)) → new ≡ old → AreSent [] old new
sent_same old new same = same ∙ sent_none old

pub sent_then : (out1 out2 : List OutMessage) (d0 d1 d2 : Option (List OutMessage)) → AreSent out1 d0 d1 → AreSent out2 d1 d2 → AreSent (out1 ++ out2) d0 d2
sent_then out1 out2 d0 d1 d2 first second = second ∙ (ap (λ (d : Option (List OutMessage)). option_map (λ (sent : List OutMessage). sent ++ out2) d) first ∙ mapped_then out1 out2 d0)

pub counted_out : (n m : ℕ) (out1 out2 : List OutMessage) → length out1 ≤ n → length out2 ≤ m → length (out1 ++ out2) ≤ n + m
counted_out n m out1 out2 x y = omega (arith, length-append out1 out2, x, y)

-- ---- connections

module _ {S : Type 0} (sealed : MakesTagsOf S) (now : Moment) where
  made_then : (xs ys : List OutMessage) (a b c : Connection S) → AreMade sealed now xs a b → AreMade sealed now ys b c → AreMade sealed now (xs ++ ys) a c
  made_then [] ys a b c first second = subst (λ (z : Connection S). AreMade sealed now ys z c) first second
  made_then (x ∷ xs) ys a b c first second = (first.0, first.1, made_then xs ys first.0 b c first.2 second)

  filled_then : (xs ys : List OutMessage) (a b c : Connection S) → AreMade sealed now xs a b → IsFilled sealed now ys b c → IsFilled sealed now (xs ++ ys) a c
  filled_then xs ys a b c first second = record { filled = second.filled; makes = made_then xs ys a b second.filled first second.makes; ends = second.ends }

  -- it was asked for no more
  pub filled_by : (xs : List OutMessage) (a b : Connection S) → AreMade sealed now xs a b → IsFilled sealed now xs a b
  filled_by xs a b makes = record { filled = b; makes = makes; ends = inl refl }

-- ---- states

module _ {S : Type 0} where
  pub sending_then : Both S → (accepts : AcceptsTags S) (sealed : MakesTagsOf S) (answer : Result (Unit {0}) IoFault) (a b c : StateInner S) (out1 out2 : List OutMessage)
      (x : IsSending accepts sealed (Ok tt) a b out1) (y : IsSending accepts sealed answer b c out2) → IsShown a.connection → (now : Moment) → AreMade sealed now x.made a.connection b.connection
      → (h : IsSending accepts sealed answer a c (out1 ++ out2)) × (AreMade sealed now y.made b.connection c.connection → AreMade sealed now h.made a.connection c.connection)
      × (IsFilled sealed now y.made b.connection c.connection → IsFilled sealed now h.made a.connection c.connection)
  sending_then law accepts sealed answer a b c out1 out2 x y shown now first = let h : IsSending accepts sealed answer a c (out1 ++ out2) = record {
    same = y.same ∙ ap (λ (z : StateInner S). record z { connection = c.connection; outgoing = c.outgoing; send_buffer = c.send_buffer }) x.same;
    whole = y.whole;
    made = x.made ++ y.made;
    carries = λ lawful hello t h.
        subst (λ (acts : List Act). Stands accepts sealed hello c.connection acts) (append_assoc t (made_all x.made) (made_all y.made) ∙ ap (λ (l : List Act). t ++ l) (sym (made_behind x.made y.made)))
        (y.carries lawful hello (t ++ made_all x.made) (x.carries lawful hello t h));
    brings = brings_then law answer a.connection b.connection c.connection x.brings shown y.brings;
    ended = λ shut. y.ended (x.ended shut);
    order = ordered_then (waits_in a) (waits_in b) (waits_in c) x.made y.made out1 out2 x.order y.order;
  } in (h, made_then sealed now x.made y.made a.connection b.connection c.connection first, filled_then sealed now x.made y.made a.connection b.connection c.connection first)

  -- items were brought, whatever was answered then
  brings_any : (answer : Result (Unit {0}) IoFault) (old new : Connection S) → BringsSome old new → IsBroughtBy answer old new
  brings_any (Err faults.Memory) old new s = IsBrought.some s
  brings_any (Err faults.WouldBlock) old new s = s
  brings_any (Err faults.Reset) old new s = s
  brings_any (Err faults.Failed) old new s = s
  brings_any (Ok done) old new s = s

  pub sending_anyway : (accepts : AcceptsTags S) (sealed : MakesTagsOf S) (answer : Result (Unit {0}) IoFault) (a b : StateInner S) (out : List OutMessage) (x : IsSending accepts sealed (Ok tt) a b out) → (h : IsSending accepts sealed answer a b out) × (h.made ≡ x.made)
  sending_anyway accepts sealed answer a b out x =
      let h : IsSending accepts sealed answer a b out = record { same = x.same; whole = x.whole; made = x.made; carries = x.carries; brings = brings_any answer a.connection b.connection x.brings; ended = x.ended; order = x.order } in
      (h, refl)

  -- a datagram was handed to the socket, or none was
  pub handed_over : (accepts : AcceptsTags S) (sealed : MakesTagsOf S) (answer : Result (Unit {0}) IoFault) (a b : StateInner S) (out : List OutMessage) → ((c : Connection S) → Brings [] c c)
      → IsWhole a.connection → b ≡ record a { outgoing = b.outgoing } → waits_in a ≡ out ++ waits_in b → (now : Moment) → (h : IsSending accepts sealed answer a b out) × AreMade sealed now h.made a.connection b.connection
  handed_over accepts sealed answer a b out none whole rest waits now =
      let same : b.connection ≡ a.connection = ap (λ (z : StateInner S). z.connection) rest in
      let h : IsSending accepts sealed answer a b out = record {
        same = ap (λ (z : StateInner S). record z { connection = b.connection; outgoing = b.outgoing; send_buffer = b.send_buffer }) rest;
        whole = subst (λ (c : Connection S). IsWhole c) (sym same) whole;
        made = [];
        carries = λ lawful hello t h. subst (λ (acts : List Act). Stands accepts sealed hello b.connection acts) (sym (append-nil t)) (subst (λ (c : Connection S). Stands accepts sealed hello c t) (sym same) h);
        brings = brings_any answer a.connection b.connection (record { items = []; brings = subst (λ (c : Connection S). Brings [] a.connection c) (sym same) (none a.connection) });
        ended = subst (λ (c : Connection S). IsEnded a.connection c) (sym same) (λ shut. shut);
        order = append-nil (waits_in a) ∙ waits;
      } in
      (h, same)

  pub handed_none : (accepts : AcceptsTags S) (sealed : MakesTagsOf S) (a : StateInner S) → ((c : Connection S) → Brings [] c c) → IsWhole a.connection → (now : Moment) → (h : IsSending accepts sealed (Ok tt) a a []) × AreMade sealed now h.made a.connection a.connection
  handed_none accepts sealed a none whole now = handed_over accepts sealed (Ok tt) a a [] none whole refl refl now
