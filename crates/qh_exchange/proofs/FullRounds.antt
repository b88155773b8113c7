-- Rounds of an exchange that are full turns, one after another.
use Rattle.std.proofs.Common.{◌≡◌, ℕ, zero, suc, false, List, [], ◌++◌, Option, Some, refl, sym, ap, ◌∙◌, subst, append_assoc, append-nil}
use Rattle.std.proofs.lemmas.List.{append_cancel_left}
use Rattle.qh_spec.specs.declared.link.Event.{Event}
use Rattle.qh_spec.specs.Message.{PlainMessage}
use Rattle.qh_spec.specs.Record.{PlainEntry}
use Rattle.qh_pair.specs.Full.{AreFullTurns, EndsInFullTurn, IsFullTurn}
use Rattle.qh_pair.specs.Pair.{PairState, Running, WentOn, GoesOn}
use Rattle.qh_pair.specs.Turn.{Adds}

-- one full turn more
full_more : (requests : List PlainMessage) (n : ℕ) (before es turn : List Event) (entries : List PlainEntry) (q : PairState) → AreFullTurns requests n before es → q.client.requests ≡ requests
    → q.is_over ≡ false → Running q (before ++ (es ++ turn)) entries → IsFullTurn q turn → AreFullTurns requests (suc n) before (es ++ turn)
full_more requests zero before es turn entries q none asked going run full =
    let e : es ++ turn ≡ turn = ap (λ (z : List Event). z ++ turn) none in
    (turn, [], entries, q, e ∙ sym (append-nil turn), asked, going, subst (λ (z : List Event). Running q (before ++ z) entries) e run, full, refl)
full_more requests (suc n) before es turn entries q h asked going run full =
    let e : es ++ turn ≡ h.0 ++ (h.1 ++ turn) = ap (λ (z : List Event). z ++ turn) h.4 ∙ append_assoc h.0 h.1 turn in
    let b : before ++ (es ++ turn) ≡ (before ++ h.0) ++ (h.1 ++ turn) = ap (λ (z : List Event). before ++ z) e ∙ sym (append_assoc before h.0 (h.1 ++ turn)) in
    (h.0, h.1 ++ turn, h.2, h.3, e, h.5, h.6, h.7, h.8, full_more requests n (before ++ h.0) h.1 turn entries q h.9 asked going (subst (λ (z : List Event). Running q z entries) b run) full)

-- so many full turns were added behind what is told, from wherever the pair stood
abbrev pub AddsFullTurns : ℕ → PairState → (told_before told_after : Option (List Event)) → (served_before : List PlainEntry) → Type 0
AddsFullTurns n p t u r = (earlier events : List Event) (before entries : List PlainEntry) → Running p events entries → t ≡ Some (earlier ++ events) → r ≡ before ++ entries
    → Adds (AreFullTurns p.client.requests n events) t u

pub adds_full : (n : ℕ) (p q : PairState) (t u v : Option (List Event)) (r s : List PlainEntry) → AddsFullTurns n p t u r → GoesOn p t r q v s → q.client.requests ≡ p.client.requests
    → q.is_over ≡ false → Adds (IsFullTurn q) u v → AddsFullTurns (suc n) p t v r
adds_full n p q t u v r s first goes asked going second earlier events before entries run te re told de =
    let x = first earlier events before entries run te re told de in
    let y = second (told ++ x.0) x.1 in
    let w : WentOn p q earlier events v before entries s = goes earlier events before entries run te re in
    let same : Some told ≡ Some (earlier ++ events) = sym de ∙ te in
    let front : told ≡ earlier ++ events = cc in
    let are : v ≡ Some (told ++ (x.0 ++ y.0)) = y.1 ∙ ap Some (append_assoc told x.0 y.0) in
    let sums : Some (earlier ++ (events ++ w.more)) ≡ Some (told ++ (x.0 ++ y.0)) = sym w.told_is ∙ are in
    let sum : earlier ++ (events ++ w.more) ≡ told ++ (x.0 ++ y.0) = cc in
    let behind : events ++ w.more ≡ events ++ (x.0 ++ y.0)
    = append_cancel_left earlier (events ++ w.more) (events ++ (x.0 ++ y.0)) (sum ∙ (ap (λ (z : List Event). z ++ (x.0 ++ y.0)) front ∙ append_assoc earlier events (x.0 ++ y.0))) in
    (x.0 ++ y.0, are, full_more p.client.requests n events x.0 y.0 (entries ++ w.fresh) q x.2 asked going (subst (λ (z : List Event). Running q z (entries ++ w.fresh)) behind w.running) y.2)

-- a full turn behind what was added ends it
pub ends_full : (Kind : List Event → Type 0) (q : PairState) (t u v : Option (List Event)) → Adds Kind t u → Adds (IsFullTurn q) u v → Adds (EndsInFullTurn q) t v
ends_full Kind q t u v first second events te =
    let x = first events te in
    let y = second (events ++ x.0) x.1 in
    (x.0 ++ y.0, y.1 ∙ ap Some (append_assoc events x.0 y.0), record { front = x.0; turn = y.0; are = refl; full = y.2 })
