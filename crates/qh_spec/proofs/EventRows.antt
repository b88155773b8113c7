-- Lists of events that are honest, prompt or whole turns, and lists that aren't.
use Rattle.std.proofs.Common.{◌≡◌, inl, inr, ℕ, List, [], ◌∷◌, ◌++◌, refl, sym, ap, ◌∙◌, subst, arith}
use Rattle.std.proofs.lemmas.Option.{slice_get_within}
use Rattle.qh_spec.specs.declared.sides.Side.{Side}
use Rattle.qh_spec.specs.declared.sides.Side.TheVariants.{Client, Server}
use Rattle.qh_spec.specs.declared.link.Event.{Event}
use Rattle.qh_spec.specs.declared.link.Event.TheVariants.{Sent, Given, Dry, Round, Fault}
use Rattle.qh_spec.specs.EventRows.{prompt_events, early_events, echoed_events, turn_events, turned_events, entry_on}
use Rattle.qh_spec.specs.Growth.{Grew}
use Rattle.qh_spec.specs.Honest.{IsHonest}
use Rattle.qh_spec.specs.Link.{given_to}
use Rattle.qh_spec.specs.Lists.{In}
use Rattle.qh_spec.specs.Message.{PlainMessage}
use Rattle.qh_spec.specs.MessageRows.{get_message}
use Rattle.qh_spec.specs.Record.{PlainEntry}
use Rattle.qh_spec.specs.Same.{SameMessage}
use Rattle.qh_spec.specs.Turns.{IsIntake, until_dry, full, IsWholeTurn, due_to, IsPrompt}
use Rattle.qh_spec.proofs.RecordLaws.{grew_few}
use Rattle.qh_spec.proofs.SameLaws.{same_refl}

abbrev front : List Event
front = Round 0 ∷ Sent Client (7 ∷ []) ∷ Round 1000000 ∷ []

no_more : (more after : List Event) (x : Event) → [] ≡ more ++ x ∷ after → ⊥
no_more [] after x e = cc
no_more (y ∷ more) after x e = cc

prompt_given : (before after : List Event) (s : Side) (d : List ℕ) → prompt_events ≡ before ++ Given s d ∷ after
    → (rest : List (List ℕ)) × (due_to s before ≡ given_to s before ++ d ∷ rest)
prompt_given [] after s d e = absurd cc
prompt_given (b ∷ []) after s d e = absurd cc
prompt_given (b ∷ c ∷ []) after s d e = absurd cc
prompt_given (b ∷ c ∷ f ∷ []) after s d e =
    let same : (front, Server, 7 ∷ []) ≡ (b ∷ c ∷ f ∷ [], s, d) = cc in
    subst (λ (z : List Event × Side × List ℕ). (rest : List (List ℕ)) × (due_to z.1 z.0 ≡ given_to z.1 z.0 ++ z.2 ∷ rest)) same ([], refl)
prompt_given (b ∷ c ∷ f ∷ g ∷ []) after s d e = absurd cc
prompt_given (b ∷ c ∷ f ∷ g ∷ h ∷ more) after s d e = let r : [] ≡ more ++ Given s d ∷ after = cc in absurd (no_more more after (Given s d) r)

prompt_dry : (before after : List Event) (s : Side) → prompt_events ≡ before ++ Dry s ∷ after → due_to s before ≡ given_to s before
prompt_dry [] after s e = absurd cc
prompt_dry (b ∷ []) after s e = absurd cc
prompt_dry (b ∷ c ∷ []) after s e = absurd cc
prompt_dry (b ∷ c ∷ f ∷ []) after s e = absurd cc
prompt_dry (b ∷ c ∷ f ∷ g ∷ []) after s e =
    let same : (front ++ Given Server (7 ∷ []) ∷ [], Server) ≡ (b ∷ c ∷ f ∷ g ∷ [], s) = cc in
    subst (λ (z : List Event × Side). due_to z.1 z.0 ≡ given_to z.1 z.0) same refl
prompt_dry (b ∷ c ∷ f ∷ g ∷ h ∷ more) after s e = let r : [] ≡ more ++ Dry s ∷ after = cc in absurd (no_more more after (Dry s) r)

no_fault_there : In Fault prompt_events → ⊥
no_fault_there (inl e) = cc
no_fault_there (inr (inl e)) = cc
no_fault_there (inr (inr (inl e))) = cc
no_fault_there (inr (inr (inr (inl e)))) = cc
no_fault_there (inr (inr (inr (inr (inl e))))) = cc
no_fault_there (inr (inr (inr (inr (inr e))))) = e

pub prompt_is : IsPrompt prompt_events
prompt_is = record { given = prompt_given; dry = prompt_dry; no_fault = no_fault_there; steps = ((omega arith, omega arith), tt) }

pub early_is_not : IsPrompt early_events → ⊥
early_is_not p =
    let r = p.given (Round 0 ∷ Sent Client (7 ∷ []) ∷ []) [] Server (7 ∷ []) refl in
    let e = r.1 in
    cc

pub echoed_is_not : IsHonest echoed_events → ⊥
echoed_is_not h = h (Sent Client (7 ∷ []) ∷ []) [] Client (7 ∷ []) refl

pub turn_is : IsWholeTurn turn_events
turn_is = record {
  moment = 5;
  to_client = Given Client (7 ∷ []) ∷ Dry Client ∷ [];
  to_server = Dry Server ∷ [];
  by_client = Sent Client (8 ∷ []) ∷ [];
  by_server = [];
  is = refl;
  client_takes = until_dry ((7 ∷ []) ∷ []) (omega arith) refl;
  server_takes = until_dry [] (omega arith) refl;
  client_sends = record { sent = (8 ∷ []) ∷ []; few = omega arith; is = refl };
  server_sends = record { sent = []; few = omega arith; is = refl };
}

server_first : (es rest : List Event) → IsIntake Client es → Dry Server ∷ Dry Client ∷ [] ≡ es ++ rest → ⊥
server_first es rest (until_dry [] l e) q =
    let w : Dry Server ∷ Dry Client ∷ [] ≡ Dry Client ∷ rest = q ∙ ap (λ (z : List Event). z ++ rest) e in cc
server_first es rest (until_dry (d ∷ ds) l e) q = cc
server_first es rest (full [] l e) q = omega (arith, l)
server_first es rest (full (d ∷ ds) l e) q = cc

pub turned_is_not : IsWholeTurn turned_events → ⊥
turned_is_not t =
    let e = t.is in
    let r : Dry Server ∷ Dry Client ∷ [] ≡ t.to_client ++ (t.to_server ++ (t.by_client ++ t.by_server)) = cc in
    server_first t.to_client (t.to_server ++ (t.by_client ++ t.by_server)) t.client_takes r

pub entry_grew : Grew [] (entry_on 0 ∷ []) (get_message ∷ [])
entry_grew = record {
  fresh = entry_on 0 ∷ [];
  longer = refl;
  once = (λ h. h, tt);
  as_asked = λ e i. elim i [
    | inl q ↦ record { index = 0; asked = get_message; asked_is = refl; stream_is = ap (λ (z : PlainEntry). z.stream) (sym q); same = subst (λ (z : PlainEntry). SameMessage z.request get_message) q (same_refl get_message) }
    | inr n ↦ absurd n
  ];
}

pub wrong_stream : Grew [] (entry_on 4 ∷ []) (get_message ∷ []) → ⊥
wrong_stream g =
    let there : In (entry_on 4) g.fresh = subst (λ (z : List PlainEntry). In (entry_on 4) z) g.longer (inl refl) in
    let asked = g.as_asked (entry_on 4) there in
    let inside = slice_get_within (get_message ∷ []) asked.index asked.asked asked.asked_is in
    omega (arith, inside, asked.stream_is)

pub served_twice : (m : PlainMessage) (d e : PlainEntry) → Grew [] (d ∷ e ∷ []) (m ∷ []) → ⊥
served_twice m d e g = let few = grew_few [] (d ∷ e ∷ []) (m ∷ []) g in omega (arith, few)
