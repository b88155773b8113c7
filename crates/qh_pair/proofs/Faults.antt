-- Where an error says that the link failed, the last event that was told is its fault.
use Rattle.std.proofs.Common.{◌≡◌, true, false, List, [], ◌∷◌, ◌++◌, Option, Some, Ok, Err, sym, refl, ◌∙◌, ap, subst, append_assoc}
use Rattle.std.specs.Prelude.{Result}
use Rattle.qh_link.specs.Link.{fault_events}
use Rattle.qh_link.specs.declared.link.LinkFault.{LinkFault}
use Rattle.qh_link.specs.declared.link.LinkFault.TheVariants as cause
use Rattle.qh_spec.specs.Link.{told}
use Rattle.qh_spec.specs.declared.link.Event.{Event}
use Rattle.qh_spec.specs.declared.link.Event.TheVariants.{Fault}
use Rattle.qh_pair.specs.Error.{error_of}
use Rattle.qh_pair.specs.Errors.{IfLink}
use Rattle.qh_pair.specs.Turn.{Adds, AddsFault, EndsInFault, is_link}
use Rattle.qh_pair.specs.declared.error.ExchangeError.{ExchangeError}
use Rattle.qh_pair.specs.declared.error.ExchangeError.TheVariants as error

-- a call on the link failed
pub fault_here : (T : Type 0) (e : LinkFault) (t u : Option (List Event)) → u ≡ told t (fault_events e) → IfLink {T = T} (Err (error_of e)) (AddsFault t u)
fault_here T cause.Failed t u is = λ events e. (Fault ∷ [], is ∙ ap (λ (z : Option (List Event)). told z (Fault ∷ [])) e, record { front = []; are = refl })
fault_here T cause.Memory t u is = tt

-- it failed behind what was told before
pub fault_behind : (t m u : Option (List Event)) (x : List Event) → m ≡ told t x → AddsFault m u → AddsFault t u
fault_behind t m u x is adds = λ events e.
    let y = adds (events ++ x) (is ∙ ap (λ (z : Option (List Event)). told z x) e) in
    (x ++ y.0, y.1 ∙ ap Some (append_assoc events x y.0), record { front = x ++ y.2.front; are = ap (λ (z : List Event). x ++ z) y.2.are ∙ sym (append_assoc x y.2.front (Fault ∷ [])) })

pub fault_after : (Kind : List Event → Type 0) (t m u : Option (List Event)) → Adds Kind t m → AddsFault m u → AddsFault t u
fault_after Kind t m u first adds = λ events e.
    let x = first events e in
    let y = adds (events ++ x.0) x.1 in
    (x.0 ++ y.0, y.1 ∙ ap Some (append_assoc events x.0 y.0), record { front = x.0 ++ y.2.front; are = ap (λ (z : List Event). x.0 ++ z) y.2.are ∙ sym (append_assoc x.0 y.2.front (Fault ∷ [])) })

-- where nothing was told before, it is the last event of all
pub fault_whole : (es more : List Event) → es ≡ [] → AddsFault (Some es) (Some more) → EndsInFault more
fault_whole es more none adds =
    let x = adds [] (ap Some none) in
    let same : x.0 ≡ more = let s : Some more ≡ Some x.0 = x.1 in cc in
    subst EndsInFault same x.2

-- the same error, of another call
pub fault_again : (T U : Type 0) (e : ExchangeError) (P Q : Type 0) → (P → Q) → IfLink {T = T} (Err e) P → IfLink {T = U} (Err e) Q
fault_again T U error.Link P Q f h = f h
fault_again T U error.Memory P Q f h = tt
fault_again T U error.TimedOut P Q f h = tt
fault_again T U error.OutOfRounds P Q f h = tt
fault_again T U (error.Invalid index) P Q f h = tt
fault_again T U (error.Protocol x) P Q f h = tt

pub fault_last : {T : Type 0} (result : Result T ExchangeError) (P Q : Type 0) → (P → Q) → IfLink result P → IfLink result Q
fault_last (Ok x) P Q f h = tt
fault_last {T} (Err e) P Q f h = fault_again T T e P Q f h

pub no_fault : (T : Type 0) (e : ExchangeError) (P : Type 0) → is_link e ≡ false → IfLink {T = T} (Err e) P
no_fault T error.Link P h = absurd (let not : true ≡ false = h in cc)
no_fault T error.Memory P h = tt
no_fault T error.TimedOut P h = tt
no_fault T error.OutOfRounds P h = tt
no_fault T (error.Invalid index) P h = tt
no_fault T (error.Protocol x) P h = tt
