-- Messages that are too long for a receive are dropped.
use Rattle.std.proofs.Common.{◌≡◌, ◌<◌, ℕ, List, [], ◌∷◌, ◌++◌, length, sym, ap, ◌∙◌, append_assoc}
use Rattle.std.specs.List.{AllByRecursion}
use Rattle.qh_runtime.specs.declared.runtime.Message.{Message}

all_push : {X : Type 0} (P : X → Type 0) (xs : List X) (x : X) → AllByRecursion P xs → P x → AllByRecursion P (xs ++ x ∷ [])
all_push P [] x all this = (this, tt)
all_push P (y ∷ ys) x all this = (all.0, all_push P ys x all.1 this)

-- so many bytes have no room for those before the ones that are left
abbrev pub Dropped : (room : ℕ) (old left : List Message) → Type 0
Dropped room old left = (dropped : List Message) × (old ≡ dropped ++ left) × AllByRecursion (λ d. room < length d.bytes) dropped

pub one_more : (room : ℕ) (old left next : List Message) (m : Message) → Dropped room old left → left ≡ m ∷ next → room < length m.bytes → Dropped room old next
one_more room old left next m (dropped, is, all) e long =
    (dropped ++ m ∷ [], is ∙ ap (λ (z : List Message). dropped ++ z) e ∙ sym (append_assoc dropped (m ∷ []) next), all_push (λ d. room < length d.bytes) dropped m all long)
