-- Calls on a receiving half that a handle holds, and on one that none does.
use Rattle.std.proofs.Common.{◌≡◌, Bool, true, false, MatchBool, sym, ap, ◌∙◌}
use Rattle.std.proofs.lemmas.Bool.{false≢true}
use Rattle.qh_book.specs.declared.reply.Reply.{Reply}
use Rattle.qh_book.specs.declared.reply.Reply.TheVariants as reply

pub by_held : {A B P : Type 0} (held : Bool) → (A → P) → (B → P) → MatchBool held A B → P
by_held true f g h = f h
by_held false f g h = g h

pub both_by_held : {A B C D P : Type 0} (held : Bool) → (A → C → P) → (B → D → P) → MatchBool held A B → MatchBool held C D → P
both_by_held true f g x y = f x y
both_by_held false f g x y = g x y

-- the reply of one that no handle holds isn't Pending
abbrev pub is_pending : {T : Type 0} → Reply T → Bool
is_pending reply.Pending = true
is_pending other = false

pub never_pending : {T P : Type 0} (r : Reply T) → is_pending r ≡ false → reply.Pending ≡ r → P
never_pending r other e = absurd (false≢true (sym (ap is_pending e ∙ other)))
