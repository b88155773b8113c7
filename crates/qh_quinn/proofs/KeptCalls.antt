-- A history behind a call whose entry is kept, and behind what isn't of it.
use Rattle.std.proofs.Common.{◌≡◌, ◌+◌, ◌≤◌, List, [], ◌∷◌, ◌++◌, Option, None, Some, sym, ap, subst, ◌∙◌, arith}
use Rattle.std.specs.Prelude.{vec_len, vec_capacity}
use Rattle.qh_book.specs.Book.{Book}
use Rattle.qh_book.specs.History.{PlainEntry}
use Rattle.qh_book.specs.declared.call.Call.{Call}
use Rattle.qh_book.specs.declared.reply.Reply.{Reply}
use Rattle.qh_conn.specs.Items.{came}
use Rattle.qh_handles.specs.Told.{IsDrive, MayReply}
use Rattle.qh_handles.specs.declared.told.Told.{Told}
use Rattle.qh_quinn.proofs.Recordings.{call_recorded, unmade_recorded}
use Rattle.qh_quinn.specs.Acting.{IsActed, IsMade, Stays}
use Rattle.qh_quinn.specs.Calls.{IsCallOf}
use Rattle.qh_quinn.specs.Kept.{HasHistory}
use Rattle.qh_quinn.specs.Recording.{IsEntryWith, IsLonger, again}
use Rattle.qh_quinn.specs.States.{IsState, Shows}
use Rattle.qh_quinn.specs.declared.history.History.{History}
use Rattle.qh_quinn.specs.declared.inner.StateInner.{StateInner}

module _ {D : Type 0} where
  -- its entry comes last
  pub longer : (Tells : Reply (Told D) → Type 0) (c kept : Call) (r : Reply (Told D)) (told : Option (Told D)) (before mid after : List (PlainEntry (Told D))) → kept ≡ c → mid ≡ before → Tells (again r told)
      → (e : PlainEntry (Told D)) × IsEntryWith kept r told e × (after ≡ mid ++ e ∷ []) → IsLonger Tells c r before after
  longer Tells c kept r told before mid after is same tells h = (
    h.0,
    record { told = told; is = subst (λ (x : Call). IsEntryWith x r told h.0) is h.1; tells = subst (λ (x : Reply (Told D)). Tells x) (sym h.1.reply) tells },
    h.2 ∙ ap (λ (es : List (PlainEntry (Told D))). es ++ h.0 ∷ []) same,
  )

module _ {S D : Type 0} where
  -- there was room for it, and for the ends of the handles that there are then
  pub made_kept : (c kept : Call) (r : Reply (Told D)) (told : Option (Told D)) (old new : StateInner S) (before mid after : History (Told D)) → (IsDrive c → ⊥) → HasHistory old (Some before) → IsActed c r old new → IsCallOf c r old new → MayReply c r → kept ≡ c
      → mid.entries.items ≡ before.entries.items → (IsMade c r old new → vec_len mid.entries + (1 + new.handles) ≤ vec_capacity mid.entries)
      → (e : PlainEntry (Told D)) × IsEntryWith kept r told e × (after.entries.items ≡ mid.entries.items ++ e ∷ []) → vec_len after.entries ≡ vec_len mid.entries + 1 → vec_capacity after.entries ≡ vec_capacity mid.entries
      → HasHistory new (Some after)
  made_kept c kept r told old new before mid after isnt has acted calls fits is same enough entry len capacity =
      let made : IsMade c r old new = record { acted = acted; calls = calls; fits = fits } in
      (call_recorded (λ _. Unit {0}) c r old new before.entries.items after.entries.items isnt has.0 made (longer (λ _. Unit {0}) c kept r told before.entries.items mid.entries.items after.entries.items is same tt entry), omega (arith, enough made, len, capacity))

  -- none was made
  pub unmade_kept : (old new : StateInner S) (before after : History (Told D)) → IsState old → HasHistory old (Some before) → Stays old new → new.connection ≡ old.connection → after.entries.items ≡ before.entries.items
      → vec_len after.entries + old.handles ≤ vec_capacity after.entries → HasHistory new (Some after)
  unmade_kept old new before after state has stays same is slots =
      let count : new.handles ≡ old.handles = sym (stays.each state.book state.shown).shows.handles ∙ state.shown.shows.handles in
      (unmade_recorded old new before.entries.items after.entries.items has.0 (record { kept = stays.each; same = same }) is, omega (arith, slots, count))

  -- each book that showed the state shows it, and nothing more came
  pub still_kept : (old new : StateInner S) (history : Option (History (Told D))) → ((b : Book) → Shows old b → Shows new b) → came new.connection ≡ came old.connection → new.handles ≡ old.handles → HasHistory old history → HasHistory new history
  still_kept old new None shown same count has = tt
  still_kept old new (Some h) shown same count has =
      (record { first = has.0.first; is_first = has.0.is_first; last = has.0.last; replays = has.0.replays; shows = shown has.0.last has.0.shows; taken = same ∙ has.0.taken }, omega (arith, has.1, count))
