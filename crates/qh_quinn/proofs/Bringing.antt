-- What comes to a connection one after another.
use Rattle.std.proofs.Common.{◌≡◌, List, [], ◌∷◌, ◌++◌, Option, None, Some, Result, Ok, Err, refl, sym, ap, subst, ◌∙◌}
use Rattle.qh_base.specs.declared.connection_error.ConnectionError.TheVariants as error
use Rattle.qh_book.specs.Book.{Book}
use Rattle.qh_book.specs.Items.{bring}
use Rattle.qh_book.specs.declared.item.Item.TheVariants as item
use Rattle.qh_conn.specs.Items.{came}
use Rattle.qh_conn.specs.declared.connection.Connection.{Connection}
use Rattle.qh_control.specs.Items.{logged}
use Rattle.qh_control.specs.declared.items.ConnectionItem.{ConnectionItem}
use Rattle.qh_quinn.proofs.TakingUp.{wanting_kept}
use Rattle.qh_quinn.specs.Turning.{IsBrought, IsBroughtBy, IsShown, some, wanting}
use Rattle.qh_runtime.specs.declared.runtime.IoFault.{IoFault}
use Rattle.qh_runtime.specs.declared.runtime.IoFault.TheVariants as faults
use Rattle.qh_shown.specs.Brings.{BringsSome, EndsWanting}
use Rattle.qh_shown.specs.Connections.{ShowsConnection, is_wanting, spared_all}
use Rattle.qh_shown.specs.Items.{brought, item_of}
use Rattle.qh_shown.specs.Kept.{Keeps, KeepsLost}

pub brought_behind : (xs ys : List ConnectionItem) (b : Book) → brought (xs ++ ys) b ≡ brought ys (brought xs b)
brought_behind [] ys b = refl
brought_behind (x ∷ xs) ys b = brought_behind xs ys (bring (item_of x) b)

behind : {X : Type 0} (xs ys zs : List X) → (xs ++ ys) ++ zs ≡ xs ++ (ys ++ zs)
behind [] ys zs = refl
behind (x ∷ xs) ys zs = ap (λ (l : List _). x ∷ l) (behind xs ys zs)

logged_behind : (log : Option (List ConnectionItem)) (xs ys : List ConnectionItem) → logged (logged log xs) ys ≡ logged log (xs ++ ys)
logged_behind None xs ys = refl
logged_behind (Some log) xs ys = ap Some (behind log xs ys)

keeps_then : (a b c : Book) → Keeps a b → Keeps b c → Keeps a c
keeps_then a b c x y = record {
  readers = y.readers ∙ x.readers;
  handles = y.handles ∙ x.handles;
  interests = y.interests ∙ x.interests;
  stable_id = y.stable_id ∙ x.stable_id;
  error = y.error ∙ x.error;
  is_emptied = y.is_emptied ∙ x.is_emptied;
  page = λ k p is. let q = x.page k p is in let r = y.page k q.0 q.1 in (r.0, r.1, r.2 ∙ q.2, r.3 ∙ q.3, r.4 ∙ q.4);
  untouched = λ u. y.untouched (x.untouched u);
}

keeps_lost : (a b c : Book) → Keeps a b → KeepsLost b c → KeepsLost a c
keeps_lost a b c x y = record {
  readers = y.readers ∙ x.readers;
  handles = y.handles ∙ x.handles;
  interests = y.interests ∙ x.interests;
  stable_id = y.stable_id ∙ x.stable_id;
  error = y.error;
  page = λ k p is. let q = x.page k p is in let r = y.page k q.0 q.1 in (r.0, r.1, r.2 ∙ q.2, r.3 ∙ q.3, r.4 ∙ q.4);
  untouched = λ u. y.untouched (x.untouched u);
}

-- what a law says of items that come one after another
abbrev pub Both : (S : Type 0) → Type 0
Both S = (old mid new : Connection S) → BringsSome old mid → BringsSome mid new → BringsSome old new

module _ {S : Type 0} where
  pub shown_by : (old new : Connection S) → BringsSome old new → IsShown old → IsShown new
  shown_by old new s h = record { told = h.told; notes = h.notes; b = brought s.items h.b; shows = s.brings.shows h.told h.notes h.b h.shows }

  pub calm_before : (old new : Connection S) → BringsSome old new → IsShown old → is_wanting new ≡ is_wanting old
  calm_before old new s h = wanting_kept s.items old new h.told h.notes h.b s.brings h.shows

  wants_then : (old mid new : Connection S) → BringsSome old mid → EndsWanting mid new → EndsWanting old new
  wants_then old mid new s e =
      let at : (b : Book) → brought (s.items ++ e.items) b ≡ brought e.items (brought s.items b) = λ b. brought_behind s.items e.items b in
      record {
        items = s.items ++ e.items;
        wanting = e.wanting;
        shows = λ told notes b h.
            subst (λ (z : Book). ShowsConnection told new (spared_all notes z) (bring (item.Lost error.Memory) z)) (sym (at b)) (e.shows told notes (brought s.items b) (s.brings.shows told notes b h));
        before = λ told notes b h.
            subst (λ (z : Book). Keeps b z) (sym (at b)) (keeps_then b (brought s.items b) (brought e.items (brought s.items b)) (s.brings.keeps told notes b h) (e.before told notes (brought s.items b) (s.brings.shows told notes b h)));
        keeps = λ told notes b h.
            subst (λ (z : Book). KeepsLost b (bring (item.Lost error.Memory) z)) (sym (at b))
            (keeps_lost b (brought s.items b) (bring (item.Lost error.Memory) (brought e.items (brought s.items b))) (s.brings.keeps told notes b h) (e.keeps told notes (brought s.items b) (s.brings.shows told notes b h)));
        logs = e.logs ∙ ap (λ (l : Option (List ConnectionItem)). logged l e.items) s.brings.logs ∙ logged_behind (came old) s.items e.items;
      }

  brought_then : Both S → (old mid new : Connection S) → BringsSome old mid → IsShown old → IsBrought mid new → IsBrought old new
  brought_then law old mid new s h (some x) = some (law old mid new s x)
  brought_then law old mid new s h (wanting calm x) = wanting (sym (calm_before old mid s h) ∙ calm) (wants_then old mid new s x)

  -- what a call brought, and then another one
  pub brings_then : Both S → (answer : Result (Unit {0}) IoFault) (old mid new : Connection S) → BringsSome old mid → IsShown old → IsBroughtBy answer mid new → IsBroughtBy answer old new
  brings_then law (Err faults.Memory) old mid new s h x = brought_then law old mid new s h x
  brings_then law (Err faults.WouldBlock) old mid new s h x = law old mid new s x
  brings_then law (Err faults.Reset) old mid new s h x = law old mid new s x
  brings_then law (Err faults.Failed) old mid new s h x = law old mid new s x
  brings_then law (Ok done) old mid new s h x = law old mid new s x
