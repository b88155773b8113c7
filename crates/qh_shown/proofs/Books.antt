-- What stays of a book by items, and logs of them.
use Rattle.std.proofs.Common.{◌≡◌, Bool, true, false, ◌||◌, List, [], ◌∷◌, ◌++◌, map, Option, None, Some, is_some, refl, sym, ap, subst, ◌∙◌}
use Rattle.std.proofs.lemmas.List.{map-append}
use Rattle.std.specs.Option.{option_map}
use Rattle.qh_book.specs.Book.{Book}
use Rattle.qh_book.specs.Items.{bring, bring_all, item_of as stream_item}
use Rattle.qh_book.specs.Shown.{SameStreams, IsStreamChange}
use Rattle.qh_conn.proofs.LogKept.{Log, logged_both, logged_none, none_left}
use Rattle.qh_control.specs.Items.{logged, streamed}
use Rattle.qh_control.specs.declared.items.ConnectionItem.{ConnectionItem}
use Rattle.qh_control.specs.declared.items.ConnectionItem.TheVariants as entry
use Rattle.qh_shown.specs.Items.{brought, item_of}
use Rattle.qh_shown.specs.Laws.{BookLaws}
use Rattle.qh_streams.specs.Items.{logged as log_with}
use Rattle.qh_streams.specs.declared.items.Item.{Item}

-- ---- items one after another

pub brought_both : (xs ys : List ConnectionItem) (b : Book) → brought (xs ++ ys) b ≡ brought ys (brought xs b)
brought_both [] ys b = refl
brought_both (x ∷ xs) ys b = brought_both xs ys (bring (item_of x) b)

abbrev pub of_streams : List Item → List ConnectionItem
of_streams items = map (λ (i : Item). entry.Stream i) items

pub brought_streams : (items : List Item) (b : Book) → brought (of_streams items) b ≡ bring_all (map stream_item items) b
brought_streams [] b = refl
brought_streams (i ∷ items) b = brought_streams items (bring (stream_item i) b)

-- ---- what stays

pub record SameEnd (b c : Book) : Type 0 where
  pub side : c.side ≡ b.side
  pub addresses : c.addresses ≡ b.addresses
  pub is_connected : c.is_connected ≡ b.is_connected
  pub is_emptied : c.is_emptied ≡ b.is_emptied

pub same_end : (b : Book) → SameEnd b b
same_end b = record { side = refl; addresses = refl; is_connected = refl; is_emptied = refl }

pub both_end : (b c d : Book) → SameEnd b c → SameEnd c d → SameEnd b d
both_end b c d p q = record { side = q.side ∙ p.side; addresses = q.addresses ∙ p.addresses; is_connected = q.is_connected ∙ p.is_connected; is_emptied = q.is_emptied ∙ p.is_emptied }

changed_end : (b c : Book) → IsStreamChange b c → SameEnd b c
changed_end b c is = record {
  side = ap (λ (z : Book). z.side) is;
  addresses = ap (λ (z : Book). z.addresses) is;
  is_connected = ap (λ (z : Book). z.is_connected) is;
  is_emptied = ap (λ (z : Book). z.is_emptied) is;
}

pub streams_end : BookLaws → (items : List Item) (b : Book) → SameEnd b (brought (of_streams items) b)
streams_end laws items b = subst (λ (z : Book). SameEnd b z) (sym (brought_streams items b)) (changed_end b (bring_all (map stream_item items) b) (laws.items items b))

pub same_streams : (b : Book) → SameStreams b b
same_streams b = record { side = refl; sends = refl; recvs = refl; bi = refl; uni = refl; first_bi = refl; first_uni = refl; credit_to = refl; taken = refl; send_window = refl; unconfirmed = refl }

pub both_streams : (b c d : Book) → SameStreams b c → SameStreams c d → SameStreams b d
both_streams b c d p q = record {
  side = q.side ∙ p.side;
  sends = q.sends ∙ p.sends;
  recvs = q.recvs ∙ p.recvs;
  bi = q.bi ∙ p.bi;
  uni = q.uni ∙ p.uni;
  first_bi = q.first_bi ∙ p.first_bi;
  first_uni = q.first_uni ∙ p.first_uni;
  credit_to = q.credit_to ∙ p.credit_to;
  taken = q.taken ∙ p.taken;
  send_window = q.send_window ∙ p.send_window;
  unconfirmed = q.unconfirmed ∙ p.unconfirmed;
}

pub or_true : (b : Bool) → true ≡ (b || true)
or_true true = refl
or_true false = refl

-- ---- logs

pub with_on : (log : Option (List Item)) (items : List Item) → is_some (log_with log items) ≡ is_some log
with_on None items = refl
with_on (Some all) items = refl

streamed_with : (log : Option (List Item)) (items : List Item) → is_some log ≡ true → streamed (log_with log items) ≡ streamed log ++ of_streams items
streamed_with None items on = let z : false ≡ true = on in cc
streamed_with (Some all) items on = map-append (λ (i : Item). entry.Stream i) all items

-- what came to the streams is what came
pub came_with : (log : Log) (streams : Option (List Item)) (items : List Item) → (is_some log ≡ true → is_some streams ≡ true) → logged log (streamed (log_with streams items)) ≡ logged (logged log (streamed streams)) (of_streams items)
came_with None streams items on = refl
came_with (Some all) streams items on =
    ap (λ (z : List ConnectionItem). logged (Some all) z) (streamed_with streams items (on refl)) ∙ sym (logged_both (Some all) (streamed streams) (of_streams items))

-- it is moved into the log, and these items come behind it
pub came_moved : (log : Log) (streams : Option (List Item)) (more : List ConnectionItem)
    → logged (logged log (streamed streams ++ more)) (streamed (option_map (λ _. []) streams)) ≡ logged (logged log (streamed streams)) more
came_moved log streams more =
    ap (λ (z : List ConnectionItem). logged (logged log (streamed streams ++ more)) z) (none_left streams)
    ∙ logged_none (logged log (streamed streams ++ more)) ∙ sym (logged_both log (streamed streams) more)

pub some_map : {A B : Type 0} (f : A → B) (o : Option A) → is_some (option_map f o) ≡ is_some o
some_map f None = refl
some_map f (Some x) = refl
