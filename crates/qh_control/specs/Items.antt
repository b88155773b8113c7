-- What a log keeps of a connection: each item is one small change of what an application can see of it. A log that is off is none.
use Rattle.std.specs.Prelude.{ℕ, ◌+◌, ◌≤◌, List, [], ◌∷◌, ◌++◌, map, Option, Some, None, IfSome, Vec, vec_len, vec_capacity}
use Rattle.std.specs.Option.{option_map}
use Rattle.std.specs.declared.alloc.Global.{Global}
use Rattle.qh_control.specs.declared.items.ConnectionItem.{ConnectionItem}
use Rattle.qh_control.specs.declared.items.ConnectionItem.TheVariants as item
use Rattle.qh_control.specs.declared.items.LogEntry.{LogEntry}
use Rattle.qh_control.specs.declared.items.LogEntry.TheVariants as entry
use Rattle.qh_streams.specs.declared.items.Item.{Item}

-- these items come behind the others, if it is on
abbrev pub logged : Option (List ConnectionItem) → List ConnectionItem → Option (List ConnectionItem)
logged None more = None
logged (Some items) more = Some (items ++ more)

-- what the peer's frames brought the streams
abbrev pub streamed : Option (List Item) → List ConnectionItem
streamed None = []
streamed (Some items) = map (λ (i : Item). item.Stream i) items

-- an item, if there is one
abbrev pub only : Option ConnectionItem → List ConnectionItem
only None = []
only (Some one) = one ∷ []

-- ---- how it is kept

abbrev pub Items : Type 0
Items = Vec ConnectionItem Global

abbrev pub Entries : Type 0
Entries = Vec LogEntry Global

abbrev pub held_in : Option (Items) → Option (List ConnectionItem)
held_in items = option_map (λ v. v.items) items

abbrev pub items_in : LogEntry → List ConnectionItem
items_in (entry.Own one) = one ∷ []
items_in (entry.Streams items) = map (λ (i : Item). item.Stream i) items.items

abbrev pub items_of : List LogEntry → List ConnectionItem
items_of [] = []
items_of (one ∷ entries) = items_in one ++ items_of entries

abbrev pub kept_in : Option (Entries) → Option (List ConnectionItem)
kept_in entries = option_map (λ v. items_of v.items) entries

-- `count` more entries can be kept without memory
abbrev pub HasRoom : Option (Entries) → ℕ → Type 0
HasRoom entries count = IfSome entries (λ v. vec_len v + count ≤ vec_capacity v)
