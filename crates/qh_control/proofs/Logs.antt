-- The items of the entries of a log.
use Rattle.std.proofs.Common.{◌≡◌, ℕ, ◌+◌, ◌<◌, List, [], ◌∷◌, ◌++◌, length, take, get_or, sym, ap, ◌∙◌, Vec, vec_len, arith}
use Rattle.std.proofs.lemmas.List.{append-nil, append_assoc, length-append, length-map, take_more}
use Rattle.std.specs.declared.alloc.Global.{Global}
use Rattle.qh_control.specs.Items.{items_in, items_of}
use Rattle.qh_control.specs.declared.items.ConnectionItem.{ConnectionItem}
use Rattle.qh_control.specs.declared.items.ConnectionItem.TheVariants as item
use Rattle.qh_control.specs.declared.items.LogEntry.{LogEntry}
use Rattle.qh_control.specs.declared.items.LogEntry.TheVariants as entry
use Rattle.qh_streams.specs.declared.items.Item.{Item}

pub kept_more : (entries : List LogEntry) (e : LogEntry) → items_of (entries ++ e ∷ []) ≡ items_of entries ++ items_in e
kept_more [] e = append-nil (items_in e)
kept_more (first ∷ entries) e = ap (λ (rest : List ConnectionItem). items_in first ++ rest) (kept_more entries e) ∙ sym (append_assoc (items_in first) (items_of entries) (items_in e))

-- so many items more
pub counted_more : (entries : List LogEntry) (i : ℕ) (e : LogEntry) → i < length entries → e ≡ get_or entries i e → length (items_of (take (i + 1) entries)) ≡ length (items_of (take i entries)) + length (items_in e)
counted_more entries i e within is =
    ap (λ (l : List LogEntry). length (items_of l)) (take_more entries i e within ∙ ap (λ (x : LogEntry). take i entries ++ x ∷ []) (sym is))
    ∙ ap (λ (l : List ConnectionItem). length l) (kept_more (take i entries) e) ∙ length-append (items_of (take i entries)) (items_in e)

pub streams_counted : (v : Vec Item Global) → length (items_in (entry.Streams v)) ≡ vec_len v
streams_counted v = let count = length-map v.items (λ (i : Item). item.Stream i) in omega (arith, count, v.ok.0)
