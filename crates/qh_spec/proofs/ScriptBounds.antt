-- What a script asks for lies within the bounds of its lines.
use Rattle.std.proofs.Common.{◌≡◌, ℕ, ◌^◌, ◌-◌, ◌<◌, ◌≤◌, min, List, [], ◌∷◌, ◌++◌, nat_lt, Option, Some, None, unwrap_or, option_map, IfSome, refl, sym, subst, arith, ltb-true}
use Rattle.std.specs.Prelude.{All}
use Rattle.std.proofs.lemmas.List.Elements.{All-nil, All-cons, All-head, All-tail, All-push}
use Rattle.std.proofs.lemmas.Option.{cond_some, none-some, same_Some}
use Rattle.http_header.specs.FieldValue.{FieldValue, plain_value}
use Rattle.http_header.specs.HeaderMap.{Entries, append, IsHeaderMap}
use Rattle.qh_spec.specs.declared.link.Select.{Select}
use Rattle.qh_spec.specs.declared.link.Upset.{Upset}
use Rattle.qh_spec.specs.declared.script.Setting.{Setting}
use Rattle.qh_spec.specs.declared.script.Setting.TheVariants.{Rounds, Step}
use Rattle.qh_spec.specs.Echoed.{HasMaps}
use Rattle.qh_spec.specs.Lines.{lines}
use Rattle.qh_spec.specs.Message.{PlainMessage, Request as RequestHead, IsRequest}
use Rattle.qh_spec.specs.Schedule.{IsSelect, IsUpset}
use Rattle.qh_spec.specs.Script.{Script, empty_script, set_rounds, set_step, filling, trailers_so_far, field_count, where_room, with_field, with_trailer, with_body, change_last, with_requests, applied, AreTaken, IsScript, rounds_of}
use Rattle.qh_spec.specs.ScriptLine.{Line, Empty, Request, Field, Trailer, Body, Fill, Set, RetryOn, GreaseOff, Disturb, setting_bound, IsSelect as SpellsSelect, one, all, each, IsUpset as SpellsUpset, lose, twice, late, fail, forge, Says, request, field, trailer, body, fill, set, retry, grease, disturb, IsLine, empty, worded}
use Rattle.qh_spec.specs.Size.{enough_rounds}
use Rattle.qh_spec.proofs.MapAppend.{IsNamed, named_nil, named_is_map, count_append, named_append}

-- ---- lines

-- the numbers of a line are within their bounds
abbrev pub IsBounded : Line → Type 0
IsBounded (Set x n) = n < setting_bound x
IsBounded (Disturb u) = IsUpset u
IsBounded _ = Unit {0}

select_bounded : (text : List ℕ) (which : Select) → SpellsSelect text which → IsSelect which
select_bounded text _ (one k is low high) = (low, high)
select_bounded text _ (all is) = tt
select_bounded text _ (each m is low high) = (low, high)

upset_bounded : (word text : List ℕ) (u : Upset) → SpellsUpset word text u → IsUpset u
upset_bounded word text _ (lose which w is) = select_bounded text which is
upset_bounded word text _ (twice which w is) = select_bounded text which is
upset_bounded word text _ (late chosen which n w is s low high) = (select_bounded chosen which s, low, high)
upset_bounded word text _ (fail k w is low high) = (low, high)
upset_bounded word text _ (forge round side hex bytes w is low high spelled some few) = (low, high, some, few)

says_bounded : (word text : List ℕ) (l : Line) → Says word text l → IsBounded l
says_bounded word text _ (request method uri target w is token spelled) = tt
says_bounded word text _ (field name value w is) = tt
says_bounded word text _ (trailer name value w is) = tt
says_bounded word text _ (body w) = tt
says_bounded word text _ (fill n w is bound) = tt
says_bounded word text _ (set x n w is bound) = bound
says_bounded word text _ (retry w is) = tt
says_bounded word text _ (grease w is) = tt
says_bounded word text _ (disturb u is) = upset_bounded word text u is

pub line_bounded : (text : List ℕ) (l : Line) → IsLine text l → IsBounded l
line_bounded text _ (empty is) = tt
line_bounded text l (worded word behind _ is says) = says_bounded word behind l says

-- ---- requests

-- a request with maps of few values
pub record IsAsked (m : PlainMessage) : Type 0 where
  pub head : IsRequest m.head
  pub fields : IsNamed m.fields
  pub trailers : IsNamed (trailers_so_far m)
  pub few : field_count m ≤ 2000

where_some : (o : Option (Entries FieldValue)) → IsHeaderMap (unwrap_or o []) → IfSome o IsHeaderMap
where_some None h = tt
where_some (Some m) h = h

asked_has_maps : (m : PlainMessage) → IsAsked m → IsRequest m.head × HasMaps m
asked_has_maps m a =
    let few = a.few in (
      a.head,
      record {
        fields = named_is_map m.fields a.fields (omega arith);
        trailers = where_some m.trailers (named_is_map (trailers_so_far m) a.trailers (omega arith));
      },
    )

where_room_is : (m n k : PlainMessage) → where_room m n ≡ Some k → (field_count m < 2000) × (n ≡ k)
where_room_is m n k e = let w = cond_some (nat_lt (field_count m) 2000) n k e in (ltb-true (field_count m) 2000 w.0, w.1)

field_asked : (name value : List ℕ) (m n : PlainMessage) → IsAsked m → with_field name value m ≡ Some n → IsAsked n
field_asked name value m n a e =
    let w = where_room_is m (record m { fields = append m.fields name (plain_value value) }) n e in
    let more = count_append m.fields name (plain_value value) in
    subst IsAsked w.1
    (record { head = a.head; fields = named_append m.fields name (plain_value value) a.fields; trailers = a.trailers; few = omega (arith, w.0, more) })

trailer_asked : (name value : List ℕ) (m n : PlainMessage) → IsAsked m → with_trailer name value m ≡ Some n → IsAsked n
trailer_asked name value m n a e =
    let so_far = trailers_so_far m in
    let w = where_room_is m (record m { trailers = Some (append so_far name (plain_value value)) }) n e in
    let more = count_append so_far name (plain_value value) in
    subst IsAsked w.1
    (record { head = a.head; fields = a.fields; trailers = named_append so_far name (plain_value value) a.trailers; few = omega (arith, w.0, more) })

body_asked : (bytes : List ℕ) (m n : PlainMessage) → IsAsked m → with_body bytes m ≡ Some n → IsAsked n
body_asked bytes m n a e =
    subst IsAsked (same_Some (record m { body = bytes }) n e) (record { head = a.head; fields = a.fields; trailers = a.trailers; few = a.few })

map_some : {X Y : Type 0} (f : X → Y) (o : Option X) (y : Y) → option_map f o ≡ Some y → (x : X) × (o ≡ Some x) × (f x ≡ y)
map_some f None y e = absurd (none-some y e)
map_some f (Some x) y e = (x, refl, same_Some (f x) y e)

last_asked : (f : PlainMessage → Option PlainMessage) → ((m n : PlainMessage) → IsAsked m → f m ≡ Some n → IsAsked n) → (ms ns : List PlainMessage) → All IsAsked ms
    → change_last f ms ≡ Some ns → All IsAsked ns
last_asked f keeps [] ns a e = absurd (none-some ns e)
last_asked f keeps (m ∷ []) ns a e =
    let w = map_some (λ (n : PlainMessage). n ∷ []) (f m) ns e in
    subst (All IsAsked) w.2 (All-cons IsAsked w.0 [] (keeps m w.0 (All-head IsAsked m [] a) w.1) (All-nil IsAsked))
last_asked f keeps (m ∷ n ∷ more) ns a e =
    let w = map_some (λ (changed : List PlainMessage). m ∷ changed) (change_last f (n ∷ more)) ns e in
    subst (All IsAsked) w.2
    (All-cons IsAsked m w.0 (All-head IsAsked m (n ∷ more) a) (last_asked f keeps (n ∷ more) w.0 (All-tail IsAsked m (n ∷ more) a) w.1))

-- ---- scripts

pub record IsModest (s : Script) : Type 0 where
  pub rounds : IfSome s.rounds (λ n. n < 2 ^ 48)
  pub step : s.step ≤ 10000
  pub schedule : All IsUpset s.schedule
  pub requests : All IsAsked s.requests

empty_modest : IsModest empty_script
empty_modest = record { rounds = tt; step = omega arith; schedule = All-nil IsUpset; requests = All-nil IsAsked }

rounds_set : (x : Setting) (n : ℕ) (o : Option ℕ) → n < setting_bound x → IfSome o (λ k. k < 2 ^ 48) → IfSome (set_rounds x n o) (λ k. k < 2 ^ 48)
rounds_set Rounds n o bound h = bound
rounds_set _ n o bound h = h

step_set : (x : Setting) (n k : ℕ) → n < setting_bound x → k ≤ 10000 → set_step x n k ≤ 10000
step_set Step n k bound h = omega arith
step_set _ n k bound h = h

-- a line that changes the last request
changed_modest : (f : PlainMessage → Option PlainMessage) → ((m n : PlainMessage) → IsAsked m → f m ≡ Some n → IsAsked n) → (s t : Script) → IsModest s
    → with_requests s (change_last f s.requests) ≡ Some t → IsModest t
changed_modest f keeps s t b e =
    let w = map_some (λ (ms : List PlainMessage). record s { requests = ms }) (change_last f s.requests) t e in
    subst IsModest w.2 (record { rounds = b.rounds; step = b.step; schedule = b.schedule; requests = last_asked f keeps s.requests w.0 b.requests w.1 })

applied_modest : (l : Line) (s t : Script) → IsBounded l → IsModest s → applied l s ≡ Some t → IsModest t
applied_modest Empty s t l b e = subst IsModest (same_Some s t e) b
applied_modest (Request method target) s t l b e =
    let m : PlainMessage = record { head = RequestHead method target; fields = []; body = []; trailers = None } in
    let asked : IsAsked m = record { head = tt; fields = named_nil; trailers = named_nil; few = omega arith } in
    subst IsModest (same_Some (record s { requests = s.requests ++ m ∷ [] }) t e)
    (record { rounds = b.rounds; step = b.step; schedule = b.schedule; requests = All-push IsAsked s.requests m b.requests asked })
applied_modest (Field name value) s t l b e = changed_modest (with_field name value) (field_asked name value) s t b e
applied_modest (Trailer name value) s t l b e = changed_modest (with_trailer name value) (trailer_asked name value) s t b e
applied_modest (Body text) s t l b e = changed_modest (with_body text) (body_asked text) s t b e
applied_modest (Fill n) s t l b e = changed_modest (with_body (filling 0 n)) (body_asked (filling 0 n)) s t b e
applied_modest (Set x n) s t l b e =
    subst IsModest (same_Some _ t e)
    (record { rounds = rounds_set x n s.rounds l b.rounds; step = step_set x n s.step l b.step; schedule = b.schedule; requests = b.requests })
applied_modest RetryOn s t l b e =
    subst IsModest (same_Some _ t e) (record { rounds = b.rounds; step = b.step; schedule = b.schedule; requests = b.requests })
applied_modest GreaseOff s t l b e =
    subst IsModest (same_Some _ t e) (record { rounds = b.rounds; step = b.step; schedule = b.schedule; requests = b.requests })
applied_modest (Disturb u) s t l b e =
    subst IsModest (same_Some _ t e) (record { rounds = b.rounds; step = b.step; schedule = All-push IsUpset s.schedule u b.schedule l; requests = b.requests })

all_modest : (ls : List (List ℕ)) (s t : Script) → IsModest s → AreTaken ls s t → IsModest t
all_modest [] s t b e = subst IsModest (sym e) b
all_modest (l ∷ ls) s t b taken =
    all_modest ls taken.0 t (applied_modest taken.1.line s taken.0 (line_bounded l taken.1.line taken.1.is) b taken.1.makes) taken.2

script_modest : (text : List ℕ) (s : Script) → IsScript text s → IsModest s
script_modest text s is = all_modest (lines text) empty_script s empty_modest is.taken

rounds_below : (o : Option ℕ) (enough : ℕ) → IfSome o (λ n. n < 2 ^ 48) → unwrap_or o (min (2 ^ 48 - 1) enough) < 2 ^ 48
rounds_below None enough h = omega arith
rounds_below (Some n) enough h = h

pub few_rounds : (text : List ℕ) (s : Script) → IsScript text s → rounds_of s < 2 ^ 48
few_rounds text s is =
    rounds_below s.rounds (enough_rounds s.config.max_field_section_size s.config.max_response_body s.requests) (script_modest text s is).rounds

pub short_step : (text : List ℕ) (s : Script) → IsScript text s → s.step ≤ 10000
short_step text s is = (script_modest text s is).step

pub upsets_are : (text : List ℕ) (s : Script) → IsScript text s → All IsUpset s.schedule
upsets_are text s is = (script_modest text s is).schedule

pub requests_are : (text : List ℕ) (s : Script) → IsScript text s → All (λ (m : PlainMessage). IsRequest m.head × HasMaps m) s.requests
requests_are text s is = λ k d h. asked_has_maps _ ((script_modest text s is).requests k d h)
