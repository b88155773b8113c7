-- What reading a frame tells.
use Rattle.std.proofs.Common.{◌≡◌, ◌≢◌, ℕ, ◌+◌, ◌<◌, ◌≤◌, ◌==◌, ◌||◌, nat_lt, true, false, List, [], ◌++◌, length, take, drop, refl, sym, ap, ◌∙◌, arith, inl, inr, Option, Some, None, Result, Ok, Err, subst, append_assoc, append-nil, length-append}
use Rattle.std.specs.Prelude.{IsErrOf}
use Rattle.std.proofs.lemmas.Bool.{cases_lt, cases_Bool, lt-ltb, le-ltb, eqb-true, eqb-false, or_cases, or_parts}
use Rattle.std.proofs.lemmas.List.{get_or-take, get_or_past, length-take, take-append-drop, take_at, drop_at, length-take-le, take_all}
use Rattle.qh_base.specs.Varint.{varint_at}
use Rattle.qh_base.proofs.Varints.{IsBytes, read_spelled, spelled_read}
use Rattle.qh_spec.specs.HttpFrame.{HttpFrame, IsHttpFrame, headers_frame}
use Rattle.qh_spec.specs.Lists.{In}
use Rattle.qh_spec.specs.Spelling.{known_kinds}
use Rattle.qh_spec.specs.Varint.{IsVarint}
use Rattle.qh_h3wire.proofs.Pairs.{Spelled, pair_spelled, pair_again, rest_is, rest_bytes}
use Rattle.qh_h3wire.proofs.SettingsRead.{at_means, at_fault, fault_read}
use Rattle.qh_h3wire.specs.Frame.{IsDataHeader, MeansFrame, headers, cancel_push, settings, push_promise, goaway, max_push_id, IfFrame, IfHeaders, IfDataLen, IfForbidden, IfUnknown, IfMalformed, IfSettingsError, IfIncomplete, IsMeant, reserved_kinds, IsReservedFrame, IsUnknownFrame, id_kinds, IsMalformedFrame, IsFaultySettings, HasNoFrame, HasSoundSettings, TakesMemory, IsRead}
use Rattle.qh_h3wire.specs.FrameAt.{id_of, with_id, with_settings, promise_from, is_reserved_kind, of_other_kind, whole_frame, frame_after, frame_from, frame_at}
use Rattle.qh_h3wire.specs.Pair.{pair_at}
use Rattle.qh_h3wire.specs.Settings.{PlainSettings}
use Rattle.qh_h3wire.specs.SettingsAt.{settings_at}
use Rattle.qh_h3wire.specs.declared.frame.Frame.{Frame}
use Rattle.qh_h3wire.specs.declared.frame.Frame.TheVariants.{Headers, CancelPush, Goaway, MaxPushId, DataLen}
use Rattle.qh_h3wire.specs.declared.frame.FrameError.{FrameError}
use Rattle.qh_h3wire.specs.declared.frame.FrameError.TheVariants as error
use Rattle.qh_h3wire.specs.declared.pair.Pair.{Pair}
use Rattle.qh_h3wire.specs.declared.settings.SettingsError.{SettingsError}

-- the two numbers and the payload are a front of the bytes
front_is : (a b c : List ℕ) (bytes : List ℕ) (n m : ℕ) → bytes ≡ a ++ (b ++ c) → length a + length b ≡ n → m ≤ length c → take (n + m) bytes ≡ a ++ (b ++ take m c)
front_is a b c bytes n m e s l =
    let grouped : bytes ≡ (a ++ (b ++ take m c)) ++ drop m c =
    e ∙ ap (λ (z : List ℕ). a ++ (b ++ z)) (sym (take-append-drop m c)) ∙ ap (λ (z : List ℕ). a ++ z) (sym (append_assoc b (take m c) (drop m c))) ∙ sym (append_assoc a (b ++ take m c) (drop m c)) in
    let x = length-append a (b ++ take m c) in
    let y = length-append b (take m c) in
    let z = length-take-le m c l in
    ap (take (n + m)) grouped ∙ take_at (a ++ (b ++ take m c)) (drop m c) (n + m) (omega arith)

whole_is : (bytes : List ℕ) (p : Pair) (kind : ℕ) → p.first ≡ kind → Spelled bytes p → p.second ≤ length (drop p.size bytes)
    → IsHttpFrame (take (p.size + p.second) bytes) (record { kind = kind; payload = take p.second (drop p.size bytes) })
whole_is bytes p kind k s l =
    let r : drop p.size bytes ≡ s.rest = rest_is bytes p s in
    let l' : p.second ≤ length s.rest = subst (λ (z : List ℕ). p.second ≤ length z) r l in
    record {
      kind_bytes = s.one;
      length_bytes = s.two;
      whole = front_is s.one s.two s.rest bytes p.size p.second s.whole s.size_is l' ∙ ap (λ (z : List ℕ). s.one ++ (s.two ++ take p.second z)) (sym r);
      kind_is = subst (IsVarint s.one) k s.one_is;
      length_is = subst (IsVarint s.two) (sym (length-take-le p.second (drop p.size bytes) l)) s.two_is;
    }

data_is : (bytes : List ℕ) (p : Pair) → p.first ≡ 0 → Spelled bytes p → IsDataHeader (take p.size bytes) p.second
data_is bytes p k s = record {
  kind_bytes = s.one;
  length_bytes = s.two;
  whole = ap (take p.size) (s.whole ∙ sym (append_assoc s.one s.two s.rest)) ∙ take_at (s.one ++ s.two) s.rest p.size (length-append s.one s.two ∙ s.size_is);
  kind_is = subst (IsVarint s.one) k s.one_is;
  length_is = s.two_is;
}

-- a frame in front tells the numbers
frame_pair : (bytes : List ℕ) (k : ℕ) (f : HttpFrame) (is : IsHttpFrame (take k bytes) f)
    → (pair_at bytes ≡ Some (record { first = f.kind; second = length f.payload; size = length is.kind_bytes + length is.length_bytes }))
    × (drop (length is.kind_bytes + length is.length_bytes) bytes ≡ f.payload ++ drop k bytes)
frame_pair bytes k f is =
    let a = is.kind_bytes in
    let b = is.length_bytes in
    let e : bytes ≡ a ++ (b ++ (f.payload ++ drop k bytes)) =
    sym (take-append-drop k bytes) ∙ ap (λ (z : List ℕ). z ++ drop k bytes) is.whole ∙ append_assoc a (b ++ f.payload) (drop k bytes)
    ∙ ap (λ (z : List ℕ). a ++ z) (append_assoc b f.payload (drop k bytes)) in (
      ap pair_at e ∙ pair_again a b (f.payload ++ drop k bytes) f.kind (length f.payload) is.kind_is is.length_is,
      ap (drop (length a + length b)) (e ∙ sym (append_assoc a b (f.payload ++ drop k bytes))) ∙ drop_at (a ++ b) (f.payload ++ drop k bytes) (length a + length b) (length-append a b),
    )

data_pair : (bytes : List ℕ) (k n : ℕ) (is : IsDataHeader (take k bytes) n) → pair_at bytes ≡ Some (record { first = 0; second = n; size = length is.kind_bytes + length is.length_bytes })
data_pair bytes k n is =
    let a = is.kind_bytes in
    let b = is.length_bytes in
    let e : bytes ≡ a ++ (b ++ drop k bytes) = sym (take-append-drop k bytes) ∙ ap (λ (z : List ℕ). z ++ drop k bytes) is.whole ∙ append_assoc a b (drop k bytes) in
    ap pair_at e ∙ pair_again a b (drop k bytes) 0 n is.kind_is is.length_is

no_pair : (bytes : List ℕ) → pair_at bytes ≡ None → HasNoFrame bytes
no_pair bytes h = record {
  no_frame = λ k f is. let e = (frame_pair bytes k f is).0 in let both : ◌≡◌ {A = Option Pair} None (Some (record { first = f.kind; second = length f.payload; size = length is.kind_bytes + length is.length_bytes })) = sym h ∙ e in cc;
  no_data_header = λ k n is. let e = data_pair bytes k n is in let both : ◌≡◌ {A = Option Pair} None (Some (record { first = 0; second = n; size = length is.kind_bytes + length is.length_bytes })) = sym h ∙ e in cc;
}

same_pair : (p q : Pair) (r : Option Pair) → r ≡ Some p → r ≡ Some q → p ≡ q
same_pair p q r e f = let both : ◌≡◌ {A = Option Pair} (Some p) (Some q) = sym e ∙ f in cc

cut_payload : (bytes : List ℕ) (p : Pair) → pair_at bytes ≡ Some p → p.first ≢ 0 → length (drop p.size bytes) < p.second → HasNoFrame bytes
cut_payload bytes p h k l = record {
  no_frame = λ n f is.
      let r = frame_pair bytes n f is in
      let same = same_pair p (record { first = f.kind; second = length f.payload; size = length is.kind_bytes + length is.length_bytes }) (pair_at bytes) h r.0 in
      let size : p.size ≡ length is.kind_bytes + length is.length_bytes = ap (λ (z : Pair). z.size) same in
      let count : p.second ≡ length f.payload = ap (λ (z : Pair). z.second) same in
      let left : length (drop p.size bytes) ≡ length (f.payload ++ drop n bytes) = ap length (ap (λ (z : ℕ). drop z bytes) size ∙ r.1) in
      let sum = length-append f.payload (drop n bytes) in
      absurd (omega arith);
  no_data_header = λ n m is.
      let same = same_pair p (record { first = 0; second = m; size = length is.kind_bytes + length is.length_bytes }) (pair_at bytes) h (data_pair bytes n m is) in
      k (ap (λ (z : Pair). z.first) same);
}

-- all that an answer and the bytes that it used tell
pub record Facts (e : Result Frame FrameError × ℕ) (bytes : List ℕ) : Type 0 where
  pub found : IfFrame e.0 (λ frame. IsMeant (take e.1 bytes) frame)
  pub headers : IfHeaders e.0 (λ section. IsHttpFrame (take e.1 bytes) (headers_frame section))
  pub data_len : IfDataLen e.0 (λ n. IsDataHeader (take e.1 bytes) n)
  pub forbidden : IfForbidden e.0 (λ kind. IsReservedFrame (take e.1 bytes) kind)
  pub unknown : IfUnknown e.0 (λ kind. IsUnknownFrame (take e.1 bytes) kind)
  pub malformed : IfMalformed e.0 (IsMalformedFrame (take e.1 bytes))
  pub settings : IfSettingsError e.0 (λ f. IsFaultySettings (take e.1 bytes) f)
  pub incomplete : IfIncomplete e.0 (HasNoFrame bytes)

incomplete_facts : (bytes : List ℕ) (n : ℕ) → HasNoFrame bytes → Facts (Err (error.Incomplete n), 0) bytes
incomplete_facts bytes n none = record { found = tt; headers = tt; data_len = tt; forbidden = tt; unknown = tt; malformed = tt; settings = tt; incomplete = none }

data_facts : (bytes : List ℕ) (n size : ℕ) → IsDataHeader (take size bytes) n → Facts (Ok (DataLen n), size) bytes
data_facts bytes n size is = record { found = tt; headers = tt; data_len = is; forbidden = tt; unknown = tt; malformed = tt; settings = tt; incomplete = tt }

-- What whole bytes tell of the answer about them: the facts of a frame that isn't DATA.
record WholeFacts (r : Result Frame FrameError) (bytes : List ℕ) : Type 0 where
  found : IfFrame r (λ frame. IsMeant bytes frame)
  headers : IfHeaders r (λ section. IsHttpFrame bytes (headers_frame section))
  no_data : IfDataLen r (λ n. ⊥)
  forbidden : IfForbidden r (λ kind. IsReservedFrame bytes kind)
  unknown : IfUnknown r (λ kind. IsUnknownFrame bytes kind)
  malformed : IfMalformed r (IsMalformedFrame bytes)
  settings : IfSettingsError r (λ f. IsFaultySettings bytes f)
  complete : IfIncomplete r ⊥

-- frames by their types

headers_whole : (bytes payload : List ℕ) → IsHttpFrame bytes (record { kind = 1; payload = payload }) → WholeFacts (Ok (Headers payload)) bytes
headers_whole bytes payload is = record {
  found = record { http = headers_frame payload; is = is; means = headers refl refl };
  headers = is;
  no_data = tt;
  forbidden = tt;
  unknown = tt;
  malformed = tt;
  settings = tt;
  complete = tt;
}

malformed_whole : (bytes payload : List ℕ) (kind : ℕ) → IsHttpFrame bytes (record { kind = kind; payload = payload }) → In kind id_kinds
    → ((frame : Frame) → MeansFrame (record { kind = kind; payload = payload }) frame → ⊥) → WholeFacts (Err error.Malformed) bytes
malformed_whole bytes payload kind is has none = record {
  found = tt;
  headers = tt;
  no_data = tt;
  forbidden = tt;
  unknown = tt;
  malformed = record { http = record { kind = kind; payload = payload }; is = is; has_id = has; meaningless = none };
  settings = tt;
  complete = tt;
}

-- the three frames that are an id
data IsId (kind : ℕ) (make : ℕ → Frame) : Type 0 where
  cancels : kind ≡ 3 → make ≡ CancelPush → IsId kind make
  goes : kind ≡ 7 → make ≡ Goaway → IsId kind make
  limits : kind ≡ 13 → make ≡ MaxPushId → IsId kind make

id_whole : (bytes payload : List ℕ) (kind : ℕ) (make : ℕ → Frame) (id : ℕ) → IsId kind make → IsHttpFrame bytes (record { kind = kind; payload = payload }) → IsVarint payload id
    → WholeFacts (Ok (make id)) bytes
id_whole bytes payload kind make id (cancels k m) is v =
    subst (λ (z : ℕ → Frame). WholeFacts (Ok (z id)) bytes) (sym m)
    (record { found = record { http = record { kind = kind; payload = payload }; is = is; means = cancel_push id k v refl }; headers = tt; no_data = tt; forbidden = tt; unknown = tt; malformed = tt; settings = tt; complete = tt })
id_whole bytes payload kind make id (goes k m) is v =
    subst (λ (z : ℕ → Frame). WholeFacts (Ok (z id)) bytes) (sym m)
    (record { found = record { http = record { kind = kind; payload = payload }; is = is; means = goaway id k v refl }; headers = tt; no_data = tt; forbidden = tt; unknown = tt; malformed = tt; settings = tt; complete = tt })
id_whole bytes payload kind make id (limits k m) is v =
    subst (λ (z : ℕ → Frame). WholeFacts (Ok (z id)) bytes) (sym m)
    (record { found = record { http = record { kind = kind; payload = payload }; is = is; means = max_push_id id k v refl }; headers = tt; no_data = tt; forbidden = tt; unknown = tt; malformed = tt; settings = tt; complete = tt })

has_id : (kind : ℕ) (make : ℕ → Frame) → IsId kind make → In kind id_kinds
has_id kind make (cancels k _) = inl (sym k)
has_id kind make (goes k _) = inr (inr (inl (sym k)))
has_id kind make (limits k _) = inr (inr (inr (inl (sym k))))

-- the payload means a frame only where it begins with an id, which is all of it in three of the four
other_kind : (kind : ℕ) (make : ℕ → Frame) → IsId kind make → (n : ℕ) → kind ≡ n → n ≢ 3 → n ≢ 7 → n ≢ 13 → ⊥
other_kind kind make (cancels k _) n e a b c = a (sym e ∙ k)
other_kind kind make (goes k _) n e a b c = b (sym e ∙ k)
other_kind kind make (limits k _) n e a b c = c (sym e ∙ k)

no_meaning : (kind : ℕ) (payload : List ℕ) (make : ℕ → Frame) → IsId kind make → ((id : ℕ) → IsVarint payload id → ⊥) → (frame : Frame)
    → MeansFrame (record { kind = kind; payload = payload }) frame → ⊥
no_meaning kind payload make i none frame (headers k _) = other_kind kind make i 1 k (omega arith) (omega arith) (omega arith)
no_meaning kind payload make i none frame (cancel_push id _ v _) = none id v
no_meaning kind payload make i none frame (settings s k _ _) = other_kind kind make i 4 k (omega arith) (omega arith) (omega arith)
no_meaning kind payload make i none frame (push_promise id a b k _ _ _) = other_kind kind make i 5 k (omega arith) (omega arith) (omega arith)
no_meaning kind payload make i none frame (goaway id _ v _) = none id v
no_meaning kind payload make i none frame (max_push_id id _ v _) = none id v

no_id : (payload : List ℕ) (id : ℕ) → IsVarint payload id → varint_at payload ≡ None → ⊥
no_id payload id v h =
    let e = spelled_read payload [] id v in
    let e' : varint_at payload ≡ Some (id, length payload) = subst (λ (z : List ℕ). varint_at z ≡ Some (id, length payload)) (append-nil payload) e in
    let both : ◌≡◌ {A = Option (ℕ × ℕ)} None (Some (id, length payload)) = sym h ∙ e' in
    cc

id_size : (payload : List ℕ) (id : ℕ) (found : ℕ × ℕ) → IsVarint payload id → varint_at payload ≡ Some found → found.1 ≡ length payload
id_size payload id found v h =
    let e = spelled_read payload [] id v in
    let e' : varint_at payload ≡ Some (id, length payload) = subst (λ (z : List ℕ). varint_at z ≡ Some (id, length payload)) (append-nil payload) e in
    let both : ◌≡◌ {A = Option (ℕ × ℕ)} (Some found) (Some (id, length payload)) = sym h ∙ e' in
    let pair : found ≡ (id, length payload) = cc in
    ap (λ (z : ℕ × ℕ). z.1) pair

no_promise : (payload : List ℕ) → varint_at payload ≡ None → (frame : Frame) → MeansFrame (record { kind = 5; payload = payload }) frame → ⊥
no_promise payload h frame (headers k _) = absurd (omega arith)
no_promise payload h frame (cancel_push id k _ _) = absurd (omega arith)
no_promise payload h frame (settings s k _ _) = absurd (omega arith)
no_promise payload h frame (push_promise id a b _ whole v _) =
    let e : varint_at payload ≡ Some (id, length a) = ap varint_at whole ∙ spelled_read a b id v in
    let both : ◌≡◌ {A = Option (ℕ × ℕ)} None (Some (id, length a)) = sym h ∙ e in
    cc
no_promise payload h frame (goaway id k _ _) = absurd (omega arith)
no_promise payload h frame (max_push_id id k _ _) = absurd (omega arith)

id_read : (bytes payload : List ℕ) (kind : ℕ) (make : ℕ → Frame) (r : Option (ℕ × ℕ)) → IsBytes payload → IsId kind make → IsHttpFrame bytes (record { kind = kind; payload = payload })
    → varint_at payload ≡ r → WholeFacts (with_id make (id_of r (length payload))) bytes
id_read bytes payload kind make None are i is h =
    malformed_whole bytes payload kind is (has_id kind make i) (no_meaning kind payload make i (λ id v. no_id payload id v h))
id_read bytes payload kind make (Some found) are i is h =
    elim (cases_Bool (found.1 == length payload)) [
      | inl t ↦
          let all = eqb-true found.1 (length payload) t in
          let v = read_spelled payload found are h in
          let same : take found.1 payload ≡ payload = take_all found.1 payload (omega arith) in
          rw t (id_whole bytes payload kind make found.0 i is (subst (λ (z : List ℕ). IsVarint z found.0) same v.spelled))
      | inr t ↦
          rw t (malformed_whole bytes payload kind is (has_id kind make i) (no_meaning kind payload make i (λ id v. eqb-false found.1 (length payload) t (id_size payload id found v h))))
    ]

promise_read : (bytes payload : List ℕ) (r : Option (ℕ × ℕ)) → IsBytes payload → IsHttpFrame bytes (record { kind = 5; payload = payload }) → varint_at payload ≡ r → WholeFacts (promise_from r payload) bytes
promise_read bytes payload None are is h = malformed_whole bytes payload 5 is (inr (inl refl)) (no_promise payload h)
promise_read bytes payload (Some found) are is h =
    let v = read_spelled payload found are h in
    record {
      found = record {
        http = record { kind = 5; payload = payload };
        is = is;
        means = push_promise found.0 (take found.1 payload) (drop found.1 payload) refl (sym (take-append-drop found.1 payload)) v.spelled refl;
      };
      headers = tt;
      no_data = tt;
      forbidden = tt;
      unknown = tt;
      malformed = tt;
      settings = tt;
      complete = tt;
    }

settings_read : (bytes payload : List ℕ) (r : Result PlainSettings SettingsError) → IsBytes payload → IsHttpFrame bytes (record { kind = 4; payload = payload }) → settings_at payload ≡ r
    → WholeFacts (with_settings r) bytes
settings_read bytes payload (Ok s) are is h = record {
  found = record { http = record { kind = 4; payload = payload }; is = is; means = settings s refl (at_means payload s are h) refl };
  headers = tt;
  no_data = tt;
  forbidden = tt;
  unknown = tt;
  malformed = tt;
  settings = tt;
  complete = tt;
}
settings_read bytes payload (Err e) are is h = record {
  found = tt;
  headers = tt;
  no_data = tt;
  forbidden = tt;
  unknown = tt;
  malformed = tt;
  settings = record { payload = payload; is = is; fault = at_fault payload e are h };
  complete = tt;
}

-- the other types

reserved_in : (kind : ℕ) → is_reserved_kind kind ≡ true → In kind reserved_kinds
reserved_in kind h =
    elim (or_cases (kind == 2) ((kind == 6) || ((kind == 8) || (kind == 9))) h) [
      | inl a ↦ inl (sym (eqb-true kind 2 a))
      | inr r ↦
          elim (or_cases (kind == 6) ((kind == 8) || (kind == 9)) r) [
            | inl a ↦ inr (inl (sym (eqb-true kind 6 a)))
            | inr s ↦ elim (or_cases (kind == 8) (kind == 9) s) [ inl a ↦ inr (inr (inl (sym (eqb-true kind 8 a)))) | inr a ↦ inr (inr (inr (inl (sym (eqb-true kind 9 a))))) ]
          ]
    ]

-- no type of those that have a meaning
record IsOther (kind : ℕ) : Type 0 where
  not0 : kind ≢ 0
  not1 : kind ≢ 1
  not3 : kind ≢ 3
  not4 : kind ≢ 4
  not5 : kind ≢ 5
  not7 : kind ≢ 7
  not13 : kind ≢ 13

unknown_kind : (kind : ℕ) → IsOther kind → is_reserved_kind kind ≡ false → In kind known_kinds → ⊥
unknown_kind kind o h i =
    let a = or_parts (kind == 2) ((kind == 6) || ((kind == 8) || (kind == 9))) h in
    let b = or_parts (kind == 6) ((kind == 8) || (kind == 9)) a.1 in
    let c = or_parts (kind == 8) (kind == 9) b.1 in
    elim i [
      | inl e ↦ o.not0 (sym e)
      | inr i ↦ elim i [
        | inl e ↦ o.not1 (sym e)
        | inr i ↦ elim i [
          | inl e ↦ o.not3 (sym e)
          | inr i ↦ elim i [
            | inl e ↦ o.not4 (sym e)
            | inr i ↦ elim i [
              | inl e ↦ o.not5 (sym e)
              | inr i ↦ elim i [
                | inl e ↦ o.not7 (sym e)
                | inr i ↦ elim i [
                  | inl e ↦ o.not13 (sym e)
                  | inr i ↦ elim i [
                    | inl e ↦ eqb-false kind 2 a.0 (sym e)
                    | inr i ↦ elim i [
                      | inl e ↦ eqb-false kind 6 b.0 (sym e)
                      | inr i ↦ elim i [ inl e ↦ eqb-false kind 8 c.0 (sym e) | inr i ↦ elim i [ inl e ↦ eqb-false kind 9 c.1 (sym e) | inr away ↦ away ] ]
                    ]
                  ]
                ]
              ]
            ]
          ]
        ]
      ]
    ]

other_read : (bytes payload : List ℕ) (kind : ℕ) → IsOther kind → IsHttpFrame bytes (record { kind = kind; payload = payload }) → WholeFacts (of_other_kind kind) bytes
other_read bytes payload kind o is =
    elim (cases_Bool (is_reserved_kind kind)) [
      | inl t ↦
          rw t (record { found = tt; headers = tt; no_data = tt; forbidden = record { payload = payload; is = is; reserved = reserved_in kind t }; unknown = tt; malformed = tt; settings = tt; complete = tt })
      | inr t ↦
          rw t (record { found = tt; headers = tt; no_data = tt; forbidden = tt; unknown = record { payload = payload; is = is; unknown = unknown_kind kind o t }; malformed = tt; settings = tt; complete = tt })
    ]

with_kind : (bytes payload : List ℕ) (kind n : ℕ) → (kind == n) ≡ true → IsHttpFrame bytes (record { kind = kind; payload = payload }) → IsHttpFrame bytes (record { kind = n; payload = payload })
with_kind bytes payload kind n t is = subst (λ (z : ℕ). IsHttpFrame bytes (record { kind = z; payload = payload })) (eqb-true kind n t) is

whole_read : (bytes payload : List ℕ) (kind : ℕ) → kind ≢ 0 → IsBytes payload → IsHttpFrame bytes (record { kind = kind; payload = payload }) → WholeFacts (whole_frame kind payload) bytes
whole_read bytes payload kind not0 are is =
    elim (cases_Bool (kind == 1)) [
      | inl a ↦ rw a (headers_whole bytes payload (with_kind bytes payload kind 1 a is))
      | inr a ↦
          elim (cases_Bool (kind == 3)) [
            | inl b ↦ rw (a, b) (id_read bytes payload kind CancelPush (varint_at payload) are (cancels (eqb-true kind 3 b) refl) is refl)
            | inr b ↦
                elim (cases_Bool (kind == 4)) [
                  | inl c ↦ rw (a, b, c) (settings_read bytes payload (settings_at payload) are (with_kind bytes payload kind 4 c is) refl)
                  | inr c ↦
                      elim (cases_Bool (kind == 5)) [
                        | inl d ↦ rw (a, b, c, d) (promise_read bytes payload (varint_at payload) are (with_kind bytes payload kind 5 d is) refl)
                        | inr d ↦
                            elim (cases_Bool (kind == 7)) [
                              | inl e ↦ rw (a, b, c, d, e) (id_read bytes payload kind Goaway (varint_at payload) are (goes (eqb-true kind 7 e) refl) is refl)
                              | inr e ↦
                                  elim (cases_Bool (kind == 13)) [
                                    | inl f ↦ rw (a, b, c, d, e, f) (id_read bytes payload kind MaxPushId (varint_at payload) are (limits (eqb-true kind 13 f) refl) is refl)
                                    | inr f ↦
                                        let o : IsOther kind = record {
                                          not0 = not0;
                                          not1 = eqb-false kind 1 a;
                                          not3 = eqb-false kind 3 b;
                                          not4 = eqb-false kind 4 c;
                                          not5 = eqb-false kind 5 d;
                                          not7 = eqb-false kind 7 e;
                                          not13 = eqb-false kind 13 f;
                                        } in
                                        rw (a, b, c, d, e, f) (other_read bytes payload kind o is)
                                  ]
                            ]
                      ]
                ]
          ]
    ]

no_data_len : (r : Result Frame FrameError) (P : ℕ → Type 0) → IfDataLen r (λ n. ⊥) → IfDataLen r P
no_data_len (Ok (DataLen n)) P h = absurd h
no_data_len _ P h = tt

not_incomplete : (r : Result Frame FrameError) (P : Type 0) → IfIncomplete r ⊥ → IfIncomplete r P
not_incomplete (Err (error.Incomplete n)) P h = absurd h
not_incomplete _ P h = tt

of_whole : (bytes : List ℕ) (n : ℕ) (r : Result Frame FrameError) → WholeFacts r (take n bytes) → Facts (r, n) bytes
of_whole bytes n r w = record {
  found = w.found;
  headers = w.headers;
  data_len = no_data_len r (λ m. IsDataHeader (take n bytes) m) w.no_data;
  forbidden = w.forbidden;
  unknown = w.unknown;
  malformed = w.malformed;
  settings = w.settings;
  incomplete = not_incomplete r (HasNoFrame bytes) w.complete;
}

part_bytes : (n : ℕ) (bytes : List ℕ) → IsBytes bytes → IsBytes (take n bytes)
part_bytes n bytes are i =
    elim (cases_lt i n) [
      | inl inside ↦ let e = get_or-take n bytes i 0 inside in omega (arith, are i)
      | inr past ↦ let e = get_or_past (take n bytes) i 0 (omega (arith, length-take n bytes)) in omega arith
    ]

after_facts : (bytes : List ℕ) (p : Pair) → IsBytes bytes → pair_at bytes ≡ Some p → Facts (frame_after p bytes) bytes
after_facts bytes p are h =
    let s = pair_spelled bytes p are h in
    elim (cases_Bool (p.first == 0)) [
      | inl t ↦ rw t (data_facts bytes p.second p.size (data_is bytes p (eqb-true p.first 0 t) s))
      | inr t ↦
          let k = eqb-false p.first 0 t in
          elim (cases_lt (length (drop p.size bytes)) p.second) [
            | inl few ↦
                let u : nat_lt (length (drop p.size bytes)) p.second ≡ true = lt-ltb (length (drop p.size bytes)) p.second few in
                rw (t, u) (incomplete_facts bytes (p.second + 2) (cut_payload bytes p h k few))
            | inr all ↦
                let u : nat_lt (length (drop p.size bytes)) p.second ≡ false = le-ltb (length (drop p.size bytes)) p.second all in
                let payload : List ℕ = take p.second (drop p.size bytes) in
                rw (t, u)
                (of_whole bytes (p.size + p.second) (whole_frame p.first payload)
                (whole_read (take (p.size + p.second) bytes) payload p.first k (part_bytes p.second (drop p.size bytes) (rest_bytes p.size bytes are)) (whole_is bytes p p.first refl s all)))
          ]
    ]

from_facts : (bytes : List ℕ) (r : Option Pair) → IsBytes bytes → pair_at bytes ≡ r → Facts (frame_from r bytes) bytes
from_facts bytes None are h = incomplete_facts bytes (length bytes + 1) (no_pair bytes h)
from_facts bytes (Some p) are h = after_facts bytes p are h

at_facts : (bytes : List ℕ) → IsBytes bytes → Facts (frame_at bytes) bytes
unfolding frame_at
at_facts bytes are = from_facts bytes (pair_at bytes) are refl

-- what the answer tells of the bytes
pub read_facts : (bytes : List ℕ) (r : Result Frame FrameError) (used : ℕ) → IsBytes bytes → IsRead r used (frame_at bytes) → Facts (r, used) bytes
read_facts bytes (Ok f) used are h = subst (λ (z : Result Frame FrameError × ℕ). Facts z bytes) (sym h) (at_facts bytes are)
read_facts bytes (Err error.Memory) used are h = record { found = tt; headers = tt; data_len = tt; forbidden = tt; unknown = tt; malformed = tt; settings = tt; incomplete = tt }
read_facts bytes (Err error.Malformed) used are h = subst (λ (z : Result Frame FrameError × ℕ). Facts z bytes) (sym h) (at_facts bytes are)
read_facts bytes (Err (error.ForbiddenFrame kind)) used are h = subst (λ (z : Result Frame FrameError × ℕ). Facts z bytes) (sym h) (at_facts bytes are)
read_facts bytes (Err (error.UnknownFrame kind)) used are h = subst (λ (z : Result Frame FrameError × ℕ). Facts z bytes) (sym h) (at_facts bytes are)
read_facts bytes (Err error.InvalidFrameValue) used are h = subst (λ (z : Result Frame FrameError × ℕ). Facts z bytes) (sym h) (at_facts bytes are)
read_facts bytes (Err (error.Incomplete n)) used are h = subst (λ (z : Result Frame FrameError × ℕ). Facts z bytes) (sym h) (at_facts bytes are)
read_facts bytes (Err (error.Settings f)) used are h = subst (λ (z : Result Frame FrameError × ℕ). Facts z bytes) (sym h) (at_facts bytes are)
read_facts bytes (Err (error.InvalidStreamId id)) used are h = subst (λ (z : Result Frame FrameError × ℕ). Facts z bytes) (sym h) (at_facts bytes are)
read_facts bytes (Err (error.InvalidPushId id)) used are h = subst (λ (z : Result Frame FrameError × ℕ). Facts z bytes) (sym h) (at_facts bytes are)

-- a SETTINGS frame in front is read as what its payload tells
settings_in_front : (bytes : List ℕ) (k : ℕ) (payload : List ℕ) → IsBytes bytes → IsHttpFrame (take k bytes) (record { kind = 4; payload = payload })
    → IsBytes payload × ((frame_at bytes).0 ≡ with_settings (settings_at payload))
unfolding frame_at
settings_in_front bytes k payload are is =
    let size : ℕ = length is.kind_bytes + length is.length_bytes in
    let r = frame_pair bytes k (record { kind = 4; payload = payload }) is in
    let there : length payload ≤ length (drop size bytes) = (let l = ap length r.1 in let sum = length-append payload (drop k bytes) in omega arith) in
    let all : nat_lt (length (drop size bytes)) (length payload) ≡ false = le-ltb (length (drop size bytes)) (length payload) there in
    let whole : take (length payload) (drop size bytes) ≡ payload = ap (take (length payload)) r.1 ∙ take_at payload (drop k bytes) (length payload) refl in (
      subst IsBytes whole (part_bytes (length payload) (drop size bytes) (rest_bytes size bytes are)),
      ap (λ (z : Option Pair). (frame_from z bytes).0) r.0 ∙ rw all (ap (λ (z : List ℕ). with_settings (settings_at z)) whole),
    )

-- so want of memory stands for no fault of settings
pub sound_settings : (bytes : List ℕ) (r : Result Frame FrameError) (used : ℕ) → IsBytes bytes → IsRead r used (frame_at bytes) → IsErrOf r error.Memory → HasSoundSettings bytes
sound_settings bytes r used are read memory k payload is e fault =
    let told : TakesMemory (frame_at bytes).0 = (subst (λ (z : Result Frame FrameError). IsRead z used (frame_at bytes)) memory read).1 in
    let front = settings_in_front bytes k payload are is in
    subst TakesMemory (front.1 ∙ ap with_settings (fault_read payload e front.0 fault)) told
