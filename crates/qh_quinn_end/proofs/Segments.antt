-- The datagrams of a message, one after another.
use Rattle.std.proofs.Common.{◌≡◌, ◌≢◌, ◌≤◌, ◌<◌, ℕ, ◌-◌, ◌==◌, zero, suc, Bool, true, false, true≢false, List, [], ◌∷◌, ◌++◌, length, take, drop, min, take-append-drop, length-take, length-drop, append_assoc, inl, inr, refl, sym, ap, ◌∙◌, subst, arith}
use Rattle.std.proofs.lemmas.List.{drop_all}
use Rattle.std.proofs.lemmas.Bool.{cases_lt, eqb-true}
use Rattle.qh_base.specs.declared.path.FourTuple.{FourTuple}
use Rattle.qh_base.specs.declared.path.Transmit.{Transmit}
use Rattle.qh_base.specs.declared.time.Moment.{Moment}
use Rattle.qh_endpoint.specs.Endpoint.{PlainEndpoint}
use Rattle.qh_endpoint.specs.declared.incoming.Incoming.{Incoming}
use Rattle.qh_quinn_end.specs.Receiving.{AreBrought, AreSegments, IsBrought, IsRefused, IsResponse, KitView, PlainInbox, PlainOutlet}

-- ---- how a message is cut

-- what was cut off, and what is left, as one list more of a message's datagrams
abbrev pub GoesOn : (stride : ℕ) (message left : List ℕ) (done : List (List ℕ)) → Type 0
GoesOn stride message left done = (others : List (List ℕ)) → AreSegments stride left others → AreSegments stride message (done ++ others)

some_taken : (n : ℕ) (bytes : List ℕ) → 0 < n → bytes ≢ [] → take n bytes ≢ []
some_taken zero bytes pos some e = absurd (omega arith)
some_taken (suc n) [] pos some e = some refl
some_taken (suc n) (b ∷ bs) pos some e = let h = ap length e in absurd (omega arith)

full : (stride n : ℕ) (left : List ℕ) → n ≡ min stride (length left) → drop n left ≢ [] → n ≡ stride
full stride n left is rest = elim (cases_lt n stride) [
  | inl less ↦ absurd (rest (drop_all n left (omega arith)))
  | inr whole ↦ omega arith
]

pub first_of : (stride n : ℕ) (left : List ℕ) → 0 < stride → left ≢ [] → n ≡ min stride (length left) → (others : List (List ℕ)) → AreSegments stride (drop n left) others → AreSegments stride left (take n left ∷ others)
first_of stride n [] pos some is others rest = absurd (some refl)
first_of stride n (b ∷ bs) pos some is others rest =
    let l : List ℕ = b ∷ bs in
    let long : 0 < length l = omega arith in
    let size : length (take n l) ≡ min n (length l) = length-take n l in
    subst (λ (z : List ℕ). AreSegments stride z (take n l ∷ others)) (take-append-drop n l)
    (AreSegments.more (take n l) (drop n l) others (some_taken n l (omega arith) some) (omega arith) (λ more. let w = full stride n l is more in omega arith) rest)

pub goes_on : (stride n : ℕ) (message left : List ℕ) (done : List (List ℕ)) → 0 < stride → left ≢ [] → n ≡ min stride (length left) → GoesOn stride message left done → GoesOn stride message (drop n left) (done ++ take n left ∷ [])
goes_on stride n message left done pos some is on others rest =
    subst (λ (z : List (List ℕ)). AreSegments stride message z) (sym (append_assoc done (take n left ∷ []) others)) (on (take n left ∷ others) (first_of stride n left pos some is others rest))

-- every message has datagrams, if they have bytes
abbrev pub AreSome : (stride : ℕ) → List ℕ → Type 0
AreSome stride left = (others : List (List ℕ)) × AreSegments stride left others × (left ≢ [] → others ≢ [])

some_within : (fuel stride : ℕ) (left : List ℕ) → 0 < stride → length left ≤ fuel → AreSome stride left
some_within fuel stride [] pos small = ([], AreSegments.none, λ some. absurd (some refl))
some_within zero stride (b ∷ bs) pos small = absurd (omega arith)
some_within (suc fuel) stride (b ∷ bs) pos small =
    let l : List ℕ = b ∷ bs in
    let n = min stride (length l) in
    let shorter : length (drop n l) ≤ fuel = (let h : length (drop n l) ≡ length l - n = length-drop n l in omega arith) in
    let rest = some_within fuel stride (drop n l) pos shorter in
    (take n l ∷ rest.0, first_of stride n l pos (λ e. let h = ap length e in omega arith) refl rest.0 rest.1, λ some none. let h = ap length none in omega arith)

pub some_of : (stride : ℕ) (left : List ℕ) → 0 < stride → AreSome stride left
some_of stride left pos = some_within (length left) stride left pos (omega arith)

-- ---- what they bring

-- a socket that never blocks doesn't later, so what is said under the later one is said under the first
response_under : {A B : Type 0} (f : A → B) (transmit : Transmit) (bytes : List ℕ) (was is : PlainOutlet) (old new : PlainInbox) → IsResponse B transmit bytes was is old new → IsResponse A transmit bytes was is old new
response_under f transmit bytes was is old new (IsResponse.sent a b c) = IsResponse.sent a b c
response_under f transmit bytes was is old new (IsResponse.failed a b c) = IsResponse.failed a b c
response_under f transmit bytes was is old new (IsResponse.blocked never a b c) = IsResponse.blocked (λ x. never (f x)) a b c
response_under f transmit bytes was is old new (IsResponse.wanting a b c) = IsResponse.wanting a b c

module _ {K G R T S : Type 0} (v : KitView G R T S) {A B : Type 0} (f : A → B) where
  refused_under : (i : Incoming) (old new : PlainEndpoint K G R T) (was is : PlainOutlet) (before after : PlainInbox) → IsRefused v B i old new was is before after → IsRefused v A i old new was is before after
  refused_under i old new was is before after h = record {
    attempt = h.attempt;
    mid = h.mid;
    left = h.left;
    written = h.written;
    told = elim h.told [ inl t ↦ inl (t.0, response_under f _ h.written was is before after t.1) | inr t ↦ inr t ];
  }

  pub brought_under : (is_closed : Bool) (now : Moment) (addresses : FourTuple) (datagram : List ℕ) (old new : PlainEndpoint K G R T) (was is : PlainOutlet) (before after : PlainInbox)
      → IsBrought v B is_closed now addresses datagram old new was is before after → IsBrought v A is_closed now addresses datagram old new was is before after
  brought_under is_closed now addresses datagram old new was is before after (IsBrought.connection handle e written a b c) = IsBrought.connection handle e written a b c
  brought_under is_closed now addresses datagram old new was is before after (IsBrought.attempt opened i written a b c) = IsBrought.attempt opened i written a b c
  brought_under is_closed now addresses datagram old new was is before after (IsBrought.refused closed i mid written a b) = IsBrought.refused closed i mid written a (refused_under i mid new was is before after b)
  brought_under is_closed now addresses datagram old new was is before after (IsBrought.response t written a b) = IsBrought.response t written a (response_under f t written was is before after b)
  brought_under is_closed now addresses datagram old new was is before after (IsBrought.nothing written a b c) = IsBrought.nothing written a b c

module _ {K G R T S : Type 0} (v : KitView G R T S) (never_blocks : Type 0) (is_closed : Bool) (now : Moment) (addresses : FourTuple) where
  -- one more behind the others
  pub brought_then : (ds : List (List ℕ)) (d : List ℕ) (old mid new : PlainEndpoint K G R T) (was out is : PlainOutlet) (before box after : PlainInbox) → AreBrought v never_blocks is_closed now addresses ds old mid was out before box
      → IsBrought v never_blocks is_closed now addresses d mid new out is box after → AreBrought v never_blocks is_closed now addresses (ds ++ d ∷ []) old new was is before after
  brought_then [] d old mid new was out is before box after h last =
      (new, is, after, rw (sym h.0, sym h.1, sym h.2) last, (refl, refl, refl))
  brought_then (e ∷ es) d old mid new was out is before box after h last =
      (h.0, h.1, h.2, h.3, brought_then es d h.0 mid new h.1 out is h.2 box after h.4 last)

-- ---- what tests say

pub positive : (n : ℕ) → n ≢ 0 → 0 < n
positive zero not0 = absurd (not0 refl)
positive (suc n) not0 = omega arith

pub some_left : (b : Bool) (left : List ℕ) → b ≡ (length left == 0) → b ≡ false → left ≢ []
some_left b [] is e none = absurd (true≢false (sym is ∙ e))
some_left b (x ∷ xs) is e none = let h = ap length none in absurd (omega arith)

pub none_left : (b : Bool) (left : List ℕ) → b ≡ (length left == 0) → b ≡ true → left ≡ []
none_left b [] is e = refl
none_left b (x ∷ xs) is e = let h : length (x ∷ xs) ≡ 0 = eqb-true (length (x ∷ xs)) 0 (sym is ∙ e) in absurd (omega arith)
