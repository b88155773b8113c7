-- What stands behind each keyword.
use Rattle.std.proofs.Common.{◌≡◌, ℕ, ◌+◌, ◌^◌, ◌<◌, ◌≤◌, List, ◌++◌, codes, decimal, bytes_eq, if◌then◌else◌, Option, Some, None, refl, sym, ap, subst, ◌∙◌, arith}
use Rattle.qh_spec.specs.declared.script.Setting.{Setting}
use Rattle.qh_spec.specs.declared.script.Setting.TheVariants.{Section, RequestBody, Response, Cap, Bidi, Window, Idle, Rtt, Rounds, Step}
use Rattle.qh_spec.specs.declared.link.Upset.{Upset}
use Rattle.http_header.specs.Token.{IsToken, lowercase}
use Rattle.http_uri.specs.Grammar.{IsUriText}
use Rattle.qh_spec.specs.Message.{PlainTarget}
use Rattle.qh_spec.specs.ScriptLine as says
use Rattle.qh_spec.specs.ScriptLine.{Line, IsNamedValue, IsUpset, lose, twice, late, fail, forge, Says, request, field, trailer, body, fill, set, retry, grease, disturb, setting_bound}
use Rattle.qh_script.specs.declared.line.keywords.UpsetKind.{UpsetKind}
use Rattle.qh_script.specs.declared.line.keywords.UpsetKind.TheVariants as upset
use Rattle.qh_script.specs.declared.line.keywords.Keyword.{Keyword}
use Rattle.qh_script.specs.declared.line.keywords.Keyword.TheVariants.{Request, Field, Trailer, Body, Fill, Set, Retry, Grease, Disturb}
use Rattle.qh_script.specs.declared.line.Disturbance.{Disturbance}
use Rattle.qh_script.specs.declared.line.Line.TheVariants as line
use Rattle.qh_script.specs.Line.{HasNoSpace, SplitsFirst, IsNamed, IsNumber, Means, MeansUpset, Tells, keyword_word, upset_word}
use Rattle.qh_script.proofs.Spaces.{no_space_literal}

-- METHOD TARGET
pub record IsAsked (text : List ℕ) : Type 0 where
  pub method : List ℕ
  pub uri : List ℕ
  pub target : PlainTarget
  pub is : text ≡ method ++ (codes " " ++ uri)
  pub method_is : IsToken method
  pub uri_is : IsUriText uri target.scheme target.authority target.path_and_query

abbrev pub Argument : Keyword → List ℕ → Type 0
Argument Request text = IsAsked text
Argument Field text = (name : List ℕ) × (value : List ℕ) × IsNamedValue text name value
Argument Trailer text = (name : List ℕ) × (value : List ℕ) × IsNamedValue text name value
Argument Body text = Unit {0}
Argument Fill text = (n : ℕ) × (text ≡ decimal n) × (n ≤ 2 ^ 30)
Argument (Set x) text = (n : ℕ) × (text ≡ decimal n) × (n < setting_bound x)
Argument Retry text = text ≡ codes "on"
Argument Grease text = text ≡ codes "off"
Argument (Disturb kind) text = (u : Upset) × IsUpset (upset_word kind) text u

upset_said : (word text : List ℕ) (u : Upset) → IsUpset word text u → (kind : UpsetKind) × (word ≡ upset_word kind) × ((v : Upset) × IsUpset (upset_word kind) text v)
upset_said word text _ (lose which w s) = (upset.Lose, w, (_, lose which refl s))
upset_said word text _ (twice which w s) = (upset.Twice, w, (_, twice which refl s))
upset_said word text _ (late select which n w t s l m) = (upset.Late, w, (_, late select which n refl t s l m))
upset_said word text _ (fail k w t l m) = (upset.Fail, w, (_, fail k refl t l m))
upset_said word text _ (forge round side hex bytes w t l m h a b) = (upset.Forge, w, (_, forge round side hex bytes refl t l m h a b))

said : (word text : List ℕ) (l : Line) → Says word text l → (k : Keyword) × (word ≡ keyword_word k) × Argument k text
said word text _ (request method uri target w t m u) = (Request, w, record { method = method; uri = uri; target = target; is = t; method_is = m; uri_is = u })
said word text _ (field name value w n) = (Field, w, (name, value, n))
said word text _ (trailer name value w n) = (Trailer, w, (name, value, n))
said word text _ (body w) = (Body, w, tt)
said word text _ (fill n w t m) = (Fill, w, (n, t, m))
said word text _ (set x n w t m) = (Set x, w, (n, t, m))
said word text _ (retry w t) = (Retry, w, t)
said word text _ (grease w t) = (Grease, w, t)
said word text _ (disturb u s) = let k = upset_said word text u s in (Disturb k.0, k.1, k.2)

-- a word is of one keyword
keyword_at : List ℕ → Option Keyword
keyword_at w =
    if bytes_eq w (codes "request") then Some Request
    else (if bytes_eq w (codes "field") then Some Field
    else (if bytes_eq w (codes "trailer") then Some Trailer
    else (if bytes_eq w (codes "body") then Some Body
    else (if bytes_eq w (codes "fill") then Some Fill
    else (if bytes_eq w (codes "retry") then Some Retry
    else (if bytes_eq w (codes "grease") then Some Grease
    else (if bytes_eq w (codes "section") then Some (Set Section)
    else (if bytes_eq w (codes "requestbody") then Some (Set RequestBody)
    else (if bytes_eq w (codes "response") then Some (Set Response)
    else (if bytes_eq w (codes "cap") then Some (Set Cap)
    else (if bytes_eq w (codes "bidi") then Some (Set Bidi)
    else (if bytes_eq w (codes "window") then Some (Set Window)
    else (if bytes_eq w (codes "idle") then Some (Set Idle)
    else (if bytes_eq w (codes "rtt") then Some (Set Rtt)
    else (if bytes_eq w (codes "rounds") then Some (Set Rounds)
    else (if bytes_eq w (codes "step") then Some (Set Step)
    else (if bytes_eq w (codes "drop") then Some (Disturb upset.Lose)
    else (if bytes_eq w (codes "twice") then Some (Disturb upset.Twice)
    else (if bytes_eq w (codes "late") then Some (Disturb upset.Late)
    else (if bytes_eq w (codes "fail") then Some (Disturb upset.Fail)
    else (if bytes_eq w (codes "forge") then Some (Disturb upset.Forge)
    else None)))))))))))))))))))))

at_word : (k : Keyword) → keyword_at (keyword_word k) ≡ Some k
unfolding keyword_at
at_word Request = refl
at_word Field = refl
at_word Trailer = refl
at_word Body = refl
at_word Fill = refl
at_word Retry = refl
at_word Grease = refl
at_word (Set Section) = refl
at_word (Set RequestBody) = refl
at_word (Set Response) = refl
at_word (Set Cap) = refl
at_word (Set Bidi) = refl
at_word (Set Window) = refl
at_word (Set Idle) = refl
at_word (Set Rtt) = refl
at_word (Set Rounds) = refl
at_word (Set Step) = refl
at_word (Disturb upset.Lose) = refl
at_word (Disturb upset.Twice) = refl
at_word (Disturb upset.Late) = refl
at_word (Disturb upset.Fail) = refl
at_word (Disturb upset.Forge) = refl

pub one_keyword : (j k : Keyword) → keyword_word j ≡ keyword_word k → j ≡ k
one_keyword j k e = let some : Some j ≡ Some k = sym (at_word j) ∙ ap keyword_at e ∙ at_word k in cc

pub argument : (k : Keyword) (text : List ℕ) (l : Line) → Says (keyword_word k) text l → Argument k text
argument k text l s =
    let a = said (keyword_word k) text l s in
    subst (λ (j : Keyword). Argument j text) (one_keyword a.0 k (sym a.1)) a.2

-- and words have no space
keyword_no_space : (k : Keyword) → HasNoSpace (keyword_word k)
keyword_no_space Request = no_space_literal (codes "request") refl
keyword_no_space Field = no_space_literal (codes "field") refl
keyword_no_space Trailer = no_space_literal (codes "trailer") refl
keyword_no_space Body = no_space_literal (codes "body") refl
keyword_no_space Fill = no_space_literal (codes "fill") refl
keyword_no_space Retry = no_space_literal (codes "retry") refl
keyword_no_space Grease = no_space_literal (codes "grease") refl
keyword_no_space (Set Section) = no_space_literal (codes "section") refl
keyword_no_space (Set RequestBody) = no_space_literal (codes "requestbody") refl
keyword_no_space (Set Response) = no_space_literal (codes "response") refl
keyword_no_space (Set Cap) = no_space_literal (codes "cap") refl
keyword_no_space (Set Bidi) = no_space_literal (codes "bidi") refl
keyword_no_space (Set Window) = no_space_literal (codes "window") refl
keyword_no_space (Set Idle) = no_space_literal (codes "idle") refl
keyword_no_space (Set Rtt) = no_space_literal (codes "rtt") refl
keyword_no_space (Set Rounds) = no_space_literal (codes "rounds") refl
keyword_no_space (Set Step) = no_space_literal (codes "step") refl
keyword_no_space (Disturb upset.Lose) = no_space_literal (codes "drop") refl
keyword_no_space (Disturb upset.Twice) = no_space_literal (codes "twice") refl
keyword_no_space (Disturb upset.Late) = no_space_literal (codes "late") refl
keyword_no_space (Disturb upset.Fail) = no_space_literal (codes "fail") refl
keyword_no_space (Disturb upset.Forge) = no_space_literal (codes "forge") refl

-- the keyword of a word that says something
pub keyword_said : (word text : List ℕ) (l : Line) → Says word text l → (k : Keyword) × (word ≡ keyword_word k)
keyword_said word text l s = let a = said word text l s in (a.0, a.1)

pub word_no_space : (word text : List ℕ) (l : Line) → Says word text l → HasNoSpace word
word_no_space word text l s = let a = said word text l s in rw (a.1) (keyword_no_space a.0)

-- what is refused behind each keyword
pub no_request : (text : List ℕ) → (IsAsked text → ⊥) → (l : Line) → Says (codes "request") text l → ⊥
no_request text h l s = h (argument Request text l s)

pub no_field : (text : List ℕ) → ((name value : List ℕ) → IsNamedValue text name value → ⊥) → (l : Line) → Says (codes "field") text l → ⊥
no_field text h l s = let a = argument Field text l s in h a.0 a.1 a.2

pub no_trailer : (text : List ℕ) → ((name value : List ℕ) → IsNamedValue text name value → ⊥) → (l : Line) → Says (codes "trailer") text l → ⊥
no_trailer text h l s = let a = argument Trailer text l s in h a.0 a.1 a.2

pub no_fill : (text : List ℕ) → ((n : ℕ) → IsNumber text n → n < 2 ^ 30 + 1 → ⊥) → (l : Line) → Says (codes "fill") text l → ⊥
no_fill text h l s = let a = argument Fill text l s in h a.0 (a.1, omega (arith, a.2)) (omega (arith, a.2))

setting_fits : (x : Setting) → setting_bound x ≤ 2 ^ 63
setting_fits Section = omega arith
setting_fits RequestBody = omega arith
setting_fits Response = omega arith
setting_fits Cap = omega arith
setting_fits Bidi = omega arith
setting_fits Window = omega arith
setting_fits Idle = omega arith
setting_fits Rtt = omega arith
setting_fits Rounds = omega arith
setting_fits Step = omega arith

pub no_setting : (x : Setting) (text : List ℕ) → ((n : ℕ) → IsNumber text n → n < setting_bound x → ⊥) → (l : Line) → Says (keyword_word (Set x)) text l → ⊥
no_setting x text h l s =
    let a = argument (Set x) text l s in
    let low : a.0 < setting_bound x = a.2 in
    h a.0 (a.1, omega (arith, low, setting_fits x)) low

pub no_disturb : (kind : UpsetKind) (text : List ℕ) → ((u : Upset) → IsUpset (upset_word kind) text u → ⊥) → (l : Line) → Says (keyword_word (Disturb kind)) text l → ⊥
no_disturb kind text h l s = let a = argument (Disturb kind) text l s in h a.0 a.1

pub no_retry : (text : List ℕ) → (text ≡ codes "on" → ⊥) → (l : Line) → Says (codes "retry") text l → ⊥
no_retry text h l s = h (argument Retry text l s)

pub no_grease : (text : List ℕ) → (text ≡ codes "off" → ⊥) → (l : Line) → Says (codes "grease") text l → ⊥
no_grease text h l s = h (argument Grease text l s)

-- what is said
pub request_only : (text method uri : List ℕ) → SplitsFirst text method uri → (l : Line)
    → (target : PlainTarget) × IsToken method × IsUriText uri target.scheme target.authority target.path_and_query × (l ≡ says.Request method target)
    → Says (codes "request") text l
request_only text method uri split l (target, token, is, e) = rw e (request method uri target refl split.0 token is)

pub field_only : (text name value : List ℕ) → IsNamedValue text name value → (l : Line) → IsNamed name value × (l ≡ says.Field (lowercase name) value)
    → Says (codes "field") text l
field_only text name value n l (m, e) = rw e (field name value refl n)

pub trailer_only : (text name value : List ℕ) → IsNamedValue text name value → (l : Line) → IsNamed name value × (l ≡ says.Trailer (lowercase name) value)
    → Says (codes "trailer") text l
trailer_only text name value n l (m, e) = rw e (trailer name value refl n)

pub named : (text name value : List ℕ) → IsNamedValue text name value → IsNamed name value
named text name value n = record { name_is = n.name_is; value_is = n.value_is; some = n.some }

pub disturb_tells : (word text : List ℕ) (d : Disturbance) → Tells MeansUpset (IsUpset word text) d → Tells Means (Says word text) (line.Disturb d)
disturb_tells word text d t = record {
  meant = says.Disturb t.meant;
  is = (t.meant, t.is, refl);
  only = λ l h. rw h.2 (disturb h.0 (t.only h.0 h.1));
}
