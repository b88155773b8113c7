-- The lines of a script (own): a word and what stands behind it, parted by one space.
use Rattle.std.specs.Prelude.{◌≡◌, ℕ, ◌^◌, ◌<◌, ◌≤◌, List, [], ◌++◌, length, codes, decimal}
use Rattle.http_header.specs.Token.{IsToken, lowercase}
use Rattle.http_header.specs.FieldName.{IsFieldName}
use Rattle.http_header.specs.FieldValue.{IsFieldValue}
use Rattle.http_uri.specs.Grammar.{IsUriText}
use Rattle.qh_spec.specs.declared.sides.Side.{Side}
use Rattle.qh_spec.specs.declared.sides.Side.TheVariants.{Client, Server}
use Rattle.qh_spec.specs.declared.link.Select.{Select}
use Rattle.qh_spec.specs.declared.link.Select.TheVariants.{One, All, Each}
use Rattle.qh_spec.specs.declared.link.Upset.{Upset}
use Rattle.qh_spec.specs.declared.link.Upset.TheVariants.{Lose, Twice, Late, Fail, Forge}
use Rattle.qh_spec.specs.declared.script.Setting.{Setting}
use Rattle.qh_spec.specs.declared.script.Setting.TheVariants.{Section, RequestBody, Response, Cap, Bidi, Window, Idle, Rtt, Rounds, Step}
use Rattle.qh_spec.specs.Lines.{IsHex}
use Rattle.qh_spec.specs.Message.{PlainTarget}

-- what a line says
pub data Line : Type 0 where
  Empty : Line
  -- begins a request
  Request : (method : List ℕ) (target : PlainTarget) → Line
  -- adds to the last request, the name in lower case
  Field : (name value : List ℕ) → Line
  Trailer : (name value : List ℕ) → Line
  -- the last request's body: these bytes, or so many
  Body : (text : List ℕ) → Line
  Fill : (n : ℕ) → Line
  Set : (setting : Setting) (n : ℕ) → Line
  RetryOn : Line
  GreaseOff : Line
  Disturb : (upset : Upset) → Line

-- the word of a setting
abbrev pub setting_word : Setting → List ℕ
setting_word Section = codes "section"
setting_word RequestBody = codes "requestbody"
setting_word Response = codes "response"
setting_word Cap = codes "cap"
setting_word Bidi = codes "bidi"
setting_word Window = codes "window"
setting_word Idle = codes "idle"
setting_word Rtt = codes "rtt"
setting_word Rounds = codes "rounds"
setting_word Step = codes "step"

-- what its number lies below
abbrev pub setting_bound : Setting → ℕ
setting_bound Rounds = 2 ^ 48
setting_bound Step = 10001
setting_bound _ = 2 ^ 63

-- which sends: a number, `all`, or `each` and a number
pub data IsSelect (text : List ℕ) : Select → Type 0 where
  one : (k : ℕ) → text ≡ decimal k → 1 ≤ k → k < 2 ^ 63 → IsSelect text (One k)
  all : text ≡ codes "all" → IsSelect text All
  each : (m : ℕ) → text ≡ codes "each " ++ decimal m → 1 ≤ m → m < 2 ^ 63 → IsSelect text (Each m)

abbrev pub side_word : Side → List ℕ
side_word Client = codes "client"
side_word Server = codes "server"

-- NAME VALUE: a field's name, and a value that isn't empty
pub record IsNamedValue (text name value : List ℕ) : Type 0 where
  pub is : text ≡ name ++ (codes " " ++ value)
  pub name_is : IsFieldName name
  pub value_is : IsFieldValue value
  pub some : 0 < length value

-- what a word and the text behind it ask the link to do
pub data IsUpset (word text : List ℕ) : Upset → Type 0 where
  lose : (which : Select) → word ≡ codes "drop" → IsSelect text which → IsUpset word text (Lose which)
  twice : (which : Select) → word ≡ codes "twice" → IsSelect text which → IsUpset word text (Twice which)
  late : (select : List ℕ) (which : Select) (n : ℕ) → word ≡ codes "late" → text ≡ select ++ (codes " " ++ decimal n)
      → IsSelect select which → 1 ≤ n → n ≤ 1000 → IsUpset word text (Late which n)
  fail : (k : ℕ) → word ≡ codes "fail" → text ≡ decimal k → 1 ≤ k → k < 2 ^ 63 → IsUpset word text (Fail k)
  forge : (round : ℕ) (side : Side) (hex bytes : List ℕ) → word ≡ codes "forge"
      → text ≡ decimal round ++ (codes " " ++ (side_word side ++ (codes " " ++ hex)))
      → 1 ≤ round → round < 2 ^ 63 → IsHex hex bytes → 1 ≤ length bytes → length bytes ≤ 2048 → IsUpset word text (Forge round side bytes)

-- what a word and the text behind it say
pub data Says (word text : List ℕ) : Line → Type 0 where
  request : (method uri : List ℕ) (target : PlainTarget) → word ≡ codes "request" → text ≡ method ++ (codes " " ++ uri) → IsToken method
      → IsUriText uri target.scheme target.authority target.path_and_query → Says word text (Request method target)
  field : (name value : List ℕ) → word ≡ codes "field" → IsNamedValue text name value → Says word text (Field (lowercase name) value)
  trailer : (name value : List ℕ) → word ≡ codes "trailer" → IsNamedValue text name value → Says word text (Trailer (lowercase name) value)
  body : word ≡ codes "body" → Says word text (Body text)
  fill : (n : ℕ) → word ≡ codes "fill" → text ≡ decimal n → n ≤ 2 ^ 30 → Says word text (Fill n)
  set : (x : Setting) (n : ℕ) → word ≡ setting_word x → text ≡ decimal n → n < setting_bound x → Says word text (Set x n)
  retry : word ≡ codes "retry" → text ≡ codes "on" → Says word text RetryOn
  grease : word ≡ codes "grease" → text ≡ codes "off" → Says word text GreaseOff
  disturb : (u : Upset) → IsUpset word text u → Says word text (Disturb u)

-- the text is a line that says this: it is empty, or a word, a space and a text
pub data IsLine (text : List ℕ) : Line → Type 0 where
  empty : text ≡ [] → IsLine text Empty
  worded : (word behind : List ℕ) (l : Line) → text ≡ word ++ (codes " " ++ behind) → Says word behind l → IsLine text l
