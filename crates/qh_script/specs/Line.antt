-- What contracts see of a line that was read.
use Rattle.std.specs.Prelude.{◌≡◌, ◌≢◌, ◌↔◌, ℕ, ◌+◌, ◌*◌, ◌<◌, ◌≤◌, ◌^◌, List, [], ◌∷◌, ◌++◌, length, codes, decimal}
use Rattle.http_header.specs.Token.{IsToken, lowercase}
use Rattle.http_header.specs.FieldName.{IsFieldName}
use Rattle.http_header.specs.FieldValue.{IsFieldValue}
use Rattle.http_uri.specs.Grammar.{IsUriText}
use Rattle.qh_spec.specs.Message.{PlainTarget}
use Rattle.qh_spec.specs.Lines.{IsHex, IsHexDigit}
use Rattle.qh_spec.specs.ScriptLine as says
use Rattle.qh_spec.specs.ScriptLine.{Line as PlainLine, IsLine, IsSelect, setting_word, side_word}
use Rattle.qh_spec.specs.declared.link.Select.{Select}
use Rattle.qh_spec.specs.declared.link.Upset.{Upset}
use Rattle.qh_spec.specs.declared.link.Upset.TheVariants as does
use Rattle.qh_spec.specs.declared.sides.Side.{Side}
use Rattle.qh_script.specs.declared.line.Line.{Line}
use Rattle.qh_script.specs.declared.line.Line.TheVariants.{Empty, Request, Field, Trailer, Body, Fill, Set, RetryOn, GreaseOff, Disturb}
use Rattle.qh_script.specs.declared.line.Disturbance.{Disturbance}
use Rattle.qh_script.specs.declared.line.Disturbance.TheVariants.{Lose, Twice, Late, Fail, Forge}
use Rattle.qh_script.specs.declared.line.keywords.UpsetKind.{UpsetKind}
use Rattle.qh_script.specs.declared.line.keywords.UpsetKind.TheVariants as upset
use Rattle.qh_script.specs.declared.line.keywords.Keyword.{Keyword}
use Rattle.qh_script.specs.declared.line.keywords.Keyword.TheVariants as key

-- the text has two digits for each of some bytes
abbrev pub HasBytes : List ℕ → Type 0
HasBytes text = (bytes : List ℕ) × IsHex text bytes

-- the same of 1 to 2,048 bytes
pub record AreForged (hex bytes : List ℕ) : Type 0 where
  pub is : IsHex hex bytes
  pub from : 1 ≤ length bytes
  pub to : length bytes ≤ 2048

abbrev pub IsForgeable : List ℕ → Type 0
IsForgeable hex = (bytes : List ℕ) × AreForged hex bytes

-- What is asked of the link stands for this: a text in hexadecimal for its bytes.
abbrev pub MeansUpset : Disturbance → Upset → Type 0
MeansUpset (Lose which) u = u ≡ does.Lose which
MeansUpset (Twice which) u = u ≡ does.Twice which
MeansUpset (Late which n) u = u ≡ does.Late which n
MeansUpset (Fail k) u = u ≡ does.Fail k
MeansUpset (Forge round side hex) u = (bytes : List ℕ) × AreForged hex.now bytes × (u ≡ does.Forge round side bytes)

-- it stands for something
abbrev pub HasUpset : Disturbance → Type 0
HasUpset d = (u : Upset) × MeansUpset d u

-- a name and a value that isn't empty
pub record IsNamed (name value : List ℕ) : Type 0 where
  pub name_is : IsFieldName name
  pub value_is : IsFieldValue value
  pub some : 0 < length value

-- The line stands for this: a URI for its parts, a field's name for its lower case.
abbrev pub Means : Line → PlainLine → Type 0
Means Empty l = l ≡ says.Empty
Means (Request method uri) l =
    (target : PlainTarget) × IsToken method.now × IsUriText uri.now target.scheme target.authority target.path_and_query × (l ≡ says.Request method.now target)
Means (Field name value) l = IsNamed name.now value.now × (l ≡ says.Field (lowercase name.now) value.now)
Means (Trailer name value) l = IsNamed name.now value.now × (l ≡ says.Trailer (lowercase name.now) value.now)
Means (Body text) l = l ≡ says.Body text.now
Means (Fill n) l = l ≡ says.Fill n
Means (Set setting n) l = l ≡ says.Set setting n
Means RetryOn l = l ≡ says.RetryOn
Means GreaseOff l = l ≡ says.GreaseOff
Means (Disturb d) l = (u : Upset) × MeansUpset d u × (l ≡ says.Disturb u)

-- the line stands for something
abbrev pub HasMeaning : Line → Type 0
HasMeaning line = (l : PlainLine) × Means line l

-- What was read stands for something, and for nothing but what is said.
pub record Tells {A B : Type 0} (means : A → B → Type 0) (said : B → Type 0) (a : A) : Type 0 where
  pub meant : B
  pub is : means a meant
  pub only : (b : B) → means a b → said b

-- The line that was read of the text stands for something, and for that alone which the text says.
pub record StandsFor (text : List ℕ) (line : Line) : Type 0 where
  pub some : HasMeaning line
  pub exact : (l : PlainLine) → IsLine text l ↔ Means line l

-- no byte is a space
abbrev pub HasNoSpace : List ℕ → Type 0
HasNoSpace [] = Unit {0}
HasNoSpace (b ∷ bs) = (b ≢ 32) × HasNoSpace bs

-- what stands before and behind the first space, and the last
abbrev pub SplitsFirst : List ℕ → List ℕ → List ℕ → Type 0
SplitsFirst text front back = (text ≡ front ++ (codes " " ++ back)) × HasNoSpace front

abbrev pub SplitsLast : List ℕ → List ℕ → List ℕ → Type 0
SplitsLast text front back = (text ≡ front ++ (codes " " ++ back)) × HasNoSpace back

-- the text is this number, and no number
abbrev pub IsNumber : List ℕ → ℕ → Type 0
IsNumber text n = (text ≡ decimal n) × (n < 2 ^ 64)

abbrev pub IsNoNumber : List ℕ → Type 0
IsNoNumber text = (n : ℕ) → n < 2 ^ 64 → text ≢ decimal n

-- the words that ask something of the link, and all that begin a line
abbrev pub upset_word : UpsetKind → List ℕ
upset_word upset.Lose = codes "drop"
upset_word upset.Twice = codes "twice"
upset_word upset.Late = codes "late"
upset_word upset.Fail = codes "fail"
upset_word upset.Forge = codes "forge"

abbrev pub keyword_word : Keyword → List ℕ
keyword_word key.Request = codes "request"
keyword_word key.Field = codes "field"
keyword_word key.Trailer = codes "trailer"
keyword_word key.Body = codes "body"
keyword_word key.Fill = codes "fill"
keyword_word (key.Set x) = setting_word x
keyword_word key.Retry = codes "retry"
keyword_word key.Grease = codes "grease"
keyword_word (key.Disturb kind) = upset_word kind

-- the text is no number from 1 on, below 2 ^ 63
abbrev pub IsNoPositive : List ℕ → Type 0
IsNoPositive text = (n : ℕ) → IsNumber text n → 1 ≤ n → n < 2 ^ 63 → ⊥

-- two digits in front, and the byte that they write
pub record IsHexPair (text : List ℕ) (byte : ℕ) : Type 0 where
  pub first : ℕ
  pub second : ℕ
  pub behind : List ℕ
  pub high : ℕ
  pub low : ℕ
  pub is : text ≡ first ∷ second ∷ behind
  pub high_is : IsHexDigit first high
  pub low_is : IsHexDigit second low
  pub byte_is : byte ≡ 16 * high + low

abbrev pub IsNoHexPair : List ℕ → Type 0
IsNoHexPair text = (byte : ℕ) → IsHexPair text byte → ⊥

-- SEL N
pub record IsLate (text : List ℕ) (which : Select) (rounds : ℕ) : Type 0 where
  pub select : List ℕ
  pub is : text ≡ select ++ (codes " " ++ decimal rounds)
  pub which_is : IsSelect select which
  pub from : 1 ≤ rounds
  pub to : rounds ≤ 1000

abbrev pub IsNoLate : List ℕ → Type 0
IsNoLate text = (which : Select) (rounds : ℕ) → IsLate text which rounds → ⊥

-- ROUND SIDE, and what stands behind them
pub record IsForge (text : List ℕ) (round : ℕ) (side : Side) (hex : List ℕ) : Type 0 where
  pub is : text ≡ decimal round ++ (codes " " ++ (side_word side ++ (codes " " ++ hex)))
  pub from : 1 ≤ round
  pub to : round < 2 ^ 63

abbrev pub IsNoForge : List ℕ → Type 0
IsNoForge text = (round : ℕ) (side : Side) (hex : List ℕ) → IsForge text round side hex → ⊥
