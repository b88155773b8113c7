-- Texts that are no request's line and no field's.
use Rattle.std.proofs.Common.{◌≡◌, ◌≢◌, ℕ, List, [], ◌∷◌, length, Bool, IsTrue, IsFalse, sym, ap, ◌∙◌, arith}
use Rattle.std.proofs.lemmas.Bool.{both_ways}
use Rattle.std.specs.List.{AllByRecursion}
use Rattle.std.proofs.lemmas.List.Elements.{recursion_from_All}
use Rattle.http_header.specs.Token.{IsToken, is_token_byte}
use Rattle.http_header.specs.FieldName.{IsFieldName}
use Rattle.http_header.specs.FieldValue.{IsFieldValue}
use Rattle.qh_spec.specs.ScriptLine.{IsNamedValue}
use Rattle.qh_grammar.specs.Uri.{IsUri}
use Rattle.qh_script.specs.Line.{HasNoSpace, SplitsFirst}
use Rattle.qh_script.proofs.Arguments.{IsAsked}
use Rattle.qh_script.proofs.Spaces.{no_space_within, first_same}

token_byte : (b : ℕ) → IsTrue (is_token_byte b) → b ≢ 32
unfolding is_token_byte
token_byte b h e = let f : IsTrue (is_token_byte 32) = rw e at h in cc

token_bytes : (text : List ℕ) → AllByRecursion (λ b. IsTrue (is_token_byte b)) text → HasNoSpace text
token_bytes [] h = tt
token_bytes (b ∷ bs) h = (token_byte b h.0, token_bytes bs h.1)

pub token_no_space : (text : List ℕ) → IsToken text → HasNoSpace text
token_no_space text h = token_bytes text (recursion_from_All (λ b. IsTrue (is_token_byte b)) text h.1)

-- a test that isn't true
pub refused : {b : Bool} → IsTrue b → IsFalse b → ⊥
refused {b} t f = both_ways b f t

pub no_asked : (text : List ℕ) → HasNoSpace text → IsAsked text → ⊥
no_asked text h a = no_space_within a.method a.uri (rw (a.is) at h)

asked_split : (text front back : List ℕ) → SplitsFirst text front back → (a : IsAsked text) → (front ≡ a.method) × (back ≡ a.uri)
asked_split text front back s a = first_same front back a.method a.uri s.1 (token_no_space a.method a.method_is) (sym s.0 ∙ a.is)

pub no_method : (text front back : List ℕ) → SplitsFirst text front back → (IsToken front → ⊥) → IsAsked text → ⊥
no_method text front back s x a = x (rw ((asked_split text front back s a).0) (a.method_is))

pub no_uri : (text front back : List ℕ) → SplitsFirst text front back → (IsUri back → ⊥) → IsAsked text → ⊥
no_uri text front back s x a =
    x (a.target.scheme, a.target.authority, a.target.path_and_query, rw ((asked_split text front back s a).1) (a.uri_is))

pub no_named : (text : List ℕ) → HasNoSpace text → (name value : List ℕ) → IsNamedValue text name value → ⊥
no_named text h name value n = no_space_within name value (rw (n.is) at h)

named_split : (text front back : List ℕ) → SplitsFirst text front back → (name value : List ℕ) → IsNamedValue text name value → (front ≡ name) × (back ≡ value)
named_split text front back s name value n = first_same front back name value s.1 (token_no_space name n.name_is.0) (sym s.0 ∙ n.is)

pub no_named_empty : (text front back : List ℕ) → SplitsFirst text front back → length back ≡ 0 → (name value : List ℕ) → IsNamedValue text name value → ⊥
no_named_empty text front back s e name value n = omega (arith, ap length (named_split text front back s name value n).1, n.some, e)

pub no_name : (text front back : List ℕ) → SplitsFirst text front back → (IsFieldName front → ⊥) → (name value : List ℕ) → IsNamedValue text name value → ⊥
no_name text front back s x name value n = x (rw ((named_split text front back s name value n).0) (n.name_is))

pub no_value : (text front back : List ℕ) → SplitsFirst text front back → (IsFieldValue back → ⊥) → (name value : List ℕ) → IsNamedValue text name value → ⊥
no_value text front back s x name value n = x (rw ((named_split text front back s name value n).1) (n.value_is))
