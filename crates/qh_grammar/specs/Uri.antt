-- The texts of URIs, whatever their parts are.
use Rattle.std.specs.Prelude.{ℕ, List, Option}
use Rattle.http_uri.specs.Grammar.{IsAbsoluteForm, IsTail, IsUriText}

-- the text is a URI: it has some parts
abbrev pub IsUri : List ℕ → Type 0
IsUri text = (scheme : Option (List ℕ)) × (authority : Option (List ℕ)) × (kept : List ℕ) × IsUriText text scheme authority kept

-- the text is an absolute URI
abbrev pub IsAbsolute : List ℕ → Type 0
IsAbsolute text = (scheme : List ℕ) × (authority : List ℕ) × (kept : List ℕ) × IsAbsoluteForm text scheme authority kept

-- the text may follow the authority of an absolute URI
abbrev pub IsSomeTail : List ℕ → Type 0
IsSomeTail text = (kept : List ℕ) × IsTail text kept
