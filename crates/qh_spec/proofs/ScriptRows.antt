-- Worked rows of scripts.
use Rattle.std.proofs.Common.{◌≡◌, ◌≢◌, ℕ, zero, suc, ◌<◌, true, List, [], ◌∷◌, ◌++◌, take, slice_index, codes, IsTrue, Some, None, inr, refl, sym, ap, ◌∙◌, subst, arith, rules}
use Rattle.std.specs.Fmt.{digits}
use Rattle.http_header.specs.Token.{is_token_byte, is_value_byte}
use Rattle.http_header.proofs.TokenLemmas.{AllPass-from_test}
use Rattle.http_uri.specs.ByteClasses.{is_authority_byte, is_scheme_byte, colon, left_bracket, right_bracket}
use Rattle.http_uri.specs.Grammar.{IsAuthority, MayFollow, IsUriText}
use Rattle.http_uri.proofs.PathLemmas.{IsPathAndQuery_slash}
use Rattle.qh_spec.specs.declared.script.Setting.TheVariants.{Cap, Step}
use Rattle.qh_spec.specs.Config.{default_config, Fits}
use Rattle.qh_spec.specs.MessageRows.{a_target, get_message}
use Rattle.qh_spec.specs.Script.{Script, empty_script, applied, set_number, IsTaken, IsScript, IsRefusedAt, at_line, unfit}
use Rattle.qh_spec.specs.ScriptLine.{Line, Request, Field, Set, RetryOn, IsLine, empty, worded, request, set, retry, field}
use Rattle.qh_spec.proofs.LineLaws.{is_solid, not_solid, line_one}

-- a text that isn't empty and has no space is no line
pub word_alone : (b : ℕ) (text : List ℕ) (l : Line) → is_solid (b ∷ text) ≡ true → IsLine (b ∷ text) l → ⊥
word_alone b text _ s (empty e) = absurd cc
word_alone b text l s (worded word behind _ is says) = not_solid word behind (subst (λ (z : List ℕ). is_solid z ≡ true) is s)

pub default_fits : Fits default_config
unfolding default_config
default_fits = record {
  sizes = search rules;
  ids = search rules;
  versions = record { known = search rules; offered = search rules };
  times = search rules;
  windows = search rules;
  attempts = search rules;
}

pub empty_is : IsScript [] empty_script
empty_is = record { short = omega arith; taken = refl; fits = default_fits }

abbrev with_retry : Script
with_retry = record empty_script { config = record default_config { retry = true } }

taken_retry : IsTaken (codes "retry on") empty_script with_retry
taken_retry = record { line = RetryOn; is = worded (codes "retry") (codes "on") RetryOn refl (retry refl refl); makes = refl }

taken_step : IsTaken (codes "step 20") with_retry (set_number Step 20 with_retry)
unfolding digits
taken_step = record { line = Set Step 20; is = worded (codes "step") (codes "20") (Set Step 20) refl (set Step 20 refl refl (omega arith)); makes = refl }

pub third_refused : IsRefusedAt (codes "retry on" ++ 10 ∷ codes "step 20" ++ 10 ∷ codes "field") 3
third_refused =
    at_line (codes "retry on" ∷ codes "step 20" ∷ []) (codes "field") [] (set_number Step 20 with_retry) (omega arith) refl
    (with_retry, taken_retry, (set_number Step 20 with_retry, taken_step, refl))
    (λ t taken. word_alone 102 (codes "ield") taken.line refl taken.is)

pub cap_refused : IsRefusedAt (codes "cap 2097152") 2
unfolding digits default_config
cap_refused =
    unfit (set_number Cap 2097152 empty_script) (omega arith)
    (set_number Cap 2097152 empty_script, record { line = Set Cap 2097152; is = worded (codes "cap") (codes "2097152") (Set Cap 2097152) refl (set Cap 2097152 refl refl (omega arith)); makes = refl }, refl)
    (λ fits. let few = fits.sizes.requests in omega arith)

-- a byte of an authority that is no mark of one
plain_follow : (front : List ℕ) (b : ℕ) → IsTrue (is_authority_byte b) → b ≢ colon → b ≢ left_bracket → b ≢ right_bracket → MayFollow front b
plain_follow front b byte c l r = record { byte = byte; colons = λ e. absurd (c e); opening = λ e. absurd (l e); closing = λ e. absurd (r e) }

follows : (i : ℕ) → i < 6 → MayFollow (take i (codes "a.test")) (slice_index (codes "a.test") i)
follows zero lt = plain_follow _ _ refl (omega arith) (omega arith) (omega arith)
follows (suc zero) lt = plain_follow _ _ refl (omega arith) (omega arith) (omega arith)
follows (suc (suc zero)) lt = plain_follow _ _ refl (omega arith) (omega arith) (omega arith)
follows (suc (suc (suc zero))) lt = plain_follow _ _ refl (omega arith) (omega arith) (omega arith)
follows (suc (suc (suc (suc zero)))) lt = plain_follow _ _ refl (omega arith) (omega arith) (omega arith)
follows (suc (suc (suc (suc (suc zero))))) lt = plain_follow _ _ refl (omega arith) (omega arith) (omega arith)
follows (suc (suc (suc (suc (suc (suc i)))))) lt = absurd (omega arith)

authority_is : IsAuthority (codes "a.test")
authority_is = record {
  nonempty = omega arith;
  bytes = follows;
  closed = refl;
  one_colon = omega arith;
  no_percent = refl;
  has_host = λ e. absurd (omega arith);
}

target_is : IsUriText (codes "https://a.test/") a_target.scheme a_target.authority a_target.path_and_query
target_is = (
  omega arith,
  record {
    name = codes "https";
    tail = codes "/";
    spelled = refl;
    is_scheme = (AllPass-from_test is_scheme_byte (codes "https") refl, omega arith);
    normal = refl;
    is_authority = authority_is;
    is_tail = inr (refl, record { start = inr refl; short = omega arith; kept = IsPathAndQuery_slash }, refl);
  },
)

abbrev pub with_get : Script
with_get = record empty_script { requests = get_message ∷ [] }

pub get_line : IsLine (codes "request GET https://a.test/") (Request (codes "GET") a_target)
unfolding is_token_byte
get_line =
    worded (codes "request") (codes "GET https://a.test/") (Request (codes "GET") a_target) refl
    (request (codes "GET") (codes "https://a.test/") a_target refl refl (omega arith, AllPass-from_test is_token_byte (codes "GET") refl) target_is)

pub taken_get : IsTaken (codes "request GET https://a.test/") empty_script with_get
taken_get = record { line = Request (codes "GET") a_target; is = get_line; makes = refl }

pub get_is : IsScript (codes "request GET https://a.test/") with_get
get_is = record { short = omega arith; taken = (with_get, taken_get, refl); fits = default_fits }

field_line : IsLine (codes "field a b") (Field (codes "a") (codes "b"))
unfolding is_token_byte
field_line =
    worded (codes "field") (codes "a b") (Field (codes "a") (codes "b")) refl
    (field (codes "a") (codes "b") refl (record {
      is = refl;
      name_is = ((omega arith, AllPass-from_test is_token_byte (codes "a") refl), omega arith);
      value_is = AllPass-from_test is_value_byte (codes "b") refl;
      some = omega arith;
    }))

-- a field before the first request
pub field_refused : IsRefusedAt (codes "field a b" ++ 10 ∷ codes "request GET https://a.test/") 1
field_refused =
    at_line [] (codes "field a b") (codes "request GET https://a.test/" ∷ []) empty_script (omega arith) refl refl
    (λ t taken.
    let same = line_one (codes "field a b") taken.line (Field (codes "a") (codes "b")) taken.is field_line in
    let none : None ≡ Some t = ap (λ (l : Line). applied l empty_script) (sym same) ∙ taken.makes in
    absurd cc)
